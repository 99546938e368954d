-- A table of role sets in a list of bytes, and the same table by itself. Assumes nothing.
use Rattle.std.proofs.Common.{ℕ, ◌+◌, ◌*◌, ◌-◌, ◌≤◌, ◌<◌, ◌≡◌, ◌∙◌, List, ◌++◌, take, drop, length, get_or, length-drop, arith}
use Rattle.std.proofs.lemmas.List.{get_or-take, get_or-drop, get_or_append_left, get_or-append-add, length-take}
use Rattle.std.proofs.Math.Seq.{get_or-append_right}
use borrow.Rule.Slice.PartMut.{mid_of, put_mid}
use native.Mathlib.Decide.{dec_lt}
use Rattle.search.specs.Search.{Among}
use Rattle.roleset.proofs.Rows.{same_bytes}
use Rattle.order.specs.Closure.{Relation, Agree}
use Rattle.order.specs.Table.{Rows, related, Tabled}
pub use Rattle.order.specs.inner.Placing.{row_tested, no_table, placing_none, closing_none, placing_pass, placing_more, placing_left, with_itself_row, round_rows, closing_more}

-- a part of k bytes, from `at` on
module _ (at k : ℕ) (xs : List ℕ) (inside : at + k ≤ length xs) where
  part_long : length (mid_of at k xs) ≡ k
  part_long = omega (arith, length-take k (drop at xs), length-drop at xs)

  part_byte : (j : ℕ) → j < k → get_or (mid_of at k xs) j 0 ≡ get_or xs (at + j) 0
  part_byte j l = get_or-take k (drop at xs) j 0 l ∙ get_or-drop at xs j 0

  -- and where the part is written
  module _ (new : List ℕ) (long : length new ≡ length (mid_of at k xs)) where
    front : length (take at xs) ≡ at
    front = omega (arith, length-take at xs)

    after : (j : ℕ) → get_or (put_mid at k xs new) (at + j) 0 ≡ get_or (new ++ drop k (drop at xs)) j 0
    after j = rw front at (get_or-append-add (take at xs) (new ++ drop k (drop at xs)) j 0)

    byte_before : (i : ℕ) → i < at → get_or (put_mid at k xs new) i 0 ≡ get_or xs i 0
    byte_before i l = let f = front in get_or_append_left (take at xs) (new ++ drop k (drop at xs)) 0 i (omega arith) ∙ get_or-take at xs i 0 l

    new_byte : (j : ℕ) → j < k → get_or (put_mid at k xs new) (at + j) 0 ≡ get_or new j 0
    new_byte j l = let same = part_long in after j ∙ get_or_append_left new (drop k (drop at xs)) 0 j (omega arith)

    old_byte : (j : ℕ) → k ≤ j → get_or (put_mid at k xs new) (at + j) 0 ≡ get_or xs (at + j) 0
    old_byte j l =
        let place : k + (j - k) ≡ j = omega arith in
        let same : length new ≡ k = long ∙ part_long in
        after j ∙ get_or-append_right new (drop k (drop at xs)) j 0 (omega arith)
        ∙ rw (same, get_or-drop k (drop at xs) (j - k) 0, place) (get_or-drop at xs j 0)

-- the table at `at` is the part of k bytes there
module _ (at k : ℕ) (xs : List ℕ) (fits : at + 2048 ≤ length xs) (size : k ≡ 2048) where
  inside : at + k ≤ length xs
  inside = omega arith

  pub part_size : length (mid_of at k xs) ≡ 2048
  part_size = part_long at k xs inside ∙ size

  pub part_related : Agree 128 128 (related (mid_of at k xs) 0) (related xs at)
  part_related a b v w = same_bytes xs (mid_of at k xs) (at + 16 * (a - 1)) (0 + 16 * (a - 1)) (λ j l.
      let place : at + 16 * (a - 1) + j ≡ at + (0 + 16 * (a - 1) + j) = omega arith in
      rw place (part_byte at k xs inside (0 + 16 * (a - 1) + j) (omega arith))) b

  -- and where the part is written so is that table
  pub tabled_from : (n : ℕ) (h g : Relation) (new : List ℕ) → n ≤ 128 → length new ≡ length (mid_of at k xs) → Tabled 0 n h (mid_of at k xs) new
      → Agree n 128 h g → Tabled at n g xs (put_mid at k xs new)
  tabled_from n h g new few long t same = record {
    rows = λ f. record {
      done = λ a b v w. read a b (omega arith) ∙ rows.done a b v w ∙ same a b v w;
      left = λ a b v u w. read a b (omega arith) ∙ rows.left a b v u w ∙ part_related a b (omega arith) w;
    };
    rest = λ i o. elim (dec_lt i at) [
      | yes m ↦ byte_before at k xs inside new long i m
      | no m ↦
          let place : at + (i - at) ≡ i = omega arith in
          let here : get_or (put_mid at k xs new) (at + (i - at)) 0 ≡ get_or xs (at + (i - at)) 0 = elim (dec_lt (i - at) k) [
            | yes l ↦
                new_byte at k xs inside new long (i - at) l ∙ t.rest (i - at) (λ z. omega (arith, o (omega arith)))
                ∙ part_byte at k xs inside (i - at) l
            | no l ↦ old_byte at k xs inside new long (i - at) (omega arith)
          ] in
          rw place at here
    ];
    none = λ l. absurd (omega arith);
  }
    where
      rows : Rows 128 n h (related (mid_of at k xs) 0) (related new 0)
      rows = t.rows (let same = part_long at k xs inside in omega arith)

      read : (a b : ℕ) → Among 128 a → related (put_mid at k xs new) at a b ≡ related new 0 a b
      read a b v = same_bytes new (put_mid at k xs new) (0 + 16 * (a - 1)) (at + 16 * (a - 1)) (λ j l.
          let place : at + 16 * (a - 1) + j ≡ at + (0 + 16 * (a - 1) + j) = omega arith in
          rw place (new_byte at k xs inside new long (0 + 16 * (a - 1) + j) (omega arith))) b
