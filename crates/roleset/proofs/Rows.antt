-- Rows as sets: what a row holds after its bytes are changed, and that `Placed` settles every byte and leaves the other rows alone.
-- Assumes nothing.
use Rattle.std.proofs.Common.{ℕ, ◌+◌, ◌-◌, ◌*◌, ◌%◌, ◌^◌, ◌≤◌, ◌<◌, ◌≡◌, refl, sym, ap, ◌∙◌, ◌⊎◌, inl, inr, Bool, true, false, ◌&&◌, cond, List, ◌++◌, take, drop, length, get_or, set, replicate, eqb, bit_or, bit_xor, zero-add, length-drop, arith}
use Rattle.std.proofs.lemmas.List.{get_or-take, get_or-drop, get_or_append_left, get_or-append-add, length-take}
use Rattle.std.proofs.Math.Seq.{get_or-append_right, get_or-set_same, get_or-set_other, ext_get_or}
use mathlib.Core.Logic.{⊎_elim}
use mathlib.Core.Bool.{or-true, or-false, and-true, and-false}
use native.Mathlib.Decide.{dec_le, dec_lt, ℕ_discrete}
use lib.ListN.{length-set, get_or-replicate}
use borrow.Author.Count.{below_more}
use borrow.Rule.Slice.PartMut.{mid_of, put_mid}
use borrow.Author.Tests.{le-leb, eq-eqb, ne_eqb}
use Rattle.std.specs.Array.{IsFirstChunk}
use Rattle.search.specs.Search.{among, Among}
use Rattle.search.proofs.Truth.{and-iff, and_when, among_iff}
use Rattle.roleset.specs.Row.{AllBytes, bit, row_of, role_byte, role_bit, whole, member, added, removed, united_where, RowCopy, Kept, Placed, PlacedRows}
use Rattle.roleset.proofs.Bits.{bit_zero, bit_on, bit_off, same_bits}

pub whole_true : (xs : List ℕ) (at : ℕ) → at + 16 ≤ length xs → whole xs at ≡ true
whole_true xs at = le-leb (at + 16) (length xs)

-- a copy of a row that lies in xs
pub row_copy : (xs row : List ℕ) (at : ℕ) → at + 16 ≤ length xs → RowCopy xs at row → (r : ℕ) → member row 0 r ≡ member xs at r
row_copy xs row at l c r = c r ∙ rw (whole_true xs at l)

module _ (xs : List ℕ) (at : ℕ) where
  pub member_role : (r : ℕ) → member xs at r ≡ true → Among 128 r
  unfolding member
  member_role r e = (among_iff 128 r).0 ((and-iff (among 128 r) _).0 e).0

  -- a row whose bytes are known
  member_of : (f : ℕ → ℕ) → ((k : ℕ) → k < 16 → get_or xs (at + k) 0 ≡ f k)
      → (r : ℕ) → member xs at r ≡ (among 128 r && bit (f (role_byte r)) (role_bit r))
  unfolding member
  member_of f h r =
      and_when (among 128 r) (λ e. let w = (among_iff 128 r).0 e in ap (λ (x : ℕ). bit x (role_bit r)) (h (role_byte r) (omega arith)))

  -- the other way round: a row's bits are its members
  pub bit_member : (k j : ℕ) → k < 16 → j < 8 → bit (get_or xs (at + k) 0) j ≡ member xs at (8 * k + j + 1)
  unfolding member
  bit_member k j l m =
      let byte : role_byte (8 * k + j + 1) ≡ k = omega arith in
      let place : role_bit (8 * k + j + 1) ≡ j = omega arith in
      rw ((among_iff 128 (8 * k + j + 1)).1 (omega arith), byte, place)

  -- a row whose bytes are 0 is empty
  pub zero_row : ((k : ℕ) → k < 16 → get_or xs (at + k) 0 ≡ 0) → (r : ℕ) → member xs at r ≡ false
  zero_row h r = member_of (λ k. 0) h r ∙ rw (bit_zero (role_bit r)) (and-false (among 128 r))

pub zero_rows : (n at r : ℕ) → at + 16 ≤ n → member (replicate n 0) at r ≡ false
zero_rows n at r l = zero_row (replicate n 0) at (λ k m. get_or-replicate n (at + k) 0 0 (omega arith)) r

-- two rows of the same bytes hold the same roles
pub same_bytes : (xs ys : List ℕ) (a b : ℕ) → ((k : ℕ) → k < 16 → get_or ys (b + k) 0 ≡ get_or xs (a + k) 0)
    → (r : ℕ) → member ys b r ≡ member xs a r
unfolding member
same_bytes xs ys a b = member_of ys b (λ k. get_or xs (a + k) 0)

-- and two rows that hold the same roles are of the same bytes
pub same_row : (xs ys : List ℕ) (a b : ℕ) → AllBytes xs → AllBytes ys
    → ((r : ℕ) → Among 128 r → member ys b r ≡ member xs a r) → (k : ℕ) → k < 16 → get_or ys (b + k) 0 ≡ get_or xs (a + k) 0
same_row xs ys a b xs-bytes ys-bytes h k l =
    same_bits 8 _ _ (ys-bytes (b + k)) (xs-bytes (a + k))
    (λ j m. bit_member ys b k j l m ∙ h (8 * k + j + 1) (omega arith) ∙ sym (bit_member xs a k j l m))

-- a row apart from the bytes that have changed
pub row_kept : {a b : ℕ} (xs ys : List ℕ) → Kept a b xs ys → (at r : ℕ) → (at + 16 ≤ a) ⊎ (b ≤ at) → member ys at r ≡ member xs at r
row_kept xs ys kept at r apart =
    same_bytes xs ys at at (λ k l. kept (at + k) (λ m. ⊎_elim (λ n. omega arith) (λ n. omega arith) apart)) r

-- so another row of a table whose row x has changed
pub other_kept : (at x : ℕ) (xs ys : List ℕ) → Kept (row_of at x) (row_of at x + 16) xs ys → 1 ≤ x → (y r : ℕ) → 1 ≤ y → (y ≡ x → ⊥)
    → member ys (row_of at y) r ≡ member xs (row_of at y) r
other_kept at x xs ys kept v y r w ne =
    row_kept xs ys kept (row_of at y) r (elim (dec_lt y x) [ yes l ↦ inl (omega arith) | no l ↦ inr (omega arith) ])

-- a byte is one of the row's 16 or outside it
inside_or : (at i : ℕ) → ((k : ℕ) × (k < 16) × (i ≡ at + k)) ⊎ (at ≤ i → at + 16 ≤ i)
inside_or at i = elim (dec_le at i) [
  | yes l ↦ elim (dec_lt i (at + 16)) [ yes m ↦ inl (i - at, omega arith, omega arith) | no m ↦ inr (λ n. omega arith) ]
  | no l ↦ inr (λ n. omega arith)
]

-- no two lists of bytes are `Placed` alike
module _ (at : ℕ) (s : ℕ → Bool) (xs ys zs : List ℕ) (p : Placed at s xs ys) (q : Placed at s xs zs)
    (ys-long : length ys ≡ length xs) (zs-long : length zs ≡ length xs)
    (ys-bytes : AllBytes ys) (zs-bytes : AllBytes zs) where
  row_byte : at + 16 ≤ length xs → (k : ℕ) → k < 16 → get_or ys (at + k) 0 ≡ get_or zs (at + k) 0
  row_byte fits = same_row zs ys at at zs-bytes ys-bytes (λ r w. p.row fits r ∙ sym (q.row fits r))

  other_byte : Kept at (at + 16) zs ys
  other_byte i o = p.rest i o ∙ sym (q.rest i o)

  pub placed_once : ys ≡ zs
  placed_once = elim (dec_le (at + 16) (length xs)) [
    | yes fits ↦
        ext_get_or 0 ys zs (ys-long ∙ sym zs-long)
        (λ i l. ⊎_elim (λ (k, m, e). rw e (row_byte fits k m)) (other_byte i) (inside_or at i))
    | no l ↦ p.none (omega arith) ∙ sym (q.none (omega arith))
  ]

-- nothing is written
pub unwritten : {at : ℕ} {s : ℕ → Bool} {xs : List ℕ} → (at + 16 ≤ length xs → (r : ℕ) → member xs at r ≡ s r) → Placed at s xs xs
unwritten h = record { row = h; rest = λ i o. refl; none = λ l. refl }

-- the same set by another name
pub placed_as : {at : ℕ} {s t : ℕ → Bool} {xs ys : List ℕ} → ((r : ℕ) → s r ≡ t r) → Placed at s xs ys → Placed at t xs ys
placed_as e p = record { row = λ l r. p.row l r ∙ e r; rest = p.rest; none = p.none }

-- ---- a row at the front

-- the bytes of a row by themselves
module _ (xs row : List ℕ) (h : IsFirstChunk xs row 16) where
  pub first_long : length row ≡ 16
  first_long = let e = h.enough in rw h.same (omega (arith, length-take 16 xs))

  pub first_roles : (r : ℕ) → member row 0 r ≡ member xs 0 r
  first_roles = same_bytes xs row 0 0 (λ k l. rw h.same (get_or-take 16 xs (0 + k) 0 (omega arith)))

-- the row is written, by itself, and stands before the bytes after it
pub placed_first : {s : ℕ → Bool} (xs row : List ℕ) → 16 ≤ length xs → length row ≡ 16 → ((r : ℕ) → member row 0 r ≡ s r)
    → Placed 0 s xs (row ++ drop 16 xs)
placed_first {s} xs row fits long h = record {
  row = λ l r. same_bytes row (row ++ drop 16 xs) 0 0 (λ k m. get_or_append_left row (drop 16 xs) 0 (0 + k) (omega arith)) r ∙ h r;
  rest = λ i o.
      let place : 16 + (i - 16) ≡ i = omega (arith, o (omega arith)) in
      get_or-append_right row (drop 16 xs) i 0 (omega arith)
      ∙ rw (long, get_or-drop 16 xs (i - 16) 0, place);
  none = λ l. absurd (omega arith);
}

-- the 16 bytes from `at` on are the row at `at`
module _ (at size : ℕ) (xs : List ℕ) (inside : at + 16 ≤ length xs) (sixteen : size ≡ 16) where
  pub part_long : length (mid_of at size xs) ≡ 16
  part_long = omega (arith, length-take size (drop at xs), length-drop at xs)

  pub front : (r : ℕ) → member (mid_of at size xs) 0 r ≡ member xs at r
  front = same_bytes xs (mid_of at size xs) at 0 (λ k l. get_or-take size (drop at xs) (0 + k) 0 (omega arith) ∙ rw zero-add (get_or-drop at xs k 0))

  pub where_front : (k : ℕ) (other : List ℕ) (r : ℕ) → united_where (mid_of at size xs) 0 k other r ≡ united_where xs at k other r
  where_front k other r = rw (front r, front k)

  -- and where they are written so is that row
  module _ (new : List ℕ) (long : length new ≡ length (mid_of at size xs)) where
    abbrev behind : List ℕ
    behind = drop size (drop at xs)

    after : (k : ℕ) → get_or (put_mid at size xs new) (at + k) 0 ≡ get_or (new ++ behind) k 0
    after k =
        let before : length (take at xs) ≡ at = omega (arith, length-take at xs) in
        rw before at (get_or-append-add (take at xs) (new ++ behind) k 0)

    kept : Kept at (at + 16) xs (put_mid at size xs new)
    kept i o =
        let all = part_long in
        elim (dec_lt i at) [
          | yes m ↦
              get_or_append_left (take at xs) (new ++ behind) 0 i (omega (arith, length-take at xs))
              ∙ get_or-take at xs i 0 m
          | no m ↦
              let l : at + 16 ≤ i = o (omega arith) in
              let place : at + (i - at) ≡ i = omega arith in
              let past : size + (i - at - length new) ≡ i - at = omega arith in
              rw place at (after (i - at))
              ∙ get_or-append_right new behind (i - at) 0 (omega arith)
              ∙ get_or-drop size (drop at xs) (i - at - length new) 0
              ∙ rw (past, get_or-drop at xs (i - at) 0, place)
        ]

    pub placed_from : {s t : ℕ → Bool} → Placed 0 t (mid_of at size xs) new → ((r : ℕ) → t r ≡ s r) → Placed at s xs (put_mid at size xs new)
    placed_from p same =
        let all = part_long in
        record {
          row = λ l r.
              same_bytes new (put_mid at size xs new) 0 at (λ k m. after k ∙ rw zero-add (get_or_append_left new behind 0 k (omega arith))) r
              ∙ p.row (omega arith) r ∙ same r;
          rest = kept;
          none = λ l. absurd (omega arith);
        }

-- ---- bytes kept

-- outside a part, by a change inside it
pub kept_wider : {a b c d : ℕ} (xs ys : List ℕ) → (a ≤ c) × (d ≤ b) → Kept c d xs ys → Kept a b xs ys
kept_wider xs ys w k i o = k i (λ n. omega (arith, o (omega arith)))

-- and by two
pub kept_both : {a b c d e g : ℕ} (xs ys zs : List ℕ) → (a ≤ c) × (d ≤ b) × (a ≤ e) × (g ≤ b) → Kept c d xs ys → Kept e g ys zs → Kept a b xs zs
kept_both xs ys zs w k h i o = kept_wider ys zs (omega arith) h i o ∙ kept_wider xs ys (omega arith) k i o

-- what stands outside a part is kept by a store in it
pub kept_more : (a b i v : ℕ) (xs ys : List ℕ) → a ≤ i → i < b → Kept a b xs ys → Kept a b xs (set ys i v)
kept_more a b i v xs ys l m k j o = get_or-set_other ys i j v 0 (λ e. omega (arith, o (omega arith))) ∙ k j o

-- ---- rows one after the other

-- none is written
pub rows_unwritten : {at n : ℕ} {s : ℕ → ℕ → Bool} {xs : List ℕ}
    → (at + 16 * n ≤ length xs → (i : ℕ) → i < n → (r : ℕ) → member xs (at + 16 * i) r ≡ s i r) → PlacedRows at n s xs xs
rows_unwritten h = record { rows = h; rest = λ i o. refl; none = λ l. refl }

-- the row after them is placed too
pub rows_more : {at i : ℕ} {s : ℕ → ℕ → Bool} {t : ℕ → Bool} {xs ys zs : List ℕ} → at + 16 * (i + 1) ≤ length xs → length ys ≡ length xs
    → PlacedRows at i s xs ys → Placed (at + 16 * i) t ys zs → ((r : ℕ) → t r ≡ s i r) → PlacedRows at (i + 1) s xs zs
rows_more {at} {i} {s} {t} {xs} {ys} {zs} fits long p q new = record {
  rows = λ l. below_more (λ k. (r : ℕ) → member zs (at + 16 * k) r ≡ s k r) i
      (λ k m r. row_kept ys zs q.rest (at + 16 * k) r (inl (omega arith)) ∙ p.rows (omega arith) k m r)
      (λ r. q.row (omega arith) r ∙ new r);
  rest = kept_both xs ys zs (omega arith) p.rest q.rest;
  none = λ l. absurd (omega arith);
}

-- one byte is written, in which the bit of one role becomes b
module _ (xs : List ℕ) (at role byte : ℕ) (b : Bool) (fits : at + 16 ≤ length xs) (w : Among 128 role)
    (new : (j : ℕ) → bit byte j ≡ cond (eqb j (role_bit role)) b (bit (get_or xs (at + role_byte role) 0) j)) where
  here : member (set xs (at + role_byte role) byte) at role ≡ b
  unfolding member
  here =
      rw ((among_iff 128 role).1 w, get_or-set_same xs (at + role_byte role) byte 0 (omega arith))
      (new (role_bit role) ∙ rw (eq-eqb (role_bit role) (role_bit role) refl))

  there : (r : ℕ) → (r ≡ role → ⊥) → member (set xs (at + role_byte role) byte) at r ≡ member xs at r
  unfolding member
  there r other = and_when (among 128 r) (λ e. let v = (among_iff 128 r).0 e in elim (ℕ_discrete (role_byte r) (role_byte role)) [
    | yes i ↦
        rw (i, get_or-set_same xs (at + role_byte role) byte 0 (omega arith))
        (new (role_bit r) ∙ rw (ne_eqb (role_bit r) (role_bit role) (λ j. other (omega arith))))
    | no i ↦ rw (get_or-set_other xs (at + role_byte role) (at + role_byte r) byte 0 (λ j. i (omega arith)))
  ])

  one_written : {s : ℕ → Bool} → b ≡ s role → ((r : ℕ) → (r ≡ role → ⊥) → member xs at r ≡ s r)
      → Placed at s xs (set xs (at + role_byte role) byte)
  one_written e h = record {
    row = λ l r. elim (ℕ_discrete r role) [ yes i ↦ rw i (here ∙ e) | no i ↦ there r i ∙ h r i ];
    rest = kept_more at (at + 16) (at + role_byte role) byte xs xs (omega arith) (omega arith) (λ i o. refl);
    none = λ l. absurd (omega arith);
  }

-- one role more, by setting its bit, and one less, by flipping it where it is set
module _ (xs : List ℕ) (at r : ℕ) (fits : at + 16 ≤ length xs) (w : Among 128 r) where
  abbrev byte : ℕ
  byte = get_or xs (at + role_byte r) 0

  pub added_placed : Placed at (added xs at r) xs (set xs (at + role_byte r) (bit_or byte (1 * 2 ^ role_bit r % 256)))
  added_placed =
      one_written xs at r _ true fits w (bit_on byte (role_bit r) (omega arith))
      (rw ((among_iff 128 r).1 w, eq-eqb r r refl) (sym (or-true (member xs at r))))
      (λ q n. rw ((among_iff 128 r).1 w, ne_eqb q r n) (sym (or-false _)))

  pub removed_placed : member xs at r ≡ true → Placed at (removed xs at r) xs (set xs (at + role_byte r) (bit_xor byte (1 * 2 ^ role_bit r % 256)))
  unfolding member
  removed_placed h =
      one_written xs at r _ false fits w (bit_off byte (role_bit r) (omega arith) ((and-iff (among 128 r) (bit byte (role_bit r))).0 h).1)
      (rw (eq-eqb r r refl) (sym (and-false (member xs at r))))
      (λ q n. rw (ne_eqb q r n) (sym (and-true _)))

-- without a role that the row does not hold, the set is as it was
pub none_less : (xs : List ℕ) (at r : ℕ) → member xs at r ≡ false → (q : ℕ) → member xs at q ≡ removed xs at r q
none_less xs at r h q = elim (ℕ_discrete q r) [ yes e ↦ rw (e, h) | no n ↦ rw (ne_eqb q r n) (sym (and-true _)) ]

-- the bytes are written one by one: i of them are done, and are now f's
pub record Written (at i : ℕ) (f : ℕ → ℕ) (xs ys : List ℕ) : Type 0 where
  pub long : length ys ≡ length xs
  pub done : (k : ℕ) → k < i → get_or ys (at + k) 0 ≡ f k
  pub rest : Kept at (at + i) xs ys

module _ {at : ℕ} {f : ℕ → ℕ} {xs : List ℕ} where
  pub write_none : Written at 0 f xs xs
  write_none = record { long = refl; done = λ k l. absurd (omega arith); rest = λ k o. refl }

  pub write_more : {i byte : ℕ} {ys : List ℕ} → Written at i f xs ys → at + i < length xs → byte ≡ f i
      → Written at (i + 1) f xs (set ys (at + i) byte)
  write_more {i} {byte} {ys} w l e = record {
    long = length-set ys (at + i) byte ∙ w.long;
    done =
        below_more _ i
        (λ k m. get_or-set_other ys (at + i) (at + k) byte 0 (λ j. omega arith) ∙ w.done k m)
        (get_or-set_same ys (at + i) byte 0 (omega arith) ∙ e);
    rest = kept_more at (at + (i + 1)) (at + i) byte xs ys (omega arith) (omega arith) (kept_wider xs ys (omega arith) w.rest);
  }

  pub write_all : {s : ℕ → Bool} {i : ℕ} {ys : List ℕ} → Written at i f xs ys → i ≡ 16 → at + 16 ≤ length xs
      → ((r : ℕ) → (among 128 r && bit (f (role_byte r)) (role_bit r)) ≡ s r) → Placed at s xs ys
  write_all {s} {i} {ys} w l fits h = record {
    row = λ m r. member_of ys at f (λ k n. w.done k (omega arith)) r ∙ h r;
    rest = kept_wider xs ys (omega arith) w.rest;
    none = λ m. absurd (omega arith);
  }
