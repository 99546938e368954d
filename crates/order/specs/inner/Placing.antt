-- A table of role sets in a list of bytes, changed row by row from the front: what a turn does, and what the table is at the end. Assumes nothing.
use Prim.Native.Nat.{ℕ, ◌+◌, ◌*◌, ◌-◌, ◌≤◌, ◌<◌}
use mathlib.Core.Path.{◌≡◌, refl, ◌∙◌}
use mathlib.Core.Logic.{inr}
use mathlib.Core.Bool.{Bool, false, ◌&&◌, or_comm}
use mathlib.Core.List.{List}
use native.Mathlib.Nat.{add-sub_cancel}
use native.Mathlib.Omega.{arith}
use native.Mathlib.Decide.{dec_lt}
use lib.ListN.{length}
use lib.Dec.{eqb, leb}
use borrow.Author.Tests.{le-leb}
use Rattle.search.specs.Search.{Among}
use Rattle.search.proofs.Truth.{among_iff, both, eqb_swap}
use Rattle.roleset.specs.Row.{whole, member, added, united_where, RowCopy, Placed, PlacedRows}
use Rattle.roleset.proofs.Rows.{row_kept, other_kept, kept_wider, kept_both, row_copy, whole_true}
use Rattle.order.specs.Closure.{Relation, round, with_itself}
use Rattle.order.specs.Table.{Rows, related, Tabled}
use Rattle.order.specs.inner.Tables.{BecomesRoles, LinksRoles}
use Rattle.order.specs.inner.Rounds.{rows_none, rows_more, rounds_none, rounds_more}
use Rattle.order.specs.inner.Rounds.{RowSet}

-- the row of thing i + 1 of the table at `at`, as it is tested
pub row_tested : (xs : List ℕ) (at i r : ℕ) (b : Bool) → at + 16 * i + 16 ≤ length xs
    → b ≡ (whole xs (at + 16 * i) && member xs (at + 16 * i) r) → b ≡ related xs at (i + 1) r
row_tested xs at i r b l e = rw (add-sub_cancel i 1) (e ∙ rw (whole_true xs (at + 16 * i) l))

-- nothing is written
table_unwritten : {at n : ℕ} {h : Relation} {xs : List ℕ} → (at + 2048 ≤ length xs → Rows 128 n h (related xs at) (related xs at)) → Tabled at n h xs xs
table_unwritten h = record { rows = h; rest = λ i o. refl; none = λ l. refl }

pub no_table : {at n : ℕ} {h : Relation} {xs : List ℕ} → leb (at + 2048) (length xs) ≡ false → Tabled at n h xs xs
no_table e = table_unwritten (λ l. absurd (both (le-leb _ _ l) e))

pub placing_none : {at : ℕ} {h : Relation} {xs : List ℕ} → Tabled at 0 h xs xs
placing_none = table_unwritten (λ l. rows_none _ _ _)

pub closing_none : {at n : ℕ} {xs : List ℕ} → Tabled at n (related xs at) xs xs
closing_none = table_unwritten (λ l. rounds_none _ _ _)

-- rows that are as h says already need no turn
pub placing_pass : (at : ℕ) (h : Relation) (xs : List ℕ) (i j : ℕ) (ys : List ℕ) → i ≤ j → j ≤ 128 → Tabled at i h xs ys
    → ((a b : ℕ) → i < a → a ≤ j → Among 128 b → related xs at a b ≡ h a b) → Tabled at j h xs ys
placing_pass at h xs i j ys l m t same = record {
  rows = λ f. record {
    done = λ a b v w. elim (dec_lt i a) [
      | yes k ↦ (t.rows f).left a b k (omega arith) w ∙ same a b k (omega arith) w
      | no k ↦ (t.rows f).done a b (omega arith) w
    ];
    left = λ a b v u w. (t.rows f).left a b (omega arith) u w;
  };
  rest = kept_wider xs ys (omega arith) t.rest;
  none = t.none;
}

module _ (at : ℕ) (h : Relation) (xs : List ℕ) (fits : at + 2048 ≤ length xs) where
  -- the row of thing i + 1 is placed
  pub placing_more : (i : ℕ) (s : ℕ → Bool) (ys zs : List ℕ) → i < 128 → length ys ≡ length xs → Tabled at i h xs ys → Placed (at + 16 * i) s ys zs
      → ((b : ℕ) → Among 128 b → s b ≡ h (i + 1) b) → Tabled at (i + 1) h xs zs
  placing_more i s ys zs l long t p new = record {
    rows = λ m. rows_more 128 h (related xs at) i (related ys at) (related zs at) l (t.rows m) row;
    rest = kept_both xs ys zs (omega arith) t.rest p.rest;
    none = λ m. absurd (omega arith);
  }
    where
      row : RowSet 128 (i + 1) h (related ys at) (related zs at)
      row = record {
        own = λ b w. rw (add-sub_cancel i 1) (p.row (omega arith) b ∙ new b w);
        others = λ a b v ne w. other_kept at (i + 1) ys zs (rw (add-sub_cancel i 1) p.rest) (omega arith) a b v.0 ne;
      }

  -- a row that has had no turn yet
  pub placing_left : (i b : ℕ) (ys : List ℕ) → i < 128 → Among 128 b → Tabled at i h xs ys → member ys (at + 16 * i) b ≡ member xs (at + 16 * i) b
  placing_left i b ys l w t = rw (add-sub_cancel i 1) at ((t.rows fits).left (i + 1) b (omega arith) (omega arith) w)

module _ (at : ℕ) (xs : List ℕ) (fits : at + 2048 ≤ length xs) where
  abbrev e : Relation
  e = related xs at

  -- a thing put into its own row
  pub with_itself_row : (i b : ℕ) (ys : List ℕ) → i < 128 → Among 128 b → Tabled at i (with_itself e) xs ys
      → added ys (at + 16 * i) (i + 1) b ≡ with_itself e (i + 1) b
  with_itself_row i b ys l w t =
      rw (placing_left at (with_itself e) xs fits i b ys l w t, (among_iff 128 (i + 1)).1 (omega arith), eqb_swap b (i + 1), add-sub_cancel i 1)
      (or_comm (member xs (at + 16 * i) b) (eqb (i + 1) b))

  -- what a round of closing makes of the table, given the row `other` of thing k + 1
  pub round_rows : (n k : ℕ) (ys other : List ℕ) → k < n → n ≤ 128 → RowCopy xs (at + 16 * k) other
      → PlacedRows at n (λ i. united_where xs (at + 16 * i) (k + 1) other) xs ys → Tabled at n (round e (k + 1)) xs ys
  round_rows n k ys other l m o p = record {
    rows = λ f. record {
      done = λ a b v w. p.rows (omega arith) (a - 1) (omega arith) b ∙ rw (row_copy xs other (at + 16 * k) (omega arith) o b, add-sub_cancel k 1);
      left = λ a b v u w. row_kept xs ys p.rest (at + 16 * (a - 1)) b (inr (omega arith));
    };
    rest = p.rest;
    none = λ f. absurd (omega arith);
  }

  pub closing_more : (n k : ℕ) (h : Relation) (ys zs : List ℕ) → k < n → n ≤ 128 → length ys ≡ length xs
      → Tabled at n h xs ys → Tabled at n (round (related ys at) (k + 1)) ys zs → Tabled at n (round h (k + 1)) xs zs
  closing_more n k h ys zs l m long t u = record {
    rows = λ f. rounds_more 128 n e k h (related ys at) (related zs at) l m (t.rows f) (u.rows (omega arith));
    rest = kept_both xs ys zs (omega arith) t.rest u.rest;
    none = λ f. absurd (omega arith);
  }

-- ---- the laws of a table of 2,048 bytes

pub roles_before : (n : ℕ) (xs : List ℕ) → BecomesRoles n (related xs 0) xs xs
roles_before n xs l = (l, closing_none)

pub roles_round : (n k : ℕ) (h : Relation) (xs ys zs : List ℕ) → k < n → n ≤ 128 → BecomesRoles n h xs ys
    → BecomesRoles n (round (related ys 0) (k + 1)) ys zs → BecomesRoles n (round h (k + 1)) xs zs
roles_round n k h xs ys zs l m p q long =
    let (a, rows) = p long in
    let (b, more) = q a in
    (b, closing_more 0 xs (omega arith) n k h ys zs l m (omega arith) rows more)

pub roles_unlinked : (xs : List ℕ) → BecomesRoles 0 (with_itself (related xs 0)) xs xs
roles_unlinked xs l = (l, placing_none)

pub roles_link : (i : ℕ) (xs ys zs : List ℕ) → i < 128 → BecomesRoles i (with_itself (related xs 0)) xs ys → LinksRoles i ys zs
    → BecomesRoles (i + 1) (with_itself (related xs 0)) xs zs
roles_link i xs ys zs l p q long =
    let (a, rows) = p long in
    let (b, row) = q a in
    let fits : 0 + 2048 ≤ length xs = omega arith in
    (b, placing_more 0 (with_itself (related xs 0)) xs fits i (added ys (0 + 16 * i) (i + 1)) ys zs l (omega arith) rows row (λ c w. with_itself_row 0 xs fits i c ys l w rows))
