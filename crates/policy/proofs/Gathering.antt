-- The roles that may read, and those that may write, a card of a label, gathered card by card; and both levels of a role, put in one after the other. Assumes nothing.
use Rattle.std.proofs.Common.{ℕ, zero, suc, ◌+◌, ◌-◌, ◌*◌, ◌≤◌, ◌<◌, Some, None, ◌≡◌, refl, sym, ◌∙◌, Bool, true, false, ◌||◌, List, add-sub_cancel, zero-add, arith, length, get_or, set, replicate, length-set, get_or-set_same, get_or-set_other, ne_eqb}
use mathlib.Core.Bool.{or-false}
use Rattle.search.specs.Search.{Among, some, thing}
use Rattle.search.proofs.Thing.{thing_none, thing_some}
use Rattle.search.proofs.Found.{some_more, some_yet, some_agree, among_next}
use Rattle.roleset.specs.Row.{row_of, member, united, RowCopy, Placed}
use Rattle.roleset.proofs.Rows.{row_copy, zero_rows}
use Rattle.order.specs.Closure.{Relation, Agree}
use Rattle.order.specs.Bound.{lub}
use Rattle.order.specs.Table.{related}
use Rattle.order.proofs.Bound.{lub_agree}
use Rattle.policy.specs.Policy.{Free, Label, Undefined, level_at, level}
use Rattle.policy.specs.Tables.{byte_of, card_labels_at, r_levels_at, w_levels_at, seniors_at}
use Rattle.policy.specs.inner.Filling.{brings, gathered, levels_at, Unites, LevelBytes}
use Rattle.policy.proofs.Relating.{row_united, by_mode_lem}

module _ (xs : List ℕ) (o label : ℕ) (e : label ≡ get_or xs (card_labels_at + o) 0) where
  byte_is : byte_of xs card_labels_at (o + 1) ≡ label
  byte_is = rw (add-sub_cancel o 1) (sym e)

  -- a card with no label brings nothing
  pub brings_none : (at : ℕ) (g : List ℕ) → (Among 32 label → ⊥) → Unites 0 32 (λ l r. brings xs at l r (o + 1)) g g
  brings_none at g none l r v w = rw (byte_is, ne_eqb label l (λ i. none (rw i v))) (sym (or-false (member g (row_of 0 l) r)))

  -- its row of the table at `at`, united with the row of its label
  pub brings_row : (at : ℕ) (g h other : List ℕ) → Among 32 label → 512 ≤ length g → at + 16 * o + 16 ≤ length xs
      → RowCopy xs (at + 16 * o) other
      → Placed (16 * (label - 1)) (united g (16 * (label - 1)) other) g h
      → Unites 0 32 (λ l r. brings xs at l r (o + 1)) g h
  brings_row at g h other known fits lies row p l r v w =
      rw (byte_is, add-sub_cancel o 1)
      (row_united 0 32 label (rw (← (zero-add (16 * (label - 1)))) at p) known (member xs (at + 16 * o)) fits l r v (rw (row_copy xs other (at + 16 * o) lies row r)))

pub gathered_more : (xs : List ℕ) (at o l r : ℕ) → (gathered xs at o l r || brings xs at l r (o + 1)) ≡ gathered xs at (o + 1) l r
unfolding gathered
gathered_more xs at o l r = sym (some_more (brings xs at l r) o)

gathered_yet : (xs : List ℕ) (at l r : ℕ) → gathered xs at 0 l r ≡ false
unfolding gathered
gathered_yet xs at l r = some_yet _

-- before the first card
pub gathered_none : (xs : List ℕ) (at : ℕ) → Agree 32 128 (related (replicate 512 0) 0) (gathered xs at 0)
gathered_none xs at l r v w = zero_rows 512 (row_of 0 l) r (omega arith) ∙ sym (gathered_yet xs at l r)

-- ---- both levels of one role after the other

module _ {v : ℕ → ℕ → ℕ} {xs : List ℕ} where
  pub levels_none : LevelBytes 0 v xs xs
  levels_none = record { levels = λ d m r w. absurd (omega arith); rest = λ i out. refl }

  pub levels_more : {i reads writes : ℕ} {ys : List ℕ} → LevelBytes i v xs ys → i < 128 → seniors_at ≤ length ys → reads ≡ v 1 (i + 1) → writes ≡ v 2 (i + 1)
      → LevelBytes (i + 1) v xs (set (set ys (r_levels_at + i) reads) (w_levels_at + i) writes)
  levels_more {i} {reads} {writes} {ys} done l fits read written = record {
    levels = by_mode_lem (λ d. (r : ℕ) → Among (i + 1) r → byte_of zs (levels_at d) r ≡ v d r)
        (among_next _ i
        (λ r w. second (r_levels_at + (r - 1)) (λ j. omega arith) ∙ first (r_levels_at + (r - 1)) (λ j. omega arith) ∙ done.levels 1 (omega arith) r w)
        (rw (add-sub_cancel i 1) (second (r_levels_at + i) (λ j. omega arith) ∙ get_or-set_same ys (r_levels_at + i) reads 0 (omega arith) ∙ read)))
        (among_next _ i
        (λ r w. second (w_levels_at + (r - 1)) (λ j. omega arith) ∙ first (w_levels_at + (r - 1)) (λ j. omega arith) ∙ done.levels 2 (omega arith) r w)
        (rw (add-sub_cancel i 1) (get_or-set_same (set ys (r_levels_at + i) reads) (w_levels_at + i) writes 0 (rw (length-set ys (r_levels_at + i) reads) (omega arith)) ∙ written)));
    rest = λ k out.
        let far-reads = out 1 (omega arith) in
        let far-writes = out 2 (omega arith) in
        second k (λ j. omega (arith, far-writes (omega arith)))
        ∙ first k (λ j. omega (arith, far-reads (omega arith)))
        ∙ done.rest k (λ d m n. omega (arith, out d m n));
  }
    where
      zs : List ℕ
      zs = set (set ys (r_levels_at + i) reads) (w_levels_at + i) writes

      first : (k : ℕ) → (k ≡ r_levels_at + i → ⊥) → get_or (set ys (r_levels_at + i) reads) k 0 ≡ get_or ys k 0
      first k ne = get_or-set_other ys (r_levels_at + i) k reads 0 ne

      second : (k : ℕ) → (k ≡ w_levels_at + i → ⊥) → get_or zs k 0 ≡ get_or (set ys (r_levels_at + i) reads) k 0
      second k ne = get_or-set_other (set ys (r_levels_at + i) reads) (w_levels_at + i) k writes 0 ne

-- ---- the level of a set

module _ (n : ℕ) (ge : Relation) (s : ℕ → Bool) where
  pub level_empty : some n s ≡ false → Free ≡ level n ge s
  unfolding level
  level_empty e = rw e

  module _ (some_label : some n s ≡ true) where
    bounded : level_at (lub n ge s) ≡ level n ge s
    unfolding level
    bounded = rw some_label

    pub level_unbounded : None ≡ thing (lub n ge s) → Undefined ≡ level n ge s
    level_unbounded e = rw ((thing_none (lub n ge s)).0 e) at bounded

    pub level_bound : (b : ℕ) → Some b ≡ thing (lub n ge s) → Label b ≡ level n ge s
    level_bound zero e = let (q, l) = (thing_some (lub n ge s) 0).0 e in absurd (omega arith)
    level_bound (suc b) e = let (q, l) = (thing_some (lub n ge s) (suc b)).0 e in rw (← q) at bounded

-- one order, and one set, by two names
pub level_agree : (n : ℕ) (ge le : Relation) (s t : ℕ → Bool) → Agree n n ge le → ((l : ℕ) → Among n l → s l ≡ t l) → level n ge s ≡ level n le t
unfolding level
level_agree n ge le s t order set = rw (some_agree s t n set, lub_agree n ge le order s t set)
