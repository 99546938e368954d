-- What a loop stores from the front, one a turn: marks in a set, rows in a table, and things in a set that is a number. Assumes nothing.
use Prim.Native.Nat.{ℕ, ◌+◌, ◌-◌, ◌≤◌, ◌<◌}
use mathlib.Core.Path.{◌≡◌, refl, ◌∙◌}
use mathlib.Core.Bool.{Bool, true, false, ◌&&◌, ◌||◌, and-true, and-false, or-false}
use mathlib.Core.List.{List}
use native.Mathlib.Nat.{add-sub_cancel}
use native.Mathlib.Omega.{arith}
use native.Mathlib.Decide.{ℕ_discrete}
use lib.Dec.{leb, eqb}
use borrow.Author.Tests.{eq-eqb, ne_eqb, le-leb, lt-leb}
use lib.ListN.{length, get_or, set}
use lib.Seq.{get_or-set_same, get_or-set_other}
use Rattle.search.specs.Search.{Among}
use Rattle.search.proofs.Truth.{leb_same}
use Rattle.search.proofs.Found.{among_next}
use Rattle.order.specs.Closure.{Relation}
use Rattle.roleset.proofs.Bits.{bit_zero}
use Rattle.order.specs.Table.{marks, Upto}
use Rattle.order.specs.inner.Members.{holds}
use Rattle.order.specs.inner.Rounds.{RowSet}

-- what stands at thing a when v is stored at i
module _ {A : Type 0} (d : A) (l : List A) (i : ℕ) (v : A) where
  stored_own : i < length l → get_or (set l i v) (i + 1 - 1) d ≡ v
  stored_own h = rw (add-sub_cancel i 1) (get_or-set_same l i v d h)

  stored_other : (a : ℕ) → 1 ≤ a → (a ≡ i + 1 → ⊥) → get_or (set l i v) (a - 1) d ≡ get_or l (a - 1) d
  stored_other a h ne = get_or-set_other l i (a - 1) v d (λ e. ne (omega arith))

pub upto_more : (f : ℕ → Bool) (s : List Bool) (i : ℕ) (v : Bool) → i < length s → Upto i f s → v ≡ f (i + 1) → Upto (i + 1) f (set s i v)
upto_more f s i v h all new =
    among_next _ i (λ a u. stored_other false s i v a u.0 (λ q. omega arith) ∙ all a u) (stored_own false s i v h ∙ new)

-- a mark more in a set
pub mark_more : (s : List Bool) (i : ℕ) → i < length s → (a : ℕ) → 1 ≤ a → marks (set s i true) a ≡ (eqb (i + 1) a || marks s a)
mark_more s i h a l = elim (ℕ_discrete a (i + 1)) [
  | yes q ↦ rw (q, eq-eqb (i + 1) (i + 1) refl) (stored_own false s i true h)
  | no q ↦ rw (ne_eqb (i + 1) a (λ e. q (omega arith))) (stored_other false s i true a l q)
]

-- a row stored in a table, whose rows are read by `view`
module _ {A : Type 0} (view : A → ℕ → Bool) (none : A) where
  abbrev viewed : List A → Relation
  viewed t a b = view (get_or t (a - 1) none) b

  pub set_row : (h : Relation) (t : List A) (i : ℕ) (row : A) → i < length t
      → ((b : ℕ) → Among 32 b → view row b ≡ h (i + 1) b) → RowSet 32 (i + 1) h (viewed t) (viewed (set t i row))
  set_row h t i row l all = record {
    own = λ b w. rw (stored_own none t i row l) (all b w);
    others = λ a b v ne w. rw (stored_other none t i row a v.0 ne);
  }

-- nothing of f is put yet, and one thing more of it into a set that has those of f up to i
pub put_none : (b : ℕ) (has : Bool) → 1 ≤ b → holds 0 b ≡ (leb b 0 && has)
put_none b has l = rw (lt-leb b 0 (omega arith)) (bit_zero (b - 1))

pub put_more : (f : ℕ → Bool) (i b : ℕ) → ((leb b i && f b) || (f (i + 1) && eqb (i + 1) b)) ≡ (leb b (i + 1) && f b)
put_more f i b = elim (ℕ_discrete b (i + 1)) [
  | yes q ↦ rw (q, eq-eqb (i + 1) (i + 1) refl, lt-leb (i + 1) i (omega arith), le-leb (i + 1) (i + 1) (omega arith)) (and-true (f (i + 1)))
  | no q ↦
      rw (ne_eqb (i + 1) b (λ e. q (omega arith)), and-false (f (i + 1)), leb_same b i b (i + 1) (λ l. omega arith) (λ l. omega arith))
      (or-false (leb b (i + 1) && f b))
]
