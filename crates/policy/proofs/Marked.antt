-- Marks that the lines of a part make in a table, and the bytes of such a table. Assumes nothing.
use Rattle.std.proofs.Common.{ℕ, ◌+◌, ◌*◌, ◌-◌, ◌≡◌, refl, sym, ◌∙◌, Bool, false, ◌||◌, cond, List, [], add-sub_cancel, arith, eqb, length, get_or, set, replicate, get_or-set_same, get_or-set_other, eq-eqb, ne_eqb}
use mathlib.Core.Bool.{or-false, or_comm}
use native.Mathlib.Decide.{ℕ_discrete}
use lib.ListN.{get_or-replicate}
use Rattle.search.specs.Search.{Among}
use Rattle.search.proofs.Found.{among_next}
use Rattle.roleset.proofs.Rows.{kept_both}
use Rattle.order.specs.Table.{marks, mark, Upto}
use Rattle.rolefile.specs.inner.Section.{one, two}
use Rattle.policy.specs.Tables.{dominance_at, mark_at}
use Rattle.policy.specs.inner.Filling.{Bytes, Marking, WithPair, DominanceRows}
use Rattle.policy.proofs.Relating.{pairs_more, pairs_none}

-- a pair whose first is no label makes no mark
pub pair_none : (a b : ℕ) (t : List (List Bool)) → (Among 32 a → ⊥) → WithPair a b t t
pair_none a b t h x y w v =
    rw (ne_eqb a x (λ e. h (rw e w))) (sym (or-false (mark t x y)))

-- row a with a mark at b is stored
pub pair_one : (a b : ℕ) (t : List (List Bool)) (row : List Bool) → Among 32 a → length t ≡ 32
    → Upto 32 (λ y. eqb b y || mark t a y) row → WithPair a b t (set t (a - 1) row)
pair_one a b t row w l all x y u v = elim (ℕ_discrete x a) [
  | yes q ↦ rw (q, eq-eqb a a refl, get_or-set_same t (a - 1) row [] (omega arith)) (all y v ∙ or_comm (eqb b y) (mark t a y))
  | no q ↦
      rw (ne_eqb a x (λ e. q (omega arith)), get_or-set_other t (a - 1) (x - 1) row [] (λ e. q (omega arith)))
      (sym (or-false (mark t x y)))
]

pub marks_none : (p : List ℕ) → Marking p 0 (replicate 32 (replicate 32 false))
marks_none p a b w v =
    rw (get_or-replicate 32 (a - 1) (replicate 32 false) [] (omega arith), pairs_none p a b) (get_or-replicate 32 (b - 1) false false (omega arith))

pub marks_more : (p : List ℕ) (i : ℕ) (t r : List (List Bool)) → Marking p i t → WithPair (one p (i + 1)) (two p (i + 1)) t r
    → Marking p (i + 1) r
marks_more p i t r m n a b w v = n a b w v ∙ rw (m a b w v) (pairs_more p i _ _ a b refl refl)

module _ (t : List (List Bool)) (xs : List ℕ) where
  pub put_none : DominanceRows 0 t xs xs
  put_none = record { rows = λ a b w. absurd (omega arith); rest = λ k o. refl }

  pub put_more : (i : ℕ) (ys zs : List ℕ) → DominanceRows i t xs ys
      → Bytes (dominance_at + 32 * i) 32 (λ b. cond (marks (get_or t i []) b) 1 0) ys zs → DominanceRows (i + 1) t xs zs
  put_more i ys zs p row = let kept = row.rest in record {
    rows = λ a b w v.
        let s : dominance_at + (32 * i + (b - 1)) ≡ dominance_at + 32 * i + (b - 1) = omega arith in
        among_next (λ c. get_or zs (mark_at c b) 0 ≡ cond (mark t c b) 1 0) i
        (λ c u. kept (mark_at c b) (λ m. omega arith) ∙ p.rows c b u v) (rw (add-sub_cancel i 1, s) (row.bytes b v)) a w;
    rest = kept_both xs ys zs (omega arith) p.rest kept;
  }
