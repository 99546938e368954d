-- Each turn stores the next row, made from the old table.
use Prim.Native.Nat.{ℕ, ◌+◌, ◌<◌, ◌-◌}
use mathlib.Core.Path.{◌≡◌, ◌∙◌}
use mathlib.Core.Bool.{Bool, false}
use mathlib.Core.List.{List, []}
use native.Mathlib.Nat.{add-sub_cancel}
use native.Mathlib.Omega.{arith}
use borrow.Author.Rules.{rules}
use lib.ListN.{get_or}
use Rattle.order.specs.Closure.{Relation}
use Rattle.order.specs.Table.{marks, mark, Rows}
use Rattle.order.specs.inner.Rounds.{rows_more}
use Rattle.order.proofs.Stored.{set_row}
use Rattle.order.proofs.marks.round_of.Goals as goal

-- a row that is left is as it was
same_seat : (h : Relation) (t₀ t : List (List Bool)) (i j : ℕ) → i < 32 → j < 32 → Rows 32 i h (mark t₀) (mark t)
    → get_or (get_or t i []) j false ≡ get_or (get_or t₀ i []) j false
same_seat h t₀ t i j l k r = rw (add-sub_cancel i 1, add-sub_cancel j 1) at (r.left (i + 1) (j + 1) (omega arith) (omega arith) (omega arith))

pub loop-i-preserved : goal.loop-i-preserved
loop-i-preserved c =
    let a = c.args in
    let w = c.loop-i in
    let t = a.t.now in
    let i : ℕ = w.i in
    let seat : (j : ℕ) → j < 32 → get_or (get_or w.t i []) j false ≡ get_or (get_or t i []) j false = λ j l. same_seat _ t w.t i j (search rules) l w.invariant.1 in (
      search rules,
      rows_more 32 _ _ w.i _ _ (search rules) w.invariant.1
          (set_row marks [] _ w.t w.i c.stepped.result (search rules) (λ b v.
          simp (add-sub_cancel w.i 1, add-sub_cancel a.k 1) (c.stepped.ensures b v ∙ rw (seat (b - 1) (omega arith), seat a.k (search rules))))),
    )
