-- A table that has a relation among the things 1 to n, its paths and its closure: marks and rows of roles alike. Assumes nothing.
use Rattle.std.proofs.Common.{ℕ, ◌≤◌, ◌∙◌, ◌&&◌, arith, leb, le-leb}
use native.Mathlib.Decide.{dec_lt}
use borrow.Author.Tests.{lt-leb}
use Rattle.search.specs.Search.{Among}
use Rattle.search.proofs.Truth.{untrue}
use Rattle.search.proofs.Found.{wider}
use Rattle.order.specs.Closure.{Relation, Agree, path, with_itself, closure}
use Rattle.order.specs.Table.{Rows}
use Rattle.order.proofs.Closure.{via_agree}
use Rattle.policy.specs.inner.Stages.{PathRows}
use Rattle.policy.proofs.Inside.{Between}

module _ (size n : ℕ) (e t u : Relation) where
  -- t has the relation, and u its paths: to the things 1 to m
  pub paths_to : (m : ℕ) → n ≤ m → m ≤ size → Agree n m t e → Rows size n (path n t) t u → Agree n m u (path n e)
  paths_to m few fits agree rows a b v w = rows.done a b v (wider m size fits w) ∙ via_agree n m t e few agree n (omega arith) a b v w

  -- and as a table
  pub paths_table : n ≤ size → Between n e → Agree size size t e → Rows size n (path n t) t u → PathRows size n e u
  paths_table few between agree rows = record {
    done = paths_to size few (omega arith) (λ a b v w. agree a b (wider n size few v) w) rows;
    left = λ a b l m w. rows.left a b l m w ∙ agree a b (omega arith) w ∙ untrue (e a b) (λ h. let v = between a b h in omega arith);
  }

  -- t has the paths, and u each of the things 1 to n with itself too
  pub closed_table : PathRows size n e t → Rows size n (with_itself t) t u → Agree size size u (λ a b. leb a n && closure n e a b)
  closed_table paths rows a b v w = elim (dec_lt n a) [
    | yes l ↦ rows.left a b l v.1 w ∙ paths.left a b l v.1 w ∙ rw (lt-leb a n l)
    | no l ↦
        let i : Among n a = omega arith in
        rows.done a b i w ∙ rw (paths.done a b i w, le-leb a n i.1)
  ]
