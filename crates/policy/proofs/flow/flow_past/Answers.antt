-- Each turn gives the next writer's row those who may read or write the card, and the rows before it are no writer's; both sets were taken before the first.
use Rattle.std.proofs.Common.{ℕ, ◌+◌, ◌*◌, ◌≡◌, refl, sym, cond, arith, rules}
use Rattle.search.proofs.Thing.{thing_none, thing_some}
use Rattle.roleset.specs.Row.{whole, next_member}
use Rattle.policy.specs.Tables.{writers_at}
use Rattle.policy.proofs.Flowing.{Turn, next_taken, writer_within, writer_ahead, no_writer, writer_more}
use Rattle.policy.proofs.flow.flow_past.Goals.{After-next, In-Some}
use Rattle.policy.proofs.flow.flow_past.Goals as goal

turn : (c : After-next) (n : ℕ) → n ≡ cond (whole c.row-writers.result 0) (next_member c.row-writers.result 0 c.loop-writer.i) 0
    → let a = c.args in
    let w = c.loop-writer in
    Turn a.t.now w.t a.s.now a.o w.i n
turn c n e =
    let a = c.args in
    let w = c.loop-writer in
    record {
      long = search rules;
      same = w.invariant.same;
      fits = search rules;
      card = c.requires;
      before = w.invariant.within;
      next = next_taken a.s.now c.row-writers.result (writers_at + 16 * a.o) _ (omega arith) (search rules) c.row-writers.ensures e;
      done = w.invariant.done;
    }

-- a writer is found
found : (c : In-Some) → let a = c.args in let w = c.loop-writer in Turn a.t.now w.t a.s.now a.o w.i c.in-Some.writer × (c.in-Some.writer ≡ 0 → ⊥)
found c = let (e, l) = (thing_some _ _).0 c.in-Some.ensures in (turn (goal.at.In-Some c).After-next c.in-Some.writer e, λ z. omega arith)

pub overflow_mul-writer : goal.overflow_mul-writer
overflow_mul-writer c = omega (arith, writer_within (found (goal.at.overflow_mul-writer c).In-Some).0)

pub loop-writer-smaller : goal.loop-writer-smaller
loop-writer-smaller c = let (t, some) = found (goal.at.loop-writer-smaller c).In-Some in omega (arith, writer_ahead t some, writer_within t)

pub loop-writer-preserved : goal.loop-writer-preserved
loop-writer-preserved c = let (t, some) = found (goal.at.loop-writer-preserved c).In-Some in record {
  within = writer_within t;
  same = search rules;
  done = writer_more t some _ c.unite.ensures c.readers_or_writers-either.ensures;
}

pub returns : goal.returns
returns c = no_writer (turn (goal.at.returns c).After-next 0 (sym ((thing_none _).0 c.in_default.ensures))) refl
