-- Each turn stores both levels of one role more.
use Rattle.std.proofs.Common.{ℕ, ◌+◌, ◌≤◌, ◌≡◌, refl, ap, ◌∙◌, List, arith}
use Rattle.search.specs.Search.{Among}
use Rattle.order.specs.Bound.{converse}
use Rattle.order.specs.Table.{related}
use Rattle.order.specs.inner.Members.{holds, row_holds}
use Rattle.policy.specs.declared.gather.Level as program
use Rattle.policy.specs.Policy.{level, level_number}
use Rattle.policy.specs.inner.Filling.{level_of}
use Rattle.policy.proofs.Gathering.{level_agree, levels_more}
use Rattle.policy.proofs.gather.put_levels.Goals as goal

-- the byte of the level of the set that was read off is that of the rows
bounded : (g t : List ℕ) (set n i : ℕ) (l : program.Level) {b : ℕ} → b ≡ level_number (level_of l) → level_of l ≡ level n (converse (row_holds t)) (holds set) → n ≤ 32
    → ((l : ℕ) → Among 32 l → holds set l ≡ related g 0 l (i + 1)) → b ≡ level_number (level n (converse (row_holds t)) (λ l. related g 0 l (i + 1)))
bounded g t set n i l kept e few read =
    kept ∙ ap level_number (e ∙ level_agree n (converse (row_holds t)) _ _ _ (λ a b v w. refl) (λ l v. read l (omega arith)))

pub loop-i-preserved : goal.loop-i-preserved
loop-i-preserved c =
    let w = c.loop-i in
    let a = c.args in
    let counts = a.dominance.now.file.now.counts in
    levels_more w.invariant (omega arith) (omega arith)
    (bounded a.g.now.readers a.dominance.now.over c.labels_of-reads.result a.dominance.now.file.now.counts.labels w.i _ c.into.ensures c.level_of.ensures (omega arith) c.labels_of-reads.ensures)
    (bounded a.g.now.writers a.dominance.now.under c.labels_of-writes.result a.dominance.now.file.now.counts.labels w.i _ c.into-in-loop-i.ensures c.level_of-in-loop-i.ensures (omega arith) c.labels_of-writes.ensures)
