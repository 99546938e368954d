-- The letters are taken in the order of the document's table.
use Rattle.std.proofs.Common.{sym, ap}
use Rattle.std.proofs.lemmas.Result.{err_from_is_err_and}
use Rattle.rolefile.specs.declared.Line.{Line}
use Rattle.rolefile.specs.declared.Verdict.{Verdict}
use Rattle.rolefile.specs.WellFormed.{GoodCounts}
use Rattle.policy.proofs.Readying.{counts_of, laid_of}
use Rattle.policy.proofs.file.File.of.Goals as goal

pub invariant_of-counts : goal.invariant_of-counts
invariant_of-counts c =
    let few : GoodCounts c.first_line-head.result = rw c.first_line-head.ensures (counts_of _ (ap (λ (v : Verdict). v.number) (sym c.in_ok-lines.ensures))) in
    record { few_labels = few.labels; few_roles = few.roles; few_users = few.users; few_cards = few.cards }

pub invariant_of-result : goal.invariant_of-result
invariant_of-result c = let head = c.first_line-head.ensures in record {
  ready = record {
    lines = ap (λ (v : Verdict). v.number) (sym c.in_ok-lines.ensures);
    head = record {
      labels = ap (λ (l : Line). l.a) head;
      roles = ap (λ (l : Line). l.b) head;
      users = ap (λ (l : Line). l.c) head;
      cards = ap (λ (l : Line). l.d) head;
    };
    laid = laid_of c.part.ensures c.take_letter.ensures c.take_letter-2.ensures c.take_letter-3.ensures c.take_letter-4.ensures c.take_letter-5.ensures c.take_letter-6.ensures;
  };
}

pub returns-in_err-lines : goal.returns-in_err-lines
returns-in_err-lines c =
    let p = err_from_is_err_and c.from_residual.result c.from_residual.ensures.1 in
    rw (p.1, p.2) (record { told = c.in_err-lines.ensures; same = tt })
