-- The lines that pass at the front.
use Rattle.std.proofs.Common.{◌∙◌, rules, tests, eqb, get_or, List, ℕ, Bool}
use Rattle.std.proofs.lemmas.Iterator.{YieldsList-from_slice}
use Rattle.std.proofs.lemmas.Iterator.Consumers.{count_from_yields_List}
use Rattle.std.proofs.lemmas.Iterator.Search.{YieldsList-from_take_while}
use Rattle.std.proofs.lemmas.List.Folds.{length-prefix_len}
use Rattle.rolefile.proofs.Reading.{leads}
use Rattle.rolefile.proofs.read.leading.Goals as goal

pub returns : goal.returns
returns c =
    let whole = c.whole_lines.result.now in
    let has : List ℕ → Bool = λ l. eqb (get_or l 0 0) c.args.letter in
    leads c.args.p.now whole c.whole_lines.ensures.value c.args.letter c.count.result c.whole_lines.ensures.len
    (count_from_yields_List c.take_while.result _ c.count.ensures.ran
    (YieldsList-from_take_while _ has (YieldsList-from_slice whole cc) c.take_while.ensures.closure c.take_while.ensures.done (λ x b q k. search (rules, tests)))
    ∙ length-prefix_len has whole)
