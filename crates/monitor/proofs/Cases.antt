-- The definitions find of each case of `Cases` what it expects: one test, computed over the whole table, and one lemma. Assumes nothing.
use Rattle.std.proofs.Common.{◌≡◌, refl, List, [], ◌∷◌, map}
use mathlib.Core.List.{Memᴰ}
use Rattle.search.specs.Search.{some, every, first}
use Rattle.order.specs.Closure.{via}
use Rattle.order.specs.Bound.{upper, is_least, least_of, lub, pair_without_bound, partner_without_bound, lowest_without_bound}
use Rattle.rolefile.specs.Field.{column, columns}
use Rattle.rolefile.specs.Line.{letter_of, fields, formed, line_of, line_at}
use Rattle.rolefile.specs.Form.{scan, sized, good_counts, first_limit, second_limit, ranged, rises, head_verdict, body_verdict, line_verdict}
use Rattle.rolefile.specs.Form.{count, unlabelled, unlabelled_verdict, lines_verdict, form_verdict}
use Rattle.rolefile.specs.Said.{says, last, label_by}
use Rattle.policy.specs.Settings.{dominates, senior}
use Rattle.policy.specs.Policy.{may, may_at, level, r_level, w_level}
use Rattle.policy.specs.Verdict.{order_verdict, label_verdict, role_verdict, assign_verdict, assignment_verdict, policy_verdict, verdict}
use Rattle.policy.specs.Flow.{flows, flow_circle}
use Rattle.monitor.specs.Calls.{unless, if_done}
use Rattle.monitor.specs.Rules.{entitled_by, fitting_by, gives_by, open_rule, take_rule, part_rule, rule, sessions_after}
use Rattle.monitor.specs.Cases.{bytes, numbered, Findings, findings, Case, cases}

-- what the definitions find of a case's file
abbrev given : Case → Findings
given c = findings (bytes c.file) c.expected

computed : map given cases ≡ map (λ c. c.expected) cases
unfolding cases findings bytes
    column columns letter_of fields formed line_of line_at
    sized good_counts first_limit second_limit ranged rises head_verdict body_verdict line_verdict scan count unlabelled unlabelled_verdict lines_verdict form_verdict
    says last label_by some every first via upper is_least least_of lub pair_without_bound partner_without_bound lowest_without_bound
    dominates senior may may_at level r_level w_level order_verdict label_verdict role_verdict assign_verdict assignment_verdict policy_verdict verdict flows flow_circle
    unless if_done entitled_by fitting_by gives_by open_rule take_rule part_rule rule sessions_after numbered
computed = refl

of_each : (cs : List Case) → map given cs ≡ map (λ c. c.expected) cs → (c : Case) → Memᴰ c cs → given c ≡ c.expected
of_each [] e c m = elim m [ ]
of_each (x ∷ cs) e c (Memᴰ.head same) = cc
of_each (x ∷ cs) e c (Memᴰ.tail m) = of_each cs (cc) c m

pub cases_hold : (c : Case) → Memᴰ c cases → findings (bytes c.file) c.expected ≡ c.expected
cases_hold = of_each cases computed
