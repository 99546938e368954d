-- "The security officer, by what the file says": the numbers 11 to 16, and the verdict on a whole file. Assumes nothing.
use Rattle.std.specs.Prelude.{ℕ, List, Bool, ◌&&◌, cond, eqb}
use Rattle.search.specs.Search.{some}
use Rattle.order.specs.Closure.{Relation, path, loop}
use Rattle.order.specs.Bound.{lowest_without_bound, partner_without_bound}
use Rattle.rolefile.specs.declared.Verdict.{Verdict}
use Rattle.rolefile.specs.Line.{A, line_at, lines}
use Rattle.rolefile.specs.Form.{fine, refusal, unless, ◌then◌, scan, found, form_verdict}
use Rattle.rolefile.specs.Said.{labels, roles, over, above}
use Rattle.policy.specs.Settings.{Settings, dominates, settings}
use Rattle.policy.specs.Policy.{r_level, w_level, passes, is_defined}

-- 11 and 13, by the paths over a relation between n things
abbrev pub circle_verdict : ℕ → ℕ → Relation → Verdict
circle_verdict number n paths = let a = loop n paths in found a (refusal number a 0)

-- 12
abbrev pub pair_verdict : ℕ → Relation → Verdict
pair_verdict n ge = let a = lowest_without_bound n ge in found a (refusal 12 a (partner_without_bound n ge a))

-- 11 and 12, of the paths over a relation and of the order that they close it to
unfoldable pub order_verdict : ℕ → Relation → Relation → Verdict
order_verdict n paths ge = circle_verdict 11 n paths then pair_verdict n ge

unfoldable pub label_verdict : List ℕ → Verdict
label_verdict f = order_verdict (labels f) (path (labels f) (over f)) (dominates f)

unfoldable pub role_verdict : List ℕ → Verdict
role_verdict f = circle_verdict 13 (roles f) (path (roles f) (above f))

-- label y is "dominated by the clearance" of user u and "lies at or above the r-level and at or below the w-level" of role r, "free levels passing" (document 02, change 1)
abbrev pub serves : Settings → ℕ → ℕ → ℕ → Bool
serves σ u r y = σ.dominates (σ.clearance u) y && (passes (λ l. σ.dominates y l) (r_level σ r) && passes (λ l. σ.dominates l y) (w_level σ r))

-- 14 to 16, of the assignment of user u to role r: "the w-level must not be undefined, the clearance must dominate the r-level", and some label must serve
unfoldable pub assign_verdict : Settings → ℕ → ℕ → Verdict
assign_verdict σ u r =
    unless (is_defined (w_level σ r)) (refusal 14 u r)
    (unless (passes (λ l. σ.dominates (σ.clearance u) l) (r_level σ r)) (refusal 15 u r)
    (unless (some σ.labels (serves σ u r)) (refusal 16 u r) fine))

-- of line i, where it is an assignment
unfoldable pub assignment_verdict : List ℕ → ℕ → Verdict
assignment_verdict f i = cond (eqb (line_at f i).letter A) (assign_verdict (settings f) (line_at f i).a (line_at f i).b) fine

-- "11, 12, 13, then assignments in file order, 14 to 16 within each"
unfoldable pub policy_verdict : List ℕ → Verdict
policy_verdict f = label_verdict f then (role_verdict f then scan (lines f) (assignment_verdict f))

unfoldable pub verdict : List ℕ → Verdict
verdict f = form_verdict f then policy_verdict f
