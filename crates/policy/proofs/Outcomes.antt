-- The verdict on a file means what it says, place included, and nothing else does: each file has just one outcome. Assumes nothing.
use Rattle.std.proofs.Common.{ℕ, ◌≤◌, ◌≡◌, refl, sym, ◌↔◌, ◌⊎◌, inl, inr, ⊎_elim, List, arith}
use Rattle.order.specs.Closure.{path}
use Rattle.order.specs.Bound.{AllJoined}
use Rattle.rolefile.specs.declared.Verdict.{Verdict}
use Rattle.rolefile.specs.Line.{lines}
use Rattle.rolefile.specs.Form.{fine, ◌then◌, scan}
use Rattle.rolefile.specs.Said.{labels, roles, over, above}
use Rattle.rolefile.specs.WellFormed.{WellFormed, LineRefused, no_header, bad_counts, malformed, bad_numbers, unordered}
use Rattle.rolefile.proofs.Verdicts.{then_joined}
use Rattle.rolefile.proofs.Decides.{Decides, Else, Earliest, decides_zero, decides_fine, decides_when, then_decides, scan_decides}
use Rattle.rolefile.proofs.Formed.{FormRefusal, form_decides}
use Rattle.policy.specs.Settings.{dominates, senior, settings}
use Rattle.policy.specs.Verdict.{circle_verdict, pair_verdict, order_verdict, label_verdict, role_verdict, assignment_verdict, policy_verdict, verdict}
use Rattle.policy.specs.Accepted.{LabelOrder, RoleOrder, GoodAssignment, Accepted, AssignRefused, Outcome}
use Rattle.policy.specs.Accepted.{no_level, reads_more, no_label}
use Rattle.policy.specs.Accepted.{accepted, bad_size, bad_line, bad_user, bad_card, label_circle, no_bound, role_circle, bad_assignment}
use Rattle.policy.proofs.Said.{assignments_iff}
use Rattle.policy.proofs.Checks.{CircleRefusal, PairRefusal, AssignmentRefusal}
use Rattle.policy.proofs.Checks.{circle_decides, pair_decides, assignment_decides}

-- ---- the whole verdict

-- why a file is refused
abbrev Refusal : List ℕ → Verdict → Type 0
Refusal f =
    Else (FormRefusal f) (WellFormed f)
    (Else (CircleRefusal (labels f) (over f) 11) (LabelOrder f)
    (Else (PairRefusal (labels f) (dominates f)) (AllJoined (labels f) (dominates f))
    (Else (CircleRefusal (roles f) (above f) 13) (RoleOrder f)
    (Earliest (GoodAssignment f) (AssignmentRefusal f) (lines f)))))

verdict_decides : (f : List ℕ) → Decides (verdict f) (Accepted f) (Refusal f)
unfolding verdict policy_verdict label_verdict order_verdict role_verdict dominates senior
verdict_decides f =
    rw (then_joined (circle_verdict 11 (labels f) (path (labels f) (over f))) (pair_verdict (labels f) (dominates f))
    (role_verdict f then scan (lines f) (assignment_verdict f)))
    (decides_when
    (then_decides (form_decides f) (λ w.
    then_decides (circle_decides (labels f) (over f) 10) (λ d.
    then_decides (pair_decides (labels f) (dominates f) d.order) (λ j.
    then_decides (circle_decides (roles f) (above f) 12) (λ s.
    scan_decides (assignment_decides f w.good d.order) (lines f)))))) (
      λ (w, (d, (j, (s, a)))). record {
        form = w;
        lawful = record { dominance = d.order; joins = j; seniority = s.order };
        assignments = (assignments_iff f).0 a;
        no_label_itself = d.strict;
        no_role_itself = s.strict;
      },
      λ a.
          let o = a.lawful in
          let d : LabelOrder f = record { order = o.dominance; strict = a.no_label_itself } in
          let s : RoleOrder f = record { order = o.seniority; strict = a.no_role_itself } in
          (a.form, (d, (o.joins, (s, (assignments_iff f).1 a.assignments)))),
    ))

module _ (f : List ℕ) where
  meant : (v : Verdict) → Refusal f v → Outcome f v
  meant v (inl (inl (inl (h, e)))) = rw e (bad_size h)
  meant v (inl (inl (inr (s, (k, low))))) = let (n, l, e) = low.holds in rw e (bad_line s low.inside low.lower l)
  meant v (inl (inr ((s, g), inl (u, l, e)))) = rw e (bad_user s g l)
  meant v (inl (inr ((s, g), inr (us, (o, l, e))))) = rw e (bad_card s g us l)
  meant v (inr (w, inl (a, l, e))) = rw e (label_circle w l)
  meant v (inr (w, inr (d, inl (a, b, p, e)))) = rw e (no_bound w d p)
  meant v (inr (w, inr (d, inr (j, inl (r, l, e))))) =
      rw e (role_circle (record { form = w; dominance = d; joins = j }) l)
  meant v (inr (w, inr (d, inr (j, inr (s, (i, low)))))) =
      let (l, (n, r, e)) = low.holds in
      rw e (bad_assignment (record { form = w; dominance = d; joins = j }) s low.inside l low.lower r)

  pub outcome : Outcome f (verdict f)
  outcome = ⊎_elim (λ a. rw ((verdict_decides f).good a) (accepted a)) (meant (verdict f)) (verdict_decides f).told

  refused : {v : Verdict} → Refusal f v → v ≡ verdict f
  refused {v} r = ((verdict_decides f).bad v r).0

  pub outcome_only : {v : Verdict} → Outcome f v → v ≡ verdict f
  outcome_only (accepted a) = sym ((verdict_decides f).good a)
  outcome_only (bad_size h) = refused (inl (inl (inl (h, refl))))
  outcome_only (bad_line {n} {k} s w low l) = refused (inl (inl (inr (s, (k, record { inside = w; holds = (n, l, refl); lower = low })))))
  outcome_only (bad_user {u} s g l) = refused (inl (inr ((s, g), inl (u, l, refl))))
  outcome_only (bad_card {o} s g us l) = refused (inl (inr ((s, g), inr (us, (o, l, refl)))))
  outcome_only (label_circle {a} w l) = refused (inr (w, inl (a, l, refl)))
  outcome_only (no_bound {a} {b} w d p) = refused (inr (w, inr (d, inl (a, b, p, refl))))
  outcome_only (role_circle {r} o l) =
      refused (inr (o.form, inr (o.dominance, inr (o.joins, inl (r, l, refl)))))
  outcome_only (bad_assignment {n} {i} o s w l low r) =
      refused (inr (o.form, inr (o.dominance, inr (o.joins, inr (s, (i, record { inside = w; holds = (l, (n, r, refl)); lower = low }))))))

  pub accepted_iff : ((verdict f).number ≡ 0) ↔ Accepted f
  accepted_iff = decides_zero (verdict_decides f)

  pub accepted_fine : (verdict f ≡ fine) ↔ Accepted f
  accepted_fine = decides_fine (verdict_decides f)

-- ---- the numbers

-- 0, the supplier's 1 to 6, or the officer's 11 to 16
abbrev pub FileNumber : ℕ → Type 0
FileNumber n = (n ≤ 6) ⊎ ((11 ≤ n) × (n ≤ 16))

pub verdict_numbers : (f : List ℕ) → FileNumber (verdict f).number
verdict_numbers f = of (outcome f)
  where
    line : {k n : ℕ} → LineRefused f k n → FileNumber n
    line (no_header i h) = inl (omega arith)
    line (bad_counts i l h) = inl (omega arith)
    line (malformed i h) = inl (omega arith)
    line (bad_numbers i l h) = inl (omega arith)
    line (unordered i l g h) = inl (omega arith)

    assignment : {u r n : ℕ} → AssignRefused (settings f) u r n → FileNumber n
    assignment (no_level b) = inr (omega arith)
    assignment (reads_more d h) = inr (omega arith)
    assignment (no_label d p h) = inr (omega arith)

    of : {v : Verdict} → Outcome f v → FileNumber v.number
    of (accepted a) = inl (omega arith)
    of (bad_size h) = inl (omega arith)
    of (bad_line s w low l) = line l
    of (bad_user s g l) = inl (omega arith)
    of (bad_card s g us l) = inl (omega arith)
    of (label_circle w l) = inr (omega arith)
    of (no_bound w d p) = inr (omega arith)
    of (role_circle o l) = inr (omega arith)
    of (bad_assignment o s w l low r) = assignment r
