-- How long a report can be. Assumes nothing.
use Prim.Native.Nat.{ℕ, ◌*◌, ◌≤◌, ◌<◌}
use mathlib.Core.Path.{◌≡◌}
use mathlib.Core.List.{List, []}
use mathlib.Core.Bool.{Bool, cond}
use native.Mathlib.Omega.{arith}
use lib.Dec.{leb, eqb}
use lib.ListN.{length, length-append}
use borrow.Author.Tests.{eqb-true}
use Rattle.search.proofs.Found.{first_within}
use Rattle.order.specs.Closure.{Relation, path}
use Rattle.order.specs.Bound.{converse}
use Rattle.rolefile.proofs.Written.{columns_length}
use Rattle.policy.specs.Settings.{Settings, settings, Bounded}
use Rattle.policy.specs.Policy.{Level, Free, Label, Undefined, may_at, level, r_level, w_level, level_number}
use Rattle.policy.specs.Flow.{flows, flow_circle}
use Rattle.policy.specs.Verdict.{verdict}
use Rattle.policy.proofs.Inside.{file_bounded}
use Rattle.policy.proofs.Levels.{Tells, level_tells}
use Rattle.policy.proofs.Outcomes.{accepted_iff}
use Rattle.text.proofs.Lengths.{where_most}
use Rattle.text.proofs.Each.{each_most, each_pair_most}
use Rattle.rolecheck.specs.Report.{line, role_line, role_lines, flow_line, flow_lines, policy_lines, settings_lines, report}
use Rattle.rolecheck.proofs.Places.{verdict_written}

module _ (letter used a b c : ℕ) (p : a < 100000) (q : b < 100000) (r : c < 100000) where
  line_length_lem : length (line letter used a b c) ≡ 22
  unfolding line
  line_length_lem =
      simp length-append (omega (arith, columns_length (leb 1 used) a (λ e. p), columns_length (leb 2 used) b (λ e. q), columns_length (leb 3 used) c (λ e. r)))

module _ (reads writes : ℕ → ℕ) (r : (i : ℕ) → reads i < 100000) (w : (i : ℕ) → writes i < 100000) where
  role_lines_most : (n : ℕ) → n ≤ 128 → length (role_lines reads writes n) ≤ n * 22
  role_lines_most n l =
      each_most n 22 (role_line reads writes) (λ i u. omega (arith, line_length_lem 82 3 i (reads i) (writes i) (omega arith) (r i) (w i)))

module _ (flow : Relation) where
  flow_line_length : (from to : ℕ) → from ≤ 128 → to ≤ 128 → length (flow_line flow from to) ≤ 22
  unfolding flow_line
  flow_line_length from to p q =
      where_most (flow from to) (line 70 2 from to 0) (λ e. omega (arith, line_length_lem 70 2 from to 0 (omega arith) (omega arith) (omega arith)))

  flow_lines_most : (n : ℕ) → n ≤ 128 → length (flow_lines flow n) ≤ n * 2816
  flow_lines_most n l =
      each_pair_most n 128 22 (flow_line flow) l (λ r q v w. flow_line_length r q (omega arith) (omega arith))

-- ---- of a file

level_few : (n : ℕ) (ge : Relation) (s : ℕ → Bool) → n ≤ 32 → level_number (level n ge s) < 100000
level_few n ge s few = go (level n ge s) (level_tells n ge s)
  where
    go : (l : Level) → Tells n ge s l → level_number l < 100000
    go Free t = omega arith
    go (Label c) (h, b) = omega (arith, b.inside)
    go Undefined t = omega arith

module _ (σ : Settings) (bounded : Bounded σ) where
  settings_lines_length : length (settings_lines σ) ≤ 363286
  unfolding policy_lines r_level w_level flow_circle
  settings_lines_length =
      rw (length-append, length-append)
      (omega (
        arith,
        role_lines_most (λ r. level_number (r_level σ r)) (λ r. level_number (w_level σ r))
            (λ r. level_few σ.labels σ.dominates (may_at σ 1 r) bounded.labels.1) (λ r. level_few σ.labels (converse σ.dominates) (may_at σ 2 r) bounded.labels.1)
            σ.roles bounded.roles,
        flow_lines_most (flows σ) σ.roles bounded.roles,
        line_length_lem 67 1 (flow_circle σ) 0 0 (omega (arith, first_within (λ a. path σ.roles (flows σ) a a) σ.roles)) (omega arith) (omega arith),
      ))

module _ (f : List ℕ) where
  pub report_length : length (report f) ≤ 363308
  unfolding report
  report_length =
      let v = verdict_written f in
      let rest : length (cond (eqb (verdict f).number 0) (settings_lines (settings f)) []) ≤ 363286 =
      where_most _ (settings_lines (settings f)) (λ e. settings_lines_length (settings f) (file_bounded f ((accepted_iff f).0 (eqb-true (verdict f).number 0 e)).form)) in
      rw length-append
      (omega (
        arith,
        line_length_lem 86 3 (verdict f).number (verdict f).first (verdict f).second v.number v.first v.second,
        rest,
      ))
