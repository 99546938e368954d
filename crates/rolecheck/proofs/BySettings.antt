-- The lines of a state whose tables describe bounded settings are those of the settings. Assumes nothing.
use Prim.Native.Nat.{ℕ, ◌≤◌}
use mathlib.Core.Path.{◌≡◌}
use mathlib.Core.List.{List}
use lib.ListN.{length}
use Rattle.search.specs.Search.{Among}
use Rattle.search.proofs.Truth.{among_iff}
use Rattle.order.specs.Closure.{Relation}
use Rattle.policy.specs.Settings.{Settings, Bounded}
use Rattle.policy.specs.Policy.{r_level, w_level, level_number}
use Rattle.policy.specs.Flow.{flows}
use Rattle.policy.specs.Tables.{r_levels_at, w_levels_at, level_in, flows_in}
use Rattle.policy.specs.Image.{Describes}
use Rattle.policy.proofs.Flowing.{a_state}
use Rattle.policy.proofs.Meaning.{role_few, role_count_by, flow_by, circle_by}
use Rattle.text.proofs.Each.{each_agree, each_pair_agree}
use Rattle.rolecheck.specs.Report.{role_line, flow_line, policy_lines, settings_lines, state_lines}

line_agrees : (flow flow₂ : Relation) (r q : ℕ) → flow r q ≡ flow₂ r q → flow_line flow r q ≡ flow_line flow₂ r q
unfolding flow_line
line_agrees flow flow₂ r q e = rw e

module _ (σ : Settings) (bounded : Bounded σ) (xs : List ℕ) (long : 65536 ≤ length xs) (tables : Describes σ xs) where
  levels_by : (r : ℕ) → Among σ.roles r → (level_in xs r_levels_at r ≡ level_number (r_level σ r)) × (level_in xs w_levels_at r ≡ level_number (w_level σ r))
  levels_by r w =
      rw (a_state xs long, (among_iff 128 r).1 (role_few σ bounded r w)) (tables.levelled.reads r (role_few σ bounded r w), tables.levelled.writes r (role_few σ bounded r w))

  pub lines_by : state_lines xs ≡ settings_lines σ
  unfolding policy_lines
  lines_by =
      rw (
        role_count_by σ bounded xs tables long,
        circle_by σ bounded xs tables long,
        each_agree σ.roles (role_line (level_in xs r_levels_at) (level_in xs w_levels_at)) (role_line (λ r. level_number (r_level σ r)) (λ r. level_number (w_level σ r)))
            (λ r w. rw ((levels_by r w).0, (levels_by r w).1)),
        each_pair_agree σ.roles (flow_line (flows_in xs)) (flow_line (flows σ))
            (λ r q v w. line_agrees (flows_in xs) (flows σ) r q (flow_by σ bounded xs tables long r q (role_few σ bounded r v) (role_few σ bounded q w))),
      )
