-- The report on a file: "in lines of the same form, V (number, the two numbers of its place), R for each role (role, r-level, w-level; 0 free, 99
-- undefined), F for each flow in rising order (from, to), C (role on a circle or 0)"; of a file that is refused, V alone. Assumes nothing.
use Rattle.std.specs.Prelude.{ℕ, ◌≤◌, ◌≡◌, List, [], ◌∷◌, ◌++◌, cond, leb, eqb, length, take, get_or}
use Rattle.order.specs.Closure.{Relation}
use Rattle.rolefile.specs.Line.{newline}
use Rattle.rolefile.specs.Decimal.{blanks, columns_of}
use Rattle.text.specs.Text.{each, each_pair}
use Rattle.policy.specs.Settings.{Settings, settings}
use Rattle.policy.specs.Policy.{r_level, w_level, level_number}
use Rattle.policy.specs.Verdict.{verdict}
use Rattle.policy.specs.Flow.{flows, flow_circle}
use Rattle.policy.specs.Tables.{r_levels_at, w_levels_at, role_count, level_in, flows_in, circle_in}

-- a line: the byte of its letter, as many of three numbers as are in use, a field without use, and byte 10
unfoldable pub line : ℕ → ℕ → ℕ → ℕ → ℕ → List ℕ
line letter used a b c = letter ∷ (columns_of (leb 1 used) a ++ (columns_of (leb 2 used) b ++ (columns_of (leb 3 used) c ++ (blanks ++ (newline ∷ [])))))

-- that of as many numbers as are given
abbrev pub line_with : ℕ → List ℕ → List ℕ
line_with letter ns = line letter (length ns) (get_or ns 0 0) (get_or ns 1 0) (get_or ns 2 0)

-- ---- the lines of a policy, by its levels and its flow

-- the line R of a role; 82 is the byte of R
abbrev pub role_line : (ℕ → ℕ) → (ℕ → ℕ) → ℕ → List ℕ
role_line reads writes r = line 82 3 r (reads r) (writes r)

-- those of the first n roles
abbrev pub role_lines : (ℕ → ℕ) → (ℕ → ℕ) → ℕ → List ℕ
role_lines reads writes n = each n (role_line reads writes)

-- the line F from a role to another, where the first flows to the second; 70 is the byte of F
unfoldable pub flow_line : Relation → ℕ → ℕ → List ℕ
flow_line flow from to = cond (flow from to) (line 70 2 from to 0) []

-- those from a role to the first n roles
abbrev pub flows_from : Relation → ℕ → ℕ → List ℕ
flows_from flow n from = each n (flow_line flow from)

-- those of the first n roles
abbrev pub flow_lines : Relation → ℕ → List ℕ
flow_lines flow n = each_pair n (flow_line flow)

-- those of n roles, and the line C; 67 is the byte of C
unfoldable pub policy_lines : ℕ → (ℕ → ℕ) → (ℕ → ℕ) → Relation → ℕ → List ℕ
policy_lines n reads writes flow role = role_lines reads writes n ++ (flow_lines flow n ++ line 67 1 role 0 0)

-- ---- the report; 86 is the byte of V

abbrev pub settings_lines : Settings → List ℕ
settings_lines σ = policy_lines σ.roles (λ r. level_number (r_level σ r)) (λ r. level_number (w_level σ r)) (flows σ) (flow_circle σ)

unfoldable pub report : List ℕ → List ℕ
report f =
    line 86 3 (verdict f).number (verdict f).first (verdict f).second ++ cond (eqb (verdict f).number 0) (settings_lines (settings f)) []

-- ---- the same lines of a state

abbrev pub state_lines : List ℕ → List ℕ
state_lines xs = policy_lines (role_count xs) (level_in xs r_levels_at) (level_in xs w_levels_at) (flows_in xs) (circle_in xs)

-- the first n bytes of xs are there, and are n
abbrev pub IsPrefixLen : ℕ → List ℕ → Type 0
IsPrefixLen n xs = (n ≤ length xs) × (n ≡ length (take n xs))
