-- What a state holds after a load: each table says what the file's settings and assignments say, and every other byte of the state is 0. Assumes nothing.
use Rattle.std.specs.Prelude.{ℕ, ◌+◌, ◌*◌, ◌≤◌, ◌<◌, ◌≡◌, List, ◌&&◌, cond, leb, length, get_or}
use Rattle.search.specs.Search.{Among}
use Rattle.order.specs.Closure.{Relation, Agree}
use Rattle.order.specs.Table.{related}
use Rattle.rolefile.specs.declared.Verdict.{Verdict}
use Rattle.rolefile.specs.Form.{fine, refusal, unless, ◌then◌}
use Rattle.rolefile.specs.Said.{assigned}
use Rattle.policy.specs.Settings.{Settings, settings}
use Rattle.policy.specs.Policy.{may, r_level, w_level, level_number}
use Rattle.policy.specs.Tables.{label_count_at, role_count_at, user_count_at, card_count_at, dominance_at, clearances_at, card_labels_at, r_levels_at, w_levels_at, seniors_at, assigned_at, readers_at, writers_at, state_size, word, byte_of, mark_at}
use Rattle.policy.specs.Verdict.{verdict}

pub record Counts (a b c d : ℕ) (ys : List ℕ) : Type 0 where
  pub labels : word ys label_count_at ≡ a
  pub roles : word ys role_count_at ≡ b
  pub users : word ys user_count_at ≡ c
  pub cards : word ys card_count_at ≡ d

abbrev pub Counted : Settings → List ℕ → Type 0
Counted σ = Counts σ.labels σ.roles σ.users σ.cards

-- a number past a file's count has no line, and so no label
pub record Labelled (σ : Settings) (ys : List ℕ) : Type 0 where
  pub users : (u : ℕ) → Among 256 u → byte_of ys clearances_at u ≡ σ.clearance u
  pub cards : (o : ℕ) → Among 512 o → byte_of ys card_labels_at o ≡ σ.card_label o

abbrev pub Dominating : Settings → List ℕ → Type 0
Dominating σ ys = (a b : ℕ) → Among 32 a → Among 32 b
    → get_or ys (mark_at a b) 0 ≡ cond (leb a σ.labels && σ.dominates a b) 1 0

-- the row of a role holds its seniors, itself included
abbrev pub Seniors : Settings → List ℕ → Type 0
Seniors σ ys = Agree 128 128 (related ys seniors_at) (λ q r. leb q σ.roles && σ.senior r q)

-- the row of a card, in the table at `at`, holds the roles that may read it (d = 1) or write it (d = 2)
abbrev pub Allows : Settings → ℕ → ℕ → List ℕ → Type 0
Allows σ d at ys = Agree 512 128 (related ys at) (λ o r. may σ d r o)

pub record Permitting (σ : Settings) (ys : List ℕ) : Type 0 where
  pub readers : Allows σ 1 readers_at ys
  pub writers : Allows σ 2 writers_at ys

-- a role's two bytes are its r-level and its w-level, as `level_number`
pub record Levelled (σ : Settings) (ys : List ℕ) : Type 0 where
  pub reads : (r : ℕ) → Among 128 r → byte_of ys r_levels_at r ≡ level_number (r_level σ r)
  pub writes : (r : ℕ) → Among 128 r → byte_of ys w_levels_at r ≡ level_number (w_level σ r)

-- the row of a user holds the roles that the user is assigned to
abbrev pub Assigning : Relation → List ℕ → Type 0
Assigning α ys = Agree 256 128 (related ys assigned_at) α

-- byte i belongs to no table: those after the counts, those kept for later tables, and those after the last one, among them the places: "closes all sessions"
abbrev pub Unused : ℕ → Type 0
Unused i = (card_count_at + 2 ≤ i) × (dominance_at ≤ i → assigned_at + 16 * 256 ≤ i) × (readers_at ≤ i → writers_at + 16 * 512 ≤ i)

-- each table of ys but that of assignments says what the settings say
pub record Describes (σ : Settings) (ys : List ℕ) : Type 0 where
  pub counted : Counted σ ys
  pub labelled : Labelled σ ys
  pub dominating : Dominating σ ys
  pub seniors : Seniors σ ys
  pub permitting : Permitting σ ys
  pub levelled : Levelled σ ys

pub record Image (σ : Settings) (α : Relation) (ys : List ℕ) : Type 0 where
  pub tables : Describes σ ys
  pub assigning : Assigning α ys
  pub unused : (i : ℕ) → Unused i → i < state_size → get_or ys i 0 ≡ 0

-- ---- a load: "7: load with a state shorter than 65,536 bytes", then the verdict

unfoldable pub load_verdict : ℕ → List ℕ → Verdict
load_verdict n f = unless (leb state_size n) (refusal 7 0 0) fine then verdict f

-- the state after a load answered with v: as it was on a refusal; else its first 65,536 bytes are the file's, and the rest as it was
pub record Loaded (f : List ℕ) (v : Verdict) (xs ys : List ℕ) : Type 0 where
  pub answer : v ≡ load_verdict (length xs) f
  pub refused : (v.number ≡ 0 → ⊥) → ys ≡ xs
  pub done : v.number ≡ 0 → Image (settings f) (assigned f) ys
  pub rest : (i : ℕ) → state_size ≤ i → get_or ys i 0 ≡ get_or xs i 0
  pub long : length ys ≡ length xs
