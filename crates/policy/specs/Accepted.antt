-- What an accepted file is, as properties: `Accepted`. What it asks of settings and assignments is of any, whoever made them. `Outcome f v` says what each verdict v on the file f
-- means, place included; each file has just one outcome, its verdict (`Outcomes` under proofs/). Assumes nothing.
use Rattle.std.specs.Prelude.{ℕ, ◌<◌, ◌≡◌, ◌⊎◌, List, Bool, true}
use Rattle.search.specs.Search.{Among, LowestOf}
use Rattle.order.specs.Closure.{Relation, OnCircle, PartialOrder, Irreflexive}
use Rattle.order.specs.Bound.{converse, IsLub, AllJoined, FirstPair}
use Rattle.rolefile.specs.declared.Verdict.{Verdict}
use Rattle.rolefile.specs.Line.{U, O, A, line_at, lines}
use Rattle.rolefile.specs.Form.{fine, refusal}
use Rattle.rolefile.specs.Said.{labels, roles, users, cards, over, above, assigned}
use Rattle.rolefile.specs.WellFormed.{Sized, GoodLine, GoodLines, OneEach, LineRefused, LowestUnlabelled, WellFormed}
use Rattle.policy.specs.Settings.{Settings, dominates, senior, settings}
use Rattle.policy.specs.Policy.{may_at}

-- ---- levels, 003 Definitions 6 and 7

-- s is not empty
abbrev pub Some : ℕ → (ℕ → Bool) → Type 0
Some n s = (l : ℕ) × Among n l × (s l ≡ true)

-- s is not empty and has no least upper bound: an undefined level
abbrev pub UndefinedLevel : ℕ → Relation → (ℕ → Bool) → Type 0
UndefinedLevel n ge s = Some n s × ((c : ℕ) → IsLub n ge s c → ⊥)

-- s is empty, a free level, or has a least upper bound, and p holds of it
abbrev pub Passing : ℕ → Relation → (ℕ → Bool) → (ℕ → Bool) → Type 0
Passing n ge s p = (Some n s → ⊥) ⊎ ((c : ℕ) × IsLub n ge s c × (p c ≡ true))

-- label l dominates the r-level of r: a bound of the labels read
abbrev pub ReadsUnder : Settings → ℕ → ℕ → Type 0
ReadsUnder σ l r = Passing σ.labels σ.dominates (may_at σ 1 r) (σ.dominates l)

-- the w-level of r dominates label l: a bound of the labels written, in the order turned round
abbrev pub WritesOver : Settings → ℕ → ℕ → Type 0
WritesOver σ l r = Passing σ.labels (converse σ.dominates) (may_at σ 2 r) (λ c. σ.dominates c l)

-- 14: an undefined w-level: there are writes and no greatest lower bound
abbrev pub NoWriteLevel : Settings → ℕ → Type 0
NoWriteLevel σ r = UndefinedLevel σ.labels (converse σ.dominates) (may_at σ 2 r)

-- label y is "dominated by the clearance" of user u and "lies at or above the r-level and at or below the w-level" of role r, "free levels passing" (document 02, change 1)
pub record Serves (σ : Settings) (u r y : ℕ) : Type 0 where
  pub label : Among σ.labels y
  pub cleared : σ.dominates (σ.clearance u) y ≡ true
  pub reads : ReadsUnder σ y r
  pub writes : WritesOver σ y r

-- for an A line: some label serves
abbrev pub WithinLevels : Settings → ℕ → ℕ → Type 0
WithinLevels σ u r = (y : ℕ) × Serves σ u r y

-- ---- what acceptance asks of settings and of assignments

-- "Both must be partial orders. Every two labels must have a least upper bound."
pub record Lawful (σ : Settings) : Type 0 where
  pub dominance : PartialOrder σ.labels σ.dominates
  pub joins : AllJoined σ.labels σ.dominates
  pub seniority : PartialOrder σ.roles σ.senior

-- each assignment has a label that serves
abbrev pub AllWithinLevels : Settings → Relation → Type 0
AllWithinLevels σ α = (u r : ℕ) → α u r ≡ true → WithinLevels σ u r

-- ---- an accepted file

pub record Accepted (f : List ℕ) : Type 0 where
  pub form : WellFormed f
  pub lawful : Lawful (settings f)
  pub assignments : AllWithinLevels (settings f) (assigned f)
  -- "a line D a a included", and the same for roles: no line says that a thing is over itself
  pub no_label_itself : Irreflexive (labels f) (over f)
  pub no_role_itself : Irreflexive (roles f) (above f)

-- ---- the outcomes

-- what holds of an order where no circle was found
pub record GoodOrder (n : ℕ) (e ge : Relation) : Type 0 where
  pub order : PartialOrder n ge
  pub strict : Irreflexive n e

abbrev pub LabelOrder : List ℕ → Type 0
LabelOrder f = GoodOrder (labels f) (over f) (dominates f)

abbrev pub RoleOrder : List ℕ → Type 0
RoleOrder f = GoodOrder (roles f) (above f) (senior f)

-- what holds when seniority is looked at
pub record Ordered (f : List ℕ) : Type 0 where
  pub form : WellFormed f
  pub dominance : LabelOrder f
  pub joins : AllJoined (labels f) (dominates f)

-- line i, where it is an A line, has a label that serves
abbrev pub GoodAssignment : List ℕ → ℕ → Type 0
GoodAssignment f i = (line_at f i).letter ≡ A → WithinLevels (settings f) (line_at f i).a (line_at f i).b

-- the lowest thing on a circle
abbrev pub LowestOnCircle : ℕ → Relation → ℕ → Type 0
LowestOnCircle n e = LowestOf n (OnCircle n e) (λ a. OnCircle n e a → ⊥)

-- why the assignment of u to r is refused
pub data AssignRefused (σ : Settings) (u r : ℕ) : ℕ → Type 0 where
  no_level : NoWriteLevel σ r → AssignRefused σ u r 14
  reads_more : (NoWriteLevel σ r → ⊥) → (ReadsUnder σ (σ.clearance u) r → ⊥) → AssignRefused σ u r 15
  no_label : (NoWriteLevel σ r → ⊥) → ReadsUnder σ (σ.clearance u) r → (WithinLevels σ u r → ⊥) → AssignRefused σ u r 16

pub data Outcome (f : List ℕ) : Verdict → Type 0 where
  accepted : Accepted f → Outcome f fine
  bad_size : (Sized f → ⊥) → Outcome f (refusal 1 0 0)
  bad_line : {n k : ℕ} → Sized f → Among (lines f) k → ((j : ℕ) → Among (lines f) j → j < k → GoodLine f j) → LineRefused f k n → Outcome f (refusal n k 0)
  bad_user : {u : ℕ} → Sized f → GoodLines f → LowestUnlabelled f U (users f) u → Outcome f (refusal 6 1 u)
  bad_card : {o : ℕ} → Sized f → GoodLines f → OneEach f U (users f) → LowestUnlabelled f O (cards f) o → Outcome f (refusal 6 2 o)
  label_circle : {a : ℕ} → WellFormed f → LowestOnCircle (labels f) (over f) a → Outcome f (refusal 11 a 0)
  no_bound : {a b : ℕ} → WellFormed f → LabelOrder f → FirstPair (labels f) (dominates f) a b → Outcome f (refusal 12 a b)
  role_circle : {r : ℕ} → Ordered f → LowestOnCircle (roles f) (above f) r → Outcome f (refusal 13 r 0)
  bad_assignment : {n i : ℕ} → Ordered f → RoleOrder f → Among (lines f) i → (line_at f i).letter ≡ A
      → ((j : ℕ) → Among (lines f) j → j < i → GoodAssignment f j)
      → AssignRefused (settings f) (line_at f i).a (line_at f i).b n → Outcome f (refusal n (line_at f i).a (line_at f i).b)
