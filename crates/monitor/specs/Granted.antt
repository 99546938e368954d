-- Demand 2's session half as properties: when a call is done, by the settings, the assignments at the load and the calls cs since. `done_iff` under proofs/ shows that these are exactly
-- the calls that the rules, and so the exported functions, answer with 0. Assumes nothing.
use Rattle.std.specs.Prelude.{ℕ, ◌+◌, ◌*◌, ◌≤◌, ◌≡◌, List, [], ◌∷◌, ◌++◌, Bool, true, false, ◌&&◌, eqb, length}
use Rattle.search.specs.Search.{Among}
use Rattle.order.specs.Closure.{Relation}
use Rattle.policy.specs.Settings.{Settings}
use Rattle.policy.specs.Policy.{may}
use Rattle.policy.specs.Accepted.{ReadsUnder, WritesOver}
use Rattle.monitor.specs.Runs.{Call, opens, closes, takes, drops, reads, writes}
use Rattle.monitor.specs.Rules.{Standing, begun, rule, next, standing}

-- ---- what stands since a call

-- a closing of place p, or a dropping there of a role of those that `which` tells
abbrev pub ends : Settings → Standing → ℕ → (ℕ → Bool) → Call → Bool
ends σ now p which (opens q u l) = false
ends σ now p which (closes q) = eqb q p
ends σ now p which (takes q r) = false
ends σ now p which (drops q r) = eqb q p && which r
ends σ now p which (reads q o k n) = false
ends σ now p which (writes q o k bytes) = false

abbrev pub NoneEnds : Settings → Standing → ℕ → (ℕ → Bool) → List Call → Type 0
NoneEnds σ now p which [] = Unit {0}
NoneEnds σ now p which (c ∷ cs) = (ends σ now p which c ≡ false) × NoneEnds σ (next σ now c) p which cs

-- cs, which found things standing so, has this call, it was done, and no later call of cs ends what it began. (The number of an opening or a taking does not depend on the store,
-- hence size 0.)
pub record Since (σ : Settings) (now : Standing) (p : ℕ) (which : ℕ → Bool) (call : Call) (cs : List Call) : Type 0 where
  pub earlier : List Call
  pub later : List Call
  pub split : cs ≡ earlier ++ (call ∷ later)
  pub done : rule σ 0 (standing σ now earlier) call ≡ 0
  pub lasts : NoneEnds σ (next σ (standing σ now earlier) call) p which later

-- place p was opened for user u at label l, and not closed since
abbrev pub OpenFor : Settings → Relation → List Call → ℕ → ℕ → ℕ → Type 0
OpenFor σ α cs p u l = Since σ (begun α) p (λ r. false) (opens p u l) cs

-- role r was taken at place p, and neither dropped nor the place closed since
abbrev pub Holds : Settings → Relation → List Call → ℕ → ℕ → Type 0
Holds σ α cs p r = Since σ (begun α) p (λ q. eqb q r) (takes p r) cs

-- ---- when each call is done

-- who is assigned to what after the calls cs
abbrev pub assigned_by : Settings → Relation → List Call → Relation
assigned_by σ α cs = (standing σ (begun α) cs).assigned

pub record MayOpen (σ : Settings) (α : Relation) (cs : List Call) (p u l : ℕ) : Type 0 where
  pub place : Among 64 p
  pub free : (v m : ℕ) → OpenFor σ α cs p v m → ⊥
  pub user : Among σ.users u
  pub label : Among σ.labels l
  pub cleared : σ.dominates (σ.clearance u) l ≡ true

-- the place has a session
pub record OpenPlace (σ : Settings) (α : Relation) (cs : List Call) (p : ℕ) : Type 0 where
  pub user : ℕ
  pub label : ℕ
  pub since : OpenFor σ α cs p user label

pub record MayTake (σ : Settings) (α : Relation) (cs : List Call) (p r : ℕ) : Type 0 where
  pub session : OpenPlace σ α cs p
  pub role : Among σ.roles r
  pub member : (q : ℕ) × Among σ.roles q × (assigned_by σ α cs session.user q ≡ true) × (σ.senior q r ≡ true)
  pub reads : ReadsUnder σ session.label r
  pub writes : WritesOver σ session.label r

pub record MayDrop (σ : Settings) (α : Relation) (cs : List Call) (p r : ℕ) : Type 0 where
  pub session : OpenPlace σ α cs p
  pub role : Among σ.roles r

-- a read (m = 1) or a write (m = 2) of n bytes from offset k on of card o, in a store of `size` bytes
pub record MayUse (σ : Settings) (α : Relation) (cs : List Call) (m size p o k n : ℕ) : Type 0 where
  pub session : OpenPlace σ α cs p
  pub card : Among σ.cards o
  pub role : (r : ℕ) × Holds σ α cs p r × (may σ m r o ≡ true)
  pub in_card : k + n ≤ 64
  pub in_store : 64 * σ.cards ≤ size

abbrev pub Granted : Settings → Relation → ℕ → List Call → Call → Type 0
Granted σ α size cs (opens p u l) = MayOpen σ α cs p u l
Granted σ α size cs (closes p) = OpenPlace σ α cs p
Granted σ α size cs (takes p r) = MayTake σ α cs p r
Granted σ α size cs (drops p r) = MayDrop σ α cs p r
Granted σ α size cs (reads p o k n) = MayUse σ α cs 1 size p o k n
Granted σ α size cs (writes p o k bytes) = MayUse σ α cs 2 size p o k (length bytes)
