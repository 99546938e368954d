-- "Role flow", document 01's word for 002's information flow between the contexts of roles, with shared writing (document 02, change 9). It does not bear on acceptance. Assumes nothing.
use Rattle.std.specs.Prelude.{ℕ, ◌≡◌, true, not, ◌&&◌, ◌||◌, eqb}
use Rattle.search.specs.Search.{some, Among}
use Rattle.order.specs.Closure.{Relation, circle}
use Rattle.policy.specs.Settings.{Settings}
use Rattle.policy.specs.Policy.{may}

-- "Role r flows to another role q where a card that r may write is a card that q may read", and "also where both update the same card" (document 02, change 9)
unfoldable pub flows : Settings → Relation
flows σ r q = not (eqb r q) && some σ.cards (λ o. may σ 2 r o && (may σ 1 q o || may σ 2 q o))

-- "the lowest role on a circle of two or more roles, or 0": no role flows to itself, so a circle has two or more
unfoldable pub flow_circle : Settings → ℕ
flow_circle σ = circle σ.roles (flows σ)

-- ---- what makes a flow, as properties

-- a card that r may write is one that q may read (m = 1) or write (m = 2)
abbrev pub WritesInto : Settings → ℕ → ℕ → ℕ → Type 0
WritesInto σ m r q = (o : ℕ) × Among σ.cards o × (may σ 2 r o ≡ true) × (may σ m q o ≡ true)

-- r and q "write one card"
abbrev pub ShareWriting : Settings → ℕ → ℕ → Type 0
ShareWriting σ r q = WritesInto σ 2 r q
