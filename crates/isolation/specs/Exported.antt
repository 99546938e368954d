-- Runs of the exported functions themselves: each call by what its function's contract cites, the read by its number call and the bytes of its part. `exported`
-- under proofs/ carries demand 3 over to them. Assumes nothing.
use Rattle.std.specs.Prelude.{ℕ, ◌≡◌, List, [], ◌∷◌}
use Rattle.policy.specs.Settings.{Settings, settings}
use Rattle.monitor.specs.Calls.{Opens, Closes, Takes, Drops, read_number, read_bytes, Writes}
use Rattle.monitor.specs.Runs.{Call, opens, closes, takes, drops, reads, writes, Memory}
use Rattle.isolation.specs.TwoRuns.{Answer, Open, none_open, track, shared, keep, Shown, SameFor, OfTwoRuns}

-- the call c, made on the memory m, answered a and left n
abbrev pub Made : Memory → Call → Answer → Memory → Type 0
Made m (opens p u l) a n = Opens m.state p u l a.number n.state × (n.store ≡ m.store) × (a.bytes ≡ [])
Made m (closes p) a n = Closes m.state p a.number n.state × (n.store ≡ m.store) × (a.bytes ≡ [])
Made m (takes p r) a n = Takes m.state p r a.number n.state × (n.store ≡ m.store) × (a.bytes ≡ [])
Made m (drops p r) a n = Drops m.state p r a.number n.state × (n.store ≡ m.store) × (a.bytes ≡ [])
Made m (reads p o k s) a n = (a.number ≡ read_number m.state m.store p o k s) × (n ≡ m) × (a.bytes ≡ read_bytes m.state m.store p o k s)
Made m (writes p o k bytes) a n = Writes m.state m.store p o k bytes a.number n.store × (n.state ≡ m.state) × (a.bytes ≡ [])

-- the calls of a list made one after the other from m on: what L's shared calls show, and the memory at the end
abbrev pub Makes : Settings → ℕ → Open → Memory → List Call → List Shown → Memory → Type 0
Makes σ L t m [] xs e = (xs ≡ []) × (e ≡ m)
Makes σ L t m (c ∷ cs) xs e =
    (a : Answer) × (n : Memory) × (ys : List Shown) × Made m c a n × Makes σ L (track σ t c) n cs ys e
    × (xs ≡ keep (shared σ L t c) (record { answer = a; store = n.store }) ys)

abbrev pub IsolatedExports : List ℕ → Type 0
IsolatedExports f =
    OfTwoRuns f (λ L m₁ m₂ cs₁ cs₂.
    (xs₁ xs₂ : List Shown) (e₁ e₂ : Memory) → Makes (settings f) L none_open m₁ cs₁ xs₁ e₁ → Makes (settings f) L none_open m₂ cs₂ xs₂ e₂
    → SameFor (settings f) L xs₁ xs₂ e₁.store e₂.store)
