-- A contract leaves its function one answer and one outcome, and there is one for every call, so a run of the exported functions is the run of the definitions. Assumes nothing.
use Prim.Native.Nat.{ℕ}
use mathlib.Core.Path.{◌≡◌, refl, ap, ◌∙◌}
use mathlib.Core.List.{List, [], ◌∷◌}
use Rattle.policy.specs.Settings.{Settings, settings}
use Rattle.monitor.specs.Runs.{Call, opens, closes, takes, drops, reads, writes, Memory, number, part_of, part, state_after, store_of, store_after, after, run}
use Rattle.isolation.specs.TwoRuns.{Answer, answer, Open, none_open, track, Shown, shown}
use Rattle.isolation.specs.Exported.{Made, Makes, IsolatedExports}
use Rattle.isolation.proofs.Isolation.{isolation}

-- an answer and a memory, by their parts
answered : (m n : Memory) (c : Call) (a : Answer) → a.number ≡ number m c → a.bytes ≡ part m c → n.state ≡ state_after m c → n.store ≡ store_after m c
    → (a ≡ answer m c) × (n ≡ after m c)
answered m n c a e b s t = (λ i. record { number = e i; bytes = b i }, λ i. record { state = s i; store = t i })

-- the contracts leave a call one answer and one outcome
pub made_once : (m : Memory) (c : Call) (a : Answer) (n : Memory) → Made m c a n → (a ≡ answer m c) × (n ≡ after m c)
unfolding number part_of state_after store_of
made_once m (opens p u l) a n (h, s, b) = answered m n (opens p u l) a h.number b h.state s
made_once m (closes p) a n (h, s, b) = answered m n (closes p) a h.number b h.state s
made_once m (takes p r) a n (h, s, b) = answered m n (takes p r) a h.number b h.state s
made_once m (drops p r) a n (h, s, b) = answered m n (drops p r) a h.number b h.state s
made_once m (reads p o k x) a n (h, s, b) = answered m n (reads p o k x) a h b (ap (λ (y : Memory). y.state) s) (ap (λ (y : Memory). y.store) s)
made_once m (writes p o k bytes) a n (h, s, b) = answered m n (writes p o k bytes) a h.number b s h.store

-- and of a list of calls one outcome
pub makes_once : (σ : Settings) (L : ℕ) (cs : List Call) (t : Open) (m e : Memory) (xs : List Shown) → Makes σ L t m cs xs e → (xs ≡ shown σ L t m cs) × (e ≡ run m cs)
unfolding shown run
makes_once σ L [] t m e xs h = h
makes_once σ L (c ∷ cs) t m e xs (a, n, ys, call, rest, shows) =
    let (x, y) = made_once m c a n call in
    let (z, w) = makes_once σ L cs (track σ t c) n e ys rest in
    (shows ∙ rw (z, x, y), w ∙ rw y)

-- ---- and there is one

pub made : (m : Memory) (c : Call) → Made m c (answer m c) (after m c)
unfolding number part_of state_after store_of
made m (opens p u l) = (record { number = refl; state = refl }, refl, refl)
made m (closes p) = (record { number = refl; state = refl }, refl, refl)
made m (takes p r) = (record { number = refl; state = refl }, refl, refl)
made m (drops p r) = (record { number = refl; state = refl }, refl, refl)
made m (reads p o k n) = (refl, refl, refl)
made m (writes p o k bytes) = (record { number = refl; store = refl }, refl, refl)

pub makes : (σ : Settings) (L : ℕ) (cs : List Call) (t : Open) (m : Memory) → Makes σ L t m cs (shown σ L t m cs) (run m cs)
unfolding shown run
makes σ L [] t m = (refl, refl)
makes σ L (c ∷ cs) t m =
    (answer m c, after m c, shown σ L (track σ t c) (after m c) cs, made m c, makes σ L cs (track σ t c) (after m c), refl)

-- ---- demand 3, of the exported functions

pub exported : (f : List ℕ) → IsolatedExports f
exported f accepted a b L label s₁ s₂ long same cs₁ cs₂ same-shared xs₁ xs₂ e₁ e₂ makes₁ makes₂ =
    let claim = isolation f accepted a b L label s₁ s₂ long same cs₁ cs₂ same-shared in
    let (x₁, y₁) = makes_once (settings f) L cs₁ none_open _ e₁ xs₁ makes₁ in
    let (x₂, y₂) = makes_once (settings f) L cs₂ none_open _ e₂ xs₂ makes₂ in
    rw (x₁, x₂, y₁, y₂) (record { answers = claim.answers; cards = claim.cards })
