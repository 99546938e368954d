-- What a run shows and leaves, by the settings alone: the numbers are the rules', the bytes and stores follow. So a run can be computed, and two runs compared, without the state's
-- bytes. Assumes nothing.
use Prim.Native.Nat.{ℕ}
use mathlib.Core.Path.{◌≡◌, refl, ◌∙◌}
use mathlib.Core.List.{List, [], ◌∷◌}
use Rattle.policy.specs.Settings.{Settings}
use Rattle.monitor.specs.Runs.{Call, Memory, part_of, store_of, after, run}
use Rattle.monitor.specs.Rules.{Standing, rule, next}
use Rattle.monitor.proofs.Demand2.{Runs, runs_next, runs_number}
use Rattle.isolation.specs.TwoRuns.{Open, track, shared, keep, Shown, shown}

-- the store that a call leaves
abbrev pub store_by : Settings → ℕ → Standing → List ℕ → Call → List ℕ
store_by σ size now store c = store_of (rule σ size now c) store c

unfoldable pub shown_by : Settings → ℕ → ℕ → Open → Standing → List ℕ → List Call → List Shown
shown_by σ L size t now store [] = []
shown_by σ L size t now store (c ∷ cs) =
    let n = rule σ size now c in
    let left = store_of n store c in
    keep (shared σ L t c) (record { answer = record { number = n; bytes = part_of n store c }; store = left })
    (shown_by σ L size (track σ t c) (next σ now c) left cs)

unfoldable pub end_by : Settings → ℕ → Standing → List ℕ → List Call → List ℕ
end_by σ size now store [] = store
end_by σ size now store (c ∷ cs) = end_by σ size (next σ now c) (store_by σ size now store c) cs

pub shown_by_lem : (σ : Settings) (size L : ℕ) (cs : List Call) (t : Open) (now : Standing) (m : Memory) → Runs σ now size m → shown σ L t m cs ≡ shown_by σ L size t now m.store cs
unfolding shown shown_by
shown_by_lem σ size L [] t now m runs = refl
shown_by_lem σ size L (c ∷ cs) t now m runs =
    rw (shown_by_lem σ size L cs (track σ t c) (next σ now c) (after m c) (runs_next σ now size m runs c), runs_number σ now size m runs c)

pub end_by_lem : (σ : Settings) (size : ℕ) (cs : List Call) (now : Standing) (m : Memory) → Runs σ now size m → (run m cs).store ≡ end_by σ size now m.store cs
unfolding run end_by
end_by_lem σ size [] now m runs = refl
end_by_lem σ size (c ∷ cs) now m runs = end_by_lem σ size cs (next σ now c) (after m c) (runs_next σ now size m runs c) ∙ rw (runs_number σ now size m runs c)
