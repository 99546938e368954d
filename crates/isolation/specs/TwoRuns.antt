-- Demand 3, in the order and words of "Two runs side by side": shared calls, struck calls and cards under L are document 01's terms. Assumes nothing.
use Rattle.std.specs.Prelude.{ℕ, ◌<◌, ◌≡◌, List, [], ◌∷◌, Bool, true, false, ◌&&◌, cond, length, get_or}
use Rattle.std.proofs.Math.Option.{Option, none, some}
use Rattle.search.specs.Search.{among, Among}
use Rattle.rolefile.specs.Said.{labels}
use Rattle.policy.specs.Settings.{Settings, settings}
use Rattle.policy.specs.Accepted.{Accepted}
use Rattle.monitor.specs.Calls.{part_at}
use Rattle.monitor.specs.Places.{Places, all_free, is_free, put}
use Rattle.monitor.specs.Runs.{Call, opens, closes, takes, drops, reads, writes, Memory, Start, loaded, number, part, after, run}

-- "A read stands for both its calls, on the same state and store, and answers with its number and the bytes of its part"; the other calls answer with their number
pub record Answer : Type 0 where
  pub number : ℕ
  pub bytes : List ℕ

abbrev pub answer : Memory → Call → Answer
answer m c = record { number = number m c; bytes = part m c }

-- ---- "the file and the calls alone tell which places are open, and at which label": the file by its settings

-- the label of the session at each place; a place is open where it is not free
abbrev pub Open : Type 0
Open = Places ℕ

abbrev pub none_open : Open
none_open = all_free

-- "an opening that the rules grant (place 1 to 64 and not open, user and label in range, clearance dominating the label)"
unfoldable pub grants : Settings → Open → ℕ → ℕ → ℕ → Bool
grants σ t p u l = among 64 p && (is_free (t p) && (among σ.users u && (among σ.labels l && σ.dominates (σ.clearance u) l)))

-- "A place is open from an opening that the rules grant" "to the next closing of that place. The label of its session is the one that this opening named"
unfoldable pub track : Settings → Open → Call → Open
track σ t (opens p u l) = cond (grants σ t p u l) (put t p (some l)) t
track σ t (closes p) = put t p none
track σ t (takes p r) = t
track σ t (drops p r) = t
track σ t (reads p o k n) = t
track σ t (writes p o k bytes) = t

-- ---- "The shared calls are all openings and closings, refused ones too, and each call at a place that is then open with a label L dominates"

-- the place is open with a label that L dominates
abbrev pub under : Settings → ℕ → Option ℕ → Bool
under σ L none = false
under σ L (some l) = σ.dominates L l

unfoldable pub shared : Settings → ℕ → Open → Call → Bool
shared σ L t (opens p u l) = true
shared σ L t (closes p) = true
shared σ L t (takes p r) = under σ L (t p)
shared σ L t (drops p r) = under σ L (t p)
shared σ L t (reads p o k n) = under σ L (t p)
shared σ L t (writes p o k bytes) = under σ L (t p)

abbrev pub keep : {A : Type 0} → Bool → A → List A → List A
keep true x xs = x ∷ xs
keep false x xs = xs

-- "Strike every other call": the shared calls of a list are left
unfoldable pub shared_calls : Settings → ℕ → Open → List Call → List Call
shared_calls σ L t [] = []
shared_calls σ L t (c ∷ cs) = keep (shared σ L t c) c (shared_calls σ L (track σ t c) cs)

-- ---- what is compared

-- a shared call's answer, and the store after it
pub record Shown : Type 0 where
  pub answer : Answer
  pub store : List ℕ

-- of each shared call of a run, in turn
unfoldable pub shown : Settings → ℕ → Open → Memory → List Call → List Shown
shown σ L t m [] = []
shown σ L t m (c ∷ cs) = keep (shared σ L t c) (record { answer = answer m c; store = (after m c).store }) (shown σ L (track σ t c) (after m c) cs)

-- "The cards under L are those whose label L dominates; of a store shorter than 64 × cards, the bytes it has of them". Stores of one length, which no call changes
-- (`store_length` under monitor/proofs): a byte that neither has is 0 in both
abbrev pub SameCards : Settings → ℕ → List ℕ → List ℕ → Type 0
SameCards σ L s t = (o i : ℕ) → Among σ.cards o → σ.dominates L (σ.card_label o) ≡ true → i < 64 → get_or s (part_at o i) 0 ≡ get_or t (part_at o i) 0

-- one by one: the same number and bytes, and the same cards under L
abbrev pub Alike : Settings → ℕ → List Shown → List Shown → Type 0
Alike σ L [] [] = Unit {0}
Alike σ L [] (y ∷ ys) = ⊥
Alike σ L (x ∷ xs) [] = ⊥
Alike σ L (x ∷ xs) (y ∷ ys) = (x.answer ≡ y.answer) × SameCards σ L x.store y.store × Alike σ L xs ys

-- two runs alike for L, by what each shows and by the store at its end
pub record SameFor (σ : Settings) (L : ℕ) (xs₁ xs₂ : List Shown) (end₁ end₂ : List ℕ) : Type 0 where
  pub answers : Alike σ L xs₁ xs₂
  pub cards : SameCards σ L end₁ end₂

-- ---- the claim, "about two whole lists of calls": each shared call gets the same number and bytes, and the cards under L are the same after each shared call and at the end

-- of two memories and the calls on them; t tells which places are open at first, and at which label
abbrev pub Claim : Settings → ℕ → Open → Memory → Memory → List Call → List Call → Type 0
Claim σ L t m₁ m₂ cs₁ cs₂ = SameFor σ L (shown σ L t m₁ cs₁) (shown σ L t m₂ cs₂) (run m₁ cs₁).store (run m₂ cs₂).store

-- what is claimed of the label, the memories and the calls holds of every two runs of the file that fall under demand 3; each may start from a load of its own
abbrev pub OfTwoRuns : (f : List ℕ) → (ℕ → Memory → Memory → List Call → List Call → Type 0) → Type 0
OfTwoRuns f Claimed =
    Accepted f → (a b : Start f) (L : ℕ) → Among (labels f) L
    → (s₁ s₂ : List ℕ) → length s₁ ≡ length s₂ → SameCards (settings f) L s₁ s₂
    → (cs₁ cs₂ : List Call) → shared_calls (settings f) L none_open cs₁ ≡ shared_calls (settings f) L none_open cs₂
    → Claimed L (loaded a s₁) (loaded b s₂) cs₁ cs₂

abbrev pub Isolated : List ℕ → Type 0
Isolated f = OfTwoRuns f (λ L. Claim (settings f) L none_open)
