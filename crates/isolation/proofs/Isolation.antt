-- Demand 3: a run is like the run of its own shared calls, by induction along the list; so two runs with the same shared calls are alike. By the rules first, then of the memories that
-- run by them. Assumes nothing.
use Prim.Native.Nat.{ℕ, ◌+◌, ◌≤◌}
use mathlib.Core.Path.{◌≡◌, refl, sym, ap, ◌∙◌}
use mathlib.Core.List.{List, [], ◌∷◌}
use mathlib.Core.Bool.{Bool, true, false, true≢false}
use native.Mathlib.Omega.{arith}
use native.Mathlib.Decide.{dec_lt}
use lib.ListN.{length, take, drop}
use Rattle.search.specs.Search.{Among}
use Rattle.search.proofs.Truth.{both}
use Rattle.order.specs.Closure.{Relation, PartialOrder}
use Rattle.rolefile.specs.Said.{assigned}
use Rattle.policy.specs.Settings.{Settings, settings, Bounded}
use Rattle.monitor.specs.Calls.{written, part_at}
use Rattle.monitor.specs.Runs.{Call, opens, closes, takes, drops, reads, writes, Memory, loaded, part_of, store_of}
use Rattle.monitor.specs.Rules.{Sessions, Standing, begun, part_rule, rule, next}
use Rattle.monitor.proofs.Answers.{both_ways, either_way}
use Rattle.monitor.proofs.Frames.{length_written, written_out}
use Rattle.monitor.proofs.Orderly.{Orderly, no_sessions_orderly, part_done, orderly_next}
use Rattle.monitor.proofs.Demand2.{Runs, loaded_runs}
use Rattle.isolation.specs.TwoRuns.{Open, none_open, track, under, shared, shared_calls, Shown, SameCards, Alike, SameFor, Claim, Isolated}
use Rattle.isolation.proofs.Tracking.{Fits, none_fits, place_of, next_other, fits_track}
use Rattle.isolation.proofs.Low.{SameSessions, same_number, next_same, written_same, bytes_same, read_under, write_over}
use Rattle.isolation.proofs.ByRules.{store_by, shown_by, end_by, shown_by_lem, end_by_lem}

-- ---- stores

pub in_store_lem : (σ : Settings) (size m p o k n : ℕ) (s : Sessions) (st : List ℕ) → length st ≡ size → part_rule σ m s size p o k n ≡ 0 → part_at o k + n ≤ length st
in_store_lem σ size m p o k n s st e z = let u = part_done σ m s size p o k n z in omega (arith, u.card, u.in_card, u.in_store)

pub long_after : (σ : Settings) (size : ℕ) (now : Standing) (st : List ℕ) → length st ≡ size → (c : Call) → length (store_by σ size now st c) ≡ size
unfolding store_of rule
long_after σ size now st e (opens p u l) = e
long_after σ size now st e (closes p) = e
long_after σ size now st e (takes p r) = e
long_after σ size now st e (drops p r) = e
long_after σ size now st e (reads p o k n) = e
long_after σ size now st e (writes p o k bytes) =
    either_way (λ x. length x ≡ size) (part_rule σ 2 now.sessions size p o k (length bytes)) (written st (part_at o k) bytes) st
    (λ z. length_written st (part_at o k) bytes (in_store_lem σ size 2 p o k (length bytes) now.sessions st e z) ∙ e) e

-- the same call with the same number
pub cards_after : (σ : Settings) (size L : ℕ) (n₁ n₂ : Standing) (st₁ st₂ : List ℕ) → length st₁ ≡ size → length st₂ ≡ size → (c : Call) → rule σ size n₁ c ≡ rule σ size n₂ c
    → SameCards σ L st₁ st₂ → SameCards σ L (store_by σ size n₁ st₁ c) (store_by σ size n₂ st₂ c)
unfolding store_of rule
cards_after σ size L n₁ n₂ st₁ st₂ e₁ e₂ (opens p u l) e h = h
cards_after σ size L n₁ n₂ st₁ st₂ e₁ e₂ (closes p) e h = h
cards_after σ size L n₁ n₂ st₁ st₂ e₁ e₂ (takes p r) e h = h
cards_after σ size L n₁ n₂ st₁ st₂ e₁ e₂ (drops p r) e h = h
cards_after σ size L n₁ n₂ st₁ st₂ e₁ e₂ (reads p o k n) e h = h
cards_after σ size L n₁ n₂ st₁ st₂ e₁ e₂ (writes p o k bytes) e h =
    let at = part_at o k in
    let s = n₂.sessions in
    rw e
    (both_ways (SameCards σ L) (part_rule σ 2 s size p o k (length bytes)) (written st₁ at bytes) st₁ (written st₂ at bytes) st₂
    (λ z d i w u l.
    written_same st₁ st₂ bytes at (in_store_lem σ size 2 p o k (length bytes) s st₁ e₁ z) (in_store_lem σ size 2 p o k (length bytes) s st₂ e₂ z) (part_at d i) (h d i w u l))
    h)

module _ (σ : Settings) (bounded : Bounded σ) (order : PartialOrder σ.labels σ.dominates) (L : ℕ) (label : Among σ.labels L) (size : ℕ) where
  -- two runs at one moment, alike as far as L can tell
  pub record Pair (t : Open) (n₁ n₂ : Standing) (st₁ st₂ : List ℕ) : Type 0 where
    pub long₁ : length st₁ ≡ size
    pub long₂ : length st₂ ≡ size
    pub known₁ : Orderly σ n₁.sessions
    pub known₂ : Orderly σ n₂.sessions
    pub fits₁ : Fits t n₁.sessions
    pub fits₂ : Fits t n₂.sessions
    pub assigned : n₁.assigned ≡ n₂.assigned
    pub sessions : SameSessions σ L t n₁.sessions n₂.sessions
    pub cards : SameCards σ L st₁ st₂

  -- ---- a shared call

  module _ (t : Open) (n₁ n₂ : Standing) (st₁ st₂ : List ℕ) (pair : Pair t n₁ n₂ st₁ st₂) where
    pub numbers : (c : Call) → shared σ L t c ≡ true → rule σ size n₁ c ≡ rule σ size n₂ c
    numbers c h = same_number σ L t n₁ n₂ pair.assigned pair.fits₁ pair.fits₂ pair.sessions size c h

    pub parts : (c : Call) → shared σ L t c ≡ true → part_of (rule σ size n₂ c) st₁ c ≡ part_of (rule σ size n₂ c) st₂ c
    unfolding part_of rule shared
    parts (opens p u l) h = refl
    parts (closes p) h = refl
    parts (takes p r) h = refl
    parts (drops p r) h = refl
    parts (reads p o k n) h =
        let s = n₂.sessions in
        both_ways (λ a b. a ≡ b) (part_rule σ 1 s size p o k n) (take n (drop (part_at o k) st₁)) [] (take n (drop (part_at o k) st₂)) []
        (λ z.
        let u = part_done σ 1 s size p o k n z in
        let d = read_under σ bounded order L label t s pair.known₂ pair.fits₂ size p o k n z h in
        bytes_same st₁ st₂ (part_at o k) n (in_store_lem σ size 1 p o k n s st₁ pair.long₁ z) (in_store_lem σ size 1 p o k n s st₂ pair.long₂ z)
        (λ i l.
        let w = u.in_card in
        let j : part_at o k + i ≡ part_at o (k + i) = omega arith in
        rw j (pair.cards o (k + i) u.card d (omega arith))))
        refl
    parts (writes p o k bytes) h = refl

    pub shared_pair : (c : Call) → shared σ L t c ≡ true → Pair (track σ t c) (next σ n₁ c) (next σ n₂ c) (store_by σ size n₁ st₁ c) (store_by σ size n₂ st₂ c)
    shared_pair c h = record {
      long₁ = long_after σ size n₁ st₁ pair.long₁ c;
      long₂ = long_after σ size n₂ st₂ pair.long₂ c;
      known₁ = orderly_next σ n₁.assigned n₁.sessions pair.known₁ c;
      known₂ = orderly_next σ n₂.assigned n₂.sessions pair.known₂ c;
      fits₁ = fits_track σ t n₁.sessions pair.fits₁ n₁.assigned pair.known₁ c;
      fits₂ = fits_track σ t n₂.sessions pair.fits₂ n₂.assigned pair.known₂ c;
      assigned = pair.assigned;
      sessions = next_same σ L t n₁ n₂ pair.assigned pair.fits₁ pair.fits₂ pair.sessions c h;
      cards = cards_after σ size L n₁ n₂ st₁ st₂ pair.long₁ pair.long₂ c (numbers c h) pair.cards;
    }

  -- ---- any other call

  -- it is none of openings and closings, and its place is not under L
  pub other_call : (t : Open) (c : Call) → shared σ L t c ≡ false → (track σ t c ≡ t) × (under σ L (t (place_of c)) ≡ false)
  unfolding shared track
  other_call t (opens p u l) h = absurd (true≢false h)
  other_call t (closes p) h = absurd (true≢false h)
  other_call t (takes p r) h = (refl, h)
  other_call t (drops p r) h = (refl, h)
  other_call t (reads p o k n) h = (refl, h)
  other_call t (writes p o k bytes) h = (refl, h)

  pub other_cards : (t : Open) (now : Standing) (st : List ℕ) → Fits t now.sessions → Orderly σ now.sessions → length st ≡ size
      → (c : Call) → under σ L (t (place_of c)) ≡ false → SameCards σ L (store_by σ size now st c) st
  unfolding store_of rule
  other_cards t now st fits known e (opens p u l) h = λ o i w d l. refl
  other_cards t now st fits known e (closes p) h = λ o i w d l. refl
  other_cards t now st fits known e (takes p r) h = λ o i w d l. refl
  other_cards t now st fits known e (drops p r) h = λ o i w d l. refl
  other_cards t now st fits known e (reads p o k n) h = λ o i w d l. refl
  other_cards t now st fits known e (writes p o k bytes) h =
      let s = now.sessions in
      either_way (λ x. SameCards σ L x st) (part_rule σ 2 s size p o k (length bytes)) (written st (part_at o k) bytes) st
      (λ z.
      let high = write_over σ bounded order L label t s known fits size p o k (length bytes) z h in
      let x = part_done σ 2 s size p o k (length bytes) z in
      λ d i w low l.
      written_out st (part_at o k) bytes (in_store_lem σ size 2 p o k (length bytes) s st e z) (part_at d i)
      (λ a. elim (dec_lt d o) [
        | yes j ↦ absurd (omega (arith, x.card))
        | no j ↦ elim (dec_lt o d) [
          | yes g ↦ omega (arith, x.card, x.in_card)
          | no g ↦ let same : d ≡ o = omega arith in absurd (both low (rw same high))
        ]
      ]))
      (λ o i w d l. refl)

  pub other_pair : (t : Open) (n₁ n₂ : Standing) (st₁ st₂ : List ℕ) → Pair t n₁ n₂ st₁ st₂ → (c : Call) → shared σ L t c ≡ false
      → Pair t (next σ n₁ c) n₂ (store_by σ size n₁ st₁ c) st₂
  other_pair t n₁ n₂ st₁ st₂ pair c h =
      let (same, high) = other_call t c h in
      record {
        long₁ = long_after σ size n₁ st₁ pair.long₁ c;
        long₂ = pair.long₂;
        known₁ = orderly_next σ n₁.assigned n₁.sessions pair.known₁ c;
        known₂ = pair.known₂;
        fits₁ = rw same at (fits_track σ t n₁.sessions pair.fits₁ n₁.assigned pair.known₁ c);
        fits₂ = pair.fits₂;
        assigned = pair.assigned;
        sessions = λ p k. next_other σ n₁.assigned n₁.sessions c p (λ e. both k (rw e at high)) ∙ pair.sessions p k;
        cards = λ o i w d l. other_cards t n₁ st₁ pair.fits₁ pair.known₁ pair.long₁ c high o i w d l ∙ pair.cards o i w d l;
      }

  -- ---- a run, and the run of its shared calls

  abbrev ClaimBy : Open → Standing → Standing → List ℕ → List ℕ → List Call → List Call → Type 0
  ClaimBy t n₁ n₂ st₁ st₂ cs₁ cs₂ = SameFor σ L (shown_by σ L size t n₁ st₁ cs₁) (shown_by σ L size t n₂ st₂ cs₂) (end_by σ size n₁ st₁ cs₁) (end_by σ size n₂ st₂ cs₂)

  turn : (b : Bool) (t : Open) (n₁ n₂ : Standing) (st₁ st₂ : List ℕ) (c : Call) (cs : List Call) → shared σ L t c ≡ b → Pair t n₁ n₂ st₁ st₂
      → ((u : Open) (k₁ k₂ : Standing) (r₁ r₂ : List ℕ) → Pair u k₁ k₂ r₁ r₂ → ClaimBy u k₁ k₂ r₁ r₂ cs (shared_calls σ L u cs))
      → ClaimBy t n₁ n₂ st₁ st₂ (c ∷ cs) (shared_calls σ L t (c ∷ cs))
  unfolding shown_by shared_calls end_by
  turn true t n₁ n₂ st₁ st₂ c cs h pair rest =
      let after = shared_pair t n₁ n₂ st₁ st₂ pair c h in
      let later = rest (track σ t c) (next σ n₁ c) (next σ n₂ c) (store_by σ size n₁ st₁ c) (store_by σ size n₂ st₂ c) after in
      let e = numbers t n₁ n₂ st₁ st₂ pair c h in
      let bytes = ap (λ (n : ℕ). part_of n st₁ c) e ∙ parts t n₁ n₂ st₁ st₂ pair c h in
      rw (h, h) (record { answers = (λ i. record { number = e i; bytes = bytes i }, after.cards, later.answers); cards = later.cards })
  turn false t n₁ n₂ st₁ st₂ c cs h pair rest =
      let (same, high) = other_call t c h in
      rw (h, same) (rest t (next σ n₁ c) n₂ (store_by σ size n₁ st₁ c) st₂ (other_pair t n₁ n₂ st₁ st₂ pair c h))

  like_shared : (cs : List Call) (t : Open) (n₁ n₂ : Standing) (st₁ st₂ : List ℕ) → Pair t n₁ n₂ st₁ st₂ → ClaimBy t n₁ n₂ st₁ st₂ cs (shared_calls σ L t cs)
  unfolding shown_by shared_calls end_by
  like_shared [] t n₁ n₂ st₁ st₂ pair = record { answers = tt; cards = pair.cards }
  like_shared (c ∷ cs) t n₁ n₂ st₁ st₂ pair = turn (shared σ L t c) t n₁ n₂ st₁ st₂ c cs refl pair (like_shared cs)

-- two lists like a third are alike
pub alike_both : (σ : Settings) (L : ℕ) (xs ys zs : List Shown) → Alike σ L xs zs → Alike σ L ys zs → Alike σ L xs ys
alike_both σ L [] [] zs h k = tt
alike_both σ L [] (y ∷ ys) [] h k = k
alike_both σ L [] (y ∷ ys) (z ∷ zs) h k = h
alike_both σ L (x ∷ xs) [] [] h k = h
alike_both σ L (x ∷ xs) [] (z ∷ zs) h k = k
alike_both σ L (x ∷ xs) (y ∷ ys) [] h k = absurd h
alike_both σ L (x ∷ xs) (y ∷ ys) (z ∷ zs) (a, c, h) (b, d, k) =
    (a ∙ sym b, λ o i w u l. c o i w u l ∙ sym (d o i w u l), alike_both σ L xs ys zs h k)

-- of any settings whose dominance is a partial order, and any assignments, from two memories that stand for them with no session
pub isolates : (σ : Settings) → PartialOrder σ.labels σ.dominates → (L : ℕ) → Among σ.labels L → (α : Relation) (size : ℕ) (m₁ m₂ : Memory) → Runs σ (begun α) size m₁ → Runs σ (begun α) size m₂
    → SameCards σ L m₁.store m₂.store → (cs₁ cs₂ : List Call) → shared_calls σ L none_open cs₁ ≡ shared_calls σ L none_open cs₂ → Claim σ L none_open m₁ m₂ cs₁ cs₂
isolates σ order L label α size m₁ m₂ r₁ r₂ same cs₁ cs₂ same-shared =
    let begins : (m : Memory) → Runs σ (begun α) size m → SameCards σ L m.store m₁.store → Pair σ r₁.bounded order L label size none_open (begun α) (begun α) m.store m₁.store =
    λ m r c. record {
      long₁ = r.stored;
      long₂ = r₁.stored;
      known₁ = no_sessions_orderly σ;
      known₂ = no_sessions_orderly σ;
      fits₁ = none_fits;
      fits₂ = none_fits;
      assigned = refl;
      sessions = λ p k. refl;
      cards = c;
    } in
    let like = like_shared σ r₁.bounded order L label size in
    let x = like cs₁ none_open (begun α) (begun α) m₁.store m₁.store (begins m₁ r₁ (λ o i w d l. refl)) in
    let y = rw (sym same-shared) at (like cs₂ none_open (begun α) (begun α) m₂.store m₁.store (begins m₂ r₂ (λ o i w d l. sym (same o i w d l)))) in
    let by : Memory → List Call → List Shown = λ m cs. shown_by σ L size none_open (begun α) m.store cs in
    rw (shown_by_lem σ size L cs₁ none_open (begun α) m₁ r₁, shown_by_lem σ size L cs₂ none_open (begun α) m₂ r₂) (record {
      answers = alike_both σ L (by m₁ cs₁) (by m₂ cs₂) (by m₁ (shared_calls σ L none_open cs₁)) x.answers y.answers;
      cards = rw (end_by_lem σ size cs₁ (begun α) m₁ r₁, end_by_lem σ size cs₂ (begun α) m₂ r₂) (λ o i w d l. x.cards o i w d l ∙ sym (y.cards o i w d l));
    })

-- demand 3
pub isolation : (f : List ℕ) → Isolated f
isolation f accepted a b L label s₁ s₂ long same cs₁ cs₂ same-shared =
    isolates (settings f) accepted.lawful.dominance L label (assigned f) (length s₁) (loaded a s₁) (loaded b s₂)
    (loaded_runs accepted a s₁) (rw (← long) at (loaded_runs accepted b s₂)) same cs₁ cs₂ same-shared
