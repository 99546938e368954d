-- What the label L can tell of two runs at one moment: the sessions at places under L, and the cards under L. A shared call leaves that alike and is answered alike; any other
-- call leaves it as it was. Assumes nothing.
use Prim.Native.Nat.{ℕ, zero, suc, ◌+◌, ◌-◌, ◌≤◌, ◌<◌}
use mathlib.Core.Path.{◌≡◌, refl, sym, ap, ◌∙◌}
use mathlib.Core.List.{List}
use mathlib.Core.Bool.{true, false, cond, false≢true}
use mathlib.Core.Option.{Option, none, some, map}
use native.Mathlib.Omega.{arith}
use native.Mathlib.Decide.{ℕ_discrete, dec_lt}
use lib.ListN.{length, get_or, take, drop, length-drop}
use lib.Seq.{length-take-le, get_or-take, get_or-drop, ext_get_or}
use Rattle.search.specs.Search.{Among}
use Rattle.search.proofs.Truth.{untrue, both, other_iff}
use Rattle.order.specs.Closure.{PartialOrder}
use Rattle.policy.specs.Settings.{Settings, Bounded}
use Rattle.policy.specs.Policy.{may}
use Rattle.monitor.specs.Calls.{if_done, written}
use Rattle.monitor.specs.Runs.{Call, opens, closes, takes, drops, reads, writes}
use Rattle.monitor.specs.Places.{is_free, put}
use Rattle.monitor.specs.Rules.{Session, Sessions, session_rule, fitting_by, open_rule, close_rule, take_rule, drop_rule, part_rule, rule, session_of, holding, without, sessions_after, Standing}
use Rattle.monitor.proofs.Answers.{both_ways}
use Rattle.monitor.proofs.Frames.{written_in, written_out}
use Rattle.monitor.proofs.Orderly.{Orderly, admitted, gives_iff, part_done}
use Rattle.monitor.proofs.Places.{put_at}
use Rattle.isolation.specs.TwoRuns.{Open, track, under, shared}
use Rattle.isolation.proofs.Levels.{reads_below, writes_above}
use Rattle.isolation.proofs.Tracking.{label_of, Fits, free, place_of, next_other, track_other, grants_iff}

-- ---- numbers

session_const : (o : Option Session) → session_rule o (λ s. 0) ≡ cond (is_free o) 24 0
session_const none = refl
session_const (some s) = refl

-- the session at each place under L is the same
abbrev pub SameSessions : Settings → ℕ → Open → Sessions → Sessions → Type 0
SameSessions σ L t s₁ s₂ = (p : ℕ) → under σ L (t p) ≡ true → s₁ p ≡ s₂ p

module _ (σ : Settings) (L : ℕ) (t : Open) (n₁ n₂ : Standing) (same_assigned : n₁.assigned ≡ n₂.assigned)
    (fits₁ : Fits t n₁.sessions) (fits₂ : Fits t n₂.sessions) (same : SameSessions σ L t n₁.sessions n₂.sessions) where
  abbrev s₁ : Sessions
  s₁ = n₁.sessions

  abbrev s₂ : Sessions
  s₂ = n₂.sessions

  free_same : (p : ℕ) → is_free (s₁ p) ≡ is_free (s₂ p)
  free_same p = sym (free t s₁ fits₁ p) ∙ free t s₂ fits₂ p

  pub same_number : (size : ℕ) (c : Call) → shared σ L t c ≡ true → rule σ size n₁ c ≡ rule σ size n₂ c
  unfolding rule shared open_rule close_rule take_rule drop_rule part_rule
  same_number size (opens p u l) h = rw (free_same p)
  same_number size (closes p) h = rw (session_const (s₁ p), session_const (s₂ p), free_same p)
  same_number size (takes p r) h = rw (same_assigned, same p h)
  same_number size (drops p r) h = rw (same p h)
  same_number size (reads p o k n) h = rw (same p h)
  same_number size (writes p o k bytes) h = rw (same p h)

  -- ---- sessions after a shared call

  -- a change at the call's place
  changed_here : (p n : ℕ) (change : Session → Session) → s₁ p ≡ s₂ p
      → if_done n (put s₁ p (map change (s₁ p))) s₁ p ≡ if_done n (put s₂ p (map change (s₂ p))) s₂ p
  changed_here p n change e =
      both_ways (λ a b. a p ≡ b p) n (put s₁ p _) s₁ (put s₂ p _) s₂ (λ z. put_at s₁ p _ p refl ∙ ap (map change) e ∙ sym (put_at s₂ p _ p refl)) e

  here : (c : Call) → shared σ L t c ≡ true → under σ L (track σ t c (place_of c)) ≡ true → sessions_after σ n₁ c (place_of c) ≡ sessions_after σ n₂ c (place_of c)
  unfolding shared track sessions_after if_done rule
  here (opens p u l) h k = rw (same_number 0 (opens p u l) refl) (by (open_rule σ s₂ p u l) refl)
    where
      by : (n : ℕ) → open_rule σ s₂ p u l ≡ n → if_done n (put s₁ p (some (session_of u l))) s₁ p ≡ if_done n (put s₂ p (some (session_of u l))) s₂ p
      by zero e = put_at s₁ p _ p refl ∙ sym (put_at s₂ p _ p refl)
      by (suc n) e =
          let z = same_number 0 (opens p u l) refl in
          let refused = (other_iff false (grants_iff σ t s₁ fits₁ p u l)).1 (λ w. omega arith) in
          same p (rw refused at k)
  here (closes p) h k = absurd (false≢true (rw (put_at t p none p refl) at k))
  here (takes p r) h k = rw (same_number 0 (takes p r) h) (changed_here p (take_rule σ n₂.assigned s₂ p r) (holding r) (same p h))
  here (drops p r) h k = rw (same_number 0 (drops p r) h) (changed_here p (drop_rule σ s₂ p r) (without r) (same p h))
  here (reads p o i n) h k = same p h
  here (writes p o i bytes) h k = same p h

  pub next_same : (c : Call) → shared σ L t c ≡ true → SameSessions σ L (track σ t c) (sessions_after σ n₁ c) (sessions_after σ n₂ c)
  next_same c h q k = elim (ℕ_discrete (place_of c) q) [
    | yes e ↦ rw (← e) (here c h (rw (← e) at k))
    | no n ↦ next_other σ n₁.assigned s₁ c q n ∙ same q (rw (track_other σ t c q n) at k) ∙ sym (next_other σ n₂.assigned s₂ c q n)
  ]

-- ---- stores

module _ (s t bytes : List ℕ) (at : ℕ) (fits-s : at + length bytes ≤ length s) (fits-t : at + length bytes ≤ length t) where
  pub written_same : (j : ℕ) → get_or s j 0 ≡ get_or t j 0 → get_or (written s at bytes) j 0 ≡ get_or (written t at bytes) j 0
  written_same j e = elim (dec_lt j at) [
    | yes l ↦ outside (λ m. absurd (omega arith))
    | no l ↦ elim (dec_lt j (at + length bytes)) [
      | yes m ↦
          let i : j ≡ at + (j - at) = omega arith in
          rw i (written_in s at bytes fits-s (j - at) (omega arith) ∙ sym (written_in t at bytes fits-t (j - at) (omega arith)))
      | no m ↦ outside (λ n. omega arith)
    ]
  ]
    where
      outside : (at ≤ j → at + length bytes ≤ j) → get_or (written s at bytes) j 0 ≡ get_or (written t at bytes) j 0
      outside out = written_out s at bytes fits-s j out ∙ e ∙ sym (written_out t at bytes fits-t j out)

-- ---- what a read hands back, and what another call writes

pub bytes_same : (a b : List ℕ) (at n : ℕ) → at + n ≤ length a → at + n ≤ length b → ((i : ℕ) → i < n → get_or a (at + i) 0 ≡ get_or b (at + i) 0)
    → take n (drop at a) ≡ take n (drop at b)
bytes_same a b at n fits-a fits-b h = ext_get_or 0 (take n (drop at a)) (take n (drop at b)) (long a fits-a ∙ sym (long b fits-b))
    (λ i l. let m = rw (long a fits-a) at l in byte a i m ∙ h i m ∙ sym (byte b i m))
  where
    long : (c : List ℕ) → at + n ≤ length c → length (take n (drop at c)) ≡ n
    long c fits = length-take-le n (drop at c) (rw (length-drop at c) (omega arith))

    byte : (c : List ℕ) (i : ℕ) → i < n → get_or (take n (drop at c)) i 0 ≡ get_or c (at + i) 0
    byte c i l = get_or-take n (drop at c) i 0 l ∙ get_or-drop at c i 0

module _ (σ : Settings) (bounded : Bounded σ) (order : PartialOrder σ.labels σ.dominates) (L : ℕ) (label : Among σ.labels L) (t : Open) (s : Sessions) (known : Orderly σ s) (fits : Fits t s) where
  -- a use of card o at place p, by a role that fits the session's label there
  record Use (mode p o : ℕ) : Type 0 where
    pub card : Among σ.cards o
    pub level : ℕ
    pub inside : Among σ.labels level
    pub tracked : t p ≡ some level
    pub role : (r : ℕ) × (may σ mode r o ≡ true) × (fitting_by σ level r ≡ true)

  use_of_lem : (mode size p o k n : ℕ) → part_rule σ mode s size p o k n ≡ 0 → Use mode p o
  use_of_lem mode size p o k n z =
      let u = part_done σ mode s size p o k n z in
      let x = u.session in
      let adm = admitted σ s known p x u.found in
      let (r, w, holds, gives) = (gives_iff σ mode x o).0 u.used in
      record { card = u.card; level = x.label; inside = adm.label; tracked = fits p ∙ ap label_of u.found; role = (r, gives, (adm.roles r holds).1) }

  pub read_under : (size p o k n : ℕ) → part_rule σ 1 s size p o k n ≡ 0 → under σ L (t p) ≡ true → σ.dominates L (σ.card_label o) ≡ true
  read_under size p o k n z h =
      let u = use_of_lem 1 size p o k n z in
      let (r, gives, suited) = u.role in
      order.transitive L u.level (σ.card_label o) label u.inside (bounded.card_labels o u.card)
      (rw u.tracked at h) (reads_below σ bounded order u.level r o u.inside u.card suited gives)

  pub write_over : (size p o k n : ℕ) → part_rule σ 2 s size p o k n ≡ 0 → under σ L (t p) ≡ false → σ.dominates L (σ.card_label o) ≡ false
  write_over size p o k n z h =
      let u = use_of_lem 2 size p o k n z in
      let (r, gives, suited) = u.role in
      untrue (σ.dominates L (σ.card_label o)) (λ d.
      both
      (order.transitive L (σ.card_label o) u.level label (bounded.card_labels o u.card) u.inside
      d (writes_above σ bounded order u.level r o u.inside u.card suited gives))
      (rw u.tracked at h))
