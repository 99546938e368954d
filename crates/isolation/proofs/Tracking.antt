-- The tracker of "Two runs side by side" fits the sessions: it has a label at a place exactly where a session sits, and it is that session's. Assumes nothing.
use Prim.Native.Nat.{ℕ, zero, suc}
use mathlib.Core.Path.{◌≡◌, refl, sym, ap, ◌∙◌}
use mathlib.Core.Logic.Iff
use mathlib.Core.Logic.{◌↔◌}
use mathlib.Core.Bool.{true, false, cond}
use mathlib.Core.Option.{Option, none, some, map}
use native.Mathlib.Omega.{arith}
use Rattle.search.proofs.Truth.{and_both, among_iff, other_iff, either}
use Rattle.order.specs.Closure.{Relation}
use Rattle.policy.specs.Settings.{Settings}
use Rattle.monitor.specs.Calls.{if_done}
use Rattle.monitor.specs.Runs.{Call, opens, closes, takes, drops, reads, writes}
use Rattle.monitor.specs.Places.{is_free, put}
use Rattle.monitor.specs.Rules.{Session, Sessions, no_sessions, open_rule, close_rule, take_rule, drop_rule, session_of, holding, without, stand, sessions_after}
use Rattle.monitor.proofs.Answers.{either_way}
use Rattle.monitor.proofs.Orderly.{Orderly, opening, opening_done, session_granted}
use Rattle.monitor.proofs.Places.{put_everywhere, put_at, put_other}
use Rattle.isolation.specs.TwoRuns.{Open, none_open, grants, track}

abbrev pub label_of : Option Session → Option ℕ
label_of o = map (λ s. s.label) o

abbrev pub Fits : Open → Sessions → Type 0
Fits t s = (p : ℕ) → t p ≡ label_of (s p)

pub none_fits : Fits none_open no_sessions
none_fits p = refl

label_free : (o : Option Session) → is_free (label_of o) ≡ is_free o
label_free none = refl
label_free (some s) = refl

-- the tracker has a place free exactly where no session sits
pub free : (t : Open) (s : Sessions) → Fits t s → (p : ℕ) → is_free (t p) ≡ is_free (s p)
free t s fits p = ap is_free (fits p) ∙ label_free (s p)

-- the place of a call
abbrev pub place_of : Call → ℕ
place_of (opens p u l) = p
place_of (closes p) = p
place_of (takes p r) = p
place_of (drops p r) = p
place_of (reads p o k n) = p
place_of (writes p o k bytes) = p

-- ---- a call changes nothing at other places

pub next_other : (σ : Settings) (α : Relation) (s : Sessions) (c : Call) (q : ℕ) → (place_of c ≡ q → ⊥) → sessions_after σ (stand α s) c q ≡ s q
unfolding sessions_after
next_other σ α s (opens p u l) q n = either_way (λ x. x q ≡ s q) (open_rule σ s p u l) (put s p (some (session_of u l))) s (λ z. put_other s p (some (session_of u l)) q n) refl
next_other σ α s (closes p) q n = either_way (λ x. x q ≡ s q) (close_rule s p) (put s p none) s (λ z. put_other s p none q n) refl
next_other σ α s (takes p r) q n =
    either_way (λ x. x q ≡ s q) (take_rule σ α s p r) (put s p (map (holding r) (s p))) s (λ z. put_other s p (map (holding r) (s p)) q n) refl
next_other σ α s (drops p r) q n =
    either_way (λ x. x q ≡ s q) (drop_rule σ s p r) (put s p (map (without r) (s p))) s (λ z. put_other s p (map (without r) (s p)) q n) refl
next_other σ α s (reads p o k m) q n = refl
next_other σ α s (writes p o k bytes) q n = refl

module _ (σ : Settings) (t : Open) where
  pub track_other : (c : Call) (q : ℕ) → (place_of c ≡ q → ⊥) → track σ t c q ≡ t q
  unfolding track
  track_other (opens p u l) q n = either (λ x. x q ≡ t q) (grants σ t p u l) (put t p (some l)) t (put_other t p (some l) q n) refl
  track_other (closes p) q n = put_other t p _ q n
  track_other (takes p r) q n = refl
  track_other (drops p r) q n = refl
  track_other (reads p o k m) q n = refl
  track_other (writes p o k bytes) q n = refl

-- ---- the tracker goes along with the sessions

module _ (σ : Settings) (t : Open) (s : Sessions) (fits : Fits t s) where
  -- the openings that the tracker grants are those that are done
  pub grants_iff : (p u l : ℕ) → (grants σ t p u l ≡ true) ↔ (open_rule σ s p u l ≡ 0)
  unfolding grants
  grants_iff p u l =
      let tests = and_both (among_iff 64 p) (and_both Iff.rfl (and_both (among_iff σ.users u) (and_both (among_iff σ.labels l) Iff.rfl))) in
      rw (free t s fits p) (
        λ h. let (a, (b, (c, (d, e)))) = tests.0 h in opening_done σ s p u l (record { place = a; free = b; user = c; label = d; cleared = e }),
        λ z. let o = opening σ s p u l z in tests.1 (o.place, (o.free, (o.user, (o.label, o.cleared)))),
      )

  put_fits : (p : ℕ) (v : Option Session) → Fits (put t p (label_of v)) (put s p v)
  put_fits p v =
      put_everywhere (λ q x. put t p (label_of v) q ≡ label_of x) s p v (put_at t p (label_of v) p refl) (λ q n. put_other t p (label_of v) q (λ e. n (sym e)) ∙ fits q)

  same_label : (change : Session → Session) → ((x : Session) → (change x).label ≡ x.label) → (o : Option Session) → label_of (map change o) ≡ label_of o
  same_label change h none = refl
  same_label change h (some x) = ap some (h x)

  -- a change at a place that leaves its label
  change_fits : (p : ℕ) (change : Session → Session) → ((x : Session) → (change x).label ≡ x.label) → Fits t (put s p (map change (s p)))
  change_fits p change h =
      put_everywhere (λ q x. t q ≡ label_of x) s p (map change (s p)) (fits p ∙ sym (same_label change h (s p))) (λ q n. fits q)

  module _ (α : Relation) (known : Orderly σ s) where
    -- a closing that is refused is of a place that has no session
    refused_free : (p : ℕ) → (close_rule s p ≡ 0 → ⊥) → s p ≡ none
    unfolding close_rule
    refused_free p h = by (s p) refl
      where
        by : (o : Option Session) → s p ≡ o → o ≡ none
        by none e = refl
        by (some x) e = absurd (h (session_granted σ s known p x e (λ x. 0) refl))

    pub fits_track : (c : Call) → Fits (track σ t c) (sessions_after σ (stand α s) c)
    unfolding track sessions_after if_done
    fits_track (opens p u l) = by (open_rule σ s p u l) refl
      where
        by : (n : ℕ) → open_rule σ s p u l ≡ n → Fits (cond (grants σ t p u l) (put t p (some l)) t) (if_done n (put s p (some (session_of u l))) s)
        by zero e = rw ((grants_iff p u l).1 e) (put_fits p (some (session_of u l)))
        by (suc n) e = rw ((other_iff false (grants_iff p u l)).1 (λ z. omega arith)) fits
    fits_track (closes p) = by (close_rule s p) refl
      where
        by : (n : ℕ) → close_rule s p ≡ n → Fits (put t p none) (if_done n (put s p none) s)
        by zero e = put_fits p none
        by (suc n) e = put_everywhere (λ q x. x ≡ label_of (s q)) t p none (ap label_of (sym (refused_free p (λ z. omega arith)))) (λ q n. fits q)
    fits_track (takes p r) =
        either_way (Fits t) (take_rule σ α s p r) (put s p (map (holding r) (s p))) s (λ z. change_fits p (holding r) (λ x. refl)) fits
    fits_track (drops p r) =
        either_way (Fits t) (drop_rule σ s p r) (put s p (map (without r) (s p))) s (λ z. change_fits p (without r) (λ x. refl)) fits
    fits_track (reads p o k n) = fits
    fits_track (writes p o k bytes) = fits
