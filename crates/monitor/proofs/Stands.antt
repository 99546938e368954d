-- A state stands for the sessions that the calls left: its tables describe the settings and the assignments, and each place's bytes are its session's. A call that writes one place and no
-- more keeps it so. Assumes nothing.
use Rattle.std.proofs.Common.{ℕ, suc, ◌+◌, ◌≤◌, ◌<◌, ◌≡◌, refl, ap, ◌∙◌, List, Bool, add-zero, arith, length, get_or, replicate, length-set}
use mathlib.Core.Option.{Option, none, some}
use native.Mathlib.Decide.{dec_lt}
use lib.ListN.{get_or-replicate}
use Rattle.search.specs.Search.{Among}
use Rattle.search.proofs.Truth.{among_iff}
use Rattle.roleset.specs.Row.{member, Kept, Placed, added, removed}
use Rattle.roleset.proofs.Rows.{kept_wider, zero_row, same_bytes}
use Rattle.order.specs.Closure.{Relation}
use Rattle.policy.specs.Settings.{Settings}
use Rattle.policy.specs.Image.{Describes, Assigning, Image}
use Rattle.policy.proofs.Builds.{describes_stays, assigning_stays}
use Rattle.monitor.specs.Session.{place_at, user_at, label_at, held_at}
use Rattle.monitor.specs.Calls.{written, session_bytes, opened, closed, taken, dropped}
use Rattle.monitor.specs.Places.{put}
use Rattle.monitor.specs.Rules.{Session, Sessions, no_sessions, session_of, holding, without}
use Rattle.monitor.proofs.Frames.{length_written, written_in, written_out}
use Rattle.monitor.proofs.Places.{put_everywhere}
use Rattle.monitor.proofs.Holding.{more_placed, less_placed, length_less}

pub record SessionAt (xs : List ℕ) (p : ℕ) (s : Session) : Type 0 where
  pub used : get_or xs (place_at p) 0 ≡ 1
  pub user : user_at xs p ≡ s.user
  pub label : label_at xs p ≡ s.label
  pub held : (r : ℕ) → member xs (held_at p) r ≡ s.held r

abbrev pub PlaceIs : List ℕ → ℕ → Option Session → Type 0
PlaceIs xs p none = get_or xs (place_at p) 0 ≡ 0
PlaceIs xs p (some s) = SessionAt xs p s

pub record Stands (σ : Settings) (α : Relation) (t : Sessions) (xs : List ℕ) : Type 0 where
  pub long : 65536 ≤ length xs
  pub tables : Describes σ xs
  pub assigning : Assigning α xs
  pub places : (p : ℕ) → Among 64 p → PlaceIs xs p (t p)

pub image_stands : (σ : Settings) (α : Relation) (xs : List ℕ) → 65536 ≤ length xs → Image σ α xs → Stands σ α no_sessions xs
image_stands σ α xs long image = record {
  long = long;
  tables = image.tables;
  assigning = image.assigning;
  places = λ p w. image.unused (place_at p) (omega arith, λ l. omega arith, λ l. omega arith) (omega arith);
}

-- a place whose bytes are the same
place_same : (xs ys : List ℕ) (q : ℕ) → ((k : ℕ) → k < 20 → get_or ys (place_at q + k) 0 ≡ get_or xs (place_at q + k) 0) → (s : Option Session) → PlaceIs xs q s → PlaceIs ys q s
unfolding user_at label_at
place_same xs ys q byte none e = rw add-zero at (byte 0 (omega arith)) ∙ e
place_same xs ys q byte (some s) a = record {
  used = rw add-zero at (byte 0 (omega arith)) ∙ a.used;
  user = rw (byte 1 (omega arith)) a.user;
  label = byte 2 (omega arith) ∙ a.label;
  held = λ r.
      same_bytes xs ys (held_at q) (held_at q) (λ k l. let z : held_at q + k ≡ place_at q + (4 + k) = omega arith in rw z (byte (4 + k) (omega arith))) r
      ∙ a.held r;
}

-- ---- one place is written

-- ys is xs but for the bytes of place p
pub record Touched (p : ℕ) (xs ys : List ℕ) : Type 0 where
  pub same : length ys ≡ length xs
  pub rest : Kept (place_at p) (place_at p + 20) xs ys

module _ (σ : Settings) (α : Relation) (t : Sessions) (xs ys : List ℕ) (p : ℕ) (stands : Stands σ α t xs) (w : Among 64 p) (touched : Touched p xs ys) where
  -- the bytes of another place
  elsewhere : (q : ℕ) → Among 64 q → (q ≡ p → ⊥) → (k : ℕ) → k < 20 → get_or ys (place_at q + k) 0 ≡ get_or xs (place_at q + k) 0
  elsewhere q v n k l =
      touched.rest (place_at q + k) (λ m. elim (dec_lt q p) [ yes i ↦ absurd (omega arith) | no i ↦ elim (dec_lt p q) [ yes j ↦ omega arith | no j ↦ absurd (n (omega arith)) ] ])

  place_elsewhere : (q : ℕ) → Among 64 q → (q ≡ p → ⊥) → (s : Option Session) → PlaceIs xs q s → PlaceIs ys q s
  place_elsewhere q v n s e = place_same xs ys q (elsewhere q v n) s e

  pub stands_put : (s : Option Session) → PlaceIs ys p s → Stands σ α (put t p s) ys
  stands_put s new = record {
    long = rw touched.same stands.long;
    tables = describes_stays σ xs ys (λ i out l. touched.rest i (λ n. absurd (omega arith))) stands.tables;
    assigning = assigning_stays xs ys α (λ i l m. touched.rest i (λ n. absurd (omega arith))) stands.assigning;
    places = put_everywhere (λ q s. Among 64 q → PlaceIs ys q s) t p s (λ v. new) (λ q n v. place_elsewhere q v n (t q) (stands.places q v));
  }

-- ---- what each call writes

module _ (xs : List ℕ) (p : ℕ) (long : 65536 ≤ length xs) (w : Among 64 p) where
  -- a place written whole
  whole_touched : (bytes : List ℕ) → length bytes ≡ 20 → Touched p xs (written xs (place_at p) bytes)
  whole_touched bytes n = record {
    same = length_written xs (place_at p) bytes (omega arith);
    rest = kept_wider xs (written xs (place_at p) bytes) (omega arith) (written_out xs (place_at p) bytes (omega arith));
  }

  pub opened_touched : (u l : ℕ) → Touched p xs (opened xs p u l)
  unfolding opened
  opened_touched u l = whole_touched (session_bytes u l) refl

  pub opened_place : (u l : ℕ) → 1 ≤ u → PlaceIs (opened xs p u l) p (some (session_of u l))
  unfolding opened user_at label_at
  opened_place u l i = record {
    used = rw add-zero at (byte 0 (omega arith));
    user = rw (byte 1 (omega arith)) (omega arith);
    label = byte 2 (omega arith);
    held = zero_row ys (held_at p) no_role;
  }
    where
      ys : List ℕ
      ys = written xs (place_at p) (session_bytes u l)

      byte : (k : ℕ) → k < 20 → get_or ys (place_at p + k) 0 ≡ get_or (session_bytes u l) k 0
      byte k m = written_in xs (place_at p) (session_bytes u l) (omega arith) k m

      no_role : (k : ℕ) → k < 16 → get_or ys (held_at p + k) 0 ≡ 0
      no_role k m =
          let z : held_at p + k ≡ place_at p + (4 + k) = omega arith in
          let n : 4 + k ≡ suc (suc (suc (suc k))) = omega arith in
          ap (λ (i : ℕ). get_or ys i 0) z ∙ byte (4 + k) (omega arith) ∙ ap (λ (i : ℕ). get_or (session_bytes u l) i 0) n ∙ get_or-replicate 17 (suc k) 0 0 (omega arith)

  pub closed_touched : Touched p xs (closed xs p)
  unfolding closed
  closed_touched = whole_touched (replicate 20 0) refl

  pub closed_place : PlaceIs (closed xs p) p none
  unfolding closed
  closed_place = rw add-zero at (written_in xs (place_at p) (replicate 20 0) (omega arith) 0 (omega arith))

  -- the row of held roles written
  module _ (held : ℕ → Bool) (ys : List ℕ) (same : length ys ≡ length xs) (placed : Placed (held_at p) held xs ys) where
    row_touched : Touched p xs ys
    row_touched = record { same = same; rest = kept_wider xs ys (omega arith) placed.rest }

    row_place : (s : Session) → SessionAt xs p s → (next : ℕ → Bool) → ((r : ℕ) → held r ≡ next r)
        → SessionAt ys p (record { user = s.user; label = s.label; held = next })
    unfolding user_at label_at
    row_place s a next agree = record {
      used = placed.rest (place_at p) (λ l. absurd (omega arith)) ∙ a.used;
      user = rw (placed.rest (place_at p + 1) (λ l. absurd (omega arith))) a.user;
      label = placed.rest (place_at p + 2) (λ l. absurd (omega arith)) ∙ a.label;
      held = λ r. placed.row (omega arith) r ∙ agree r;
    }

  module _ (r : ℕ) (v : Among 128 r) where
    pub taken_touched : Touched p xs (taken xs p r)
    unfolding taken
    taken_touched = row_touched (added xs (held_at p) r) (taken xs p r) (length-set xs _ _) (more_placed xs (held_at p) r (omega arith) v)

    pub taken_place : (s : Session) → SessionAt xs p s → PlaceIs (taken xs p r) p (some (holding r s))
    unfolding taken
    taken_place s a =
        row_place (added xs (held_at p) r) (taken xs p r) (length-set xs _ _) (more_placed xs (held_at p) r (omega arith) v) s a (holding r s).held
        (λ q. rw ((among_iff 128 r).1 v, a.held q))

    pub dropped_touched : Touched p xs (dropped xs p r)
    unfolding dropped
    dropped_touched =
        row_touched (removed xs (held_at p) r) (dropped xs p r)
        (length_less xs (held_at p) r (omega arith) v (member xs (held_at p) r)) (less_placed xs (held_at p) r (omega arith) v)

    pub dropped_place : (s : Session) → SessionAt xs p s → PlaceIs (dropped xs p r) p (some (without r s))
    unfolding dropped
    dropped_place s a =
        row_place (removed xs (held_at p) r) (dropped xs p r)
        (length_less xs (held_at p) r (omega arith) v (member xs (held_at p) r)) (less_placed xs (held_at p) r (omega arith) v) s a (without r s).held
        (λ q. rw (a.held q))
