-- Each test that a call makes, on a state that stands for the sessions, is the rule's test by the settings; so is each number. Assumes nothing.
use Rattle.std.proofs.Common.{ℕ, ◌+◌, ◌*◌, ◌≤◌, ◌≡◌, refl, sym, ap, ◌∙◌, inr, ⊎_elim, List, Bool, true, false, not, ◌&&◌, zero-add, arith, leb, eqb, length, get_or, le-leb}
use mathlib.Core.Option.{Option, none, some}
use Rattle.search.specs.Search as search
use Rattle.search.specs.Search.{among, Among}
use Rattle.search.proofs.Truth.{and-iff, among_iff}
use Rattle.roleset.specs.Row.{member, row_of, common}
use Rattle.roleset.proofs.Rows.{whole_true}
use Rattle.rolefile.proofs.Within.{some_within}
use Rattle.order.specs.Closure.{Relation}
use Rattle.policy.specs.Settings.{Settings, Bounded}
use Rattle.policy.specs.Policy.{may}
use Rattle.policy.specs.Tables.{seniors_at, assigned_at}
use Rattle.policy.proofs.Assigning.{reads_test, writes_test}
use Rattle.policy.proofs.Meaning.{role_few, user_few, card_few, marked_by}
use Rattle.policy.specs.Image.{Allows}
use Rattle.monitor.specs.Session.{sound, labels_in, roles_in, users_in, cards_in, place_at, held_at, in_use, user_at, label_at, cleared, entitled, fitting, gives}
use Rattle.monitor.specs.Calls.{unless, at_session, open_number, close_number, take_number, drop_number, part_number}
use Rattle.monitor.specs.Places.{is_free}
use Rattle.monitor.specs.Rules.{Session, Sessions, session_rule, at_session_by, entitled_by, fitting_by, gives_by, open_rule, close_rule, take_rule, drop_rule, part_rule}
use Rattle.monitor.proofs.Answers.{sound_iff}
use Rattle.monitor.proofs.Orderly.{Admitted, Known, Orderly}
use Rattle.monitor.proofs.Stands.{SessionAt, PlaceIs, Stands}

-- ---- rows of tests

-- the same test, and the same after it where it passes
pub test_same : (b c : Bool) (n : ℕ) {x y : ℕ} → b ≡ c → (c ≡ true → x ≡ y) → unless b n x ≡ unless c n y
unfolding unless
test_same b true n e h = rw e (h refl)
test_same b false n e h = rw e

pub test_passed : {b : Bool} (n : ℕ) {x : ℕ} → b ≡ true → unless b n x ≡ x
unfolding unless
test_passed n e = rw e

-- a search among 128 that finds only among the first n is a search among n
pub some_first : (n : ℕ) → n ≤ 128 → (q p : ℕ → Bool) → ((r : ℕ) → Among 128 r → q r ≡ true → Among n r) → ((r : ℕ) → Among n r → q r ≡ p r)
    → search.some 128 q ≡ search.some n p
some_first n few q p only agree = some_within 128 0 n (omega arith) q p (λ r w e. let k = only r w e in omega arith) (λ r w. rw zero-add (agree r w))

module _ (σ : Settings) (bounded : Bounded σ) (α : Relation) (t : Sessions) (xs : List ℕ) (stands : Stands σ α t xs) where
  -- ---- the tests

  pub sound_by : sound xs ≡ true
  sound_by =
      let e = stands.tables.counted in
      (sound_iff xs).1 (record {
        long = stands.long;
        labels = rw e.labels bounded.labels;
        roles = rw e.roles bounded.roles;
        users = rw e.users bounded.users;
        cards = rw e.cards bounded.cards;
      })

  free_by : (p : ℕ) → Among 64 p → not (in_use xs p) ≡ is_free (t p)
  unfolding in_use
  free_by p w = by (t p) (stands.places p w)
    where
      by : (s : Option Session) → PlaceIs xs p s → not (eqb (get_or xs (place_at p) 0) 1) ≡ is_free s
      by none e = rw e
      by (some s) a = rw a.used

  pub cleared_by : (u l : ℕ) → Among σ.users u → Among σ.labels l → cleared xs u l ≡ σ.dominates (σ.clearance u) l
  unfolding cleared
  cleared_by u l v w =
      rw (stands.tables.labelled.users u (user_few σ bounded u v)) (marked_by σ bounded xs stands.tables (σ.clearance u) l (inr w))

  -- two rows with a role in common, where both together say g
  common_by : (a b n : ℕ) (g : ℕ → Bool) → a + 16 ≤ length xs → b + 16 ≤ length xs → n ≤ 128
      → ((r : ℕ) → Among 128 r → (member xs a r && member xs b r) ≡ g r) → ((r : ℕ) → g r ≡ true → Among n r) → common xs a b ≡ search.some n g
  unfolding common
  common_by a b n g i j few agree inside =
      rw (whole_true xs a i, whole_true xs b j)
      (some_first n few (λ r. member xs a r && member xs b r) g (λ r w e. inside r (sym (agree r w) ∙ e)) (λ r w. agree r (omega arith)))

  pub entitled_by_lem : (u r : ℕ) → Among σ.users u → Among σ.roles r → entitled xs u r ≡ entitled_by σ α u r
  unfolding entitled entitled_by
  entitled_by_lem u r v w =
      let x = user_few σ bounded u v in
      let y = role_few σ bounded r w in
      let long = stands.long in
      common_by (row_of assigned_at u) (row_of seniors_at r) σ.roles (λ q. α u q && σ.senior q r) (omega arith) (omega arith) bounded.roles
      (λ q i. rw (stands.assigning u q x i, stands.tables.seniors r q y i, le-leb r σ.roles w.1))
      (λ q e. ⊎_elim (λ same. rw same w) (λ known. known.0) (bounded.seniority q r ((and-iff (α u q) (σ.senior q r)).0 e).1))

  pub fitting_by_lem : (l r : ℕ) → Among σ.roles r → fitting xs l r ≡ fitting_by σ l r
  unfolding fitting fitting_by
  fitting_by_lem l r w =
      let i = role_few σ bounded r w in
      rw (
        stands.tables.levelled.reads r i,
        stands.tables.levelled.writes r i,
        reads_test σ xs bounded.labels.1 bounded.dominance stands.tables.dominating l r,
        writes_test σ xs bounded.labels.1 bounded.dominance stands.tables.dominating l r,
      )

  -- ---- the numbers

  pub open_by : (p u l : ℕ) → open_number xs p u l ≡ open_rule σ t p u l
  unfolding open_number open_rule
  open_by p u l =
      test_passed 21 sound_by
      ∙ test_same (among 64 p) (among 64 p) 22 refl (λ place.
      test_same (not (in_use xs p)) (is_free (t p)) 23 (free_by p ((among_iff 64 p).0 place)) (λ free.
      test_same (among (users_in xs) u) (among σ.users u) 25 (rw stands.tables.counted.users) (λ user.
      test_same (among (labels_in xs) l) (among σ.labels l) 25 (rw stands.tables.counted.labels) (λ label.
      test_same (cleared xs u l) (σ.dominates (σ.clearance u) l) 26
      (cleared_by u l ((among_iff σ.users u).0 user) ((among_iff σ.labels l).0 label)) (λ dominated. refl)))))

  -- where the rules have seen to every session
  module _ (known : Orderly σ t) where
    -- the place has a session, or 21, 22 or 24
    session_by : (p : ℕ) {x : ℕ} (rule : Session → ℕ) → ((s : Session) → SessionAt xs p s → Admitted σ p s → x ≡ rule s) → at_session xs p x ≡ at_session_by t p rule
    unfolding in_use unless
    session_by p {x} rule h =
        test_passed 21 sound_by
        ∙ test_same (among 64 p) (among 64 p) 22 refl (λ place. by (t p) (stands.places p ((among_iff 64 p).0 place)) (known p))
      where
        by : (s : Option Session) → PlaceIs xs p s → Known σ p s → unless (eqb (get_or xs (place_at p) 0) 1) 24 x ≡ session_rule s rule
        by none e k = rw e
        by (some s) a k = rw a.used (h s a k)

    pub close_by : (p : ℕ) → close_number xs p ≡ close_rule t p
    unfolding close_number close_rule
    close_by p = session_by p (λ s. 0) (λ s a adm. refl)

    pub take_by : (p r : ℕ) → take_number xs p r ≡ take_rule σ α t p r
    unfolding take_number take_rule
    take_by p r =
        session_by p _ (λ s a adm.
        test_same (among (roles_in xs) r) (among σ.roles r) 25 (rw stands.tables.counted.roles) (λ role.
        let w = (among_iff σ.roles r).0 role in
        test_same (entitled xs (user_at xs p) r) (entitled_by σ α s.user r) 27
        (ap (λ (u : ℕ). entitled xs u r) a.user ∙ entitled_by_lem s.user r adm.user w) (λ assigned.
        test_same (fitting xs (label_at xs p) r) (fitting_by σ s.label r) 28
        (ap (λ (l : ℕ). fitting xs l r) a.label ∙ fitting_by_lem s.label r w) (λ suited. refl))))

    pub drop_by : (p r : ℕ) → drop_number xs p r ≡ drop_rule σ t p r
    unfolding drop_number drop_rule
    drop_by p r =
        session_by p _ (λ s a adm.
        test_same (among (roles_in xs) r) (among σ.roles r) 25 (rw stands.tables.counted.roles) (λ role. refl))

  -- the table at `at` says who may use cards by mode m
  module _ (at m : ℕ) (inside : at + 8192 ≤ 65536) (says : Allows σ m at xs) where
    gives_by_lem : (p o : ℕ) (s : Session) → SessionAt xs p s → Admitted σ p s → Among σ.cards o → gives xs at p o ≡ gives_by σ m s o
    unfolding gives gives_by
    gives_by_lem p o s a k w =
        let i = card_few σ bounded o w in
        let place = k.place in
        let long = stands.long in
        common_by (held_at p) (row_of at o) σ.roles (λ r. s.held r && may σ m r o) (omega arith) (omega arith) bounded.roles
        (λ r j. rw (a.held r, says o r i j))
        (λ r e. (k.roles r ((and-iff (s.held r) (may σ m r o)).0 e).0).0)

    pub part_by : Orderly σ t → (size p o k n : ℕ) → part_number at xs size p o k n ≡ part_rule σ m t size p o k n
    unfolding part_number part_rule
    part_by known size p o k n =
        session_by known p _ (λ s a adm.
        test_same (among (cards_in xs) o) (among σ.cards o) 25 (rw stands.tables.counted.cards) (λ card.
        test_same (gives xs at p o) (gives_by σ m s o) 29 (gives_by_lem p o s a adm ((among_iff σ.cards o).0 card)) (λ used.
        test_same (leb (k + n) 64) (leb (k + n) 64) 30 refl (λ fits.
        test_same (leb (64 * cards_in xs) size) (leb (64 * σ.cards) size) 31 (rw stands.tables.counted.cards) (λ stored. refl)))))
