-- Each number of a call from the tests that led to it, and what a number 0 tells. Assumes nothing.
use Rattle.std.proofs.Common.{ℕ, zero, suc, ◌+◌, ◌*◌, ◌≤◌, ◌<◌, ◌≡◌, refl, sym, ◌∙◌, ◌↔◌, List, Bool, true, false, ◌&&◌, cond, arith, leb-true, eqb, length}
use Rattle.search.specs.Search.{among, Among}
use Rattle.search.proofs.Truth.{leb_iff, and_both, among_iff, passed, failed, one_of, either}
use Rattle.rolefile.proofs.Formed.{limits_iff}
use Rattle.policy.specs.Tables.{table_of}
use Rattle.monitor.specs.Session.{sound, labels_in, roles_in, users_in, cards_in, in_use}
use Rattle.monitor.specs.Calls.{unless, if_done, at_session, close_number, part_number}

-- ---- a row of tests whose answers r are those of calls: a call's `ensures` is r ≡ t
module _ (t : Bool) (n rest : ℕ) {r : Bool} (e : r ≡ t) where
  -- the test that refuses
  pub stops : r ≡ false → n ≡ unless t n rest
  unfolding unless
  stops h = rw (failed e h)

  -- a test before it
  pub passes : {x : ℕ} → r ≡ true → x ≡ rest → x ≡ unless t n rest
  unfolding unless
  passes h k = rw (passed e h) k

-- the same of tests that are answered together: the one that fails, and one before it
module _ (t rest : Bool) {r : Bool} (e : r ≡ t) where
  pub fails : r ≡ false → false ≡ (t && rest)
  fails h = rw (failed e h)

  pub holds : {x : Bool} → r ≡ true → x ≡ rest → x ≡ (t && rest)
  holds h k = rw (passed e h) k

-- done, each test has passed
pub unless_done : (t : Bool) (n rest : ℕ) → 0 < n → unless t n rest ≡ 0 → (t ≡ true) × (rest ≡ 0)
unfolding unless
unless_done true n rest l h = (refl, h)
unless_done false n rest l h = absurd (omega arith)

-- ---- what a call leaves

-- what holds of two outcomes where the number is 0, and of two others, holds of those that the number picks
pub both_ways : {A B : Type 0} (P : A → B → Type 0) (n : ℕ) (a c : A) (b d : B) → (n ≡ 0 → P a b) → P c d → P (if_done n a c) (if_done n b d)
unfolding if_done
both_ways P zero a c b d h k = h refl
both_ways P (suc n) a c b d h k = k

-- the same of one outcome
pub either_way : {A : Type 0} (P : A → Type 0) (n : ℕ) (new old : A) → (n ≡ 0 → P new) → P old → P (if_done n new old)
either_way P n new old = both_ways (λ a b. P a) n new old new old

-- the figure of a question, by another test that says the same where the question is done
pub figure_same : (n : ℕ) {N figure : ℕ} {a b : Bool} → n ≡ N → figure ≡ if_done N (cond a 1 0) 0 → (n ≡ 0 → a ≡ b) → figure ≡ if_done n (cond b 1 0) 0
figure_same n {N} {figure} {a} {b} e answer same = answer ∙ rw (← e) (both_ways (λ x y. x ≡ y) n (cond a 1 0) 0 (cond b 1 0) 0 (λ z. rw (same z)) refl)

-- ---- a sound state
pub record Sound (xs : List ℕ) : Type 0 where
  pub long : 65536 ≤ length xs
  pub labels : Among 32 (labels_in xs)
  pub roles : roles_in xs ≤ 128
  pub users : users_in xs ≤ 256
  pub cards : cards_in xs ≤ 512

pub sound_iff : (xs : List ℕ) → (sound xs ≡ true) ↔ Sound xs
unfolding sound
sound_iff xs =
    let tests = and_both (leb_iff 65536 (length xs)) (limits_iff (labels_in xs) (roles_in xs) (users_in xs) (cards_in xs)) in (
      λ e. let (long, (labels, (roles, (users, cards)))) = tests.0 e in record { long = long; labels = labels; roles = roles; users = users; cards = cards },
      λ s. tests.1 (s.long, (s.labels, (s.roles, (s.users, s.cards)))),
    )

-- ---- what a test that passed tells
pub user_known : (xs : List ℕ) {r : Bool} → r ≡ sound xs → r ≡ true → (x : ℕ) {q : Bool} → q ≡ among (users_in xs) x → q ≡ true → Among 256 x
user_known xs e h x f k = let w = one_of (users_in xs) x f k in let few = ((sound_iff xs).0 (passed e h)).users in omega arith

-- ---- what a call that is done tells, for the code that then writes
pub record Room (xs : List ℕ) (p : ℕ) : Type 0 where
  pub long : 65536 ≤ length xs
  pub place : Among 64 p

-- a call at a session: what it asks first has passed, and so has the rest
record AtSession (xs : List ℕ) (p rest : ℕ) : Type 0 where
  pub sound : Sound xs
  pub place : Among 64 p
  pub done : rest ≡ 0

at_session_done : (xs : List ℕ) (p rest : ℕ) → at_session xs p rest ≡ 0 → AtSession xs p rest
at_session_done xs p rest h =
    let a = unless_done (sound xs) 21 _ (omega arith) h in
    let b = unless_done (among 64 p) 22 _ (omega arith) a.1 in
    let c = unless_done (in_use xs p) 24 rest (omega arith) b.1 in
    record { sound = (sound_iff xs).0 a.0; place = (among_iff 64 p).0 b.0; done = c.1 }

-- where a closing's number r is 0
module _ (xs : List ℕ) (p : ℕ) {r : ℕ} (e : r ≡ close_number xs p) (z : r ≡ 0) where
  at_session_lem : AtSession xs p 0
  unfolding close_number
  at_session_lem = at_session_done xs p 0 (sym e ∙ z)

  pub role_known : (x : ℕ) {q : Bool} → q ≡ among (roles_in xs) x → q ≡ true → Among 128 x
  role_known x f k = let w = one_of (roles_in xs) x f k in let few = at_session_lem.sound.roles in omega arith

  pub card_known : (x : ℕ) {q : Bool} → q ≡ among (cards_in xs) x → q ≡ true → Among 512 x
  card_known x f k = let w = one_of (cards_in xs) x f k in let few = at_session_lem.sound.cards in omega arith

pub close_room : (xs : List ℕ) (p : ℕ) → close_number xs p ≡ 0 → Room xs p
unfolding close_number
close_room xs p h = let a = at_session_done xs p 0 h in record { long = a.sound.long; place = a.place }

-- the part lies in the store
pub record Fit (size o k n : ℕ) : Type 0 where
  pub card : 1 ≤ o
  pub in_card : k + n ≤ 64
  pub in_store : 64 * o ≤ size

pub part_fits : (at : ℕ) (xs : List ℕ) (size p o k n : ℕ) → part_number at xs size p o k n ≡ 0 → Fit size o k n
unfolding part_number
part_fits at xs size p o k n h =
    let a = unless_done _ _ _ (omega arith) (at_session_done xs p _ h).done in
    let b = unless_done _ _ _ (omega arith) a.1 in
    let c = unless_done _ _ _ (omega arith) b.1 in
    let d = unless_done _ _ _ (omega arith) c.1 in
    let v = (among_iff (cards_in xs) o).0 a.0 in
    let w = leb-true (64 * cards_in xs) size d.0 in
    record { card = omega arith; in_card = leb-true (k + n) 64 c.0; in_store = omega arith }

-- no mode's table starts later than the writers'
pub table_low : (m : ℕ) → table_of m ≤ 20496
table_low m = either (λ at. at ≤ 20496) (eqb m 1) _ _ (omega arith) (omega arith)
