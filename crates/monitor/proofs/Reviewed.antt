-- The review calls in the file's terms, on every state that a load of an accepted file and any calls left: `…-answers`. None is answered with 21. What the roles that a user may take at a
-- label give is what `monitor_can` answers, on every state (`can_gives`). Assumes nothing.
use Rattle.std.proofs.Common.{ℕ, zero, suc, ◌≡◌, refl, sym, ap, ◌∙◌, List, ◌↔◌, inl, ⊎_elim, Bool, true, false, ◌&&◌, cond, arith, eqb, length, le-leb}
use mathlib.Core.Option.{some}
use mathlib.Core.Bool.{and_comm, and_assoc, and-false}
use Rattle.search.specs.Search.{among, Among}
use Rattle.search.proofs.Truth.{and-iff, and_when, among_iff}
use Rattle.search.proofs.Found.{some_both, some_none, some_agree}
use Rattle.roleset.specs.Row.{member, row_of}
use Rattle.roleset.specs.Set.{in_set, low_of, high_of}
use Rattle.roleset.proofs.Sets.{in_set_of, in_no_set}
use Rattle.rolefile.specs.Said.{assigned}
use Rattle.order.specs.Closure.{Relation}
use Rattle.policy.specs.Settings.{Settings, settings, Bounded}
use Rattle.policy.specs.Policy.{may, r_level, w_level, level_number}
use Rattle.policy.specs.Accepted.{Accepted}
use Rattle.policy.specs.Tables.{table_of, byte_of}
use Rattle.policy.proofs.Meaning.{role_few, user_few, card_few, marked_by}
use Rattle.policy.proofs.Relating.{by_mode_lem}
use Rattle.monitor.specs.Session.{sound, labels_in, roles_in, users_in, cards_in, cleared, entitled, fitting}
use Rattle.monitor.specs.Calls.{unless, if_done, state_number, close_number, take_number, Figured}
use Rattle.monitor.specs.Runs.{Call, Start, left}
use Rattle.monitor.specs.Rules.{Session, Sessions, close_rule, take_rule, entitled_by, fitting_by, gives_by, rule, begun, standing}
use Rattle.monitor.specs.Rights.{can_number, role_could, could, Cans}
use Rattle.monitor.specs.Review.{review_number, CountsOf, SessionOf, ClearanceOf, CardLabelOf, levels_of, LevelOf, Dominates, SeniorTo, AssignedTo, takable_number, takable_in, TakableOf, gives_in, GivesOf, of_session, takable_rule, takable_by, set_gives_by}
use Rattle.monitor.proofs.Answers.{both_ways, unless_done, Sound, sound_iff, close_room}
use Rattle.monitor.proofs.Orderly.{session_done, opening}
use Rattle.monitor.proofs.Stands.{SessionAt}
use Rattle.monitor.proofs.ByRules.{some_first, test_same, test_passed, sound_by, cleared_by, entitled_by_lem, fitting_by_lem, close_by, take_by}
use Rattle.monitor.proofs.Demand2.{Runs, after_calls, left_runs}
use Rattle.monitor.proofs.History.{open_for_iff}
use Rattle.monitor.proofs.Able.{table_says}

-- ---- what the roles that may be taken give is what a session could be granted

module _ (xs : List ℕ) (u l o m : ℕ) where
  abbrev low : ℕ
  low = low_of (takable_in xs u l)

  abbrev high : ℕ
  high = high_of (takable_in xs u l)

  -- the numbers of no role give nothing
  none_gives : gives_in xs 0 0 o m ≡ false
  unfolding gives_in
  none_gives = (some_none _ 128).1 (λ r w. rw (in_no_set r) (and-false (member xs (row_of (table_of m) o) r)))

  taken_role : (r : ℕ) → in_set low high r ≡ true → Among (roles_in xs) r
  unfolding takable_in
  taken_role r e =
      let taken : takable_in xs u l r ≡ true = ((and-iff (among 128 r) (takable_in xs u l r)).0 (sym (in_set_of (takable_in xs u l) r) ∙ e)).1 in
      (among_iff (roles_in xs) r).0 ((and-iff (among (roles_in xs) r) (entitled xs u r && fitting xs l r)).0 taken).0

  gives_could : Sound xs → gives_in xs low high o m ≡ could xs u l o (table_of m)
  unfolding gives_in could role_could takable_in
  gives_could whole =
      some_first (roles_in xs) whole.roles _ (role_could xs u l o (table_of m))
      (λ r w e. taken_role r ((and-iff (member xs (row_of (table_of m) o) r) (in_set low high r)).0 e).1)
      (λ r w.
      let held = member xs (row_of (table_of m) o) r in
      rw (in_set_of (takable_in xs u l) r, (among_iff 128 r).1 (omega (arith, whole.roles)), (among_iff (roles_in xs) r).1 w)
      (and_comm held (entitled xs u r && fitting xs l r) ∙ and_assoc (entitled xs u r) (fitting xs l r) held))

  -- the figure that a takable set gives, where the set was told with the number N
  told_set : (N : ℕ) → cond {A = ℕ} (gives_in xs (if_done N low 0) (if_done N high 0) o m) 1 0 ≡ if_done N (cond (gives_in xs low high o m) 1 0) 0
  unfolding if_done
  told_set zero = refl
  told_set (suc n) = rw none_gives

  -- the numbers of the three calls, by their tests: the state, the user, the label, the card, the mode, and that the clearance dominates the label
  by_tests : (x y : ℕ) (a b c d e g : Bool) → (a ≡ true → x ≡ y)
      → if_done (unless a 21 (unless b 25 (unless c 25 (unless d 25 (unless e 25 (unless g 26 0)))))) x 0
      ≡ if_done (unless a 21 (unless (c && (d && e)) 25 0)) (if_done (unless a 21 (unless b 25 (unless c 25 (unless g 26 0)))) y 0) 0
  unfolding unless if_done
  by_tests x y false b c d e g h = refl
  by_tests x y true true false d e g h = refl
  by_tests x y true false false d e g h = refl
  by_tests x y true true true false e g h = refl
  by_tests x y true false true false e g h = refl
  by_tests x y true true true true false g h = refl
  by_tests x y true false true true false g h = refl
  by_tests x y true false true true true g h = refl
  by_tests x y true true true true true false h = refl
  by_tests x y true true true true true true h = h refl

  -- "`monitor_can` is 1 exactly where `monitor_gives` is 1 of what `monitor_takable` gives", whatever the state's bytes are
  pub can_gives : {n a b k g i figure : ℕ} → TakableOf xs u l n a b → GivesOf xs a b l o m k g → Cans xs u l o m i figure → figure ≡ g
  unfolding can_number takable_number review_number
  can_gives taken given asked =
      asked.answer
      ∙ by_tests (cond (could xs u l o (table_of m)) 1 0) (cond (gives_in xs low high o m) 1 0)
      (sound xs) (among (users_in xs) u) (among (labels_in xs) l) (among (cards_in xs) o) (among 2 m) (cleared xs u l)
      (λ e. rw (gives_could ((sound_iff xs).0 e)))
      ∙ rw (← told_set (takable_number xs u l), ← taken.low, ← taken.high) (sym given.answer)

-- ---- by the rules

-- a session takes a role exactly where it is one that its user may take at its label
pub takable_iff : (σ : Settings) (α : Relation) (t : Sessions) (p r : ℕ) (s : Session) → Among 64 p → t p ≡ some s
    → (takable_by σ α s.user s.label r ≡ true) ↔ (take_rule σ α t p r ≡ 0)
unfolding takable_by take_rule
takable_iff σ α t p r s place found = (
  λ h.
      let (role, rest) = (and-iff (among σ.roles r) (entitled_by σ α s.user r && fitting_by σ s.label r)).0 h in
      let (member, suited) = (and-iff (entitled_by σ α s.user r) (fitting_by σ s.label r)).0 rest in
      test_passed 22 ((among_iff 64 p).1 place) ∙ rw found (test_passed 25 role ∙ test_passed 27 member ∙ test_passed 28 suited),
  λ z.
      let (role, rest) = unless_done (among σ.roles r) 25 _ (omega arith) (rw found at (unless_done (among 64 p) 22 _ (omega arith) z).1) in
      let (member, more) = unless_done (entitled_by σ α s.user r) 27 _ (omega arith) rest in
      let (suited, end) = unless_done (fitting_by σ s.label r) 28 0 (omega arith) more in
      (and-iff _ _).1 (role, (and-iff _ _).1 (member, suited)),
)

-- the roles that a session holds, as two numbers, give what the session may use
pub held_gives : (σ : Settings) → Bounded σ → (s : Session) (o m : ℕ) → set_gives_by σ (low_of s.held) (high_of s.held) o m ≡ gives_by σ m s o
unfolding set_gives_by gives_by
held_gives σ bounded s o m =
    some_agree _ _ σ.roles (λ r w. rw (in_set_of s.held r, (among_iff 128 r).1 (role_few σ bounded r w)))

-- ---- on every state that a load and calls left

module _ {f : List ℕ} (accepted : Accepted f) (a : Start f) (store : List ℕ) (cs : List Call) where
  abbrev σ : Settings
  σ = settings f

  -- the assignments and the session at each place, as they then are
  abbrev α : Relation
  α = (after_calls f cs).assigned

  abbrev t : Sessions
  t = (after_calls f cs).sessions

  abbrev xs : List ℕ
  xs = (left a store cs).state

  runs : Runs σ (after_calls f cs) (length store) (left a store cs)
  runs = left_runs accepted a store cs

  is_sound : sound xs ≡ true
  is_sound = sound_by σ runs.bounded α t xs runs.stands

  state_done : state_number xs ≡ 0
  unfolding state_number
  state_done = test_passed 21 is_sound

  pub counts_answers : {n p q r s : ℕ} → CountsOf xs n p q r s → (n ≡ 0) × (p ≡ σ.labels) × (q ≡ σ.roles) × (r ≡ σ.users) × (s ≡ σ.cards)
  unfolding if_done
  counts_answers h =
      let counted = runs.stands.tables.counted in (
        h.number ∙ state_done,
        h.labels ∙ rw state_done counted.labels,
        h.roles ∙ rw state_done counted.roles,
        h.users ∙ rw state_done counted.users,
        h.cards ∙ rw state_done counted.cards,
      )

  -- ---- one figure

  -- by other tests of the ranges, and another value, that say the same
  figure_as : {b c : Bool} {v w n figure : ℕ} → b ≡ c → (c ≡ true → v ≡ w) → Figured (review_number xs b) v n figure → Figured (unless c 25 0) w n figure
  unfolding review_number
  figure_as {b} {c} {v} {w} e same h =
      let number : unless (sound xs) 21 (unless b 25 0) ≡ unless c 25 0 = test_passed 21 is_sound ∙ rw e in
      record {
        number = h.number ∙ number;
        answer = h.answer ∙ rw number (both_ways (λ x y. x ≡ y) (unless c 25 0) v 0 w 0 (λ z. same (unless_done c 25 0 (omega arith) z).0) refl);
      }

  users_as : (u : ℕ) → among (users_in xs) u ≡ among σ.users u
  users_as u = rw runs.stands.tables.counted.users

  cards_as : (o : ℕ) → among (cards_in xs) o ≡ among σ.cards o
  cards_as o = rw runs.stands.tables.counted.cards

  labels_as : (l : ℕ) → among (labels_in xs) l ≡ among σ.labels l
  labels_as l = rw runs.stands.tables.counted.labels

  roles_as : (r : ℕ) → among (roles_in xs) r ≡ among σ.roles r
  roles_as r = rw runs.stands.tables.counted.roles

  pub clearance_answers : (u : ℕ) {n figure : ℕ} → ClearanceOf xs u n figure → Figured (unless (among σ.users u) 25 0) (σ.clearance u) n figure
  clearance_answers u =
      figure_as (users_as u) (λ e. runs.stands.tables.labelled.users u (user_few σ runs.bounded u ((among_iff σ.users u).0 e)))

  pub card_label_answers : (o : ℕ) {n figure : ℕ} → CardLabelOf xs o n figure → Figured (unless (among σ.cards o) 25 0) (σ.card_label o) n figure
  card_label_answers o =
      figure_as (cards_as o) (λ e. runs.stands.tables.labelled.cards o (card_few σ runs.bounded o ((among_iff σ.cards o).0 e)))

  -- the r-level by mode 1, the w-level by mode 2: a label, 0 free, 99 undefined
  pub level_answers : (r m : ℕ) {n figure : ℕ} → LevelOf xs r m n figure
      → Figured (unless (among σ.roles r && among 2 m) 25 0) (level_number (cond (eqb m 1) (r_level σ r) (w_level σ r))) n figure
  level_answers r m =
      figure_as (rw (roles_as r)) (λ e.
      let (known, mode) = (and-iff (among σ.roles r) (among 2 m)).0 e in
      let few = role_few σ runs.bounded r ((among_iff σ.roles r).0 known) in
      by_mode_lem (λ m. byte_of xs (levels_of m) r ≡ level_number (cond (eqb m 1) (r_level σ r) (w_level σ r)))
      (runs.stands.tables.levelled.reads r few) (runs.stands.tables.levelled.writes r few) m ((among_iff 2 m).0 mode))

  pub dominates_answers : (b c : ℕ) {n figure : ℕ} → Dominates xs b c n figure
      → Figured (unless (among σ.labels b && among σ.labels c) 25 0) (cond (σ.dominates b c) 1 0) n figure
  dominates_answers b c =
      figure_as (rw (labels_as b, labels_as c)) (λ e.
      rw (marked_by σ runs.bounded xs runs.stands.tables b c (inl ((among_iff σ.labels b).0 ((and-iff (among σ.labels b) (among σ.labels c)).0 e).0))))

  -- role r is a senior of role q, or the same
  pub senior_answers : (r q : ℕ) {n figure : ℕ} → SeniorTo xs r q n figure
      → Figured (unless (among σ.roles r && among σ.roles q) 25 0) (cond (σ.senior r q) 1 0) n figure
  senior_answers r q =
      figure_as (rw (roles_as r, roles_as q)) (λ e.
      let (first, second) = (and-iff (among σ.roles r) (among σ.roles q)).0 e in
      let v = (among_iff σ.roles r).0 first in
      let w = (among_iff σ.roles q).0 second in
      rw (runs.stands.tables.seniors q r (role_few σ runs.bounded q w) (role_few σ runs.bounded r v), le-leb q σ.roles w.1))

  pub assigned_answers : (u r : ℕ) {n figure : ℕ} → AssignedTo xs u r n figure
      → Figured (unless (among σ.users u && among σ.roles r) 25 0) (cond (α u r) 1 0) n figure
  assigned_answers u r =
      figure_as (rw (users_as u, roles_as r)) (λ e.
      let (first, second) = (and-iff (among σ.users u) (among σ.roles r)).0 e in
      rw (runs.stands.assigning u r (user_few σ runs.bounded u ((among_iff σ.users u).0 first)) (role_few σ runs.bounded r ((among_iff σ.roles r).0 second))))

  -- ---- what a set of roles gives

  -- a role that may use a card is one of the file's
  may_role : (m r o : ℕ) → may σ m r o ≡ true → Among σ.roles r
  unfolding may
  may_role m r o h =
      let (q, w, over, own) = (some_both (σ.senior r) (λ q. σ.permits m q o) σ.roles).0 h in
      ⊎_elim (λ e. rw e w) (λ both. both.0) (runs.bounded.seniority r q over)

  pub gives_answers : (low high l o m : ℕ) {n figure : ℕ} → GivesOf xs low high l o m n figure
      → Figured (unless (among σ.labels l && (among σ.cards o && among 2 m)) 25 0) (cond (set_gives_by σ low high o m) 1 0) n figure
  unfolding gives_in set_gives_by
  gives_answers low high l o m =
      figure_as (rw (labels_as l, cards_as o)) (λ e.
      let (card, mode) = (and-iff (among σ.cards o) (among 2 m)).0 ((and-iff (among σ.labels l) _).0 e).1 in
      let few = card_few σ runs.bounded o ((among_iff σ.cards o).0 card) in
      let says = table_says σ xs runs.stands.tables m ((among_iff 2 m).0 mode) in
      ap (λ (b : Bool). cond {A = ℕ} b 1 0)
      (some_first σ.roles runs.bounded.roles _ (λ r. in_set low high r && may σ m r o)
      (λ r w held. may_role m r o (sym (says o r few w) ∙ ((and-iff (member xs (row_of (table_of m) o) r) (in_set low high r)).0 held).0))
      (λ r w. rw (says o r few (role_few σ runs.bounded r w)) (and_comm (may σ m r o) (in_set low high r)))))

  -- ---- what a user may take at a label

  takable_number_lem : (u l : ℕ) → takable_number xs u l ≡ takable_rule σ u l
  unfolding takable_number takable_rule
  takable_number_lem u l =
      test_passed 21 is_sound
      ∙ test_same (among (users_in xs) u) (among σ.users u) 25 (users_as u) (λ user.
      test_same (among (labels_in xs) l) (among σ.labels l) 25 (labels_as l) (λ label.
      test_same (cleared xs u l) (σ.dominates (σ.clearance u) l) 26
      (cleared_by σ runs.bounded α t xs runs.stands u l ((among_iff σ.users u).0 user) ((among_iff σ.labels l).0 label)) (λ dominated. refl)))

  takable_role : (u l r : ℕ) → Among σ.users u → takable_in xs u l r ≡ takable_by σ α u l r
  unfolding takable_in takable_by
  takable_role u l r v =
      rw (roles_as r) (and_when (among σ.roles r) (λ e.
      let w = (among_iff σ.roles r).0 e in
      rw (entitled_by_lem σ runs.bounded α t xs runs.stands u r v w, fitting_by_lem σ runs.bounded α t xs runs.stands l r w)))

  takable_user : (u l : ℕ) → takable_rule σ u l ≡ 0 → Among σ.users u
  unfolding takable_rule
  takable_user u l z = (among_iff σ.users u).0 (unless_done (among σ.users u) 25 _ (omega arith) z).0

  pub takable_answers : (u l : ℕ) {n low high : ℕ} → TakableOf xs u l n low high
      → (n ≡ takable_rule σ u l) × (low ≡ if_done n (low_of (takable_by σ α u l)) 0) × (high ≡ if_done n (high_of (takable_by σ α u l)) 0)
  takable_answers u l {n} h =
      let e = h.number ∙ takable_number_lem u l in
      let set : n ≡ 0 → takable_in xs u l ≡ takable_by σ α u l = λ z i r. takable_role u l r (takable_user u l (sym e ∙ z)) i in (
        e,
        h.low ∙ rw (← h.number) (both_ways (λ x y. x ≡ y) n _ 0 _ 0 (λ z. ap low_of (set z)) refl),
        h.high ∙ rw (← h.number) (both_ways (λ x y. x ≡ y) n _ 0 _ 0 (λ z. ap high_of (set z)) refl),
      )

  -- ---- the session at a place

  module _ (p : ℕ) {n : ℕ} (number : n ≡ close_number xs p) where
    close_number_lem : n ≡ close_rule t p
    close_number_lem = number ∙ close_by σ runs.bounded α t xs runs.stands runs.known p

    found : n ≡ 0 → (s : Session) × (t p ≡ some s) × SessionAt xs p s
    unfolding close_rule
    found z =
        let d = session_done t p (λ s. 0) (sym close_number_lem ∙ z) in
        (d.session, d.found, rw d.found at (runs.stands.places p d.place))

    tells : {v w : ℕ} → v ≡ if_done (close_number xs p) w 0 → (told : Session → ℕ) → ((s : Session) → SessionAt xs p s → w ≡ told s)
        → v ≡ if_done n (of_session (t p) told) 0
    tells {v} {w} answer told agree =
        answer
        ∙ rw (← number)
        (both_ways (λ x y. x ≡ y) n w 0 (of_session (t p) told) 0 (λ z. let (s, here, there) = found z in rw here (agree s there)) refl)

  pub session_answers : (p : ℕ) {n u l low high : ℕ} → SessionOf xs p n u l low high
      → (n ≡ close_rule t p)
      × (u ≡ if_done n (of_session (t p) (λ s. s.user)) 0)
      × (l ≡ if_done n (of_session (t p) (λ s. s.label)) 0)
      × (low ≡ if_done n (of_session (t p) (λ s. low_of s.held)) 0)
      × (high ≡ if_done n (of_session (t p) (λ s. high_of s.held)) 0)
  session_answers p h = (
    close_number_lem p h.number,
    tells p h.number h.user (λ s. s.user) (λ s there. there.user),
    tells p h.number h.label (λ s. s.label) (λ s there. there.label),
    tells p h.number h.low (λ s. low_of s.held) (λ s there. ap low_of (λ i r. there.held r i)),
    tells p h.number h.high (λ s. high_of s.held) (λ s there. ap high_of (λ i r. there.held r i)),
  )

  -- its user may open its label, since the session was opened
  may_open : (p : ℕ) (s : Session) → t p ≡ some s → takable_rule σ s.user s.label ≡ 0
  unfolding rule takable_rule unless
  may_open p s here =
      let since = (open_for_iff σ (assigned f) cs p s.user s.label).0 (rw here (refl, refl)) in
      let o = opening σ (standing σ (begun (assigned f)) since.earlier).sessions p s.user s.label since.done in
      rw ((among_iff σ.users s.user).1 o.user, (among_iff σ.labels s.label).1 o.label, o.cleared)

  takable_of : (u l : ℕ) {n c d : ℕ} → TakableOf xs u l n c d → takable_rule σ u l ≡ 0 → (r : ℕ) → (in_set c d r ≡ true) ↔ (takable_by σ α u l r ≡ true)
  unfolding if_done takable_by
  takable_of u l {n} {c} {d} h z r =
      let (number, low, high) = takable_answers u l h in
      let first : c ≡ low_of (takable_by σ α u l) = low ∙ rw (number ∙ z) in
      let second : d ≡ high_of (takable_by σ α u l) = high ∙ rw (number ∙ z) in
      let told : in_set c d r ≡ (among 128 r && takable_by σ α u l r) = rw (first, second) (in_set_of (takable_by σ α u l) r) in (
        λ e. ((and-iff (among 128 r) (takable_by σ α u l r)).0 (sym told ∙ e)).1,
        λ e. told ∙ (and-iff (among 128 r) (takable_by σ α u l r)).1
            ((among_iff 128 r).1 (role_few σ runs.bounded r ((among_iff σ.roles r).0 ((and-iff (among σ.roles r) _).0 e).0)), e),
      )

  -- `monitor_take` answers 0 exactly for the roles that `monitor_takable` tells of the session's user and label
  pub takable_take : (p r : ℕ) {u l low high n c d : ℕ} → SessionOf xs p 0 u l low high → TakableOf xs u l n c d
      → (in_set c d r ≡ true) ↔ (take_number xs p r ≡ 0)
  unfolding if_done
  takable_take p r {u} {l} session taken =
      let (done, user, label, held, more) = session_answers p session in
      let (s, here, there) = found p session.number refl in
      let who : u ≡ s.user = user ∙ rw here in
      let where_to : l ≡ s.label = label ∙ rw here in
      let one = takable_of u l taken (rw (who, where_to) (may_open p s here)) r in
      let two = takable_iff σ α t p r s (close_room xs p (sym session.number)).place here in
      let number = take_by σ runs.bounded α t xs runs.stands runs.known p r in (
        λ e. number ∙ two.0 (rw (who, where_to) at (one.0 e)),
        λ z. one.1 (rw (who, where_to) (two.1 (sym number ∙ z))),
      )
