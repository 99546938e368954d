-- `monitor_can` by the settings, and by the session calls: its figure is 1 exactly when some role lets an opening, a taking and a use of the card through. Assumes nothing.
use Rattle.std.proofs.Common.{ℕ, zero, suc, ◌*◌, ◌≤◌, ◌≡◌, refl, sym, ap, ◌∙◌, ◌↔◌, inr, ⊎_elim, List, [], Bool, true, false, ◌&&◌, cond, arith, eqb, length, le-leb, eqb-true, eq-eqb}
use mathlib.Core.Bool.{false≢true}
use mathlib.Core.Option.{some, some-injective}
use Rattle.search.specs.Search.{among, Among}
use Rattle.search.proofs.Truth.{or_iff, and-iff, among_iff}
use Rattle.search.proofs.Found.{some_agree, some_both}
use Rattle.roleset.specs.Row.{member, row_of}
use Rattle.rolefile.specs.Said.{cards, assigned}
use Rattle.order.specs.Closure.{Relation}
use Rattle.policy.specs.Settings.{Settings, settings, Bounded}
use Rattle.policy.specs.Policy.{may}
use Rattle.policy.specs.Accepted.{Accepted}
use Rattle.policy.specs.Image.{Allows, Describes}
use Rattle.policy.proofs.Inside.{file_bounded}
use Rattle.policy.proofs.Meaning.{role_few, card_few}
use Rattle.policy.specs.Tables.{table_of}
use Rattle.policy.proofs.Relating.{by_mode_lem}
use Rattle.monitor.specs.Session.{labels_in, users_in, cards_in, cleared, entitled, fitting}
use Rattle.monitor.specs.Calls.{unless, if_done}
use Rattle.monitor.specs.Runs.{Call, opens, takes, Memory, Start, loaded, after, run, left}
use Rattle.monitor.specs.Rules.{Session, Sessions, no_sessions, entitled_by, fitting_by, gives_by, open_rule, take_rule, part_rule, rule, session_of, holding, stand, begun, sessions_after, next, standing}
use Rattle.monitor.specs.Rights.{can_number, role_could, could, Cans, can_rule, could_by, use_of, CouldUse}
use Rattle.monitor.proofs.Answers.{unless_done, figure_same}
use Rattle.monitor.proofs.Orderly.{opening, opening_done, taking, gives_iff, part_done}
use Rattle.monitor.proofs.Stands.{Stands}
use Rattle.monitor.proofs.ByRules.{test_same, test_passed, sound_by, cleared_by, entitled_by_lem, fitting_by_lem}
use Rattle.monitor.proofs.Places.{put_at}
use Rattle.monitor.proofs.Demand2.{Runs, runs_next, runs_number, after_calls, loaded_runs, left_stands}

-- ---- by the settings

-- the table of a mode says who may
pub table_says : (σ : Settings) (xs : List ℕ) → Describes σ xs → (m : ℕ) → Among 2 m → Allows σ m (table_of m) xs
table_says σ xs tables = by_mode_lem (λ m. Allows σ m (table_of m) xs) tables.permitting.readers tables.permitting.writers

module _ (σ : Settings) (bounded : Bounded σ) (α : Relation) (t : Sessions) (xs : List ℕ) (stands : Stands σ α t xs) where
  number_by : (u l o m : ℕ) → can_number xs u l o m ≡ can_rule σ u l o m
  unfolding can_number can_rule
  number_by u l o m =
      test_passed 21 (sound_by σ bounded α t xs stands)
      ∙ test_same (among (users_in xs) u) (among σ.users u) 25 (rw stands.tables.counted.users) (λ user.
      test_same (among (labels_in xs) l) (among σ.labels l) 25 (rw stands.tables.counted.labels) (λ label.
      test_same (among (cards_in xs) o) (among σ.cards o) 25 (rw stands.tables.counted.cards) (λ card.
      test_same (among 2 m) (among 2 m) 25 refl (λ mode.
      test_same (cleared xs u l) (σ.dominates (σ.clearance u) l) 26
      (cleared_by σ bounded α t xs stands u l ((among_iff σ.users u).0 user) ((among_iff σ.labels l).0 label)) (λ dominated. refl)))))

  pub could_by_lem : (u l o m : ℕ) → Among σ.users u → Among σ.cards o → Among 2 m → could xs u l o (table_of m) ≡ could_by σ α u l o m
  unfolding could could_by role_could
  could_by_lem u l o m user card mode =
      rw stands.tables.counted.roles
      (some_agree (λ r. entitled xs u r && (fitting xs l r && member xs (row_of (table_of m) o) r)) (λ r. entitled_by σ α u r && (fitting_by σ l r && may σ m r o)) σ.roles
      (λ r w. rw (entitled_by_lem σ bounded α t xs stands u r user w, fitting_by_lem σ bounded α t xs stands l r w, table_says σ xs stands.tables m mode o r (card_few σ bounded o card) (role_few σ bounded r w))))

-- ---- by the session calls

-- what a question that is done tells
pub record Able (σ : Settings) (u l o m : ℕ) : Type 0 where
  pub user : Among σ.users u
  pub label : Among σ.labels l
  pub card : Among σ.cards o
  pub mode : Among 2 m
  pub cleared : σ.dominates (σ.clearance u) l ≡ true

can_done : (σ : Settings) (u l o m : ℕ) → can_rule σ u l o m ≡ 0 → Able σ u l o m
unfolding can_rule
can_done σ u l o m h =
    let (a, x) = unless_done (among σ.users u) 25 _ (omega arith) h in
    let (b, y) = unless_done (among σ.labels l) 25 _ (omega arith) x in
    let (c, z) = unless_done (among σ.cards o) 25 _ (omega arith) y in
    let (d, v) = unless_done (among 2 m) 25 _ (omega arith) z in
    let (e, w) = unless_done (σ.dominates (σ.clearance u) l) 26 _ (omega arith) v in
    record {
      user = (among_iff σ.users u).0 a;
      label = (among_iff σ.labels l).0 b;
      card = (among_iff σ.cards o).0 c;
      mode = (among_iff 2 m).0 d;
      cleared = e;
    }

able_done : (σ : Settings) (u l o m : ℕ) → Able σ u l o m → can_rule σ u l o m ≡ 0
unfolding can_rule unless
able_done σ u l o m a =
    rw (
      (among_iff σ.users u).1 a.user,
      (among_iff σ.labels l).1 a.label,
      (among_iff σ.cards o).1 a.card,
      (among_iff 2 m).1 a.mode,
      a.cleared,
    )

module _ (σ : Settings) (α : Relation) (size p u l : ℕ) (place : Among 64 p) (enough : 64 * σ.cards ≤ size) where
  abbrev one : Sessions
  one = (next σ (begun α) (opens p u l)).sessions

  abbrev two : ℕ → Sessions
  two r = (next σ (stand α one) (takes p r)).sessions

  -- the session at the place after the opening, and after the taking
  module _ (opened : open_rule σ no_sessions p u l ≡ 0) where
    session_one : one p ≡ some (session_of u l)
    unfolding sessions_after if_done
    session_one = rw opened (put_at no_sessions p (some (session_of u l)) p refl)

    session_two : (r : ℕ) → take_rule σ α one p r ≡ 0 → two r p ≡ some (holding r (session_of u l))
    unfolding sessions_after if_done
    session_two r taken = rw taken (put_at one p _ p refl ∙ rw session_one)

  -- the use of a card
  use_rule : (m o : ℕ) (t : Sessions) → Among 2 m → rule σ size (stand α t) (use_of m p o) ≡ part_rule σ m t size p o 0 0
  unfolding rule
  use_rule m o t = by_mode_lem (λ m. rule σ size (stand α t) (use_of m p o) ≡ part_rule σ m t size p o 0 0) refl refl m

  holds_one : (m o r : ℕ) → gives_by σ m (holding r (session_of u l)) o ≡ true → may σ m r o ≡ true
  holds_one m o r h =
      let (q, w, held, gives) = (gives_iff σ m (holding r (session_of u l)) o).0 h in
      ⊎_elim (λ x. absurd (false≢true x)) (λ x. rw (eqb-true q r x) at gives) ((or_iff false (eqb q r)).0 held)

  holds_use : (m o r : ℕ) → Among σ.roles r → may σ m r o ≡ true → gives_by σ m (holding r (session_of u l)) o ≡ true
  holds_use m o r w h = (gives_iff σ m (holding r (session_of u l)) o).1 (r, w, (or_iff false (eqb r r)).1 (inr (eq-eqb r r refl)), h)

  -- the three calls let through, by the rules
  record Let (o m r : ℕ) : Type 0 where
    pub opened : open_rule σ no_sessions p u l ≡ 0
    pub taken : take_rule σ α one p r ≡ 0
    pub used : part_rule σ m (two r) size p o 0 0 ≡ 0

  come : (o m : ℕ) → Able σ u l o m → could_by σ α u l o m ≡ true → (r : ℕ) × Let o m r
  unfolding could_by take_rule part_rule unless
  come o m a h =
      let (r, w, b, x) = (some_both (entitled_by σ α u) (λ r. fitting_by σ l r && may σ m r o) σ.roles).0 h in
      let (s, g) = (and-iff (fitting_by σ l r) (may σ m r o)).0 x in
      let opened = opening_done σ no_sessions p u l (record { place = place; free = refl; user = a.user; label = a.label; cleared = a.cleared }) in
      let taken : take_rule σ α one p r ≡ 0 = rw ((among_iff 64 p).1 place, session_one opened, (among_iff σ.roles r).1 w, b, s) in (
        r,
        record {
          opened = opened;
          taken = taken;
          used = rw ((among_iff 64 p).1 place, session_two opened r taken, (among_iff σ.cards o).1 a.card, holds_use m o r w g, le-leb (64 * σ.cards) size enough);
        },
      )

  came : (o m r : ℕ) → Among 2 m → Let o m r → Able σ u l o m × (could_by σ α u l o m ≡ true)
  unfolding could_by take_rule
  came o m r mode x =
      let op = opening σ no_sessions p u l x.opened in
      let (w, b, s) = taking σ α r (session_of u l) (unless_done (among 64 p) 22 _ (omega arith) (rw (session_one x.opened) at x.taken)).1 in
      let part = part_done σ m (two r) size p o 0 0 x.used in
      let who : part.session ≡ holding r (session_of u l) =
      some-injective part.session (holding r (session_of u l)) (sym part.found ∙ session_two x.opened r x.taken) in
      let same : gives_by σ m (holding r (session_of u l)) o ≡ true = ap (λ (s : Session). gives_by σ m s o) (sym who) ∙ part.used in (
        record { user = op.user; label = op.label; card = part.card; mode = mode; cleared = op.cleared },
        (some_both (entitled_by σ α u) (λ r. fitting_by σ l r && may σ m r o) σ.roles).1
            (r, w, b, (and-iff (fitting_by σ l r) (may σ m r o)).1 (s, holds_one m o r same)),
      )

-- a figure is 1 exactly when the question is done and the answer is yes
figure_one : (n : ℕ) (b : Bool) → (if_done n (cond {A = ℕ} b 1 0) 0 ≡ 1) ↔ ((n ≡ 0) × (b ≡ true))
unfolding if_done
figure_one zero true = (λ e. (refl, refl), λ e. refl)
figure_one zero false = (λ e. absurd (omega arith), λ (e, b). absurd (false≢true b))
figure_one (suc n) b = (λ e. absurd (omega arith), λ (e, b). absurd (omega arith))

module _ {f : List ℕ} (accepted : Accepted f) (a : Start f) (store : List ℕ) where
  abbrev start : Memory
  start = loaded a store

  -- on every state that a load and calls left: by the settings, and never 21
  module _ (cs : List Call) where
    abbrev end : List ℕ
    end = (left a store cs).state

    -- who is then assigned to what
    abbrev α : Relation
    α = (after_calls f cs).assigned

    pub can_answers : (u l o m n figure : ℕ) → Cans end u l o m n figure → (n ≡ can_rule (settings f) u l o m) × (figure ≡ if_done n (cond (could_by (settings f) α u l o m) 1 0) 0)
    can_answers u l o m n figure h =
        let form = file_bounded f accepted.form in
        let stands = left_stands accepted a store cs in
        let e = h.number ∙ number_by (settings f) form α t end stands u l o m in (
          e,
          figure_same n h.number h.answer (λ z.
              let w = can_done (settings f) u l o m (sym e ∙ z) in could_by_lem (settings f) form α t end stands u l o m w.user w.card w.mode),
        )
      where
        t : Sessions
        t = (after_calls f cs).sessions

  -- from the state that a load left, at any place and with a store that has all cards
  module _ (enough : 64 * cards f ≤ length store) (p : ℕ) (place : Among 64 p) (u l o m : ℕ) (mode : Among 2 m) where
    runs_one : Runs (settings f) (next (settings f) (begun (assigned f)) (opens p u l)) (length store) (after start (opens p u l))
    runs_one = runs_next (settings f) (begun (assigned f)) (length store) start (loaded_runs accepted a store) (opens p u l)

    runs_two : (r : ℕ) → Runs (settings f) (next (settings f) (next (settings f) (begun (assigned f)) (opens p u l)) (takes p r)) (length store) (after (after start (opens p u l)) (takes p r))
    runs_two r = runs_next (settings f) (next (settings f) (begun (assigned f)) (opens p u l)) (length store) (after start (opens p u l)) runs_one (takes p r)

    granting : (r : ℕ) → Let (settings f) (assigned f) (length store) p u l place enough o m r ↔ CouldUse start p u l o m r
    unfolding rule
    granting r =
        let one = runs_number (settings f) (begun (assigned f)) (length store) start (loaded_runs accepted a store) (opens p u l) in
        let two = runs_number (settings f) _ (length store) _ runs_one (takes p r) in
        let three = runs_number (settings f) _ (length store) _ (runs_two r) (use_of m p o) ∙ use_rule (settings f) (assigned f) (length store) p u l place enough m o _ mode in (
          λ x. record { opened = one ∙ x.opened; taken = two ∙ x.taken; used = three ∙ x.used },
          λ x. record { opened = sym one ∙ x.opened; taken = sym two ∙ x.taken; used = sym three ∙ x.used },
        )

    pub can_iff : (n figure : ℕ) → Cans a.state u l o m n figure → (figure ≡ 1) ↔ ((r : ℕ) × CouldUse start p u l o m r)
    unfolding run standing
    can_iff n figure h =
        let (by, told) = can_answers [] u l o m n figure h in
        let one = figure_one n (could_by (settings f) (assigned f) u l o m) in (
          λ e.
              let (z, held) = one.0 (sym told ∙ e) in
              let (r, x) = come (settings f) (assigned f) (length store) p u l place enough o m (can_done (settings f) u l o m (sym by ∙ z)) held in
              (r, (granting r).0 x),
          λ (r, x).
              let (able, held) = came (settings f) (assigned f) (length store) p u l place enough o m r mode ((granting r).1 x) in
              told ∙ one.1 (by ∙ able_done (settings f) u l o m able, held),
        )
