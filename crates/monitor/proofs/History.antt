-- Which places are open and what is held, by the calls: a session is at a place exactly since an opening that was done, and holds a role exactly since a taking that was done. Each
-- call begins such a thing, ends it or leaves it, and the rest is induction along the list. Assumes nothing.
use Rattle.std.proofs.Common.{ℕ, zero, suc, ◌≡◌, refl, ap, ◌∙◌, ◌↔◌, ◌⊎◌, inl, inr, ⊎_elim, List, [], ◌∷◌, ◌++◌, Bool, true, false, not, ◌&&◌, arith, eqb, eqb-true, eq-eqb, ne_eqb}
use mathlib.Core.Bool.{false≢true, and-false}
use mathlib.Core.Option.{Option, none, some, map}
use native.Mathlib.Decide.{ℕ_discrete}
use borrow.Author.Tests.{not-true}
use Rattle.search.specs.Search.{Among}
use Rattle.search.proofs.Truth.{or_iff, and-iff, among_iff, untrue, both, eqb_swap}
use Rattle.order.specs.Closure.{Relation}
use Rattle.policy.specs.Settings.{Settings}
use Rattle.monitor.specs.Calls.{unless, if_done}
use Rattle.monitor.specs.Runs.{Call, opens, closes, takes, drops, reads, writes}
use Rattle.monitor.specs.Places.{is_free, put}
use Rattle.monitor.specs.Rules.{Session, Sessions, open_rule, close_rule, take_rule, drop_rule, rule, session_of, holding, without, Standing, stand, begun, sessions_after, next, standing}
use Rattle.monitor.specs.Granted.{ends, NoneEnds, Since, OpenFor, Holds}
use Rattle.monitor.proofs.Answers.{either_way}
use Rattle.monitor.proofs.Places.{put_at, put_other}
use Rattle.monitor.proofs.Orderly.{Admitted, Orderly, no_sessions_orderly, opening, session_done, admitted, session_granted, orderly_next}

-- ---- lists of calls

standing_append : (σ : Settings) (ds cs : List Call) (now : Standing) → standing σ now (ds ++ cs) ≡ standing σ (standing σ now ds) cs
unfolding standing
standing_append σ [] cs now = refl
standing_append σ (c ∷ ds) cs now = standing_append σ ds cs (next σ now c)

-- no call changes the assignments
pub assigned_kept : (σ : Settings) (cs : List Call) (now : Standing) → (standing σ now cs).assigned ≡ now.assigned
unfolding standing
assigned_kept σ [] now = refl
assigned_kept σ (c ∷ cs) now = assigned_kept σ cs (next σ now c)

pub orderly_standing : (σ : Settings) (cs : List Call) (now : Standing) → Orderly σ now.sessions → Orderly σ (standing σ now cs).sessions
unfolding standing
orderly_standing σ [] now k = k
orderly_standing σ (c ∷ cs) now k = orderly_standing σ cs (next σ now c) (orderly_next σ now.assigned now.sessions k c)

-- ---- one place

-- what is true of the session that is there
abbrev pub SessionWith : (Session → Type 0) → Option Session → Type 0
SessionWith Good none = ⊥
SessionWith Good (some s) = Good s

pub session_with : (Good : Session → Type 0) (o : Option Session) → SessionWith Good o → (s : Session) × (o ≡ some s) × Good s
session_with Good none h = absurd h
session_with Good (some s) h = (s, refl, h)

-- which way a call went
which_way : {A : Type 0} (P : A → Type 0) (n : ℕ) (new old : A) → P (if_done n new old) → ((n ≡ 0) × P new) ⊎ ((n ≡ 0 → ⊥) × P old)
unfolding if_done
which_way P zero new old h = inl (refl, h)
which_way P (suc n) new old h = inr (λ e. omega arith, h)

-- ---- what begins with a call at place p and ends with a closing, or with a dropping of a role of those that `which` tells
record Kind (p : ℕ) (which : ℕ → Bool) (call : Call) (Good : Session → Type 0) : Type 0 where
  pub opened : (u l : ℕ) → Good (session_of u l) → opens p u l ≡ call
  pub taken : (r : ℕ) (s : Session) → Good (holding r s) → Good s ⊎ (takes p r ≡ call)
  pub keeps : (r : ℕ) (s : Session) → Good s → Good (holding r s)
  pub dropped : (r : ℕ) (s : Session) → Good (without r s) → Good s × (which r ≡ false)
  pub spares : (r : ℕ) (s : Session) → Good s → which r ≡ false → Good (without r s)
  pub role : (σ : Settings) (s : Session) → Admitted σ p s → Good s → (r : ℕ) → which r ≡ true → Among σ.roles r

module _ (σ : Settings) (α : Relation) (p : ℕ) (which : ℕ → Bool) (call : Call) (Good : Session → Type 0) (kind : Kind p which call Good) (t : Sessions) where
  -- what is so at place p
  abbrev So : Sessions → Type 0
  So u = SessionWith Good (u p)

  changed : (change : Session → Session) → ((s : Session) → Good s → Good (change s)) → (o : Option Session) → SessionWith Good o → SessionWith Good (map change o)
  changed change h none e = e
  changed change h (some s) e = h s e

  elsewhere : (q : ℕ) (s : Option Session) → (q ≡ p → ⊥) → So t → So (put t q s)
  elsewhere q s n h = rw (put_other t q s p n) h

  back_elsewhere : (q : ℕ) (s : Option Session) → (q ≡ p → ⊥) → So (put t q s) → So t
  back_elsewhere q s n h = rw (put_other t q s p n) at h

  -- it lasts through each call that does not end it
  lasts_next : (c : Call) → So t → ends σ (stand α t) p which c ≡ false → So (sessions_after σ (stand α t) c)
  unfolding sessions_after close_rule drop_rule
  lasts_next (opens q u l) h e = either_way So (open_rule σ t q u l) (put t q (some (session_of u l))) t
      (λ z. elim (ℕ_discrete q p) [
        | yes i ↦
            let (s, found, g) = session_with Good (t p) h in
            let free : is_free (t p) ≡ true = rw i at (opening σ t q u l z).free in
            absurd (false≢true (rw found at free))
        | no n ↦ elsewhere q (some (session_of u l)) n h
      ])
      h
  lasts_next (closes q) h e = either_way So (close_rule t q) (put t q none) t
      (λ z. elsewhere q none (λ i. both (eq-eqb q p i) e) h) h
  lasts_next (takes q r) h e = either_way So (take_rule σ α t q r) (put t q (map (holding r) (t q))) t
      (λ z. elim (ℕ_discrete q p) [
        | yes i ↦ rw (put_at t q (map (holding r) (t q)) p i, i) (changed (holding r) (kind.keeps r) (t p) h)
        | no n ↦ elsewhere q (map (holding r) (t q)) n h
      ])
      h
  lasts_next (drops q r) h e = either_way So (drop_rule σ t q r) (put t q (map (without r) (t q))) t
      (λ z. elim (ℕ_discrete q p) [
        | yes i ↦
            let other : which r ≡ false = rw (eq-eqb q p i) at e in
            rw (put_at t q (map (without r) (t q)) p i, i) (changed (without r) (λ s g. kind.spares r s g other) (t p) h)
        | no n ↦ elsewhere q (map (without r) (t q)) n h
      ])
      h
  lasts_next (reads q o k n) h e = h
  lasts_next (writes q o k bytes) h e = h

  -- and where it is so after a call, it was so and the call did not end it, or the call began it
  abbrev Came : Call → Type 0
  Came c = (So t × (ends σ (stand α t) p which c ≡ false)) ⊎ ((c ≡ call) × (rule σ 0 (stand α t) c ≡ 0))

  back_taken : (r : ℕ) (o : Option Session) → SessionWith Good (map (holding r) o) → SessionWith Good o ⊎ (takes p r ≡ call)
  back_taken r none h = inl h
  back_taken r (some s) h = kind.taken r s h

  back_dropped : (r : ℕ) (o : Option Session) → SessionWith Good (map (without r) o) → SessionWith Good o × (which r ≡ false)
  back_dropped r none h = absurd h
  back_dropped r (some s) h = kind.dropped r s h

  back_next : Orderly σ t → (c : Call) → So (sessions_after σ (stand α t) c) → Came c
  unfolding sessions_after rule close_rule drop_rule unless
  back_next known (opens q u l) h =
      ⊎_elim
      (λ (z, g). elim (ℕ_discrete q p) [
        | yes i ↦ inr (rw i (kind.opened u l (rw (put_at t q (some (session_of u l)) p i) at g)), z)
        | no n ↦ inl (back_elsewhere q (some (session_of u l)) n g, refl)
      ])
      (λ (z, g). inl (g, refl))
      (which_way So (open_rule σ t q u l) (put t q (some (session_of u l))) t h)
  back_next known (closes q) h =
      ⊎_elim
      (λ (z, g). elim (ℕ_discrete q p) [
        | yes i ↦ absurd (rw (put_at t q none p i) at g)
        | no n ↦ inl (back_elsewhere q none n g, ne_eqb q p n)
      ])
      (λ (z, g).
      let (s, found, good) = session_with Good (t p) g in
      inl (g, ne_eqb q p (λ i. z (rw i (session_granted σ t known p s found (λ s. 0) refl)))))
      (which_way So (close_rule t q) (put t q none) t h)
  back_next known (takes q r) h =
      ⊎_elim
      (λ (z, g). elim (ℕ_discrete q p) [
        | yes i ↦
            ⊎_elim (λ so. inl (so, refl)) (λ e. inr (rw i e, z))
            (back_taken r (t p) (rw i at (rw (put_at t q (map (holding r) (t q)) p i) at g)))
        | no n ↦ inl (back_elsewhere q (map (holding r) (t q)) n g, refl)
      ])
      (λ (z, g). inl (g, refl))
      (which_way So (take_rule σ α t q r) (put t q (map (holding r) (t q))) t h)
  back_next known (drops q r) h =
      ⊎_elim
      (λ (z, g). elim (ℕ_discrete q p) [
        | yes i ↦
            let (so, other) = back_dropped r (t p) (rw i at (rw (put_at t q (map (without r) (t q)) p i) at g)) in
            inl (so, rw other (and-false (eqb q p)))
        | no n ↦ inl (back_elsewhere q (map (without r) (t q)) n g, rw (ne_eqb q p n))
      ])
      (λ (z, g).
      let (s, found, good) = session_with Good (t p) g in
      inl (
        g,
        untrue (eqb q p && which r) (λ e.
            let (i, j) = (and-iff (eqb q p) (which r)).0 e in
            z (rw (eqb-true q p i) (session_granted σ t known p s found _ (rw ((among_iff σ.roles r).1 (kind.role σ s (admitted σ t known p s found) good r j)))))),
      ))
      (which_way So (drop_rule σ t q r) (put t q (map (without r) (t q))) t h)
  back_next known (reads q o k n) h = inl (h, refl)
  back_next known (writes q o k bytes) h = inl (h, refl)

-- ---- along a list

module _ (σ : Settings) (p : ℕ) (which : ℕ → Bool) (call : Call) (Good : Session → Type 0) (kind : Kind p which call Good)
    (begins : (now : Standing) → rule σ 0 now call ≡ 0 → SessionWith Good ((next σ now call).sessions p)) where
  lasts_on : (cs : List Call) (now : Standing) → SessionWith Good (now.sessions p) → NoneEnds σ now p which cs → SessionWith Good ((standing σ now cs).sessions p)
  unfolding standing
  lasts_on [] now h lasting = h
  lasts_on (c ∷ cs) now h (e, lasting) = lasts_on cs (next σ now c) (lasts_next σ now.assigned p which call Good kind now.sessions c h e) lasting

  came : (cs : List Call) (now : Standing) → Orderly σ now.sessions → SessionWith Good ((standing σ now cs).sessions p)
      → (SessionWith Good (now.sessions p) × NoneEnds σ now p which cs) ⊎ Since σ now p which call cs
  unfolding standing
  came [] now k h = inl (h, tt)
  came (c ∷ cs) now k h =
      ⊎_elim
      (λ (so, lasting).
      ⊎_elim
      (λ (before, e). inl (before, (e, lasting)))
      (λ (e, z). inr (record { earlier = []; later = cs; split = ap (λ (d : Call). d ∷ cs) e; done = rw e at z; lasts = rw e at lasting }))
      (back_next σ now.assigned p which call Good kind now.sessions k c so))
      (λ s.
      inr (record { earlier = c ∷ s.earlier; later = s.later; split = ap (λ (ds : List Call). c ∷ ds) s.split; done = s.done; lasts = s.lasts }))
      (came cs (next σ now c) (orderly_next σ now.assigned now.sessions k c) h)

  since_iff : (α : Relation) (cs : List Call) → SessionWith Good ((standing σ (begun α) cs).sessions p) ↔ Since σ (begun α) p which call cs
  unfolding standing
  since_iff α cs = (
    λ h. ⊎_elim (λ (so, lasting). absurd so) (λ s. s) (came cs (begun α) (no_sessions_orderly σ) h),
    λ s.
        let now = standing σ (begun α) s.earlier in
        rw (s.split, standing_append σ s.earlier (call ∷ s.later) (begun α))
        (lasts_on s.later (next σ now call) (begins now s.done) s.lasts),
  )

-- ---- for whom a place is open, and what is held

module _ (σ : Settings) (α : Relation) (cs : List Call) (p : ℕ) where
  abbrev pub Opened : ℕ → ℕ → Session → Type 0
  Opened u l s = (s.user ≡ u) × (s.label ≡ l)

  open_kind : (u l : ℕ) → Kind p (λ r. false) (opens p u l) (Opened u l)
  open_kind u l = record {
    opened = λ v m (e, g). rw (e, g);
    taken = λ r s g. inl g;
    keeps = λ r s g. g;
    dropped = λ r s g. (g, refl);
    spares = λ r s g e. g;
    role = λ σ s a g r e. absurd (false≢true e);
  }

  pub open_for_iff : (u l : ℕ) → SessionWith (Opened u l) ((standing σ (begun α) cs).sessions p) ↔ OpenFor σ α cs p u l
  unfolding rule sessions_after if_done
  open_for_iff u l = since_iff σ p (λ r. false) (opens p u l) (Opened u l) (open_kind u l) (λ now z. rw (z, eq-eqb p p refl) (refl, refl)) α cs

  abbrev pub Held : ℕ → Session → Type 0
  Held r s = s.held r ≡ true

  holds_kind : (r : ℕ) → Kind p (λ q. eqb q r) (takes p r) (Held r)
  holds_kind r = record {
    opened = λ u l g. absurd (false≢true g);
    taken = λ q s g. ⊎_elim (λ h. inl h) (λ e. inr (rw (eqb-true r q e))) ((or_iff (s.held r) (eqb r q)).0 g);
    keeps = λ q s g. (or_iff (s.held r) (eqb r q)).1 (inl g);
    dropped = λ q s g.
        let (h, n) = (and-iff (s.held r) (not (eqb r q))).0 g in
        (h, eqb_swap q r ∙ not-true (eqb r q) n);
    spares = λ q s g e. rw (g, eqb_swap r q ∙ e);
    role = λ σ s a g q e. rw (eqb-true q r e) (a.roles r g).0;
  }

  pub holds_iff : (r : ℕ) → SessionWith (Held r) ((standing σ (begun α) cs).sessions p) ↔ Holds σ α cs p r
  unfolding rule sessions_after if_done take_rule
  holds_iff r = since_iff σ p (λ q. eqb q r) (takes p r) (Held r) (holds_kind r) begins α cs
    where
      begins : (now : Standing) → take_rule σ now.assigned now.sessions p r ≡ 0 → SessionWith (Held r) ((next σ now (takes p r)).sessions p)
      begins now z =
          let a = session_done now.sessions p _ z in
          rw (z, eq-eqb p p refl, a.found) ((or_iff (a.session.held r) (eqb r r)).1 (inr (eq-eqb r r refl)))
