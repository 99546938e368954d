-- Which roles a user can take at all, of any lawful settings: 14 to 16 refuse exactly the assignments whose role the user could take in no session; and where every assignment passes them,
-- the user can take every role that 27 does not bar, juniors included, at some label that the user may open. Assumes nothing.
use Rattle.std.proofs.Common.{ℕ, ◌≡◌, refl, sym, ◌∙◌, ◌↔◌, ⊎_elim, true, [], ◌∷◌, arith}
use mathlib.Core.Logic.Iff
use mathlib.Core.Option.{some-injective}
use Rattle.search.specs.Search.{Among}
use Rattle.order.specs.Closure.{Relation}
use Rattle.rolefile.specs.Form.{refusal}
use Rattle.rolefile.proofs.Decides.{decides_zero}
use Rattle.policy.specs.Settings.{Inside, Settings}
use Rattle.policy.specs.Verdict.{assign_verdict}
use Rattle.policy.specs.Accepted.{Serves, WithinLevels, Lawful, AllWithinLevels, AssignRefused}
use Rattle.policy.proofs.Checks.{assign_decides}
use Rattle.policy.proofs.Juniors.{serves_junior}
use Rattle.monitor.specs.Runs.{opens, takes}
use Rattle.monitor.specs.Calls.{unless}
use Rattle.monitor.specs.Rules.{Standing, no_sessions, entitled_by, take_rule, begun, rule, standing}
use Rattle.monitor.specs.Granted.{OpenFor}
use Rattle.monitor.specs.Rights.{CouldTake}
use Rattle.monitor.proofs.Orderly.{opening, opening_done, session_done, taking}
use Rattle.monitor.proofs.History.{assigned_kept, session_with, Opened, open_for_iff}
use Rattle.monitor.proofs.Grants.{fitting_by_iff, entitled_by_iff, rule_iff}

module _ (σ : Settings) (lawful : Lawful σ) (α : Relation) (u r : ℕ) where
  -- at a label that serves: an opening, and the taking
  take_at : Among σ.users u → Among σ.roles r → entitled_by σ α u r ≡ true → (y : ℕ) → Serves σ u r y → CouldTake σ α u r
  unfolding rule standing
  take_at user role member y s = record {
    calls = opens 1 u y ∷ [];
    place = 1;
    label = y;
    session = session;
    taken = (rule_iff σ α lawful.dominance 0 (opens 1 u y ∷ []) (takes 1 r)).1 (record {
      session = record { user = u; label = y; since = session };
      role = role;
      member = (entitled_by_iff σ α u r).0 member;
      reads = s.reads;
      writes = s.writes;
    });
  }
    where
      session : OpenFor σ α (opens 1 u y ∷ []) 1 u y
      session = record {
        earlier = [];
        later = [];
        split = refl;
        done = opening_done σ no_sessions 1 u y (record { place = omega arith; free = refl; user = user; label = s.label; cleared = s.cleared });
        lasts = tt;
      }

  -- what a taking in some session tells
  taken_at : CouldTake σ α u r → (entitled_by σ α u r ≡ true) × ((y : ℕ) × Serves σ u r y)
  unfolding rule take_rule unless
  taken_at c =
      let now : Standing = standing σ (begun α) c.calls in
      let (s, found, (who, there)) = session_with (Opened σ α c.calls c.place u c.label) (now.sessions c.place) ((open_for_iff σ α c.calls c.place u c.label).1 c.session) in
      let o = opening σ (standing σ (begun α) c.session.earlier).sessions c.place u c.label c.session.done in
      let a = session_done now.sessions c.place _ c.taken in
      let same : a.session ≡ s = some-injective a.session s (sym a.found ∙ found) in
      let (w, member, fit) = taking σ now.assigned r a.session a.done in
      let (reads, writes) = (fitting_by_iff σ lawful.dominance c.label r).0 (rw (same, there) at fit) in (
        rw (same, who, assigned_kept σ c.calls (begun α)) at member,
        (c.label, record { label = o.label; cleared = o.cleared; reads = reads; writes = writes }),
      )

  module _ (user : Among σ.users u) (role : Among σ.roles r) where
    module _ (assigned : α u r ≡ true) where
      entitled : entitled_by σ α u r ≡ true
      entitled = (entitled_by_iff σ α u r).1 (r, role, assigned, lawful.seniority.reflexive r role)

      -- some label serves an assignment exactly where the user could take its role in some session
      pub serves_take_iff : WithinLevels σ u r ↔ CouldTake σ α u r
      serves_take_iff = (λ (y, s). take_at user role entitled y s, λ c. (taken_at c).1)

      module _ (inside : Inside σ.labels σ.dominates) where
        -- so an assignment passes 14 to 16 exactly where the user could
        pub assignable_iff : ((assign_verdict σ u r).number ≡ 0) ↔ CouldTake σ α u r
        assignable_iff = Iff.trans (decides_zero (assign_decides σ lawful.dominance inside u r)) serves_take_iff

        -- and one of the three refuses it exactly where the user could in no session
        pub refused_iff : ((n : ℕ) × AssignRefused σ u r n) ↔ (CouldTake σ α u r → ⊥)
        refused_iff =
            let d = assign_decides σ lawful.dominance inside u r in (
              λ (n, b) c. (d.bad (refusal n u r) (n, b, refl)).1 (rw (d.good (serves_take_iff.1 c))),
              λ none. ⊎_elim (λ w. absurd (none (serves_take_iff.0 w))) (λ (n, b, e). (n, b)) d.told,
            )

    -- where every assignment passes, a role can be taken exactly where 27 does not bar it
    pub available_iff : AllWithinLevels σ α → (entitled_by σ α u r ≡ true) ↔ CouldTake σ α u r
    available_iff within = (
      λ e.
          let (q, w, a, s) = (entitled_by_iff σ α u r).0 e in
          let (y, serves) = within u q a in
          take_at user role e y (serves_junior σ lawful q r w role s u y serves),
      λ c. (taken_at c).0,
    )
