-- What makes a flow, and that shared writing goes both ways: two roles that may write one card are a circle of two, a role that may write and its senior among them. Assumes nothing.
use Rattle.std.proofs.Common.{ℕ, ◌≡◌, sym, ap, ◌↔◌, ◌⊎◌, inl, inr, ⊎_elim, true, not, ◌||◌, eqb, eqb-true, eq-eqb}
use mathlib.Core.Logic.Iff
use borrow.Author.Tests.{not-false}
use Rattle.search.specs.Search.{Among}
use Rattle.search.proofs.Truth.{or_iff, and_both, other_iff}
use Rattle.search.proofs.Found.{some_both}
use Rattle.order.specs.Closure.{here, step, OnCircle}
use Rattle.policy.specs.Settings.{Settings}
use Rattle.policy.specs.Policy.{may}
use Rattle.policy.specs.Flow.{flows, WritesInto, ShareWriting}
use Rattle.policy.specs.Accepted.{Lawful}
use Rattle.policy.proofs.Juniors.{junior_may}

module _ (σ : Settings) where
  module _ (r q : ℕ) where
    -- by a card that r may write, and that q may read or write
    by_card : ((o : ℕ) × Among σ.cards o × (may σ 2 r o ≡ true) × ((may σ 1 q o || may σ 2 q o) ≡ true)) ↔ (WritesInto σ 1 r q ⊎ ShareWriting σ r q)
    by_card = (
      λ (o, w, a, b). ⊎_elim (λ c. inl (o, w, a, c)) (λ c. inr (o, w, a, c)) ((or_iff (may σ 1 q o) (may σ 2 q o)).0 b),
      λ h. ⊎_elim
          (λ (o, w, a, b). (o, w, a, (or_iff (may σ 1 q o) (may σ 2 q o)).1 (inl b)))
          (λ (o, w, a, b). (o, w, a, (or_iff (may σ 1 q o) (may σ 2 q o)).1 (inr b)))
          h,
    )

    -- "Role r flows to another role q" exactly where it may write a card that q may read, or both may write one
    pub flows_iff : (flows σ r q ≡ true) ↔ ((r ≡ q → ⊥) × (WritesInto σ 1 r q ⊎ ShareWriting σ r q))
    unfolding flows
    flows_iff =
        and_both
        (other_iff true (λ e. eqb-true r q (not-false (eqb r q) e), λ e. ap not (eq-eqb r q e)))
        (Iff.trans (some_both (may σ 2 r) (λ o. may σ 1 q o || may σ 2 q o) σ.cards) by_card)

    -- shared writing is symmetric
    pub share_writing_symmetric : ShareWriting σ r q → ShareWriting σ q r
    share_writing_symmetric (o, w, a, b) = (o, w, b, a)

  -- so two roles that may write one card flow both ways
  pub shared_writing_flows : (r q : ℕ) → (r ≡ q → ⊥) → ShareWriting σ r q → (flows σ r q ≡ true) × (flows σ q r ≡ true)
  shared_writing_flows r q ne s = (
    (flows_iff r q).1 (ne, inr s),
    (flows_iff q r).1 (λ e. ne (sym e), inr (share_writing_symmetric r q s)),
  )

  -- "Two roles that write one card now form a circle of two" (document 02, change 9): by these two flows r is on one, and so is q
  pub shared_writing_circle : (r q : ℕ) → Among σ.roles r → Among σ.roles q → (r ≡ q → ⊥) → ShareWriting σ r q → OnCircle σ.roles (flows σ) r
  shared_writing_circle r q v w ne s = let (there, back) = shared_writing_flows r q ne s in (q, w, there, step back v here)

  -- inherited writes included: a senior shares what its junior may write
  pub senior_shares : (r q o : ℕ) → Lawful σ → Among σ.roles r → Among σ.roles q → σ.senior r q ≡ true → Among σ.cards o → may σ 2 q o ≡ true
      → ShareWriting σ r q
  senior_shares r q o lawful v w over u h = (o, u, junior_may σ lawful r q v w over 2 o h, h)
