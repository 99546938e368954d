-- What a state's tables say, where they describe bounded settings, is what the settings say: counts, dominance, role flow. Assumes nothing.
use Rattle.std.proofs.Common.{ℕ, ◌≤◌, ◌≡◌, refl, ap, ◌↔◌, ◌⊎◌, List, Bool, false, not, ◌&&◌, ◌||◌, arith, eqb, length, eq-eqb}
use Rattle.search.specs.Search.{Among}
use Rattle.search.proofs.Found.{wider, some_agree, first_none_of, first_lowest_of}
use Rattle.order.specs.Closure.{Agree, path, OnCircle, to_itself}
use Rattle.order.proofs.Closure.{path_iff, circle_misses, circle_agree}
use Rattle.policy.specs.Settings.{Bounded, Settings}
use Rattle.policy.specs.Policy.{may}
use Rattle.policy.specs.Flow.{flows, flow_circle}
use Rattle.policy.specs.Tables.{state_size, marked, flows_by_card, flowing, roles_up_to, cards_up_to, role_count, flows_in, circle_in}
use Rattle.policy.specs.Accepted.{LowestOnCircle}
use Rattle.policy.specs.Image.{Describes}
use Rattle.policy.proofs.Assigning.{marked_is}
use Rattle.policy.proofs.Flowing.{a_state}

module _ (σ : Settings) (bounded : Bounded σ) where
  pub role_few : (r : ℕ) → Among σ.roles r → Among 128 r
  role_few r w = wider σ.roles 128 bounded.roles w

  pub user_few : (u : ℕ) → Among σ.users u → Among 256 u
  user_few u w = wider σ.users 256 bounded.users w

  pub card_few : (o : ℕ) → Among σ.cards o → Among 512 o
  card_few o w = wider σ.cards 512 bounded.cards w

  module _ (xs : List ℕ) (tables : Describes σ xs) where
    pub marked_by : (a b : ℕ) → Among σ.labels a ⊎ Among σ.labels b → marked xs a b ≡ σ.dominates a b
    marked_by = marked_is σ xs bounded.labels.1 bounded.dominance tables.dominating

    -- ---- "Role flow"

    roles_by : roles_up_to xs ≡ σ.roles
    roles_by = let e = tables.counted.roles in omega (arith, bounded.roles)

    cards_by : cards_up_to xs ≡ σ.cards
    cards_by = let e = tables.counted.cards in omega (arith, bounded.cards)

    flowing_by : Agree 128 128 (flowing xs (cards_up_to xs)) (flows σ)
    unfolding flowing flows
    flowing_by r q v w = rw cards_by (ap (λ (b : Bool). not (eqb r q) && b)
        (some_agree (flows_by_card xs r q) (λ o. may σ 2 r o && (may σ 1 q o || may σ 2 q o)) σ.cards
        (λ o i.
        let j = card_few o i in
        rw (tables.permitting.writers o r j v, tables.permitting.readers o q j w, tables.permitting.writers o q j w))))

    -- as a whole state tells it
    module _ (long : state_size ≤ length xs) where
      pub role_count_by : role_count xs ≡ σ.roles
      role_count_by = rw (a_state xs long) roles_by

      pub flow_by : Agree 128 128 (flows_in xs) (flows σ)
      flow_by r q v w = rw (a_state xs long) (flowing_by r q v w)

      pub circle_by : circle_in xs ≡ flow_circle σ
      unfolding flow_circle
      circle_by = rw (a_state xs long, roles_by) (circle_agree σ.roles 128 (flowing xs (cards_up_to xs)) (flows σ) bounded.roles
          (λ r q v w. flowing_by r q (role_few r v) w))

-- ---- the circle as a property: "the lowest role on a circle of two or more roles, or 0"

module _ (σ : Settings) where
  -- no role flows to itself, so a circle has two roles or more
  pub flows_irreflexive : (r : ℕ) → flows σ r r ≡ false
  unfolding flows
  flows_irreflexive r = rw (eq-eqb r r refl)

  pub flow_circle_iff : (a : ℕ) → 1 ≤ a → (flow_circle σ ≡ a) ↔ LowestOnCircle σ.roles (flows σ) a
  unfolding flow_circle
  flow_circle_iff =
      first_lowest_of (to_itself (path σ.roles (flows σ))) σ.roles (λ a. path_iff (flows σ) σ.roles a a) (circle_misses (flows σ) σ.roles)

  pub no_circle_iff : (flow_circle σ ≡ 0) ↔ ((a : ℕ) → Among σ.roles a → OnCircle σ.roles (flows σ) a → ⊥)
  unfolding flow_circle
  no_circle_iff = first_none_of (to_itself (path σ.roles (flows σ))) σ.roles (circle_misses (flows σ) σ.roles)
