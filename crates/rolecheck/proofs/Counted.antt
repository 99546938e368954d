-- The numbers that a state's lines hold. Assumes nothing.
use Prim.Native.Nat.{ℕ, zero, suc, ◌≤◌}
use mathlib.Core.Path.{◌≡◌, refl}
use mathlib.Core.List.{List}
use native.Mathlib.Omega.{arith}
use Rattle.std.specs.Option.{unwrap_or}
use Rattle.search.specs.Search.{thing}
use Rattle.search.proofs.Truth.{either}
use Rattle.search.proofs.Found.{first_within}
use Rattle.order.specs.Closure.{path}
use Rattle.policy.specs.Tables.{is_state, flowing, roles_up_to, cards_up_to, role_count, circle_in}

module _ (xs : List ℕ) where
  pub few_roles : role_count xs ≤ 128
  few_roles = either (λ (n : ℕ). n ≤ 128) (is_state xs) (roles_up_to xs) 0 (omega arith) (omega arith)

  pub few_on_circle : circle_in xs ≤ 128
  few_on_circle =
      let flow = path (roles_up_to xs) (flowing xs (cards_up_to xs)) in
      either (λ (n : ℕ). n ≤ 128) (is_state xs) _ 0 (omega (arith, first_within (λ a. flow a a) (roles_up_to xs))) (omega arith)

-- a thing or none, as a number
pub thing_or_none : (a : ℕ) → unwrap_or (thing a) 0 ≡ a
thing_or_none zero = refl
thing_or_none (suc a) = refl
