-- A thing or none, told as an option in place of a number that may be 0. Assumes nothing.
use Rattle.std.proofs.Common.{ℕ, zero, suc, ◌+◌, ◌≤◌, ◌<◌, ◌≡◌, refl, sym, Bool, true, Option, Some, None, is_some, ◌↔◌, eqb, not, ap, ◌∙◌, arith}
use mathlib.Core.Bool.{not-not}
use lib.Dec.{eqb-suc-zero}
use Rattle.search.specs.Search.{first, thing}
use Rattle.search.proofs.Found.{first_found, first_vain}

pub thing_none : (a : ℕ) → (None ≡ thing a) ↔ (a ≡ 0)
thing_none zero = (λ e. refl, λ e. refl)
thing_none (suc a) = (λ e. cc, λ e. absurd (omega arith))

pub thing_some : (a b : ℕ) → (Some b ≡ thing a) ↔ ((b ≡ a) × (1 ≤ b))
thing_some zero b = (λ e. absurd cc, λ (e, l). absurd (omega arith))
thing_some (suc a) b = (λ e. let q : b ≡ suc a = cc in (q, omega arith), λ (e, l). cc)

-- what `is_none` answers of it
pub thing_absent : (a : ℕ) {o : Option ℕ} {b : Bool} → o ≡ thing a → is_some o ≡ not b → b ≡ eqb a 0
thing_absent zero {b = b} e h = sym (not-not b) ∙ ap not (sym (rw e at h))
thing_absent (suc a) {b = b} e h = sym (not-not b) ∙ ap not (sym (rw e at h)) ∙ sym (eqb-suc-zero a)

-- a search in turns: thing i + 1 is found after i in vain, and all n have been looked at in vain
pub thing_found : (p : ℕ → Bool) (n i : ℕ) → i < n → first i p ≡ 0 → p (i + 1) ≡ true → Some (i + 1) ≡ thing (first n p)
thing_found p n i l e h = (thing_some (first n p) (i + 1)).1 (first_found p n i l e h, omega arith)

pub thing_vain : (p : ℕ → Bool) {i n : ℕ} → i ≡ n → first i p ≡ 0 → None ≡ thing (first n p)
thing_vain p {i} {n} all e = (thing_none (first n p)).1 (sym (first_vain p all e))
