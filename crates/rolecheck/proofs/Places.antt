-- Five columns hold each number of a verdict. Assumes nothing.
use Prim.Native.Nat.{ℕ, ◌+◌, ◌<◌}
use mathlib.Core.Path.{◌≡◌, refl}
use mathlib.Core.Logic.{⊎_elim}
use mathlib.Core.List.{List}
use native.Mathlib.Omega.{arith}
use Rattle.search.proofs.Truth.{either}
use Rattle.rolefile.specs.declared.Field.{Field}
use Rattle.rolefile.specs.declared.Field.TheVariants.{Blank, Number, Bad}
use Rattle.rolefile.specs.declared.Line.{Line}
use Rattle.rolefile.specs.declared.Verdict.{Verdict}
use Rattle.rolefile.specs.Field.{field_at, value}
use Rattle.rolefile.specs.Line.{formed, line_of, start, line_at, no_line}
use Rattle.rolefile.proofs.Decimals.{field_number_lem}
use Rattle.policy.specs.Verdict.{verdict}
use Rattle.policy.specs.Accepted.{Outcome, accepted, bad_size, bad_line, bad_user, bad_card, label_circle, no_bound, role_circle, bad_assignment}
use Rattle.policy.proofs.Outcomes.{outcome, verdict_numbers}

-- ---- the numbers of a line

value_few : (f : List ℕ) (at : ℕ) → value (field_at f at) < 100000
value_few f at = go (field_at f at) refl
  where
    go : (v : Field) → field_at f at ≡ v → value v < 100000
    go Blank e = omega arith
    go (Number n) e = ((field_number_lem f at n).0 e).0
    go Bad e = omega arith

record Few (l : Line) : Type 0 where
  pub a : l.a < 100000
  pub b : l.b < 100000
  pub c : l.c < 100000
  pub d : l.d < 100000

line_of_few : (k end : ℕ) (p q r s : Field) → value p < 100000 → value q < 100000 → value r < 100000 → value s < 100000 → Few (line_of k end p q r s)
unfolding line_of
line_of_few k end p q r s a b c d =
    either Few (formed k end p q r s) (record { letter = k; a = value p; b = value q; c = value r; d = value s }) no_line
    (record { a = a; b = b; c = c; d = d })
    (record { a = omega arith; b = omega arith; c = omega arith; d = omega arith })

line_few : (f : List ℕ) (k : ℕ) → Few (line_at f k)
unfolding line_at
line_few f k =
    line_of_few _ _ _ _ _ _ (value_few f (start k + 1)) (value_few f (start k + 6)) (value_few f (start k + 11)) (value_few f (start k + 16))

-- ---- the place of a verdict

pub record Written (v : Verdict) : Type 0 where
  pub number : v.number < 100000
  pub first : v.first < 100000
  pub second : v.second < 100000

pub verdict_written : (f : List ℕ) → Written (verdict f)
verdict_written f =
    let (a, b) = places (outcome f) in
    record { number = ⊎_elim (λ l. omega arith) (λ l. omega arith) (verdict_numbers f); first = a; second = b }
  where
    places : {v : Verdict} → Outcome f v → (v.first < 100000) × (v.second < 100000)
    places (accepted a) = omega arith
    places (bad_size h) = omega arith
    places (bad_line s w low l) = omega arith
    places (bad_user s g l) = omega (arith, (line_few f 1).c)
    places (bad_card s g us l) = omega (arith, (line_few f 1).d)
    places (label_circle w l) = omega (arith, (line_few f 1).a)
    places (no_bound w d p) = omega (arith, (line_few f 1).a)
    places (role_circle o l) = omega (arith, (line_few f 1).b)
    places (bad_assignment {n} {i} o s w l low r) = let few = line_few f i in (few.a, few.b)
