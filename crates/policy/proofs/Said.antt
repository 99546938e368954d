-- What the lines of a file say, by the line that says it. Assumes nothing.
use Rattle.std.proofs.Common.{ℕ, zero, suc, ◌+◌, ◌≤◌, ◌≡◌, refl, ap, ◌↔◌, List, Bool, true, false, arith}
use Rattle.search.specs.Search.{Among}
use Rattle.search.proofs.Truth.{eqb_iff, and_both, either_by}
use Rattle.search.proofs.Found.{some_iff, not_last}
use Rattle.rolefile.specs.declared.Line.{Line}
use Rattle.rolefile.specs.Field.{field_at}
use Rattle.rolefile.specs.Line.{A, line_at, lines, fields, field_used, start}
use Rattle.rolefile.specs.Form.{about}
use Rattle.rolefile.specs.Said.{is, says, assigned, last, label_by}
use Rattle.rolefile.specs.WellFormed.{One}
use Rattle.rolefile.proofs.Written.{FieldIs, line_iff}
use Rattle.policy.specs.Settings.{settings}
use Rattle.policy.specs.Accepted.{AllWithinLevels, GoodAssignment}

-- the line l has these letter and numbers
abbrev pub Is : Line → ℕ → ℕ → ℕ → ℕ → Type 0
Is l k x y z = (l.letter ≡ k) × ((l.a ≡ x) × ((l.b ≡ y) × (l.c ≡ z)))

pub says_iff : (f : List ℕ) (k x y z : ℕ) → (says f k x y z ≡ true) ↔ ((i : ℕ) × Among (lines f) i × Is (line_at f i) k x y z)
unfolding says
says_iff f k x y z =
    let found = some_iff (λ i. is (line_at f i) k x y z) (lines f) in
    let test : (l : Line) → (is l k x y z ≡ true) ↔ Is l k x y z =
    λ l. and_both (eqb_iff l.letter k) (and_both (eqb_iff l.a x) (and_both (eqb_iff l.b y) (eqb_iff l.c z))) in
    (λ h. let (i, w, e) = found.0 h in (i, w, (test (line_at f i)).0 e), λ (i, w, e). found.1 (i, w, (test (line_at f i)).1 e))

-- a line of a letter of two fields has no third number
pub no_third : (f : List ℕ) (i : ℕ) → 1 ≤ (line_at f i).letter → fields (line_at f i).letter ≡ 2 → (line_at f i).c ≡ 0
no_third f i some e = (third false (rw e)).1
  where
    third : (t : Bool) → field_used 3 (line_at f i).letter ≡ t → FieldIs t (field_at f (start i + 11)) (line_at f i).c
    third t q = rw q at ((line_iff f i (line_at f i)).0 (refl, some)).c

-- assignments by the lines and by the relation that they say
pub assignments_iff : (f : List ℕ) → ((i : ℕ) → Among (lines f) i → GoodAssignment f i) ↔ AllWithinLevels (settings f) (assigned f)
unfolding fields
assignments_iff f = (
  λ good u r h. let (i, w, (letter, (a, (b, c)))) = (says_iff f A u r 0).0 h in rw (a, b) at (good i w letter),
  λ all i w letter.
      let l = line_at f i in
      all l.a l.b ((says_iff f A l.a l.b 0).1 (i, w, (letter, (refl, (refl, no_third f i (omega arith) (rw letter)))))),
)

-- ---- the label of a thing

-- what holds of the value at each that is so holds of the last one's
pub last_of : (n : ℕ) (p : ℕ → Bool) (v : ℕ → ℕ) (Q : ℕ → Type 0) → ((i : ℕ) → Among n i → p i ≡ true → Q (v i))
    → (i : ℕ) → Among n i → p i ≡ true → Q (last n p v)
unfolding last
last_of zero p v Q h i w e = absurd (omega arith)
last_of (suc n) p v Q h i w e =
    either_by Q (p (suc n)) (v (suc n)) (last n p v) (h (suc n) (omega arith))
    (λ k. last_of n p v Q (λ j x. h j (omega arith)) i (not_last p n i k e w) e)

-- where none is so it is 0
last_none : (n : ℕ) (p : ℕ → Bool) (v : ℕ → ℕ) → ((i : ℕ) → Among n i → p i ≡ false) → last n p v ≡ 0
unfolding last
last_none zero p v h = refl
last_none (suc n) p v h = rw (h (suc n) (omega arith)) (last_none n p v (λ i w. h i (omega arith)))

module _ (f : List ℕ) (k x : ℕ) where
  pub about_iff : (i : ℕ) → (about f k x i ≡ true) ↔ (((line_at f i).letter ≡ k) × ((line_at f i).a ≡ x))
  about_iff i = and_both (eqb_iff (line_at f i).letter k) (eqb_iff (line_at f i).a x)

  pub label_none : ((i : ℕ) → Among (lines f) i → about f k x i ≡ false) → label_by f k x ≡ 0
  unfolding label_by
  label_none = last_none (lines f) (about f k x) (λ i. (line_at f i).b)

  module _ (one : One f k x) where
    label_one : label_by f k x ≡ (line_at f one.line).b
    unfolding label_by
    label_one =
        last_of (lines f) (about f k x) (λ i. (line_at f i).b) (λ y. y ≡ (line_at f one.line).b)
        (λ i w e. ap (λ j. (line_at f j).b) (one.only i w e)) one.line one.inside one.tells

    module _ (some : 1 ≤ k) (two : fields k ≡ 2) where
      -- the line says the label, and no line says another
      pub label_said : says f k x (label_by f k x) 0 ≡ true
      label_said =
          let i = one.line in
          let (letter, a) = (about_iff i).0 one.tells in
          (says_iff f k x (label_by f k x) 0).1 (i, one.inside, (letter, (a, (rw label_one, no_third f i (rw letter some) (rw letter two)))))

      pub said_label : (y : ℕ) → says f k x y 0 ≡ true → label_by f k x ≡ y
      said_label y h =
          let (i, w, (letter, (a, (b, c)))) = (says_iff f k x y 0).0 h in
          rw (label_one, ← (one.only i w ((about_iff i).1 (letter, a)))) b
