-- A file whose lines have nothing to refuse, laid out by letter: its lines are good, its counts within their limits, the lines of each letter are a
-- section of it, and their numbers are within the counts. Assumes nothing.
use Rattle.std.proofs.Common.{ℕ, ◌+◌, ◌≤◌, ◌<◌, min, ◌≡◌, refl, ap, ◌∙◌, List, arith}
use native.Mathlib.Decide.{ℕ_discrete}
use Rattle.search.specs.Search.{Among}
use Rattle.rolefile.specs.declared.Line.{Line}
use Rattle.rolefile.specs.Line.{H, D, S, U, O, P, A, letter_byte, line_at, lines, part}
use Rattle.rolefile.specs.Form.{header, first_limit, second_limit, lines_verdict}
use Rattle.rolefile.specs.Said.{labels, roles}
use Rattle.rolefile.specs.inner.Section.{one, two}
use Rattle.rolefile.specs.WellFormed.{Sized, GoodCounts, GoodNumbers, GoodLines}
use Rattle.rolefile.proofs.Decides.{decides_zero}
use Rattle.rolefile.proofs.Formed.{header_counts, lines_decides}
use Rattle.rolefile.proofs.Sections.{Cut, Section, cut_first, section_next, told}
use Rattle.policy.specs.declared.counts.Counts.{Counts}
use Rattle.policy.specs.inner.Stages.{Taken, Stands, Laid, Ready}
use Rattle.policy.proofs.Fronts.{part_part}

-- what no refusal among 1 to 5 means
module _ (f : List ℕ) (e : (lines_verdict f).number ≡ 0) where
  sized_of : Sized f
  sized_of = ((decides_zero (lines_decides f)).0 e).0

  pub good_of : GoodLines f
  good_of = ((decides_zero (lines_decides f)).0 e).1

  some_line : 1 ≤ lines f
  some_line = let s = sized_of in omega (arith, s.some, s.whole)

  pub counts_of : GoodCounts (header f)
  counts_of = header_counts f sized_of good_of

-- the sections, one after the other: each letter's lines, and where the next letter begins
module _ {f d s u o p a : List ℕ} (e : (lines_verdict f).number ≡ 0) (laid : Laid f d s u o p a) where
  good : GoodLines f
  good = good_of f e

  pub d_lines : Section f D 1 (lines d) × Cut f S (1 + lines d)
  d_lines = section_next f good (cut_first f good (some_line f e)) (omega arith) laid.d_stands.leads

  pub s_lines : Section f S (1 + lines d) (lines s) × Cut f U (1 + lines d + lines s)
  s_lines = section_next f good d_lines.1 (omega arith) laid.s_stands.leads

  pub u_lines : Section f U (1 + lines d + lines s) (lines u) × Cut f O (1 + lines d + lines s + lines u)
  u_lines = section_next f good s_lines.1 (omega arith) laid.u_stands.leads

  pub o_lines : Section f O (1 + lines d + lines s + lines u) (lines o) × Cut f P (1 + lines d + lines s + lines u + lines o)
  o_lines = section_next f good u_lines.1 (omega arith) laid.o_stands.leads

  pub p_lines : Section f P (1 + lines d + lines s + lines u + lines o) (lines p) × Cut f A (1 + lines d + lines s + lines u + lines o + lines p)
  p_lines = section_next f good o_lines.1 (omega arith) laid.p_stands.leads

  pub a_lines : Section f A (1 + lines d + lines s + lines u + lines o + lines p) (lines a)
  a_lines = (section_next f good p_lines.1 (omega arith) laid.a_stands.leads).0

-- the counts in line 1
module _ {f d s u o p a : List ℕ} {n : Counts} (ready : Ready f n d s u o p a) where
  pub head_labels : min n.labels 32 ≡ labels f
  head_labels = let few = n.few_labels in omega (arith, ready.head.labels)

  pub head_roles : min n.roles 128 ≡ roles f
  head_roles = let few = n.few_roles in omega (arith, ready.head.roles)

-- what is taken off a part's front, and where the rest stands
pub stands_of : {f whole p rest : List ℕ} (k j : ℕ) → Taken (letter_byte k) whole p rest → whole ≡ part f j
    → Stands f k j p × (rest ≡ part f (j + lines p))
stands_of {f} {whole} {p} k j t e = (
  record { leads = rw e at t.leads; front = rw e at t.front },
  t.after ∙ ap (λ w. part w (lines p)) e ∙ part_part f j (lines p),
)

-- what six takings in turn make of the lines after the first
pub laid_of : {f r₀ d r₁ s r₂ u r₃ o r₄ p r₅ a r₆ : List ℕ} → r₀ ≡ part f 1
    → Taken (letter_byte D) r₀ d r₁ → Taken (letter_byte S) r₁ s r₂ → Taken (letter_byte U) r₂ u r₃
    → Taken (letter_byte O) r₃ o r₄ → Taken (letter_byte P) r₄ p r₅ → Taken (letter_byte A) r₅ a r₆ → Laid f d s u o p a
laid_of first td ts tu to tp ta =
    let (d, rd) = stands_of D _ td first in
    let (s, rs) = stands_of S _ ts rd in
    let (u, ru) = stands_of U _ tu rs in
    let (o, ro) = stands_of O _ to ru in
    let (p, rp) = stands_of P _ tp ro in
    record { d_stands = d; s_stands = s; u_stands = u; o_stands = o; p_stands = p; a_stands = (stands_of A _ ta rp).0 }

-- a line of a letter after H is not the first, so its numbers are within the counts
pub numbers_known : (f : List ℕ) → GoodLines f → (k : ℕ) → H < k → (i : ℕ) → Among (lines f) i → (line_at f i).letter ≡ k → GoodNumbers (header f) (line_at f i)
numbers_known f good k after i w e = elim (ℕ_discrete i 1) [
  | yes first ↦ let h = ((good i w).head first).letter in let l = rw first at e in absurd (omega arith)
  | no more ↦ ((good i w).body more).numbers
]

-- so in a section
module _ (f : List ℕ) (good : GoodLines f) {k j m : ℕ} (s : Section f k j m) (after : H < k) where
  numbers : (i : ℕ) → Among m i → GoodNumbers (header f) (line_at f (j + i))
  numbers i w = let fits = s.fits in numbers_known f good k after (j + i) (omega arith) (s.inside i w)

  pub one_within : (i : ℕ) → Among m i → Among (first_limit (header f) k) (one (part f j) i)
  one_within i w = rw ((told f good s).a i w) (rw (s.inside i w) at (numbers i w).one)

  pub two_within : (i : ℕ) → Among m i → Among (second_limit (header f) k) (two (part f j) i)
  two_within i w = rw ((told f good s).b i w) (rw (s.inside i w) at (numbers i w).two)

-- the limits of each letter's numbers
module _ (h : Line) where
  pub limits_d : (first_limit h D ≡ h.a) × (second_limit h D ≡ h.a)
  unfolding first_limit second_limit
  limits_d = (refl, refl)

  pub limits_s : (first_limit h S ≡ h.b) × (second_limit h S ≡ h.b)
  unfolding first_limit second_limit
  limits_s = (refl, refl)

  pub limits_u : (first_limit h U ≡ h.c) × (second_limit h U ≡ h.a)
  unfolding first_limit second_limit
  limits_u = (refl, refl)

  pub limits_o : (first_limit h O ≡ h.d) × (second_limit h O ≡ h.a)
  unfolding first_limit second_limit
  limits_o = (refl, refl)

  pub limits_p : (first_limit h P ≡ h.b) × (second_limit h P ≡ h.d)
  unfolding first_limit second_limit
  limits_p = (refl, refl)

  pub limits_a : (first_limit h A ≡ h.c) × (second_limit h A ≡ h.b)
  unfolding first_limit second_limit
  limits_a = (refl, refl)
