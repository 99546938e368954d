-- A load: a state that is too short is refused first; the image is copied from a scratch state that began as zeros. Assumes nothing.
use Rattle.std.proofs.Common.{ℕ, ◌+◌, ◌-◌, ◌≤◌, ◌<◌, ◌≡◌, refl, sym, ap, ◌∙◌, ◌↔◌, List, ◌++◌, arith, length, get_or, drop, replicate, le-leb}
use lib.ListN.{get_or-replicate}
use Rattle.std.proofs.lemmas.List.{get_or_append_left, get_or-append_right, get_or-drop, length-append, length-drop}
use borrow.Author.Tests.{lt-leb}
use Rattle.rolefile.specs.declared.Verdict.{Verdict}
use Rattle.order.specs.Closure.{Relation}
use Rattle.rolefile.specs.Form.{refusal}
use Rattle.rolefile.specs.Said.{assigned}
use Rattle.rolefile.proofs.Verdicts.{refuses}
use Rattle.policy.specs.Settings.{Settings, settings}
use Rattle.policy.specs.Verdict.{verdict}
use Rattle.policy.specs.Accepted.{Accepted}
use Rattle.policy.specs.Tables.{state_size}
use Rattle.policy.specs.Image.{Image, load_verdict, Loaded}
use Rattle.policy.specs.inner.Stages.{Zeros, Built, Copied}
use Rattle.policy.proofs.Outcomes.{accepted_iff}
use Rattle.policy.proofs.Builds.{describes_stays, assigning_stays}

pub scratch_zeros : Zeros 0 65536 (replicate 65536 0)
scratch_zeros i l m = get_or-replicate 65536 i 0 0 m

image_copied : (σ : Settings) (α : Relation) (xs ys zs : List ℕ) → Copied 65536 ys xs zs → Image σ α ys → Image σ α zs
image_copied σ α xs ys zs c t = record {
  tables = describes_stays σ ys zs (λ i out l. c.done i (omega arith)) t.tables;
  assigning = assigning_stays ys zs α (λ i l m. c.done i (omega arith)) t.assigning;
  unused = λ i out l. c.done i l ∙ t.unused i out l;
}

-- a whole state in the place of the first bytes of another
pub copied_front : {xs ys : List ℕ} → length ys ≡ 65536 → 65536 ≤ length xs
    → Copied 65536 ys xs (ys ++ drop 65536 xs) × (length (ys ++ drop 65536 xs) ≡ length xs)
copied_front {xs} {ys} whole long = (
  record {
    done = λ i l. get_or_append_left ys (drop 65536 xs) 0 i (omega arith);
    rest = λ i l.
        let e : 65536 + (i - 65536) ≡ i = omega arith in
        get_or-append_right ys (drop 65536 xs) 65536 i 0 whole l ∙ get_or-drop 65536 xs (i - 65536) 0 ∙ ap (λ j. get_or xs j 0) e;
  },
  rw (length-append ys (drop 65536 xs), length-drop 65536 xs) (omega arith),
)

-- ---- the three answers

pub load_short : {f xs : List ℕ} {v : Verdict} → length xs < 65536 → v ≡ refusal 7 0 0 → Loaded f v xs xs
load_short {f} {xs} {v} l e = record {
  answer = e ∙ short;
  refused = λ h. refl;
  done = λ z. absurd (refuses e (omega arith) z);
  rest = λ i m. refl;
  long = refl;
}
  where
    short : refusal 7 0 0 ≡ load_verdict (length xs) f
    short = unfold load_verdict in rw (lt-leb state_size (length xs) l)

-- a state that is long enough gets the file's verdict
long_verdict : (f xs : List ℕ) → 65536 ≤ length xs → verdict f ≡ load_verdict (length xs) f
unfolding load_verdict
long_verdict f xs l = rw (le-leb state_size (length xs) l)

pub judged : {f xs ys : List ℕ} {v : Verdict} → Loaded f v xs ys → 65536 ≤ length xs → v ≡ verdict f
judged {f} {xs} load l = load.answer ∙ sym (long_verdict f xs l)

-- a load is done exactly when the file is accepted
pub load_iff : {f xs ys : List ℕ} {v : Verdict} → Loaded f v xs ys → 65536 ≤ length xs → (v.number ≡ 0) ↔ Accepted f
load_iff {f} load l = rw (judged load l) (accepted_iff f)

pub load_refused : {f xs ys : List ℕ} {v : Verdict} → 65536 ≤ length xs → Built f v ys → (v.number ≡ 0 → ⊥) → Loaded f v xs xs
load_refused {f} {xs} l b h = record { answer = b.answer ∙ long_verdict f xs l; refused = λ h. refl; done = λ z. absurd (h z); rest = λ i m. refl; long = refl }

pub load_done : {f xs ys zs : List ℕ} {v : Verdict} → 65536 ≤ length xs → Built f v ys → v.number ≡ 0 → Copied 65536 ys xs zs → length zs ≡ length xs
    → Loaded f v xs zs
load_done {f} {xs} {ys} {zs} l b z c same = record {
  answer = b.answer ∙ long_verdict f xs l;
  refused = λ h. absurd (h z);
  done = λ e. image_copied (settings f) (assigned f) xs ys zs c (b.done z);
  rest = λ i m. c.rest i m;
  long = same;
}
