-- Tables of one byte for each thing: bytes that a loop writes from the front, and labels that the lines of a part note. Assumes nothing.
use Rattle.std.proofs.Common.{ℕ, ◌+◌, ◌-◌, ◌≤◌, ◌≡◌, refl, ◌∙◌, List, arith, add-one, length, set, get_or-set_same, get_or-set_other, eq-eqb, ne_eqb}
use native.Mathlib.Decide.{ℕ_discrete}
use Rattle.search.specs.Search.{Among}
use Rattle.roleset.proofs.Rows.{Written, kept_wider, kept_both, kept_more}
use Rattle.rolefile.specs.inner.Section.{one, two}
use Rattle.policy.specs.Tables.{byte_of}
use Rattle.policy.specs.inner.Filling.{Bytes, noted, after_note, notes, NotedBytes}

-- a table's bytes, all written one by one
pub all_stored : {at i size : ℕ} (v : ℕ → ℕ) {xs ys : List ℕ} → Written at i (λ k. v (k + 1)) xs ys → i ≡ size → Bytes at size v xs ys
all_stored v {xs} {ys} w e = record {
  bytes = λ x l. let s : x - 1 + 1 ≡ x = omega arith in rw s at (w.done (x - 1) (omega arith));
  rest = kept_wider xs ys (omega arith) w.rest;
}

module _ (at size x label : ℕ) (xs : List ℕ) where
  -- x is none of the table's things
  pub note_none : (Among size x → ⊥) → Bytes at size (after_note xs at x label) xs xs
  note_none h = record {
    bytes = λ y w. rw (ne_eqb x y (λ e. h (omega arith)));
    rest = λ i o. refl;
  }

  pub note_one : (byte : ℕ) → Among size x → at + size ≤ length xs → byte ≡ noted (byte_of xs at x) label
      → Bytes at size (after_note xs at x label) xs (set xs (at + (x - 1)) byte)
  note_one byte w l e = record {
    bytes = λ y v. elim (ℕ_discrete y x) [
      | yes q ↦ rw (q, eq-eqb x x refl, get_or-set_same xs (at + (x - 1)) byte 0 (omega arith)) e
      | no q ↦ rw (ne_eqb x y (λ i. q (omega arith))) (get_or-set_other xs (at + (x - 1)) (at + (y - 1)) byte 0 (λ i. q (omega arith)))
    ];
    rest = kept_more at (at + size) (at + (x - 1)) byte xs xs (omega arith) (omega arith) (λ i o. refl);
  }

-- no line noted yet, and one more
module _ (at size : ℕ) (p xs : List ℕ) where
  pub notes_none : NotedBytes at size p 0 xs xs
  unfolding notes
  notes_none = record { bytes = λ x w. refl; rest = λ i o. refl }

  pub notes_more : (i : ℕ) (ys zs : List ℕ) → NotedBytes at size p i xs ys
      → Bytes at size (after_note ys at (one p (i + 1)) (two p (i + 1))) ys zs → NotedBytes at size p (i + 1) xs zs
  unfolding notes
  notes_more i ys zs b n = record {
    bytes = λ x w. n.bytes x w ∙ rw (b.bytes x w, add-one);
    rest = kept_both xs ys zs (omega arith) b.rest n.rest;
  }
