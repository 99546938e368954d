-- A list with bytes written over it: as long as before, with those bytes where they were put and every other byte as it was. Assumes nothing.
use Rattle.std.proofs.Common.{ℕ, ◌+◌, ◌-◌, ◌≤◌, ◌<◌, ◌≡◌, sym, ap, ◌∙◌, List, ◌++◌, arith, length, take, drop, get_or, length-append, length-drop, length-take-le, get_or-take, get_or-drop, get_or-append-add}
use native.Mathlib.Decide.{dec_lt}
use lib.ListN.{get_or-append}
use Rattle.roleset.specs.Row.{Kept}
use Rattle.monitor.specs.Calls.{written}

module _ (xs : List ℕ) (at : ℕ) (bytes : List ℕ) (fits : at + length bytes ≤ length xs) where
  abbrev head : List ℕ
  head = take at xs

  abbrev tail : List ℕ
  tail = drop (at + length bytes) xs

  head_length : length head ≡ at
  head_length = length-take-le at xs (omega arith)

  front_length : length (head ++ bytes) ≡ at + length bytes
  front_length = simp (length-append, head_length)

  pub length_written : length (written xs at bytes) ≡ length xs
  length_written = simp (length-append, head_length, length-drop) (omega arith)

  pub written_in : (i : ℕ) → i < length bytes → get_or (written xs at bytes) (at + i) 0 ≡ get_or bytes i 0
  written_in i l =
      get_or-append (head ++ bytes) tail 0 (at + i) (rw front_length (omega arith))
      ∙ ap (λ (n : ℕ). get_or (head ++ bytes) (n + i) 0) (sym head_length)
      ∙ get_or-append-add head bytes i 0

  written_before : (i : ℕ) → i < at → get_or (written xs at bytes) i 0 ≡ get_or xs i 0
  written_before i l =
      get_or-append (head ++ bytes) tail 0 i (rw front_length (omega arith)) ∙ get_or-append head bytes 0 i (rw head_length l) ∙ get_or-take at xs i 0 l

  written_after : (i : ℕ) → at + length bytes ≤ i → get_or (written xs at bytes) i 0 ≡ get_or xs i 0
  written_after i l =
      let k = i - (at + length bytes) in
      let e : i ≡ length (head ++ bytes) + k = rw front_length (omega arith) in
      let g : at + length bytes + k ≡ i = omega arith in
      ap (λ (n : ℕ). get_or (written xs at bytes) n 0) e
      ∙ get_or-append-add (head ++ bytes) tail k 0
      ∙ get_or-drop (at + length bytes) xs k 0
      ∙ ap (λ (n : ℕ). get_or xs n 0) g

  pub written_out : Kept at (at + length bytes) xs (written xs at bytes)
  written_out i out = elim (dec_lt i at) [ yes l ↦ written_before i l | no l ↦ written_after i (out (omega arith)) ]
