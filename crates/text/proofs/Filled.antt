-- Bytes put into a part of a buffer: what then stands at its start. Assumes nothing.
use Rattle.std.proofs.Common.{ℕ, ◌≡◌, ◌+◌, ◌-◌, ◌≤◌, List, ◌++◌, length, take, min, arith, sym, ap, ◌∙◌, take_all, length-take-le}
use Rattle.std.proofs.lemmas.List.{take_min}
use Rattle.std.proofs.lemmas.Slice.{take-put_mid}
use Rattle.std.proofs.Math.Seq.{take-append-add}
use Rattle.std.proofs.KnownBytes.{Consumes-trans}
use borrow.Rule.Slice.PartMut.{put_mid}

-- the first a + m bytes after the rest of the buffer from a on was replaced by ys
pub front : (a k m : ℕ) (xs ys : List ℕ) → a ≤ length xs → length ys ≡ length xs - a → length (put_mid a k xs ys) ≡ length xs
    → take (a + m) (put_mid a k xs ys) ≡ take a xs ++ take m ys
front a k m xs ys within rest long =
    let whole : put_mid a k xs ys ≡ take a xs ++ ys =
    sym (take_all (length xs) (put_mid a k xs ys) (omega arith)) ∙ take-put_mid a k xs ys (length xs) (omega arith) within
    in
    ap (take (a + m)) whole ∙ ap (λ (i : ℕ). take (i + m) (take a xs ++ ys)) (sym (length-take-le a xs within)) ∙ take-append-add (take a xs) ys m

-- as many bytes as there is room for stand after those in use
pub filled : (at n k : ℕ) (xs more ys : List ℕ) → at ≤ length xs → length ys ≡ length xs - at → n ≡ min (length xs - at) (length more) → take n ys ≡ take n more
    → length (put_mid at k xs ys) ≡ length xs → take (at + n) (put_mid at k xs ys) ≡ take (length xs) (take at xs ++ more)
filled at n k xs more ys within rest count same long =
    let room : length xs ≡ length (take at xs) + (length xs - at) = rw (length-take-le at xs within) (omega arith) in
    let cut = ap (λ (i : ℕ). take i (take at xs ++ more)) room ∙ take-append-add (take at xs) more (length xs - at) in
    rw (front at k n xs ys within rest long, same, count, take_min (length xs - at) more) (sym cut)

pub ruleset reading = (front, Consumes-trans)
