-- Texts put one after the other are one text. Assumes nothing.
use Rattle.std.proofs.Common.{ℕ, ◌≡◌, ◌≤◌, List, [], ◌++◌, length, take, refl, sym, ◌∙◌, append_assoc, append-nil, arith, length-take}
use Rattle.std.proofs.lemmas.List.{take-append-le}
use native.Mathlib.Decide.{dec_lt}
use lib.Seq.{take_all, take-take}
use Rattle.text.specs.declared.Text.{Text}
use Rattle.text.specs.Text.{Puts}
use Rattle.text.specs.Added.{Adds, in_use}

-- the start of a text, with more after it, is cut where the text is
cut_again : (n : ℕ) (xs ys : List ℕ) → take n (take n xs ++ ys) ≡ take n (xs ++ ys)
cut_again n xs ys = elim (dec_lt n (length xs)) [
  | yes l ↦
      let m : n ≤ length (take n xs) = omega (arith, length-take n xs) in
      let k : n ≤ length xs = omega arith in
      rw (take-append-le n (take n xs) ys m, take-append-le n xs ys k, take-take n n xs (omega arith))
  | no l ↦ rw (take_all n xs (omega arith))
]

module _ {a b : List ℕ} {at q r : ℕ} {xs ys zs : List ℕ} where
  pub puts_then : Puts a at xs q ys → Puts b q ys r zs → Puts (a ++ b) at xs r zs
  puts_then one two = record {
    size = two.size ∙ one.size;
    used = two.used;
    text = two.text ∙ rw (one.size, one.text, cut_again (length xs) (take at xs ++ a) b, append_assoc);
  }

module _ {a b : List ℕ} {t u v : Text} where
  pub adds_then : Adds a t u → Adds b u v → Adds (a ++ b) t v
  adds_then one two = record {
    same_buffer = two.same_buffer ∙ one.same_buffer;
    puts = puts_then one.puts two.puts;
  }

pub adds_nothing : (t : Text) → Adds [] t t
adds_nothing t = record {
  same_buffer = refl;
  puts = record {
    size = refl;
    used = t.fits;
    text = rw (append-nil (in_use t)) (sym (take_all (length t.buffer.now) (in_use t) (omega (arith, length-take t.used t.buffer.now, t.fits))));
  };
}

module _ {more : List ℕ} {t u : Text} where
  -- a text that begins an empty buffer and for which there is room
  pub adds_whole : Adds more t u → t.used ≡ 0 → length more ≤ length t.buffer.now → in_use u ≡ more
  adds_whole one none room = one.puts.text ∙ rw none (take_all (length t.buffer.now) more room)

module _ {a b : List ℕ} {t u : Text} where
  pub adds_as : a ≡ b → Adds a t u → Adds b t u
  adds_as e one = rw e at one
