-- The last stage: counts and assigned roles. Assumes nothing.
use Rattle.std.proofs.Common.{ℕ, ◌≡◌, refl, ◌∙◌, inr, List, arith}
use Rattle.roleset.specs.Row.{row_of, Kept}
use Rattle.roleset.proofs.Rows.{row_kept, kept_both}
use Rattle.rolefile.specs.Line.{fields, lines}
use Rattle.rolefile.specs.inner.Section.{pairs}
use Rattle.rolefile.proofs.Sections.{says_two}
use Rattle.policy.specs.Tables.{word, assigned_at}
use Rattle.policy.specs.inner.Filling.{Related}
use Rattle.policy.specs.declared.counts.Counts.{Counts}
use Rattle.policy.specs.inner.Stages.{Ready, Zeros, Counting, Finishing}
use Rattle.policy.proofs.Fronts.{pairs_same}
use Rattle.policy.proofs.Readying.{good_of, a_lines}
use Rattle.policy.proofs.Relating.{unites_zeros}
use Rattle.policy.proofs.Builds.{word_stays}

module _ (n : Counts) (v w x y z : List ℕ) (first : (word w 0 ≡ n.labels) × Kept 0 2 v w) (second : (word x 2 ≡ n.roles) × Kept 2 4 w x)
    (third : (word y 4 ≡ n.users) × Kept 4 6 x y) (fourth : (word z 6 ≡ n.cards) × Kept 6 8 y z) where
  pub four_words : Counting n v z
  four_words = let two : Kept 0 4 v x = kept_both v w x (omega arith) first.1 second.1 in let three : Kept 0 6 v y = kept_both v x y (omega arith) two third.1 in record {
    counts = record {
      labels = word_stays w z 0 (λ i l m. fourth.1 i (λ n. omega arith) ∙ third.1 i (λ n. omega arith) ∙ second.1 i (λ n. omega arith)) ∙ first.0;
      roles = word_stays x z 2 (λ i l m. fourth.1 i (λ n. omega arith) ∙ third.1 i (λ n. omega arith)) ∙ second.0;
      users = word_stays y z 4 (λ i l m. fourth.1 i (λ n. omega arith)) ∙ third.0;
      cards = fourth.0;
    };
    rest = kept_both v y z (omega arith) three fourth.1;
  }

module _ {f d s u o p a : List ℕ} {n : Counts} (ready : Ready f n d s u o p a) (xs ys zs : List ℕ) (zeros : Zeros 4112 8208 xs)
    (filled : Related 4112 256 (pairs a (lines a)) xs ys) (counted : Counting n ys zs) where
  pub finished : Finishing f xs zs
  unfolding fields
  finished = let stands = ready.laid.a_stands in record {
    assigning = λ v r w t.
        row_kept ys zs counted.rest (row_of assigned_at v) r (inr (omega arith))
        ∙ unites_zeros assigned_at 256 _ xs ys filled.rows zeros v r w t
        ∙ pairs_same stands.leads stands.front v r
        ∙ says_two f (good_of f ready.lines) (a_lines ready.lines ready.laid) refl v r;
    counted = rw (ready.head.labels, ready.head.roles, ready.head.users, ready.head.cards) at counted.counts;
    rest = λ i l out. counted.rest i (λ m. l) ∙ filled.rest i (λ m. let far = out m in omega arith);
  }
