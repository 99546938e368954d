-- A table that is closed round by round, row by row, and the laws of a table of marks. Assumes nothing.
use Rattle.std.specs.Prelude.{ℕ, ◌+◌, ◌≤◌, ◌<◌, ◌≡◌, List, Bool, length, refl}
use Rattle.std.proofs.Common.{◌∙◌, arith}
use Rattle.search.specs.Search.{Among}
use Rattle.search.proofs.Found.{among_next}
use Rattle.order.specs.Closure.{Relation, round, with_itself}
use Rattle.order.specs.Table.{mark, Rows}

-- g is f but for row i, which is that of h
pub record RowSet (size i : ℕ) (h f g : Relation) : Type 0 where
  pub own : (b : ℕ) → Among size b → g i b ≡ h i b
  pub others : (a b : ℕ) → Among size a → (a ≡ i → ⊥) → Among size b → g a b ≡ f a b

-- of a table of marks: u has h in its first n rows and is else t
abbrev pub BecomesMarks : ℕ → Relation → List (List Bool) → List (List Bool) → Type 0
BecomesMarks n h t u = length t ≡ 32 → (length u ≡ 32) × Rows 32 n h (mark t) (mark u)

-- u relates thing i + 1 to itself and is else t
abbrev pub LinksMarks : ℕ → List (List Bool) → List (List Bool) → Type 0
LinksMarks i t u = length t ≡ 32 → (length u ≡ 32) × RowSet 32 (i + 1) (with_itself (mark t)) (mark t) (mark u)

-- ---- what a turn does

module _ (size n : ℕ) (e : Relation) where
  pub rounds_none : Rows size n e e e
  rounds_none = record { done = λ a b v w. refl; left = λ a b l v w. refl }

  pub rounds_more : (k : ℕ) (h f g : Relation) → k < n → n ≤ size → Rows size n h e f → Rows size n (round f (k + 1)) f g → Rows size n (round h (k + 1)) e g
  rounds_more k h f g l fits all this = record {
    done = λ a b v w. this.done a b v w
        ∙ rw (all.done a b v w, all.done a (k + 1) v (omega arith), all.done (k + 1) b (omega arith) w);
    left = λ a b i v w. this.left a b i v w ∙ all.left a b i v w;
  }

module _ (size : ℕ) (h e : Relation) where
  pub rows_none : Rows size 0 h e e
  rows_none = record { done = λ a b v w. absurd (omega arith); left = λ a b l v w. refl }

  pub rows_more : (i : ℕ) (f g : Relation) → i < size → Rows size i h e f → RowSet size (i + 1) h f g → Rows size (i + 1) h e g
  rows_more i f g l p t = record {
    done = λ a b v w.
        among_next (λ c. g c b ≡ h c b) i (λ c u. t.others c b (omega arith) (λ q. omega arith) w ∙ p.done c b u w) (t.own b w) a v;
    left = λ a b k v w. t.others a b (omega arith) (λ q. omega arith) w ∙ p.left a b (omega arith) v w;
  }

-- the same of a table of marks
pub marks_before : (n : ℕ) (t : List (List Bool)) → BecomesMarks n (mark t) t t
marks_before n t l = (l, rounds_none 32 n (mark t))

pub marks_round : (n k : ℕ) (h : Relation) (t u v : List (List Bool)) → k < n → n ≤ 32 → BecomesMarks n h t u → BecomesMarks n (round (mark u) (k + 1)) u v
    → BecomesMarks n (round h (k + 1)) t v
marks_round n k h t u v l m p q long =
    let (a, rows) = p long in
    let (b, more) = q a in
    (b, rounds_more 32 n (mark t) k h (mark u) (mark v) l m rows more)

pub marks_unlinked : (t : List (List Bool)) → BecomesMarks 0 (with_itself (mark t)) t t
marks_unlinked t l = (l, rows_none 32 (with_itself (mark t)) (mark t))

pub marks_link : (i : ℕ) (t u v : List (List Bool)) → i < 32 → BecomesMarks i (with_itself (mark t)) t u → LinksMarks i u v
    → BecomesMarks (i + 1) (with_itself (mark t)) t v
marks_link i t u v l p q long =
    let (a, rows) = p long in
    let (b, set) = q a in
    let new : RowSet 32 (i + 1) (with_itself (mark t)) (mark u) (mark v) = record {
      own = λ c w. set.own c w ∙ rw (rows.left (i + 1) c (omega arith) (omega arith) w);
      others = set.others;
    } in
    (b, rows_more 32 (with_itself (mark t)) (mark t) i (mark u) (mark v) l rows new)
