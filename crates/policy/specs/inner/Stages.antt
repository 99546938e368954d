-- What each stage of a load finds and leaves, for the contracts of the functions that make it. Assumes nothing.
use Rattle.std.specs.Prelude.{ℕ, ◌+◌, ◌*◌, ◌≤◌, ◌<◌, ◌≡◌, List, Bool, false, ◌&&◌, leb, get_or, take}
use Rattle.roleset.specs.Row.{Kept}
use Rattle.order.specs.Closure.{Relation, Agree, path}
use Rattle.order.specs.Table.{mark, Rows}
use Rattle.rolefile.specs.declared.Line.{Line}
use Rattle.rolefile.specs.declared.Verdict.{Verdict}
use Rattle.rolefile.specs.Line.{D, S, U, O, P, A, line_length, letter_byte, lines, part}
use Rattle.rolefile.specs.Form.{header, lines_verdict, unlabelled_verdict}
use Rattle.rolefile.specs.Said.{labels, over, assigned}
use Rattle.rolefile.specs.inner.Section.{Leads}
use Rattle.policy.specs.declared.counts.Counts.{Counts}
use Rattle.policy.specs.Settings.{dominates, settings}
use Rattle.policy.specs.Tables.{label_count_at, card_count_at, dominance_at, clearances_at, r_levels_at, seniors_at, assigned_at, readers_at, writers_at}
use Rattle.policy.specs.Verdict.{role_verdict, verdict}
use Rattle.policy.specs.Image as image
use Rattle.policy.specs.Image.{Labelled, Dominating, Seniors, Permitting, Levelled, Assigning, Counted, Image}

-- the lines at the front of a part that have the letter whose byte is b, and the part after them
pub record Taken (b : ℕ) (whole p rest : List ℕ) : Type 0 where
  pub leads : Leads whole b (lines p)
  pub front : p ≡ take (line_length * lines p) whole
  pub after : rest ≡ part whole (lines p)

-- p is those of the letter k where j lines stand before them
pub record Stands (f : List ℕ) (k j : ℕ) (p : List ℕ) : Type 0 where
  pub leads : Leads (part f j) (letter_byte k) (lines p)
  pub front : p ≡ take (line_length * lines p) (part f j)

-- the lines of each letter after H, one letter after the other
pub record Laid (f d s u o p a : List ℕ) : Type 0 where
  pub d_stands : Stands f D 1 d
  pub s_stands : Stands f S (1 + lines d) s
  pub u_stands : Stands f U (1 + lines d + lines s) u
  pub o_stands : Stands f O (1 + lines d + lines s + lines u) o
  pub p_stands : Stands f P (1 + lines d + lines s + lines u + lines o) p
  pub a_stands : Stands f A (1 + lines d + lines s + lines u + lines o + lines p) a

-- n has the counts that an H line says
pub record Says (n : Counts) (h : Line) : Type 0 where
  pub labels : n.labels ≡ h.a
  pub roles : n.roles ≡ h.b
  pub users : n.users ≡ h.c
  pub cards : n.cards ≡ h.d

-- a file whose lines have nothing to refuse, with its counts in n, and the lines of each letter
pub record Ready (f : List ℕ) (n : Counts) (d s u o p a : List ℕ) : Type 0 where
  pub lines : (lines_verdict f).number ≡ 0
  pub head : Says n (header f)
  pub laid : Laid f d s u o p a

-- the bytes from a up to b are 0
abbrev pub Zeros : ℕ → ℕ → List ℕ → Type 0
Zeros a b xs = (i : ℕ) → a ≤ i → i < b → get_or xs i 0 ≡ 0

-- 6
pub record Noting (f : List ℕ) (v : Verdict) (xs ys : List ℕ) : Type 0 where
  pub answer : v ≡ unlabelled_verdict f
  pub done : v.number ≡ 0 → Labelled (settings f) ys
  pub rest : Kept clearances_at r_levels_at xs ys

-- u has the paths of e among the things 1 to n, and nothing in the rows after
abbrev pub PathRows : ℕ → ℕ → Relation → Relation → Type 0
PathRows size n e u = Rows size n (path n e) (λ a b. false) u

-- the paths of dominance as a table
abbrev pub Paths : List ℕ → List (List Bool) → Type 0
Paths f t = PathRows 32 (labels f) (over f) (mark t)

-- m is dominance among the labels, and nothing in the rows after
abbrev pub Closed : List ℕ → Relation → Type 0
Closed f m = Agree 32 32 m (λ a b. leb a (labels f) && dominates f a b)

-- 13
pub record Ranking (f : List ℕ) (v : Verdict) (xs ys : List ℕ) : Type 0 where
  pub answer : v ≡ role_verdict f
  pub done : v.number ≡ 0 → Seniors (settings f) ys
  pub rest : Kept seniors_at assigned_at xs ys

-- dominance, permissions and levels are in; three stretches of bytes have changed
pub record Granting (f xs ys : List ℕ) : Type 0 where
  pub dominating : Dominating (settings f) ys
  pub permitting : Permitting (settings f) ys
  pub levelled : Levelled (settings f) ys
  pub rest : (i : ℕ) → (dominance_at ≤ i → clearances_at ≤ i) → (r_levels_at ≤ i → seniors_at ≤ i) → (readers_at ≤ i → writers_at + 16 * 512 ≤ i) → get_or ys i 0 ≡ get_or xs i 0

-- the counts of n are in
pub record Counting (n : Counts) (xs ys : List ℕ) : Type 0 where
  pub counts : image.Counts n.labels n.roles n.users n.cards ys
  pub rest : Kept label_count_at (card_count_at + 2) xs ys

-- the assigned roles and the counts are in
pub record Finishing (f xs ys : List ℕ) : Type 0 where
  pub assigning : Assigning (assigned f) ys
  pub counted : Counted (settings f) ys
  pub rest : (i : ℕ) → card_count_at + 2 ≤ i → (assigned_at ≤ i → assigned_at + 16 * 256 ≤ i) → get_or ys i 0 ≡ get_or xs i 0

-- zs is ys with its first n bytes as in xs
pub record Copied (n : ℕ) (xs ys zs : List ℕ) : Type 0 where
  pub done : (i : ℕ) → i < n → get_or zs i 0 ≡ get_or xs i 0
  pub rest : (i : ℕ) → n ≤ i → get_or zs i 0 ≡ get_or ys i 0

-- the whole check, into bytes that were all 0; after a refusal nobody reads them
pub record Built (f : List ℕ) (v : Verdict) (ys : List ℕ) : Type 0 where
  pub answer : v ≡ verdict f
  pub done : v.number ≡ 0 → Image (settings f) (assigned f) ys
