-- What the lines of a part put into the tables of a state, and the marks that they make; 14 to 16 by the tables. Assumes nothing.
use Rattle.std.specs.Prelude.{ℕ, zero, suc, ◌+◌, ◌*◌, ◌%◌, ◌≤◌, ◌≡◌, List, Bool, not, ◌&&◌, ◌||◌, cond, eqb, get_or}
use Rattle.search.specs.Search.{among, some, Among}
use Rattle.roleset.specs.Row.{member, row_of, Kept}
use Rattle.order.specs.Closure.{Relation, Agree}
use Rattle.order.specs.Table.{mark, related}
use Rattle.order.specs.inner.Members.{in_row}
use Rattle.rolefile.specs.declared.Verdict.{Verdict}
use Rattle.rolefile.specs.Form.{fine, refusal, unless}
use Rattle.rolefile.specs.inner.Section.{one, two, three, pairs}
use Rattle.policy.specs.declared.gather.Level as program
use Rattle.policy.specs.declared.gather.Level.TheVariants as kept
use Rattle.policy.specs.declared.rows.Mode.{Mode}
use Rattle.policy.specs.declared.rows.Mode.TheVariants.{Read, Write}
use Rattle.policy.specs.Policy.{Level, Free, Label, Undefined}
use Rattle.policy.specs.Tables.{dominance_at, clearances_at, card_labels_at, r_levels_at, w_levels_at, seniors_at, readers_at, writers_at, table_of, byte_of, mark_at, flows_by_card, passes_in}

-- ---- what the first m lines of a part put into the tables

-- a byte for thing x, 0 before: the label of its line, or 255 where it has several
unfoldable pub noted : ℕ → ℕ → ℕ
noted old l = cond (eqb old 0) (l % 256) 255

-- that byte after the first lines
unfoldable pub notes : List ℕ → ℕ → ℕ → ℕ → ℕ
notes p zero x old = old
notes p (suc i) x old = cond (eqb (one p (suc i)) x) (noted (notes p i x old) (two p (suc i))) (notes p i x old)

-- thing y's byte when a label is noted for thing x
abbrev pub after_note : List ℕ → ℕ → ℕ → ℕ → ℕ → ℕ
after_note xs at x label y = cond (eqb x y) (noted (byte_of xs at y) label) (byte_of xs at y)

-- no label, or several
abbrev pub unlabelled_byte : ℕ → Bool
unlabelled_byte v = eqb v 0 || eqb v 255

abbrev pub unlabelled_in : List ℕ → ℕ → ℕ → Bool
unlabelled_in xs at x = unlabelled_byte (byte_of xs at x)

-- one of the first m lines, its two numbers turned to a row and a role, relates x to r
unfoldable pub turned : (ℕ → ℕ → ℕ) → (ℕ → ℕ → ℕ) → List ℕ → ℕ → ℕ → ℕ → Bool
turned row role p m x r = some m (λ i. eqb (row (one p i) (two p i)) x && eqb (role (one p i) (two p i)) r)

-- a line with these three numbers is of mode d for card o, and the seniors of its role, itself included, hold r
abbrev pub line_grants : List ℕ → ℕ → ℕ → ℕ → ℕ → ℕ → ℕ → Bool
line_grants xs role card mode d o r = eqb card o && (eqb mode d && (among 128 role && member xs (row_of seniors_at role) r))

unfoldable pub granted_by_lines : List ℕ → List ℕ → ℕ → ℕ → ℕ → ℕ → Bool
granted_by_lines xs p m d o r = some m (λ i. line_grants xs (one p i) (two p i) (three p i) d o r)

-- the number of a mode
abbrev pub mode_number : Mode → ℕ
mode_number Read = 1
mode_number Write = 2

-- a level as the program has it
abbrev pub level_of : program.Level → Level
level_of kept.Free = Free
level_of (kept.Label a) = Label a
level_of kept.Undefined = Undefined

-- what is of reading, mode 1, and what is of writing, mode 2
abbrev pub by_mode : {A : Type 0} → A → A → ℕ → A
by_mode reads writes d = cond (eqb d 1) reads writes

-- where each mode's levels start
abbrev pub levels_at : ℕ → ℕ
levels_at d = by_mode r_levels_at w_levels_at d

-- card o has label l, and r in its row of the table at `at`
abbrev pub brings : List ℕ → ℕ → ℕ → ℕ → ℕ → Bool
brings xs at l r o = eqb (byte_of xs card_labels_at o) l && member xs (row_of at o) r

-- one of the first n cards has label l, and r in its row
unfoldable pub gathered : List ℕ → ℕ → ℕ → ℕ → ℕ → Bool
gathered xs at n l r = some n (brings xs at l r)

-- ---- records of what the functions over the tables leave

-- the rows of a table of role sets: each row x holds what it held, and the roles r for which `said x r`
abbrev pub Unites : ℕ → ℕ → Relation → List ℕ → List ℕ → Type 0
Unites at size said xs ys = Agree size 128 (related ys at) (λ x r. related xs at x r || said x r)

-- the rows of the table at `at` are united so, and every other byte is as it was
pub record Related (at size : ℕ) (said : Relation) (xs ys : List ℕ) : Type 0 where
  pub rows : Unites at size said xs ys
  pub rest : Kept at (at + 16 * size) xs ys

-- a table of bytes: thing x's is now v x
pub record Bytes (at size : ℕ) (v : ℕ → ℕ) (xs ys : List ℕ) : Type 0 where
  pub bytes : (x : ℕ) → Among size x → byte_of ys at x ≡ v x
  pub rest : Kept at (at + size) xs ys

-- both tables of levels: those of the first `roles` roles are v's, by mode and role, and every other byte is as it was
pub record LevelBytes (roles : ℕ) (v : ℕ → ℕ → ℕ) (xs ys : List ℕ) : Type 0 where
  pub levels : (d : ℕ) → Among 2 d → (r : ℕ) → Among roles r → byte_of ys (levels_at d) r ≡ v d r
  pub rest : (i : ℕ) → ((d : ℕ) → Among 2 d → levels_at d ≤ i → levels_at d + roles ≤ i) → get_or ys i 0 ≡ get_or xs i 0

-- the bytes of a table when the first i lines of the part p have been noted, and nothing else changed
abbrev pub NotedBytes : ℕ → ℕ → List ℕ → ℕ → List ℕ → List ℕ → Type 0
NotedBytes at size p i xs ys = Bytes at size (λ x. notes p i x (byte_of xs at x)) xs ys

-- the readers' and the writers' rows, each with what `said` gives for its mode
pub record GrantedRows (said : ℕ → ℕ → ℕ → Bool) (xs ys : List ℕ) : Type 0 where
  pub rows : (d : ℕ) → Among 2 d → Unites (table_of d) 512 (said d) xs ys
  pub rest : Kept readers_at (writers_at + 16 * 512) xs ys

-- tables of marks: t has those of the first m lines of the part p
abbrev pub Marking : List ℕ → ℕ → List (List Bool) → Type 0
Marking p m t = Agree 32 32 (mark t) (pairs p m)

-- u is t with a mark for a over b
abbrev pub WithPair : ℕ → ℕ → List (List Bool) → List (List Bool) → Type 0
WithPair a b t u = Agree 32 32 (mark u) (λ x y. mark t x y || (eqb a x && eqb b y))

-- the first i rows of the marks t stand where dominance does, a byte for each mark, and nothing else changed
pub record DominanceRows (i : ℕ) (t : List (List Bool)) (xs ys : List ℕ) : Type 0 where
  pub rows : (a b : ℕ) → Among i a → Among 32 b → get_or ys (mark_at a b) 0 ≡ cond (mark t a b) 1 0
  pub rest : Kept dominance_at (dominance_at + 32 * i) xs ys

-- ---- role flow, card by card

-- the row has the roles that may read or write card o
abbrev pub InEither : List ℕ → ℕ → List ℕ → Type 0
InEither xs o row = (q : ℕ) → member row 0 q ≡ (related xs readers_at o q || related xs writers_at o q)

-- what the table of role sets t says once card o is passed
abbrev pub past_card : List ℕ → List ℕ → ℕ → Relation
past_card t xs o r q = related t 0 r q || flows_by_card xs r q o

-- what t says, without a role's pair with itself
abbrev pub without_loops : List ℕ → Relation
without_loops t r q = related t 0 r q && not (eqb q r)

-- ---- 14 to 16 by the tables of a state and by rows of labels: under has the labels under each label, over those over it

-- y is in the row of a level; where the level is 0, free, every label is
abbrev pub level_row : List ℕ → ℕ → ℕ → Bool
level_row t level y = eqb level 0 || in_row t level y

-- some label is under the clearance, over the r-level and under the w-level
unfoldable pub some_serves : List ℕ → List ℕ → ℕ → ℕ → ℕ → Bool
some_serves under over clearance reads writes = some 32 (λ y. in_row under clearance y && (level_row over reads y && level_row under writes y))

unfoldable pub assign_by_tables : List ℕ → List ℕ → List ℕ → ℕ → ℕ → Verdict
assign_by_tables xs under over u r =
    let c = byte_of xs clearances_at u in
    let reads = byte_of xs r_levels_at r in
    let writes = byte_of xs w_levels_at r in
    unless (not (eqb writes 99)) (refusal 14 u r)
    (unless (passes_in xs reads c reads) (refusal 15 u r)
    (unless (some_serves under over c reads writes) (refusal 16 u r) fine))
