-- What a well-formed file is, as properties: `Sized` is number 1's rule, `GoodLine` that of 2 to 5 for one line, `LineRefused` why it is not met, and `One` that of 6. Assumes nothing.
use Rattle.std.specs.Prelude.{ℕ, ◌-◌, ◌%◌, ◌≤◌, ◌<◌, ◌≡◌, ◌⊎◌, List, true, length}
use Rattle.search.specs.Search.{Among, LowestOf}
use Rattle.rolefile.specs.declared.Line.{Line}
use Rattle.rolefile.specs.Line.{line_length, H, U, O, P, line_at, lines}
use Rattle.rolefile.specs.Form.{length_limit, header, label_limit, role_limit, user_limit, card_limit, first_limit, second_limit, mode_limit, about}
use Rattle.rolefile.specs.Said.{users, cards}

pub record Sized (f : List ℕ) : Type 0 where
  pub some : 1 ≤ length f
  pub whole : length f % line_length ≡ 0
  pub short : length f ≤ length_limit

pub record GoodCounts (h : Line) : Type 0 where
  pub labels : Among label_limit h.a
  pub roles : h.b ≤ role_limit
  pub users : h.c ≤ user_limit
  pub cards : h.d ≤ card_limit

pub record GoodNumbers (h l : Line) : Type 0 where
  pub one : Among (first_limit h l.letter) l.a
  pub two : Among (second_limit h l.letter) l.b
  pub mode : l.letter ≡ P → Among mode_limit l.c

-- x is less than y, or is y and the rest decides
abbrev pub Before : ℕ → ℕ → Type 0 → Type 0
Before x y R = (x < y) ⊎ ((x ≡ y) × R)

-- by letter, then by the fields read left to right
abbrev pub Rises : Line → Line → Type 0
Rises p l = Before p.letter l.letter (Before p.a l.a (Before p.b l.b (p.c < l.c)))

pub record GoodHead (l : Line) : Type 0 where
  pub letter : l.letter ≡ H
  pub counts : GoodCounts l

-- a line l after a line p, under the counts h
pub record GoodBody (h p l : Line) : Type 0 where
  pub letter : H < l.letter
  pub numbers : GoodNumbers h l
  pub order : Rises p l

pub record GoodLine (f : List ℕ) (k : ℕ) : Type 0 where
  pub head : k ≡ 1 → GoodHead (header f)
  pub body : (k ≡ 1 → ⊥) → GoodBody (header f) (line_at f (k - 1)) (line_at f k)

abbrev pub GoodLines : List ℕ → Type 0
GoodLines f = (k : ℕ) → Among (lines f) k → GoodLine f k

-- why line k is not good, by number; `malformed` is a malformed line, an unknown letter, or H found later
pub data LineRefused (f : List ℕ) (k : ℕ) : ℕ → Type 0 where
  no_header : k ≡ 1 → ((line_at f k).letter ≡ H → ⊥) → LineRefused f k 2
  bad_counts : k ≡ 1 → (line_at f k).letter ≡ H → (GoodCounts (line_at f k) → ⊥) → LineRefused f k 3
  malformed : (k ≡ 1 → ⊥) → (line_at f k).letter ≤ H → LineRefused f k 2
  bad_numbers : (k ≡ 1 → ⊥) → H < (line_at f k).letter → (GoodNumbers (header f) (line_at f k) → ⊥) → LineRefused f k 4
  unordered : (k ≡ 1 → ⊥) → H < (line_at f k).letter → GoodNumbers (header f) (line_at f k)
      → (Rises (line_at f (k - 1)) (line_at f k) → ⊥) → LineRefused f k 5

-- "Each user has one U line and each card one O line": there is a line of the letter k about x, and no other
pub record One (f : List ℕ) (k x : ℕ) : Type 0 where
  pub line : ℕ
  pub inside : Among (lines f) line
  pub tells : about f k x line ≡ true
  pub only : (i : ℕ) → Among (lines f) i → about f k x i ≡ true → i ≡ line

-- each of n things has one line of the letter k
abbrev pub OneEach : List ℕ → ℕ → ℕ → Type 0
OneEach f k n = (x : ℕ) → Among n x → One f k x

-- the lowest of n things that has no such line, or more than one
abbrev pub LowestUnlabelled : List ℕ → ℕ → ℕ → ℕ → Type 0
LowestUnlabelled f k n = LowestOf n (λ x. One f k x → ⊥) (One f k)

pub record WellFormed (f : List ℕ) : Type 0 where
  pub sized : Sized f
  pub good : GoodLines f
  pub user : OneEach f U (users f)
  pub card : OneEach f O (cards f)
