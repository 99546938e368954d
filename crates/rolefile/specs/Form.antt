-- "The directory supplier, by the file's form": the numbers 1 to 6, in the order in which a load checks them. Assumes nothing.
use Rattle.std.specs.Prelude.{ℕ, zero, suc, ◌+◌, ◌-◌, ◌%◌, List, Bool, not, ◌&&◌, ◌||◌, cond, leb, ltb, eqb, length}
use Rattle.search.specs.Search.{among, first, implies}
use Rattle.rolefile.specs.declared.Line.{Line}
use Rattle.rolefile.specs.declared.Verdict.{Verdict}
use Rattle.rolefile.specs.Line.{line_length, H, D, S, U, O, P, A, line_at, lines}

-- ---- verdicts: a number and its place

abbrev pub fine : Verdict
fine = record { number = 0; first = 0; second = 0 }

abbrev pub refusal : ℕ → ℕ → ℕ → Verdict
refusal n p q = record { number = n; first = p; second = q }

-- where the test fails, the refusal; else the rest
abbrev pub unless : Bool → Verdict → Verdict → Verdict
unless ok v rest = cond ok rest v

-- the first refusal of two
infixr 20 ◌then◌
abbrev pub ◌then◌ : Verdict → Verdict → Verdict
v then w = unless (eqb v.number 0) v w

-- the first refusal among those of 1 to n
unfoldable pub scan : ℕ → (ℕ → Verdict) → Verdict
scan zero v = fine
scan (suc n) v = scan n v then v (suc n)

-- ---- 1: "length 0, not a multiple of 22, or above 63,800"

abbrev pub length_limit : ℕ
length_limit = 63800

unfoldable pub sized : List ℕ → Bool
sized f = leb 1 (length f) && (eqb (length f % line_length) 0 && leb (length f) length_limit)

-- ---- line by line 2 to 5

-- the counts stand in line 1
abbrev pub header : List ℕ → Line
header f = line_at f 1

-- 3: "labels 1 to 32, roles 0 to 128, users 0 to 256, cards 0 to 512"
abbrev pub label_limit : ℕ
label_limit = 32

abbrev pub role_limit : ℕ
role_limit = 128

abbrev pub user_limit : ℕ
user_limit = 256

abbrev pub card_limit : ℕ
card_limit = 512

abbrev pub within_limits : ℕ → ℕ → ℕ → ℕ → Bool
within_limits labels roles users cards = among label_limit labels && (leb roles role_limit && (leb users user_limit && leb cards card_limit))

unfoldable pub good_counts : Line → Bool
good_counts h = within_limits h.a h.b h.c h.d

-- 4: the count that the first and the second field of a letter's lines go up to
unfoldable pub first_limit : Line → ℕ → ℕ
first_limit h k = cond (eqb k D) h.a (cond (eqb k S || eqb k P) h.b (cond (eqb k O) h.d h.c))

unfoldable pub second_limit : Line → ℕ → ℕ
second_limit h k = cond (eqb k S || eqb k A) h.b (cond (eqb k P) h.d h.a)

-- "read (m = 1) or write (m = 2)"
abbrev pub mode_limit : ℕ
mode_limit = 2

unfoldable pub ranged : Line → Line → Bool
ranged h l =
    among (first_limit h l.letter) l.a && (among (second_limit h l.letter) l.b && implies (eqb l.letter P) (among mode_limit l.c))

-- 5: "the letters come in the table's order, and lines of a letter rise strictly by their fields read left to right"
abbrev pub before : ℕ → ℕ → Bool → Bool
before x y rest = ltb x y || (eqb x y && rest)

unfoldable pub rises : Line → Line → Bool
rises p l = before p.letter l.letter (before p.a l.a (before p.b l.b (ltb p.c l.c)))

-- line 1 is an H line with its counts
unfoldable pub head_verdict : Line → Verdict
head_verdict l = unless (eqb l.letter H) (refusal 2 1 0) (unless (good_counts l) (refusal 3 1 0) fine)

-- line k after line p, under the counts h: a letter, and not H; its numbers; its place after the line before
unfoldable pub body_verdict : Line → Line → ℕ → Line → Verdict
body_verdict h p k l =
    unless (ltb H l.letter) (refusal 2 k 0) (unless (ranged h l) (refusal 4 k 0) (unless (rises p l) (refusal 5 k 0) fine))

unfoldable pub line_verdict : List ℕ → ℕ → Verdict
line_verdict f k = cond (eqb k 1) (head_verdict (header f)) (body_verdict (header f) (line_at f (k - 1)) k (line_at f k))

-- ---- 6: "user or card with no label or more than one"

-- how many of 1 to n are so
unfoldable pub count : ℕ → (ℕ → Bool) → ℕ
count zero p = 0
count (suc n) p = count n p + cond (p (suc n)) 1 0

-- line i is of the letter k and about x
abbrev pub about : List ℕ → ℕ → ℕ → ℕ → Bool
about f k x i = eqb (line_at f i).letter k && eqb (line_at f i).a x

-- how many lines of the letter k are about x
abbrev pub lines_about : List ℕ → ℕ → ℕ → ℕ
lines_about f k x = count (lines f) (about f k x)

-- none, or more than one
abbrev pub not_one : List ℕ → ℕ → ℕ → Bool
not_one f k x = not (eqb (lines_about f k x) 1)

-- the lowest of n things that has no line of the letter k or more than one, or 0
unfoldable pub unlabelled : List ℕ → ℕ → ℕ → ℕ
unlabelled f k n = first n (not_one f k)

-- the verdict where x was found, or fine where x is 0
abbrev pub found : ℕ → Verdict → Verdict
found x v = unless (eqb x 0) v fine

-- ---- "Load checks 7, 1, then line by line 2 to 5 in that order within the line, then 6 (users before cards)"

unfoldable pub unlabelled_verdict : List ℕ → Verdict
unlabelled_verdict f =
    let u = unlabelled f U (header f).c in
    let o = unlabelled f O (header f).d in
    found u (refusal 6 1 u) then found o (refusal 6 2 o)

-- 1 to 5
unfoldable pub lines_verdict : List ℕ → Verdict
lines_verdict f = unless (sized f) (refusal 1 0 0) fine then scan (lines f) (line_verdict f)

unfoldable pub form_verdict : List ℕ → Verdict
form_verdict f = lines_verdict f then unlabelled_verdict f
