-- Two runs worked out: a file of two rival makers, the calls of two runs that differ only in what the second maker's translator does, and what each label is shown. The
-- numbers and bytes are written by hand from document 01. Assumes nothing.
use Rattle.std.specs.Prelude.{ℕ, List, [], ◌∷◌, ◌++◌, replicate}
use Rattle.monitor.specs.Runs.{Call, opens, closes, takes, drops, reads, writes}
use Rattle.monitor.specs.Cases.{bytes}
use Rattle.isolation.specs.TwoRuns.{Answer}

-- label 1 is common, 2 and 3 are the makers', 4 is over both; card 1 is common, cards 2 and 3 are the makers'; role 1 reads the common card, roles 2 and 3 are senior to it
-- and read and write their maker's card
unfoldable pub file : List ℕ
file = bytes (
    "H    4    3    2    3"
    ∷ "D    2    1          "
    ∷ "D    3    1          "
    ∷ "D    4    2          "
    ∷ "D    4    3          "
    ∷ "S    2    1          "
    ∷ "S    3    1          "
    ∷ "U    1    2          "
    ∷ "U    2    3          "
    ∷ "O    1    1          "
    ∷ "O    2    2          "
    ∷ "O    3    3          "
    ∷ "P    1    1    1     "
    ∷ "P    2    2    1     "
    ∷ "P    2    2    2     "
    ∷ "P    3    3    1     "
    ∷ "P    3    3    2     "
    ∷ "A    1    2          "
    ∷ "A    2    3          "
    ∷ [])

-- three cards; the two stores differ in card 3
unfoldable pub first_store : List ℕ
first_store = replicate 192 46

unfoldable pub second_store : List ℕ
second_store = replicate 128 46 ++ replicate 64 47

-- user 1 is at place 1, for the first maker; user 2 at place 2, for the second, and writes one wording in the first run and another in the second
unfoldable pub first_run : List Call
first_run =
    opens 1 1 2
    ∷ opens 2 2 3
    ∷ takes 2 3
    ∷ writes 2 3 0 (66 ∷ [])
    ∷ takes 1 2
    ∷ writes 1 2 0 (65 ∷ [])
    ∷ reads 2 3 0 2
    ∷ reads 1 2 0 2
    ∷ reads 1 1 0 1
    ∷ reads 1 3 0 1
    ∷ closes 2
    ∷ []

unfoldable pub second_run : List Call
second_run =
    opens 1 1 2
    ∷ opens 2 2 3
    ∷ takes 1 2
    ∷ takes 2 3
    ∷ writes 1 2 0 (65 ∷ [])
    ∷ writes 2 3 0 (67 ∷ [])
    ∷ reads 2 3 0 2
    ∷ drops 2 3
    ∷ reads 1 2 0 2
    ∷ reads 1 1 0 1
    ∷ reads 1 3 0 1
    ∷ closes 2
    ∷ []

abbrev pub gave : List ℕ → Answer
gave given = record { number = 0; bytes = given }

abbrev pub done : Answer
done = gave []

abbrev pub refused : ℕ → Answer
refused n = record { number = n; bytes = [] }

-- what label 2, the first maker's, is shown in either run: the openings, user 1's role, write and reads, of which the one of card 3 is refused, and the closing
unfoldable pub low : List Answer
low = done ∷ done ∷ done ∷ done ∷ gave (65 ∷ 46 ∷ []) ∷ gave (46 ∷ []) ∷ refused 29 ∷ done ∷ []

-- what label 4 is shown: all calls, and so what user 2 wrote and read
unfoldable pub high_first : List Answer
high_first = done ∷ done ∷ done ∷ done ∷ done ∷ done ∷ gave (66 ∷ 46 ∷ []) ∷ gave (65 ∷ 46 ∷ []) ∷ gave (46 ∷ []) ∷ refused 29 ∷ done ∷ []

unfoldable pub high_second : List Answer
high_second = done ∷ done ∷ done ∷ done ∷ done ∷ done ∷ gave (67 ∷ 47 ∷ []) ∷ done ∷ gave (65 ∷ 46 ∷ []) ∷ gave (46 ∷ []) ∷ refused 29 ∷ done ∷ []
