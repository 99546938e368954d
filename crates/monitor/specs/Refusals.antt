-- The numbers 21 to 31 by name, and what a call that answers with a value or a refusal tells: its number, 0 where it is done, and its figure, 0 where it is refused. Assumes nothing.
use Rattle.std.specs.Prelude.{ℕ, Result, Ok, Err}
use Rattle.monitor.specs.declared.refusal.Refusal.{Refusal}
use Rattle.monitor.specs.declared.refusal.Refusal.TheVariants.{State, Place, InUse, NoSession, OutOfRange, Clearance, Assignment, Levels, Card, Offset, Store}
use Rattle.monitor.specs.declared.things.Mode.{Mode}
use Rattle.monitor.specs.declared.things.Mode.TheVariants.{Read, Write}

abbrev pub number_of : Refusal → ℕ
number_of State = 21
number_of Place = 22
number_of InUse = 23
number_of NoSession = 24
number_of OutOfRange = 25
number_of Clearance = 26
number_of Assignment = 27
number_of Levels = 28
number_of Card = 29
number_of Offset = 30
number_of Store = 31

abbrev pub told : {A : Type 0} → Result A Refusal → ℕ
told (Ok x) = 0
told (Err e) = number_of e

abbrev pub figured : Result ℕ Refusal → ℕ
figured (Ok x) = x
figured (Err e) = 0

-- the modes of a use as the calls number them
abbrev pub mode_of : Mode → ℕ
mode_of Read = 1
mode_of Write = 2
