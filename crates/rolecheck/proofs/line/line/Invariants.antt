-- Each turn puts one field more.
use Rattle.text.specs.Text.{each}
use Rattle.text.specs.Added.{Adds}
use Rattle.rolecheck.proofs.Fields.{field_of}
use Rattle.rolecheck.proofs.line.line.Given as goal

abbrev pub invariant-loop-place : goal.invariant-loop-place
invariant-loop-place l = Adds (each l.place (field_of l.numbers)) l.initial.text l.text
