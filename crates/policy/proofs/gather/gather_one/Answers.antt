-- A card without a label brings nothing; else its rows are united with its label's.
use Rattle.std.proofs.Common.{get_or, ◌+◌, refl, arith, rules}
use Rattle.search.specs.Search.{Among}
use Rattle.search.proofs.Truth.{one_of, none_of}
use Rattle.policy.specs.Tables.{readers_at, writers_at}
use Rattle.policy.proofs.Gathering.{brings_none, brings_row}
use Rattle.policy.proofs.gather.gather_one.Goals.{Else-not-among}
use Rattle.policy.proofs.gather.gather_one.Goals as goal

known : (c : Else-not-among) → let a = c.args in Among 32 (get_or a.s.now (1296 + a.o) 0)
known c = one_of 32 _ c.among.ensures c.if-not-among.false

pub returns-then-not-among : goal.returns-then-not-among
returns-then-not-among c =
    let a = c.args in
    let none = none_of 32 _ c.among.ensures c.if-not-among.true in
    record {
      readers = brings_none a.s.now a.o _ refl readers_at a.g.now.readers none;
      writers = brings_none a.s.now a.o _ refl writers_at a.g.now.writers none;
    }

pub returns : goal.returns
returns c =
    let a = c.args in
    let w = known (goal.at.returns c).Else-not-among in
    record {
      readers = brings_row a.s.now a.o _ refl readers_at a.g.now.readers _ c.row-readers.result w (search rules) (omega arith) c.row-readers.ensures c.unite.ensures;
      writers = brings_row a.s.now a.o _ refl writers_at a.g.now.writers _ c.row-writers.result w (search rules) (omega arith) c.row-writers.ensures c.unite-2.ensures;
    }
