-- Clearances are noted, then card labels, and then each table is searched.
use Rattle.policy.proofs.Labelling.{Tables, tables_of, user_refused, card_refused, none_refused}
use Rattle.policy.proofs.build.note_labels.Goals.{After-note_lines-2}
use Rattle.policy.proofs.build.note_labels.Goals as goal

tables : (c : After-note_lines-2) → Tables c.args.file.now.bytes.now c.args.s.now c.note_lines-2.new.s
tables c =
    tables_of c.args.file.now.ready c.args.s.now c.note_lines.new.s c.note_lines-2.new.s c.requires c.note_lines.ensures c.note_lines-2.ensures

pub returns-in-Some : goal.returns-in-Some
returns-in-Some c =
    user_refused (tables (goal.at.returns-in-Some c).After-note_lines-2) (rw c.args.file.now.ready.head.users at c.in-Some.ensures)

pub returns-in-Some-lowest_unlabelled : goal.returns-in-Some-lowest_unlabelled
returns-in-Some-lowest_unlabelled c =
    let head = c.args.file.now.ready.head in
    card_refused (tables (goal.at.returns-in-Some-lowest_unlabelled c).After-note_lines-2) (rw head.users at c.in_default.ensures)
    (rw head.cards at c.in-Some-lowest_unlabelled.ensures)

pub returns : goal.returns
returns c =
    let head = c.args.file.now.ready.head in
    none_refused (tables (goal.at.returns c).After-note_lines-2) (rw head.users at c.in_default.ensures) (rw head.cards at c.in_default-lowest_unlabelled.ensures)
