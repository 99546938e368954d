-- Numbers that are no role's, no card's or no mode's grant nothing; else one row is joined into one.
use Rattle.std.proofs.Common.{rules}
use Rattle.search.specs.Search.{Among}
use Rattle.search.proofs.Truth.{one_of, none_of}
use Rattle.policy.proofs.Relating.{no_role, no_card, no_mode, mode_among, granted}
use Rattle.policy.proofs.rows.grant.Goals.{Else-not-among-2}
use Rattle.policy.proofs.rows.grant.Goals as goal

known : (c : Else-not-among-2) → let a = c.args in Among 128 a.role × Among 512 a.card
known c =
    (one_of 128 _ c.among.ensures c.if-not-among.false, one_of 512 _ c.among-2.ensures c.if-not-among-2.false)

pub returns-then-not-among : goal.returns-then-not-among
returns-then-not-among c = no_role c.args.role _ _ _ (none_of 128 _ c.among.ensures c.if-not-among.true)

pub returns-then-not-among-2 : goal.returns-then-not-among-2
returns-then-not-among-2 c =
    let a = c.args in
    no_card a.role a.card _ _ (none_of 512 _ c.among-2.ensures c.if-not-among-2.true)

pub returns-in_default : goal.returns-in_default
returns-in_default c = no_mode c.args.role _ c.args.mode _ c.in_default.ensures

pub returns : goal.returns
returns c =
    let a = c.args in
    let (role, card) = known (goal.at.returns c).Else-not-among-2 in
    granted a.role a.card a.mode a.s.now _ (search rules) role card (rw c.in-Ok.ensures at (mode_among c.in-Ok.mode))
    (rw (c.rows_at.ensures, c.in-Ok.ensures) at c.join.ensures)
