-- Each turn puts one byte more after those that stand in s.
use Rattle.std.proofs.Common.{◌≡◌, refl, length, arith}
use native.Mathlib.Numerals.{add-one}
use lib.ListN.{length-set}
use lib.Seq.{paste-zero, paste-suc, take-length}
use Rattle.monitor.proofs.sessions.put.Goals as goal

pub loop-i-init : goal.loop-i-init
loop-i-init c = let a = c.args in (refl, paste-zero a.s.now a.at a.b.now)

pub loop-i-preserved : goal.loop-i-preserved
loop-i-preserved c =
    let a = c.args in
    let l = c.loop-i in
    let turn = paste-suc a.s.now a.at a.b.now l.i 0 (omega arith) (omega arith) in
    (simp length-set (omega arith), rw (l.invariant.1, add-one) turn)

pub returns : goal.returns
returns c =
    let a = c.args in
    let l = c.loop-i in
    let all : l.i ≡ length a.b.now = omega arith in
    rw (l.invariant.1, all, take-length)
