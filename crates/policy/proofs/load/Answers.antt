-- Too short a state, a refusal of the check, or the copied image.
use Rattle.std.proofs.Common.{◌≡◌, refl, sym, ◌∙◌, length, length-take-le, rules}
use Rattle.std.proofs.lemmas.Result.{err_from_is_err_and}
use Rattle.policy.proofs.Told.{refusal_refuses}
use Rattle.policy.proofs.Loads.{scratch_zeros, load_short, load_refused, load_done, copied_front}
use Rattle.policy.proofs.load.Goals.{In_ok-build}
use Rattle.policy.proofs.load.Goals as goal

pub build-requires : goal.build-requires
build-requires c = scratch_zeros

pub returns-then-state-lt-STATE_SIZE : goal.returns-then-state-lt-STATE_SIZE
returns-then-state-lt-STATE_SIZE c = load_short c.if-state-lt-STATE_SIZE.true refl

pub returns-in_err-build : goal.returns-in_err-build
returns-in_err-build c =
    let p = err_from_is_err_and c.from_residual.result c.from_residual.ensures.1 in
    rw (p.1, p.2) (load_refused c.if-state-lt-STATE_SIZE.false c.in_err-build.ensures (refusal_refuses c.in_err-build.field-0.0))

-- the state that was built is whole
long : (c : In_ok-build) → length c.build.new.s ≡ 65536
long c = search rules

pub copy_from_slice-requires : goal.copy_from_slice-requires
copy_from_slice-requires c =
    length-take-le 65536 c.args.state.now c.if-state-lt-STATE_SIZE.false ∙ sym (long (goal.at.copy_from_slice-requires c).In_ok-build)

pub returns : goal.returns
returns c =
    let (copied, same) = copied_front (long (goal.at.returns c).In_ok-build) c.if-state-lt-STATE_SIZE.false in
    rw c.copy_from_slice.ensures.after (load_done c.if-state-lt-STATE_SIZE.false c.in_ok-build.ensures refl copied same)
