-- Each turn tests one role more.
use Rattle.std.proofs.Common.{ℕ, ◌≡◌, ◌+◌, ◌∙◌, List, true, ◌&&◌, leb, arith}
use borrow.Author.Tests.{le-leb}
use Rattle.search.specs.Search.{Among}
use Rattle.search.proofs.Truth.{and-iff, among_iff, same}
use Rattle.roleset.proofs.Rows.{zero_rows}
use Rattle.monitor.specs.Session.{roles_in, entitled, fitting}
use Rattle.monitor.specs.Review.{takable_in}
use Rattle.monitor.proofs.Filled.{fill_none, fill_more}
use Rattle.monitor.proofs.state.Policy.roles_at.Goals as goal

-- ---- the roles up to i that may be taken
module _ (xs : List ℕ) (u l : ℕ) where
  counted : (r : ℕ) → takable_in xs u l r ≡ true → Among (roles_in xs) r
  unfolding takable_in
  counted r h = (among_iff (roles_in xs) r).0 ((and-iff _ _).0 h).0

  one : (r : ℕ) → Among (roles_in xs) r → (entitled xs u r && fitting xs l r) ≡ takable_in xs u l r
  unfolding takable_in
  one r w = rw ((among_iff (roles_in xs) r).1 w)

  all : (r : ℕ) → (leb r (roles_in xs) && takable_in xs u l r) ≡ takable_in xs u l r
  all r =
      same _ _ (λ h. ((and-iff (leb r (roles_in xs)) (takable_in xs u l r)).0 h).1)
      (λ h. (and-iff (leb r (roles_in xs)) (takable_in xs u l r)).1 (le-leb r (roles_in xs) (counted r h).1, h))

pub loop-i-init : goal.loop-i-init
loop-i-init c =
    let a = c.args in
    λ r. zero_rows 16 0 r (omega arith) ∙ fill_none (takable_in a.self.bytes.now a.at.user.number a.at.label.number) r (λ h. (counted a.self.bytes.now a.at.user.number a.at.label.number r h).0)

pub loop-i-preserved : goal.loop-i-preserved
loop-i-preserved c =
    let w = c.loop-i in
    let xs = c.args.self.bytes.now in
    let u = c.args.at.user.number in
    let l = c.args.at.label.number in
    let may : c.may_take-may.result ≡ takable_in xs u l (w.i + 1) = c.may_take-may.ensures ∙ one xs u l (w.i + 1) (omega arith) in
    λ r. c.add_where.ensures.row (omega arith) r ∙ rw (w.invariant r, may) (fill_more (takable_in xs u l) w.i r (omega arith))

pub returns : goal.returns
returns c =
    let w = c.loop-i in
    let a = c.args in
    let every : w.i ≡ roles_in a.self.bytes.now = omega arith in
    λ r. rw every at (w.invariant r) ∙ all a.self.bytes.now a.at.user.number a.at.label.number r
