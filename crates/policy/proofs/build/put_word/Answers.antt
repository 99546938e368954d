-- Two bytes, the lower first.
use Rattle.std.proofs.Common.{ℕ, ◌+◌, ◌/◌, ◌%◌, ◌≤◌, ◌<◌, ◌≡◌, refl, List, arith, rules, length, set, length-set, get_or-set_same, get_or-set_other}
use Rattle.roleset.specs.Row.{Kept}
use Rattle.roleset.proofs.Rows.{kept_more}
use Rattle.policy.specs.Tables.{word}
use Rattle.policy.proofs.build.put_word.Goals as goal

module _ (xs : List ℕ) (at n : ℕ) (fits : at + 2 ≤ length xs) (small : n < 65536) where
  ys : List ℕ
  ys = set (set xs at (n % 256)) (at + 1) (n / 256 % 256)

  holds : word ys at ≡ n
  unfolding ys
  holds =
      rw (
        get_or-set_other (set xs at (n % 256)) (at + 1) at (n / 256 % 256) 0 (λ e. omega arith),
        get_or-set_same xs at (n % 256) 0 (omega arith),
        get_or-set_same (set xs at (n % 256)) (at + 1) (n / 256 % 256) 0 (rw (length-set xs at (n % 256)) (omega arith)),
      ) (omega arith)

  keeps : Kept at (at + 2) xs ys
  unfolding ys
  keeps =
      kept_more at (at + 2) (at + 1) (n / 256 % 256) xs (set xs at (n % 256)) (omega arith) (omega arith)
      (kept_more at (at + 2) at (n % 256) xs xs (omega arith) (omega arith) (λ i o. refl))

pub returns : goal.returns
unfolding ys
returns c =
    let a = c.args in
    rw c.to_le_bytes.ensures (holds a.s.now a.at a.n (search rules) (search rules), keeps a.s.now a.at a.n (search rules) (search rules))
