-- "A write puts the given bytes at the offset and changes no other byte": of a write that is done. Assumes nothing.
use Rattle.std.proofs.Common.{ℕ, ◌+◌, ◌≤◌, ◌<◌, ◌≡◌, List, arith, length, get_or}
use Rattle.roleset.specs.Row.{Kept}
use Rattle.policy.specs.Tables.{writers_at}
use Rattle.monitor.specs.Calls.{if_done, part_at, write_number, write_store}
use Rattle.monitor.proofs.Answers.{part_fits}
use Rattle.monitor.proofs.Frames.{written_in, written_out}

module _ (xs store : List ℕ) (p o k : ℕ) (bytes : List ℕ) (done : write_number xs store p o k bytes ≡ 0) where
  -- the part written lies in the store
  pub inside : part_at o k + length bytes ≤ length store
  inside = let f = part_fits writers_at xs (length store) p o k (length bytes) done in omega (arith, f.card, f.in_card, f.in_store)

  pub write_in : (i : ℕ) → i < length bytes → get_or (write_store xs store p o k bytes) (part_at o k + i) 0 ≡ get_or bytes i 0
  unfolding if_done
  write_in i l = rw done (written_in store (part_at o k) bytes inside i l)

  pub write_out : Kept (part_at o k) (part_at o k + length bytes) store (write_store xs store p o k bytes)
  unfolding if_done
  write_out i out = rw done (written_out store (part_at o k) bytes inside i out)
