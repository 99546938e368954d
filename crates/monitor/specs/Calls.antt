-- What each session call answers and leaves, in the order of "Who can cause which number": "Other calls check in order of number, each as far
-- as it applies to that call". Assumes nothing.
use Rattle.std.specs.Prelude.{ℕ, zero, suc, ◌+◌, ◌*◌, ◌-◌, ◌^◌, ◌≡◌, List, [], ◌∷◌, ◌++◌, Bool, not, cond, leb, length, get_or, set, take, drop, replicate}
use Rattle.std.specs.Borrow.{Bor}
use Rattle.std.specs.Int.Bits.{bit_or, bit_xor}
use Rattle.search.specs.Search.{among}
use Rattle.roleset.specs.Row.{role_byte, role_bit, member}
use Rattle.policy.specs.Tables.{readers_at, writers_at, flows_in, circle_in}
use Rattle.monitor.specs.Session.{sound, labels_in, roles_in, users_in, cards_in, place_at, held_at, in_use, user_at, label_at, cleared, entitled, fitting, gives}

-- the number n unless the test holds; then what the tests after it say. Form has the same of verdicts; this one stays shut, so that a row of tests stays a row
unfoldable pub unless : Bool → ℕ → ℕ → ℕ
unless test n rest = cond test rest n

-- the new where the number is 0, which document 01 calls done; "every refusal leaves state, store and any other lent buffer unchanged"
unfoldable pub if_done : {A : Type 0} → ℕ → A → A → A
if_done zero new old = new
if_done (suc n) new old = old

-- xs with the bytes of bs from index at on
abbrev pub written : List ℕ → ℕ → List ℕ → List ℕ
written xs at bs = take at xs ++ bs ++ drop (at + length bs) xs

-- what a call at a place asks first, that it has a session, and then the rest
abbrev pub at_session : List ℕ → ℕ → ℕ → ℕ
at_session xs p rest =
    unless (sound xs) 21
    (unless (among 64 p) 22
    (unless (in_use xs p) 24
    rest))

-- ---- open: "gives it a user and a label that the clearance dominates, and no roles"

unfoldable pub open_number : List ℕ → ℕ → ℕ → ℕ → ℕ
open_number xs p u l =
    unless (sound xs) 21
    (unless (among 64 p) 22
    (unless (not (in_use xs p)) 23
    (unless (among (users_in xs) u) 25
    (unless (among (labels_in xs) l) 25
    (unless (cleared xs u l) 26
    0)))))

-- the bytes of a place with a session that holds no role
abbrev pub session_bytes : ℕ → ℕ → List ℕ
session_bytes u l = 1 ∷ (u - 1) ∷ l ∷ replicate 17 0

unfoldable pub opened : List ℕ → ℕ → ℕ → ℕ → List ℕ
opened xs p u l = written xs (place_at p) (session_bytes u l)

abbrev pub open_state : List ℕ → ℕ → ℕ → ℕ → List ℕ
open_state xs p u l = if_done (open_number xs p u l) (opened xs p u l) xs

pub record Opens (xs : List ℕ) (p u l n : ℕ) (ys : List ℕ) : Type 0 where
  pub number : n ≡ open_number xs p u l
  pub state : ys ≡ open_state xs p u l

-- ---- close: "empties the place"

unfoldable pub close_number : List ℕ → ℕ → ℕ
close_number xs p = at_session xs p 0

unfoldable pub closed : List ℕ → ℕ → List ℕ
closed xs p = written xs (place_at p) (replicate 20 0)

abbrev pub close_state : List ℕ → ℕ → List ℕ
close_state xs p = if_done (close_number xs p) (closed xs p) xs

pub record Closes (xs : List ℕ) (p n : ℕ) (ys : List ℕ) : Type 0 where
  pub number : n ≡ close_number xs p
  pub state : ys ≡ close_state xs p

-- ---- take and drop a role, as document 01 has it (the field: activate and deactivate): "Taking a role already held, or dropping one not held, is done and changes nothing"

unfoldable pub take_number : List ℕ → ℕ → ℕ → ℕ
take_number xs p r =
    at_session xs p
    (unless (among (roles_in xs) r) 25
    (unless (entitled xs (user_at xs p) r) 27
    (unless (fitting xs (label_at xs p) r) 28
    0)))

unfoldable pub drop_number : List ℕ → ℕ → ℕ → ℕ
drop_number xs p r = at_session xs p (unless (among (roles_in xs) r) 25 0)

-- the byte of the held roles in which role r has its bit
abbrev pub role_at : ℕ → ℕ → ℕ
role_at p r = held_at p + role_byte r

unfoldable pub taken : List ℕ → ℕ → ℕ → List ℕ
taken xs p r = set xs (role_at p r) (bit_or (get_or xs (role_at p r) 0) (2 ^ role_bit r))

unfoldable pub dropped : List ℕ → ℕ → ℕ → List ℕ
dropped xs p r = cond (member xs (held_at p) r) (set xs (role_at p r) (bit_xor (get_or xs (role_at p r) 0) (2 ^ role_bit r))) xs

abbrev pub take_state : List ℕ → ℕ → ℕ → List ℕ
take_state xs p r = if_done (take_number xs p r) (taken xs p r) xs

abbrev pub drop_state : List ℕ → ℕ → ℕ → List ℕ
drop_state xs p r = if_done (drop_number xs p r) (dropped xs p r) xs

pub record Takes (xs : List ℕ) (p r n : ℕ) (ys : List ℕ) : Type 0 where
  pub number : n ≡ take_number xs p r
  pub state : ys ≡ take_state xs p r

pub record Drops (xs : List ℕ) (p r n : ℕ) (ys : List ℕ) : Type 0 where
  pub number : n ≡ drop_number xs p r
  pub state : ys ≡ drop_state xs p r

-- ---- read and write n bytes of card o from offset k on: "Card o fills bytes 64 × (o − 1) to 64 × o − 1 of the store"

-- the number, by the table of those who may: readers or writers
unfoldable pub part_number : ℕ → List ℕ → ℕ → ℕ → ℕ → ℕ → ℕ → ℕ
part_number at xs size p o k n =
    at_session xs p
    (unless (among (cards_in xs) o) 25
    (unless (gives xs at p o) 29
    (unless (leb (k + n) 64) 30
    (unless (leb (64 * cards_in xs) size) 31
    0))))

abbrev pub part_at : ℕ → ℕ → ℕ
part_at o k = 64 * (o - 1) + k

abbrev pub read_number : List ℕ → List ℕ → ℕ → ℕ → ℕ → ℕ → ℕ
read_number xs store p o k n = part_number readers_at xs (length store) p o k n

abbrev pub write_number : List ℕ → List ℕ → ℕ → ℕ → ℕ → List ℕ → ℕ
write_number xs store p o k bytes = part_number writers_at xs (length store) p o k (length bytes)

-- the bytes that a read answered with this number hands back
abbrev pub part_bytes : ℕ → List ℕ → ℕ → ℕ → ℕ → List ℕ
part_bytes number store o k n = if_done number (take n (drop (part_at o k) store)) []

-- the bytes that a read hands back, and where they stand in a store that starts at byte base of its block
abbrev pub read_bytes : List ℕ → List ℕ → ℕ → ℕ → ℕ → ℕ → List ℕ
read_bytes xs store p o k n = part_bytes (read_number xs store p o k n) store o k n

abbrev pub read_from : ℕ → List ℕ → List ℕ → ℕ → ℕ → ℕ → ℕ → ℕ
read_from base xs store p o k n = if_done (read_number xs store p o k n) (part_at o k + base) base

-- "It hands back that part of the lent store itself. On a refusal it is the empty part at the store's start"
pub record Reads (xs : List ℕ) (store : Bor (List ℕ)) (p o k n : ℕ) (part : Bor (List ℕ)) : Type 0 where
  pub bytes : part.now ≡ read_bytes xs store.now p o k n
  pub block : part.ref_ptr.0 ≡ store.ref_ptr.0
  pub start : part.ref_ptr.1 ≡ read_from store.ref_ptr.1 xs store.now p o k n

-- "A write puts the given bytes at the offset and changes no other byte": the store that one answered with this number leaves
abbrev pub part_store : ℕ → List ℕ → ℕ → ℕ → List ℕ → List ℕ
part_store number store o k bytes = if_done number (written store (part_at o k) bytes) store

abbrev pub write_store : List ℕ → List ℕ → ℕ → ℕ → ℕ → List ℕ → List ℕ
write_store xs store p o k bytes = part_store (write_number xs store p o k bytes) store o k bytes

pub record Writes (xs old : List ℕ) (p o k : ℕ) (bytes : List ℕ) (n : ℕ) (new : List ℕ) : Type 0 where
  pub number : n ≡ write_number xs old p o k bytes
  pub store : new ≡ write_store xs old p o k bytes

-- ---- reports: a number and a figure, which is 0 on a refusal

pub record Figured (refusal value n figure : ℕ) : Type 0 where
  pub number : n ≡ refusal
  pub answer : figure ≡ if_done refusal value 0

-- the flow report: "whether the first flows to the second (never to itself), and gives the lowest role on a circle of two or more roles, or 0"

unfoldable pub flows_number : List ℕ → ℕ → ℕ → ℕ
flows_number xs r q =
    unless (sound xs) 21
    (unless (among (roles_in xs) r) 25
    (unless (among (roles_in xs) q) 25
    0))

-- 21 alone, where nothing is asked but the state
unfoldable pub state_number : List ℕ → ℕ
state_number xs = unless (sound xs) 21 0

abbrev pub Flows : List ℕ → ℕ → ℕ → ℕ → ℕ → Type 0
Flows xs r q = Figured (flows_number xs r q) (cond (flows_in xs r q) 1 0)

abbrev pub Circles : List ℕ → ℕ → ℕ → Type 0
Circles xs = Figured (state_number xs) (circle_in xs)
