-- Runs of calls from the state that a load left: each call on the state and store that the last one left, with the numbers, bytes and states of `Calls`. Assumes nothing.
use Rattle.std.specs.Prelude.{ℕ, ◌≤◌, List, [], ◌∷◌, length}
use Rattle.rolefile.specs.declared.Verdict.{Verdict}
use Rattle.policy.specs.Tables.{state_size}
use Rattle.policy.specs.Image.{Loaded}
use Rattle.monitor.specs.Calls.{open_number, open_state, close_number, close_state, take_number, take_state, drop_number, drop_state}
use Rattle.monitor.specs.Calls.{read_number, part_bytes, write_number, part_store}

-- the six calls. "A read stands for both its calls", and "a write brings its bytes along as part of the call"
pub data Call : Type 0 where
  opens : (place user label : ℕ) → Call
  closes : (place : ℕ) → Call
  takes : (place role : ℕ) → Call
  drops : (place role : ℕ) → Call
  reads : (place card offset count : ℕ) → Call
  writes : (place card offset : ℕ) (bytes : List ℕ) → Call

-- what a call is lent
pub record Memory : Type 0 where
  pub state : List ℕ
  pub store : List ℕ

-- the state that one load of the file f left, whatever 65,536 bytes or more were there before
pub record Start (f : List ℕ) : Type 0 where
  pub before : List ℕ
  pub enough : state_size ≤ length before
  pub verdict : Verdict
  pub state : List ℕ
  pub load : Loaded f verdict before state

-- the memory that a run starts with: that state, and a store
abbrev pub loaded : {f : List ℕ} → Start f → List ℕ → Memory
loaded a store = record { state = a.state; store = store }

unfoldable pub number : Memory → Call → ℕ
number m (opens p u l) = open_number m.state p u l
number m (closes p) = close_number m.state p
number m (takes p r) = take_number m.state p r
number m (drops p r) = drop_number m.state p r
number m (reads p o k n) = read_number m.state m.store p o k n
number m (writes p o k bytes) = write_number m.state m.store p o k bytes

-- the bytes of the part that a read answered with this number hands back; the other calls hand back none
unfoldable pub part_of : ℕ → List ℕ → Call → List ℕ
part_of told store (opens p u l) = []
part_of told store (closes p) = []
part_of told store (takes p r) = []
part_of told store (drops p r) = []
part_of told store (reads p o k n) = part_bytes told store o k n
part_of told store (writes p o k bytes) = []

abbrev pub part : Memory → Call → List ℕ
part m c = part_of (number m c) m.store c

unfoldable pub state_after : Memory → Call → List ℕ
state_after m (opens p u l) = open_state m.state p u l
state_after m (closes p) = close_state m.state p
state_after m (takes p r) = take_state m.state p r
state_after m (drops p r) = drop_state m.state p r
state_after m (reads p o k n) = m.state
state_after m (writes p o k bytes) = m.state

-- the store that a call answered with this number leaves
unfoldable pub store_of : ℕ → List ℕ → Call → List ℕ
store_of told store (opens p u l) = store
store_of told store (closes p) = store
store_of told store (takes p r) = store
store_of told store (drops p r) = store
store_of told store (reads p o k n) = store
store_of told store (writes p o k bytes) = part_store told store o k bytes

abbrev pub store_after : Memory → Call → List ℕ
store_after m c = store_of (number m c) m.store c

abbrev pub after : Memory → Call → Memory
after m c = record { state = state_after m c; store = store_after m c }

unfoldable pub run : Memory → List Call → Memory
run m [] = m
run m (c ∷ cs) = run (after m c) cs

-- what a load and then the calls cs left
abbrev pub left : {f : List ℕ} → Start f → List ℕ → List Call → Memory
left a store cs = run (loaded a store) cs
