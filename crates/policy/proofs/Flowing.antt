-- What is answered of a state and of a slice too short for one; and role flow, card by card, and as a table of role sets. Assumes nothing.
use Rattle.std.proofs.Common.{ℕ, ◌+◌, ◌-◌, ◌*◌, ◌≤◌, ◌<◌, ◌≡◌, refl, sym, ap, ◌∙◌, Bool, true, false, not, ◌&&◌, cond, List, arith, add-sub_cancel, zero-add, leb, eqb, length, get_or, take, get_or-take, le-leb, leb-false, eq-eqb, ne_eqb}
use mathlib.Core.Bool.{and-true, and-false, or-false}
use native.Mathlib.Decide.{ℕ_discrete}
use borrow.Author.Tests.{lt-leb, not-true}
use Rattle.search.specs.Search.{Among, Lowest, some, first}
use Rattle.search.proofs.Truth.{and-iff}
use Rattle.search.proofs.Found.{first_agree, first_none, first_lowest, first_within, some_agree}
use Rattle.roleset.specs.Row.{whole, row_of, member, removed, united, member_after, next_member, RowCopy, Placed}
use Rattle.roleset.proofs.Rows.{row_copy, whole_true, same_bytes}
use Rattle.order.specs.Closure.{Relation, Agree, path, loop, circle}
use Rattle.order.specs.Table.{related, Tabled}
use Rattle.order.proofs.Closure.{circle_agree, loop_circle}
use Rattle.order.proofs.Placing.{placing_more, placing_pass, placing_left}
use Rattle.policy.specs.Tables.{card_count_at, readers_at, writers_at, state_size, is_state, up_to, cards_up_to, flows_by_card, flowing}
use Rattle.policy.specs.inner.Filling.{InEither, past_card, without_loops}

-- ---- whether a slice is a state

module _ (xs : List ℕ) where
  pub no_state : length xs < state_size → is_state xs ≡ false
  no_state l = lt-leb state_size (length xs) l

  pub a_state : state_size ≤ length xs → is_state xs ≡ true
  a_state l = le-leb state_size (length xs) l

  -- what a function that answers so tells of a state
  pub of_state : {r found : ℕ} → state_size ≤ length xs → r ≡ cond (is_state xs) found 0 → r ≡ found
  of_state l e = e ∙ rw (a_state l)

-- ---- the whole state at the front of a slice tells what the slice does

module _ (xs ys : List ℕ) (front : ys ≡ take 65536 xs) where
  pub front_byte : (i : ℕ) → i < 65536 → get_or ys i 0 ≡ get_or xs i 0
  front_byte i l = ap (λ zs. get_or zs i 0) front ∙ get_or-take 65536 xs i 0 l

  front_row : (at r : ℕ) → at + 16 ≤ 65536 → member ys at r ≡ member xs at r
  front_row at r l = same_bytes xs ys at at (λ k m. front_byte (at + k) (omega arith)) r

  pub front_up_to : (at most : ℕ) → at + 2 ≤ 65536 → up_to ys at most ≡ up_to xs at most
  front_up_to at most l = rw (front_byte at (omega arith), front_byte (at + 1) (omega arith))

  front_card : (r q o : ℕ) → Among 512 o → flows_by_card ys r q o ≡ flows_by_card xs r q o
  front_card r q o w =
      rw (
        front_row (row_of writers_at o) r (omega arith),
        front_row (row_of readers_at o) q (omega arith),
        front_row (row_of writers_at o) q (omega arith),
      )

  pub front_flowing : (r q : ℕ) → flowing ys (cards_up_to ys) r q ≡ flowing xs (cards_up_to xs) r q
  unfolding flowing
  front_flowing r q =
      rw (front_up_to card_count_at 512 (omega arith))
      (ap (λ b. not (eqb r q) && b)
      (some_agree (flows_by_card ys r q) (flows_by_card xs r q) (cards_up_to xs) (λ o w. front_card r q o (omega arith))))

-- ---- card by card

module _ (xs : List ℕ) (n r q : ℕ) where
  pub flow_self : r ≡ q → flowing xs n r q ≡ false
  unfolding flowing
  flow_self e = rw (eq-eqb r q e)

  pub flow_other : (r ≡ q → ⊥) → flowing xs n r q ≡ some n (flows_by_card xs r q)
  unfolding flowing
  flow_other ne = rw (ne_eqb r q ne)

-- ---- as a table of role sets at the start of a list: row r has the roles that r flows to

-- rows 1 to i have had their turn: row i + 1 is as it was, and has its turn
module _ (h : Relation) (t u : List ℕ) (i : ℕ) (long : 2048 ≤ length t) (same : length u ≡ length t) (l : i < 128) (done : Tabled 0 i h t u) where
  pub row_left : (q : ℕ) → Among 128 q → member u (16 * i) q ≡ related t 0 (i + 1) q
  row_left q w = rw (add-sub_cancel i 1, zero-add (16 * i)) (rw (zero-add (16 * i)) at (placing_left 0 h t (omega arith) i q u l w done))

  pub row_more : (v : List ℕ) (s : ℕ → Bool) → Placed (16 * i) s u v → ((q : ℕ) → Among 128 q → s q ≡ h (i + 1) q) → Tabled 0 (i + 1) h t v
  row_more v s p new = placing_more 0 h t (omega arith) i s u v l same done (rw (zero-add (16 * i)) p) new

-- the next role of a row that was taken by value
pub next_taken : (xs row : List ℕ) (at i : ℕ) {w : ℕ} → at + 16 ≤ length xs → 16 ≤ length row
    → RowCopy xs at row → w ≡ cond (whole row 0) (next_member row 0 i) 0 → w ≡ next_member xs at i
next_taken xs row at i l m same e =
    e ∙ rw (whole_true row 0 m) (first_agree (member_after row 0 i) (member_after xs at i) 128 (λ r w. rw (row_copy xs row at l same r)))

-- the readers of card o + 1, and the writers put into their row
pub either_row : (xs readers writers row : List ℕ) (o : ℕ) → o < 512 → 28688 ≤ length xs → 16 ≤ length readers
    → RowCopy xs (readers_at + 16 * o) readers → RowCopy xs (writers_at + 16 * o) writers → Placed 0 (united readers 0 writers) readers row → InEither xs (o + 1) row
either_row xs readers writers row o l fits long read write placed q =
    placed.row long q
    ∙ rw (add-sub_cancel o 1, row_copy xs readers (readers_at + 16 * o) (omega arith) read q, row_copy xs writers (writers_at + 16 * o) (omega arith) write q)

-- card o + 1 is passed from one writer to the next: i is the last that has had its turn, and w the next one, or 0
pub record Turn (t u xs : List ℕ) (o i w : ℕ) : Type 0 where
  pub long : 2048 ≤ length t
  pub same : length u ≡ length t
  pub fits : length xs ≡ 65536
  pub card : o < 512
  pub before : i ≤ 128
  pub next : w ≡ next_member xs (writers_at + 16 * o) i
  pub done : Tabled 0 i (past_card t xs (o + 1)) t u

module _ {t u xs : List ℕ} {o i w : ℕ} (turn : Turn t u xs o i w) where
  abbrev Past : Relation
  Past = past_card t xs (o + 1)

  abbrev Writes : ℕ → Bool
  Writes = member xs (writers_at + 16 * o)

  abbrev Later : ℕ → Bool
  Later = member_after xs (writers_at + 16 * o) i

  next_writer : first 128 Later ≡ w
  next_writer = sym turn.next

  pub writer_within : w ≤ 128
  writer_within = rw next_writer at (first_within Later 128)

  -- a row that is no writer's needs no turn
  idle : (r q : ℕ) → Later r ≡ false → i < r → related t 0 r q ≡ Past r q
  idle r q e k = rw (add-sub_cancel o 1, rw (lt-leb r i k) at e) (sym (or-false (related t 0 r q)))

  pub no_writer : w ≡ 0 → Tabled 0 128 Past t u
  no_writer e =
      placing_pass 0 Past t i 128 u (omega arith) (omega arith) turn.done
      (λ r q k m v. idle r q ((first_none Later 128).0 (next_writer ∙ e) r (omega arith)) k)

  module _ (some : w ≡ 0 → ⊥) where
    lowest : Lowest 128 Later w
    lowest = (first_lowest Later 128 w (omega arith)).0 next_writer

    pub writer_ahead : i < w
    writer_ahead = leb-false w i (not-true (leb w i) ((and-iff (not (leb w i)) (Writes w)).0 lowest.holds).0)

    pub writer_more : {v : List ℕ} (others : List ℕ) → Placed (16 * (w - 1)) (united u (16 * (w - 1)) others) u v
        → InEither xs (o + 1) others → Tabled 0 w Past t v
    writer_more {v} others placed either =
        let ahead = writer_ahead in
        let within = writer_within in
        let last : w - 1 + 1 ≡ w = omega arith in
        let passed = placing_pass 0 Past t i (w - 1) u (omega arith) (omega arith) turn.done
        (λ r q k m v. idle r q (lowest.lower r (omega arith) (omega arith)) k) in
        rw last at (row_more Past t u (w - 1) turn.long turn.same (omega arith) passed v _ placed (λ q z.
        rw (
          row_left Past t u (w - 1) turn.long turn.same (omega arith) passed q z,
          last,
          either q,
          add-sub_cancel o 1,
          ((and-iff (not (leb w i)) (Writes w)).0 lowest.holds).1,
        )))

pub loop_removed : (t u : List ℕ) (i q : ℕ) → 2048 ≤ length t → length u ≡ length t → i < 128 → Among 128 q → Tabled 0 i (without_loops t) t u
    → removed u (16 * i) (i + 1) q ≡ without_loops t (i + 1) q
loop_removed t u i q long same l w done = rw (row_left (without_loops t) t u i long same l done q w)

-- a table that says which role may write one of the first m cards that which role may read or write
module _ (xs t : List ℕ) (m : ℕ) (said : Agree 128 128 (related t 0) (λ r q. some m (flows_by_card xs r q))) where
  -- has the flow among the first m cards, once no role is related to itself
  pub without_loops_flows : Agree 128 128 (without_loops t) (flowing xs m)
  without_loops_flows r q v w = elim (ℕ_discrete r q) [
    | yes e ↦ rw (eq-eqb q r (sym e)) (and-false (related t 0 r q) ∙ sym (flow_self xs m r q e))
    | no e ↦ rw (ne_eqb q r (λ i. e (sym i))) (and-true (related t 0 r q) ∙ said r q v w ∙ sym (flow_other xs m r q e))
  ]

-- among no roles there is no circle
pub no_circles : (n : ℕ) (b : Bool) (r : Relation) → n ≡ 0 → cond b (loop n r) 0 ≡ 0
unfolding first
no_circles n true r e = rw e
no_circles n false r e = refl

-- the circles of flow by a table that has it, as the lowest on one is answered for n roles
pub flow_circles : (xs t v : List ℕ) (m n : ℕ) → Agree 128 128 (related t 0) (flowing xs m)
    → 2048 ≤ length t → length v ≡ length t → n ≤ 128 → Tabled 0 n (path n (related t 0)) t v
    → cond (leb (0 + 2048) (length v)) (loop n (related v 0)) 0 ≡ circle n (flowing xs m)
flow_circles xs t v m n has long kept l closed =
    rw (le-leb (0 + 2048) (length v) (omega arith)) (loop_circle (related t 0) l (closed.rows (omega arith)))
    ∙ circle_agree n 128 (related t 0) (flowing xs m) l (λ a b v w. has a b (omega arith) w)
