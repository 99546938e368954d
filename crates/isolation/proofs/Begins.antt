-- Each accepted file has a state that a load of it may leave, so that no claim about such states is empty: its bytes are written down, table by table. Assumes nothing.
use Prim.Native.Nat.{ℕ, zero, suc, ◌+◌, ◌*◌, ◌-◌, ◌/◌, ◌%◌, ◌^◌, ◌≤◌, ◌<◌}
use mathlib.Core.Path.{◌≡◌, refl, sym, ap, ◌∙◌}
use mathlib.Core.List.{List, ◌∷◌, []}
use mathlib.Core.Bool.{Bool, false, ◌&&◌, cond}
use native.Mathlib.Omega.{arith}
use native.Mathlib.Decide.{ℕ_discrete, dec_lt}
use lib.Bits.{bit_or}
use lib.Dec.{leb, eqb}
use lib.ListN.{length, get_or, replicate, get_or-eq_default}
use borrow.Author.Tests.{le-leb, lt-leb, eq-eqb, ne_eqb}
use Rattle.search.specs.Search.{Among}
use Rattle.search.proofs.Truth.{among_iff, either, either_by}
use Rattle.roleset.specs.Row.{row_of, bit, member, role_byte, role_bit}
use Rattle.roleset.proofs.Bits.{bit_zero, bit_on}
use Rattle.order.specs.Closure.{Relation, Agree}
use Rattle.order.specs.Table.{related}
use Rattle.rolefile.specs.Form.{fine}
use Rattle.rolefile.specs.Said.{assigned}
use Rattle.policy.specs.Settings.{Settings, settings}
use Rattle.policy.specs.Policy.{may, r_level, w_level, level_number}
use Rattle.policy.specs.Tables.{word, byte_of, dominance_at, clearances_at, card_labels_at, r_levels_at, w_levels_at, seniors_at, assigned_at, readers_at, writers_at, mark_at}
use Rattle.policy.specs.Accepted.{Accepted}
use Rattle.policy.specs.Image.{Dominating, Unused, Assigning, Describes, Image, load_verdict}
use Rattle.policy.proofs.Outcomes.{accepted_fine}
use Rattle.monitor.specs.Runs.{Start}

-- ---- a list by its bytes

listed : ℕ → (ℕ → ℕ) → List ℕ
listed zero g = []
listed (suc n) g = g 0 ∷ listed n (λ i. g (suc i))

length_listed : (n : ℕ) (g : ℕ → ℕ) → length (listed n g) ≡ n
unfolding listed
length_listed zero g = refl
length_listed (suc n) g = ap suc (length_listed n (λ i. g (suc i)))

get_d_listed : (n : ℕ) (g : ℕ → ℕ) (i : ℕ) → i < n → get_or (listed n g) i 0 ≡ g i
unfolding listed
get_d_listed zero g i l = absurd (omega arith)
get_d_listed (suc n) g zero l = refl
get_d_listed (suc n) g (suc i) l = get_d_listed n (λ j. g (suc j)) i (omega arith)

-- ---- a byte by its bits

packed : ℕ → (ℕ → Bool) → ℕ
packed zero s = 0
packed (suc n) s = cond (s n) (bit_or (packed n s) (1 * 2 ^ n % 256)) (packed n s)

module _ (s : ℕ → Bool) where
  high_bit : (n : ℕ) → n ≤ 8 → (j : ℕ) → n ≤ j → bit (packed n s) j ≡ false
  unfolding packed
  high_bit zero m j l = bit_zero j
  high_bit (suc n) m j l =
      let e = high_bit n (omega arith) j (omega arith) in
      either (λ x. bit x j ≡ false) (s n) _ _ (bit_on (packed n s) n (omega arith) j ∙ rw (ne_eqb j n (λ i. omega arith)) e) e

  low_bit : (n : ℕ) → n ≤ 8 → (j : ℕ) → j < n → bit (packed n s) j ≡ s j
  unfolding packed
  low_bit zero m j l = absurd (omega arith)
  low_bit (suc n) m j l = elim (ℕ_discrete j n) [
    | yes e ↦ rw e (either_by (λ x. bit x n ≡ s n) (s n) _ _
        (λ h. bit_on (packed n s) n (omega arith) n ∙ rw (eq-eqb n n refl) (sym h))
        (λ h. high_bit n (omega arith) n (omega arith) ∙ sym h))
    | no e ↦
        let h = low_bit n (omega arith) j (omega arith) in
        either (λ x. bit x j ≡ s j) (s n) _ _ (bit_on (packed n s) n (omega arith) j ∙ rw (ne_eqb j n e) h) h
  ]

-- ---- bytes by tables: size bytes from `at` on are g's, the others are the rest's

table : ℕ → ℕ → (ℕ → ℕ) → (ℕ → ℕ) → ℕ → ℕ
table at size g rest i = cond (leb at i && leb (i + 1) (at + size)) (g (i - at)) (rest i)

module _ (at size : ℕ) (g rest : ℕ → ℕ) (i : ℕ) where
  table_in : at ≤ i → i < at + size → table at size g rest i ≡ g (i - at)
  unfolding table
  table_in l m = rw (le-leb at i l, le-leb (i + 1) (at + size) (omega arith))

  table_before : i < at → table at size g rest i ≡ rest i
  unfolding table
  table_before l = rw (lt-leb at i l)

  table_after : at + size ≤ i → table at size g rest i ≡ rest i
  unfolding table
  table_after l = rw (le-leb at i (omega arith), lt-leb (i + 1) (at + size) (omega arith))

-- ---- the state of a file

module _ (σ : Settings) (α : Relation) where
  -- four counts, two bytes each, the lower first
  counts : ℕ → ℕ
  counts i =
      cond (eqb i 0) (σ.labels % 256) (cond (eqb i 1) (σ.labels / 256) (cond (eqb i 2) (σ.roles % 256) (cond (eqb i 3) (σ.roles / 256)
      (cond (eqb i 4) (σ.users % 256) (cond (eqb i 5) (σ.users / 256) (cond (eqb i 6) (σ.cards % 256) (σ.cards / 256)))))))

  -- a table of role sets: row x holds r where `said x r`
  rows : (ℕ → ℕ → Bool) → ℕ → ℕ
  rows said i = packed 8 (λ j. said (i / 16 + 1) (8 * (i % 16) + j + 1))

  marks : ℕ → ℕ
  marks i = cond (leb (i / 32 + 1) σ.labels && σ.dominates (i / 32 + 1) (i % 32 + 1)) 1 0

  abbrev from-writers : ℕ → ℕ
  from-writers = table writers_at 8192 (rows (λ o r. may σ 2 r o)) (λ i. 0)

  abbrev from-readers : ℕ → ℕ
  from-readers = table readers_at 8192 (rows (λ o r. may σ 1 r o)) from-writers

  abbrev from-assigned : ℕ → ℕ
  from-assigned = table assigned_at 4096 (rows α) from-readers

  abbrev from-seniors : ℕ → ℕ
  from-seniors = table seniors_at 2048 (rows (λ q r. leb q σ.roles && σ.senior r q)) from-assigned

  abbrev from-w-levels : ℕ → ℕ
  from-w-levels = table w_levels_at 128 (λ i. level_number (w_level σ (i + 1))) from-seniors

  abbrev from-r-levels : ℕ → ℕ
  from-r-levels = table r_levels_at 128 (λ i. level_number (r_level σ (i + 1))) from-w-levels

  abbrev from-card-labels : ℕ → ℕ
  from-card-labels = table card_labels_at 512 (λ i. σ.card_label (i + 1)) from-r-levels

  abbrev from-clearances : ℕ → ℕ
  from-clearances = table clearances_at 256 (λ i. σ.clearance (i + 1)) from-card-labels

  abbrev from-dominance : ℕ → ℕ
  from-dominance = table dominance_at 1024 marks from-clearances

  byte : ℕ → ℕ
  byte = table 0 8 counts from-dominance

  state : List ℕ
  state = listed 65536 byte

  -- ---- each byte by its table

  module _ (i : ℕ) where
    past_counts : 8 ≤ i → byte i ≡ from-dominance i
    unfolding byte
    past_counts l = table_after 0 8 counts from-dominance i (omega arith)

    past_dominance : 1040 ≤ i → byte i ≡ from-clearances i
    past_dominance l = past_counts (omega arith) ∙ table_after dominance_at 1024 _ from-clearances i (omega arith)

    past_clearances : 1296 ≤ i → byte i ≡ from-card-labels i
    past_clearances l = past_dominance (omega arith) ∙ table_after clearances_at 256 _ from-card-labels i (omega arith)

    past_card_labels : 1808 ≤ i → byte i ≡ from-r-levels i
    past_card_labels l = past_clearances (omega arith) ∙ table_after card_labels_at 512 _ from-r-levels i (omega arith)

    past_r_levels : 1936 ≤ i → byte i ≡ from-w-levels i
    past_r_levels l = past_card_labels (omega arith) ∙ table_after r_levels_at 128 _ from-w-levels i (omega arith)

    past_w_levels : 2064 ≤ i → byte i ≡ from-seniors i
    past_w_levels l = past_r_levels (omega arith) ∙ table_after w_levels_at 128 _ from-seniors i (omega arith)

    past_seniors : 4112 ≤ i → byte i ≡ from-assigned i
    past_seniors l = past_w_levels (omega arith) ∙ table_after seniors_at 2048 _ from-assigned i (omega arith)

    past_assigned : 8208 ≤ i → byte i ≡ from-readers i
    past_assigned l = past_seniors (omega arith) ∙ table_after assigned_at 4096 _ from-readers i (omega arith)

    past_readers : 20496 ≤ i → byte i ≡ from-writers i
    past_readers l = past_assigned (omega arith) ∙ table_after readers_at 8192 _ from-writers i (omega arith)

    -- before a table and all after it
    none_before : i < 12304 → from-readers i ≡ 0
    none_before l = table_before readers_at 8192 _ from-writers i l ∙ table_before writers_at 8192 _ (λ k. 0) i (omega arith)

    none_at_all : i < 16 → from-dominance i ≡ 0
    none_at_all l =
        table_before dominance_at 1024 _ from-clearances i l ∙ table_before clearances_at 256 _ from-card-labels i (omega arith)
        ∙ table_before card_labels_at 512 _ from-r-levels i (omega arith) ∙ table_before r_levels_at 128 _ from-w-levels i (omega arith)
        ∙ table_before w_levels_at 128 _ from-seniors i (omega arith) ∙ table_before seniors_at 2048 _ from-assigned i (omega arith)
        ∙ table_before assigned_at 4096 _ from-readers i (omega arith) ∙ none_before (omega arith)

    unused : Unused i → byte i ≡ 0
    unused (a, b, c) = elim (dec_lt i 16) [
      | yes l ↦ past_counts a ∙ none_at_all l
      | no l ↦ elim (dec_lt i 12304) [
        | yes m ↦ past_assigned (b (omega arith)) ∙ none_before m
        | no m ↦
            let far = c (omega arith) in
            past_readers (omega arith) ∙ table_after writers_at 8192 _ (λ k. 0) i (omega arith)
      ]
    ]

  at : (i : ℕ) → i < 65536 → get_or state i 0 ≡ byte i
  unfolding state
  at i l = get_d_listed 65536 byte i l

  -- ---- the tables

  count : (i : ℕ) → i < 8 → get_or state i 0 ≡ counts i
  unfolding byte
  count i l = at i (omega arith) ∙ table_in 0 8 counts from-dominance i (omega arith) (omega arith) ∙ ap counts (let z : i - 0 ≡ i = omega arith in z)

  member_row : (base size : ℕ) (said : ℕ → ℕ → Bool) → base + 16 * size ≤ 65536
      → ((i : ℕ) → base ≤ i → i < base + 16 * size → byte i ≡ rows said (i - base))
      → Agree size 128 (related state base) said
  unfolding member rows
  member_row base size said fits told x r v w =
      let i = row_of base x + role_byte r in
      let row : (i - base) / 16 + 1 ≡ x = omega arith in
      let role : 8 * ((i - base) % 16) + role_bit r + 1 ≡ r = omega arith in
      rw ((among_iff 128 r).1 w, at i (omega arith), told i (omega arith) (omega arith), low_bit (λ j. said ((i - base) / 16 + 1) (8 * ((i - base) % 16) + j + 1)) 8 (omega arith) (role_bit r) (omega arith))
      (ap (λ (y : ℕ). said y (8 * ((i - base) % 16) + role_bit r + 1)) row ∙ ap (said x) role)

  word_of : (i n : ℕ) → i + 1 < 8 → counts i ≡ n % 256 → counts (i + 1) ≡ n / 256 → word state i ≡ n
  word_of i n l low high = rw (count i (omega arith), count (i + 1) l, low, high) (omega arith)

  -- a table of bytes
  byte_of_lem : (base size : ℕ) (said : ℕ → ℕ) → base + size ≤ 65536 → ((i : ℕ) → base ≤ i → i < base + size → byte i ≡ said (i - base + 1))
      → (x : ℕ) → Among size x → byte_of state base x ≡ said x
  byte_of_lem base size said fits told x w =
      let i = base + (x - 1) in
      at i (omega arith) ∙ told i (omega arith) (omega arith) ∙ ap said (let z : i - base + 1 ≡ x = omega arith in z)

  dominance_byte : Dominating σ state
  unfolding marks
  dominance_byte a b v w =
      let i = mark_at a b in
      let row : (i - dominance_at) / 32 + 1 ≡ a = omega arith in
      let column : (i - dominance_at) % 32 + 1 ≡ b = omega arith in
      at i (omega arith) ∙ past_counts i (omega arith) ∙ table_in dominance_at 1024 marks from-clearances i (omega arith) (omega arith)
      ∙ ap (λ (y : ℕ). cond {A = ℕ} (leb y σ.labels && σ.dominates y ((i - dominance_at) % 32 + 1)) 1 0) row
      ∙ ap (λ (y : ℕ). cond {A = ℕ} (leb a σ.labels && σ.dominates a y) 1 0) column

  describes : Describes σ state
  unfolding counts
  describes = record {
    counted = record {
      labels = word_of 0 σ.labels (omega arith) refl refl;
      roles = word_of 2 σ.roles (omega arith) refl refl;
      users = word_of 4 σ.users (omega arith) refl refl;
      cards = word_of 6 σ.cards (omega arith) refl refl;
    };
    labelled = record {
      users = byte_of_lem clearances_at 256 σ.clearance (omega arith)
          (λ i l m. past_dominance i (omega arith) ∙ table_in clearances_at 256 _ from-card-labels i l m);
      cards = byte_of_lem card_labels_at 512 σ.card_label (omega arith)
          (λ i l m. past_clearances i (omega arith) ∙ table_in card_labels_at 512 _ from-r-levels i l m);
    };
    dominating = dominance_byte;
    seniors = λ q r v w. member_row seniors_at 128 (λ q r. leb q σ.roles && σ.senior r q) (omega arith)
        (λ i l m. past_w_levels i (omega arith) ∙ table_in seniors_at 2048 _ from-assigned i l (omega arith)) q r v w;
    permitting = record {
      readers = member_row readers_at 512 (λ o r. may σ 1 r o) (omega arith)
          (λ i l m. past_assigned i (omega arith) ∙ table_in readers_at 8192 _ from-writers i l (omega arith));
      writers = member_row writers_at 512 (λ o r. may σ 2 r o) (omega arith)
          (λ i l m. past_readers i (omega arith) ∙ table_in writers_at 8192 _ (λ k. 0) i l (omega arith));
    };
    levelled = record {
      reads = byte_of_lem r_levels_at 128 (λ r. level_number (r_level σ r)) (omega arith)
          (λ i l m. past_card_labels i (omega arith) ∙ table_in r_levels_at 128 _ from-w-levels i l m);
      writes = byte_of_lem w_levels_at 128 (λ r. level_number (w_level σ r)) (omega arith)
          (λ i l m. past_r_levels i (omega arith) ∙ table_in w_levels_at 128 _ from-seniors i l m);
    };
  }

  assigning : Assigning α state
  assigning = member_row assigned_at 256 α (omega arith)
      (λ i l m. past_seniors i (omega arith) ∙ table_in assigned_at 4096 _ from-readers i l (omega arith))

  image : Image σ α state
  image = record { tables = describes; assigning = assigning; unused = λ i out l. at i l ∙ unused i out }

  length_state : length state ≡ 65536
  unfolding state
  length_state = length_listed 65536 byte

-- a load of an accepted file into zeros may leave it
pub start : (f : List ℕ) → Accepted f → Start f
start f accepted = record {
  before = zeros;
  enough = omega arith;
  verdict = fine;
  state = state (settings f) (assigned f);
  load = record {
    answer = unfold load_verdict in rw ((accepted_fine f).1 accepted);
    refused = λ h. absurd (h refl);
    done = λ e. image (settings f) (assigned f);
    rest = λ i l. get_or-eq_default (state (settings f) (assigned f)) 0 {n = i} (rw (length_state (settings f) (assigned f)) l) ∙ sym (get_or-eq_default zeros 0 l);
    long = length_state (settings f) (assigned f);
  };
}
  where
    zeros : List ℕ
    zeros = replicate 65536 0
