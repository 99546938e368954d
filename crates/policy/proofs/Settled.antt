-- A load's outcome is one state: every byte below 65,536 is of a count, of a table or unused, and `Image` says each of these. Assumes nothing.
use Rattle.std.proofs.Common.{ℕ, ◌+◌, ◌-◌, ◌*◌, ◌/◌, ◌%◌, ◌≤◌, ◌<◌, ◌≡◌, refl, sym, ap, subst, ◌∙◌, List, arith, get_or, ext_get_or}
use native.Mathlib.Decide.{dec_lt, ℕ_discrete}
use Rattle.search.specs.Search.{Among}
use Rattle.roleset.specs.Row.{AllBytes, row_of}
use Rattle.roleset.proofs.Rows.{same_row}
use Rattle.order.specs.Closure.{Relation, Agree}
use Rattle.order.specs.Table.{related}
use Rattle.rolefile.specs.declared.Verdict.{Verdict}
use Rattle.rolefile.specs.Said.{assigned}
use Rattle.policy.specs.Settings.{Settings, settings}
use Rattle.policy.specs.Tables.{dominance_at, clearances_at, card_labels_at, r_levels_at, w_levels_at, seniors_at, assigned_at, readers_at, writers_at, mark_at}
use Rattle.policy.specs.Tables.{state_size, word, byte_of}
use Rattle.policy.specs.Verdict.{verdict}
use Rattle.policy.specs.Image.{Unused, Image, load_verdict, Loaded}
use Rattle.policy.proofs.Builds.{Same}

module _ (ys zs : List ℕ) (ys-bytes : AllBytes ys) (zs-bytes : AllBytes zs) where
  -- the bytes from a up to b are the same
  record Settled (a b : ℕ) : Type 0 where
    byte : Same a b zs ys

  infixr 20 ◌and◌
  ◌and◌ : {a b c : ℕ} → Settled a b → Settled b c → Settled a c
  ◌and◌ {b = b} s t = record {
    byte = λ i l m. elim (dec_lt i b) [ yes n ↦ s.byte i l n | no n ↦ t.byte i (omega arith) m ];
  }

  -- the same byte by another name
  moved : (i j : ℕ) → j ≡ i → get_or ys j 0 ≡ get_or zs j 0 → get_or ys i 0 ≡ get_or zs i 0
  moved i j e same = rw (← e) same

  word_settled : (at n : ℕ) → word ys at ≡ n → word zs at ≡ n → Settled at (at + 2)
  word_settled at n p q = record {
    byte = λ i l m. elim (dec_lt i (at + 1)) [
      | yes j ↦ moved i at (omega arith) (omega (arith, ys-bytes at, zs-bytes at))
      | no j ↦ moved i (at + 1) (omega arith) (omega (arith, ys-bytes at, zs-bytes at))
    ];
  }

  bytes_settled : (at size : ℕ) (v : ℕ → ℕ) → ((x : ℕ) → Among size x → byte_of ys at x ≡ v x) → ((x : ℕ) → Among size x → byte_of zs at x ≡ v x)
      → Settled at (at + size)
  bytes_settled at size v p q = record {
    byte = λ i l m.
        let x = i - at + 1 in
        let w : Among size x = omega arith in
        moved i (at + (x - 1)) (omega arith) (p x w ∙ sym (q x w));
  }

  rows_settled : (at size : ℕ) (s : Relation) → Agree size 128 (related ys at) s → Agree size 128 (related zs at) s → Settled at (at + 16 * size)
  rows_settled at size s p q = record {
    byte = λ i l m.
        let x = (i - at) / 16 + 1 in
        let k = (i - at) % 16 in
        let w : Among size x = omega arith in
        moved i (row_of at x + k) (omega arith)
        (same_row zs ys (row_of at x) (row_of at x) zs-bytes ys-bytes (λ r v. p x r w v ∙ sym (q x r w v)) k (omega arith));
  }

  module _ (σ : Settings) (α : Relation) (p : Image σ α ys) (q : Image σ α zs) where
    unused_settled : (a b : ℕ) → ((i : ℕ) → a ≤ i → i < b → Unused i × (i < state_size)) → Settled a b
    unused_settled a b h = record { byte = λ i l m. let (u, n) = h i l m in p.unused i u n ∙ sym (q.unused i u n) }

    counts_settled : Settled 0 8
    counts_settled =
        let y = p.tables.counted in
        let z = q.tables.counted in
        word_settled 0 _ y.labels z.labels and word_settled 2 _ y.roles z.roles
        and word_settled 4 _ y.users z.users and word_settled 6 _ y.cards z.cards

    dominance_settled : Settled dominance_at clearances_at
    dominance_settled = record {
      byte = λ i l m.
          let a = (i - dominance_at) / 32 + 1 in
          let b = (i - dominance_at) % 32 + 1 in
          let v : Among 32 a = omega arith in
          let w : Among 32 b = omega arith in
          moved i (mark_at a b) (omega arith) (p.tables.dominating a b v w ∙ sym (q.tables.dominating a b v w));
    }

    state_settled : Settled 0 state_size
    state_settled =
        let y = p.tables in
        let z = q.tables in
        counts_settled
        and unused_settled 8 16 (λ i l m. omega arith)
        and dominance_settled
        and bytes_settled clearances_at 256 _ y.labelled.users z.labelled.users
        and bytes_settled card_labels_at 512 _ y.labelled.cards z.labelled.cards
        and bytes_settled r_levels_at 128 _ y.levelled.reads z.levelled.reads
        and bytes_settled w_levels_at 128 _ y.levelled.writes z.levelled.writes
        and rows_settled seniors_at 128 _ y.seniors z.seniors
        and rows_settled assigned_at 256 _ p.assigning q.assigning
        and unused_settled 8208 12304 (λ i l m. omega arith)
        and rows_settled readers_at 512 _ y.permitting.readers z.permitting.readers
        and rows_settled writers_at 512 _ y.permitting.writers z.permitting.writers
        and unused_settled 28688 state_size (λ i l m. omega arith)

pub image_settles : (σ : Settings) (α : Relation) (ys zs : List ℕ) → Image σ α ys → Image σ α zs → AllBytes ys → AllBytes zs
    → (i : ℕ) → i < 65536 → get_or ys i 0 ≡ get_or zs i 0
image_settles σ α ys zs p q ys-bytes zs-bytes i l = (state_settled ys zs ys-bytes zs-bytes σ α p q).byte i (omega arith) l

-- two loads over the same bytes, of files that cannot be told apart
pub loads_settle : (f g : List ℕ) → verdict f ≡ verdict g → settings f ≡ settings g → assigned f ≡ assigned g
    → (v w : Verdict) (xs ys zs : List ℕ) → Loaded f v xs ys → Loaded g w xs zs → AllBytes ys → AllBytes zs → (v ≡ w) × (ys ≡ zs)
unfolding load_verdict
loads_settle f g judged said staffed v w xs ys zs p q ys-bytes zs-bytes =
    let same : v ≡ w = p.answer ∙ rw judged (sym q.answer) in
    let number : v.number ≡ w.number = ap (λ (u : Verdict). u.number) same in
    let image : w.number ≡ 0 → Image (settings f) (assigned f) zs =
    λ e. subst (λ σ. Image σ (assigned f) zs) (sym said) (subst (λ α. Image (settings g) α zs) (sym staffed) (q.done e)) in (
      same,
      elim (ℕ_discrete v.number 0) [
        | yes e ↦ ext_get_or 0 ys zs (p.long ∙ sym q.long) (λ i l. elim (dec_lt i state_size) [
          | yes m ↦ image_settles (settings f) (assigned f) ys zs (p.done e) (image (sym number ∙ e)) ys-bytes zs-bytes i m
          | no m ↦ p.rest i (omega arith) ∙ sym (q.rest i (omega arith))
        ])
        | no n ↦ p.refused n ∙ sym (q.refused (λ e. n (number ∙ e)))
      ],
    )

pub loaded_once : (f : List ℕ) (v w : Verdict) (xs ys zs : List ℕ) → Loaded f v xs ys → Loaded f w xs zs
    → AllBytes ys → AllBytes zs → (v ≡ w) × (ys ≡ zs)
loaded_once f = loads_settle f f refl refl refl
