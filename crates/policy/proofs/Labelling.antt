-- The byte that the lines of a section note for a thing is its label, or 255 where several lines give it one. So the bytes tell the lowest thing without
-- just one label, and where there is none, each byte is the label that the file gives. Assumes nothing.
use Rattle.std.proofs.Common.{ℕ, zero, suc, ◌+◌, ◌-◌, ◌≤◌, ◌<◌, Some, None, ◌≡◌, refl, ◌∙◌, List, Bool, true, false, not, cond, arith, add-zero, leb, eqb, eqb-true, le-leb, ne_eqb}
use native.Mathlib.Decide.{dec_lt}
use borrow.Author.Tests.{not-false, lt-leb}
use Rattle.search.specs.Search.{Among, first, thing}
use Rattle.search.proofs.Thing.{thing_none, thing_some}
use Rattle.search.proofs.Found.{first_none, first_agree}
use Rattle.roleset.specs.Row.{Kept}
use Rattle.roleset.proofs.Rows.{kept_both}
use Rattle.rolefile.specs.Line.{H, U, O, lines, part}
use Rattle.rolefile.specs.Form.{fine, refusal, header, first_limit, second_limit, lines_about, not_one, unlabelled, unlabelled_verdict, count}
use Rattle.rolefile.specs.Said.{users, cards, last, label_by}
use Rattle.rolefile.specs.inner.Section.{one, two}
use Rattle.rolefile.proofs.Counts.{count_none}
use Rattle.rolefile.proofs.Sections.{Section, count_about, label_section}
use Rattle.rolefile.specs.WellFormed.{GoodLines}
use Rattle.policy.specs.Tables.{clearances_at, card_labels_at, byte_of}
use Rattle.policy.specs.inner.Filling.{noted, notes, NotedBytes, unlabelled_byte, unlabelled_in}
use Rattle.policy.specs.declared.counts.Counts.{Counts}
use Rattle.policy.specs.inner.Stages.{Ready, Zeros, Noting}
use Rattle.policy.proofs.Fronts.{notes_same}
use Rattle.policy.proofs.Readying.{good_of, counts_of, u_lines, o_lines, one_within, two_within, limits_u, limits_o}

-- ---- one byte

-- the byte for a label l where c lines give one, and l is that of the last, or 0
abbrev byte_for : ℕ → ℕ → ℕ
byte_for c l = cond (leb c 1) l 255

abbrev Given : ℕ → ℕ → Type 0
Given c l = (c ≡ 0 → l ≡ 0) × (1 ≤ c → Among 32 l)

noted_more : (c l t : ℕ) → Given c l → Among 32 t → noted (byte_for c l) t ≡ byte_for (c + 1) t
unfolding noted
noted_more zero l t g w = rw (g.0 refl) (omega arith)
noted_more (suc zero) l t g w = let v = g.1 (omega arith) in rw (ne_eqb l 0 (λ e. omega arith))
noted_more (suc (suc c)) l t g w = rw (lt-leb (suc (suc c)) 1 (omega arith), lt-leb (suc (suc c) + 1) 1 (omega arith))

unlabelled_byte_lem : (c l : ℕ) → Given c l → unlabelled_byte (byte_for c l) ≡ not (eqb c 1)
unlabelled_byte_lem zero l g = rw (g.0 refl)
unlabelled_byte_lem (suc zero) l g =
    let w = g.1 (omega arith) in
    rw (ne_eqb l 0 (λ e. omega arith), ne_eqb l 255 (λ e. omega arith))
unlabelled_byte_lem (suc (suc c)) l g = rw (lt-leb (suc (suc c)) 1 (omega arith), ne_eqb (suc (suc c)) 1 (λ e. omega arith))

module _ (p : List ℕ) (x : ℕ) where
  abbrev names : ℕ → Bool
  names i = eqb (one p i) x

  abbrev Byte : ℕ → ℕ → ℕ → Type 0
  Byte old c l = (old ≡ byte_for c l) × Given c l

  notes_byte : (m : ℕ) → ((i : ℕ) → Among m i → Among 32 (two p i)) → Byte (notes p m x 0) (count m names) (last m names (two p))
  unfolding notes count last
  notes_byte zero h = (refl, (λ e. refl, λ l. absurd (omega arith)))
  notes_byte (suc m) h = go (names (suc m)) (notes p m x 0) (count m names) (last m names (two p)) (notes_byte m (λ i w. h i (omega arith)))
    where
      label : ℕ
      label = two p (suc m)

      go : (b : Bool) (old c l : ℕ) → Byte old c l → Byte (cond b (noted old label) old) (c + cond b 1 0) (cond b label l)
      go true old c l (e, g) =
          let w = h (suc m) (omega arith) in
          (rw e (noted_more c l label g w), (λ z. absurd (omega arith), λ z. w))
      go false old c l s = rw add-zero s

-- ---- a table of bytes, noted from a section of the letter k

-- the bytes tell the lowest of n things without just one label; where there is none, each byte is the file's label, or 0 past those n
pub record Table (f : List ℕ) (k n at size : ℕ) (ys : List ℕ) : Type 0 where
  pub lowest : first n (unlabelled_in ys at) ≡ unlabelled f k n
  pub all : unlabelled f k n ≡ 0 → (x : ℕ) → Among size x → byte_of ys at x ≡ label_by f k x

module _ (f : List ℕ) (good : GoodLines f) {k j m : ℕ} (s : Section f k j m) (after : H < k)
    (n : ℕ) (most : first_limit (header f) k ≡ n) (small : second_limit (header f) k ≤ 32) where
  module _ (x : ℕ) where
    section_byte : Byte (part f j) x (notes (part f j) m x 0) (lines_about f k x) (label_by f k x)
    section_byte =
        rw (count_about f good s x, label_section f good s x)
        (notes_byte (part f j) x m (λ i w. let t = two_within f good s after i w in omega arith))

    -- a number past the file's count has no line
    none_past : n < x → lines_about f k x ≡ 0
    none_past l =
        count_about f good s x
        ∙ (count_none (names (part f j) x) m).1 (λ i w. ne_eqb (one (part f j) i) x (λ e. omega (arith, one_within f good s after i w)))

  noted_table : (at size : ℕ) (ys : List ℕ) → n ≤ size → ((x : ℕ) → Among size x → byte_of ys at x ≡ notes (part f j) m x 0)
      → Table f k n at size ys
  unfolding unlabelled
  noted_table at size ys l bytes = record {
    lowest =
        first_agree (unlabelled_in ys at) (not_one f k) n
        (λ x w. let (e, g) = section_byte x in rw (bytes x (omega arith), e) (unlabelled_byte_lem (lines_about f k x) (label_by f k x) g));
    all = λ z x w. bytes x w ∙ (section_byte x).0 ∙ rw (le-leb (lines_about f k x) 1 (few z x w));
  }
    where
      few : unlabelled f k n ≡ 0 → (x : ℕ) → Among size x → lines_about f k x ≤ 1
      few z x w = elim (dec_lt n x) [
        | yes past ↦ omega (arith, none_past x past)
        | no past ↦
            let single = (first_none (not_one f k) n).0 z x (omega arith) in
            omega (arith, eqb-true (lines_about f k x) 1 (not-false (eqb (lines_about f k x) 1) single))
      ]

-- ---- 6: clearances are noted, and then the labels of cards

pub record Tables (f xs ys : List ℕ) : Type 0 where
  pub user : Table f U (users f) clearances_at 256 ys
  pub card : Table f O (cards f) card_labels_at 512 ys
  pub rest : Kept clearances_at 1808 xs ys

pub tables_of : {f d s u o p a : List ℕ} {n : Counts} → Ready f n d s u o p a → (xs ys zs : List ℕ) → Zeros clearances_at 1808 xs
    → NotedBytes clearances_at 256 u (lines u) xs ys → NotedBytes card_labels_at 512 o (lines o) ys zs
    → Tables f xs zs
tables_of {f} ready xs ys zs clear u o =
    let h = header f in
    let e = ready.lines in
    let good = good_of f e in
    let counts = counts_of f e in
    let users_stand = ready.laid.u_stands in
    let cards_stand = ready.laid.o_stands in
    record {
      user = noted_table f good (u_lines e ready.laid).0 (omega arith) (users f) (limits_u h).0 (omega (arith, (limits_u h).1, counts.labels))
          clearances_at 256 zs counts.users
          (λ x w. o.rest (clearances_at + (x - 1)) (λ l. omega arith)
          ∙ u.bytes x w
          ∙ rw (clear (clearances_at + (x - 1)) (omega arith) (omega arith)) (notes_same users_stand.leads users_stand.front x 0));
      card = noted_table f good (o_lines e ready.laid).0 (omega arith) (cards f) (limits_o h).0 (omega (arith, (limits_o h).1, counts.labels))
          card_labels_at 512 zs counts.cards
          (λ x w. o.bytes x w
          ∙ rw (u.rest (card_labels_at + (x - 1)) (λ l. omega arith), clear (card_labels_at + (x - 1)) (omega arith) (omega arith))
          (notes_same cards_stand.leads cards_stand.front x 0));
      rest = kept_both xs ys zs (omega arith) u.rest o.rest;
    }

-- what the searches find, and what is answered
module _ {f xs ys : List ℕ} (t : Tables f xs ys) where
  pub user_refused : {u : ℕ} → Some u ≡ thing (first (users f) (unlabelled_in ys clearances_at)) → Noting f (refusal 6 1 u) xs ys
  unfolding unlabelled_verdict
  user_refused {u} e = let (q, l) = (thing_some (unlabelled f U (users f)) u).0 (rw t.user.lowest at e) in record {
    answer = rw (← q, ne_eqb u 0 (λ z. omega arith)) refl;
    done = λ z. absurd (omega arith);
    rest = t.rest;
  }

  module _ (none : None ≡ thing (first (users f) (unlabelled_in ys clearances_at))) where
    no_user : unlabelled f U (users f) ≡ 0
    no_user = (thing_none (unlabelled f U (users f))).0 (rw t.user.lowest at none)

    pub card_refused : {o : ℕ} → Some o ≡ thing (first (cards f) (unlabelled_in ys card_labels_at)) → Noting f (refusal 6 2 o) xs ys
    unfolding unlabelled_verdict
    card_refused {o} e = let (q, l) = (thing_some (unlabelled f O (cards f)) o).0 (rw t.card.lowest at e) in record {
      answer = rw (no_user, ← q, ne_eqb o 0 (λ z. omega arith)) refl;
      done = λ z. absurd (omega arith);
      rest = t.rest;
    }

    pub none_refused : None ≡ thing (first (cards f) (unlabelled_in ys card_labels_at)) → Noting f fine xs ys
    unfolding unlabelled_verdict
    none_refused e = let no_card = (thing_none (unlabelled f O (cards f))).0 (rw t.card.lowest at e) in record {
      answer = rw (no_user, no_card) refl;
      done = λ z. record { users = t.user.all no_user; cards = t.card.all no_card };
      rest = t.rest;
    }
