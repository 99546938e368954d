-- Tables of role sets that lines fill: one row changes at a time, and what the lines so far say adds up. Assumes nothing.
use Rattle.std.proofs.Common.{ℕ, zero, suc, ◌+◌, ◌-◌, ◌*◌, ◌≤◌, ◌≡◌, refl, sym, ap, ◌∙◌, inl, inr, Bool, false, ◌&&◌, ◌||◌, List, arith, eqb, length, eq-eqb, ne_eqb, eqb-true}
use mathlib.Core.Bool.{or-false, or_assoc, and_comm, and-false}
use native.Mathlib.Decide.{dec_lt, ℕ_discrete}
use Rattle.search.specs.Search.{among, Among}
use Rattle.search.proofs.Truth.{and-iff, and_when, among_iff, other_iff, same, eqb_swap}
use Rattle.search.proofs.Found.{some_more, some_yet, some_agree}
use Rattle.roleset.specs.Row.{member, row_of, added, joined, Kept, Placed}
use Rattle.roleset.proofs.Rows.{row_kept, other_kept, kept_wider, kept_both, whole_true, zero_row}
use Rattle.order.specs.Closure.{Relation, Agree}
use Rattle.rolefile.specs.inner.Section.{one, two, three, pairs}
use Rattle.order.specs.Table.{related}
use Rattle.policy.specs.declared.rows.Mode.{Mode}
use Rattle.policy.specs.declared.rows.Mode.TheVariants.{Read, Write}
use Rattle.policy.specs.Tables.{seniors_at, readers_at, table_of}
use Rattle.policy.specs.inner.Filling.{mode_number, turned, line_grants, granted_by_lines, Related, GrantedRows, Unites}
use Rattle.policy.specs.inner.Stages.{Zeros}

-- where one row of a table is placed, what stands outside the table stays
module _ (at size x : ℕ) {s : ℕ → Bool} {xs ys : List ℕ} (p : Placed (row_of at x) s xs ys) (w : Among size x) where
  rest_stays : Kept at (at + 16 * size) xs ys
  rest_stays = kept_wider xs ys (omega arith) p.rest

  -- where it gets the roles of `new`, each row has what it had, and row x these too
  pub row_united : (new : ℕ → Bool) → at + 16 * size ≤ length xs → (y r : ℕ) → Among size y → s r ≡ (member xs (row_of at x) r || new r)
      → member ys (row_of at y) r ≡ (member xs (row_of at y) r || (eqb x y && new r))
  row_united new fits y r v e = elim (ℕ_discrete y x) [
    | yes i ↦ rw (i, eq-eqb x x refl) (p.row (omega arith) r ∙ e)
    | no i ↦ rw (ne_eqb x y (λ j. i (sym j))) (other_kept at x xs ys p.rest w.0 y r v.0 i ∙ sym (or-false (member xs (row_of at y) r)))
  ]

-- ---- a pair at a time

-- nothing is said, the same is said by another name, and more is said
module _ (at size : ℕ) (said : Relation) (xs : List ℕ) where
  unites_none : Agree size 128 said (λ x r. false) → Unites at size said xs xs
  unites_none h x r v w = rw (h x r v w) (sym (or-false (member xs (row_of at x) r)))

  unites_as : (told : Relation) (ys : List ℕ) → ((x r : ℕ) → said x r ≡ told x r) → Unites at size said xs ys → Unites at size told xs ys
  unites_as told ys e t x r v w = rw (← (e x r)) (t x r v w)

  unites_more : (more : Relation) (ys zs : List ℕ) → Unites at size said xs ys → Unites at size more ys zs → Unites at size (λ x r. said x r || more x r) xs zs
  unites_more more ys zs t u x r v w = u x r v w ∙ rw (t x r v w) (or_assoc (member xs (row_of at x) r) (said x r) (more x r))

  -- in a table of zeros, just what is said
  pub unites_zeros : (ys : List ℕ) → Unites at size said xs ys → Zeros at (at + 16 * size) xs
      → Agree size 128 (related ys at) said
  unites_zeros ys t zeros x r v w =
      t x r v w ∙ rw (zero_row xs (row_of at x) (λ k l. zeros (row_of at x + k) (omega arith) (omega arith)) r)

pub related_none : (at size : ℕ) (said : Relation) (xs : List ℕ) → Agree size 128 said (λ x r. false) → Related at size said xs xs
related_none at size said xs h = record { rows = unites_none at size said xs h; rest = λ i out. refl }

pub related_as : {at size : ℕ} {said told : Relation} {xs ys : List ℕ} → ((x r : ℕ) → said x r ≡ told x r) → Related at size said xs ys → Related at size told xs ys
related_as {at} {size} {said} {told} {xs} {ys} e t = record { rows = unites_as at size said xs told ys e t.rows; rest = t.rest }

pub related_more : {at size : ℕ} {said more : Relation} {xs ys zs : List ℕ} → Related at size said xs ys → Related at size more ys zs
    → Related at size (λ x r. said x r || more x r) xs zs
related_more {at} {size} {said} {more} {xs} {ys} {zs} t u = record {
  rows = unites_more at size said xs more ys zs t.rows u.rows;
  rest = kept_both xs ys zs (omega arith) t.rest u.rest;
}

-- a role put into the row of thing x
pub related_one : (at size x role : ℕ) (xs ys : List ℕ) → at + 16 * size ≤ length xs → Among size x
    → Placed (row_of at x) (added xs (row_of at x) role) xs ys → Related at size (λ y r. eqb x y && eqb role r) xs ys
related_one at size x role xs ys fits v p = record {
  rows = λ y r w u. row_united at size x p v (eqb role) fits y r w (ap (λ b. member xs (row_of at x) r || b) (its r u));
  rest = rest_stays at size x p v;
}
  where
    its : (r : ℕ) → Among 128 r → (among 128 role && eqb r role) ≡ eqb role r
    its r u =
        rw (eqb_swap r role)
        (same (among 128 role && eqb role r) (eqb role r)
        (λ h. ((and-iff (among 128 role) (eqb role r)).0 h).1)
        (λ h. (and-iff (among 128 role) (eqb role r)).1 ((among_iff 128 role).1 (rw (eqb-true role r h) u), h)))

-- one line more of those that say pairs
pub pairs_more : (p : List ℕ) (i a b x y : ℕ) → a ≡ one p (i + 1) → b ≡ two p (i + 1) → (pairs p i x y || (eqb a x && eqb b y)) ≡ pairs p (i + 1) x y
unfolding pairs
pairs_more p i a b x y ea eb = rw (ea, eb) (sym (some_more (λ k. eqb (one p k) x && eqb (two p k) y) i))

-- and of those whose pairs are turned
module _ (row role : ℕ → ℕ → ℕ) (p : List ℕ) where
  pub turned_more : (i a b x r : ℕ) → a ≡ row (one p (i + 1)) (two p (i + 1)) → b ≡ role (one p (i + 1)) (two p (i + 1))
      → (turned row role p i x r || (eqb a x && eqb b r)) ≡ turned row role p (i + 1) x r
  unfolding turned
  turned_more i a b x r ea eb = rw (ea, eb) (sym (some_more (λ k. eqb (row (one p k) (two p k)) x && eqb (role (one p k) (two p k)) r) i))

  pub turned_none : (x r : ℕ) → turned row role p 0 x r ≡ false
  unfolding turned
  turned_none x r = some_yet _

-- as they stand, and the other way round
pub turned_same : (p : List ℕ) (m x r : ℕ) → turned (λ a b. a) (λ a b. b) p m x r ≡ pairs p m x r
unfolding turned pairs
turned_same p m x r = refl

pub turned_back : (p : List ℕ) (m x r : ℕ) → turned (λ a b. b) (λ a b. a) p m x r ≡ pairs p m r x
unfolding turned pairs
turned_back p m x r = some_agree _ _ m (λ i w. and_comm (eqb (two p i) x) (eqb (one p i) r))

pub pairs_none : (p : List ℕ) (x y : ℕ) → pairs p 0 x y ≡ false
unfolding pairs
pairs_none p x y = some_yet _

-- ---- a card's row at a time

abbrev Said : Type 0
Said = ℕ → ℕ → ℕ → Bool

pub granted_none : (said : Said) (xs : List ℕ) → ((d o r : ℕ) → Among 2 d → Among 512 o → said d o r ≡ false) → GrantedRows said xs xs
granted_none said xs h = record {
  rows = λ d m. unites_none (table_of d) 512 (said d) xs (λ o r v w. h d o r m v);
  rest = λ i out. refl;
}

pub granted_as : {said told : Said} {xs ys : List ℕ} → ((d o r : ℕ) → said d o r ≡ told d o r) → GrantedRows said xs ys → GrantedRows told xs ys
granted_as {said} {told} {xs} {ys} e t = record {
  rows = λ d m. unites_as (table_of d) 512 (said d) xs (told d) ys (e d) (t.rows d m);
  rest = t.rest;
}

pub granted_more : {said more : Said} {xs ys zs : List ℕ} → GrantedRows said xs ys → GrantedRows more ys zs → GrantedRows (λ d o r. said d o r || more d o r) xs zs
granted_more {said} {more} {xs} {ys} {zs} t u = record {
  rows = λ d m. unites_more (table_of d) 512 (said d) xs (more d) ys zs (t.rows d m) (u.rows d m);
  rest = kept_both xs ys zs (omega arith) t.rest u.rest;
}

-- a mode is 1 or 2
pub by_mode_lem : (P : ℕ → Type 0) → P 1 → P 2 → (m : ℕ) → Among 2 m → P m
by_mode_lem P reads writes zero w = absurd (omega arith)
by_mode_lem P reads writes (suc zero) w = reads
by_mode_lem P reads writes (suc (suc zero)) w = writes
by_mode_lem P reads writes (suc (suc (suc m))) w = absurd (omega arith)

pub mode_among : (m : Mode) → Among 2 (mode_number m)
mode_among Read = omega arith
mode_among Write = omega arith

-- the writers' table comes right after the readers'
stands_at : (d : ℕ) → Among 2 d → table_of d ≡ readers_at + 8192 * (d - 1)
stands_at = by_mode_lem (λ d. table_of d ≡ readers_at + 8192 * (d - 1)) refl refl

-- the seniors of a role joined into the card's row of the mode's table
module _ (role card mode : ℕ) (xs ys : List ℕ) (fits : 28688 ≤ length xs) (v : Among 128 role) (w : Among 512 card) (m : Among 2 mode)
    (p : Placed (row_of (table_of mode) card) (joined xs (row_of (table_of mode) card) (row_of seniors_at role)) xs ys) where
  mode_rows : (d : ℕ) → Among 2 d → Unites (table_of d) 512 (line_grants xs role card mode d) xs ys
  mode_rows d n o r u t = elim (ℕ_discrete mode d) [
    | yes e ↦
        rw (← e, eq-eqb mode mode refl)
        (row_united (table_of mode) 512 card p w (λ r. among 128 role && member xs (row_of seniors_at role) r) (omega (arith, stands_at mode m)) o r u
        (rw ((among_iff 128 role).1 v, whole_true xs (row_of seniors_at role) (omega arith))))
    | no e ↦
        rw (ne_eqb mode d e, and-false (eqb card o))
        (row_kept xs ys p.rest (row_of (table_of d) o) r (elim (dec_lt d mode) [
          | yes l ↦ inl (omega (arith, stands_at d n, stands_at mode m))
          | no l ↦ inr (omega (arith, stands_at d n, stands_at mode m))
        ])
        ∙ sym (or-false (member xs (row_of (table_of d) o) r)))
  ]

  pub granted : GrantedRows (line_grants xs role card mode) xs ys
  granted = record {
    rows = mode_rows;
    rest = kept_wider xs ys (omega (arith, stands_at mode m)) p.rest;
  }

-- numbers that are no role's, no card's or no mode's grant nothing
module _ (role card mode : ℕ) (xs : List ℕ) where
  pub no_role : (Among 128 role → ⊥) → GrantedRows (line_grants xs role card mode) xs xs
  no_role h = granted_none _ xs (λ d o r u t. rw ((other_iff false (among_iff 128 role)).1 h, and-false (eqb mode d), and-false (eqb card o)))

  pub no_card : (Among 512 card → ⊥) → GrantedRows (line_grants xs role card mode) xs xs
  no_card h = granted_none _ xs (λ d o r u t. rw (ne_eqb card o (λ e. h (rw e t))))

  pub no_mode : (Among 2 mode → ⊥) → GrantedRows (line_grants xs role card mode) xs xs
  no_mode h = granted_none _ xs (λ d o r u t. rw (ne_eqb mode d (λ e. h (rw e u)), and-false (eqb card o)))

-- one line more; the seniors' rows are as they were
pub granted_line : (xs ys p : List ℕ) (i a b c d o r : ℕ) → a ≡ one p (i + 1) → b ≡ two p (i + 1) → c ≡ three p (i + 1) → Kept readers_at 28688 xs ys
    → (granted_by_lines xs p i d o r || line_grants ys a b c d o r) ≡ granted_by_lines xs p (i + 1) d o r
unfolding granted_by_lines
granted_line xs ys p i a b c d o r ea eb ec kept =
    rw (ap (λ x. granted_by_lines xs p i d o r || (eqb b o && (eqb c d && x))) seniors, ea, eb, ec)
    (sym (some_more (λ k. line_grants xs (one p k) (two p k) (three p k) d o r) i))
  where
    seniors : (among 128 a && member ys (row_of seniors_at a) r) ≡ (among 128 a && member xs (row_of seniors_at a) r)
    seniors = and_when (among 128 a) (λ e.
        let w = (among_iff 128 a).0 e in
        row_kept xs ys kept (row_of seniors_at a) r (inl (omega arith)))

pub granted_yet : (xs p : List ℕ) (d o r : ℕ) → granted_by_lines xs p 0 d o r ≡ false
unfolding granted_by_lines
granted_yet xs p d o r = some_yet _
