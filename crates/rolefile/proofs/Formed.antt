-- The tests of a role file's form as properties: a file has none of the refusals 1 to 6 just where it is well-formed, and else the one that is told.
-- Assumes nothing.
use Rattle.std.proofs.Common.{ℕ, ◌-◌, ◌%◌, ◌≤◌, ◌<◌, ◌≡◌, refl, ◌↔◌, ◌⊎◌, inl, inr, List, Bool, true, false, arith, eqb, length, eqb-true, eq-eqb}
use borrow.Author.Tests.{not-true, not-false}
use Rattle.search.specs.Search.{Among}
use Rattle.search.proofs.Truth.{eqb_iff, leb_iff, ltb_iff, and_both, or_both, implies_both, among_iff, other_iff}
use Rattle.search.proofs.Found.{first_none_of}
use Rattle.rolefile.specs.declared.Line.{Line}
use Rattle.rolefile.specs.declared.Verdict.{Verdict}
use Rattle.rolefile.specs.Line.{line_length, H, U, O, P, line_at, lines}
use Rattle.rolefile.specs.Form.{length_limit, label_limit, role_limit, user_limit, card_limit, mode_limit}
use Rattle.rolefile.specs.Form.{refusal, sized, header, good_counts, first_limit, second_limit, ranged, before, rises, head_verdict, body_verdict, line_verdict, about, unlabelled, found, unlabelled_verdict, lines_verdict, form_verdict, within_limits, lines_about, not_one}
use Rattle.rolefile.specs.Said.{users, cards}
use Rattle.rolefile.specs.WellFormed.{Sized, GoodCounts, GoodNumbers, Before, Rises, GoodHead, GoodBody, GoodLine, GoodLines, LineRefused, no_header, bad_counts, malformed, bad_numbers, unordered, One, OneEach, LowestUnlabelled, WellFormed}
use Rattle.rolefile.proofs.Decides.{Decides, Fails, Else, Earliest, decides_as, decides_when}
use Rattle.rolefile.proofs.Decides.{then_decides, cond_decides, test_decides, unless_decides, search_decides, scan_decides}
use Rattle.rolefile.proofs.Counts.{count_one}

-- ---- 1

pub sized_iff : (f : List ℕ) → (sized f ≡ true) ↔ Sized f
unfolding sized
sized_iff f =
    let t = and_both (leb_iff 1 (length f)) (and_both (eqb_iff (length f % line_length) 0) (leb_iff (length f) length_limit)) in (
      λ e. let (p, (q, r)) = t.0 e in record { some = p; whole = q; short = r },
      λ s. t.1 (s.some, (s.whole, s.short)),
    )

-- ---- 2 to 5

pub limits_iff : (a b c d : ℕ) → (within_limits a b c d ≡ true) ↔ (Among label_limit a × ((b ≤ role_limit) × ((c ≤ user_limit) × (d ≤ card_limit))))
limits_iff a b c d = and_both (among_iff label_limit a) (and_both (leb_iff b role_limit) (and_both (leb_iff c user_limit) (leb_iff d card_limit)))

good_counts_iff : (h : Line) → (good_counts h ≡ true) ↔ GoodCounts h
unfolding good_counts
good_counts_iff h =
    let t = limits_iff h.a h.b h.c h.d in (
      λ e. let (p, (q, (r, s))) = t.0 e in record { labels = p; roles = q; users = r; cards = s },
      λ g. t.1 (g.labels, (g.roles, (g.users, g.cards))),
    )

ranged_iff : (h l : Line) → (ranged h l ≡ true) ↔ GoodNumbers h l
unfolding ranged
ranged_iff h l =
    let one = among_iff (first_limit h l.letter) l.a in
    let two = among_iff (second_limit h l.letter) l.b in
    let t = and_both one (and_both two (implies_both (eqb_iff l.letter P) (among_iff mode_limit l.c))) in (
      λ e. let (p, (q, r)) = t.0 e in record { one = p; two = q; mode = r },
      λ g. t.1 (g.one, (g.two, g.mode)),
    )

before_iff : (x y : ℕ) {t : Bool} {R : Type 0} → ((t ≡ true) ↔ R) → (before x y t ≡ true) ↔ Before x y R
before_iff x y h = or_both (ltb_iff x y) (and_both (eqb_iff x y) h)

rises_iff : (p l : Line) → (rises p l ≡ true) ↔ Rises p l
unfolding rises
rises_iff p l = before_iff p.letter l.letter (before_iff p.a l.a (before_iff p.b l.b (ltb_iff p.c l.c)))

-- why line 1 is refused, and why another line is
abbrev HeadRefusal : Line → Verdict → Type 0
HeadRefusal l = Else (Fails (l.letter ≡ H) (refusal 2 1 0)) (l.letter ≡ H) (Fails (GoodCounts l) (refusal 3 1 0))

head_decides : (l : Line) → Decides (head_verdict l) (GoodHead l) (HeadRefusal l)
unfolding head_verdict
head_decides l =
    decides_when
    (unless_decides (eqb_iff l.letter H) (refusal 2 1 0) (omega arith) (λ e.
    test_decides (good_counts_iff l) (refusal 3 1 0) (omega arith)))
    (λ (e, c). record { letter = e; counts = c }, λ g. (g.letter, g.counts))

abbrev BodyRefusal : Line → Line → ℕ → Line → Verdict → Type 0
BodyRefusal h p k l =
    Else (Fails (H < l.letter) (refusal 2 k 0)) (H < l.letter)
    (Else (Fails (GoodNumbers h l) (refusal 4 k 0)) (GoodNumbers h l)
    (Fails (Rises p l) (refusal 5 k 0)))

body_decides : (h p : Line) (k : ℕ) (l : Line) → Decides (body_verdict h p k l) (GoodBody h p l) (BodyRefusal h p k l)
unfolding body_verdict
body_decides h p k l =
    decides_when
    (unless_decides (ltb_iff H l.letter) (refusal 2 k 0) (omega arith) (λ e.
    unless_decides (ranged_iff h l) (refusal 4 k 0) (omega arith) (λ g.
    test_decides (rises_iff p l) (refusal 5 k 0) (omega arith))))
    (λ (e, (n, r)). record { letter = e; numbers = n; order = r }, λ g. (g.letter, (g.numbers, g.order)))

abbrev LineRefusal : List ℕ → ℕ → Verdict → Type 0
LineRefusal f k x = (n : ℕ) × LineRefused f k n × (x ≡ refusal n k 0)

module _ (f : List ℕ) (k : ℕ) where
  abbrev Either : Verdict → Type 0
  Either x =
      ((k ≡ 1) × HeadRefusal (header f) x)
      ⊎ ((k ≡ 1 → ⊥) × BodyRefusal (header f) (line_at f (k - 1)) k (line_at f k) x)

  refused : (x : Verdict) → Either x → LineRefusal f k x
  refused x (inl (i, inl (h, e))) = (2, no_header i (rw i h), rw i e)
  refused x (inl (i, inr (l, (h, e)))) = (3, bad_counts i (rw i l) (rw i h), rw i e)
  refused x (inr (i, inl (h, e))) = (2, malformed i (omega arith), e)
  refused x (inr (i, inr (l, inl (h, e)))) = (4, bad_numbers i l h, e)
  refused x (inr (i, inr (l, inr (g, (h, e))))) = (5, unordered i l g h, e)

  refusing : {n : ℕ} → LineRefused f k n → Either (refusal n k 0)
  refusing (no_header i h) = inl (i, inl (rw i at h, rw i))
  refusing (bad_counts i l h) = inl (i, inr (rw i at l, (rw i at h, rw i)))
  refusing (malformed i h) = inr (i, inl (omega arith, refl))
  refusing (bad_numbers i l h) = inr (i, inr (l, inl (h, refl)))
  refusing (unordered i l g h) = inr (i, inr (l, inr (g, (h, refl))))

  line_decides : Decides (line_verdict f k) (GoodLine f k) (LineRefusal f k)
  unfolding line_verdict
  line_decides =
      decides_as
      (cond_decides (head_decides (header f)) (eqb_iff k 1) (body_decides (header f) (line_at f (k - 1)) k (line_at f k)))
      (λ (h, b). record { head = h; body = b }, λ g. (g.head, g.body))
      (λ x. (refused x, λ (n, l, e). rw e (refusing l)))

-- the counts of a file whose lines are good
pub header_counts : (f : List ℕ) → Sized f → GoodLines f → GoodCounts (header f)
header_counts f s good = ((good 1 (omega (arith, s.some, s.whole))).head refl).counts

-- 1 to 5 together
abbrev LinesRefusal : List ℕ → Verdict → Type 0
LinesRefusal f = Else (Fails (Sized f) (refusal 1 0 0)) (Sized f) (Earliest (GoodLine f) (LineRefusal f) (lines f))

pub lines_decides : (f : List ℕ) → Decides (lines_verdict f) (Sized f × GoodLines f) (LinesRefusal f)
unfolding lines_verdict
lines_decides f = then_decides (test_decides (sized_iff f) (refusal 1 0 0) (omega arith)) (λ s. scan_decides (line_decides f) (lines f))

-- ---- 6

module _ (f : List ℕ) (k : ℕ) where
  one_iff : (x : ℕ) → (eqb (lines_about f k x) 1 ≡ true) ↔ One f k x
  one_iff x =
      let t = count_one (about f k x) (lines f) in (
        λ e. let (i, (w, h, o)) = t.0 (eqb-true (lines_about f k x) 1 e) in record { line = i; inside = w; tells = h; only = o },
        λ o. eq-eqb (lines_about f k x) 1 (t.1 (o.line, (o.inside, o.tells, o.only))),
      )

  -- why a file is refused for a thing that does not have one line
  abbrev UnlabelledRefusal : ℕ → ℕ → Verdict → Type 0
  UnlabelledRefusal n place v = (x : ℕ) × LowestUnlabelled f k n x × (v ≡ refusal 6 place x)

  unlabelled_decides : (n place : ℕ) → Decides (found (unlabelled f k n) (refusal 6 place (unlabelled f k n))) (OneEach f k n) (UnlabelledRefusal n place)
  unfolding unlabelled
  unlabelled_decides n place = search_decides n (not_one f k) (first_none_of (not_one f k) n has_not) has has_not (refusal 6 place) (λ x. omega arith)
    where
      has : (x : ℕ) → Among n x → (not_one f k x ≡ true) ↔ (One f k x → ⊥)
      has x w =
          let none = other_iff false (one_iff x) in
          (λ e. none.0 (not-true (eqb (lines_about f k x) 1) e), λ h. rw (none.1 h))

      has_not : (x : ℕ) → Among n x → (not_one f k x ≡ false) ↔ One f k x
      has_not x w = (λ e. (one_iff x).0 (not-false (eqb (lines_about f k x) 1) e), λ o. rw ((one_iff x).1 o))

-- ---- the whole form

-- why a file is refused for its form
abbrev pub FormRefusal : List ℕ → Verdict → Type 0
FormRefusal f =
    Else (LinesRefusal f) (Sized f × GoodLines f)
    (Else (UnlabelledRefusal f U (users f) 1) (OneEach f U (users f)) (UnlabelledRefusal f O (cards f) 2))

pub form_decides : (f : List ℕ) → Decides (form_verdict f) (WellFormed f) (FormRefusal f)
unfolding form_verdict unlabelled_verdict
form_decides f =
    decides_when
    (then_decides (lines_decides f) (λ g.
    then_decides (unlabelled_decides f U (users f) 1) (λ u.
    unlabelled_decides f O (cards f) 2))) (
      λ ((s, g), (u, o)). record { sized = s; good = g; user = u; card = o },
      λ w. ((w.sized, w.good), (w.user, w.card)),
    )
