-- Two well-formed files that say the same have one settings and one relation of assignments, so two accepted ones leave one state. Assumes nothing.
use Rattle.std.proofs.Common.{ℕ, ◌<◌, ◌≡◌, refl, sym, ap, subst, ◌∙◌, ⊎_elim, List, Bool, true, false, arith, eq-eqb}
use Rattle.search.specs.Search.{among, Among}
use Rattle.search.proofs.Truth.{among_iff, other_iff, same, untrue}
use Rattle.roleset.specs.Row.{AllBytes}
use Rattle.order.specs.Closure.{Relation, Agree}
use Rattle.rolefile.specs.declared.Line.{Line}
use Rattle.rolefile.specs.declared.Verdict.{Verdict}
use Rattle.rolefile.specs.Line.{H, U, O, fields}
use Rattle.rolefile.specs.Form.{header, first_limit, about}
use Rattle.rolefile.specs.Said.{labels, roles, users, cards, label_by, clearance, card_label, assigned}
use Rattle.rolefile.specs.WellFormed.{OneEach, GoodLines, WellFormed}
use Rattle.policy.specs.Settings.{dominates, senior, settings, Inside, SameLines, SaySame}
use Rattle.policy.specs.Accepted.{Accepted}
use Rattle.policy.specs.Image.{Loaded}
use Rattle.policy.proofs.Outcomes.{accepted_fine}
use Rattle.policy.proofs.Settled.{loads_settle}
use Rattle.policy.proofs.Readying.{numbers_known, limits_u, limits_o}
use Rattle.policy.proofs.Inside.{dominates_inside, senior_inside}
use Rattle.policy.proofs.Said.{about_iff, label_none, label_said, said_label}

-- ---- orders

-- two orders that agree on what they relate beside each thing with itself
inside_same : (n : ℕ) (d e : Relation) → Inside n d → Inside n e → ((a : ℕ) → d a a ≡ true) → ((a : ℕ) → e a a ≡ true) → Agree n n d e → (a b : ℕ) → d a b ≡ e a b
inside_same n d e d-inside e-inside d-itself e-itself agree a b =
    same (d a b) (e a b)
    (λ h. ⊎_elim (λ i. rw i (e-itself b)) (λ (v, w). sym (agree a b v w) ∙ h) (d-inside a b h))
    (λ h. ⊎_elim (λ i. rw i (d-itself b)) (λ (v, w). agree a b v w ∙ h) (e-inside a b h))

dominates_itself : (f : List ℕ) (a : ℕ) → dominates f a a ≡ true
unfolding dominates
dominates_itself f a = rw (eq-eqb a a refl)

senior_itself : (f : List ℕ) (r : ℕ) → senior f r r ≡ true
unfolding senior
senior_itself f r = rw (eq-eqb r r refl)

-- ---- labels

-- a thing that is not counted has no line
no_line_lem : (f : List ℕ) → GoodLines f → (k : ℕ) → H < k → (x : ℕ) → (Among (first_limit (header f) k) x → ⊥) → label_by f k x ≡ 0
no_line_lem f good k after x out =
    label_none f k x (λ i w. untrue (about f k x i) (λ h.
    let (letter, a) = (about_iff f k x i).0 h in
    out (rw (letter, a) at (numbers_known f good k after i w letter).one)))

module _ (f g : List ℕ) (f-good : GoodLines f) (g-good : GoodLines g) (k : ℕ) (after : H < k) (two : fields k ≡ 2) (n : ℕ)
    (f-limit : first_limit (header f) k ≡ n) (g-limit : first_limit (header g) k ≡ n) (f-one : OneEach f k n) (g-one : OneEach g k n) (agree : SameLines k f g) where
  label_same : (x : ℕ) → label_by f k x ≡ label_by g k x
  label_same x = go (among n x) refl
    where
      go : (b : Bool) → among n x ≡ b → label_by f k x ≡ label_by g k x
      go true e =
          let w = (among_iff n x).0 e in
          let y = label_by f k x in
          sym (said_label g k x (g-one x w) (omega arith) two y (sym (agree x y 0) ∙ label_said f k x (f-one x w) (omega arith) two))
      go false e =
          let out = (other_iff false (among_iff n x)).0 e in
          no_line_lem f f-good k after x (λ w. out (rw f-limit at w)) ∙ sym (no_line_lem g g-good k after x (λ w. out (rw g-limit at w)))

-- ---- settings and assignments

module _ (f g : List ℕ) (f-form : WellFormed f) (g-form : WellFormed g) (say : SaySame f g) where
  -- a count of one is that of the other
  count : (field : Line → ℕ) → field (header f) ≡ field (header g)
  count field = ap field say.counts

  dominance : (a b : ℕ) → dominates f a b ≡ dominates g a b
  dominance =
      inside_same (labels f) (dominates f) (dominates g) (dominates_inside f f-form.good)
      (subst (λ n. Inside n (dominates g)) (sym (count (λ l. l.a))) (dominates_inside g g-form.good)) (dominates_itself f) (dominates_itself g) say.dominance

  seniority : (r q : ℕ) → senior f r q ≡ senior g r q
  seniority =
      inside_same (roles f) (senior f) (senior g) (senior_inside f f-form.good)
      (subst (λ n. Inside n (senior g)) (sym (count (λ l. l.b))) (senior_inside g g-form.good)) (senior_itself f) (senior_itself g) say.seniority

  clearances : (u : ℕ) → clearance f u ≡ clearance g u
  unfolding fields
  clearances =
      label_same f g f-form.good g-form.good U (omega arith) refl (users f) (limits_u (header f)).0 ((limits_u (header g)).0 ∙ sym (count (λ l. l.c)))
      f-form.user (subst (OneEach g U) (sym (count (λ l. l.c))) g-form.user) say.clearances

  card_labels_lem : (o : ℕ) → card_label f o ≡ card_label g o
  unfolding fields
  card_labels_lem =
      label_same f g f-form.good g-form.good O (omega arith) refl (cards f) (limits_o (header f)).0 ((limits_o (header g)).0 ∙ sym (count (λ l. l.d)))
      f-form.card (subst (OneEach g O) (sym (count (λ l. l.d))) g-form.card) say.card_labels

  pub same_settings : settings f ≡ settings g
  same_settings = λ i. record {
    labels = count (λ l. l.a) i;
    roles = count (λ l. l.b) i;
    users = count (λ l. l.c) i;
    cards = count (λ l. l.d) i;
    dominates = λ a b. dominance a b i;
    senior = λ r q. seniority r q i;
    clearance = λ u. clearances u i;
    card_label = λ o. card_labels_lem o i;
    permits = λ m r o. say.permissions r o m i;
  }

  pub same_assigned : assigned f ≡ assigned g
  same_assigned = λ i u r. say.assignments u r 0 i

-- ---- one state

pub same_state : (f g : List ℕ) → Accepted f → Accepted g → SaySame f g
    → (v w : Verdict) (xs ys zs : List ℕ) → Loaded f v xs ys → Loaded g w xs zs → AllBytes ys → AllBytes zs → (v ≡ w) × (ys ≡ zs)
same_state f g f-accepted g-accepted say =
    loads_settle f g ((accepted_fine f).1 f-accepted ∙ sym ((accepted_fine g).1 g-accepted))
    (same_settings f g f-accepted.form g-accepted.form say) (same_assigned f g f-accepted.form g-accepted.form say)
