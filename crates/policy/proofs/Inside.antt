-- What the lines of a file say is about labels, roles and cards that the file counts, and so is what follows from it. Assumes nothing.
use Rattle.std.proofs.Common.{ℕ, zero, suc, ◌<◌, ◌≡◌, ◌⊎◌, inl, inr, ⊎_elim, List, true, arith}
use Rattle.search.specs.Search.{Among}
use Rattle.order.specs.Closure.{Relation, via, closure}
use Rattle.order.proofs.Closure.{ways, same_or_path}
use Rattle.rolefile.specs.Line.{H, D, S, O, line_at, lines}
use Rattle.rolefile.specs.Form.{header, first_limit, second_limit, about}
use Rattle.rolefile.specs.Said.{labels, roles, says, over, above, label_by, card_label}
use Rattle.rolefile.specs.WellFormed.{One, GoodLines, WellFormed}
use Rattle.rolefile.proofs.Formed.{header_counts}
use Rattle.policy.specs.Settings.{dominates, senior, settings, Inside, Bounded}
use Rattle.policy.proofs.Readying.{numbers_known, limits_d, limits_s, limits_o}
use Rattle.policy.proofs.Said.{says_iff, last_of, about_iff}

-- a relation between the things 1 to n alone
abbrev pub Between : ℕ → Relation → Type 0
Between n e = (a b : ℕ) → e a b ≡ true → Among n a × Among n b

module _ (n : ℕ) (e : Relation) (between : Between n e) where
  path_between : (k : ℕ) → Between n (via e k)
  unfolding via
  path_between zero a b h = between a b h
  path_between (suc k) a b h =
      ⊎_elim (path_between k a b) (λ (l, r). ((path_between k a (suc k) l).0, (path_between k (suc k) b r).1)) ((ways e k a b).0 h)

  -- what is none of them is closed with itself alone
  pub closure_between : (a b : ℕ) → closure n e a b ≡ true → (a ≡ b) ⊎ (Among n a × Among n b)
  closure_between a b h = ⊎_elim inl (λ q. inr (path_between n a b q)) ((same_or_path e n a b).0 h)

module _ (f : List ℕ) (good : GoodLines f) where
  said_known : (k x y z : ℕ) → H < k → says f k x y z ≡ true → Among (first_limit (header f) k) x × Among (second_limit (header f) k) y
  said_known k x y z after h =
      let (i, w, (letter, (a, (b, c)))) = (says_iff f k x y z).0 h in
      let g = numbers_known f good k after i w letter in
      (rw (letter, a) at g.one, rw (letter, b) at g.two)

  pub over_between : Between (labels f) (over f)
  over_between a b h = rw ((limits_d (header f)).0, (limits_d (header f)).1) at (said_known D a b 0 (omega arith) h)

  pub above_between : Between (roles f) (above f)
  above_between r q h = rw ((limits_s (header f)).0, (limits_s (header f)).1) at (said_known S r q 0 (omega arith) h)

  -- the label of a thing that has one line of the letter k
  label_known : (k x : ℕ) → H < k → One f k x → Among (second_limit (header f) k) (label_by f k x)
  unfolding label_by
  label_known k x after one = last_of (lines f) (about f k x) (λ i. (line_at f i).b) (Among (second_limit (header f) k))
      (λ i w e. let l = ((about_iff f k x i).0 e).0 in rw l at (numbers_known f good k after i w l).two)
      one.line one.inside one.tells

  pub card_label_known : (o : ℕ) → One f O o → Among (labels f) (card_label f o)
  card_label_known o one = rw (limits_o (header f)).1 at (label_known O o (omega arith) one)

  pub dominates_inside : Inside (labels f) (dominates f)
  unfolding dominates
  dominates_inside = closure_between (labels f) (over f) over_between

  pub senior_inside : Inside (roles f) (senior f)
  unfolding senior
  senior_inside = closure_between (roles f) (above f) above_between

pub file_bounded : (f : List ℕ) → WellFormed f → Bounded (settings f)
file_bounded f form = let c = header_counts f form.sized form.good in record {
  labels = c.labels;
  roles = c.roles;
  users = c.users;
  cards = c.cards;
  dominance = dominates_inside f form.good;
  seniority = senior_inside f form.good;
  card_labels = λ o w. card_label_known f form.good o (form.card o w);
}
