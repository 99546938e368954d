-- What a policy says and no call changes: counts, the two orders, labels and permissions. Who is assigned to which role stands beside it, as a relation. The file f has the settings
-- `settings f` and the assignments `assigned f`. Levels, flow, a state's tables, the rules of sessions and the two runs are of any settings. Assumes nothing.
use Rattle.std.specs.Prelude.{ℕ, ◌≤◌, ◌≡◌, ◌⊎◌, List, Bool, true}
use Rattle.search.specs.Search.{Among}
use Rattle.order.specs.Closure.{Relation, closure, Agree}
use Rattle.rolefile.specs.Line.{U, O, P, A}
use Rattle.rolefile.specs.Form.{header, label_limit, role_limit, user_limit, card_limit}
use Rattle.rolefile.specs.Said.{labels, roles, users, cards, says, over, above, clearance, card_label, permits}

pub record Settings : Type 0 where
  pub labels : ℕ
  pub roles : ℕ
  pub users : ℕ
  pub cards : ℕ
  -- label a dominates label b, and role r is senior to role q, by any number of steps, none included
  pub dominates : Relation
  pub senior : Relation
  pub clearance : ℕ → ℕ
  pub card_label : ℕ → ℕ
  -- a line of role r's own lets it read (m = 1) or write (m = 2) card o: `permits m r o`
  pub permits : ℕ → ℕ → ℕ → Bool

-- "Dominance is the reflexive, transitive closure of the D lines, and seniority that of the S lines"
unfoldable pub dominates : List ℕ → Relation
dominates f = closure (labels f) (over f)

unfoldable pub senior : List ℕ → Relation
senior f = closure (roles f) (above f)

abbrev pub settings : List ℕ → Settings
settings f = record {
  labels = labels f;
  roles = roles f;
  users = users f;
  cards = cards f;
  dominates = dominates f;
  senior = senior f;
  clearance = clearance f;
  card_label = card_label f;
  permits = permits f;
}

-- ---- what a state has room for

-- a thing past the n is related to itself alone
abbrev pub Inside : ℕ → Relation → Type 0
Inside n ge = (a b : ℕ) → ge a b ≡ true → (a ≡ b) ⊎ (Among n a × Among n b)

-- the counts are within the limits of 3, and orders and card labels are of things that are counted; a well-formed file's settings are so (`file_bounded` under proofs/)
pub record Bounded (σ : Settings) : Type 0 where
  pub labels : Among label_limit σ.labels
  pub roles : σ.roles ≤ role_limit
  pub users : σ.users ≤ user_limit
  pub cards : σ.cards ≤ card_limit
  pub dominance : Inside σ.labels σ.dominates
  pub seniority : Inside σ.roles σ.senior
  pub card_labels : (o : ℕ) → Among σ.cards o → Among σ.labels (σ.card_label o)

-- ---- two files that say the same; they have one settings and one relation of assignments (`same_settings` and `same_assigned` under proofs/)

abbrev pub SameLines : ℕ → List ℕ → List ℕ → Type 0
SameLines k f g = (x y z : ℕ) → says f k x y z ≡ says g k x y z

-- document 02's "same counts, dominance and seniority and the same U, O, P and A lines"
pub record SaySame (f g : List ℕ) : Type 0 where
  pub counts : header f ≡ header g
  pub dominance : Agree (labels f) (labels f) (dominates f) (dominates g)
  pub seniority : Agree (roles f) (roles f) (senior f) (senior g)
  pub clearances : SameLines U f g
  pub card_labels : SameLines O f g
  pub permissions : SameLines P f g
  pub assignments : SameLines A f g
