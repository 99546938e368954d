-- The two runs of `Worked`, computed: they fall under demand 3 for label 2, which is shown the same in both; label 4 is not. Assumes nothing.
use Prim.Native.Nat.{ℕ}
use mathlib.Core.Path.{◌≡◌, refl, sym, ap, ◌∙◌}
use mathlib.Core.List.{List, map}
use mathlib.Core.Bool.{false}
use native.Mathlib.Omega.{arith}
use native.Mathlib.Decide.{ℕ_discrete}
use lib.ListN.{length, get_or, replicate, get_or-replicate, get_or-append, length-replicate}
use Rattle.search.specs.Search.{some, every, first}
use Rattle.search.proofs.Truth.{both}
use Rattle.order.specs.Closure.{via}
use Rattle.order.specs.Bound.{upper, is_least, least_of, lub, pair_without_bound, partner_without_bound, lowest_without_bound}
use Rattle.rolefile.specs.Field.{column, columns}
use Rattle.rolefile.specs.Line.{letter_of, fields, formed, line_of, line_at}
use Rattle.rolefile.specs.Form.{fine, scan, sized, good_counts, first_limit, second_limit, ranged, rises, head_verdict, body_verdict, line_verdict}
use Rattle.rolefile.specs.Form.{count, unlabelled, unlabelled_verdict, lines_verdict, form_verdict}
use Rattle.rolefile.specs.Said.{cards, assigned, says, last, label_by, card_label}
use Rattle.policy.specs.Settings.{settings, dominates, senior}
use Rattle.policy.specs.Policy.{may, may_at, level, r_level, w_level}
use Rattle.policy.specs.Verdict.{order_verdict, label_verdict, role_verdict, assign_verdict, assignment_verdict, policy_verdict, verdict}
use Rattle.policy.specs.Accepted.{Accepted}
use Rattle.policy.proofs.Outcomes.{accepted_fine}
use Rattle.monitor.specs.Calls.{unless, if_done, part_at}
use Rattle.monitor.specs.Runs.{Call, Start, loaded, part_of, store_of}
use Rattle.monitor.specs.Rules.{begun, entitled_by, fitting_by, gives_by, open_rule, close_rule, take_rule, drop_rule, part_rule, rule, sessions_after}
use Rattle.monitor.specs.Cases.{bytes}
use Rattle.monitor.proofs.Demand2.{loaded_runs}
use Rattle.isolation.specs.TwoRuns.{Answer, none_open, grants, track, shared, shared_calls, shown, SameCards}
use Rattle.isolation.specs.Worked.{file, first_store, second_store, first_run, second_run, done, low, high_first, high_second}
use Rattle.isolation.proofs.Begins.{start}
use Rattle.isolation.proofs.ByRules.{shown_by, shown_by_lem}

abbrev answers_by : ℕ → List ℕ → List Call → List Answer
answers_by L store cs = map (λ x. x.answer) (shown_by (settings file) L 192 none_open (begun (assigned file)) store cs)

accepted_file : verdict file ≡ fine
unfolding file bytes
    column columns letter_of fields formed line_of line_at
    sized good_counts first_limit second_limit ranged rises head_verdict body_verdict line_verdict scan count unlabelled unlabelled_verdict lines_verdict form_verdict
    says last label_by some every first via upper is_least least_of lub pair_without_bound partner_without_bound lowest_without_bound
    dominates senior may may_at level r_level w_level order_verdict label_verdict role_verdict assign_verdict assignment_verdict policy_verdict verdict
accepted_file = refl

pub accepted : Accepted file
accepted = (accepted_fine file).0 accepted_file

-- the four lists, computed
computed : (answers_by 2 first_store first_run ≡ low) × (answers_by 2 second_store second_run ≡ low)
    × (answers_by 4 first_store first_run ≡ high_first) × (answers_by 4 second_store second_run ≡ high_second)
unfolding file bytes first_store second_store first_run second_run low high_first high_second
    column columns letter_of fields formed line_of line_at says last label_by some every first via upper is_least least_of lub
    dominates senior may may_at level r_level w_level
    unless if_done entitled_by fitting_by gives_by open_rule close_rule take_rule drop_rule part_rule rule sessions_after
    grants track shared part_of store_of shown_by
computed = (refl, refl, refl, refl)

-- ---- the pair falls under demand 3 for label 2

one_list : shared_calls (settings file) 2 none_open first_run ≡ shared_calls (settings file) 2 none_open second_run
unfolding file bytes first_run second_run column columns letter_of fields formed line_of line_at says last label_by some first via dominates grants track shared shared_calls
one_list = refl

one_length : (length first_store ≡ 192) × (length second_store ≡ 192)
unfolding first_store second_store
one_length = (refl, refl)

three_cards : (cards file ≡ 3) × (dominates file 2 (card_label file 3) ≡ false)
unfolding file bytes column columns letter_of fields formed line_of line_at says last label_by some first via dominates
three_cards = (refl, refl)

same_cards : SameCards (settings file) 2 first_store second_store
unfolding first_store second_store
same_cards o i w d l =
    let n = three_cards.0 in
    elim (ℕ_discrete o 3) [
      | yes e ↦ absurd (both d (rw e three_cards.1))
      | no e ↦
          get_or-replicate 192 (part_at o i) 46 0 (omega arith)
          ∙ sym (get_or-append (replicate 128 46) (replicate 64 47) 0 (part_at o i) (rw (length-replicate {A = ℕ} 128 46) (omega arith))
          ∙ get_or-replicate 128 (part_at o i) 46 0 (omega arith))
    ]

-- ---- what each label is shown, from the state that any load of the file left

abbrev answers_of : Start file → ℕ → List ℕ → List Call → List Answer
answers_of a L store cs = map (λ x. x.answer) (shown (settings file) L none_open (loaded a store) cs)

shows : (a : Start file) (L : ℕ) (store : List ℕ) (cs : List Call) → length store ≡ 192 → answers_of a L store cs ≡ answers_by L store cs
shows a L store cs long =
    ap (map (λ x. x.answer))
    (shown_by_lem (settings file) 192 L cs none_open (begun (assigned file)) (loaded a store)
    (rw long at (loaded_runs accepted a store)))

-- label 2 is shown the same, and not refusals alone; label 4, one step higher, is shown more, and not the same
pub record Separated (a b : Start file) : Type 0 where
  pub calls : shared_calls (settings file) 2 none_open first_run ≡ shared_calls (settings file) 2 none_open second_run
  pub stores : (length first_store ≡ length second_store) × SameCards (settings file) 2 first_store second_store
  pub low_answers : (answers_of a 2 first_store first_run ≡ low) × (answers_of b 2 second_store second_run ≡ low)
  pub high_answers : (answers_of a 4 first_store first_run ≡ high_first) × (answers_of b 4 second_store second_run ≡ high_second)
  pub differ : high_first ≡ high_second → ⊥

-- the first byte that the seventh call shown handed back
abbrev seventh : List Answer → ℕ
seventh xs = get_or (get_or xs 6 done).bytes 0 0

pub separated : (a b : Start file) → Separated a b
unfolding high_first high_second
separated a b = record {
  calls = one_list;
  stores = (one_length.0 ∙ sym one_length.1, same_cards);
  low_answers = (shows a 2 first_store first_run one_length.0 ∙ computed.0, shows b 2 second_store second_run one_length.1 ∙ computed.1);
  high_answers = (shows a 4 first_store first_run one_length.0 ∙ computed.2, shows b 4 second_store second_run one_length.1 ∙ computed.3);
  differ = λ e. let z : ◌≡◌ {A = ℕ} 66 67 = ap seventh e in omega arith;
}

-- and there is such a state to start from
pub example : let a = start file accepted in Separated a a
example = let a = start file accepted in separated a a
