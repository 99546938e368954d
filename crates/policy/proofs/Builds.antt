-- The stages of a load put together: the verdict is the first refusal of the stages, and each table stays as its stage left it. Assumes nothing.
use Rattle.std.proofs.Common.{ℕ, ◌+◌, ◌-◌, ◌*◌, ◌≤◌, ◌<◌, ◌≡◌, sym, ◌∙◌, List, arith, get_or}
use Rattle.search.specs.Search.{Among}
use Rattle.roleset.specs.Row.{member, row_of}
use Rattle.roleset.proofs.Rows.{same_bytes}
use Rattle.rolefile.specs.declared.Verdict.{Verdict}
use Rattle.rolefile.specs.Line.{lines}
use Rattle.rolefile.specs.Form.{◌then◌, scan, lines_verdict, unlabelled_verdict, form_verdict}
use Rattle.rolefile.proofs.Verdicts.{Refuses, then_next, then_stop, then_joined}
use Rattle.order.specs.Closure.{Relation}
use Rattle.rolefile.specs.Said.{assigned}
use Rattle.policy.specs.Settings.{Settings, settings}
use Rattle.policy.specs.Verdict.{label_verdict, role_verdict, assignment_verdict, policy_verdict, verdict}
use Rattle.policy.specs.Tables.{clearances_at, card_labels_at, r_levels_at, w_levels_at, seniors_at, assigned_at, readers_at, writers_at, word, mark_at}
use Rattle.policy.specs.Image.{Labelled, Dominating, Seniors, Permitting, Levelled, Assigning, Describes, Image}
use Rattle.policy.specs.inner.Stages.{Zeros, Noting, Ranking, Granting, Finishing, Built}

-- ---- the verdict, stage by stage

module _ (f : List ℕ) where
  stages : verdict f ≡ (lines_verdict f then (unlabelled_verdict f then policy_verdict f))
  unfolding verdict form_verdict
  stages = then_joined (lines_verdict f) (unlabelled_verdict f) (policy_verdict f)

  -- each stage's refusal is the file's where those before refuse nothing
  pub refused_lines : Refuses (lines_verdict f) → lines_verdict f ≡ verdict f
  refused_lines h = sym (stages ∙ then_stop (lines_verdict f) _ h)

  module _ (first : (lines_verdict f).number ≡ 0) where
    from_second : verdict f ≡ (unlabelled_verdict f then policy_verdict f)
    from_second = stages ∙ then_next (lines_verdict f) _ first

    pub refused_labels : Refuses (unlabelled_verdict f) → unlabelled_verdict f ≡ verdict f
    refused_labels h = sym (from_second ∙ then_stop (unlabelled_verdict f) _ h)

    module _ (second : (unlabelled_verdict f).number ≡ 0) where
      from_third : verdict f ≡ (label_verdict f then (role_verdict f then scan (lines f) (assignment_verdict f)))
      unfolding policy_verdict
      from_third = from_second ∙ then_next (unlabelled_verdict f) _ second

      pub refused_order : Refuses (label_verdict f) → label_verdict f ≡ verdict f
      refused_order h = sym (from_third ∙ then_stop (label_verdict f) _ h)

      module _ (third : (label_verdict f).number ≡ 0) where
        from_fourth : verdict f ≡ (role_verdict f then scan (lines f) (assignment_verdict f))
        from_fourth = from_third ∙ then_next (label_verdict f) _ third

        pub refused_roles : Refuses (role_verdict f) → role_verdict f ≡ verdict f
        refused_roles h = sym (from_fourth ∙ then_stop (role_verdict f) _ h)

        pub the_last : (role_verdict f).number ≡ 0 → scan (lines f) (assignment_verdict f) ≡ verdict f
        the_last fourth = sym (from_fourth ∙ then_next (role_verdict f) _ fourth)

-- ---- the tables

-- the bytes from a up to b are the same
abbrev pub Same : ℕ → ℕ → List ℕ → List ℕ → Type 0
Same a b xs ys = (i : ℕ) → a ≤ i → i < b → get_or ys i 0 ≡ get_or xs i 0

module _ (xs ys : List ℕ) where
  rows_stay : (at size : ℕ) → Same at (at + 16 * size) xs ys → (x r : ℕ) → Among size x → member ys (row_of at x) r ≡ member xs (row_of at x) r
  rows_stay at size s x r v = same_bytes xs ys (row_of at x) (row_of at x) (λ k n. s (row_of at x + k) (omega arith) (omega arith)) r

  pub assigning_stays : (α : Relation) → Same 4112 8208 xs ys → Assigning α xs → Assigning α ys
  assigning_stays α s t u r v w = rows_stay assigned_at 256 s u r v ∙ t u r v w

  pub word_stays : (at : ℕ) → Same at (at + 2) xs ys → word ys at ≡ word xs at
  word_stays at s = rw (s at (omega arith) (omega arith), s (at + 1) (omega arith) (omega arith))

module _ (σ : Settings) (xs ys : List ℕ) where
  pub labelled_stays : Same 1040 1808 xs ys → Labelled σ xs → Labelled σ ys
  labelled_stays s t = record {
    users = λ u w. s (clearances_at + (u - 1)) (omega arith) (omega arith) ∙ t.users u w;
    cards = λ o w. s (card_labels_at + (o - 1)) (omega arith) (omega arith) ∙ t.cards o w;
  }

  dominating_stays : Same 16 1040 xs ys → Dominating σ xs → Dominating σ ys
  dominating_stays s t a b v w = s (mark_at a b) (omega arith) (omega arith) ∙ t a b v w

  pub seniors_stay : Same 2064 4112 xs ys → Seniors σ xs → Seniors σ ys
  seniors_stay s t q r v w = rows_stay xs ys seniors_at 128 s q r v ∙ t q r v w

  pub permitting_stays : Same 12304 28688 xs ys → Permitting σ xs → Permitting σ ys
  permitting_stays s t = record {
    readers = λ o r v w. rows_stay xs ys readers_at 512 (λ i l m. s i l (omega arith)) o r v ∙ t.readers o r v w;
    writers = λ o r v w. rows_stay xs ys writers_at 512 (λ i l m. s i (omega arith) m) o r v ∙ t.writers o r v w;
  }

  levelled_stays : Same 1808 2064 xs ys → Levelled σ xs → Levelled σ ys
  levelled_stays s t = record {
    reads = λ r w. s (r_levels_at + (r - 1)) (omega arith) (omega arith) ∙ t.reads r w;
    writes = λ r w. s (w_levels_at + (r - 1)) (omega arith) (omega arith) ∙ t.writes r w;
  }

  -- the tables end at byte 28,688; that of the assignments is none of these
  pub describes_stays : ((i : ℕ) → (4112 ≤ i → 8208 ≤ i) → i < 28688 → get_or ys i 0 ≡ get_or xs i 0) → Describes σ xs → Describes σ ys
  describes_stays s t = record {
    counted = record {
      labels = word_stays xs ys 0 (λ i l m. s i (λ n. omega arith) (omega arith)) ∙ t.counted.labels;
      roles = word_stays xs ys 2 (λ i l m. s i (λ n. omega arith) (omega arith)) ∙ t.counted.roles;
      users = word_stays xs ys 4 (λ i l m. s i (λ n. omega arith) (omega arith)) ∙ t.counted.users;
      cards = word_stays xs ys 6 (λ i l m. s i (λ n. omega arith) (omega arith)) ∙ t.counted.cards;
    };
    labelled = labelled_stays (λ i l m. s i (λ n. omega arith) (omega arith)) t.labelled;
    dominating = dominating_stays (λ i l m. s i (λ n. omega arith) (omega arith)) t.dominating;
    seniors = seniors_stay (λ i l m. s i (λ n. omega arith) (omega arith)) t.seniors;
    permitting = permitting_stays (λ i l m. s i (λ n. omega arith) m) t.permitting;
    levelled = levelled_stays (λ i l m. s i (λ n. omega arith) (omega arith)) t.levelled;
  }

-- ---- from zeros to the image, stage by stage

-- labels and seniors are in, and the other bytes are still 0
pub record Ranked (f s₂ : List ℕ) : Type 0 where
  pub labelled : Labelled (settings f) s₂
  pub seniors : Seniors (settings f) s₂
  pub zeros : (i : ℕ) → (1040 ≤ i → 1808 ≤ i) → (2064 ≤ i → 4112 ≤ i) → i < 65536 → get_or s₂ i 0 ≡ 0

pub ranked_of : {f xs s₁ s₂ : List ℕ} {v w : Verdict} → Zeros 0 65536 xs → Noting f v xs s₁ → v.number ≡ 0 → Ranking f w s₁ s₂ → w.number ≡ 0 → Ranked f s₂
ranked_of {f} {xs} {s₁} {s₂} zeros noting noted ranking ranked = record {
  labelled = labelled_stays (settings f) s₁ s₂ (λ i l m. ranking.rest i (λ k. omega arith)) (noting.done noted);
  seniors = ranking.done ranked;
  zeros = λ i out past l. ranking.rest i past ∙ noting.rest i out ∙ zeros i (omega arith) l;
}

module _ {f s₂ : List ℕ} (ranked : Ranked f s₂) where
  -- what the stage of permissions needs
  pub level_zeros : Zeros 1808 2064 s₂
  level_zeros i m n = ranked.zeros i (λ k. omega arith) (λ k. omega arith) (omega arith)

  pub row_zeros : Zeros 12304 28688 s₂
  row_zeros i m n = ranked.zeros i (λ k. omega arith) (λ k. omega arith) (omega arith)

  module _ {s₃ : List ℕ} (granting : Granting f s₂ s₃) where
    pub third_labelled : Labelled (settings f) s₃
    third_labelled = labelled_stays (settings f) s₂ s₃ (λ i l m. granting.rest i (λ k. omega arith) (λ k. omega arith) (λ k. omega arith)) ranked.labelled

    pub third_zeros : Zeros 4112 8208 s₃
    third_zeros i m n =
        granting.rest i (λ k. omega arith) (λ k. omega arith) (λ k. omega arith) ∙ ranked.zeros i (λ k. omega arith) (λ k. omega arith) (omega arith)

    module _ {s₄ : List ℕ} (finishing : Finishing f s₃ s₄) where
      pub image : Image (settings f) (assigned f) s₄
      image = record {
        tables = record {
          counted = finishing.counted;
          labelled = labelled_stays (settings f) s₃ s₄ (λ i l m. finishing.rest i (omega arith) (λ n. omega arith)) third_labelled;
          dominating = dominating_stays (settings f) s₃ s₄ (λ i l m. finishing.rest i (omega arith) (λ n. omega arith)) granting.dominating;
          seniors = seniors_stay (settings f) s₂ s₄ (λ i l m. finishing.rest i (omega arith) (λ n. omega arith) ∙ granting.rest i (λ k. omega arith) (λ k. omega arith) (λ k. omega arith)) ranked.seniors;
          permitting = permitting_stays (settings f) s₃ s₄ (λ i l m. finishing.rest i (omega arith) (λ n. omega arith)) granting.permitting;
          levelled = levelled_stays (settings f) s₃ s₄ (λ i l m. finishing.rest i (omega arith) (λ n. omega arith)) granting.levelled;
        };
        assigning = finishing.assigning;
        unused = λ i out l.
            let (a, b, c) = out in
            finishing.rest i a (λ n. b (omega arith))
            ∙ granting.rest i (λ n. let far = b n in omega arith) (λ n. let far = b (omega arith) in omega arith) c
            ∙ ranked.zeros i (λ n. let far = b (omega arith) in omega arith) (λ n. let far = b (omega arith) in omega arith) l;
      }

-- a refusal: nobody reads the bytes
pub built_refused : (f : List ℕ) (v : Verdict) (ys : List ℕ) → v ≡ verdict f → Refuses v → Built f v ys
built_refused f v ys e h = record { answer = e; done = λ z. absurd (h z) }
