-- Scanning the lines: what a line's verdict is where the line before is at hand, and the length before the lines. Assumes nothing.
use Rattle.std.proofs.Common.{ℕ, ◌+◌, ◌-◌, ◌≤◌, ◌≡◌, List, arith, ◌∙◌, false, ne_eqb}
use Rattle.search.proofs.Truth.{other_iff}
use Rattle.rolefile.specs.declared.Refusal.{Refusal}
use Rattle.rolefile.specs.Line.{line_at, lines}
use Rattle.rolefile.specs.Form.{refusal, fine, header, head_verdict, body_verdict, line_verdict, scan, lines_verdict}
use Rattle.rolefile.specs.Refusal.{verdict_of}
use Rattle.rolefile.specs.WellFormed.{Sized}
use Rattle.rolefile.proofs.Verdicts.{scan_yet, scan_last, scan_found}
use Rattle.rolefile.proofs.Told.{refusal_refuses}
use Rattle.rolefile.proofs.Formed.{sized_iff}

module _ (f : List ℕ) where
  -- where line 1 is refused, so are the lines
  pub head_stops : (e : Refusal) → 1 ≤ lines f → verdict_of e ≡ head_verdict (header f) → verdict_of e ≡ scan (lines f) (line_verdict f)
  unfolding line_verdict
  head_stops e l h = h ∙ scan_found (line_verdict f) (lines f) 0 l (scan_yet _) (rw h at (refusal_refuses e))

  pub head_passes : fine ≡ head_verdict (header f) → fine ≡ scan 1 (line_verdict f)
  unfolding line_verdict
  head_passes h = h ∙ scan_last (line_verdict f) 0 (scan_yet _)

  -- line k, where the lines before have nothing to refuse
  module _ (k : ℕ) (later : 2 ≤ k) (clean : fine ≡ scan (k - 1) (line_verdict f)) where
    line_now : body_verdict (header f) (line_at f (k - 1)) k (line_at f k) ≡ line_verdict f (k - 1 + 1)
    unfolding line_verdict
    line_now = let i : k - 1 + 1 ≡ k = omega arith in rw (i, ne_eqb k 1 (λ e. omega arith))

    pub line_stops : (e : Refusal) → k ≤ lines f → verdict_of e ≡ body_verdict (header f) (line_at f (k - 1)) k (line_at f k) → verdict_of e ≡ scan (lines f) (line_verdict f)
    line_stops e l h =
        let q = h ∙ line_now in
        q ∙ scan_found (line_verdict f) (lines f) (k - 1) (omega arith) (rw (← clean)) (rw q at (refusal_refuses e))

    pub line_passes : fine ≡ body_verdict (header f) (line_at f (k - 1)) k (line_at f k) → fine ≡ scan k (line_verdict f)
    line_passes h =
        let i : k - 1 + 1 ≡ k = omega arith in
        rw i at (h ∙ line_now ∙ scan_last (line_verdict f) (k - 1) (rw (← clean)))

-- ---- the length first

module _ (f : List ℕ) where
  pub bad_size_lem : (Sized f → ⊥) → refusal 1 0 0 ≡ lines_verdict f
  unfolding lines_verdict
  bad_size_lem h = rw ((other_iff false (sized_iff f)).1 h)

  pub good_size : Sized f → scan (lines f) (line_verdict f) ≡ lines_verdict f
  unfolding lines_verdict
  good_size s = rw ((sized_iff f).1 s)
