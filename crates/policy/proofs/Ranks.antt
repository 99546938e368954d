-- Seniority from the S lines: the rows that the lines fill are closed, and hold each role's seniors. Assumes nothing.
use Rattle.std.proofs.Common.{ℕ, ◌+◌, ◌≤◌, min, Some, None, ◌≡◌, refl, ◌∙◌, List, cond, arith, leb, length, ne_eqb, le-leb}
use Rattle.search.specs.Search.{thing}
use Rattle.search.proofs.Thing.{thing_none, thing_some}
use Rattle.search.proofs.Truth.{eqb_swap}
use Rattle.roleset.specs.Row.{Kept}
use Rattle.roleset.proofs.Rows.{kept_both}
use Rattle.order.specs.Bound.{converse}
use Rattle.order.specs.Closure.{Agree, path, loop, circle, with_itself}
use Rattle.order.specs.Table.{related, Tabled}
use Rattle.order.proofs.Closure.{via_converse, circle_converse, loop_circle}
use Rattle.rolefile.specs.Line.{fields, lines}
use Rattle.rolefile.specs.Form.{fine, refusal}
use Rattle.rolefile.specs.Said.{roles, above}
use Rattle.rolefile.specs.inner.Section.{pairs}
use Rattle.rolefile.proofs.Sections.{says_two}
use Rattle.policy.specs.Settings.{senior}
use Rattle.policy.specs.Tables.{seniors_at}
use Rattle.policy.specs.inner.Filling.{Related}
use Rattle.policy.specs.Verdict.{role_verdict}
use Rattle.policy.specs.declared.counts.Counts.{Counts}
use Rattle.policy.specs.inner.Stages.{Ready, Zeros, PathRows, Ranking}
use Rattle.policy.proofs.Fronts.{pairs_same}
use Rattle.policy.proofs.Readying.{good_of, counts_of, head_roles, s_lines}
use Rattle.policy.proofs.Inside.{above_between}
use Rattle.policy.proofs.Closing.{paths_table, closed_table}
use Rattle.policy.proofs.Relating.{unites_zeros}

-- the rows that the lines fill, once they have their paths, and the lowest role with one to itself
pub record Pathed (f : List ℕ) (n : Counts) (xs zs : List ℕ) : Type 0 where
  pub count : min n.roles 128 ≡ roles f
  pub few : roles f ≤ 128
  pub long : seniors_at + 2048 ≤ length zs
  pub rows : PathRows 128 (roles f) (converse (above f)) (related zs seniors_at)
  pub lowest : cond (leb (2064 + 2048) (length zs)) (loop (min n.roles 128) (related zs 2064)) 0 ≡ circle (roles f) (above f)
  pub rest : Kept 2064 4112 xs zs

module _ {f d s u o p a : List ℕ} {n : Counts} (ready : Ready f n d s u o p a) (xs ys zs : List ℕ) (ys-long : length ys ≡ 65536) (zs-long : length zs ≡ 65536)
    (zeros : Zeros 2064 4112 xs) (filled : Related 2064 128 (λ x r. pairs s (lines s) r x) xs ys)
    (pathed : Tabled 2064 (min n.roles 128) (path (min n.roles 128) (related ys 2064)) ys zs) where
  few : roles f ≤ 128
  few = (counts_of f ready.lines).roles

  -- the lines' rows
  direct : Agree 128 128 (related ys seniors_at) (converse (above f))
  unfolding fields
  direct x y v w =
      let stands = ready.laid.s_stands in
      unites_zeros seniors_at 128 _ xs ys filled.rows zeros x y v w
      ∙ pairs_same stands.leads stands.front y x
      ∙ says_two f (good_of f ready.lines) (s_lines ready.lines ready.laid).0 refl y x

  -- and the paths
  by_roles : Tabled seniors_at (roles f) (path (roles f) (related ys seniors_at)) ys zs
  by_roles = rw (head_roles ready) at pathed

  paths : PathRows 128 (roles f) (converse (above f)) (related zs seniors_at)
  paths =
      paths_table 128 (roles f) (converse (above f)) (related ys seniors_at) (related zs seniors_at) few
      (λ x y e. let (v, w) = above_between f (good_of f ready.lines) y x e in (w, v)) direct (by_roles.rows (omega arith))

  pub pathed_of : Pathed f n xs zs
  pathed_of = record {
    count = head_roles ready;
    few = few;
    long = omega arith;
    rows = paths;
    lowest =
        rw (le-leb (2064 + 2048) (length zs) (omega arith), head_roles ready)
        (loop_circle (converse (above f)) few paths ∙ circle_converse (above f) (roles f));
    rest = kept_both xs ys zs (omega (arith, few)) filled.rest by_roles.rest;
  }

-- ---- 13

module _ {f : List ℕ} {n : Counts} {xs zs : List ℕ} (p : Pathed f n xs zs) where
  pub ranked_refused : {r : ℕ} → Some r ≡ thing (cond (leb (2064 + 2048) (length zs)) (loop (min n.roles 128) (related zs 2064)) 0)
      → Ranking f (refusal 13 r 0) xs zs
  unfolding role_verdict
  ranked_refused {r} e = let (q, l) = (thing_some (circle (roles f) (above f)) r).0 (rw p.lowest at e) in record {
    answer = rw (← q, ne_eqb r 0 (λ z. omega arith));
    done = λ z. absurd (omega arith);
    rest = p.rest;
  }

  pub ranked : {ws : List ℕ} → None ≡ thing (cond (leb (2064 + 2048) (length zs)) (loop (min n.roles 128) (related zs 2064)) 0)
      → Tabled 2064 (min n.roles 128) (with_itself (related zs 2064)) zs ws → Ranking f fine xs ws
  unfolding role_verdict senior
  ranked {ws} e closed =
      let c = rw p.count at closed in
      record {
        answer = rw ((thing_none (circle (roles f) (above f))).0 (rw p.lowest at e));
        done = λ n a b v w.
            closed_table 128 (roles f) (converse (above f)) (related zs seniors_at) (related ws seniors_at) p.rows (c.rows p.long) a b v w
            ∙ rw (eqb_swap a b, via_converse (above f) (roles f) a b);
        rest = kept_both xs zs ws (omega (arith, p.few)) p.rest c.rest;
      }
