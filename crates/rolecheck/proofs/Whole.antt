-- The report by the verdict of a load, and whole where the buffer is long enough. Assumes nothing.
use Prim.Native.Nat.{ℕ, ◌≤◌}
use mathlib.Core.Path.{◌≡◌, sym, ◌∙◌}
use mathlib.Core.List.{List, ◌++◌, append-nil}
use native.Mathlib.Omega.{arith}
use lib.ListN.{length}
use lib.Seq.{length-take-le}
use borrow.Author.Tests.{eq-eqb, ne_eqb}
use Rattle.std.specs.Prelude.{true, false, Result, Ok, Err, is_err}
use Rattle.rolefile.specs.declared.Verdict.{Verdict}
use Rattle.rolefile.specs.Refusal.{told}
use Rattle.policy.specs.declared.Refusal.{Refusal}
use Rattle.policy.specs.Refusal.{verdict_of}
use Rattle.policy.proofs.Told.{refusal_refuses}
use Rattle.policy.specs.Settings.{settings}
use Rattle.policy.specs.Verdict.{verdict}
use Rattle.policy.specs.Image.{Loaded}
use Rattle.policy.proofs.Inside.{file_bounded}
use Rattle.policy.proofs.Loads.{judged}
use Rattle.policy.proofs.Outcomes.{accepted_iff}
use Rattle.text.specs.declared.Text.{Text}
use Rattle.text.specs.Added.{Adds, in_use}
use Rattle.text.proofs.Added.{adds_whole}
use Rattle.rolecheck.specs.Report.{line, state_lines, report, IsPrefixLen}
use Rattle.rolecheck.proofs.BySettings.{lines_by}
use Rattle.rolecheck.proofs.Places.{Written, verdict_written}
use Rattle.rolecheck.proofs.Fits.{report_length}

-- the verdict of a load that answers with an error, and of one that does not
refuses : {T : Type 0} (r : Result T Refusal) {v : Verdict} → v ≡ told verdict_of r → true ≡ is_err r → v.number ≡ 0 → ⊥
refuses (Ok x) same failed z = absurd cc
refuses (Err e) same failed z = refusal_refuses e (rw same at z)

accepts : {T : Type 0} (r : Result T Refusal) {v : Verdict} → v ≡ told verdict_of r → false ≡ is_err r → v.number ≡ 0
accepts (Ok x) same done = rw same
accepts (Err e) same done = absurd cc

module _ (f : List ℕ) {T : Type 0} (r : Result T Refusal) {v : Verdict} {xs ys : List ℕ} (same : v ≡ told verdict_of r) (load : Loaded f (told verdict_of r) xs ys) (long : 65536 ≤ length xs) where
  known : v ≡ verdict f
  known = same ∙ judged load long

  pub load_written : Written v
  load_written = rw known (verdict_written f)

  pub refused_report : true ≡ is_err r → line 86 3 v.number v.first v.second ≡ report f
  unfolding report
  refused_report failed =
      let number : (verdict f).number ≡ 0 → ⊥ = rw known at (refuses r same failed) in
      rw (known, ne_eqb (verdict f).number 0 number) (sym (append-nil (line 86 3 (verdict f).number (verdict f).first (verdict f).second)))

  pub accepted_report : false ≡ is_err r → line 86 3 v.number v.first v.second ++ state_lines ys ≡ report f
  unfolding report
  accepted_report done =
      let zero : (verdict f).number ≡ 0 = rw known at (accepts r same done) in
      rw (known, eq-eqb (verdict f).number 0 zero, lines_by (settings f) (file_bounded f ((accepted_iff f).0 zero).form) ys (rw load.long long) (load.done (rw (sym same) (accepts r same done))).tables)

pub whole : (f : List ℕ) {t u : Text} → t.used ≡ 0 → 363308 ≤ length t.buffer.now → Adds (report f) t u → IsPrefixLen u.used u.buffer.now × (in_use u ≡ report f)
whole f {t} {u} none room one =
    ((one.puts.used, sym (length-take-le u.used u.buffer.now one.puts.used)), adds_whole one none (omega (arith, report_length f)))
