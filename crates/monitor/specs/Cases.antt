-- The cases of "Example files", those with a star and the others too: each file with what document 01 says of it, as document 02 changes it, and session calls after its load with their
-- numbers; and cases of the changes. Where a document tells of a file without showing it, the file is a small one of that kind. Assumes nothing.
use Rattle.std.specs.Prelude.{ℕ, ◌*◌, List, [], ◌∷◌, ◌++◌, map, Bool, true, false}
use Prim.Native.String.{String}
use Rattle.std.proofs.Math.Option
use Rattle.std.proofs.Math.Option.{Option, none, some}
use Rattle.rolefile.specs.declared.Verdict.{Verdict}
use Rattle.rolefile.specs.Ascii.{ascii}
use Rattle.rolefile.specs.Line.{newline}
use Rattle.rolefile.specs.Form.{fine, refusal}
use Rattle.rolefile.specs.Said.{assigned}
use Rattle.policy.specs.Settings.{Settings, settings}
use Rattle.policy.specs.Policy.{r_level, w_level, level_number}
use Rattle.policy.specs.Verdict.{verdict}
use Rattle.policy.specs.Flow.{flows, flow_circle}
use Rattle.monitor.specs.Runs.{Call, opens, takes, reads, writes}
use Rattle.monitor.specs.Rules.{Standing, begun, rule, next}

-- each text as a line: its bytes, and byte 10
unfoldable pub bytes : List String → List ℕ
bytes [] = []
bytes (text ∷ texts) = ascii text ++ (newline ∷ bytes texts)

-- "R for each role (role, r-level, w-level; 0 free, 99 undefined)"
abbrev pub Row : Type 0
Row = ℕ × ℕ × ℕ

abbrev pub row : Settings → ℕ → Row
row σ r = (r, level_number (r_level σ r), level_number (w_level σ r))

-- two roles, and whether the first flows to the second: a line F or none
abbrev pub Flow : Type 0
Flow = ℕ × ℕ × Bool

-- a session call and its number
abbrev pub Answered : Type 0
Answered = Call × ℕ

-- the rules' number of each call in turn, for a store as long as the cards
unfoldable pub numbered : Settings → Standing → List Answered → List Answered
numbered σ now [] = []
numbered σ now (x ∷ xs) = (x.0, rule σ (64 * σ.cards) now x.0) ∷ numbered σ (next σ now x.0) xs

-- the verdict on a file; and, as far as the document gives them, the rows of its roles, the role on a circle of flow, flows, and session calls
pub record Findings : Type 0 where
  pub verdict : Verdict
  pub rows : List Row
  pub circle : Option ℕ
  pub flows : List Flow
  pub calls : List Answered

-- what the definitions find of the file f, about the roles and for the calls that the document tells of
unfoldable pub findings : List ℕ → Findings → Findings
findings f a = record {
  verdict = verdict f;
  rows = map (λ x. row (settings f) x.0) a.rows;
  circle = Option.map (λ r. flow_circle (settings f)) a.circle;
  flows = map (λ x. (x.0, x.1, flows (settings f) x.0 x.1)) a.flows;
  calls = numbered (settings f) (begun (assigned f)) a.calls;
}

pub record Case : Type 0 where
  pub file : List String
  pub expected : Findings

-- the file that the document shows
abbrev pub example_file : List String
example_file =
    "H    2    2    1    2"
    ∷ "D    2    1          "
    ∷ "S    2    1          "
    ∷ "U    1    2          "
    ∷ "O    1    1          "
    ∷ "O    2    2          "
    ∷ "P    1    1    1     "
    ∷ "P    2    2    2     "
    ∷ "A    1    2          "
    ∷ []

-- the same with role 2 writing card 1 too
abbrev pub reviewer_file : List String
reviewer_file =
    "H    2    2    1    2"
    ∷ "D    2    1          "
    ∷ "S    2    1          "
    ∷ "U    1    2          "
    ∷ "O    1    1          "
    ∷ "O    2    2          "
    ∷ "P    1    1    1     "
    ∷ "P    2    1    2     "
    ∷ "P    2    2    2     "
    ∷ "A    1    2          "
    ∷ []

unfoldable pub cases : List Case
cases =
    record {
      -- "the file above: accepted"
      file = example_file;
      expected = record { verdict = fine; rows = (1, 1, 0) ∷ (2, 1, 2) ∷ []; circle = some 0; flows = (1, 2, false) ∷ (2, 1, false) ∷ []; calls = [] };
    }
    ∷ record {
      -- "without its D line: 12 at [1, 2]"
      file =
          "H    2    2    1    2"
          ∷ "S    2    1          "
          ∷ "U    1    2          "
          ∷ "O    1    1          "
          ∷ "O    2    2          "
          ∷ "P    1    1    1     "
          ∷ "P    2    2    2     "
          ∷ "A    1    2          "
          ∷ [];
      expected = record { verdict = refusal 12 1 2; rows = []; circle = none; flows = []; calls = [] };
    }
    ∷ record {
      -- "user 1 cleared to 1 instead: accepted"
      file =
          "H    2    2    1    2"
          ∷ "D    2    1          "
          ∷ "S    2    1          "
          ∷ "U    1    1          "
          ∷ "O    1    1          "
          ∷ "O    2    2          "
          ∷ "P    1    1    1     "
          ∷ "P    2    2    2     "
          ∷ "A    1    2          "
          ∷ [];
      expected = record { verdict = fine; rows = []; circle = none; flows = []; calls = [] };
    }
    ∷ record {
      -- "and role 1 reading card 2 as well: 15 at [1, 2]"
      file =
          "H    2    2    1    2"
          ∷ "D    2    1          "
          ∷ "S    2    1          "
          ∷ "U    1    1          "
          ∷ "O    1    1          "
          ∷ "O    2    2          "
          ∷ "P    1    1    1     "
          ∷ "P    1    2    1     "
          ∷ "P    2    2    2     "
          ∷ "A    1    2          "
          ∷ [];
      expected = record { verdict = refusal 15 1 2; rows = []; circle = none; flows = []; calls = [] };
    }
    ∷ record {
      -- "role 2 writing card 1 too: w-level 1", and "then accepted" (document 02, change 1)
      file = reviewer_file;
      expected = record { verdict = fine; rows = (2, 1, 1) ∷ []; circle = none; flows = []; calls = [] };
    }
    ∷ record {
      -- a reviewer's day: cleared to 2, she opens at 1, takes role 2 and corrects card 1; at 2 she cannot take it
      file = reviewer_file;
      expected = record {
        verdict = fine;
        rows = [];
        circle = none;
        flows = [];
        calls =
            (opens 1 1 1, 0)
            ∷ (takes 1 2, 0)
            ∷ (writes 1 1 0 (65 ∷ []), 0)
            ∷ (opens 2 1 2, 0)
            ∷ (takes 2 2, 28)
            ∷ (writes 2 1 0 (65 ∷ []), 29)
            ∷ [];
      };
    }
    ∷ record {
      -- role 2 reading card 2 and writing card 1: r-level 2 over w-level 1, and no label lies at or above the one and at or below the other
      file =
          "H    2    2    1    2"
          ∷ "D    2    1          "
          ∷ "U    1    2          "
          ∷ "O    1    1          "
          ∷ "O    2    2          "
          ∷ "P    2    1    2     "
          ∷ "P    2    2    1     "
          ∷ "A    1    2          "
          ∷ [];
      expected = record { verdict = refusal 16 1 2; rows = (2, 2, 1) ∷ []; circle = none; flows = []; calls = [] };
    }
    ∷ record {
      -- labels 1, 2, 3 with D 3 1 and D 3 2, user 1 cleared to 1, role 1 writing at 2: the r-level is free, and no label lies under both 1 and 2
      file =
          "H    3    1    1    1"
          ∷ "D    3    1          "
          ∷ "D    3    2          "
          ∷ "U    1    1          "
          ∷ "O    1    2          "
          ∷ "P    1    1    2     "
          ∷ "A    1    1          "
          ∷ [];
      expected = record { verdict = refusal 16 1 1; rows = (1, 0, 2) ∷ []; circle = none; flows = []; calls = [] };
    }
    ∷ record {
      -- cleared to 3 instead: accepted, and the role can be taken at 2
      file =
          "H    3    1    1    1"
          ∷ "D    3    1          "
          ∷ "D    3    2          "
          ∷ "U    1    3          "
          ∷ "O    1    2          "
          ∷ "P    1    1    2     "
          ∷ "A    1    1          "
          ∷ [];
      expected = record {
        verdict = fine;
        rows = (1, 0, 2) ∷ [];
        circle = none;
        flows = [];
        calls = (opens 1 1 2, 0) ∷ (takes 1 1, 0) ∷ (opens 2 1 3, 0) ∷ (takes 2 1, 28) ∷ (opens 3 1 1, 0) ∷ (takes 3 1, 28) ∷ [];
      };
    }
    ∷ record {
      -- roles 2 and 3 "write one card" and "form a circle of two"; role 1, which writes another card alone, does not flow to itself (document 02, change 9)
      file =
          "H    1    3    0    2"
          ∷ "O    1    1          "
          ∷ "O    2    1          "
          ∷ "P    1    2    2     "
          ∷ "P    2    1    2     "
          ∷ "P    3    1    2     "
          ∷ [];
      expected = record { verdict = fine; rows = []; circle = some 2; flows = (1, 1, false) ∷ (1, 2, false) ∷ (2, 3, true) ∷ (3, 2, true) ∷ (3, 3, false) ∷ []; calls = [] };
    }
    ∷ record {
      -- role 2 has by seniority what role 1 writes, so the two share it
      file = "H    1    2    0    1" ∷ "S    2    1          " ∷ "O    1    1          " ∷ "P    1    1    2     " ∷ [];
      expected = record { verdict = fine; rows = []; circle = some 1; flows = (1, 2, true) ∷ (2, 1, true) ∷ []; calls = [] };
    }
    ∷ record {
      -- "D 1 1 in front: 11 at [1, 0]"
      file =
          "H    2    2    1    2"
          ∷ "D    1    1          "
          ∷ "D    2    1          "
          ∷ "S    2    1          "
          ∷ "U    1    2          "
          ∷ "O    1    1          "
          ∷ "O    2    2          "
          ∷ "P    1    1    1     "
          ∷ "P    2    2    2     "
          ∷ "A    1    2          "
          ∷ [];
      expected = record { verdict = refusal 11 1 0; rows = []; circle = none; flows = []; calls = [] };
    }
    ∷ record {
      -- "labels 1, 2, 3 with D 3 1 and D 3 2: an assigned role that writes at 1 and 2 gets 14"
      file =
          "H    3    1    1    2"
          ∷ "D    3    1          "
          ∷ "D    3    2          "
          ∷ "U    1    1          "
          ∷ "O    1    1          "
          ∷ "O    2    2          "
          ∷ "P    1    1    2     "
          ∷ "P    1    2    2     "
          ∷ "A    1    1          "
          ∷ [];
      expected = record { verdict = refusal 14 1 1; rows = (1, 0, 99) ∷ []; circle = none; flows = []; calls = [] };
    }
    ∷ record {
      -- "one that reads there has r-level 3"
      file =
          "H    3    1    1    2"
          ∷ "D    3    1          "
          ∷ "D    3    2          "
          ∷ "U    1    3          "
          ∷ "O    1    1          "
          ∷ "O    2    2          "
          ∷ "P    1    1    1     "
          ∷ "P    1    2    1     "
          ∷ "A    1    1          "
          ∷ [];
      expected = record { verdict = fine; rows = (1, 3, 0) ∷ []; circle = none; flows = []; calls = [] };
    }
    ∷ record {
      -- "four labels, 2 and 3 above 1 and below 4: writing at 2 and 3 gives w-level 1"
      file =
          "H    4    1    1    2"
          ∷ "D    2    1          "
          ∷ "D    3    1          "
          ∷ "D    4    2          "
          ∷ "D    4    3          "
          ∷ "U    1    1          "
          ∷ "O    1    2          "
          ∷ "O    2    3          "
          ∷ "P    1    1    2     "
          ∷ "P    1    2    2     "
          ∷ "A    1    1          "
          ∷ [];
      expected = record { verdict = fine; rows = (1, 0, 1) ∷ []; circle = none; flows = []; calls = [] };
    }
    ∷ record {
      -- "user 1 at label 1 takes role 2, writes card 2: 0, reads card 2: 29", of the file above
      file = example_file;
      expected = record {
        verdict = fine;
        rows = [];
        circle = none;
        flows = [];
        calls =
            (opens 1 1 1, 0)
            ∷ (takes 1 2, 0)
            ∷ (writes 1 2 0 (65 ∷ []), 0)
            ∷ (reads 1 2 0 1, 29)
            -- "offset 60, length 4: 0; length 5: 30; offset 64, length 0: 0", of card 1
            ∷ (reads 1 1 60 4, 0)
            ∷ (reads 1 1 60 5, 30)
            ∷ (reads 1 1 64 0, 0)
            -- and of card 2, written
            ∷ (writes 1 2 60 (65 ∷ 66 ∷ 67 ∷ 68 ∷ []), 0)
            ∷ (writes 1 2 60 (65 ∷ 66 ∷ 67 ∷ 68 ∷ 69 ∷ []), 30)
            ∷ (writes 1 2 64 [], 0)
            ∷ [];
      };
    }
    ∷ record {
      -- "only H with counts 1 0 0 0: accepted"
      file = "H    1    0    0    0" ∷ [];
      expected = record { verdict = fine; rows = []; circle = none; flows = []; calls = [] };
    }
    ∷ record {
      -- "with 33 labels: 3 at [1, 0]"
      file = "H   33    0    0    0" ∷ [];
      expected = record { verdict = refusal 3 1 0; rows = []; circle = none; flows = []; calls = [] };
    }
    ∷ []
