-- A line reader as an iterator. Assumes nothing.
use Rattle.std.specs.Prelude.{ℕ, ◌+◌, ◌≤◌, ◌<◌, ◌≡◌, Option, MatchOption}
use Rattle.rolefile.specs.declared.Line.{Line}
use Rattle.rolefile.specs.declared.reader.Reader.{Reader}
use Rattle.rolefile.specs.Line.{line_at, lines}

-- what the reader r gives, and what it is then: its next line with its number, or nothing past the file's last line, where it stays as it is
abbrev pub GivesLine : Reader → Option (ℕ × Line) → Reader → Type 0
GivesLine r x s =
    MatchOption x ((lines r.file.now < r.next) × (s ≡ r))
    (λ p. (r.next ≤ lines r.file.now) × (p.0 ≡ r.next) × (p.1 ≡ line_at r.file.now r.next) × (s.file ≡ r.file) × (s.next ≡ r.next + 1))
