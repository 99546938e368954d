-- Text put after the text that is in use. Assumes nothing.
use Rattle.std.specs.Prelude.{ℕ, ◌≡◌, List, take}
use Rattle.text.specs.declared.Text.{Text}
use Rattle.text.specs.Text.{Puts}

-- the bytes in use
abbrev pub in_use : Text → List ℕ
in_use t = take t.used t.buffer.now

-- `more` has been put after the bytes in use, as far as there is room, and the buffer is the same one
pub record Adds (more : List ℕ) (before after : Text) : Type 0 where
  pub same_buffer : after.buffer.ghost_name ≡ before.buffer.ghost_name
  pub puts : Puts more before.used before.buffer.now after.used after.buffer.now
