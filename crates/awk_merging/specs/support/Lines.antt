-- Texts of one line, as the code tells them.
use Rattle.std.specs.Prelude.{ℕ, Bool, not, ◌==◌, List}
use Rattle.std.specs.List.{list_any}

-- the text has no newline
abbrev pub is_line : List ℕ → Bool
is_line text = not (list_any (λ byte. byte == 10) text)
