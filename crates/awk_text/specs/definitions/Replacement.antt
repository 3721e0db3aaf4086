-- What stands in the place of a match. POSIX awk, "String Functions", sub: an ampersand is the matched text; a backslash
-- before an ampersand makes it a plain one, and a backslash before a backslash one backslash.
use Rattle.std.specs.Prelude.{ℕ, Bool, ◌||◌, ◌&&◌, ◌==◌, if◌then◌else◌, List, [], ◌∷◌, ◌++◌}

-- an ampersand is the matched text, any other byte itself
abbrev pub bytes_for : (byte : ℕ) (matched : List ℕ) → List ℕ
bytes_for byte matched = if byte == 38 then matched else byte ∷ []

-- a backslash before an ampersand or a backslash
abbrev pub is_escape : (byte next : ℕ) → Bool
is_escape byte next = byte == 92 && (next == 38 || next == 92)

-- the text that replaces this matched text
abbrev pub replacement_for : (replacement matched : List ℕ) → List ℕ
replacement_for [] matched = []
replacement_for (byte ∷ []) matched = bytes_for byte matched
replacement_for (byte ∷ next ∷ rest) matched =
    if is_escape byte next then next ∷ replacement_for rest matched
    else bytes_for byte matched ++ replacement_for (next ∷ rest) matched
