-- What a refused call leaves, and how a field is filled.
use Rattle.std.specs.Prelude.{◌≡◌, ℕ, Bool, List, length, take, if◌then◌else◌}
use Rattle.awk_text.specs.declared.field.Padding.{Padding}

-- the old bytes stand in front of what may have been added
abbrev pub IsBegun : (old new : List ℕ) → Type 0
IsBegun old new = take (length old) new ≡ old

-- where the missing bytes go
abbrev pub padding_of : (minus zeros : Bool) (missing : ℕ) → Padding
padding_of minus zeros missing =
    if minus then record { before = 0; zeros = 0; behind = missing }
    else (if zeros then record { before = 0; zeros = missing; behind = 0 }
    else record { before = missing; zeros = 0; behind = 0 })
