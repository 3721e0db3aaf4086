-- The numbers that tell how a command ended.
use Rattle.std.specs.Prelude.{ℤ, pos, ◌≤ℤ◌, Option, option_map, unwrap_or}
use Rattle.std.specs.Process.{exit_code, child_status}
use Rattle.std.specs.declared.process.child.Child.{Child}
use Rattle.std.specs.declared.process.status.ExitStatus.{ExitStatus}

-- an exit status, from 0 to 255, or 256, which stands for none
abbrev pub IsCommandNumber : ℤ → Type 0
IsCommandNumber number = (pos 0 ≤ℤ number) × (number ≤ℤ pos 256)

-- the exit status, or 256 where a command ended without one
abbrev pub number_of_status : ExitStatus → ℤ
number_of_status status = unwrap_or (exit_code status) (pos 256)

-- the number of a command, once a wait has told how it ended
abbrev pub number_told : {P I O E : Type 0} → Child P I O E → Option ℤ
number_told child = option_map number_of_status (child_status child)
