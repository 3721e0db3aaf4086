-- Which streams stand open: the two standard outputs, and what was opened and not closed; which of them is a command, and what a
-- closing answers.
use Rattle.std.specs.Prelude.{ℕ, ℤ, pos, Bool, true, false, Option, Some, is_some, nat_lt, ◌||◌}
use Rattle.std.specs.Option.{option_map_or}
use Rattle.std.specs.Ordering.{nat_cmp}
use Rattle.std.specs.BTreeMap.{BTreeMap, get}
use Rattle.awk_system.specs.definitions.Commands.{number_told}
use Rattle.awk_system.specs.declared.opened.Opened.{Opened}
use Rattle.awk_system.specs.declared.opened.Opened.TheVariants.{Command}

-- whether the number is a standard output's, or one of those that were opened
abbrev pub is_open_in : {V : Type 0} → BTreeMap ℕ V → ℕ → Bool
is_open_in opened id = nat_lt id 2 || is_some (get nat_cmp opened id)

-- whether a command was opened
abbrev pub is_command : {P I O E : Type 0} → Opened P I O E → Bool
is_command (Command child) = true
is_command _ = false

-- whether a command was opened under the number
abbrev pub is_command_at : {P I O E : Type 0} → ℕ → BTreeMap ℕ (Opened P I O E) → Bool
is_command_at id opened = option_map_or is_command (get nat_cmp opened id) false

-- the number that a closing answers where it is known before: 0 of what is no command, and that of a command which a wait told of
abbrev pub number_at_close : {P I O E : Type 0} → Opened P I O E → Option ℤ
number_at_close (Command child) = number_told child
number_at_close _ = Some (pos 0)
