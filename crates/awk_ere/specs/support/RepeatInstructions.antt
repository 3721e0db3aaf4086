-- The instructions of a repeat, from those of its body.
use Rattle.std.specs.Prelude.{ℕ, zero, suc, ◌+◌, ◌-◌, List, [], ◌∷◌, ◌++◌, length}
use Rattle.awk_ere.specs.declared.program.Instruction.{Instruction}
use Rattle.awk_ere.specs.declared.program.Instruction.TheVariants.{Fork, Swap, Join, Enter, Leave}
use Rattle.awk_ere.specs.declared.token.Repeat.{Repeat}
use Rattle.awk_ere.specs.declared.token.Repeat.TheVariants.{Star, Plus, Option, Exactly, AtLeast, Between}

-- the body so many times
abbrev pub rounds : ℕ → List Instruction → List Instruction
rounds zero body = []
rounds (suc n) body = body ++ rounds n body

-- one round or more
abbrev pub some_rounds : List Instruction → List Instruction
some_rounds body = Enter (length body + 1) ∷ (body ++ Leave ∷ [])

-- any number of rounds
abbrev pub any_rounds : List Instruction → List Instruction
any_rounds body = Fork ∷ (some_rounds body ++ Swap ∷ Join ∷ [])

-- optional rounds, one around the other: what stands in front, and what stands behind
abbrev pub forks : ℕ → List Instruction → List Instruction
forks zero body = []
forks (suc n) body = Fork ∷ (body ++ forks n body)

abbrev pub joins : ℕ → List Instruction
joins zero = []
joins (suc n) = Swap ∷ Join ∷ joins n

abbrev pub up_to_rounds : ℕ → List Instruction → List Instruction
up_to_rounds n body = forks n body ++ joins n

abbrev pub repeat_instructions : Repeat → List Instruction → List Instruction
repeat_instructions Star body = any_rounds body
repeat_instructions Plus body = some_rounds body
repeat_instructions Option body = up_to_rounds 1 body
repeat_instructions (Exactly m) body = rounds m body
repeat_instructions (AtLeast m) body = rounds m body ++ any_rounds body
repeat_instructions (Between m n) body = rounds m body ++ up_to_rounds (n - m) body
