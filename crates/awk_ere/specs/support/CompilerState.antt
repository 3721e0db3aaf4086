-- A program that is being made, as the code keeps it.
use Rattle.std.specs.Prelude.{ℕ, suc, ◌+◌, ◌-◌, ◌*◌, ◌≤◌, min, Bool, true, false, nat_le, List, [], ◌∷◌, ◌++◌, length, take, drop, replicate, insert, Option, Some, None, if◌then◌else◌, reverse}
use Rattle.awk_ere.specs.definitions.Limits.{greatest_size}
use Rattle.awk_ere.specs.definitions.Tree.{Class}
use Rattle.awk_ere.specs.support.RepeatInstructions.{repeat_instructions}
use Rattle.awk_ere.specs.declared.program.Instruction.{Instruction}
use Rattle.awk_ere.specs.declared.program.Instruction.TheVariants as instruction
use Rattle.awk_ere.specs.declared.token.Repeat.{Repeat}
use Rattle.awk_ere.specs.declared.token.Repeat.TheVariants as r
use Rattle.awk_ere.specs.declared.token.Token.{Token}
use Rattle.awk_ere.specs.declared.token.Token.TheVariants as w
use Rattle.awk_ere.specs.declared.compiler.checkpoint.Checkpoint.{Checkpoint}
use Rattle.awk_ere.specs.declared.compiler.checkpoint.Group.{Group}
use Rattle.awk_ere.specs.declared.compiler.checkpoint.Last.{Last}
use Rattle.awk_ere.specs.declared.compiler.checkpoint.Last.TheVariants.{Nothing, Anchor, Part}
use Rattle.awk_ere.specs.declared.compiler.Compiler.{Compiler}

-- The size is that of all tokens so far. What makes it larger than the greatest is counted as one more than that, and has
-- no instructions: either the whole is too large, or a repeat that allows no round takes it away.
pub record CompilerState : Type 0 where
  pub instructions : List Instruction
  pub classes : List Class
  pub outer : List Group
  pub group : Group
  pub last : Last
  pub size : ℕ

-- a program has at most six instructions for each 1 of its pattern's size
abbrev pub most_instructions : ℕ
most_instructions = 6 * greatest_size

abbrev pub limited : ℕ → ℕ
limited n = min n (suc greatest_size)

abbrev pub is_small : ℕ → Bool
is_small n = nat_le n greatest_size

-- the size of a repeat
abbrev pub seen_size : Repeat → ℕ → ℕ
seen_size r.Star n = n + 1
seen_size r.Plus n = n + 1
seen_size r.Option n = n + 1
seen_size (r.Exactly m) n = m * n + 1
seen_size (r.AtLeast m) n = (m + 1) * n + 1
seen_size (r.Between m k) n = k * n + 1

-- the repeat allows no round
abbrev pub is_never : Repeat → Bool
is_never r.Star = false
is_never r.Plus = false
is_never r.Option = false
is_never (r.Exactly m) = nat_le m 0
is_never (r.AtLeast m) = false
is_never (r.Between m k) = nat_le k 0

abbrev pub checkpoint_of : CompilerState → Checkpoint
checkpoint_of d = record { size = d.size; instructions = length d.instructions; classes = length d.classes }

abbrev pub begun : CompilerState
begun = record {
  instructions = [];
  classes = [];
  outer = [];
  group = record { begin = record { size = 0; instructions = 0; classes = 0 }; branch = 0; bars = 0 };
  last = Nothing;
  size = 0;
}

-- a piece of one instruction
abbrev pub push : Last → Instruction → CompilerState → CompilerState
push l o d =
    let n = limited (d.size + 1) in
    record d { instructions = if is_small n then d.instructions ++ o ∷ [] else d.instructions; last = l; size = n }

abbrev pub push_class : Class → CompilerState → CompilerState
push_class c d =
    let n = limited (d.size + 1) in
    record d {
      instructions = if is_small n then d.instructions ++ instruction.Class (length d.classes) ∷ [] else d.instructions;
      classes = if is_small n then d.classes ++ c ∷ [] else d.classes;
      last = Part (checkpoint_of d);
      size = n;
    }

abbrev pub open_group : CompilerState → CompilerState
open_group d =
    record d { outer = d.group ∷ d.outer; group = record { begin = checkpoint_of d; branch = length d.instructions; bars = 0 }; last = Nothing }

-- the instructions, with the ends of the branches
abbrev pub ended_instructions : CompilerState → List Instruction
ended_instructions d = if is_small d.size then d.instructions ++ replicate d.group.bars instruction.Join else d.instructions

abbrev pub close_into : List Group → CompilerState → Option CompilerState
close_into [] d = None
close_into (g ∷ gs) d = Some (record d { instructions = ended_instructions d; outer = gs; group = g; last = Part d.group.begin })

abbrev pub next_branch : CompilerState → CompilerState
next_branch d =
    let n = limited (d.size + 1) in
    if is_small n
    then record d {
      instructions = insert d.instructions d.group.branch instruction.Fork ++ instruction.Swap ∷ [];
      group = record d.group { branch = length d.instructions + 2; bars = d.group.bars + 1 };
      last = Nothing;
      size = n;
    }
    else record d { last = Nothing; size = n }

abbrev pub repeat_from : Repeat → Checkpoint → CompilerState → CompilerState
repeat_from r p d =
    let n = limited (p.size + seen_size r (d.size - p.size)) in
    if is_small n
    then record d {
      instructions = take p.instructions d.instructions ++ repeat_instructions r (drop p.instructions d.instructions);
      classes = if is_never r then take p.classes d.classes else d.classes;
      size = n;
    }
    else record d { size = n }

abbrev pub repeat_last : Repeat → Last → CompilerState → Option CompilerState
repeat_last r Nothing d = None
repeat_last r Anchor d = None
repeat_last r (Part p) d = Some (repeat_from r p d)

-- one token more, where it may stand; the class is that of a bracket
abbrev pub take_in : Token → Class → CompilerState → Option CompilerState
take_in (w.Byte b) c d = Some (push (Part (checkpoint_of d)) (instruction.Byte b) d)
take_in w.Any c d = Some (push (Part (checkpoint_of d)) instruction.Any d)
take_in (w.Bracket good) c d = Some (push_class c d)
take_in w.Start c d = Some (push Anchor instruction.Start d)
take_in w.End c d = Some (push Anchor instruction.End d)
take_in w.Open c d = Some (open_group d)
take_in w.Close c d = close_into d.outer d
take_in w.Bar c d = Some (next_branch d)
take_in (w.Again r) c d = repeat_last r d.last d

-- the last piece begins within the compiler state
abbrev pub IsWithin : Last → CompilerState → Type 0
IsWithin Nothing d = Unit {0}
IsWithin Anchor d = Unit {0}
IsWithin (Part p) d = (p.instructions ≤ length d.instructions) × (p.size ≤ d.size)

pub record IsSound (d : CompilerState) : Type 0 where
  pub size : d.size ≤ suc greatest_size
  pub few : length d.classes ≤ greatest_size
  pub short : length d.instructions ≤ most_instructions
  pub branch : d.group.branch ≤ length d.instructions
  pub bars : d.group.bars ≤ greatest_size
  pub last : IsWithin d.last d

-- the compiler state, if the token could be taken
abbrev pub taken : Bool → CompilerState → Option CompilerState
taken true d = Some d
taken false d = None

-- ---- What a compiler has made.

abbrev pub state_of : Compiler → CompilerState
state_of b = record { instructions = b.instructions.items; classes = b.classes.items; outer = reverse b.outer.items; group = b.group; last = b.last; size = b.size }
