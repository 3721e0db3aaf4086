-- What is read of operands, and put behind a line that is printed.
use Rattle.std.specs.Prelude.{◌≡◌, ℕ, List, ◌++◌, Ok, map}
use Rattle.awk_value.specs.declared.value.Value.{Value}
use Rattle.awk_value.specs.Values.{str_of}
use Rattle.awk_kinds.specs.declared.special.Special.TheVariants.{Ofs}
use Rattle.awk_kinds.specs.Variables.{value_of, name_of}
use Rattle.awk_semantics.specs.Operators.{join, join_rest}
use Rattle.awk_resolve.specs.declared.node.Operand.{Operand}
use Rattle.awk_resolve.specs.Nodes.{operand_values}
use Rattle.awk_runtime.specs.declared.runtime.Runtime.{Runtime}
use Rattle.awk_runtime.specs.Simulation.{Changes, SameState}
use Rattle.awk_evaluator.specs.declared.machine.Machine.{Machine}

-- what stands between the texts of a line
abbrev pub separator : Runtime → List ℕ
separator m = str_of (value_of m.specials (name_of Ofs))

-- operands are read, which changes nothing, and their texts are put behind a line, joined by what makes one text of several
pub record AppendsBy (joined : List ℕ → List (List ℕ) → List ℕ) (xs : List Operand) (m : Runtime) (before after : List ℕ) : Type 0 where
  pub values : List Value
  pub changes : Changes (operand_values m.names.scalars xs) m m (Ok values)
  pub text : after ≡ before ++ joined (separator m) (map str_of values)

-- with the separator between them, and before each
abbrev pub AppendsTexts : List Operand → Runtime → (before after : List ℕ) → Type 0
AppendsTexts = AppendsBy (λ between texts. join between texts)

abbrev pub AppendsBehind : List Operand → Runtime → (before after : List ℕ) → Type 0
AppendsBehind = AppendsBy (λ between texts. join_rest between texts)

-- nothing is changed that the definitions know
pub record SameMachine (m m' : Machine) : Type 0 where
  pub operands : m'.operands ≡ m.operands
  pub calls : m'.runtime.frames.callers ≡ m.runtime.frames.callers
  pub runtime : SameState m.runtime m'.runtime
