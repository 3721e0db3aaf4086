-- What the code tells of an element of ARGV.
use Rattle.std.specs.Prelude.{ℕ, suc, List, take, drop}
use Rattle.awk_semantics.specs.Inputs.{Operand, Nothing, Assignment, StandardInput, AFile}
use Rattle.awk_runtime.specs.declared.operands.OperandForm.{OperandForm}
use Rattle.awk_runtime.specs.declared.operands.OperandForm.TheVariants as form

abbrev pub operand_in : (word : List ℕ) → OperandForm → Operand
operand_in word form.Nothing = Nothing
operand_in word (form.Assignment n) = Assignment (take n word) (drop (suc n) word)
operand_in word form.StandardInput = StandardInput
operand_in word form.File = AFile
