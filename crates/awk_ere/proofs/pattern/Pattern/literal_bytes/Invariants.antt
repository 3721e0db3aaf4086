-- What was read so far are the bytes.
use Rattle.std.proofs.Common.{◌≡◌, ◌<◌, take, map}
use Rattle.std.specs.List.{All}
use Rattle.awk_ere.specs.declared.program.Instruction.TheVariants as instructions
use Rattle.awk_ere.specs.support.Layout.{byte_count}
use Rattle.awk_ere.proofs.pattern.Pattern.literal_bytes.Given as goal

abbrev pub invariant-loop-instruction : goal.invariant-loop-instruction
invariant-loop-instruction l = record {
  read : take l.instruction-index l.instruction-items ≡ map instructions.Byte l.bytes.items;
  small : All (λ b. b < byte_count) l.bytes.items;
}
