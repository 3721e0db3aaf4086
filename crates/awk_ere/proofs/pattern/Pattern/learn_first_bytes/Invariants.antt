use Rattle.std.proofs.Common.{◌≡◌, ℕ, ◌<◌, true, false}
use Rattle.awk_ere.specs.support.SimulationStep.{IsStillAt}
use Rattle.awk_ere.specs.support.Table.{Serves, is_first}
use Rattle.awk_ere.proofs.pattern.Pattern.learn_first_bytes.Given as goal

abbrev pub invariant-loop-byte : goal.invariant-loop-byte
invariant-loop-byte l = record {
  same : Serves l.scratch l.self;
  still : (x : ℕ) → x < l.byte → is_first l.first x ≡ false → IsStillAt l.self true x;
}
