use Rattle.std.proofs.Common.{◌≡◌, ℕ, ◌<◌, true, false}
use Rattle.awk_ere.specs.support.SimulationStep.{AreFor, leaves, behind, dead_positions}
use Rattle.awk_ere.proofs.pattern.Pattern.is_anchored_at_start.Given as goal

abbrev pub invariant-loop-byte : goal.invariant-loop-byte
invariant-loop-byte l = record {
  same : AreFor l.position_set l.self;
  still : (x : ℕ) → x < l.byte → (leaves l.self (dead_positions l.self) false true false x ≡ false) × (behind l.self (dead_positions l.self) false true false x ≡ dead_positions l.self);
}
