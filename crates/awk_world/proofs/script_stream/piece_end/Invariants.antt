use Rattle.std.proofs.Common.{◌≡◌, ◌≤◌, take}
use Rattle.std.specs.List.{fold}
use Rattle.awk_world.specs.definitions.ScriptAnswers.{nearer}
use Rattle.awk_world.proofs.script_stream.piece_end.Given as goal

pub record SoFar (end within : Type 0) : Type 0 where
  pub nearest : end
  pub bound : within

abbrev pub invariant-loop-other : goal.invariant-loop-other
invariant-loop-other l = SoFar (l.end ≡ fold (nearer l.at) l.len (take l.other-index l.piece_ends)) (l.end ≤ l.len)
