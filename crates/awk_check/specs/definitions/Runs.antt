-- A run of the awk, with what is told of it behind it.
use Rattle.std.specs.Prelude.{ℕ, List}
use Rattle.awk_streams.specs.Writes.{OnlyWritesTo}
use Rattle.awk_streams.specs.WorldState.{WorldState}
use Rattle.awk_runtime.specs.declared.start.Assignment.{Assignment}
use Rattle.awk_command.specs.Invocation.{RunsUtility}

-- what the awk does for the words, with its status, and then nothing but writing to standard error
pub record RunsAndTells (is_logged : Type 0) (words : List (List ℕ)) (environ : List Assignment) (before : WorldState) (status : ℕ) (after : WorldState) : Type 0 where
  pub ended : WorldState
  pub runs : RunsUtility is_logged words environ before status ended
  pub told : is_logged → OnlyWritesTo 1 ended.log after.log
