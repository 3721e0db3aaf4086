-- What a run of a program leaves in the world: what the program means.
use Rattle.std.specs.Prelude.{◌≡◌, ◌≢◌, ◌⊎◌, ℕ, true, List, [], None}
use Rattle.awk_world.specs.declared.failure.Failure.{Failure}
use Rattle.awk_journal.specs.Adds.{Adds, with_log}
use Rattle.awk_streams.specs.Log.{Event}
use Rattle.awk_streams.specs.Oracle.{Oracle, IsConsistent, standing}
use Rattle.awk_streams.specs.Openings.{outputs_of}
use Rattle.awk_streams.specs.Orderly.{IsOrderly}
use Rattle.awk_streams.specs.WorldState.{WorldState, is_any}
use Rattle.awk_streams.specs.Lost.{AreSilentBehind}
use Rattle.awk_grammar.specs.Tree.{Item}
use Rattle.awk_semantics.specs.declared.outcome.Outcome.{Outcome}
use Rattle.awk_semantics.specs.declared.outcome.Outcome.TheVariants.{Fault}
use Rattle.awk_semantics.specs.declared.fault.Fault.TheVariants.{OutOfMemory}
use Rattle.awk_semantics.specs.Meaning.{StartValues, meaning_of}
use Rattle.awk_semantics.specs.Order.{IsInTurn}
use Rattle.awk_semantics.specs.Failure.{Fails, effects_of, IsCutBetween}

-- nothing was done in the world
pub record IsUntouched (world : WorldState) : Type 0 where
  pub log : world.log ≡ []
  pub failures : world.failures ≡ []

-- no memory was refused, and no write or flush failed
pub record IsUndisturbed (world : WorldState) (result : Outcome) : Type 0 where
  pub memory : result ≢ Fault OutOfMemory
  pub failures : world.failures ≡ []

-- A run of the items leaves what they mean. Some oracle is consistent with its log, which is in order. However the run ended, nothing
-- stands open at its end, and an output of which a write or a flush failed got no more bytes. For each oracle that is consistent:
-- undisturbed, the outcome is the meaning's, each opening of an output has received exactly its bytes, and the log meets its
-- requests in turn; disturbed, the run fails as the language has it, and was cut between two of its effects.
pub record Runs (items : List Item) (start : StartValues) (limit : ℕ) (world : WorldState) (result : Outcome) : Type 0 where
  pub some : (oracle : Oracle) × IsConsistent oracle world.log
  pub orderly : IsOrderly world.log
  pub closed : (id : ℕ) → standing id world.log ≡ None
  pub silent : AreSilentBehind world.log world.failures
  pub outcome : IsUndisturbed world result → (oracle : Oracle) → IsConsistent oracle world.log → (meaning_of items start oracle limit).outcome ≡ result
  pub outputs : IsUndisturbed world result → (oracle : Oracle) → IsConsistent oracle world.log → outputs_of world.log ≡ (meaning_of items start oracle limit).outputs
  pub turn : IsUndisturbed world result → (oracle : Oracle) → IsConsistent oracle world.log → IsInTurn oracle (meaning_of items start oracle limit) world.log
  pub failure : Fails (λ oracle. meaning_of items start oracle limit) world result
  pub cut : (is_any world.failures ≡ true) ⊎ (result ≡ Fault OutOfMemory) → (oracle : Oracle) → IsConsistent oracle world.log → IsCutBetween oracle (effects_of items start oracle limit) world.failures world.log

-- from a world in which nothing was done, a run leaves what the items mean
pub record RunsFrom (is_logged : Type 0) (items : List Item) (start : StartValues) (limit : ℕ) (before after : WorldState) (result : Outcome) : Type 0 where
  pub runs : is_logged → IsUntouched before → Runs items start limit after result

-- from any world, what a run adds to the log and to the failures that stood there is what the items mean
pub record RunsSince (is_logged : Type 0) (items : List Item) (start : StartValues) (limit : ℕ) (before after : WorldState) (result : Outcome) : Type 0 where
  pub log : List Event
  pub failures : List Failure
  pub adds : is_logged → Adds before log failures after
  pub runs : Runs items start limit (with_log after.is_open log failures) result
