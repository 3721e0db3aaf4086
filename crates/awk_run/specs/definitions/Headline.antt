-- The whole language: what a run of a text leaves is what the text means.
use Rattle.std.specs.Prelude.{ℕ, List, Result, IfOk, IfErr}
use Rattle.awk_lex.specs.declared.refusal.Refusal.{Refusal}
use Rattle.awk_lex.specs.Refused.{IsOutOfMemory}
use Rattle.awk_streams.specs.WorldState.{WorldState}
use Rattle.awk_grammar.specs.Tree.{Item}
use Rattle.awk_semantics.specs.declared.outcome.Outcome.{Outcome}
use Rattle.awk_semantics.specs.Meaning.{StartValues}
use Rattle.awk_run.specs.definitions.Accepted.{Accepted, RefusedFor}
use Rattle.awk_run.specs.definitions.Runs.{IsUntouched, Runs, RunsSince}

-- A text is refused for a cause other than memory exactly where it is no program, by the first cause that
-- holds; else its one program was run: what a world that is logged holds of it is what the program means, where nothing
-- was done there before (`run`) and where anything was (`since`).
pub record Executed (is_logged : Type 0) (text : List ℕ) (start : StartValues) (limit : ℕ) (before after : WorldState) (result : Result Outcome Refusal) : Type 0 where
  pub cause : IfErr result (λ refusal. RefusedFor refusal.code text)
  pub refused : IfErr result (λ refusal. (IsOutOfMemory refusal → ⊥) → (items : List Item) → Accepted text items → ⊥)
  pub run : IfOk result (λ outcome. (items : List Item) × Accepted text items × (is_logged → IsUntouched before → Runs items start limit after outcome))
  pub since : IfOk result (λ outcome. (items : List Item) × Accepted text items × RunsSince is_logged items start limit before after outcome)
