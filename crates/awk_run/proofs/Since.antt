-- From a run over a log of its own to one in a world whose log goes on.
use Rattle.std.proofs.Common.{◌≡◌, ℕ, Bool, List, [], ◌∷◌, ◌++◌, ◌+◌, refl, sym, ap, ◌∙◌, subst, subst₂, arith}
use Rattle.std.proofs.lemmas.List.{append-nil}
use Rattle.awk_world.specs.declared.failure.Failure.{Failure}
use Rattle.awk_journal.specs.Adds.{Adds, with_log, behind}
use Rattle.awk_streams.specs.Log.{Event}
use Rattle.awk_streams.specs.WorldState.{WorldState}
use Rattle.awk_grammar.specs.Tree.{Item}
use Rattle.awk_semantics.specs.declared.outcome.Outcome.{Outcome}
use Rattle.awk_semantics.specs.definitions.Meaning.{StartValues}
use Rattle.awk_run.specs.definitions.Runs.{IsUntouched, Runs, RunsFrom, RunsSince}

-- what a log of its own holds is what was added to the one before it
pub since : {items : List Item} {start : StartValues} {limit : ℕ} {is_logged : Type 0} {before anew left after : WorldState} {result : Outcome} → IsUntouched anew → after.is_open ≡ left.is_open → (is_logged → Adds before left.log left.failures after)
    → RunsFrom (Unit {0}) items start limit anew left result → RunsSince is_logged items start limit before after result
since {items = items} {start = start} {limit = limit} {left = left} {result = result} fresh opened adds ran = record {
  log = left.log;
  failures = left.failures;
  adds = adds;
  runs = subst (λ (o : ℕ → Bool). Runs items start limit (with_log o left.log left.failures) result) (sym opened) (ran.runs tt fresh);
}

-- the failures behind an empty log
none_before : (failures : List Failure) → behind [] failures ≡ failures
none_before [] = refl
none_before (f ∷ failures) =
    let same : f.at + 0 ≡ f.at = omega arith in
    ap (λ (n : ℕ). record f { at = n } ∷ behind [] failures) same ∙ ap (λ (fs : List Failure). f ∷ fs) (none_before failures)

-- what was added to an empty log is all of it
all_added : (before after : WorldState) (log : List Event) (failures : List Failure) → IsUntouched before → Adds before log failures after → with_log after.is_open log failures ≡ after
all_added before after log failures fresh adds =
    let logs : after.log ≡ log = adds.logs ∙ (ap (λ (older : List Event). log ++ older) fresh.log ∙ append-nil log) in
    let fails : after.failures ≡ failures =
    subst₂ (λ (older : List Event) (fs : List Failure). after.failures ≡ behind older failures ++ fs) fresh.log fresh.failures adds.fails ∙ (append-nil (behind [] failures) ∙ none_before failures) in
    sym (subst₂ (λ (l : List Event) (fs : List Failure). after ≡ with_log after.is_open l fs) logs fails refl)

-- from a world in which nothing was done, what a run added is all that is left
pub from_since : {items : List Item} {start : StartValues} {limit : ℕ} {is_logged : Type 0} {before after : WorldState} {result : Outcome} → RunsSince is_logged items start limit before after result → RunsFrom is_logged items start limit before after result
from_since {items = items} {start = start} {limit = limit} {before = before} {after = after} {result = result} ran = record {
  runs = λ t fresh. subst (λ (w : WorldState). Runs items start limit w result) (all_added before after ran.log ran.failures fresh (ran.adds t)) ran.runs;
}
