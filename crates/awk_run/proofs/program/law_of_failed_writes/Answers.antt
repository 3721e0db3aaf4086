use Rattle.std.proofs.Common.{◌≡◌, ◌+◌, List, [], ◌∷◌, ◌++◌, length, Some, refl, ◌∙◌, ap, arith}
use Rattle.std.proofs.lemmas.List.{length-append}
use Rattle.awk_world.specs.declared.failure.Failure.{Failure}
use Rattle.awk_streams.specs.Log.{Event}
use Rattle.awk_streams.specs.WorldState.{first_of}
use Rattle.awk_journal.specs.Adds.{behind}
use Rattle.awk_run.proofs.program.law_of_failed_writes.Goals as goal

-- what adds none has none of its own
none_new : (older : List Event) (fs ks : List Failure) → ks ≡ behind older fs ++ ks → fs ≡ []
none_new older [] ks is = refl
none_new older (f ∷ fs) ks is =
    let same : length ks ≡ length (behind older (f ∷ fs)) + length ks = ap length is ∙ length-append (behind older (f ∷ fs)) ks in
    absurd (omega (arith, same))

no_first : {P : Type 0} (fs : List Failure) (f : Failure) → fs ≡ [] → first_of fs ≡ Some f → P
no_first [] f none some = cc
no_first (g ∷ fs) f none some = cc

pub returns : goal.returns
returns c = λ items start limit k since.
    let none = none_new k.log since.failures k.failures (since.adds tt).fails in
    let first = since.runs.failure.blamed refl in
    no_first since.failures first.0 none first.1
