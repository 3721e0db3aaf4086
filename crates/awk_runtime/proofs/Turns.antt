-- Requests that are met where outputs were brought before, and what failures leave of the outputs.
use Rattle.std.proofs.Common.{◌≡◌, ℕ, zero, suc, Bool, true, false, List, [], ◌∷◌, ◌++◌, length, slice_get, Option, Result, Err, refl, sym, ap, ◌∙◌, subst, append-nil}
use Rattle.std.specs.Global.{Vec}
use Rattle.awk_world.specs.declared.world.InputKind.{InputKind}
use Rattle.awk_world.specs.declared.world.OutputKind.{OutputKind}
use Rattle.awk_world.specs.declared.world.WorldFault.TheVariants.{Failed}
use Rattle.awk_streams.specs.declared.named.NamedStream.{NamedStream}
use Rattle.awk_streams.specs.Log.{Event, OpenedInput, OpenedOutput, Read, Ended, Broke, Wrote, Flushed, Closed, Ran}
use Rattle.awk_streams.specs.WorldState.{WorldState, FailsNow, MayFailNow}
use Rattle.awk_streams.specs.Oracle.{Oracle, Source}
use Rattle.awk_streams.specs.Writes.{GoesOn}
use Rattle.awk_streams.specs.Openings.{Opening, AreBrought}
use Rattle.awk_streams.specs.Grows.{Grows}
use Rattle.awk_streams.specs.Named as words
use Rattle.awk_streams.specs.Streams.{StreamsView, StandFor, held_of, printed_openings, AreBringing, BringsIf}
use Rattle.awk_streams.specs.Lost.{KeepsOthers, Spares}
use Rattle.awk_streams.specs.NamedOutputs.{LosesBytes}
use Rattle.awk_functions.specs.declared.formats.Formats.{Formats}
use Rattle.awk_semantics.specs.declared.halt.Halt.{Halt}
use Rattle.awk_semantics.specs.declared.halt.Halt.TheVariants as halt
use Rattle.awk_semantics.specs.declared.fault.Fault.TheVariants as faults
use Rattle.awk_semantics.specs.State.{Request, Effect, Printed, Requested, State, Out, Run}
use Rattle.awk_semantics.specs.Meaning.{with_bytes, outputs_asked, first_outputs, outputs_after, Asked, requests_from}
use Rattle.awk_semantics.specs.Order.{Stage, AreBetween, GoesBetween, Meets, MeetsAll, first_stage}
use Rattle.awk_semantics.proofs.Requests.{goes-self, goes_last, meets_append, requests-append}
use Rattle.awk_runtime.specs.declared.runtime.Runtime.{Runtime}
use Rattle.awk_runtime.specs.support.Simulation.{OwnRelation, main_number, stage_of, StreamsRelation, StateRelation, FailureRelation, ResultRelation, SimulatesLogged, Beside}
use Rattle.awk_runtime.proofs.Composition.{fails_last, may_fail_last, clear_spent}
use Rattle.awk_runtime.proofs.Effects.{outputs-append, begins-then, begins_still}
use Rattle.awk_runtime.proofs.Steps.{beside_holds}

-- runs that are equal where the state stands for the code's
pub same_logged : {A : Type 0} {old new : Runtime} {before after : WorldState} {r : Result A Halt} (x y : Run A) → ((s : State) → OwnRelation old s → x s ≡ y s) → SimulatesLogged old before new after r y → SimulatesLogged old before new after r x
same_logged {A = A} {new = new} {after = after} {r = r} x y e d = record {
  grows = d.grows;
  means = λ oracle s past consistent stands. subst (λ (o : Out A). ResultRelation oracle new after r o past) (sym (e s stands.holds)) (d.means oracle s past consistent stands);
}

-- the code's own part stands where the outside's alone is another
pub own_at : (m : Runtime) (s : State) (openings : InputKind → List ℕ → ℕ) (output_openings : OutputKind → List ℕ → ℕ) (outputs closings runs : ℕ) (main : Option Source) (streams : List words.Stream) → OwnRelation m s
    → OwnRelation m (record s { openings = openings; output_openings = output_openings; outputs = outputs; closings = closings; runs = runs; main = main; streams = streams })
own_at m s openings output_openings outputs closings runs main streams h = record {
  current = h.current;
  specials = h.specials;
  globals = h.globals;
  slots = h.slots;
  array_names = h.array_names;
  function_names = h.function_names;
  arrays = h.arrays;
  frames = h.frames;
  staged = h.staged;
  next = h.next;
  input_seen = h.input_seen;
  inside = h.inside;
  status = h.status;
  steps = h.steps;
}

-- another line, other formats and other streams are beside what the definitions know
pub written : (m : Runtime) (streams : StreamsView) (line : Vec ℕ) (formats : Formats) → Beside m (record m { streams = streams; line = line; formats = formats })
written m streams line formats = record { names = refl; current = refl; specials = refl; globals = refl; arrays = refl; frames = refl; next = refl; input_seen = refl; inside = refl; status = refl; steps = refl }

-- outputs

pub length-with_bytes : (n : ℕ) (bytes : List ℕ) (os : List Opening) → length (with_bytes n bytes os) ≡ length os
length-with_bytes n bytes [] = refl
length-with_bytes zero bytes (o ∷ os) = refl
length-with_bytes (suc n) bytes (o ∷ os) = ap (λ (i : ℕ). suc i) (length-with_bytes n bytes os)

pub outputs_printed : (past : List Effect) (n : ℕ) (bytes : List ℕ) → outputs_after (past ++ Printed n bytes ∷ []) ≡ with_bytes n bytes (outputs_after past)
outputs_printed past n bytes = outputs-append first_outputs past (Printed n bytes ∷ [])

pub outputs_requested : (past : List Effect) (what : Request) → outputs_after (past ++ Requested what ∷ []) ≡ outputs_asked what (outputs_after past)
outputs_requested past what = outputs-append first_outputs past (Requested what ∷ [])

-- bytes that are brought meet no request

pub bringing_between : (main : Option ℕ) (es : List Event) → AreBringing es → AreBetween main es main
bringing_between main [] h = refl
bringing_between main (Wrote id bytes ∷ es) h = bringing_between main es h
bringing_between main (Flushed id ∷ es) h = bringing_between main es h
bringing_between main (OpenedInput kind name id ∷ es) h = absurd h
bringing_between main (OpenedOutput kind name mode id ∷ es) h = absurd h
bringing_between main (Read id bytes ∷ es) h = absurd h
bringing_between main (Ended id ∷ es) h = absurd h
bringing_between main (Broke id ∷ es) h = absurd h
bringing_between main (Closed id answer ∷ es) h = absurd h
bringing_between main (Ran command answer ∷ es) h = absurd h

pub goes_bringing : (log log' : List Event) (streams : StreamsView) → GoesOn AreBringing log log' → GoesBetween (stage_of log streams) (stage_of log' streams)
goes_bringing log log' streams h = record { events = h.events; log = h.log; between = bringing_between (main_number streams.main) h.events h.each; streams = refl }

pub goes_bringing_if : (is_command : Bool) (before : WorldState) (streams : StreamsView) (log : List Event) → BringsIf is_command before streams log → GoesBetween (stage_of before.log streams) (stage_of log streams)
goes_bringing_if true before streams log h = goes_bringing before.log log streams h.only
goes_bringing_if false before streams log h = record { events = []; log = h; between = refl; streams = refl }

-- the log goes on, and then meets a request more
pub turn_brought : (oracle : Oracle) (past : List Effect) (what : Request) (a b c d : Stage) → MeetsAll oracle (requests_from first_outputs past) a b → GoesBetween b c → Meets oracle what (outputs_after past) c d → MeetsAll oracle (requests_from first_outputs (past ++ Requested what ∷ [])) a d
turn_brought oracle past what a b c d met goes meets =
    subst (λ (l : List Asked). MeetsAll oracle l a d) (sym (requests-append first_outputs past (Requested what ∷ [])))
    (meets_append oracle (requests_from first_outputs past) (record { what = what; outputs = outputs_after past } ∷ []) a b d met (c, d, goes, meets, goes-self d))

-- what was brought is what the definitions print
pub brought_as : (oracle : Oracle) (streams : StreamsView) (before : WorldState) (s : State) (past : List Effect) (log : List Event) → StreamsRelation oracle streams before s past → AreBrought (printed_openings before streams) log → AreBrought (outputs_after past) log
brought_as oracle streams before s past log stands h = subst (λ (os : List Opening). AreBrought os log) stands.printed h

-- what could not be brought is lost

-- the other outputs are spared
pub spared : (oracle : Oracle) (old new : Runtime) (before after : WorldState) (s : State) (past : List Effect) → StateRelation oracle old before s past → Spares before (held_of old.streams) after (held_of new.streams) → KeepsOthers (outputs_after past) after (held_of new.streams)
spared oracle old new before after s past stands spares = record {
  same = λ n kept. spares.same n kept ∙ ap (λ (os : List Opening). slice_get os n) stands.streams.printed;
  spent = spares.spent (clear_spent before (held_of old.streams) stands.clear);
}

lost : {failure : Type 0} (oracle : Oracle) (old new : Runtime) (before after : WorldState) (s : State) (past more : List Effect) → LosesBytes before old.streams after new.streams → StateRelation oracle old before s past → failure → FailureRelation oracle failure new.streams after (past ++ more)
lost oracle old new before after s past more loses stands failed = record {
  done = past;
  others = more;
  parts = refl;
  last = stage_of after.log old.streams;
  at = refl;
  turn = goes_last oracle (requests_from first_outputs past) first_stage (stage_of before.log old.streams) (stage_of after.log old.streams) stands.streams.turn (goes_bringing before.log after.log old.streams loses.only);
  keeps = spared oracle old new before after s past stands loses.spares;
  begins = begins-then (printed_openings after new.streams) (printed_openings before old.streams) (outputs_after (past ++ more)) loses.begins (begins_still (printed_openings before old.streams) past more stands.streams.printed);
  failure = failed;
}

pub memory_loses : {A : Type 0} {old new : Runtime} {before after : WorldState} (run : Run A) → Grows before after → LosesBytes before old.streams after new.streams → MayFailNow before after → SimulatesLogged old before new after (Err (halt.Fault faults.OutOfMemory)) run
memory_loses {old = old} {new = new} {before = before} {after = after} run grows loses failure = record {
  grows = grows;
  means = λ oracle s past consistent stands. lost oracle old new before after s past (run s).effects loses stands (may_fail_last before after stands.clear failure);
}

pub write_loses : {A : Type 0} {old new : Runtime} {before after : WorldState} (run : Run A) → Grows before after → LosesBytes before old.streams after new.streams → FailsNow Failed before after → SimulatesLogged old before new after (Err (halt.Fault faults.WriteFailed)) run
write_loses {old = old} {new = new} {before = before} {after = after} run grows loses failure = record {
  grows = grows;
  means = λ oracle s past consistent stands. lost oracle old new before after s past (run s).effects loses stands (fails_last before after stands.clear failure);
}

-- as many streams stand open in the code as in the definitions
pub as_many : (oracle : Oracle) (log : List Event) (xs : List NamedStream) (ys : List words.Stream) → StandFor oracle log xs ys → length xs ≡ length ys
as_many oracle log [] [] h = refl
as_many oracle log [] (y ∷ ys) h = absurd h
as_many oracle log (x ∷ xs) [] h = absurd h
as_many oracle log (x ∷ xs) (y ∷ ys) h = ap (λ (i : ℕ). suc i) (as_many oracle log xs ys h.1)

-- one stage, by its parts
pub stage_same : (l l' : List Event) (m m' : Option ℕ) (xs xs' : List (words.Named × ℕ)) → l ≡ l' → m ≡ m' → xs ≡ xs' → (let a : Stage = record { log = l; main = m; streams = xs } in let b : Stage = record { log = l'; main = m'; streams = xs' } in a ≡ b)
stage_same l l' m m' xs xs' e f h =
    ap (λ (x : List Event). record { log = x; main = m; streams = xs }) e
    ∙ (ap (λ (x : Option ℕ). record { log = l'; main = x; streams = xs }) f ∙ ap (λ (x : List (words.Named × ℕ)). record { log = l'; main = m'; streams = x }) h)

-- the state stands where neither the streams nor the world is another
pub stands_same : (oracle : Oracle) {old new : Runtime} {before after : WorldState} (s : State) (past : List Effect) → Beside old new → new.streams ≡ old.streams → after ≡ before → StateRelation oracle old before s past → StateRelation oracle new after s (past ++ [])
stands_same oracle {old = old} {new = new} {before = before} {after = after} s past beside same world stands = record {
  clear = ap (λ (w : WorldState). w.failures) world ∙ stands.clear;
  streams = subst (λ (l : List Effect). StreamsRelation oracle new.streams after s l) (sym (append-nil past)) (subst (λ (w : WorldState). StreamsRelation oracle new.streams w s past) (sym world) (subst (λ (v : StreamsView). StreamsRelation oracle v before s past) (sym same) stands.streams));
  holds = beside_holds beside stands.holds;
}
