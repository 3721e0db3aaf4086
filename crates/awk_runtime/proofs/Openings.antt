-- What opening a named output does to the state of a run.
use Rattle.std.proofs.Common.{◌≡◌, ◌+◌, ◌&&◌, ℕ, suc, Bool, true, false, List, [], ◌∷◌, ◌++◌, length, Option, Some, None, Result, Ok, Err, if◌then◌else◌, inl, inr, refl, sym, ap, ◌∙◌, subst, arith, length-append}
use Rattle.std.specs.Prelude.{nat_le, bytes_eq, codes}
use Rattle.std.proofs.lemmas.Bool.{le-leb, lt-leb}
use Rattle.awk_world.specs.declared.world.OutputKind.{OutputKind}
use Rattle.awk_world.specs.declared.world.OutputKind.TheVariants as output
use Rattle.awk_world.specs.declared.world.Mode.{Mode}
use Rattle.awk_streams.specs.declared.fault.StreamFault.{StreamFault}
use Rattle.awk_streams.specs.declared.fault.StreamFault.TheVariants.{Memory, WriteFailed, InputNotReadable, OutputNotOpened, TooManyStreams, RecordTooLong}
use Rattle.awk_streams.specs.declared.streams.Target.{Target}
use Rattle.awk_streams.specs.declared.streams.Target.TheVariants as target
use Rattle.awk_streams.specs.WorldState.{WorldState}
use Rattle.awk_streams.specs.Log.{Event, OpenedOutput}
use Rattle.awk_streams.specs.Oracle.{Oracle, one_if, same_output_kind}
use Rattle.awk_streams.specs.Openings.{Opening, Named as NamedOutput}
use Rattle.awk_streams.specs.Grows.{Grows}
use Rattle.awk_streams.specs.Named as words
use Rattle.awk_streams.specs.Streams.{StreamsView, StandFor, IsMainRest, most_streams, numbered, printed_openings, opening_at, BringsIf}
use Rattle.awk_streams.specs.NamedOutputs.{FindsOutput, IsFullOfOutputs, GrantsOutput, RefusesOutput, OpensOutput}
use Rattle.awk_semantics.specs.declared.halt.Halt.TheVariants as halt
use Rattle.awk_semantics.specs.declared.fault.Fault.TheVariants as faults
use Rattle.awk_semantics.specs.State.{OpensOutput as AsksOutput, Effect, Requested, State, Out, Run, ◌>>=◌, go_on, lift, ret, ends}
use Rattle.awk_semantics.specs.Primitives.{fault_if}
use Rattle.awk_semantics.specs.Streams.{opening_in, check_streams, output_counted, output_granted, ask_output, open_output_unless, open_output, open_file}
use Rattle.awk_semantics.specs.Meaning.{outputs_after}
use Rattle.awk_semantics.specs.Order.{OutputBrought, first_stage}
use Rattle.awk_runtime.specs.declared.runtime.Runtime.{Runtime}
use Rattle.awk_runtime.specs.support.Simulation.{main_number, stage_of, StreamsRelation, StateRelation, ResultRelation, SimulatesLogged, Beside, halted}
use Rattle.awk_runtime.specs.support.Printing.{standard_named, TargetOpened, TargetTold, OpensTarget}
use Rattle.awk_runtime.proofs.Composition.{lift_logged, memory_logged, callers_stay}
use Rattle.awk_runtime.proofs.Steps.{beside_holds}
use Rattle.awk_runtime.proofs.Turns.{own_at, outputs_requested, goes_bringing_if, turn_brought, brought_as, memory_loses, write_loses, as_many, stage_same, stands_same}

-- what the definitions do

output_as_found : (kind : OutputKind) (name : List ℕ) (mode : Mode) (s : State) (n : ℕ) → opening_in s.streams kind name ≡ Some n → open_output kind name mode s ≡ ret n s
unfolding open_output
output_as_found kind name mode s n is = ap (λ (o : Option ℕ). open_output_unless o kind name mode s) is

output_as_asked : (kind : OutputKind) (name : List ℕ) (mode : Mode) (s : State) (b : Bool) → opening_in s.streams kind name ≡ None → nat_le most_streams (length s.streams) ≡ false → s.outside.output kind name (s.output_openings kind name) ≡ b → open_output kind name mode s ≡ output_granted b kind name mode s
unfolding open_output check_streams ask_output ◌>>=◌ go_on
output_as_asked kind name mode s b lacks few is =
    ap (λ (o : Option ℕ). open_output_unless o kind name mode s) lacks
    ∙ (ap (λ (full : Bool). go_on (fault_if full faults.TooManyStreams s).result (fault_if full faults.TooManyStreams s).state (fault_if full faults.TooManyStreams s).effects (λ _. ask_output kind name mode)) few
    ∙ ap (λ (granted : Bool). output_granted granted kind name mode s) is)

output_as_full : (kind : OutputKind) (name : List ℕ) (mode : Mode) (s : State) → opening_in s.streams kind name ≡ None → nat_le most_streams (length s.streams) ≡ true → open_output kind name mode s ≡ ends (halt.Fault faults.TooManyStreams) s
unfolding open_output check_streams ask_output ◌>>=◌ go_on
output_as_full kind name mode s lacks full =
    ap (λ (o : Option ℕ). open_output_unless o kind name mode s) lacks
    ∙ ap (λ (b : Bool). go_on (fault_if b faults.TooManyStreams s).result (fault_if b faults.TooManyStreams s).state (fault_if b faults.TooManyStreams s).effects (λ _. ask_output kind name mode)) full

-- the output stands open already

found_comes : (oracle : Oracle) (new : Runtime) (after : WorldState) (s : State) (past : List Effect) (n : ℕ) → StateRelation oracle new after s (past ++ []) → ResultRelation oracle new after (Ok n) (ret n s) past
unfolding lift
found_comes oracle new after s past n stands = (refl, stands)

output_found : (kind : OutputKind) (name : List ℕ) (mode : Mode) (to : Target) {old new : Runtime} {before after : WorldState} → Beside old new → Grows before after → FindsOutput kind name before old.streams to after new.streams → TargetOpened (open_output kind name mode) old before to new after
output_found kind name mode to {old = old} {new = new} {before = before} {after = after} beside grows f = record {
  opening = f.opening;
  place = subst (λ (w : WorldState). opening_at to new.streams w.log ≡ Some f.opening) (sym f.world) (subst (λ (v : StreamsView). opening_at to v before.log ≡ Some f.opening) (sym f.same) f.place);
  simulates = record {
    grows = grows;
    means = λ oracle s past consistent stands.
        subst (λ (o : Out ℕ). ResultRelation oracle new after (Ok f.opening) o past) (sym (output_as_found kind name mode s f.opening (f.found oracle s.streams stands.streams.are.named)))
        (found_comes oracle new after s past f.opening (stands_same oracle s past beside f.same f.world stands));
  };
}

-- it is asked for

output_brought : (kind : OutputKind) (oracle : Oracle) (streams : StreamsView) (before : WorldState) (s : State) (past : List Effect) (log : List Event) → StreamsRelation oracle streams before s past → BringsIf (words.is_output_command kind) before streams log → OutputBrought kind (outputs_after past) log
output_brought output.File oracle streams before s past log stands h = tt
output_brought output.Command oracle streams before s past log stands h = brought_as oracle streams before s past log stands h.brought

granted_stands : (oracle : Oracle) (kind : OutputKind) (name : List ℕ) (mode : Mode) (to : Target) (old new : StreamsView) (before after : WorldState) (s : State) (past : List Effect) → new.main ≡ old.main → IsMainRest oracle after.log new.main s.main
    → (g : GrantsOutput kind name mode before old to after new) → StreamsRelation oracle old before s past
    → StreamsRelation oracle new after (record (output_counted kind name s) { streams = s.streams ++ words.AnOutput kind name s.outputs ∷ []; outputs = suc s.outputs }) (past ++ Requested (AsksOutput kind name mode true) ∷ [])
granted_stands oracle kind name mode to old new before after s past main rest g stands = record {
  outside = stands.outside;
  openings = λ k n. stands.openings k n ∙ sym (g.asks.counts.inputs k n);
  output_openings = λ k n. ap (λ (i : ℕ). one_if (same_output_kind k kind && bytes_eq n name) + i) (stands.output_openings k n) ∙ sym (g.asks.counts.outputs k n);
  closings = stands.closings ∙ sym g.asks.counts.closings;
  runs = stands.runs ∙ sym g.asks.counts.runs;
  outputs =
      let x : Opening = record { output = NamedOutput kind name; bytes = [] } in
      let more : length (outputs_after (past ++ Requested (AsksOutput kind name mode true) ∷ [])) ≡ length (outputs_after past ++ x ∷ []) = ap (λ (os : List Opening). length os) (outputs_requested past (AsksOutput kind name mode true)) in
      let one : length (outputs_after past ++ x ∷ []) ≡ length (outputs_after past) + 1 = length-append (outputs_after past) (x ∷ []) in
      let before_it : s.outputs ≡ length (outputs_after past) = stands.outputs in
      omega arith;
  are = record {
    main = rest;
    named = subst (λ (i : ℕ). StandFor oracle after.log new.named (s.streams ++ words.AnOutput kind name i ∷ [])) (ap (λ (os : List Opening). length os) stands.printed ∙ sym stands.outputs) (g.named oracle s.streams stands.are.named);
  };
  printed = g.printed ∙ (ap (λ (os : List Opening). os ++ record { output = NamedOutput kind name; bytes = [] } ∷ []) stands.printed ∙ sym (outputs_requested past (AsksOutput kind name mode true)));
  turn = turn_brought oracle past (AsksOutput kind name mode true) first_stage (stage_of before.log old) (stage_of g.asks.log old) (stage_of after.log new) stands.turn (goes_bringing_if (words.is_output_command kind) before old g.asks.log g.asks.brings)
      (output_brought kind oracle old before s past g.asks.log stands g.asks.brings, (Some g.id, refl, stage_same after.log (OpenedOutput kind name mode (Some g.id) ∷ g.asks.log) (main_number new.main) (main_number old.main) (numbered new.named) (numbered old.named ++ (words.Output kind name, g.id) ∷ []) g.asks.adds (ap main_number main) g.numbers));
}

refused_stands : (oracle : Oracle) (kind : OutputKind) (name : List ℕ) (mode : Mode) (old new : StreamsView) (before after : WorldState) (s : State) (past : List Effect) → new.main ≡ old.main → IsMainRest oracle after.log new.main s.main
    → (g : RefusesOutput kind name mode before old after new) → StreamsRelation oracle old before s past
    → StreamsRelation oracle new after (output_counted kind name s) (past ++ Requested (AsksOutput kind name mode false) ∷ [])
refused_stands oracle kind name mode old new before after s past main rest g stands = record {
  outside = stands.outside;
  openings = λ k n. stands.openings k n ∙ sym (g.asks.counts.inputs k n);
  output_openings = λ k n. ap (λ (i : ℕ). one_if (same_output_kind k kind && bytes_eq n name) + i) (stands.output_openings k n) ∙ sym (g.asks.counts.outputs k n);
  closings = stands.closings ∙ sym g.asks.counts.closings;
  runs = stands.runs ∙ sym g.asks.counts.runs;
  outputs = stands.outputs ∙ sym (ap (λ (os : List Opening). length os) (outputs_requested past (AsksOutput kind name mode false)));
  are = record { main = rest; named = g.named oracle s.streams stands.are.named };
  printed = g.printed ∙ (stands.printed ∙ sym (outputs_requested past (AsksOutput kind name mode false)));
  turn = turn_brought oracle past (AsksOutput kind name mode false) first_stage (stage_of before.log old) (stage_of g.asks.log old) (stage_of after.log new) stands.turn (goes_bringing_if (words.is_output_command kind) before old g.asks.log g.asks.brings)
      (output_brought kind oracle old before s past g.asks.log stands g.asks.brings, (None, refl, stage_same after.log (OpenedOutput kind name mode None ∷ g.asks.log) (main_number new.main) (main_number old.main) (numbered new.named) (numbered old.named) g.asks.adds (ap main_number main) g.numbers));
}

output_answer : (oracle : Oracle) (kind : OutputKind) (name : List ℕ) (streams : StreamsView) (k : WorldState) (s : State) (past : List Effect) → StreamsRelation oracle streams k s past → s.outside.output kind name (s.output_openings kind name) ≡ oracle.output kind name (s.output_openings kind name)
output_answer oracle kind name streams k s past stands = ap (λ (a : Oracle). a.output kind name (s.output_openings kind name)) stands.outside

output_made : (kind : OutputKind) (name : List ℕ) (mode : Mode) (to : Target) {old new : Runtime} {before after : WorldState} → Beside old new → (told : OpensOutput kind name mode before old.streams (Ok to) after new.streams) → GrantsOutput kind name mode before old.streams to after new.streams → TargetOpened (open_output kind name mode) old before to new after
output_made kind name mode to {old = old} {new = new} {before = before} {after = after} beside told g = record {
  opening = length (printed_openings before old.streams);
  place = g.place;
  simulates = record {
    grows = told.grows;
    means = λ oracle s past consistent stands.
        let n : length (printed_openings before old.streams) ≡ s.outputs = ap (λ (os : List Opening). length os) stands.streams.printed ∙ sym stands.streams.outputs in
        let few : nat_le most_streams (length s.streams) ≡ false = lt-leb most_streams (length s.streams) (let same : length old.streams.named ≡ length s.streams = as_many oracle before.log old.streams.named s.streams stands.streams.are.named in let below = g.asks.few in omega arith) in
        let answer = output_answer oracle kind name old.streams before s past stands.streams ∙ (ap (λ (i : ℕ). oracle.output kind name i) (stands.streams.output_openings kind name) ∙ g.granted oracle consistent) in
        subst (λ (o : Out ℕ). ResultRelation oracle new after (Ok (length (printed_openings before old.streams))) o past) (sym (output_as_asked kind name mode s true (g.asks.lacks oracle s.streams stands.streams.are.named) few answer)) (
          ap (λ (i : ℕ). Ok i) (sym n),
          record {
            clear = told.failure ∙ stands.clear;
            streams = granted_stands oracle kind name mode to old.streams new.streams before after s past told.main (told.main_rest oracle s.main stands.streams.are.main) g stands.streams;
            holds = own_at new s s.openings _ (suc s.outputs) s.closings s.runs s.main _ (beside_holds beside stands.holds);
          },
        );
  };
}

output_refused : (kind : OutputKind) (name : List ℕ) (mode : Mode) {old new : Runtime} {before after : WorldState} → Beside old new → (told : OpensOutput kind name mode before old.streams (Err OutputNotOpened) after new.streams) → RefusesOutput kind name mode before old.streams after new.streams → SimulatesLogged old before new after (Err (halt.Fault faults.OutputNotOpened)) (open_output kind name mode)
output_refused kind name mode {old = old} {new = new} {before = before} {after = after} beside told g = record {
  grows = told.grows;
  means = λ oracle s past consistent stands.
      let few : nat_le most_streams (length s.streams) ≡ false = lt-leb most_streams (length s.streams) (let same : length old.streams.named ≡ length s.streams = as_many oracle before.log old.streams.named s.streams stands.streams.are.named in let below = g.asks.few in omega arith) in
      let answer = output_answer oracle kind name old.streams before s past stands.streams ∙ (ap (λ (i : ℕ). oracle.output kind name i) (stands.streams.output_openings kind name) ∙ g.refused oracle consistent) in
      subst (λ (o : Out ℕ). ResultRelation oracle new after (Err (halt.Fault faults.OutputNotOpened)) o past) (sym (output_as_asked kind name mode s false (g.asks.lacks oracle s.streams stands.streams.are.named) few answer)) (
        refl,
        record {
          clear = told.failure ∙ stands.clear;
          streams = refused_stands oracle kind name mode old.streams new.streams before after s past told.main (told.main_rest oracle s.main stands.streams.are.main) g stands.streams;
          holds = own_at new s s.openings _ s.outputs s.closings s.runs s.main s.streams (beside_holds beside stands.holds);
        },
      );
}

output_full : (kind : OutputKind) (name : List ℕ) (mode : Mode) {old new : Runtime} {before after : WorldState} → Beside old new → Grows before after → IsFullOfOutputs kind name before old.streams after new.streams → SimulatesLogged old before new after (Err (halt.Fault faults.TooManyStreams)) (open_output kind name mode)
output_full kind name mode {old = old} {new = new} {before = before} {after = after} beside grows g = record {
  grows = grows;
  means = λ oracle s past consistent stands.
      let full : nat_le most_streams (length s.streams) ≡ true = le-leb most_streams (length s.streams) (let same : length old.streams.named ≡ length s.streams = as_many oracle before.log old.streams.named s.streams stands.streams.are.named in let above = g.full in omega arith) in
      subst (λ (o : Out ℕ). ResultRelation oracle new after (Err (halt.Fault faults.TooManyStreams)) o past) (sym (output_as_full kind name mode s (g.lacks oracle s.streams stands.streams.are.named) full))
      (refl, stands_same oracle s past beside g.same g.world stands);
}

output_told : (kind : OutputKind) (name : List ℕ) (mode : Mode) (r : Result Target StreamFault) {old new : Runtime} {before after : WorldState} → Beside old new → OpensOutput kind name mode before old.streams r after new.streams → TargetTold (open_output kind name mode) old before (halted r) new after
output_told kind name mode (Ok to) beside told = elim told.opened [ inl f ↦ output_found kind name mode to beside told.grows f | inr g ↦ output_made kind name mode to beside told g ]
output_told kind name mode (Err OutputNotOpened) beside told = output_refused kind name mode beside told told.opened
output_told kind name mode (Err TooManyStreams) beside told = output_full kind name mode beside told.grows told.opened
output_told kind name mode (Err Memory) beside told = memory_loses (open_output kind name mode) told.grows told.opened told.failure
output_told kind name mode (Err WriteFailed) beside told = write_loses (open_output kind name mode) told.grows told.opened told.failure
output_told kind name mode (Err InputNotReadable) beside told = absurd told.opened
output_told kind name mode (Err RecordTooLong) beside told = absurd told.opened

pub output_opens : {is_logged : Type 0} (kind : OutputKind) (name : List ℕ) (mode : Mode) (r : Result Target StreamFault) {old new : Runtime} {before after : WorldState} → Beside old new → (is_logged → OpensOutput kind name mode before old.streams r after new.streams) → OpensTarget is_logged (open_output kind name mode) old before new after (halted r)
output_opens kind name mode r beside told = record { steps = omega (arith, beside.steps); names = beside.names; callers = callers_stay beside.frames; told = λ t. output_told kind name mode r beside (told t) }

-- want of memory before it

pub unopened : {is_logged : Type 0} (run : Run ℕ) (m : Runtime) (k : WorldState) → OpensTarget is_logged run m k m k (Err (halt.Fault faults.OutOfMemory))
unopened run m k = record { steps = omega arith; names = refl; callers = refl; told = λ t. memory_logged m k run }

-- the standard outputs

standard_by : (b c : Bool) (rest : Run ℕ) (to : Target) (m : Runtime) (k : WorldState) → (if b then Some target.StandardOutput else (if c then Some target.StandardError else None)) ≡ Some to → TargetTold (if b then ret 0 else (if c then ret 1 else rest)) m k (Ok to) m k
standard_by true c rest to m k e =
    let same : target.StandardOutput ≡ to = cc in
    subst (λ (x : Target). TargetOpened (ret 0) m k x m k) same (record { opening = 0; place = refl; simulates = lift_logged (Ok 0) m k refl })
standard_by false true rest to m k e =
    let same : target.StandardError ≡ to = cc in
    subst (λ (x : Target). TargetOpened (ret 1) m k x m k) same (record { opening = 1; place = refl; simulates = lift_logged (Ok 1) m k refl })
standard_by false false rest to m k e = absurd (cc)

pub standard_opens : {is_logged : Type 0} (name : List ℕ) (mode : Mode) (to : Target) (m : Runtime) (k : WorldState) → standard_named name ≡ Some to → OpensTarget is_logged (open_file name mode) m k m k (Ok to)
standard_opens name mode to m k e = record {
  steps = omega arith;
  names = refl;
  callers = refl;
  told = λ t. standard_by (bytes_eq name (codes "/dev/stdout")) (bytes_eq name (codes "/dev/stderr")) (open_output output.File name mode) to m k e;
}
