use Rattle.std.proofs.Common.{◌≡◌, pos, Ok, [], ◌∷◌, sym, ap, ◌∙◌, to_z, of_z, arith}
use Rattle.std.specs.Int.{w128}
use Rattle.std.proofs.lemmas.Int.{ints}
use Rattle.std.proofs.lemmas.List.{append-nil}
use Rattle.awk_value.specs.Values.{str_of}
use Rattle.awk_value.specs.declared.value.Value.{Value}
use Rattle.awk_value.specs.declared.value.Value.TheVariants.{Input}
use Rattle.awk_text.specs.Pieces.{stretch_at}
use Rattle.awk_record.specs.Record.{RecordPair}
use Rattle.awk_streams.specs.declared.streams.Target.TheVariants as target
use Rattle.awk_grammar.specs.declared.tree.PrintForm.TheVariants.{Print}
use Rattle.awk_kinds.specs.declared.special.Special.TheVariants.{Ofs}
use Rattle.awk_kinds.specs.Variables.{value_of, name_of}
use Rattle.awk_semantics.specs.Faults.{of_record}
use Rattle.awk_semantics.specs.State.{◌>>=◌, ret}
use Rattle.awk_semantics.specs.Primitives.{print_line}
use Rattle.awk_semantics.specs.Semantics.{print_by}
use Rattle.awk_runtime.proofs.Composition.{change_simulates, then_simulates}
use Rattle.awk_runtime.proofs.Prints.{values_printed, line_of_text, printed_to_output}
use Rattle.awk_runtime.proofs.Steps.{still}
use Rattle.awk_runtime.proofs.Turns.{written}
use Rattle.awk_runtime.proofs.Words.{field_changes}
use Rattle.awk_runtime.proofs.runtime.Runtime.hold_field.Goals as goal

pub returns-clause-follows : goal.returns-clause-follows
returns-clause-follows g c = λ holds functions.
    let m = c.args.self.now in
    let span = c.in-Some.span in
    let w : Value = Input (stretch_at m.current.text span) in
    let number : to_z w128 (of_z w128 c.args.number) ≡ c.args.number = omega (arith, ints) in
    let read = field_changes c.args.number (still m) (ap of_record (rw number at c.in-Some.ensures.field)) in
    let front = append-nil (stretch_at m.current.text span) ∙ sym (ap (λ t. stretch_at t span) (c.as_slice.ensures ∙ c.in-Some-text_at_hand.ensures ∙ ap (λ (r : RecordPair). r.text) c.stretch.ensures.same)) in
    let printed = printed_to_output (λ n. print_line n (w ∷ [])) (values_printed (Ok tt) target.StandardOutput (w ∷ []) _ (line_of_text (str_of (value_of m.specials (name_of Ofs))) _ _ c.as_slice-2.result.now (w ∷ []) front (sym (ap str_of c.special.ensures) ∙ c.in-Some-text_at_hand-2.ensures ∙ sym c.as_slice-2.ensures)) (written _ _ _ _) (λ t. c.hold.ensures.told holds _ c.requires.ready.are_open (c.requires.ready.are_sound t)) tt) in
    rw c.stretch.ensures.same (record { simulates = then_simulates (λ x. ret 0 >>= λ n. print_by functions Print n (x ∷ [])) (change_simulates read) printed.simulates; callers = printed.callers })

pub returns-then-number-eq0-clause-follows : goal.returns-then-number-eq0-clause-follows
returns-then-number-eq0-clause-follows g c = λ holds functions.
    let zero : c.args.number ≡ pos 0 = omega (arith, ints) in
    rw zero (c.hold_whole.ensures.follows holds functions)
