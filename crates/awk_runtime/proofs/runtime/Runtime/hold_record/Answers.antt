use Rattle.std.proofs.Common.{Ok, [], ◌∷◌, sym, ap, ◌∙◌}
use Rattle.std.proofs.lemmas.List.{append-nil}
use Rattle.awk_value.specs.Values.{str_of}
use Rattle.awk_value.specs.declared.value.Value.TheVariants.{Input}
use Rattle.awk_semantics.specs.Primitives.{print_line}
use Rattle.awk_kinds.specs.declared.special.Special.TheVariants.{Ofs}
use Rattle.awk_kinds.specs.Variables.{value_of, name_of}
use Rattle.awk_streams.specs.declared.streams.Target.TheVariants as target
use Rattle.awk_runtime.proofs.Prints.{values_printed, line_of_text, changed_and_printed, printed_to_output}
use Rattle.awk_runtime.proofs.Steps.{still}
use Rattle.awk_runtime.proofs.Turns.{written}
use Rattle.awk_runtime.proofs.Words.{text_changes}
use Rattle.awk_runtime.proofs.runtime.Runtime.hold_record.Goals as goal

pub returns-clause-follows : goal.returns-clause-follows
returns-clause-follows g c = λ holds functions.
    let text = Input c.in-Some.text.now in
    printed_to_output _ (changed_and_printed _ (λ v n. print_line n (v ∷ [])) (text_changes {v = text} (still c.args.self.now) (ap (λ t. Input t) (c.in-Some.ensures {u = tt})))
    (values_printed (Ok tt) target.StandardOutput (text ∷ []) _ (line_of_text (str_of (value_of c.args.self.now.specials (name_of Ofs))) _ c.as_slice.result.now c.as_slice-2.result.now (text ∷ []) (append-nil c.in-Some.text.now ∙ sym c.as_slice.ensures) (sym (ap str_of c.special.ensures) ∙ c.in-Some-text_at_hand.ensures ∙ sym c.as_slice-2.ensures)) (written _ _ _ _) (λ t. c.hold.ensures.told holds _ c.requires.ready.are_open (c.requires.ready.are_sound t)) tt))
