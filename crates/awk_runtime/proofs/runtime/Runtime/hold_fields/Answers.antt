use Rattle.std.proofs.Common.{◌≡◌, Ok, [], ◌∷◌, map, refl, sym, ap, ◌∙◌}
use Rattle.std.proofs.lemmas.List.{append-nil}
use Rattle.awk_value.specs.Values.{str_of}
use Rattle.awk_value.specs.declared.value.Value.TheVariants.{Input}
use Rattle.awk_record.specs.Record.{RecordPair}
use Rattle.awk_semantics.specs.Operators.{join, line_of}
use Rattle.awk_semantics.specs.Primitives.{print_line}
use Rattle.awk_kinds.specs.declared.special.Special.TheVariants.{Ofs}
use Rattle.awk_kinds.specs.Variables.{value_of, name_of}
use Rattle.awk_streams.specs.declared.streams.Target.TheVariants as target
use Rattle.awk_streams.specs.Streams.{StreamsView}
use Rattle.awk_runtime.proofs.Prints.{values_printed, line_of_text, changed_and_printed, printed_to_output, held_behind, lent_printed, fields_joined}
use Rattle.awk_runtime.proofs.Steps.{still}
use Rattle.awk_runtime.proofs.Turns.{written}
use Rattle.awk_runtime.proofs.Words.{text_changes}
use Rattle.awk_runtime.proofs.runtime.Runtime.hold_fields.Goals as goal

pub returns-clause-follows : goal.returns-clause-follows
returns-clause-follows g c = λ holds functions.
    let m = c.args.self.now in
    let s : StreamsView = m.streams in
    let fields = c.in-Some.fields.now in
    let between = c.in-Some.between.now in
    let end = c.as_slice.result.now in
    let text = Input m.current.text in
    let line = line_of between end fields in
    let whole : join (str_of (value_of m.specials (name_of Ofs))) (map str_of (text ∷ [])) ≡ join between (map str_of fields) =
    append-nil m.current.text ∙ (sym (ap (λ (r : RecordPair). r.text) c.lend_once.ensures.same) ∙ sym (fields_joined between fields ∙ c.in-Some.ensures {u = tt})) in
    rw c.lend_once.ensures.same (printed_to_output _ (changed_and_printed _ (λ v n. print_line n (v ∷ [])) (text_changes {v = text} (still m) refl)
    (values_printed (Ok tt) target.StandardOutput (text ∷ []) line
    (line_of_text (str_of (value_of m.specials (name_of Ofs))) _ (join between (map str_of fields)) end (text ∷ []) whole (sym (ap str_of c.special.ensures) ∙ c.in-Some-text_at_hand.ensures {u = tt} ∙ sym c.as_slice.ensures))
    (written _ _ _ _)
    (λ t. lent_printed _ s c.lend_output-held.new.self _ line c.lend_output-held.ensures.rest
    (λ open' sound. c.take_output_back.ensures.told s.output line (held_behind c.append_line-holds.result _ _ s.output _ holds c.lend_output-held.ensures.lent c.append_line-holds.ensures) _ open' sound)
    c.requires.ready.are_open (c.requires.ready.are_sound t))
    tt)))
