use Rattle.std.proofs.Common.{Ok, sym, ap, ◌∙◌}
use Rattle.awk_value.specs.Values.{str_of}
use Rattle.awk_semantics.specs.Operators.{line_of}
use Rattle.awk_kinds.specs.declared.special.Special.TheVariants.{Ofs, Ors}
use Rattle.awk_kinds.specs.Variables.{value_of, name_of}
use Rattle.awk_streams.specs.declared.streams.Target.TheVariants as target
use Rattle.awk_streams.specs.Streams.{StreamsView}
use Rattle.awk_runtime.proofs.Prints.{values_printed, line_between, held_behind, lent_printed}
use Rattle.awk_runtime.proofs.Turns.{written}
use Rattle.awk_runtime.proofs.runtime.Runtime.hold_line.Goals as goal

pub returns-clause-prints : goal.returns-clause-prints
returns-clause-prints g c = λ holds.
    let s : StreamsView = c.args.self.now.streams in
    values_printed (Ok tt) target.StandardOutput c.args.values.now (line_of c.as_slice.result.now c.as_slice-2.result.now c.args.values.now)
    (line_between c.as_slice.result.now (str_of (value_of c.args.self.now.specials (name_of Ofs))) c.as_slice-2.result.now (str_of (value_of c.args.self.now.specials (name_of Ors))) c.args.values.now
    (c.as_slice.ensures ∙ sym (c.in-Some.ensures {u = tt}) ∙ ap str_of c.special.ensures)
    (c.as_slice-2.ensures ∙ sym (c.in-Some-text_at_hand.ensures {u = tt}) ∙ ap str_of c.special-2.ensures))
    (written _ _ _ _)
    (λ t. lent_printed _ s c.lend_output-held.new.self _ (line_of c.as_slice.result.now c.as_slice-2.result.now c.args.values.now) c.lend_output-held.ensures.rest
    (λ open' sound. c.take_output_back.ensures.told s.output (line_of c.as_slice.result.now c.as_slice-2.result.now c.args.values.now) (held_behind c.append_line-holds.result _ _ s.output _ holds c.lend_output-held.ensures.lent c.append_line-holds.ensures) _ open' sound)
    c.requires.ready.are_open (c.requires.ready.are_sound t))
    tt
