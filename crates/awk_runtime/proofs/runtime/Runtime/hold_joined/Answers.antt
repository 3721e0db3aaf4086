use Rattle.std.proofs.Common.{Ok, sym, ap, ◌∙◌}
use Rattle.awk_value.specs.Values.{str_of}
use Rattle.awk_streams.specs.declared.streams.Target.TheVariants as target
use Rattle.awk_runtime.proofs.Prints.{values_printed, line_of_text}
use Rattle.awk_runtime.proofs.Turns.{written}
use Rattle.awk_runtime.proofs.runtime.Runtime.hold_joined.Goals as goal

pub returns-clause-prints : goal.returns-clause-prints
returns-clause-prints g c = λ h values is. values_printed (Ok tt) target.StandardOutput values _ (line_of_text _ _ c.args.line.now c.as_slice.result.now values (sym is) (sym (ap str_of c.special.ensures) ∙ c.in-Some.ensures ∙ sym c.as_slice.ensures)) (written _ _ _ _) (λ t. c.hold.ensures.told h _ c.requires.ready.are_open (c.requires.ready.are_sound t)) tt
