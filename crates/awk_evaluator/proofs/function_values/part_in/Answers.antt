use Rattle.std.proofs.Common.{◌≡◌, rules, ap, ◌∙◌, to_z, of_z}
use mir.Syntax.{w128}
use Rattle.awk_value.specs.declared.value.Value.TheVariants.{Text}
use Rattle.awk_text.specs.Functions.{substr_of}
use Rattle.awk_text.specs.Pieces.{stretch_at}
use Rattle.awk_evaluator.proofs.AppliedValues.{part_cut}
use Rattle.awk_evaluator.proofs.function_values.part_in.Goals as goal

pub returns-in-Ok : goal.returns-in-Ok
returns-in-Ok c =
    let passed : to_z w128 (of_z w128 c.args.positions.start) ≡ c.args.positions.start = search rules in
    let here = stretch_at c.args.text.now c.args.span in
    let within = rw c.as_slice.ensures at c.substr-part.ensures.within in
    let bytes : stretch_at here c.substr-part.result ≡ substr_of here c.args.positions.start c.args.positions.count = rw (c.as_slice.ensures, passed) at c.substr-part.ensures.bytes in
    ap Text (c.in-Ok.ensures ∙ part_cut c.args.text.now c.args.span c.substr-part.result c.requires within ∙ bytes)
