use Rattle.std.proofs.Common.{◌≡◌, ap, ◌∙◌, sym, arith, to_z}
use Rattle.std.proofs.lemmas.Int.{ints}
use mir.Syntax.{w128}
use mir.Val.{of_z}
use Rattle.awk_value.specs.declared.value.Value.TheVariants.{Text}
use Rattle.awk_text.specs.Functions.{substr_of}
use Rattle.awk_text.specs.Pieces.{stretch_at}
use Rattle.awk_value.proofs.CutOfCut.{drop_of_take}
use Rattle.awk_functions.proofs.functions.shared_part.Goals as goal

pub returns : goal.returns
returns c =
    let span = c.substr-span.result in
    let passed : to_z w128 (of_z w128 c.args.start) ≡ c.args.start = omega (arith, ints) in
    let bytes : stretch_at c.args.text.now span ≡ substr_of c.args.text.now c.args.start c.args.count = rw (c.as_slice.ensures, passed) at c.substr-span.ensures.bytes in
    ap Text (c.in_ok-cut.ensures ∙ sym (drop_of_take c.args.text.now span.start span.end c.substr-span.ensures.within.0) ∙ bytes)
