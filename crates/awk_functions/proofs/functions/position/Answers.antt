use Rattle.std.proofs.Common.{◌≡◌, ap, ◌∙◌, pos, to_z, arith}
use Rattle.std.proofs.lemmas.Int.{ints}
use mir.Syntax.{w128}
use Rattle.awk_value.specs.Values.{str_of}
use Rattle.awk_value.specs.declared.value.Value.TheVariants.{Number}
use Rattle.awk_semantics.specs.Texts.{position_of}
use Rattle.awk_functions.proofs.functions.position.Goals as goal

pub returns : goal.returns
returns c =
    let small : to_z w128 c.index-position.result ≡ pos c.index-position.result = omega (arith, ints) in
    let is : c.index-position.result ≡ position_of (str_of c.args.part.now) (str_of c.args.text.now) =
    (c.law_of_positions.ensures _ _ _).0 (rw (c.text_in-2.ensures, c.text_in.ensures) at c.index-position.ensures) in
    ap Number (small ∙ ap pos is)
