use Rattle.std.proofs.Common.{◌∙◌}
use Rattle.std.proofs.lemmas.Bool.Decides.{Decides-eqb}
use Rattle.std.proofs.lemmas.Slice.Eq.{strip_prefix_is}
use Rattle.std.specs.Prelude.{None, Some}
use Rattle.awk_ere.specs.declared.class_name.ClassName.TheVariants.{Alnum}
use Rattle.awk_ere.proofs.ClassNameRoundTrip.{name_found, name_passed}
use Rattle.awk_ere.proofs.class_name.name_at.Goals as goal

pub returns-in-Some : goal.returns-in-Some
returns-in-Some c =
    let text = c.args.bytes.now in
    let name = c.text.result.now in
    name_found c.loop-name.name-index Alnum name text c.in-Some.rest.now c.loop-name-test.true c.text.ensures (strip_prefix_is Decides-eqb text name (Some c.in-Some.rest) c.in-Some.ensures.cases)
    ∙ c.loop-name.invariant

pub loop-name-preserved : goal.loop-name-preserved
loop-name-preserved c =
    let text = c.args.bytes.now in
    let name = c.text.result.now in
    name_passed c.loop-name.name-index Alnum name text c.loop-name-test.true c.text.ensures (strip_prefix_is Decides-eqb text name None c.in_default.ensures.cases)
    ∙ c.loop-name.invariant
