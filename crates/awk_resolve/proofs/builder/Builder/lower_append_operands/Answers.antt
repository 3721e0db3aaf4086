use Rattle.std.proofs.Common.{◌≡◌, true, rules, ◌∙◌}
use Rattle.awk_grammar.specs.View.{expr_of}
use Rattle.awk_resolve.specs.support.Parts.{is_concatenation}
use Rattle.awk_resolve.proofs.Building.{extends}
use Rattle.awk_resolve.proofs.AppendsInPlace.{append_operands_built}
use Rattle.awk_resolve.proofs.builder.Builder.lower_append_operands.Goals as goal

pub returns-in_default-3 : goal.returns-in_default-3
returns-in_default-3 c =
    let target = rw c.in-Some.is at c.in_ok-target.ensures in
    extends target.extends (rw c.in_default-3.is at c.in_ok-parts.ensures)

pub returns : goal.returns
returns c =
    let target = rw c.in-Some.is at c.in_ok-target.ensures in
    let parts = rw c.in-Some-2.is at c.in_ok-parts.ensures in
    let join : is_concatenation (expr_of c.args.e.now) ≡ true = search rules in
    let same : c.is_same_place.result ≡ true = search rules in
    rw c.in-Plain.is (append_operands_built c.requires.next target parts join (c.is_same_place.ensures same ∙ c.first_part.ensures) c.in_ok-append.ensures)
