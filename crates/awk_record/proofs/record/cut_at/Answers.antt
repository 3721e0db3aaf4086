use Rattle.std.proofs.Common.{refl, sym, ap, Option}
use Rattle.std.specs.Prelude.{unwrap_or}
use Rattle.awk_value.specs.declared.value.Value.{Value}
use Rattle.awk_value.specs.declared.value.Value.TheVariants.{Nothing}
use Rattle.awk_record.proofs.FieldOfPieces.{cut_value, no_value}
use Rattle.awk_record.proofs.record.cut_at.Goals as goal

pub returns-in_ok-cut-in-Some-clause-value : goal.returns-in_ok-cut-in-Some-clause-value
returns-in_ok-cut-in-Some-clause-value c =
    let found = c.in_ok-span.ensures in
    cut_value c.args.text.now c.args.text.now c.args.fields.now.separator c.args.index c.in_ok-span.field-0 c.in-Some.span c.in_ok-cut-in-Some.field-0
    refl c.in-Some.is found.within found.value c.in_ok-cut-in-Some.ensures

pub returns-in-None-clause-value : goal.returns-in-None-clause-value
returns-in-None-clause-value c =
    let none = no_value c.args.text.now c.args.text.now c.args.fields.now.separator c.args.index c.in_ok-span.field-0 refl c.in-None.is c.in_ok-span.ensures.value in
    ap (λ (o : Option Value). unwrap_or o Nothing) (sym none)

pub returns-in-None-clause-none : goal.returns-in-None-clause-none
returns-in-None-clause-none c = λ _.
    no_value c.args.text.now c.args.text.now c.args.fields.now.separator c.args.index c.in_ok-span.field-0 refl c.in-None.is c.in_ok-span.ensures.value
