use Rattle.std.proofs.Common.{ap}
use Rattle.awk_grammar.specs.View.{expr_of}
use Rattle.awk_resolve.proofs.ListForms.{two_exprs, three_exprs}
use Rattle.awk_resolve.proofs.SubstituteForms.{record_exchange_found, variable_exchange_found}
use Rattle.awk_resolve.proofs.builder.Builder.exchange_of.Goals as goal

pub returns-in_ok-exchange_by-in-len2 : goal.returns-in_ok-exchange_by-in-len2
returns-in_ok-exchange_by-in-len2 c =
    rw (two_exprs c.args.list.now c.pattern-item.result c.replacement-item.result c.in-len2.len_at_least c.in-len2.len_below c.pattern-item.is c.replacement-item.is, c.in-Some.ensures.0, c.in-Some.ensures.1)
    (record_exchange_found c.args.all _ _ c.in_ok-exchange_by-in-len2.ensures)

pub returns-in_ok-exchange_by-in-len3 : goal.returns-in_ok-exchange_by-in-len3
returns-in_ok-exchange_by-in-len3 c =
    rw (
      three_exprs c.args.list.now c.pattern-item-then-list-lt4.result c.replacement-item-then-list-lt4.result c.variable-item.result c.in-len3.len_at_least c.in-len3.len_below c.pattern-item-then-list-lt4.is c.replacement-item-then-list-lt4.is c.variable-item.is,
      c.in-Some-ere_and_string.ensures.0,
      c.in-Some-ere_and_string.ensures.1,
      ap expr_of c.in-Name.is,
    )
    (variable_exchange_found c.args.all _ _ (rw c.as_slice.ensures at c.in_ok-variable_of-in-len3.ensures) c.in_ok-exchange_by-in-len3.ensures)
