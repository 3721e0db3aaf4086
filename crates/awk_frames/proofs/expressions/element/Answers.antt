use Rattle.std.proofs.Common.{rules}
use Rattle.awk_grammar.specs.declared.tree.Expr.TheViews.{the_lemmas}
use Rattle.awk_frames.proofs.CheckedLists.{exprs_of_row-items}
use Rattle.awk_frames.proofs.expressions.element.Goals as goal

pub of-requires : goal.of-requires
of-requires c = search (rules, the_lemmas, exprs_of_row-items)

pub returns : goal.returns
returns c = search (rules, the_lemmas, exprs_of_row-items)
