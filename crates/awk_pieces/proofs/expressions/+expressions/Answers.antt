use Rattle.std.proofs.Common.{◌≡◌, true, false, sym, ◌∙◌, rules}
use Rattle.awk_grammar.specs.Tree as tree
use Rattle.awk_grammar.specs.View.{expr_of, exprs_of}
use Rattle.awk_grammar.specs.declared.tree.Expr.TheViews.{the_lemmas}
use Rattle.awk_kinds.proofs.Rows.{row_is_list}
use Rattle.awk_pieces.specs.definitions.Pieceable.{may_be_called, is_filled}
use Rattle.awk_pieces.proofs.expressions.+expressions.Goals as goal

pub keeps_to_record-returns-then-may_be_called : goal.keeps_to_record-returns-then-may_be_called
keeps_to_record-returns-then-may_be_called g t c =
    let is : expr_of c.args.e.now ≡ tree.BuiltIn c.in-BuiltIn.function (exprs_of c.in-BuiltIn.arguments.items) = search (rules, the_lemmas, row_is_list) in
    let may : may_be_called (g.R.Readable.own c.args.readable.now) (g.R.Readable.arrays c.args.readable.now) c.in-BuiltIn.function (exprs_of c.in-BuiltIn.arguments.items) ≡ true = sym (rw c.deref-in-BuiltIn.ensures.value at c.may_be_called.ensures) ∙ c.if-may_be_called.true in
    rw (is, may) (rw (c.fills_array.ensures, c.deref-then-may_be_called.ensures.value) at c.arguments_keep_to_record.ensures)

pub keeps_to_record-returns-else-may_be_called : goal.keeps_to_record-returns-else-may_be_called
keeps_to_record-returns-else-may_be_called g t c =
    let is : expr_of c.args.e.now ≡ tree.BuiltIn c.in-BuiltIn.function (exprs_of c.in-BuiltIn.arguments.items) = search (rules, the_lemmas, row_is_list) in
    let may : may_be_called (g.R.Readable.own c.args.readable.now) (g.R.Readable.arrays c.args.readable.now) c.in-BuiltIn.function (exprs_of c.in-BuiltIn.arguments.items) ≡ false = sym (rw c.deref-in-BuiltIn.ensures.value at c.may_be_called.ensures) ∙ c.if-may_be_called.false in
    rw (is, may) c.if-may_be_called.false

pub keeps_to_record-returns-then-is_filled : goal.keeps_to_record-returns-then-is_filled
keeps_to_record-returns-then-is_filled g t c =
    let is : expr_of c.args.e.now ≡ tree.Element c.in-Element.array (exprs_of c.in-Element.subscripts.items) = search (rules, the_lemmas, row_is_list) in
    let filled : is_filled (g.R.Readable.own c.args.readable.now) (g.R.Readable.arrays c.args.readable.now) (g.R.Readable.known c.args.readable.now) c.in-Element.array ≡ true = sym (rw c.as_slice-in-Element.ensures at c.is_filled.ensures) ∙ c.if-is_filled.true in
    rw (is, filled) (rw c.deref-then-is_filled.ensures.value at c.all_keep_to_record.ensures)

pub keeps_to_record-returns-then-is_filled-2 : goal.keeps_to_record-returns-then-is_filled-2
keeps_to_record-returns-then-is_filled-2 g t c =
    let is : expr_of c.args.e.now ≡ tree.ListMembership (exprs_of c.in-ListMembership.subscripts.items) c.in-ListMembership.array = search (rules, the_lemmas, row_is_list) in
    let filled : is_filled (g.R.Readable.own c.args.readable.now) (g.R.Readable.arrays c.args.readable.now) (g.R.Readable.known c.args.readable.now) c.in-ListMembership.array ≡ true = sym (rw c.as_slice-in-ListMembership.ensures at c.is_filled-in-ListMembership.ensures) ∙ c.if-is_filled-2.true in
    rw (is, filled) (rw c.deref-then-is_filled-2.ensures.value at c.all_keep_to_record-then-is_filled-2.ensures)
