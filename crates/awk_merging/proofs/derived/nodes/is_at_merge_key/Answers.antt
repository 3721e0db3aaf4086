use Rattle.std.proofs.Common.{◌≡◌, rules, sym, ap, ◌∙◌}
use Rattle.std.proofs.lemmas.Slice.Eq.{bytes_eq-Decides}
use Rattle.awk_grammar.specs.declared.tree.Expr.TheViews.{the_lemmas}
use Rattle.awk_grammar.specs.Tree as tree
use Rattle.awk_grammar.specs.View.{expr_of, exprs_of}
use Rattle.awk_kinds.proofs.Rows.{row_is_list}
use Rattle.awk_merging.specs.definitions.Sums.{at_merge_key}
use Rattle.awk_merging.proofs.derived.nodes.is_at_merge_key.Goals as goal

pub returns-then-eq : goal.returns-then-eq
returns-then-eq c = λ ok.
    let p = c.in-Element in
    let es = exprs_of p.list.items in
    let is : expr_of c.args.e.now ≡ tree.Element p.x es = search (rules, the_lemmas, row_is_list) in
    let decides = bytes_eq-Decides c.as_slice.result.now c.args.array.now in
    let name = sym c.as_slice.ensures ∙ decides.0 (sym c.if-eq.ensures) in
    let list = ap exprs_of (sym c.deref.ensures.value) ∙ c.is_only_merge_key.ensures ok in
    is ∙ ap (λ es. tree.Element p.x es) list ∙ ap at_merge_key name
