use Rattle.std.proofs.Common.{◌≡◌, ℕ, Bool, ◌==◌, true, not, List, [], ◌∷◌, length, refl, sym, ap, ◌∙◌}
use Rattle.awk_grammar.specs.View.{exprs_of}
use Rattle.awk_grammar.specs.declared.tree.Expr.{Expr}
use Rattle.awk_merging.specs.definitions.Sums.{Sum}
use Rattle.awk_merging.specs.definitions.Mergeable.{all_read_sums, are_printed}
use Rattle.awk_merging.specs.support.Others.{shown_in}
use Rattle.awk_merging.specs.support.SumsOf.{sums_of}
use Rattle.awk_merging.proofs.end_actions.are_printed.Goals as goal

printed : (sums : List Sum) (shown : List ℕ → Bool) (es : List Expr) → not (length es == 0) ≡ true →
    all_read_sums sums shown (exprs_of es) ≡ are_printed sums shown (exprs_of es)
printed sums shown [] some = sym some
printed sums shown (e ∷ es) some = refl

pub returns-then-not-is_empty : goal.returns-then-not-is_empty
returns-then-not-is_empty c =
    c.all_read_sums.ensures
    ∙ printed (sums_of c.args.others.now.sums.now) (shown_in c.args.others.now.known.now) c.args.list.now (ap not (sym c.is_empty.ensures ∙ c.if-not-is_empty.true))
