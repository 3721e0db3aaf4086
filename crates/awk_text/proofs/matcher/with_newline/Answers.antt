use Rattle.std.proofs.Common.{Bool, sym, subst}
use Rattle.awk_ere.specs.definitions.Tree.{Tree}
use Rattle.awk_ere.specs.definitions.Means.{Means}
use Rattle.std.specs.Prelude.{IfOk}
use Rattle.awk_text.specs.definitions.Separators.{or_newline}
use Rattle.awk_text.proofs.SplitterStands.{newline_means}
use Rattle.awk_text.proofs.matcher.with_newline.Goals as goal

pub returns-then-newline_too-clause-means : goal.returns-then-newline_too-clause-means
returns-then-newline_too-clause-means c =
    subst (λ (n : Bool). (t : Tree) → Means t c.args.pattern → IfOk c.map_err.result (Means (or_newline n t))) (sym c.if-newline_too.true)
    (newline_means c.args.pattern c.or_newline.result c.map_err.result _ c.or_newline.ensures c.map_err.ensures.cases c.map_err.ensures.variant)
