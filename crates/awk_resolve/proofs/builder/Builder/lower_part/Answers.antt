use Rattle.std.proofs.Common.{◌≡◌, refl, ap, ◌∙◌}
use Rattle.awk_grammar.specs.declared.tree.SimpleStatement.{SimpleStatement as CodeSimple}
use Rattle.awk_grammar.specs.declared.tree.SimpleStatement.TheVariants as code
use Rattle.awk_grammar.specs.Tree as tree
use Rattle.awk_grammar.specs.View.{simple_of, optional_simple_of}
use Rattle.awk_resolve.proofs.Building.{ok_map}
use Rattle.awk_resolve.proofs.SimpleStatements.{no_part_built, plain_part_built}
use Rattle.awk_resolve.proofs.builder.Builder.lower_part.Goals as goal

-- what is no `return` in the code is none
no_return : (m : CodeSimple) → ((e : _) → m ≡ code.Return e → ⊥) → (e : tree.OptionalExpr) → simple_of m ≡ tree.Return e → ⊥
no_return (code.Return x) h e is = h x refl
no_return m h e is = cc

pub returns-in_default : goal.returns-in_default
returns-in_default c = rw (ap optional_simple_of c.in_default.is) (no_part_built c.requires)

pub returns-in-Return : goal.returns-in-Return
returns-in-Return c = rw (ap optional_simple_of c.in-Some.is ∙ ap (λ m. tree.ASimple (simple_of m)) c.in-Return.is) c.lower_useless_return.ensures

pub returns-in_default-simple : goal.returns-in_default-simple
returns-in_default-simple c =
    rw (ap optional_simple_of c.in-Some.is) (ok_map _ (λ i q. plain_part_built (no_return c.in-Some.simple c.in_default-simple.not-Return) q) c.lower_simple.ensures)
