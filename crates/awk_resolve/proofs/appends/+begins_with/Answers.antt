use Rattle.std.proofs.Common.{sym, ap, ◌∙◌}
use Rattle.awk_grammar.specs.View.{expr_of}
use Rattle.awk_resolve.proofs.appends.+begins_with.Goals as goal

pub returns-in-Name : goal.returns-in-Name
returns-in-Name t c = λ h. rw (ap expr_of c.in-Name.is, ← c.as_slice.ensures) (sym c.eq.ensures ∙ h)
