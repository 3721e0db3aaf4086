use Rattle.std.proofs.Common.{subst}
use Rattle.awk_text.specs.declared.separator.Separator.{Separator as CodeSeparator}
use Rattle.awk_text.specs.definitions.Separators.{IsSeparator}
use Rattle.awk_text.proofs.SplitterStands.{stands_ere}
use Rattle.awk_text.proofs.splitter.Splitter.of.Goals as goal

pub returns-in_ok-of-in-Ere-clause-stands : goal.returns-in_ok-of-in-Ere-clause-stands
returns-in_ok-of-in-Ere-clause-stands c = λ s is.
    stands_ere c.args.newline_too c.in-Ere.pattern c.in_ok-of-in-Ere.field-0 c.in_ok-of-in-Ere.ensures.means s (subst (λ (made : CodeSeparator). IsSeparator s made) c.in-Ere.is is)
