use Rattle.std.proofs.Common.{List, ◌++◌, drop}
use Rattle.awk_grammar.specs.View.{exprs_of}
use Rattle.awk_resolve.specs.declared.node.ArgumentForm.{ArgumentForm}
use Rattle.awk_resolve.specs.support.Calls.{AreForms}
use Rattle.awk_resolve.proofs.calls.forms_of.Given as goal

abbrev pub invariant-loop-place : goal.invariant-loop-place
invariant-loop-place l = (more : List ArgumentForm) → AreForms l.scope l.are_arrays l.place more (exprs_of (drop l.place l.list)) → AreForms l.scope l.are_arrays 0 (l.forms.items ++ more) (exprs_of l.list)
