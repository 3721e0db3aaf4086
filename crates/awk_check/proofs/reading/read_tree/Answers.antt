use Rattle.awk_lex.specs.Told.{kinds_of}
use Rattle.awk_grammar.specs.View.{tree_of}
use Rattle.awk_check.proofs.reading.read_tree.Goals as goal

pub returns : goal.returns
returns c =
    let lexes = rw (← c.deref.ensures.value) at (c.in_ok-tokens.ensures.found) in
    let found = c.in_ok-tree.ensures.found in
    record {
      tokens = kinds_of c.deref.result.now;
      spelled = record { has = record { short = c.in_ok-tokens.ensures.short; lexes = lexes }; spells = found.0; low = found.1; readable = c.in_ok-tree.ensures.readable };
      fits = (c.law_of_refusals.ensures (tree_of c.in_ok-tree.tree)).fits c.in_ok-_plan.ensures.0;
    }
