use Rattle.std.proofs.Common.{◌++◌, ◌∙◌, subst}
use Rattle.awk_grammar.specs.View.{items_of}
use Rattle.awk_kinds.specs.support.Graph.{special_uses}
use Rattle.awk_kinds.specs.support.Arrays.{MarksLeast}
use Rattle.awk_kinds.proofs.ArraysHeld.{holds_arrays}
use Rattle.awk_kinds.proofs.refusal.Known.of_items.Goals as goal

pub returns : goal.returns
returns c =
    let functions = c.in_ok-functions.functions in
    let arrays = c.in_ok-arrays.arrays in
    record {
      uses = c.in_ok-uses.ensures;
      functions = c.in_ok-functions.ensures;
      arrays = holds_arrays (items_of c.args.items.now) functions arrays c.in_ok-functions.ensures
          (subst (λ us. MarksLeast functions (special_uses ++ us) arrays) (c.deref.ensures.value ∙ c.in_ok-uses.ensures.arrays) c.in_ok-arrays.ensures);
    }
