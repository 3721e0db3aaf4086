-- What is known of a program's names, all of it.
use Rattle.std.specs.Prelude.{List}
use Rattle.awk_grammar.specs.Tree.{Item}
use Rattle.awk_kinds.specs.declared.refusal.Known.{Known}
use Rattle.awk_kinds.specs.support.Functions.{HoldsFunctions}
use Rattle.awk_kinds.specs.support.Known.{HoldsUses, HoldsArrays}

pub record IsKnown (items : List Item) (known : Known) : Type 0 where
  pub uses : HoldsUses items known.uses
  pub functions : HoldsFunctions items known.functions
  pub arrays : HoldsArrays items known.arrays
