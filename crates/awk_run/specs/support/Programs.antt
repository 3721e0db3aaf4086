-- Programs that were read from a text.
use Rattle.std.specs.Prelude.{List}
use Rattle.awk_grammar.specs.Tree.{Item}
use Rattle.awk_run.specs.declared.program.Program.{Program}
use Rattle.awk_run.specs.support.Planned.{IsProgramOf}

-- the program consists of these items
pub record Holds (items : List Item) (program : Program) : Type 0 where
  pub is : IsProgramOf items program.plan program.plan.kinds

-- there are items that it consists of, as those of the text that it was read from
pub record IsRead (program : Program) : Type 0 where
  pub items : List Item
  pub holds : Holds items program
