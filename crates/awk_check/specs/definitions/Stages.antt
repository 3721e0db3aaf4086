-- The programs of the two stages in which a program that sums up may run.
use Rattle.std.specs.Prelude.{List}
use Rattle.awk_grammar.specs.Tree.{Item}
use Rattle.awk_merging.specs.definitions.Derived.{each_of, all_of}
use Rattle.awk_check.specs.declared.stage.Stage.{Stage}
use Rattle.awk_check.specs.declared.stage.Stage.TheVariants as stage

abbrev pub program_of : Stage → List Item → List Item
program_of stage.Each items = each_of items
program_of stage.All items = all_of items
