-- Which items of a program a derived one has, as the code tells them.
use Rattle.std.specs.Prelude.{Bool, true, false, List}
use Rattle.awk_grammar.specs.Tree.{Item, Begin, End}
use Rattle.awk_merging.specs.declared.derived.Kept.{Kept}
use Rattle.awk_merging.specs.declared.derived.Kept.TheVariants as kept
use Rattle.awk_merging.specs.definitions.Derived.{without_ends, begins_of, ends_of}

abbrev pub is_kept : Kept → Item → Bool
is_kept kept.Begins (Begin block) = true
is_kept kept.Begins x = false
is_kept kept.Ends (End block) = true
is_kept kept.Ends x = false
is_kept kept.AllButEnds (End block) = false
is_kept kept.AllButEnds x = true

abbrev pub kept_of : Kept → List Item → List Item
kept_of kept.Begins items = begins_of items
kept_of kept.Ends items = ends_of items
kept_of kept.AllButEnds items = without_ends items
