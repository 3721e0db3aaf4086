-- What the code's parser answers, seen as what the parser over lists does.
use Rattle.std.specs.Prelude.{◌≡◌, List, Option, Some, None, Result, Ok, Err}
use Rattle.awk_lex.specs.declared.refusal.Refusal.{Refusal}
use Rattle.awk_lex.specs.declared.refusal.RefusalCode.{RefusalCode}
use Rattle.awk_lex.specs.declared.refusal.RefusalCode.TheVariants.{NotAProgram, NestedTooDeep, OutOfMemory}
use Rattle.awk_grammar.specs.definitions.Tree as t
use Rattle.awk_grammar.specs.definitions.View.{tree_of}
use Rattle.awk_frames.specs.support.CheckedStatementNodes.{checked_items}
use Rattle.awk_grammar.specs.declared.tree.Tree.{Tree}
use Rattle.awk_frames.specs.declared.checked_statements.CheckedItems.{CheckedItems}

-- what is read of a whole text
abbrev pub found_of : Option (Option CheckedItems) → Option (Option (List t.Item))
found_of None = None
found_of (Some x) = Some (checked_items x)

-- what the code answers where the parser over lists answers this
abbrev pub Fails : RefusalCode → Option (Option (List t.Item)) → Type 0
Fails NotAProgram r = r ≡ None
Fails NestedTooDeep r = r ≡ Some None
Fails OutOfMemory r = Unit {0}
Fails code r = ⊥

abbrev pub Gives : Result Tree Refusal → Option (Option (List t.Item)) → Type 0
Gives (Ok tree) r = r ≡ Some (Some (tree_of tree))
Gives (Err refusal) r = Fails refusal.code r
