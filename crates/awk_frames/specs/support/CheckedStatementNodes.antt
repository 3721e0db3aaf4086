-- The trees that the code keeps, or none where they are too high.
use Rattle.std.specs.Prelude.{List, Option, Some, None}
use Rattle.awk_grammar.specs.definitions.Tree as t
use Rattle.awk_grammar.specs.definitions.View.{optional_expr_of, print_list_of, simple_of, optional_simple_of, statement_of, statements_of, pattern_of, item_of, items_of}
use Rattle.awk_frames.specs.declared.checked_statements.CheckedPrintList.{CheckedPrintList}
use Rattle.awk_frames.specs.declared.checked_statements.CheckedSimple.{CheckedSimple}
use Rattle.awk_frames.specs.declared.checked_statements.CheckedPart.{CheckedPart}
use Rattle.awk_frames.specs.declared.checked_statements.CheckedOptionalExpr.{CheckedOptionalExpr}
use Rattle.awk_frames.specs.declared.checked_statements.CheckedStatement.{CheckedStatement}
use Rattle.awk_frames.specs.declared.checked_statements.CheckedStatements.{CheckedStatements}
use Rattle.awk_frames.specs.declared.checked_statements.CheckedPattern.{CheckedPattern}
use Rattle.awk_frames.specs.declared.checked_statements.CheckedItem.{CheckedItem}
use Rattle.awk_frames.specs.declared.checked_statements.CheckedItems.{CheckedItems}

abbrev pub checked_print_list : Option CheckedPrintList → Option t.PrintList
checked_print_list None = None
checked_print_list (Some x) = Some (print_list_of x.list)

abbrev pub checked_simple : Option CheckedSimple → Option t.SimpleStatement
checked_simple None = None
checked_simple (Some x) = Some (simple_of x.simple)

-- an outer part of a `for`
abbrev pub checked_part : Option CheckedPart → Option t.OptionalSimple
checked_part None = None
checked_part (Some x) = Some (optional_simple_of x.part)

abbrev pub checked_optional_expr : Option CheckedOptionalExpr → Option t.OptionalExpr
checked_optional_expr None = None
checked_optional_expr (Some x) = Some (optional_expr_of x.expr)

abbrev pub checked_statement : Option CheckedStatement → Option t.Statement
checked_statement None = None
checked_statement (Some x) = Some (statement_of x.statement.value)

abbrev pub checked_statements : Option CheckedStatements → Option t.Statements
checked_statements None = None
checked_statements (Some x) = Some (statements_of x.statements.items)

abbrev pub checked_pattern : Option CheckedPattern → Option t.Pattern
checked_pattern None = None
checked_pattern (Some x) = Some (pattern_of x.pattern)

abbrev pub checked_item : Option CheckedItem → Option t.Item
checked_item None = None
checked_item (Some x) = Some (item_of x.item)

abbrev pub checked_items : Option CheckedItems → Option (List t.Item)
checked_items None = None
checked_items (Some x) = Some (items_of x.items.items)
