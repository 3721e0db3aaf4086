use Rattle.std.proofs.Common.{ℕ, ◌+◌, ◌*◌, max, drop, Option, Some, None}
use Rattle.std.specs.Global.{Box}
use Rattle.awk_grammar.specs.declared.tree.Expr.{Expr, size-Expr}
use Rattle.awk_grammar.specs.View.{exprs_of}
use Rattle.awk_resolve.specs.support.Builds.{Stands, EvaluateAll, EvaluateArguments}
use Rattle.awk_resolve.specs.support.Calls.{arrays_of, roles_from}
use Rattle.awk_resolve.specs.support.Scopes.{Builds}
use Rattle.awk_resolve.proofs.builder.Builder.+expressions.Given as goal

abbrev optional_size : Option (Box Expr) → ℕ
optional_size None = 0
optional_size (Some e) = size-Expr e.value

abbrev pub invariant-lower_all-loop-i : goal.invariant-lower_all-loop-i
invariant-lower_all-loop-i l = Builds l.scope l.fn.self l.self l.rest (EvaluateAll (exprs_of (drop l.i l.list)) l.next) × Stands l.rest l.self

abbrev pub invariant-lower_arguments-loop-i : goal.invariant-lower_arguments-loop-i
invariant-lower_arguments-loop-i l = Builds l.scope l.fn.self l.self l.rest (EvaluateArguments (roles_from l.i (arrays_of l.fn.self l.function)) (exprs_of (drop l.i l.list)) l.next) × Stands l.rest l.self

-- how deep the expressions go, and which function calls which of the same ones

abbrev pub decreases-lower : goal.decreases-lower
decreases-lower l = 5 * goal.size-lower l + 0

abbrev pub decreases-lower_unless_ere : goal.decreases-lower_unless_ere
decreases-lower_unless_ere l = 5 * goal.size-lower_unless_ere l + 1

abbrev pub decreases-lower_parts : goal.decreases-lower_parts
decreases-lower_parts l = 5 * goal.size-lower_parts l + 1

abbrev pub decreases-lower_behind_first : goal.decreases-lower_behind_first
decreases-lower_behind_first l = 5 * goal.size-lower_behind_first l + 1

abbrev pub decreases-lower_field : goal.decreases-lower_field
decreases-lower_field l = 5 * goal.size-lower_field l + 1

abbrev pub decreases-lower_unary : goal.decreases-lower_unary
decreases-lower_unary l = 5 * goal.size-lower_unary l + 1

abbrev pub decreases-lower_membership : goal.decreases-lower_membership
decreases-lower_membership l = 5 * goal.size-lower_membership l + 1

abbrev pub decreases-lower_field_number : goal.decreases-lower_field_number
decreases-lower_field_number l = 5 * goal.size-lower_field_number l + 1

abbrev pub decreases-lower_operand : goal.decreases-lower_operand
decreases-lower_operand l = 5 * goal.size-lower_operand l + 1

abbrev pub decreases-lower_optional_operand : goal.decreases-lower_optional_operand
decreases-lower_optional_operand l = 5 * goal.size-lower_optional_operand l + 2

abbrev pub decreases-lower_optional : goal.decreases-lower_optional
decreases-lower_optional l = 5 * goal.size-lower_optional l + 1

abbrev pub decreases-lower_test : goal.decreases-lower_test
decreases-lower_test l = 5 * goal.size-lower_test l + 3

abbrev pub decreases-lower_raise_test : goal.decreases-lower_raise_test
decreases-lower_raise_test l = 5 * size-Expr l.e.now + 2

abbrev pub decreases-lower_element_test : goal.decreases-lower_element_test
decreases-lower_element_test l = 5 * size-Expr l.e.now + 2

abbrev pub decreases-lower_any_test : goal.decreases-lower_any_test
decreases-lower_any_test l = 5 * goal.size-lower_any_test l + 1

abbrev pub decreases-lower_append : goal.decreases-lower_append
decreases-lower_append l = 5 * goal.size-lower_append l + 2

abbrev pub decreases-lower_pre_increment : goal.decreases-lower_pre_increment
decreases-lower_pre_increment l = 5 * goal.size-lower_pre_increment l + 2

abbrev pub decreases-lower_post_increment : goal.decreases-lower_post_increment
decreases-lower_post_increment l = 5 * goal.size-lower_post_increment l + 2

abbrev pub decreases-lower_all : goal.decreases-lower_all
decreases-lower_all l = 5 * goal.size-lower_all l + 1

abbrev pub decreases-lower_key : goal.decreases-lower_key
decreases-lower_key l = 5 * goal.size-lower_key l + 2

abbrev pub decreases-lower_element : goal.decreases-lower_element
decreases-lower_element l = 5 * goal.size-lower_element l + 3

abbrev pub decreases-lower_list_membership : goal.decreases-lower_list_membership
decreases-lower_list_membership l = 5 * goal.size-lower_list_membership l + 3

abbrev pub decreases-lower_arguments : goal.decreases-lower_arguments
decreases-lower_arguments l = 5 * goal.size-lower_arguments l + 1

abbrev pub decreases-lower_call : goal.decreases-lower_call
decreases-lower_call l = 5 * goal.size-lower_call l + 2

abbrev pub decreases-lower_length : goal.decreases-lower_length
decreases-lower_length l = 5 * goal.size-lower_length l + 2

abbrev pub decreases-lower_flush : goal.decreases-lower_flush
decreases-lower_flush l = 5 * goal.size-lower_flush l + 2

abbrev pub decreases-lower_match : goal.decreases-lower_match
decreases-lower_match l = 5 * goal.size-lower_match l + 2

abbrev pub decreases-lower_split : goal.decreases-lower_split
decreases-lower_split l = 5 * goal.size-lower_split l + 2

abbrev pub decreases-lower_substitute : goal.decreases-lower_substitute
decreases-lower_substitute l = 5 * goal.size-lower_substitute l + 2

abbrev pub decreases-lower_in_place : goal.decreases-lower_in_place
decreases-lower_in_place l = 5 * goal.size-lower_in_place l + 2

abbrev pub decreases-lower_built_in : goal.decreases-lower_built_in
decreases-lower_built_in l = 5 * goal.size-lower_built_in l + 3

abbrev pub decreases-lower_strict : goal.decreases-lower_strict
decreases-lower_strict l = 5 * max (size-Expr l.a.now) (size-Expr l.b.now) + 1

abbrev pub decreases-lower_joined : goal.decreases-lower_joined
decreases-lower_joined l = 5 * max (size-Expr l.a.now) (size-Expr l.b.now) + 2

abbrev pub decreases-lower_binary : goal.decreases-lower_binary
decreases-lower_binary l = 5 * max (size-Expr l.a.now) (size-Expr l.b.now) + 4

abbrev pub decreases-lower_comparison : goal.decreases-lower_comparison
decreases-lower_comparison l = 5 * max (size-Expr l.a.now) (size-Expr l.b.now) + 5

abbrev pub decreases-lower_match_test : goal.decreases-lower_match_test
decreases-lower_match_test l = 5 * max (size-Expr l.a.now) (size-Expr l.b.now) + 5

abbrev pub decreases-lower_assign : goal.decreases-lower_assign
decreases-lower_assign l = 5 * max (size-Expr l.place.now) (size-Expr l.e.now) + 3

abbrev pub decreases-lower_conditional : goal.decreases-lower_conditional
decreases-lower_conditional l = 5 * max (size-Expr l.c.now) (max (size-Expr l.a.now) (size-Expr l.b.now)) + 4

abbrev pub decreases-lower_getline : goal.decreases-lower_getline
decreases-lower_getline l = 5 * max (optional_size l.place.now) (optional_size l.file.now) + 3

abbrev pub decreases-lower_piped_getline : goal.decreases-lower_piped_getline
decreases-lower_piped_getline l = 5 * max (size-Expr l.command.now) (optional_size l.place.now) + 3
