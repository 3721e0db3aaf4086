-- Where a statement may stand that ends something: `break` and `continue` in a loop, `return` in a function, and `next`
-- anywhere but in BEGIN and END; wider: `nextfile` where `next` may (POSIX awk, Actions; User-Defined Functions).
use Rattle.std.specs.Prelude.{Bool, true, false, ◌&&◌, List, [], ◌∷◌}
use Rattle.awk_grammar.specs.Tree as g

-- what a statement that stands there may end
pub record Place : Type 0 where
  pub a_loop : Bool
  pub a_function : Bool
  pub a_record : Bool

abbrev pub in_a_loop : Place → Place
in_a_loop place = record place { a_loop = true }

abbrev pub simple_fits : Place → g.SimpleStatement → Bool
simple_fits place g.Next = place.a_record
simple_fits place g.NextFile = place.a_record
simple_fits place g.Break = place.a_loop
simple_fits place g.Continue = place.a_loop
simple_fits place (g.Return e) = place.a_function
simple_fits place simple = true

abbrev mutual
  pub statement_fits : Place → g.Statement → Bool
  statement_fits place g.Empty = true
  statement_fits place (g.Simple simple) = simple_fits place simple
  statement_fits place (g.Block all) = block_fits place all
  statement_fits place (g.If c s) = statement_fits place s
  statement_fits place (g.IfElse c s other) = statement_fits place s && statement_fits place other
  statement_fits place (g.While c s) = statement_fits (in_a_loop place) s
  statement_fits place (g.Do s c) = statement_fits (in_a_loop place) s
  statement_fits place (g.ForIn x array s) = statement_fits (in_a_loop place) s
  statement_fits place (g.For first c last s) = statement_fits (in_a_loop place) s

  pub block_fits : Place → g.Statements → Bool
  block_fits place g.NoMore = true
  block_fits place (g.Then s all) = statement_fits place s && block_fits place all

abbrev pub in_begin_or_end : Place
in_begin_or_end = record { a_loop = false; a_function = false; a_record = false }

abbrev pub in_a_rule : Place
in_a_rule = record { a_loop = false; a_function = false; a_record = true }

-- a `next` or `nextfile` in a function that BEGIN or END calls is a fault of the run
abbrev pub in_a_function : Place
in_a_function = record { a_loop = false; a_function = true; a_record = true }

abbrev pub item_fits : g.Item → Bool
item_fits (g.Begin block) = block_fits in_begin_or_end block
item_fits (g.End block) = block_fits in_begin_or_end block
item_fits (g.Action block) = block_fits in_a_rule block
item_fits (g.PatternAction p block) = block_fits in_a_rule block
item_fits (g.PatternOnly p) = true
item_fits (g.Function name parameters block) = block_fits in_a_function block

abbrev pub are_in_place : List g.Item → Bool
are_in_place [] = true
are_in_place (x ∷ xs) = item_fits x && are_in_place xs
