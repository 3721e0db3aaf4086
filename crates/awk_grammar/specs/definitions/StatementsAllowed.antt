-- Which expressions a statement and an item may have.
use Rattle.std.specs.Prelude.{ℕ, ◌≤◌, ◌≡◌, Bool, true, false, List, [], ◌∷◌}
use Rattle.awk_grammar.specs.declared.tree.PrintForm.{PrintForm}
use Rattle.awk_grammar.specs.declared.tree.PrintForm.TheVariants as form
use Rattle.awk_grammar.specs.definitions.Tree.{PrintList, Bare, Parenthesized, Output, Standard, Redirected, SimpleStatement, OptionalSimple, NoSimple, ASimple, Statement, Empty, Simple, Block, If, IfElse, While, Do, ForIn, For, Statements, NoMore, Then, Pattern, Single, Range, Item, Action, PatternAction, PatternOnly}
use Rattle.awk_grammar.specs.definitions.Tree as tree
use Rattle.awk_grammar.specs.definitions.Precedence.{field_reference, expr_precedence}
use Rattle.awk_grammar.specs.definitions.Arguments.{count}
use Rattle.awk_grammar.specs.definitions.OperandsAllowed.{KeepsPrecedence, AllKeepPrecedence, OptionalKeepsPrecedence}

-- `print` may stand without a list, `printf` not
abbrev pub least_count : PrintForm → ℕ
least_count form.Print = 0
least_count form.Printf = 1

abbrev pub PrintListKeepsPrecedence : PrintForm → PrintList → Type 0
PrintListKeepsPrecedence form (Bare xs) = (least_count form ≤ count xs) × AllKeepPrecedence true xs
PrintListKeepsPrecedence form (Parenthesized xs) = (2 ≤ count xs) × AllKeepPrecedence false xs

-- narrower than the standard's output_redirection, whose expr may be a concatenation
abbrev pub OutputKeepsPrecedence : Output → Type 0
OutputKeepsPrecedence Standard = Unit {0}
OutputKeepsPrecedence (Redirected way e) = (expr_precedence e ≤ field_reference) × KeepsPrecedence false e

abbrev pub SimpleKeepsPrecedence : SimpleStatement → Type 0
SimpleKeepsPrecedence (tree.Expression e) = KeepsPrecedence false e
SimpleKeepsPrecedence (tree.Print form xs output) = PrintListKeepsPrecedence form xs × OutputKeepsPrecedence output
SimpleKeepsPrecedence (tree.Delete x xs) = (1 ≤ count xs) × AllKeepPrecedence false xs
SimpleKeepsPrecedence (tree.DeleteAll x) = Unit {0}
SimpleKeepsPrecedence tree.Next = Unit {0}
SimpleKeepsPrecedence tree.NextFile = Unit {0}
SimpleKeepsPrecedence tree.Break = Unit {0}
SimpleKeepsPrecedence tree.Continue = Unit {0}
SimpleKeepsPrecedence (tree.Exit e) = OptionalKeepsPrecedence e
SimpleKeepsPrecedence (tree.Return e) = OptionalKeepsPrecedence e

-- simple_statement: what may be an outer part of a `for`
abbrev pub is_for_part : SimpleStatement → Bool
is_for_part (tree.Expression e) = true
is_for_part (tree.Print form xs output) = true
is_for_part (tree.Delete x xs) = true
is_for_part (tree.DeleteAll x) = true
is_for_part m = false

abbrev pub ForPartKeepsPrecedence : OptionalSimple → Type 0
ForPartKeepsPrecedence NoSimple = Unit {0}
ForPartKeepsPrecedence (ASimple m) = (is_for_part m ≡ true) × SimpleKeepsPrecedence m

abbrev mutual
  pub StatementKeepsPrecedence : Statement → Type 0
  StatementKeepsPrecedence Empty = Unit {0}
  StatementKeepsPrecedence (Simple m) = SimpleKeepsPrecedence m
  StatementKeepsPrecedence (Block all) = StatementsKeepPrecedence all
  StatementKeepsPrecedence (If c x) = KeepsPrecedence false c × StatementKeepsPrecedence x
  StatementKeepsPrecedence (IfElse c x y) = KeepsPrecedence false c × StatementKeepsPrecedence x × StatementKeepsPrecedence y
  StatementKeepsPrecedence (While c x) = KeepsPrecedence false c × StatementKeepsPrecedence x
  StatementKeepsPrecedence (Do x c) = StatementKeepsPrecedence x × KeepsPrecedence false c
  StatementKeepsPrecedence (ForIn x a y) = StatementKeepsPrecedence y
  StatementKeepsPrecedence (For first c last x) = ForPartKeepsPrecedence first × OptionalKeepsPrecedence c × ForPartKeepsPrecedence last × StatementKeepsPrecedence x

  pub StatementsKeepPrecedence : Statements → Type 0
  StatementsKeepPrecedence NoMore = Unit {0}
  StatementsKeepPrecedence (Then x all) = StatementKeepsPrecedence x × StatementsKeepPrecedence all

abbrev pub PatternKeepsPrecedence : Pattern → Type 0
PatternKeepsPrecedence (Single e) = KeepsPrecedence false e
PatternKeepsPrecedence (Range d e) = KeepsPrecedence false d × KeepsPrecedence false e

abbrev pub ItemKeepsPrecedence : Item → Type 0
ItemKeepsPrecedence (tree.Begin all) = StatementsKeepPrecedence all
ItemKeepsPrecedence (tree.End all) = StatementsKeepPrecedence all
ItemKeepsPrecedence (Action all) = StatementsKeepPrecedence all
ItemKeepsPrecedence (PatternAction p all) = PatternKeepsPrecedence p × StatementsKeepPrecedence all
ItemKeepsPrecedence (PatternOnly p) = PatternKeepsPrecedence p
ItemKeepsPrecedence (tree.Function f xs all) = StatementsKeepPrecedence all

abbrev pub ProgramKeepsPrecedence : List Item → Type 0
ProgramKeepsPrecedence [] = Unit {0}
ProgramKeepsPrecedence (x ∷ xs) = ItemKeepsPrecedence x × ProgramKeepsPrecedence xs
