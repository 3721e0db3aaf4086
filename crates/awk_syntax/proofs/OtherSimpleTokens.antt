-- What the parser over lists does at the tokens that no clause of a function names.
use Rattle.std.proofs.Common.{◌≡◌, ℕ, false, List, ◌∷◌, Option, refl}
use Rattle.awk_lex.specs.declared.token.Kind.{Kind}
use Rattle.awk_lex.specs.declared.token.Kind.TheVariants as t
use Rattle.awk_grammar.specs.declared.tree.PrintForm.{PrintForm}
use Rattle.awk_grammar.specs.definitions.Height.{max_height, height_of_print_list}
use Rattle.awk_grammar.specs.definitions.Tree.{SimpleStatement, OptionalSimple, OptionalExpr, Parenthesized, DeleteAll}
use Rattle.awk_grammar.specs.support.Nodes.{limited, over_one}
use Rattle.awk_grammar.specs.support.Parser as parser

-- the value of an exit or a return
pub exit_has_value : (without : Option SimpleStatement) (begun : parser.Frame) (stack : List parser.Frame) (k : Kind) → (k ≡ t.Semicolon → ⊥) → (k ≡ t.Newline → ⊥) → (k ≡ t.CloseBrace → ⊥) → parser.after_exit max_height without begun stack k ≡ parser.start_operand max_height k false false (begun ∷ stack)
exit_has_value without begun stack (t.Number n) h0 h1 h2 = refl
exit_has_value without begun stack (t.String b) h0 h1 h2 = refl
exit_has_value without begun stack (t.Ere b) h0 h1 h2 = refl
exit_has_value without begun stack (t.Name a) h0 h1 h2 = refl
exit_has_value without begun stack (t.Called a) h0 h1 h2 = refl
exit_has_value without begun stack (t.Keyword w) h0 h1 h2 = refl
exit_has_value without begun stack (t.BuiltIn f) h0 h1 h2 = refl
exit_has_value without begun stack (t.Operator o) h0 h1 h2 = refl
exit_has_value without begun stack (t.Assign o) h0 h1 h2 = refl
exit_has_value without begun stack (t.Increment x) h0 h1 h2 = refl
exit_has_value without begun stack t.Not h0 h1 h2 = refl
exit_has_value without begun stack t.Dollar h0 h1 h2 = refl
exit_has_value without begun stack t.Comma h0 h1 h2 = refl
exit_has_value without begun stack t.Semicolon h0 h1 h2 = absurd (h0 refl)
exit_has_value without begun stack t.Newline h0 h1 h2 = absurd (h1 refl)
exit_has_value without begun stack t.Question h0 h1 h2 = refl
exit_has_value without begun stack t.Colon h0 h1 h2 = refl
exit_has_value without begun stack t.Bar h0 h1 h2 = refl
exit_has_value without begun stack t.Append h0 h1 h2 = refl
exit_has_value without begun stack t.OpenBrace h0 h1 h2 = refl
exit_has_value without begun stack t.CloseBrace h0 h1 h2 = absurd (h2 refl)
exit_has_value without begun stack t.OpenBracket h0 h1 h2 = refl
exit_has_value without begun stack t.CloseBracket h0 h1 h2 = refl
exit_has_value without begun stack t.OpenParenthesis h0 h1 h2 = refl
exit_has_value without begun stack t.CloseParenthesis h0 h1 h2 = refl

-- the end of a deletion of a whole array
pub deletes_all : (a : List ℕ) (stack : List parser.Frame) (k : Kind) → (k ≡ t.OpenBracket → ⊥) → parser.after_delete_name max_height a stack k ≡ parser.end_simple max_height k (limited max_height 1 (DeleteAll a)) stack
deletes_all a stack t.OpenBracket h = absurd (h refl)
deletes_all a stack k h = refl

-- the parts of a `for`
pub first_begins : (stack : List parser.Frame) (k : Kind) → (k ≡ t.Semicolon → ⊥) → parser.before_for_first max_height stack k ≡ parser.start_part max_height k (parser.InForFirst ∷ stack)
first_begins stack (t.Number n) h = refl
first_begins stack (t.String b) h = refl
first_begins stack (t.Ere b) h = refl
first_begins stack (t.Name a) h = refl
first_begins stack (t.Called a) h = refl
first_begins stack (t.Keyword w) h = refl
first_begins stack (t.BuiltIn f) h = refl
first_begins stack (t.Operator o) h = refl
first_begins stack (t.Assign o) h = refl
first_begins stack (t.Increment x) h = refl
first_begins stack t.Not h = refl
first_begins stack t.Dollar h = refl
first_begins stack t.Comma h = refl
first_begins stack t.Semicolon h = absurd (h refl)
first_begins stack t.Newline h = refl
first_begins stack t.Question h = refl
first_begins stack t.Colon h = refl
first_begins stack t.Bar h = refl
first_begins stack t.Append h = refl
first_begins stack t.OpenBrace h = refl
first_begins stack t.CloseBrace h = refl
first_begins stack t.OpenBracket h = refl
first_begins stack t.CloseBracket h = refl
first_begins stack t.OpenParenthesis h = refl
first_begins stack t.CloseParenthesis h = refl

pub condition_begins : (p : Option OptionalSimple) (stack : List parser.Frame) (k : Kind) → (k ≡ t.Semicolon → ⊥) → parser.before_for_condition max_height p stack k ≡ parser.start_operand max_height k false false (parser.InForCondition p ∷ stack)
condition_begins p stack (t.Number n) h = refl
condition_begins p stack (t.String b) h = refl
condition_begins p stack (t.Ere b) h = refl
condition_begins p stack (t.Name a) h = refl
condition_begins p stack (t.Called a) h = refl
condition_begins p stack (t.Keyword w) h = refl
condition_begins p stack (t.BuiltIn f) h = refl
condition_begins p stack (t.Operator o) h = refl
condition_begins p stack (t.Assign o) h = refl
condition_begins p stack (t.Increment x) h = refl
condition_begins p stack t.Not h = refl
condition_begins p stack t.Dollar h = refl
condition_begins p stack t.Comma h = refl
condition_begins p stack t.Semicolon h = absurd (h refl)
condition_begins p stack t.Newline h = refl
condition_begins p stack t.Question h = refl
condition_begins p stack t.Colon h = refl
condition_begins p stack t.Bar h = refl
condition_begins p stack t.Append h = refl
condition_begins p stack t.OpenBrace h = refl
condition_begins p stack t.CloseBrace h = refl
condition_begins p stack t.OpenBracket h = refl
condition_begins p stack t.CloseBracket h = refl
condition_begins p stack t.OpenParenthesis h = refl
condition_begins p stack t.CloseParenthesis h = refl

pub last_begins : (p : Option OptionalSimple) (c : Option OptionalExpr) (stack : List parser.Frame) (k : Kind) → (k ≡ t.CloseParenthesis → ⊥) → parser.before_for_last max_height p c stack k ≡ parser.start_part max_height k (parser.InForLast p c ∷ stack)
last_begins p c stack (t.Number n) h = refl
last_begins p c stack (t.String b) h = refl
last_begins p c stack (t.Ere b) h = refl
last_begins p c stack (t.Name a) h = refl
last_begins p c stack (t.Called a) h = refl
last_begins p c stack (t.Keyword w) h = refl
last_begins p c stack (t.BuiltIn f) h = refl
last_begins p c stack (t.Operator o) h = refl
last_begins p c stack (t.Assign o) h = refl
last_begins p c stack (t.Increment x) h = refl
last_begins p c stack t.Not h = refl
last_begins p c stack t.Dollar h = refl
last_begins p c stack t.Comma h = refl
last_begins p c stack t.Semicolon h = refl
last_begins p c stack t.Newline h = refl
last_begins p c stack t.Question h = refl
last_begins p c stack t.Colon h = refl
last_begins p c stack t.Bar h = refl
last_begins p c stack t.Append h = refl
last_begins p c stack t.OpenBrace h = refl
last_begins p c stack t.CloseBrace h = refl
last_begins p c stack t.OpenBracket h = refl
last_begins p c stack t.CloseBracket h = refl
last_begins p c stack t.OpenParenthesis h = refl
last_begins p c stack t.CloseParenthesis h = absurd (h refl)

-- a list in parentheses that is the whole list of a print
pub whole_list : (y : Kind) (xs before : parser.OperandList) (how : PrintForm) (stack : List parser.Frame) → before.count ≡ 0 → parser.end_list max_height y xs (parser.InPrint how before ∷ stack) ≡ parser.end_print_list max_height y how (over_one max_height height_of_print_list Parenthesized xs.exprs) stack
whole_list y xs before how stack h = rw h refl
