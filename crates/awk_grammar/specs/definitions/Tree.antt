-- The tree of a program, without where it lies in memory (POSIX awk, Grammar).
use Rattle.std.specs.Prelude.{ℕ, ℤ, List}
use Rattle.awk_lex.specs.declared.token.AssignmentOperator.{AssignmentOperator}
use Rattle.awk_lex.specs.declared.token.BuiltIn.{BuiltIn as BuiltInName}
use Rattle.awk_lex.specs.declared.token.IncrementOperator.{IncrementOperator}
use Rattle.awk_grammar.specs.declared.tree.BinaryOperator.{BinaryOperator}
use Rattle.awk_grammar.specs.declared.tree.UnaryOperator.{UnaryOperator}
use Rattle.awk_grammar.specs.declared.tree.PrintForm.{PrintForm}
use Rattle.awk_grammar.specs.declared.tree.Redirection.{Redirection}

mutual
  -- expr
  pub data Expr : Type 0 where
    Number : (n : ℤ) → Expr
    -- a string, by the bytes that it stands for
    String : (bytes : List ℕ) → Expr
    -- an extended regular expression, by the text between its slashes
    Ere : (text : List ℕ) → Expr
    Name : (name : List ℕ) → Expr
    Element : (name : List ℕ) (subscripts : Exprs) → Expr
    Field : (e : Expr) → Expr
    -- an expression in parentheses
    Group : (e : Expr) → Expr
    Call : (name : List ℕ) (arguments : Exprs) → Expr
    BuiltIn : (f : BuiltInName) (arguments : Exprs) → Expr
    -- the word `length` without parentheses
    Length : Expr
    PreIncrement : (o : IncrementOperator) (place : Expr) → Expr
    PostIncrement : (o : IncrementOperator) (place : Expr) → Expr
    Getline : (place file : OptionalExpr) → Expr
    PipedGetline : (command : Expr) (place : OptionalExpr) → Expr
    Unary : (o : UnaryOperator) (e : Expr) → Expr
    Binary : (o : BinaryOperator) (a b : Expr) → Expr
    Membership : (e : Expr) (array : List ℕ) → Expr
    ListMembership : (list : Exprs) (array : List ℕ) → Expr
    Conditional : (c a b : Expr) → Expr
    Assign : (o : AssignmentOperator) (place e : Expr) → Expr

  -- expr_list_opt
  pub data Exprs : Type 0 where
    Nil : Exprs
    Cons : (e : Expr) (rest : Exprs) → Exprs

  -- expr_opt
  pub data OptionalExpr : Type 0 where
    NoExpr : OptionalExpr
    AnExpr : (e : Expr) → OptionalExpr

-- what is printed: a list, or one in parentheses
pub data PrintList : Type 0 where
  Bare : (list : Exprs) → PrintList
  Parenthesized : (list : Exprs) → PrintList

-- where it is printed
pub data Output : Type 0 where
  Standard : Output
  Redirected : (way : Redirection) (target : Expr) → Output

-- terminatable_statement, except `do`: a simple_statement is one
pub data SimpleStatement : Type 0 where
  -- an expression as a statement
  Expression : (e : Expr) → SimpleStatement
  Print : (form : PrintForm) (list : PrintList) (output : Output) → SimpleStatement
  Delete : (name : List ℕ) (subscripts : Exprs) → SimpleStatement
  -- all elements of an array
  DeleteAll : (name : List ℕ) → SimpleStatement
  Next : SimpleStatement
  NextFile : SimpleStatement
  Break : SimpleStatement
  Continue : SimpleStatement
  Exit : (e : OptionalExpr) → SimpleStatement
  Return : (e : OptionalExpr) → SimpleStatement

-- simple_statement_opt, an outer part of a `for`
pub data OptionalSimple : Type 0 where
  NoSimple : OptionalSimple
  ASimple : (simple : SimpleStatement) → OptionalSimple

mutual
  -- terminated_statement, unterminated_statement
  pub data Statement : Type 0 where
    -- `;` alone
    Empty : Statement
    Simple : (simple : SimpleStatement) → Statement
    Block : (all : Statements) → Statement
    If : (c : Expr) (s : Statement) → Statement
    IfElse : (c : Expr) (s other : Statement) → Statement
    While : (c : Expr) (s : Statement) → Statement
    Do : (s : Statement) (c : Expr) → Statement
    ForIn : (name array : List ℕ) (s : Statement) → Statement
    For : (first : OptionalSimple) (c : OptionalExpr) (last : OptionalSimple) (s : Statement) → Statement

  -- statement_list
  pub data Statements : Type 0 where
    NoMore : Statements
    Then : (s : Statement) (rest : Statements) → Statements

-- normal_pattern
pub data Pattern : Type 0 where
  Single : (e : Expr) → Pattern
  Range : (from to : Expr) → Pattern

-- item
pub data Item : Type 0 where
  Begin : (block : Statements) → Item
  End : (block : Statements) → Item
  -- an action without a pattern
  Action : (block : Statements) → Item
  PatternAction : (p : Pattern) (block : Statements) → Item
  -- a pattern without an action
  PatternOnly : (p : Pattern) → Item
  Function : (name : List ℕ) (parameters : List (List ℕ)) (block : Statements) → Item
