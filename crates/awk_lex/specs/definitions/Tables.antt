-- The words and the punctuators of the language, each spelling beside its token (POSIX awk, Lexical Conventions).
use Rattle.std.specs.Prelude.{ℕ, if◌then◌else◌, List, [], ◌∷◌, ◌++◌, codes, bytes_eq, Option, Some, None}
use Rattle.awk_lex.specs.declared.token.Operator.TheVariants as operator
use Rattle.awk_lex.specs.declared.token.AssignmentOperator.TheVariants as assignment
use Rattle.awk_lex.specs.declared.token.IncrementOperator.TheVariants as increment
use Rattle.awk_lex.specs.declared.token.Keyword.TheVariants as keyword
use Rattle.awk_lex.specs.declared.token.BuiltIn.TheVariants as built_in
use Rattle.awk_lex.specs.declared.token.Kind.{Kind}
use Rattle.awk_lex.specs.declared.token.Kind.TheVariants.{Keyword, BuiltIn, Operator, Assign, Increment, Not, Dollar, Comma, Semicolon, Newline, Question, Colon, Bar, Append, OpenBrace, CloseBrace, OpenBracket, CloseBracket, OpenParenthesis, CloseParenthesis}

-- the keywords; wider: `nextfile`
abbrev pub keywords : List (List ℕ × Kind)
keywords =
    (codes "BEGIN", Keyword keyword.Begin)
    ∷ (codes "END", Keyword keyword.End)
    ∷ (codes "function", Keyword keyword.Function)
    ∷ (codes "if", Keyword keyword.If)
    ∷ (codes "else", Keyword keyword.Else)
    ∷ (codes "while", Keyword keyword.While)
    ∷ (codes "for", Keyword keyword.For)
    ∷ (codes "do", Keyword keyword.Do)
    ∷ (codes "break", Keyword keyword.Break)
    ∷ (codes "continue", Keyword keyword.Continue)
    ∷ (codes "next", Keyword keyword.Next)
    ∷ (codes "nextfile", Keyword keyword.NextFile)
    ∷ (codes "exit", Keyword keyword.Exit)
    ∷ (codes "return", Keyword keyword.Return)
    ∷ (codes "delete", Keyword keyword.Delete)
    ∷ (codes "in", Keyword keyword.In)
    ∷ (codes "getline", Keyword keyword.Getline)
    ∷ (codes "print", Keyword keyword.Print)
    ∷ (codes "printf", Keyword keyword.Printf)
    ∷ []

-- the names of the built-in functions; wider: `fflush`
abbrev pub built_ins : List (List ℕ × Kind)
built_ins =
    (codes "length", BuiltIn built_in.Length)
    ∷ (codes "substr", BuiltIn built_in.Substr)
    ∷ (codes "index", BuiltIn built_in.Index)
    ∷ (codes "split", BuiltIn built_in.Split)
    ∷ (codes "sub", BuiltIn built_in.Sub)
    ∷ (codes "gsub", BuiltIn built_in.Gsub)
    ∷ (codes "match", BuiltIn built_in.Match)
    ∷ (codes "sprintf", BuiltIn built_in.Sprintf)
    ∷ (codes "tolower", BuiltIn built_in.ToLower)
    ∷ (codes "toupper", BuiltIn built_in.ToUpper)
    ∷ (codes "int", BuiltIn built_in.Int)
    ∷ (codes "system", BuiltIn built_in.System)
    ∷ (codes "close", BuiltIn built_in.Close)
    ∷ (codes "fflush", BuiltIn built_in.Fflush)
    ∷ []

-- the words that are no names
abbrev pub reserved : List (List ℕ × Kind)
reserved = keywords ++ built_ins

-- names that other awks give a meaning and that this one leaves out
abbrev pub left_out : List (List ℕ)
left_out =
    codes "atan2"
    ∷ codes "cos"
    ∷ codes "sin"
    ∷ codes "exp"
    ∷ codes "log"
    ∷ codes "sqrt"
    ∷ codes "rand"
    ∷ codes "srand"
    ∷ codes "func"
    ∷ []

-- the punctuators, newline included, but for those that begin with a slash
abbrev pub punctuators : List (List ℕ × Kind)
punctuators =
    (codes "\n", Newline)
    ∷ (codes "{", OpenBrace)
    ∷ (codes "}", CloseBrace)
    ∷ (codes "(", OpenParenthesis)
    ∷ (codes ")", CloseParenthesis)
    ∷ (codes "[", OpenBracket)
    ∷ (codes "]", CloseBracket)
    ∷ (codes ",", Comma)
    ∷ (codes ";", Semicolon)
    ∷ (codes "$", Dollar)
    ∷ (codes "?", Question)
    ∷ (codes ":", Colon)
    ∷ (codes "!", Not)
    ∷ (codes "|", Bar)
    ∷ (codes ">>", Append)
    ∷ (codes "++", Increment increment.Increment)
    ∷ (codes "--", Increment increment.Decrement)
    ∷ (codes "=", Assign assignment.Plain)
    ∷ (codes "+=", Assign assignment.Add)
    ∷ (codes "-=", Assign assignment.Subtract)
    ∷ (codes "*=", Assign assignment.Multiply)
    ∷ (codes "%=", Assign assignment.Remainder)
    ∷ (codes "^=", Assign assignment.Power)
    ∷ (codes "^", Operator operator.Power)
    ∷ (codes "*", Operator operator.Times)
    ∷ (codes "%", Operator operator.Remainder)
    ∷ (codes "+", Operator operator.Plus)
    ∷ (codes "-", Operator operator.Minus)
    ∷ (codes "<", Operator operator.Less)
    ∷ (codes "<=", Operator operator.LessEqual)
    ∷ (codes "==", Operator operator.Equal)
    ∷ (codes "!=", Operator operator.NotEqual)
    ∷ (codes ">", Operator operator.Greater)
    ∷ (codes ">=", Operator operator.GreaterEqual)
    ∷ (codes "~", Operator operator.Matches)
    ∷ (codes "!~", Operator operator.NotMatches)
    ∷ (codes "&&", Operator operator.And)
    ∷ (codes "||", Operator operator.Or)
    ∷ []

-- the punctuators that begin with a slash, where a slash divides
abbrev pub divisions : List (List ℕ × Kind)
divisions = (codes "/", Operator operator.Divide) ∷ (codes "/=", Assign assignment.Divide) ∷ []

-- the kind of a spelling in a table
abbrev pub kind_in : List (List ℕ × Kind) → List ℕ → Option Kind
kind_in [] w = None
kind_in (row ∷ rows) w = if bytes_eq w row.0 then Some row.1 else kind_in rows w
