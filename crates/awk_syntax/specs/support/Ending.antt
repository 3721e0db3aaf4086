-- The tokens before which a `print` has no list.
use Rattle.std.specs.Prelude.{Bool, true, false}
use Rattle.awk_lex.specs.declared.token.Kind.{Kind}
use Rattle.awk_lex.specs.declared.token.Kind.TheVariants as t
use Rattle.awk_lex.specs.declared.token.Operator.TheVariants as operator

abbrev pub ends_print : Kind → Bool
ends_print (t.Operator operator.Greater) = true
ends_print t.Append = true
ends_print t.Bar = true
ends_print t.Semicolon = true
ends_print t.Newline = true
ends_print t.CloseBrace = true
ends_print t.CloseParenthesis = true
ends_print y = false
