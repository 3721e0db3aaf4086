-- What a print prints.
use Rattle.awk_grammar.specs.Tree.{Exprs, PrintList, Bare, Parenthesized}

abbrev pub listed : PrintList → Exprs
listed (Bare es) = es
listed (Parenthesized es) = es
