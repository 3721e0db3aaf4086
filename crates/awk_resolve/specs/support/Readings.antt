-- Expressions that only read.
use Rattle.std.specs.Prelude.{pos, Bool, true, false, ◌&&◌}
use Rattle.awk_grammar.specs.declared.tree.BinaryOperator.TheVariants.{Concatenate}
use Rattle.awk_grammar.specs.Tree.{Expr, Number, String, Ere, Name, Element, Field, Group, BuiltIn, Length, Unary, Binary, Membership, ListMembership, Conditional, Exprs, Nil, Cons}
use Rattle.awk_kinds.specs.OfValues.{is_of_values}
use Rattle.awk_resolve.specs.support.Operands.{is_strict}

-- they change no variable and no record; they may make elements
abbrev mutual
  pub only_reads : Expr → Bool
  only_reads (Number n) = true
  only_reads (String text) = true
  only_reads (Ere text) = true
  only_reads (Name x) = true
  only_reads Length = true
  only_reads (Field e) = only_reads e
  only_reads (Group e) = only_reads e
  only_reads (Unary o e) = only_reads e
  only_reads (Membership e x) = only_reads e
  only_reads (Element x es) = all_read es
  only_reads (ListMembership es x) = all_read es
  only_reads (BuiltIn g es) = is_of_values g && all_read es
  only_reads (Binary o a b) = is_strict o && (only_reads a && only_reads b)
  only_reads (Conditional c a b) = only_reads c && (only_reads a && only_reads b)
  only_reads e = false

  pub all_read : Exprs → Bool
  all_read Nil = true
  all_read (Cons e es) = only_reads e && all_read es

-- so do the parts of a concatenation behind its first
abbrev pub parts_read : Expr → Bool
parts_read (Binary Concatenate a b) = only_reads b && parts_read a
parts_read e = true

abbrev pub is_field_number : Expr → Bool
is_field_number (Number (pos n)) = true
is_field_number e = false

-- an expression that may be read behind what only reads
abbrev pub is_read_behind : Expr → Exprs → Bool
is_read_behind (Number n) es = all_read es
is_read_behind (String text) es = all_read es
is_read_behind (Name x) es = all_read es
is_read_behind (Field e) es = is_field_number e && all_read es
is_read_behind e es = false
