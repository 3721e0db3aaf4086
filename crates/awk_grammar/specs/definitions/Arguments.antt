-- What may be assigned, and how many arguments the built-in functions take (POSIX awk, Grammar and Functions).
use Rattle.std.specs.Prelude.{ℕ, ◌+◌, Bool, true, false, nat_le, ◌&&◌}
use Rattle.awk_lex.specs.declared.token.BuiltIn.{BuiltIn}
use Rattle.awk_lex.specs.declared.token.BuiltIn.TheVariants.{Length, Substr, Index, Split, Sub, Gsub, Match, Sprintf, ToLower, ToUpper, Int, System, Close, Fflush}
use Rattle.awk_grammar.specs.definitions.Tree.{Expr, Name, Element, Field, Exprs, Nil, Cons}

-- lvalue
abbrev pub is_place : Expr → Bool
is_place (Name x) = true
is_place (Element x xs) = true
is_place (Field e) = true
is_place e = false

abbrev pub count : Exprs → ℕ
count Nil = 0
count (Cons e xs) = 1 + count xs

abbrev pub is_between : ℕ → ℕ → ℕ → Bool
is_between low high n = nat_le low n && nat_le n high

-- where there is a third argument, it is a place
abbrev pub third_is_place : Exprs → Bool
third_is_place (Cons a (Cons b (Cons p xs))) = is_place p
third_is_place xs = true

-- Arithmetic Functions, String Functions, Input/Output and General Functions: so many arguments, and of `sub` and `gsub`
-- whether the third is a place; wider: `fflush`
abbrev pub accepts : BuiltIn → (count : ℕ) → (third_is_place : Bool) → Bool
accepts Length n p = nat_le n 1
accepts Substr n p = is_between 2 3 n
accepts Index n p = is_between 2 2 n
accepts Split n p = is_between 2 3 n
accepts Sub n p = is_between 2 3 n && p
accepts Gsub n p = is_between 2 3 n && p
accepts Match n p = is_between 2 2 n
accepts Sprintf n p = nat_le 1 n
accepts ToLower n p = is_between 1 1 n
accepts ToUpper n p = is_between 1 1 n
accepts Int n p = is_between 1 1 n
accepts System n p = is_between 1 1 n
accepts Close n p = is_between 1 1 n
accepts Fflush n p = nat_le n 1

abbrev pub accepts_list : BuiltIn → Exprs → Bool
accepts_list f xs = accepts f (count xs) (third_is_place xs)
