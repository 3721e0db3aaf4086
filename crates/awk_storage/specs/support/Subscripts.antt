-- The key that a subscript stands for (POSIX awk, Expressions in awk: arrays).
use Rattle.std.specs.Prelude.{ℕ, List}
use Rattle.std.specs.Fmt.{signed_decimal}
use Rattle.awk_storage.specs.declared.subscript.Subscript.{Subscript}
use Rattle.awk_storage.specs.declared.subscript.Subscript.TheVariants as subscript

-- the text of a number, or the text itself
abbrev pub key_of : Subscript → List ℕ
key_of (subscript.Number n) = signed_decimal n
key_of (subscript.Text text) = text.now
