-- The EREs of a program (POSIX awk, Regular Expressions), as its tokens have them.
use Rattle.std.specs.Prelude.{◌≡◌, ℕ, List, [], ◌∷◌, ◌++◌}
use Rattle.awk_ere.specs.Tree.{Tree}
use Rattle.awk_ere.specs.Limits.{SpellsWithin, IsIllFormed, HasBadCount, IsTooLarge}
use Rattle.awk_lex.specs.Told.{kinds_of}
use Rattle.awk_lex.specs.declared.token.Kind.{Kind}
use Rattle.awk_lex.specs.declared.token.Kind.TheVariants.{Ere}
use Rattle.awk_lex.specs.declared.token.Token.{Token}
use Rattle.awk_lex.specs.declared.refusal.RefusalCode.{RefusalCode}
use Rattle.awk_lex.specs.declared.refusal.RefusalCode.TheVariants.{PatternIllFormed, PatternCountRefused, PatternTooLarge}

-- the text of an ERE spells a pattern within the limits
abbrev pub IsReadable : Kind → Type 0
IsReadable (Ere text) = (pattern : Tree) × SpellsWithin pattern text
IsReadable y = Unit {0}

abbrev pub AreReadable : List Kind → Type 0
AreReadable [] = Unit {0}
AreReadable (y ∷ ts) = IsReadable y × AreReadable ts

-- why a text is refused as a pattern with this code
abbrev pub PatternFails : RefusalCode → List ℕ → Type 0
PatternFails PatternIllFormed text = IsIllFormed text
PatternFails PatternCountRefused text = HasBadCount text
PatternFails PatternTooLarge text = IsTooLarge text
PatternFails code text = ⊥

-- the leftmost ERE that is not readable is refused with this code
pub record RefusesEre (code : RefusalCode) (tokens : List Kind) : Type 0 where
  pub before : List Kind
  pub ere : List ℕ
  pub after : List Kind
  pub stand : tokens ≡ before ++ Ere ere ∷ after
  pub readable : AreReadable before
  pub fails : PatternFails code ere

-- and its token begins on this line
pub record IsLeftmostRefused (code : RefusalCode) (line : ℕ) (tokens : List Token) : Type 0 where
  pub before : List Token
  pub token : Token
  pub after : List Token
  pub stand : tokens ≡ before ++ token ∷ after
  pub refuses : RefusesEre code (kinds_of tokens)
  pub there : refuses.before ≡ kinds_of before
  pub begins : line ≡ token.line
