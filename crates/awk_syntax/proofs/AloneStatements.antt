-- A statement ends by itself where no part of a `for` waits for it.
use Rattle.std.proofs.Common.{◌≡◌, true, false, List, [], ◌∷◌, Option, refl, sym}
use Rattle.awk_lex.specs.declared.token.Kind.{Kind}
use Rattle.awk_grammar.specs.definitions.Height.{max_height}
use Rattle.awk_grammar.specs.definitions.Tree.{SimpleStatement}
use Rattle.awk_grammar.specs.support.Parser as parser
use Rattle.awk_syntax.specs.support.PartFrames.{is_part_on}

no : false ≡ true → ⊥
no h = absurd (cc)

pub ends_alone : (y : Kind) (x : Option SimpleStatement) (k : List parser.Frame) → is_part_on k ≡ false → parser.end_simple max_height y x k ≡ parser.end_simple_statement max_height y (parser.simple_statement max_height x) k
ends_alone y x [] h = refl
ends_alone y x (parser.InGroup a b ∷ k) h = refl
ends_alone y x (parser.InCall a b c ∷ k) h = refl
ends_alone y x (parser.InBuiltIn a b c ∷ k) h = refl
ends_alone y x (parser.InElement a b c ∷ k) h = refl
ends_alone y x (parser.InField ∷ k) h = refl
ends_alone y x (parser.InPreIncrement a ∷ k) h = refl
ends_alone y x (parser.InUnary a ∷ k) h = refl
ends_alone y x (parser.InBinary a b ∷ k) h = refl
ends_alone y x (parser.InAssign a b ∷ k) h = refl
ends_alone y x (parser.InFirstChoice a ∷ k) h = refl
ends_alone y x (parser.InSecondChoice a b ∷ k) h = refl
ends_alone y x (parser.InGetlinePlace a ∷ k) h = refl
ends_alone y x (parser.InGetlineFile a ∷ k) h = refl
ends_alone y x (parser.InExpression ∷ k) h = refl
ends_alone y x (parser.InPrint a b ∷ k) h = refl
ends_alone y x (parser.InOutput a b c ∷ k) h = refl
ends_alone y x (parser.InDelete a b ∷ k) h = refl
ends_alone y x (parser.InExit ∷ k) h = refl
ends_alone y x (parser.InReturn ∷ k) h = refl
ends_alone y x (parser.InIfCondition ∷ k) h = refl
ends_alone y x (parser.InWhileCondition ∷ k) h = refl
ends_alone y x (parser.InDoCondition a ∷ k) h = refl
ends_alone y x (parser.InForFirst ∷ k) h = absurd (no (sym h))
ends_alone y x (parser.InForCondition a ∷ k) h = refl
ends_alone y x (parser.InForLast a b ∷ k) h = absurd (no (sym h))
ends_alone y x (parser.InBlock a ∷ k) h = refl
ends_alone y x (parser.InIfBody a ∷ k) h = refl
ends_alone y x (parser.InElseBody a b ∷ k) h = refl
ends_alone y x (parser.InWhileBody a ∷ k) h = refl
ends_alone y x (parser.InDoBody ∷ k) h = refl
ends_alone y x (parser.InForInBody a b ∷ k) h = refl
ends_alone y x (parser.InForBody a b c ∷ k) h = refl
ends_alone y x (parser.InPattern ∷ k) h = refl
ends_alone y x (parser.InRangeEnd a ∷ k) h = refl
ends_alone y x (parser.InAction a b ∷ k) h = refl
ends_alone y x (parser.InProgram a ∷ k) h = refl
