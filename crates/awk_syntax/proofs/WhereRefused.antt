-- No program begins with the tokens up to the one at which the parser stops.
use Rattle.std.proofs.Common.{◌≡◌, ◌⊎◌, ℕ, inl, inr, List, [], ◌∷◌, ◌++◌, None, refl, sym, ap, ◌∙◌, subst}
use Rattle.awk_lex.specs.Told.{kinds_of}
use Rattle.awk_lex.specs.Refused.{IsOutOfMemory}
use Rattle.awk_lex.specs.declared.token.Kind.{Kind}
use Rattle.awk_lex.specs.declared.token.Token.{Token}
use Rattle.awk_lex.specs.declared.refusal.Refusal.{Refusal}
use Rattle.awk_lex.specs.declared.refusal.RefusalCode.{RefusalCode}
use Rattle.awk_lex.specs.declared.refusal.RefusalCode.TheVariants.{NotAProgram, NestedTooDeep}
use Rattle.awk_grammar.specs.Height.{max_height}
use Rattle.awk_grammar.specs.Answer.{Says}
use Rattle.awk_grammar.specs.support.Parser.{ParserState, Failed, step, answer}
use Rattle.awk_grammar.specs.support.Parser as parser
use Rattle.awk_syntax.specs.support.Stopped.{state_behind, reached, Stops}
use Rattle.awk_syntax.specs.definitions.Patterns.{IsLeftmostRefused}
use Rattle.awk_syntax.specs.definitions.Lines.{NoProgramBegins, TellsLine}

-- what the parser answers behind some tokens
answers_behind : (x : ParserState) (front more : List Kind) → answer max_height x (front ++ more) ≡ answer max_height (state_behind x front) more
answers_behind x [] more = refl
answers_behind x (y ∷ front) more = answers_behind (step max_height x y) front more

failed : (ts : List Kind) → answer max_height Failed ts ≡ None
failed [] = refl
failed (y ∷ ts) = failed ts

-- what the law of the parser says, at the limit
abbrev pub SaysOfAll : Type 0
SaysOfAll = (ts : List Kind) → Says max_height ts (parser.read max_height ts)

-- where a token can't be taken, no program begins with the tokens up to it
none_begins : (front : List Kind) → reached front ≡ Failed → SaysOfAll → NoProgramBegins front
none_begins front e says more =
    let none : parser.read max_height (front ++ more) ≡ None = answers_behind (parser.start max_height) front more ∙ ap (λ x. answer max_height x more) e ∙ failed more in
    subst (Says max_height (front ++ more)) none (says (front ++ more))

pub tells_line : (c : RefusalCode) (line : ℕ) (tokens : List Token) → Stops c line tokens → SaysOfAll → TellsLine c line tokens
tells_line NotAProgram line tokens w says = elim w [
  | inl stop ↦ inl (record { stop = stop; none = none_begins (kinds_of (stop.before ++ stop.token ∷ [])) stop.refused says })
  | inr end ↦ inr end
]
tells_line NestedTooDeep line tokens w says = w
tells_line c line tokens w says = tt

other_line : (c : RefusalCode) (line : ℕ) (tokens : List Token) → IsLeftmostRefused c line tokens → TellsLine c line tokens
other_line NotAProgram line tokens l = absurd l.refuses.fails
other_line NestedTooDeep line tokens l = absurd l.refuses.fails
other_line c line tokens l = tt

-- an ERE that is refused, and want of memory, are neither an S1 nor an S2
pub pattern_line : (r : Refusal) (tokens : List Token) → IsOutOfMemory r ⊎ IsLeftmostRefused r.code r.line tokens → TellsLine r.code r.line tokens
pattern_line r tokens h = elim h [
  | inl m ↦ subst (λ c. TellsLine c r.line tokens) (sym m) tt
  | inr l ↦ other_line r.code r.line tokens l
]
