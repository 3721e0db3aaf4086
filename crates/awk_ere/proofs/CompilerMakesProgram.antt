-- The loop over the tokens of a text makes the program of its pattern.
use Rattle.std.proofs.Common.{◌≡◌, ◌≤◌, ◌<◌, ℕ, Bool, true, false, List, [], ◌∷◌, ◌++◌, length, map, Some, None, Result, Ok, Err, refl, sym, ap, subst, ◌∙◌, arith}
use Rattle.std.specs.Option.{option_map}
use Rattle.std.proofs.lemmas.Bool.{or_parts, and_parts}
use Rattle.std.proofs.lemmas.List.{length-append}
use Rattle.std.proofs.lemmas.Option.{same_Some, none-some}
use Rattle.awk_ere.specs.definitions.Tree.{Class, class_of, none, size}
use Rattle.awk_ere.specs.definitions.Program.{resolve}
use Rattle.awk_ere.specs.definitions.Brackets.{Bracket, bracket_has}
use Rattle.awk_ere.specs.definitions.Tokens.{Token, atom, bracket, token_bytes, token_fits, text_of, tokens_fit, AreSpelt}
use Rattle.awk_ere.specs.definitions.Limits.{greatest_size, token_is_bad, any_bad}
use Rattle.awk_ere.specs.definitions.Written.{Pattern, tokens, pattern_tree}
use Rattle.awk_ere.specs.support.Parser.{ParserState, take_in, ended, run, begun}
use Rattle.awk_ere.specs.support.Lexer.{token_at}
use Rattle.awk_ere.specs.declared.token.Token.{Token as SeenToken}
use Rattle.awk_ere.specs.support.TokenValues.{seen_token, seen_front}
use Rattle.awk_ere.specs.support.CompilerState as compiler
use Rattle.awk_ere.specs.support.CompilerState.{CompilerState, taken}
use Rattle.awk_ere.specs.support.CompilerResult.{IsClean, Makes, Builds, Finishes}
use Rattle.awk_ere.specs.declared.program.Program.{Program}
use Rattle.awk_ere.specs.declared.fault.PatternFault.{PatternFault}
use Rattle.awk_ere.specs.declared.fault.PatternFault.TheVariants.{Memory, IllFormed, BadCount, TooLarge}
use Rattle.awk_ere.proofs.ParseRoundTrip.{parse_tokens, bind_some}
use Rattle.awk_ere.proofs.TokenRoundTrip.{token_again, token_long}
use Rattle.awk_ere.proofs.CountsOrdered.{ordered_pattern}
use Rattle.awk_ere.proofs.StateIsProgram.{Holds}
use Rattle.awk_ere.proofs.TokenKeepsProgram.{IsClassOf, first_holds, next_holds, made_size, made_code}

-- the compiler state is that of the tokens in front, and the tokens behind end the pattern
pub record Reached (p : Pattern) (rest : List ℕ) (d : CompilerState) : Type 0 where
  pub left : List Token
  pub state : ParserState
  pub spelt : AreSpelt left rest
  pub good : any_bad left ≡ false
  pub holds : Holds d state
  pub goes_on : run left state ≡ Some p

abbrev pub Reaches : List ℕ → List ℕ → CompilerState → Type 0
Reaches text rest d = (p : Pattern) → IsClean p text → Reached p rest d

pub first : (text : List ℕ) → Reaches text text compiler.begun
first text p c = record { left = tokens p; state = begun; spelt = c.0; good = c.1; holds = first_holds; goes_on = parse_tokens p }

-- the class that the reader of tokens left
abbrev pub LeavesClass : List ℕ → Class → Type 0
LeavesClass rest c = (k : Bracket) (behind : List ℕ) → token_at rest ≡ Some (atom (bracket k), behind) → c ≡ class_of (bracket_has k)

-- the next token of the text is the next token
pub record Front (v : Token) (vs : List Token) (rest : List ℕ) : Type 0 where
  pub here : token_at rest ≡ Some (v, text_of vs)
  pub parts : rest ≡ token_bytes v ++ text_of vs

front_token : (v : Token) (vs : List Token) (rest : List ℕ) → AreSpelt (v ∷ vs) rest → Front v vs rest
front_token v vs rest h =
    let fits = and_parts (token_fits v (text_of vs)) (tokens_fit vs) h.1 in
    record { here = ap token_at h.0 ∙ token_again v (text_of vs) fits.0; parts = h.0 }

pub record Took (p : Pattern) (behind : List ℕ) (token : SeenToken) (c : Class) (d : CompilerState) : Type 0 where
  pub next : CompilerState
  pub made : compiler.take_in token c d ≡ Some next
  pub reached : Reached p behind next

took_token : (p : Pattern) (v : Token) (vs : List Token) (rest : List ℕ) (c : Class) (d : CompilerState) (s : ParserState) → AreSpelt (v ∷ vs) rest → any_bad (v ∷ vs) ≡ false → Holds d s → run (v ∷ vs) s ≡ Some p → LeavesClass rest c → Took p (text_of vs) (seen_token v) c d
took_token p v vs rest c d s spelt good h goes class =
    let b = bind_some (take_in v s) (run vs) p goes in
    let bad = or_parts (token_is_bad v) (any_bad vs) good in
    let here = (front_token v vs rest spelt).here in
    let is : IsClassOf v c = λ k e. class k (text_of vs) (here ∙ ap (λ w. Some (w, text_of vs)) e) in
    let n = next_holds v c d s b.0 b.1 bad.0 is h in record {
      next = n.0;
      made = n.1;
      reached = record {
        left = vs;
        state = b.0;
        spelt = (refl, (and_parts (token_fits v (text_of vs)) (tokens_fit vs) spelt.1).1);
        good = bad.1;
        holds = n.2;
        goes_on = b.2;
      };
    }

took_some : (p : Pattern) (left : List Token) (rest behind : List ℕ) (token : SeenToken) (c : Class) (d : CompilerState) (s : ParserState) → Some (token, behind) ≡ option_map seen_front (token_at rest) → AreSpelt left rest → any_bad left ≡ false → Holds d s → run left s ≡ Some p → LeavesClass rest c → Took p behind token c d × (length behind < length rest)
took_some p [] rest behind token c d s e spelt good h goes class =
    absurd (none-some (token, behind) (sym (e ∙ ap (λ l. option_map seen_front (token_at l)) spelt.0)))
took_some p (v ∷ vs) rest behind token c d s e spelt good h goes class =
    let front = front_token v vs rest spelt in
    let same = same_Some (token, behind) (seen_token v, text_of vs) (e ∙ ap (option_map seen_front) front.here) in
    let l = ap length front.parts in
    let k = token_long v in
    let shorter : length (text_of vs) < length rest = omega (arith, l, k, length-append (token_bytes v) (text_of vs)) in
    let Goal : SeenToken × List ℕ → Type 0 = λ x. Took p x.1 x.0 c d × (length x.1 < length rest) in
    subst Goal (sym same) (took_token p v vs rest c d s spelt good h goes class, shorter)

-- one token more
pub takes : (text rest behind : List ℕ) (token : SeenToken) (c : Class) (d : CompilerState) → Some (token, behind) ≡ option_map seen_front (token_at rest) → LeavesClass rest c → Reaches text rest d → (p : Pattern) → IsClean p text → Took p behind token c d × (length behind < length rest)
takes text rest behind token c d e class h p clean =
    let r = h p clean in
    took_some p r.left rest behind token c d r.state e r.spelt r.good r.holds r.goes_on class

pub next : (text rest behind : List ℕ) (token : SeenToken) (c : Class) (d e : CompilerState) (b : Bool) → Some (token, behind) ≡ option_map seen_front (token_at rest) → LeavesClass rest c → taken b e ≡ compiler.take_in token c d → b ≡ true → Reaches text rest d → Reaches text behind e
next text rest behind token c d e b at class made ok h p clean =
    let t = (takes text rest behind token c d at class h p clean).0 in
    subst (λ x. Reached p behind x) (sym (same_Some e t.next (ap (λ v. taken v e) (sym ok) ∙ made ∙ t.made))) t.reached

pub none_refused : (text rest behind : List ℕ) (token : SeenToken) (c : Class) (d e : CompilerState) (b : Bool) → Some (token, behind) ≡ option_map seen_front (token_at rest) → LeavesClass rest c → taken b e ≡ compiler.take_in token c d → b ≡ false → Reaches text rest d → (p : Pattern) → IsClean p text → ⊥
none_refused text rest behind token c d e b at class made not_ok h p clean =
    let t = (takes text rest behind token c d at class h p clean).0 in
    none-some t.next (ap (λ v. taken v e) (sym not_ok) ∙ made ∙ t.made)

-- where the reader of tokens finds none, none is left
no_more : (left : List Token) (rest : List ℕ) → AreSpelt left rest → None ≡ option_map seen_front (token_at rest) → left ≡ []
no_more [] rest spelt e = refl
no_more (v ∷ vs) rest spelt e =
    absurd (none-some (seen_token v, text_of vs) (e ∙ ap (option_map seen_front) (front_token v vs rest spelt).here))

makes : (d : CompilerState) (s : ParserState) (p : Pattern) (result : Result Program PatternFault) → ended s.now s.outer ≡ Some p → any_bad (tokens p) ≡ false → Holds d s → Finishes d result → Makes (pattern_tree p none) result
makes d s p (Ok made) end good h f =
    let e = made_size d s p end h in
    let small = f.0 in
    let fits : size (pattern_tree p none) ≤ greatest_size = omega arith in (
      fits,
      (
        ordered_pattern p none good tt,
        ap (λ cs. map (resolve cs) made.instructions.items) f.2 ∙ ap (map (resolve d.classes)) f.1 ∙ made_code d s p end h fits,
      ),
    )
makes d s p (Err Memory) end good h f = tt
makes d s p (Err IllFormed) end good h f = f
makes d s p (Err BadCount) end good h f = f
makes d s p (Err TooLarge) end good h f = let e = made_size d s p end h in omega arith

-- no token is left
pub finished : (text rest : List ℕ) (d : CompilerState) (result : Result Program PatternFault) → None ≡ option_map seen_front (token_at rest) → Reaches text rest d → Finishes d result → Builds text result
finished text rest d result none_left h f p clean =
    let r = h p clean in
    let last = no_more r.left rest r.spelt none_left in
    makes d r.state p result (sym (ap (λ l. run l r.state) last) ∙ r.goes_on) clean.1 r.holds f
