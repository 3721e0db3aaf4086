-- What is left to read, one token after the other.
use Rattle.std.proofs.Common.{◌≡◌, ℕ, zero, suc, ◌+◌, ◌<◌, ◌≤◌, List, [], ◌∷◌, length, drop, get_or, add-one, Option, None, refl, sym, ap, ◌∙◌, arith}
use Rattle.std.proofs.lemmas.List.{at_drop_all}
use Rattle.awk_lex.specs.Told.{kinds_of}
use Rattle.awk_lex.specs.declared.token.Token.{Token}
use Rattle.awk_grammar.specs.definitions.Tree.{Item}
use Rattle.awk_grammar.specs.support.Parser.{ParserState, Failed, step, finish, answer}
use Rattle.awk_lex.specs.declared.token.Kind.{Kind}

kinds_behind : (tokens : List Token) (i : ℕ) (x : Token) → i < length tokens → x ≡ get_or tokens i x → kinds_of (drop i tokens) ≡ x.kind ∷ kinds_of (drop (suc i) tokens)
kinds_behind [] i x h e = absurd (omega arith)
kinds_behind (y ∷ tokens) zero x h e = ap (λ (z : Token). z.kind ∷ kinds_of tokens) (sym e)
kinds_behind (y ∷ tokens) (suc i) x h e = kinds_behind tokens i x (omega arith) e

kinds_at : (tokens : List Token) (i : ℕ) (x : Token) → i < length tokens → x ≡ get_or tokens i x → kinds_of (drop i tokens) ≡ x.kind ∷ kinds_of (drop (i + 1) tokens)
kinds_at tokens i x h e = rw add-one (kinds_behind tokens i x h e)

-- what has failed stays so
failed : (m : ℕ) (ts : List Kind) → answer m Failed ts ≡ None
failed m [] = refl
failed m (y ∷ ts) = failed m ts

-- a token is taken
pub read_on : (m : ℕ) (a b : ParserState) (r : Option (Option (List Item))) (tokens : List Token) (i : ℕ) (x : Token) → i < length tokens → x ≡ get_or tokens i x → answer m a (kinds_of (drop i tokens)) ≡ r → b ≡ step m a x.kind → answer m b (kinds_of (drop (i + 1) tokens)) ≡ r
read_on m a b r tokens i x h e q s =
    ap (λ z. answer m z (kinds_of (drop (i + 1) tokens))) s ∙ ap (answer m a) (sym (kinds_at tokens i x h e)) ∙ q

-- a token can't be taken
pub refused_at : (m : ℕ) (a : ParserState) (r : Option (Option (List Item))) (tokens : List Token) (i : ℕ) (x : Token) → i < length tokens → x ≡ get_or tokens i x → answer m a (kinds_of (drop i tokens)) ≡ r → Failed ≡ step m a x.kind → r ≡ None
refused_at m a r tokens i x h e q s = sym (read_on m a Failed r tokens i x h e q s) ∙ failed m (kinds_of (drop (i + 1) tokens))

-- all tokens are taken
pub read_all : (m : ℕ) (a : ParserState) (r : Option (Option (List Item))) (tokens : List Token) (i : ℕ) → length tokens ≤ i → answer m a (kinds_of (drop i tokens)) ≡ r → r ≡ finish m a
read_all m a r tokens i h q = sym q ∙ at_drop_all (λ ts. answer m a (kinds_of ts)) tokens i h
