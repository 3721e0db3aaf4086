-- Where the parser over lists stands behind the tokens that were taken.
use Rattle.std.proofs.Common.{◌≡◌, ◌≢◌, ℕ, zero, suc, ◌+◌, ◌<◌, ◌≤◌, List, [], ◌∷◌, ◌++◌, length, take, drop, get_or, add-one, refl, sym, ap, ◌∙◌, subst, arith}
use Rattle.std.specs.Prelude.{◌-◌, Some}
use Rattle.std.specs.List.{slice_get}
use Rattle.awk_lex.specs.Told.{kinds_of}
use Rattle.awk_lex.specs.declared.token.Token.{Token}
use Rattle.awk_grammar.specs.definitions.Height.{max_height}
use Rattle.awk_grammar.specs.support.Parser.{ParserState, Failed, start, step}
use Rattle.awk_frames.specs.declared.frame.Frame.{Frame}
use Rattle.awk_frames.specs.declared.state.ParserState.{ParserState as State}
use Rattle.awk_frames.specs.declared.state.ParserState.TheVariants.{Expression, Statement, Item}
use Rattle.awk_frames.specs.declared.state.ExpressionState.TheVariants as in_expression
use Rattle.awk_frames.specs.declared.state.Behind.TheVariants as behind
use Rattle.awk_frames.specs.declared.state.StatementState.TheVariants as in_statement
use Rattle.awk_frames.specs.declared.state.ItemState.TheVariants as in_item
use Rattle.awk_frames.specs.support.FrameView.{state_of}
use Rattle.awk_syntax.specs.support.Stopped.{state_behind, reached, last_line, StopsAtToken, StopsAtEnd}

-- the code's state is none that has failed
pub goes_on : (s : State) (fs : List Frame) → state_of s fs ≢ Failed
goes_on (Expression g in_expression.AfterLength) fs = λ h. absurd (cc)
goes_on (Expression g (in_expression.AfterOperand e behind.Nothing)) fs = λ h. absurd (cc)
goes_on (Expression g (in_expression.AfterOperand e behind.Bar)) fs = λ h. absurd (cc)
goes_on (Expression g (in_expression.AfterOperand e behind.PipedGetline)) fs = λ h. absurd (cc)
goes_on (Expression g (in_expression.AfterOperand e behind.In)) fs = λ h. absurd (cc)
goes_on (Expression g x) fs = λ h. absurd (cc)
goes_on (Statement in_statement.AfterDelete) fs = λ h. absurd (cc)
goes_on (Statement x) fs = λ h. absurd (cc)
goes_on (Item in_item.BetweenItems) fs = λ h. absurd (cc)
goes_on (Item x) fs = λ h. absurd (cc)

behind_one_more : (x : ParserState) (tokens : List Token) (t : Token) → state_behind x (kinds_of (tokens ++ t ∷ [])) ≡ step max_height (state_behind x (kinds_of tokens)) t.kind
behind_one_more x [] t = refl
behind_one_more x (y ∷ tokens) t = behind_one_more (step max_height x y.kind) tokens t

one_more : (tokens : List Token) (i : ℕ) (x : Token) → i < length tokens → x ≡ get_or tokens i x → take (suc i) tokens ≡ take i tokens ++ x ∷ []
one_more [] i x h e = absurd (omega arith)
one_more (y ∷ tokens) zero x h e = ap (λ z. z ∷ []) (sym e)
one_more (y ∷ tokens) (suc i) x h e = ap (λ z. y ∷ z) (one_more tokens i x (omega arith) e)

-- the tokens before one, it, and those behind it
stand_so : (tokens : List Token) (i : ℕ) (x : Token) → i < length tokens → x ≡ get_or tokens i x → tokens ≡ take i tokens ++ x ∷ drop (suc i) tokens
stand_so [] i x h e = absurd (omega arith)
stand_so (y ∷ tokens) zero x h e = ap (λ z. z ∷ tokens) (sym e)
stand_so (y ∷ tokens) (suc i) x h e = ap (λ z. y ∷ z) (stand_so tokens i x (omega arith) e)

all_taken : (tokens : List Token) (i : ℕ) → length tokens ≤ i → take i tokens ≡ tokens
all_taken [] zero h = refl
all_taken [] (suc i) h = refl
all_taken (y ∷ tokens) zero h = absurd (omega arith)
all_taken (y ∷ tokens) (suc i) h = ap (λ z. y ∷ z) (all_taken tokens i (omega arith))

at_last : (tokens : List Token) (n : ℕ) (x : Token) → length tokens ≡ suc n → Some x ≡ slice_get tokens n → x.line ≡ last_line tokens
at_last [] n x h e = absurd (omega arith)
at_last (y ∷ []) zero x h e = (let same : x ≡ y = cc in ap (λ (z : Token). z.line) same)
at_last (y ∷ []) (suc n) x h e = absurd (omega arith)
at_last (y ∷ z ∷ tokens) zero x h e = absurd (omega arith)
at_last (y ∷ z ∷ tokens) (suc n) x h e = at_last (z ∷ tokens) n x (omega arith) e

-- the last token's line
pub last_line_at : (tokens : List Token) (x : Token) → Some x ≡ slice_get tokens (length tokens - 1) → x.line ≡ last_line tokens
last_line_at [] x e = absurd (cc)
last_line_at (y ∷ tokens) x e =
    let behind : length (y ∷ tokens) - 1 ≡ length tokens = omega arith in
    at_last (y ∷ tokens) (length tokens) x (omega arith) (subst (λ n. Some x ≡ slice_get (y ∷ tokens) n) behind e)

-- one token more is taken
pub reached_on : (a b : ParserState) (tokens : List Token) (i : ℕ) (x : Token) → i < length tokens → x ≡ get_or tokens i x → reached (kinds_of (take i tokens)) ≡ a → b ≡ step max_height a x.kind → reached (kinds_of (take (i + 1) tokens)) ≡ b
reached_on a b tokens i x h e r s =
    let more = ap (λ z. reached (kinds_of z)) (one_more tokens i x h e) ∙ behind_one_more (start max_height) (take i tokens) x in
    rw add-one (more ∙ ap (λ z. step max_height z x.kind) r ∙ sym s)

-- a token can't be taken
pub stops_at : (state : State) (fs : List Frame) (line : ℕ) (tokens : List Token) (i : ℕ) (x : Token) → i < length tokens → x ≡ get_or tokens i x → reached (kinds_of (take i tokens)) ≡ state_of state fs → Failed ≡ step max_height (state_of state fs) x.kind → line ≡ x.line → StopsAtToken line tokens
stops_at state fs line tokens i x h e r s l =
    record {
      before = take i tokens;
      token = x;
      after = drop (suc i) tokens;
      stand = stand_so tokens i x h e;
      taken = λ failed. goes_on state fs (sym r ∙ failed);
      refused = behind_one_more (start max_height) (take i tokens) x ∙ ap (λ z. step max_height z x.kind) r ∙ sym s;
      begins = l;
    }

-- all tokens are taken
pub stops_behind : (state : State) (fs : List Frame) (line : ℕ) (tokens : List Token) (i : ℕ) → length tokens ≤ i → reached (kinds_of (take i tokens)) ≡ state_of state fs → line ≡ last_line tokens → StopsAtEnd line tokens
stops_behind state fs line tokens i h r l =
    record {
      taken = λ failed. goes_on state fs (sym r ∙ ap (λ z. reached (kinds_of z)) (all_taken tokens i h) ∙ failed);
      begins = l;
    }
