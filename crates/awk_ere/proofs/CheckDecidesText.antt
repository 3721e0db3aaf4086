-- The check of a text follows its tokens.
use Rattle.std.proofs.Common.{◌≡◌, ℕ, ◌≤◌, ◌<◌, Bool, true, false, List, [], ◌∷◌, ◌++◌, length, Option, Some, None, refl, sym, ap, subst, ◌∙◌, append_assoc, append-nil, arith, inl, inr}
use Rattle.std.specs.Prelude.{max, ◌||◌, not, nat_le, ◌==◌}
use Rattle.std.specs.Option.{option_map, is_some}
use Rattle.std.proofs.Math.Bool.{or-false, or_assoc}
use Rattle.std.proofs.lemmas.List.{length-append}
use Rattle.std.proofs.lemmas.Option.{same_Some, none-some, some_pair_parts}
use Rattle.std.proofs.lemmas.Bool.{false≢true, eqb-true, cases_lt, le-leb, lt-leb, and_parts, and_from}
use Rattle.awk_ere.specs.declared.check.Before.TheVariants as before_is
use Rattle.awk_ere.specs.declared.check.CheckState.{CheckState}
use Rattle.awk_ere.specs.declared.token.Token.{Token as SeenToken}
use Rattle.awk_ere.specs.definitions.Tokens.{ordinary, any, escape, bracket, star, plus, option, exactly, at_least, between, number, Token, atom, at_start, at_end, opening, closing, bar, again, token_bytes, token_fits, text_of, AreSpelt}
use Rattle.awk_ere.specs.definitions.Written.{Pattern, tokens, opened, Whole, nothing, whole, IsWritten}
use Rattle.awk_ere.specs.definitions.Limits.{greatest_count, token_is_bad, bracket_is_bad, any_bad}
use Rattle.awk_ere.specs.support.Parser.{Frame, ParserState, take_in, ended, and_then, run, begun, parse}
use Rattle.awk_ere.specs.support.Lexer.{token_at}
use Rattle.awk_ere.specs.support.TokenValues.{capped, seen_token, seen_front}
use Rattle.awk_ere.specs.support.Checks.{place, place_behind, may_stop, is_bad, Checked}
use Rattle.awk_ere.proofs.TokenRoundTrip.{token_takes, token_again, token_long}
use Rattle.awk_ere.proofs.ParseRoundTrip.{parse_tokens, tokens_parse}
use Rattle.awk_ere.proofs.BracketValue.{mapped_some, mapped_none}
use Rattle.awk_ere.proofs.CheckFollowsParser.{place_of, follows, may_stop_follows, state_opened, closed_opened, step_opened}

-- ---- the tokens of a text, one after another

-- the tokens of a text begin with the token that is read
first_token : (rest more : List ℕ) (w : Token) (left : List Token) → token_at rest ≡ Some (w, more) → AreSpelt left rest → (later : List Token) × (left ≡ w ∷ later) × AreSpelt later more
first_token rest more w [] e h = absurd (none-some (w, more) (sym (ap token_at h.0) ∙ e))
first_token rest more w (v ∷ later) e h =
    let f = and_parts (token_fits v (text_of later)) _ h.1 in
    let s = some_pair_parts v w (text_of later) more (sym (token_again v (text_of later) f.0) ∙ ap token_at (sym h.0) ∙ e) in
    (later, ap (λ (x : Token). x ∷ later) s.0, (sym s.1, f.1))

token_before : (rest more : List ℕ) (w : Token) (later : List Token) → token_at rest ≡ Some (w, more) → AreSpelt later more → AreSpelt (w ∷ later) rest
token_before rest more w later e h =
    let t = token_takes rest (w, more) e in
    (t.parts ∙ ap (λ (l : List ℕ). token_bytes w ++ l) h.0, and_from (token_fits w (text_of later)) _ (subst (λ (l : List ℕ). token_fits w l ≡ true) h.0 t.fits) h.1)

no_first_token : (rest : List ℕ) (left : List Token) → 0 < length rest → token_at rest ≡ None → AreSpelt left rest → ⊥
no_first_token rest [] lt e h = let z = ap length h.0 in omega arith
no_first_token rest (v ∷ later) lt e h =
    let f = and_parts (token_fits v (text_of later)) _ h.1 in
    none-some (v, text_of later) (sym e ∙ ap token_at h.0 ∙ token_again v (text_of later) f.0)

no_tokens : (rest : List ℕ) (left : List Token) → rest ≡ [] → AreSpelt left rest → left ≡ []
no_tokens rest [] e h = refl
no_tokens rest (w ∷ left) e h =
    absurd (let z = ap length (sym e ∙ h.0) in omega (arith, token_long w, length-append (token_bytes w) (text_of left), z))

pub shorter : (rest more : List ℕ) (s : SeenToken) → Some (s, more) ≡ option_map seen_front (token_at rest) → length more < length rest
shorter rest more s e =
    let w = mapped_some seen_token (token_at rest) s more (sym e) in
    let t = token_takes rest (w.0, more) w.1 in
    omega (arith, token_long w.0, length-append (token_bytes w.0) more, ap length t.parts)

pub has_bytes : (text : List ℕ) → false ≡ (length text == 0) → 0 < length text
has_bytes [] e = absurd (false≢true e)
has_bytes (b ∷ bs) e = omega arith

has_none : (text : List ℕ) → true ≡ (length text == 0) → text ≡ []
has_none [] e = refl
has_none (b ∷ bs) e = absurd (omega (arith, eqb-true (length (b ∷ bs)) 0 (sym e)))

-- ---- what is refused, in the counts of the code

same_order : (a b c d : ℕ) → (a ≤ b → c ≤ d) → (c ≤ d → a ≤ b) → nat_le a b ≡ nat_le c d
same_order a b c d f g =
    elim (cases_lt b a) [
      | inl more ↦ elim (cases_lt d c) [
        | inl too ↦ lt-leb a b more ∙ sym (lt-leb c d too)
        | inr le ↦ absurd (omega (arith, more, g le))
      ]
      | inr le ↦ le-leb a b le ∙ sym (le-leb c d (f le))
    ]

count_follows : (n : ℕ) → nat_le (capped n) greatest_count ≡ nat_le n greatest_count
count_follows n = same_order (capped n) greatest_count n greatest_count (λ h. omega (arith, h)) (λ h. omega (arith, h))

counts_follow : (m n : ℕ) → (not (nat_le (capped n) greatest_count) || not (nat_le (capped m) (capped n))) ≡ (not (nat_le n greatest_count) || not (nat_le m n))
counts_follow m n =
    elim (cases_lt greatest_count n) [
      | inl more ↦
          let above : greatest_count < capped n = omega (arith, more) in
          ap (λ (b : Bool). not b || not (nat_le (capped m) (capped n))) (lt-leb (capped n) greatest_count above)
          ∙ sym (ap (λ (b : Bool). not b || not (nat_le m n)) (lt-leb n greatest_count more))
      | inr le ↦
          ap (λ (b : Bool). not b || not (nat_le (capped m) (capped n))) (count_follows n)
          ∙ ap (λ (b : Bool). not (nat_le n greatest_count) || not b) (same_order (capped m) (capped n) m n (λ h. omega (arith, le, h)) (λ h. omega (arith, le, h)))
    ]

not_not : (b : Bool) → not (not b) ≡ b
not_not true = refl
not_not false = refl

pub bad_follows : (w : Token) → is_bad (seen_token w) ≡ token_is_bad w
bad_follows (atom (ordinary b)) = refl
bad_follows (atom any) = refl
bad_follows (atom (escape e)) = refl
bad_follows (atom (bracket k)) = not_not (bracket_is_bad k)
bad_follows at_start = refl
bad_follows at_end = refl
bad_follows opening = refl
bad_follows closing = refl
bad_follows bar = refl
bad_follows (again star) = refl
bad_follows (again plus) = refl
bad_follows (again option) = refl
bad_follows (again (exactly ds)) = ap not (count_follows (number 0 ds))
bad_follows (again (at_least ds)) = ap not (count_follows (number 0 ds))
bad_follows (again (between ds es)) = counts_follow (number 0 ds) (number 0 es)

any_bad_more : (done : List Token) (w : Token) → any_bad (done ++ w ∷ []) ≡ (any_bad done || token_is_bad w)
any_bad_more [] w = or-false (token_is_bad w)
any_bad_more (v ∷ done) w = ap (λ (b : Bool). token_is_bad v || b) (any_bad_more done w) ∙ sym (or_assoc (token_is_bad v) (any_bad done) (token_is_bad w))

-- ---- the loop over the tokens

-- the tokens so far, what the parser has of them, and that the tokens of the text go on with those of the rest
pub record Follows (text rest : List ℕ) (at : CheckState) (bad : Bool) (deep : ℕ) : Type 0 where
  pub done : List Token
  pub state : ParserState
  pub same : at ≡ place_of state
  pub joined : (left : List Token) → AreSpelt left rest → AreSpelt (done ++ left) text
  pub parted : (ws : List Token) → AreSpelt ws text → (left : List Token) × (ws ≡ done ++ left) × AreSpelt left rest
  pub goes_on : (left : List Token) → run (done ++ left) begun ≡ run left state
  pub order : bad ≡ any_bad done
  pub depth : deep ≡ state_opened state.now state.outer

pub follows_first : (text : List ℕ) → Follows text text (place before_is.Nothing 0) false 0
follows_first text =
    record { done = []; state = begun; same = refl; joined = λ left h. h; parted = λ ws h. (ws, refl, h); goes_on = λ left. refl; order = refl; depth = refl }

stepped : (o : Option ParserState) (p : CheckState) → option_map place_of o ≡ Some p → (s : ParserState) × (o ≡ Some s) × (place_of s ≡ p)
stepped None p e = absurd (none-some p e)
stepped (Some s) p e = (s, refl, same_Some (place_of s) p e)

-- the token that was read, and the step behind it
taken_in : (text rest : List ℕ) (at : CheckState) (bad : Bool) (deep : ℕ) (h : Follows text rest at bad deep) (w : Token) (s : SeenToken) → seen_token w ≡ s → option_map place_of (take_in w h.state) ≡ place_behind s at
taken_in text rest at bad deep h w s e =
    follows w h.state ∙ ap (λ (x : SeenToken). place_behind x (place_of h.state)) e ∙ ap (place_behind s) (sym h.same)

one_more : (done : List Token) (w : Token) (later : List Token) → (done ++ w ∷ []) ++ later ≡ done ++ w ∷ later
one_more done w later = append_assoc done (w ∷ []) later

pub follows_next : (text rest more : List ℕ) (at next : CheckState) (bad : Bool) (deep : ℕ) (s : SeenToken) → Follows text rest at bad deep → Some (s, more) ≡ option_map seen_front (token_at rest) → Some next ≡ place_behind s at → Follows text more next (bad || is_bad s) (max deep next.groups)
follows_next text rest more at next bad deep s h e m =
    let w = mapped_some seen_token (token_at rest) s more (sym e) in
    let n = stepped (take_in w.0 h.state) next (taken_in text rest at bad deep h w.0 s w.2 ∙ sym m) in
    let bad_token : is_bad s ≡ token_is_bad w.0 = ap is_bad (sym w.2) ∙ bad_follows w.0 in
    record {
      done = h.done ++ w.0 ∷ [];
      state = n.0;
      same = sym n.2;
      joined = λ later spelt. subst (λ (l : List Token). AreSpelt l text) (sym (one_more h.done w.0 later)) (h.joined (w.0 ∷ later) (token_before rest more w.0 later w.1 spelt));
      parted = λ ws spelt.
          let g = h.parted ws spelt in
          let t = first_token rest more w.0 g.0 w.1 g.2 in
          (t.0, g.1 ∙ ap (λ (l : List Token). h.done ++ l) t.1 ∙ sym (one_more h.done w.0 t.0), t.2);
      goes_on = λ later.
          ap (λ (l : List Token). run l begun) (one_more h.done w.0 later) ∙ h.goes_on (w.0 ∷ later) ∙ ap (λ (o : Option ParserState). and_then o (run later)) n.1;
      order = ap (λ (b : Bool). b || is_bad s) h.order ∙ ap (λ (b : Bool). any_bad h.done || b) bad_token ∙ sym (any_bad_more h.done w.0);
      depth = ap (λ (d : ℕ). max d next.groups) h.depth
          ∙ ap (λ (p : CheckState). max (state_opened h.state.now h.state.outer) p.groups) (sym n.2) ∙ step_opened w.0 h.state n.0 n.1;
    }

-- ---- where the check ends

not_empty : (text : List ℕ) → 0 < length text → AreSpelt [] text → ⊥
not_empty text lt h = let z = ap length h.0 in omega arith

-- what is written is parsed with what is left of it
left_parsed : (text rest : List ℕ) (at : CheckState) (bad : Bool) (deep : ℕ) (h : Follows text rest at bad deep) → 0 < length text → (w : Whole) → IsWritten w text → (p : Pattern) × (left : List Token) × AreSpelt left rest × (run left h.state ≡ Some p)
left_parsed text rest at bad deep h lt nothing spelt = absurd (not_empty text lt spelt)
left_parsed text rest at bad deep h lt (whole p) spelt =
    let g = h.parted (tokens p) spelt in
    (p, g.0, g.2, sym (h.goes_on g.0) ∙ ap parse (sym g.1) ∙ parse_tokens p)

pub no_token : (text rest : List ℕ) (at : CheckState) (bad : Bool) (deep : ℕ) → Follows text rest at bad deep → 0 < length text → 0 < length rest → None ≡ option_map seen_front (token_at rest) → Checked text None
no_token text rest at bad deep h long lt e w spelt =
    let g = left_parsed text rest at bad deep h long w spelt in
    no_first_token rest g.1 lt (mapped_none seen_front (token_at rest) (sym e)) g.2

pub no_step : (text rest more : List ℕ) (at : CheckState) (bad : Bool) (deep : ℕ) (s : SeenToken) → Follows text rest at bad deep → 0 < length text → Some (s, more) ≡ option_map seen_front (token_at rest) → None ≡ place_behind s at → Checked text None
no_step text rest more at bad deep s h long e m v spelt =
    let w = mapped_some seen_token (token_at rest) s more (sym e) in
    let g = left_parsed text rest at bad deep h long v spelt in
    let t = first_token rest more w.0 g.1 w.1 g.2 in
    let stuck = mapped_none place_of (take_in w.0 h.state) (taken_in text rest at bad deep h w.0 s w.2 ∙ sym m) in
    none-some g.0
    (sym (ap (λ (o : Option ParserState). and_then o (run t.0)) stuck) ∙ ap (λ (l : List Token). run l h.state) (sym t.1) ∙ g.3)

some_is : (o : Option Pattern) → is_some o ≡ true → (p : Pattern) × (o ≡ Some p)
some_is None e = absurd (false≢true e)
some_is (Some p) e = (p, refl)

ended_opened : (f : Frame) (fs : List Frame) (p : Pattern) → ended f fs ≡ Some p → opened p ≡ state_opened f fs
ended_opened f [] p e = closed_opened f p e
ended_opened f (g ∷ fs) p e = absurd (none-some p e)

pub may_end : (text rest : List ℕ) (at : CheckState) (bad : Bool) (deep : ℕ) → Follows text rest at bad deep → true ≡ (length rest == 0) → may_stop at ≡ true → Checked text (Some (record { bad = bad; opened = deep }))
may_end text rest at bad deep h none e =
    let p = some_is (ended h.state.now h.state.outer) (sym (may_stop_follows h.state.now h.state.outer) ∙ ap may_stop (sym h.same) ∙ e) in
    let spelt : AreSpelt h.done text = subst (λ (l : List Token). AreSpelt l text) (append-nil h.done) (h.joined [] (has_none rest none, refl)) in
    let parsed : parse h.done ≡ Some p.0 = ap (λ (l : List Token). run l begun) (sym (append-nil h.done)) ∙ h.goes_on [] ∙ p.1 in
    let its_tokens : tokens p.0 ≡ h.done = tokens_parse h.done p.0 parsed in (
      whole p.0,
      subst (λ (l : List Token). AreSpelt l text) (sym its_tokens) spelt,
      ap any_bad its_tokens ∙ sym h.order,
      ended_opened h.state.now h.state.outer p.0 p.1 ∙ sym h.depth,
    )

pub cannot_end : (text rest : List ℕ) (at : CheckState) (bad : Bool) (deep : ℕ) → Follows text rest at bad deep → 0 < length text → true ≡ (length rest == 0) → may_stop at ≡ false → Checked text None
cannot_end text rest at bad deep h long none e w spelt =
    let g = left_parsed text rest at bad deep h long w spelt in
    let nil = no_tokens rest g.1 (has_none rest none) g.2 in
    let some : ended h.state.now h.state.outer ≡ Some g.0 = ap (λ (l : List Token). run l h.state) (sym nil) ∙ g.3 in
    false≢true (sym e ∙ ap may_stop h.same ∙ may_stop_follows h.state.now h.state.outer ∙ ap is_some some)
