-- What is read of a pattern's tokens is written so, what is written is read again, and a text has one spelling.
use Rattle.std.proofs.Common.{◌≡◌, ℕ, ◌≤◌, true, false, List, [], ◌∷◌, ◌++◌, length, Some, refl, sym, ap, subst, ◌∙◌, arith, inl, inr}
use Rattle.std.specs.Prelude.{◌==◌, not}
use Rattle.std.proofs.lemmas.List.{length-append}
use Rattle.std.proofs.lemmas.Option.{same_Some, none-some, some_pair_parts}
use Rattle.std.proofs.lemmas.Bool.{true≢false, eqb-true, cases_Bool, and_parts, not-true, or_parts, cond-false}
use Rattle.awk_ere.specs.definitions.Tokens.{is_special, ordinary, any, escape, bracket, Repeat, star, plus, option, exactly, at_least, between, repeat_bytes, repeat_fits, Atom, atom_bytes, atom_fits, Token, atom, at_start, at_end, opening, closing, bar, again, token_bytes, token_fits, text_of, AreSpelt}
use Rattle.awk_ere.specs.support.Lexer.{◌>>=◌, escape_at, bracket_at, interval_at, as_escape, as_bracket, as_interval, sign, token_at}
use Rattle.awk_ere.proofs.Choices.{chosen, bind_some, among_all, Takes}
use Rattle.awk_ere.proofs.EscapeRoundTrip.{escape_takes, escape_again}
use Rattle.awk_ere.proofs.BracketRoundTrip.{bracket_takes, bracket_again}
use Rattle.awk_ere.proofs.IntervalRoundTrip.{interval_takes, exactly_again, at_least_again, between_again}

-- ---- tokens of one byte

sign_ordinary : (b : ℕ) → is_special b ≡ false → sign b ≡ atom (ordinary b)
sign_ordinary b h =
    let h1 = or_parts (b == 92) _ h in
    let h2 = or_parts (b == 91) _ h1.1 in
    let h3 = or_parts (b == 123) _ h2.1 in
    let h4 = or_parts (b == 46) _ h3.1 in
    let h5 = or_parts (b == 94) _ h4.1 in
    let h6 = or_parts (b == 36) _ h5.1 in
    let h7 = or_parts (b == 40) _ h6.1 in
    let h8 = or_parts (b == 41) _ h7.1 in
    let h9 = or_parts (b == 124) _ h8.1 in
    let h10 = or_parts (b == 42) _ h9.1 in
    let h11 = or_parts (b == 43) _ h10.1 in
    let h12 = or_parts (b == 63) _ h11.1 in
    cond-false (b == 46) _ _ h4.0
    ∙ cond-false (b == 94) _ _ h5.0
    ∙ cond-false (b == 36) _ _ h6.0
    ∙ cond-false (b == 40) _ _ h7.0
    ∙ cond-false (b == 41) _ _ h8.0
    ∙ cond-false (b == 124) _ _ h9.0
    ∙ cond-false (b == 42) _ _ h10.0
    ∙ cond-false (b == 43) _ _ h11.0
    ∙ cond-false (b == 63) _ _ h12.0

-- ---- a token that is read

abbrev pub TakesToken : List ℕ → Token × List ℕ → Type 0
TakesToken text w = Takes text (token_bytes w.0) w.1 (token_fits w.0 w.1)

-- what is no escape, bracket or interval
abbrev IsSign : List ℕ → ℕ → Type 0
IsSign bs b = (b == 92) ≡ false → (b == 91) ≡ false → (b == 123) ≡ false → TakesToken (b ∷ bs) (sign b, bs)

sign_takes : (b : ℕ) (bs : List ℕ) → IsSign bs b
sign_takes b bs n1 n2 n3 =
    elim (cases_Bool (is_special b)) [
      | inl e ↦ among_all (IsSign bs) (92 ∷ 91 ∷ 123 ∷ 46 ∷ 94 ∷ 36 ∷ 40 ∷ 41 ∷ 124 ∷ 42 ∷ 43 ∷ 63 ∷ []) b (
        (λ p q r. absurd (true≢false p)),
        (
          (λ p q r. absurd (true≢false q)),
          (
            (λ p q r. absurd (true≢false r)),
            (
              (λ p q r. record { parts = refl; fits = refl }),
              (
                (λ p q r. record { parts = refl; fits = refl }),
                (
                  (λ p q r. record { parts = refl; fits = refl }),
                  (
                    (λ p q r. record { parts = refl; fits = refl }),
                    (
                      (λ p q r. record { parts = refl; fits = refl }),
                      (
                        (λ p q r. record { parts = refl; fits = refl }),
                        ((λ p q r. record { parts = refl; fits = refl }), ((λ p q r. record { parts = refl; fits = refl }), ((λ p q r. record { parts = refl; fits = refl }), tt))),
                      ),
                    ),
                  ),
                ),
              ),
            ),
          ),
        ),
      ) e n1 n2 n3
      | inr e ↦ subst (λ (w : Token). TakesToken (b ∷ bs) (w, bs)) (sym (sign_ordinary b e)) (record { parts = refl; fits = ap not e })
    ]

pub token_takes : (text : List ℕ) (w : Token × List ℕ) → token_at text ≡ Some w → TakesToken text w
token_takes [] w h = absurd (none-some w h)
token_takes (b ∷ bs) w h =
    elim (chosen (b == 92) (escape_at bs >>= as_escape) _ (Some w) h) [
      | inl x ↦
          let y = bind_some (escape_at bs) as_escape w x.1 in
          let t = escape_takes bs y.0 y.1 in
          subst (TakesToken (b ∷ bs)) (same_Some (atom (escape y.0.0), y.0.1) w y.2)
          (record { parts = ap (λ c. c ∷ bs) (eqb-true b 92 x.0) ∙ ap (λ (l : List ℕ). 92 ∷ l) t.parts; fits = t.fits })
      | inr n1 ↦ elim (chosen (b == 91) (bracket_at bs >>= as_bracket) _ (Some w) n1.1) [
        | inl x ↦
            let y = bind_some (bracket_at bs) as_bracket w x.1 in
            let t = bracket_takes bs y.0 y.1 in
            subst (TakesToken (b ∷ bs)) (same_Some (atom (bracket y.0.0), y.0.1) w y.2)
            (record { parts = ap (λ c. c ∷ bs) (eqb-true b 91 x.0) ∙ ap (λ (l : List ℕ). 91 ∷ l) t.parts; fits = t.fits })
        | inr n2 ↦ elim (chosen (b == 123) (interval_at bs >>= as_interval) (Some (sign b, bs)) (Some w) n2.1) [
          | inl x ↦
              let y = bind_some (interval_at bs) as_interval w x.1 in
              let t = interval_takes bs y.0 y.1 in
              subst (TakesToken (b ∷ bs)) (same_Some (again y.0.0, y.0.1) w y.2)
              (record { parts = ap (λ c. c ∷ bs) (eqb-true b 123 x.0) ∙ t.parts; fits = t.fits })
          | inr n3 ↦ subst (TakesToken (b ∷ bs)) (same_Some (sign b, bs) w n3.1) (sign_takes b bs n1.0 n2.0 n3.0)
        ]
      ]
    ]

-- ---- a token that is written

atom_again : (a : Atom) (rest : List ℕ) → atom_fits a rest ≡ true → token_at (atom_bytes a ++ rest) ≡ Some (atom a, rest)
atom_again (ordinary b) rest h =
    let h0 = not-true (is_special b) h in
    let h1 = or_parts (b == 92) _ h0 in
    let h2 = or_parts (b == 91) _ h1.1 in
    let h3 = or_parts (b == 123) _ h2.1 in
    cond-false (b == 92) _ _ h1.0
    ∙ cond-false (b == 91) _ _ h2.0
    ∙ cond-false (b == 123) _ _ h3.0
    ∙ ap (λ (w : Token). Some (w, rest)) (sign_ordinary b h0)
atom_again any rest h = refl
atom_again (escape e) rest h = ap (λ o. o >>= as_escape) (escape_again e rest h)
atom_again (bracket k) rest h = ap (λ o. o >>= as_bracket) (bracket_again k rest h)

repeat_again : (r : Repeat) (rest : List ℕ) → repeat_fits r ≡ true → token_at (repeat_bytes r ++ rest) ≡ Some (again r, rest)
repeat_again star rest h = refl
repeat_again plus rest h = refl
repeat_again option rest h = refl
repeat_again (exactly ds) rest h = ap (λ o. o >>= as_interval) (exactly_again ds rest h)
repeat_again (at_least ds) rest h = ap (λ o. o >>= as_interval) (at_least_again ds rest h)
repeat_again (between ds es) rest h = ap (λ o. o >>= as_interval) (between_again ds es rest h)

pub token_again : (w : Token) (rest : List ℕ) → token_fits w rest ≡ true → token_at (token_bytes w ++ rest) ≡ Some (w, rest)
token_again (atom a) rest h = atom_again a rest h
token_again at_start rest h = refl
token_again at_end rest h = refl
token_again opening rest h = refl
token_again closing rest h = refl
token_again bar rest h = refl
token_again (again r) rest h = repeat_again r rest h

-- ---- one spelling

atom_long : (a : Atom) → 1 ≤ length (atom_bytes a)
atom_long (ordinary b) = omega arith
atom_long any = omega arith
atom_long (escape e) = omega arith
atom_long (bracket k) = omega arith

repeat_long : (r : Repeat) → 1 ≤ length (repeat_bytes r)
repeat_long star = omega arith
repeat_long plus = omega arith
repeat_long option = omega arith
repeat_long (exactly ds) = omega arith
repeat_long (at_least ds) = omega arith
repeat_long (between ds es) = omega arith

pub token_long : (w : Token) → 1 ≤ length (token_bytes w)
token_long (atom a) = atom_long a
token_long at_start = omega arith
token_long at_end = omega arith
token_long opening = omega arith
token_long closing = omega arith
token_long bar = omega arith
token_long (again r) = repeat_long r

token_empty : (w : Token) (rest : List ℕ) → [] ≡ token_bytes w ++ rest → ⊥
token_empty w rest e = omega (arith, token_long w, length-append (token_bytes w) rest, ap length e)

-- a text is spelled by one list of tokens
pub one_spelling : (ws vs : List Token) (text : List ℕ) → AreSpelt ws text → AreSpelt vs text → ws ≡ vs
one_spelling [] [] text p q = refl
one_spelling [] (v ∷ vs) text p q = absurd (token_empty v (text_of vs) (sym p.0 ∙ q.0))
one_spelling (w ∷ ws) [] text p q = absurd (token_empty w (text_of ws) (sym q.0 ∙ p.0))
one_spelling (w ∷ ws) (v ∷ vs) text p q =
    let f = and_parts (token_fits w (text_of ws)) _ p.1 in
    let g = and_parts (token_fits v (text_of vs)) _ q.1 in
    let same : Some (w, text_of ws) ≡ Some (v, text_of vs) = sym (token_again w (text_of ws) f.0) ∙ ap token_at (sym p.0 ∙ q.0) ∙ token_again v (text_of vs) g.0 in
    let parts = some_pair_parts w v (text_of ws) (text_of vs) same in
    let tails = one_spelling ws vs (text_of ws) (refl, f.1) (parts.1, g.1) in
    ap (λ (k : Token). k ∷ ws) parts.0 ∙ ap (λ (l : List Token). v ∷ l) tails
