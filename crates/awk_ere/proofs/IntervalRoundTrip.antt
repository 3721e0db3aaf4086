-- What is read of an interval is written so, and what is written is read again.
use Rattle.std.proofs.Common.{◌≡◌, ℕ, Bool, true, false, cond, List, [], ◌∷◌, ◌++◌, Some, None, refl, sym, ap, subst, ◌∙◌, append_assoc, arith, inl, inr}
use Rattle.std.specs.Prelude.{◌&&◌, nat_le, ◌==◌}
use Rattle.std.proofs.lemmas.Option.{same_Some, cond_some}
use Rattle.std.proofs.lemmas.Bool.{false≢true, ne_eqb, leb-true, and_parts, and_from, cond-true, cond-false}
use Rattle.awk_ere.specs.definitions.Escapes.{starts, is_digit}
use Rattle.awk_ere.specs.definitions.Tokens.{some_bytes, each, is_number, Repeat, exactly, at_least, between, repeat_bytes, repeat_fits}
use Rattle.awk_ere.specs.support.Lexer.{tail, digits, after_digits, between_at, comma_at, count_at, interval_at}
use Rattle.awk_ere.proofs.Choices.{chosen, chosen_some, Takes}
use Rattle.awk_ere.proofs.BracketRoundTrip.{starts_is}

split_parts : (d : Bool) (b : ℕ) (bs ds rest : List ℕ) → bs ≡ ds ++ rest → b ∷ bs ≡ cond d (b ∷ ds) [] ++ cond d rest (b ∷ bs)
split_parts true b bs ds rest e = ap (λ (l : List ℕ). b ∷ l) e
split_parts false b bs ds rest e = refl

digits_parts : (text : List ℕ) → text ≡ digits text ++ after_digits text
digits_parts [] = refl
digits_parts (b ∷ bs) = split_parts (is_digit b) b bs (digits bs) (after_digits bs) (digits_parts bs)

each_kept : (p : ℕ → Bool) (d : Bool) (b : ℕ) (ds : List ℕ) → p b ≡ d → each p ds ≡ true → each p (cond d (b ∷ ds) []) ≡ true
each_kept p true b ds e h = and_from (p b) (each p ds) e h
each_kept p false b ds e h = refl

digits_each : (text : List ℕ) → each is_digit (digits text) ≡ true
digits_each [] = refl
digits_each (b ∷ bs) = each_kept is_digit (is_digit b) b (digits bs) refl (digits_each bs)

digits_again : (ds rest : List ℕ) → each is_digit ds ≡ true → starts is_digit rest ≡ false → digits (ds ++ rest) ≡ ds
digits_again [] [] h f = refl
digits_again [] (r ∷ rest) h f = cond-false (is_digit r) (r ∷ digits rest) [] f
digits_again (d ∷ ds) rest h f =
    let p = and_parts (is_digit d) _ h in
    cond-true (is_digit d) (d ∷ digits (ds ++ rest)) [] p.0 ∙ ap (λ (l : List ℕ). d ∷ l) (digits_again ds rest p.1 f)

after_again : (ds rest : List ℕ) → each is_digit ds ≡ true → starts is_digit rest ≡ false → after_digits (ds ++ rest) ≡ rest
after_again [] [] h f = refl
after_again [] (r ∷ rest) h f = cond-false (is_digit r) (after_digits rest) (r ∷ rest) f
after_again (d ∷ ds) rest h f =
    let p = and_parts (is_digit d) _ h in
    cond-true (is_digit d) (after_digits (ds ++ rest)) (d ∷ (ds ++ rest)) p.0 ∙ after_again ds rest p.1 f

-- an interval behind its {
abbrev pub TakesInterval : List ℕ → Repeat × List ℕ → Type 0
TakesInterval text v = Takes (123 ∷ text) (repeat_bytes v.0) v.1 (repeat_fits v.0)

-- ds, a comma and the text behind it
comma_takes : (ds text : List ℕ) (v : Repeat × List ℕ) → is_number ds ≡ true → comma_at ds text ≡ Some v → TakesInterval (ds ++ 44 ∷ text) v
comma_takes ds text v n h =
    elim (chosen (starts (λ b. b == 125) text) (Some (at_least ds, tail text)) (between_at ds (digits text) (after_digits text)) (Some v) h) [
      | inl x ↦ subst (TakesInterval (ds ++ 44 ∷ text)) (same_Some (at_least ds, tail text) v x.1)
          (record {
            parts = ap (λ (l : List ℕ). 123 ∷ l)
                (ap (λ (l : List ℕ). ds ++ 44 ∷ l) (starts_is 125 text x.0) ∙ sym (append_assoc ds (44 ∷ 125 ∷ []) (tail text)));
            fits = n;
          })
      | inr x ↦
          let es = digits text in
          let more = after_digits text in
          let y = cond_some (some_bytes es && starts (λ b. b == 125) more) (between ds es, tail more) v x.1 in
          let p = and_parts (some_bytes es) _ y.0 in
          subst (TakesInterval (ds ++ 44 ∷ text)) y.1
          (record {
            parts = ap (λ (l : List ℕ). 123 ∷ l)
                (ap (λ (l : List ℕ). ds ++ 44 ∷ l) (digits_parts text ∙ ap (λ (l : List ℕ). es ++ l) (starts_is 125 more p.1) ∙ sym (append_assoc es (125 ∷ []) (tail more)))
                ∙ sym (append_assoc ds (44 ∷ (es ++ 125 ∷ [])) (tail more)));
            fits = and_from (is_number ds) _ n (and_from (some_bytes es) _ p.0 (digits_each text));
          })
    ]

count_takes : (ds text : List ℕ) (v : Repeat × List ℕ) → each is_digit ds ≡ true → count_at ds text ≡ Some v → TakesInterval (ds ++ text) v
count_takes ds text v e h =
    let c = chosen_some (some_bytes ds) _ v h in
    let n : is_number ds ≡ true = and_from (some_bytes ds) _ c.0 e in
    elim (chosen (starts (λ b. b == 125) text) (Some (exactly ds, tail text)) (cond (starts (λ b. b == 44) text) (comma_at ds (tail text)) None) (Some v) c.1) [
      | inl x ↦ subst (TakesInterval (ds ++ text)) (same_Some (exactly ds, tail text) v x.1)
          (record {
            parts = ap (λ (l : List ℕ). 123 ∷ l) (ap (λ (l : List ℕ). ds ++ l) (starts_is 125 text x.0) ∙ sym (append_assoc ds (125 ∷ []) (tail text)));
            fits = n;
          })
      | inr x ↦
          let y = chosen_some (starts (λ b. b == 44) text) (comma_at ds (tail text)) v x.1 in
          subst (λ (l : List ℕ). TakesInterval (ds ++ l) v) (sym (starts_is 44 text y.0)) (comma_takes ds (tail text) v n y.1)
    ]

pub interval_takes : (text : List ℕ) (v : Repeat × List ℕ) → interval_at text ≡ Some v → TakesInterval text v
interval_takes text v h =
    subst (λ (l : List ℕ). TakesInterval l v) (sym (digits_parts text)) (count_takes (digits text) (after_digits text) v (digits_each text) h)

digit_no_brace : (b : ℕ) → is_digit b ≡ true → (b == 125) ≡ false
digit_no_brace b h = ne_eqb b 125 (λ e. let f = and_parts (nat_le 48 b) (nat_le b 57) h in omega (arith, leb-true b 57 f.1, e))

number_no_brace : (es rest : List ℕ) → some_bytes es ≡ true → each is_digit es ≡ true → starts (λ b. b == 125) (es ++ rest) ≡ false
number_no_brace [] rest n h = absurd (false≢true n)
number_no_brace (e ∷ es) rest n h = digit_no_brace e (and_parts (is_digit e) _ h).0

comma_again : (ds es rest : List ℕ) → some_bytes es ≡ true → each is_digit es ≡ true → comma_at ds (es ++ 125 ∷ rest) ≡ Some (between ds es, rest)
comma_again ds es rest n h =
    cond-false (starts (λ b. b == 125) (es ++ 125 ∷ rest)) (Some (at_least ds, tail (es ++ 125 ∷ rest))) _ (number_no_brace es (125 ∷ rest) n h)
    ∙ ap (λ (l : List ℕ). between_at ds l (after_digits (es ++ 125 ∷ rest))) (digits_again es (125 ∷ rest) h refl)
    ∙ ap (λ (l : List ℕ). between_at ds es l) (after_again es (125 ∷ rest) h refl)
    ∙ cond-true (some_bytes es && true) (Some (between ds es, rest)) None (and_from (some_bytes es) true n refl)

counted_again : (ds rest : List ℕ) (v : Repeat × List ℕ) → each is_digit ds ≡ true → starts is_digit rest ≡ false → count_at ds rest ≡ Some v → interval_at (ds ++ rest) ≡ Some v
counted_again ds rest v h f e =
    ap (λ (l : List ℕ). count_at l (after_digits (ds ++ rest))) (digits_again ds rest h f)
    ∙ ap (λ (l : List ℕ). count_at ds l) (after_again ds rest h f) ∙ e

-- each interval behind its {
pub exactly_again : (ds rest : List ℕ) → is_number ds ≡ true → interval_at ((ds ++ 125 ∷ []) ++ rest) ≡ Some (exactly ds, rest)
exactly_again ds rest h =
    let p = and_parts (some_bytes ds) _ h in
    ap interval_at (append_assoc ds (125 ∷ []) rest)
    ∙ counted_again ds (125 ∷ rest) (exactly ds, rest) p.1 refl (cond-true (some_bytes ds) (Some (exactly ds, rest)) None p.0)

pub at_least_again : (ds rest : List ℕ) → is_number ds ≡ true → interval_at ((ds ++ 44 ∷ 125 ∷ []) ++ rest) ≡ Some (at_least ds, rest)
at_least_again ds rest h =
    let p = and_parts (some_bytes ds) _ h in
    ap interval_at (append_assoc ds (44 ∷ 125 ∷ []) rest)
    ∙ counted_again ds (44 ∷ 125 ∷ rest) (at_least ds, rest) p.1 refl (cond-true (some_bytes ds) (Some (at_least ds, rest)) None p.0)

pub between_again : (ds es rest : List ℕ) → (is_number ds && is_number es) ≡ true → interval_at ((ds ++ 44 ∷ (es ++ 125 ∷ [])) ++ rest) ≡ Some (between ds es, rest)
between_again ds es rest h =
    let n = and_parts (is_number ds) _ h in
    let p = and_parts (some_bytes ds) _ n.0 in
    let q = and_parts (some_bytes es) _ n.1 in
    ap interval_at (append_assoc ds (44 ∷ (es ++ 125 ∷ [])) rest)
    ∙ ap (λ (l : List ℕ). interval_at (ds ++ 44 ∷ l)) (append_assoc es (125 ∷ []) rest)
    ∙ counted_again ds (44 ∷ (es ++ 125 ∷ rest)) (between ds es, rest) p.1 refl
    (cond-true (some_bytes ds) (comma_at ds (es ++ 125 ∷ rest)) None p.0 ∙ comma_again ds es rest q.0 q.1)
