-- What stands between two delimiters.
use Rattle.std.proofs.Common.{◌≡◌, ℕ, suc, ◌+◌, Bool, true, false, eqb, not, ◌&&◌, ◌||◌, inl, inr, List, [], ◌∷◌, ◌++◌, length, take, drop, Option, Some, None, refl, sym, ap, ◌∙◌, subst, arith, eq-eqb}
use Rattle.std.specs.Option.{option_map}
use Rattle.std.proofs.lemmas.Bool.{cases_Bool, and_parts, not-true, eqb-true}
use Rattle.awk_lex.specs.definitions.Words.{is_plain, Body, none, plain, escaped}
use Rattle.awk_lex.specs.definitions.Lexes.{EndsLine, BreaksOff}
use Rattle.awk_lex.specs.support.Lexeme.{body_len}
use Rattle.awk_lex.proofs.Prefixes.{if_true, if_false}

and_false : (x : Bool) → (x && false) ≡ false
and_false true = refl
and_false false = refl

and_true : (x : Bool) → (x && true) ≡ x
and_true true = refl
and_true false = refl

-- a byte that ends no body
step_over : (delimiter : ℕ) (behind : Bool) (b : ℕ) (bs : List ℕ) → eqb b 10 ≡ false → (eqb b delimiter && not behind) ≡ false
    → body_len delimiter behind (b ∷ bs) ≡ option_map suc (body_len delimiter (eqb b 92 && not behind) bs)
step_over delimiter behind b bs newline marked = if_false (eqb b 10) _ _ newline ∙ if_false (eqb b delimiter && not behind) _ _ marked

-- what a plain byte isn't
record IsPlain (delimiter b : ℕ) : Type 0 where
  no_delimiter : eqb b delimiter ≡ false
  no_backslash : eqb b 92 ≡ false
  no_newline : eqb b 10 ≡ false

plain_is : (delimiter b : ℕ) → is_plain delimiter b ≡ true → IsPlain delimiter b
plain_is delimiter b h = by_tests (eqb b delimiter) (eqb b 92) (eqb b 10) refl refl refl h
  where
    by_tests : (q k n : Bool) → eqb b delimiter ≡ q → eqb b 92 ≡ k → eqb b 10 ≡ n → not (q || (k || n)) ≡ true → IsPlain delimiter b
    by_tests false false false q k n t = record { no_delimiter = q; no_backslash = k; no_newline = n }
    by_tests true k n a b c t = absurd (cc)
    by_tests false true n a b c t = absurd (cc)
    by_tests false false true a b c t = absurd (cc)

is_plain_from : (delimiter b : ℕ) → eqb b delimiter ≡ false → eqb b 92 ≡ false → eqb b 10 ≡ false → is_plain delimiter b ≡ true
is_plain_from delimiter b q k n = ap (λ x. not (x || (eqb b 92 || eqb b 10))) q ∙ ap (λ x. not (x || eqb b 10)) k ∙ ap not n

pub plain_no_newline : (delimiter b : ℕ) → is_plain delimiter b ≡ true → eqb b 10 ≡ false
plain_no_newline delimiter b h = (plain_is delimiter b h).no_newline

map_more : (k : ℕ) (o : Option ℕ) → option_map suc (option_map (λ n. k + n) o) ≡ option_map (λ n. suc k + n) o
map_more k None = refl
map_more k (Some n) = let e : suc (k + n) ≡ suc k + n = omega arith in ap Some e

map_none : (o : Option ℕ) → o ≡ option_map (λ n. 0 + n) o
map_none None = refl
map_none (Some n) = let e : n ≡ 0 + n = omega arith in ap Some e

-- a delimiter that ends bodies: no newline and no backslash
pub record IsMark (delimiter : ℕ) : Type 0 where
  pub no_newline : eqb delimiter 10 ≡ false
  pub no_backslash : eqb 92 delimiter ≡ false

pub quote_is_delimiter : IsMark 34
quote_is_delimiter = record { no_newline = refl; no_backslash = refl }

pub slash_is_delimiter : IsMark 47
slash_is_delimiter = record { no_newline = refl; no_backslash = refl }

-- a backslash and the byte that it escapes
over_escape : (delimiter b : ℕ) (bs : List ℕ) → IsMark delimiter → eqb b 10 ≡ false
    → body_len delimiter false (92 ∷ b ∷ bs) ≡ option_map suc (option_map suc (body_len delimiter false bs))
over_escape delimiter b bs m newline =
    step_over delimiter false 92 (b ∷ bs) refl (ap (λ x. x && true) m.no_backslash)
    ∙ ap (option_map suc) (step_over delimiter true b bs newline (and_false (eqb b delimiter)) ∙ ap (λ x. option_map suc (body_len delimiter x bs)) (and_false (eqb b 92)))

-- a body stands before what is counted further
over_body : (delimiter : ℕ) (body rest : List ℕ) → IsMark delimiter → Body delimiter body
    → body_len delimiter false (body ++ rest) ≡ option_map (λ n. length body + n) (body_len delimiter false rest)
over_body delimiter _ rest m none = map_none (body_len delimiter false rest)
over_body delimiter _ rest m (plain {b} {body} h g) =
    let p = plain_is delimiter b h in
    step_over delimiter false b (body ++ rest) p.no_newline (ap (λ x. x && true) p.no_delimiter)
    ∙ ap (λ x. option_map suc (body_len delimiter (x && true) (body ++ rest))) p.no_backslash
    ∙ ap (option_map suc) (over_body delimiter body rest m g) ∙ map_more (length body) (body_len delimiter false rest)
over_body delimiter _ rest m (escaped {b} {body} h g) =
    over_escape delimiter b (body ++ rest) m (not-true (eqb b 10) h)
    ∙ ap (λ o. option_map suc (option_map suc o)) (over_body delimiter body rest m g)
    ∙ ap (option_map suc) (map_more (length body) (body_len delimiter false rest)) ∙ map_more (suc (length body)) (body_len delimiter false rest)

other_here : (delimiter : ℕ) (rest : List ℕ) → IsMark delimiter → body_len delimiter false (delimiter ∷ rest) ≡ Some 0
other_here delimiter rest m = if_false (eqb delimiter 10) _ _ m.no_newline ∙ if_true (eqb delimiter delimiter && true) _ _ (ap (λ x. x && true) (eq-eqb delimiter delimiter refl))

pub closed_len : (delimiter : ℕ) (body rest : List ℕ) → IsMark delimiter → Body delimiter body → body_len delimiter false (body ++ delimiter ∷ rest) ≡ Some (length body)
closed_len delimiter body rest m h =
    let e : length body + 0 ≡ length body = omega arith in
    over_body delimiter body (delimiter ∷ rest) m h ∙ ap (option_map (λ n. length body + n)) (other_here delimiter rest m) ∙ ap Some e

ends_here : (delimiter : ℕ) (rest : List ℕ) → EndsLine rest → (behind : Bool) → body_len delimiter behind rest ≡ None
ends_here delimiter [] h behind = refl
ends_here delimiter (b ∷ bs) h behind = ap (λ x. body_len delimiter behind (x ∷ bs)) h

breaks_here : (delimiter : ℕ) (rest : List ℕ) → IsMark delimiter → BreaksOff rest → body_len delimiter false rest ≡ None
breaks_here delimiter rest m (inl ends) = ends_here delimiter rest ends false
breaks_here delimiter rest m (inr h) =
    ap (body_len delimiter false) h.1 ∙ step_over delimiter false 92 h.0 refl (ap (λ x. x && true) m.no_backslash) ∙ ap (option_map suc) (ends_here delimiter h.0 h.2 true)

pub open_len : (delimiter : ℕ) (body rest : List ℕ) → IsMark delimiter → Body delimiter body → BreaksOff rest → body_len delimiter false (body ++ rest) ≡ None
open_len delimiter body rest m h breaks = over_body delimiter body rest m h ∙ ap (option_map (λ n. length body + n)) (breaks_here delimiter rest m breaks)

-- the backslash that stands directly before the bytes
before : Bool → List ℕ → List ℕ
before true bs = 92 ∷ bs
before false bs = bs

extend : (delimiter : ℕ) (behind : Bool) (b : ℕ) (body : List ℕ) → eqb b 10 ≡ false → (eqb b delimiter && not behind) ≡ false
    → Body delimiter (before (eqb b 92 && not behind) body) → Body delimiter (before behind (b ∷ body))
unfolding before
extend delimiter true b body newline marked h =
    escaped (ap not newline) (subst (λ x. Body delimiter (before x body)) (and_false (eqb b 92)) h)
extend delimiter false b body newline marked h = elim (cases_Bool (eqb b 92)) [
  | inl backslash ↦
      subst (λ x. Body delimiter (x ∷ body)) (sym (eqb-true b 92 backslash)) (subst (λ x. Body delimiter (before x body)) (and_true (eqb b 92) ∙ backslash) h)
  | inr other ↦
      plain (is_plain_from delimiter b (sym (and_true (eqb b delimiter)) ∙ marked) other newline)
      (subst (λ x. Body delimiter (before x body)) (and_true (eqb b 92) ∙ other) h)
]

-- the bytes up to the closing delimiter are a body
record IsClosed (delimiter : ℕ) (behind : Bool) (bs : List ℕ) (len : ℕ) : Type 0 where
  is_body : Body delimiter (before behind (take len bs))
  is : bs ≡ take len bs ++ delimiter ∷ drop (suc len) bs

closed_here : (delimiter : ℕ) (behind : Bool) (b : ℕ) (bs : List ℕ) (len : ℕ) → (eqb b delimiter && not behind) ≡ true → 0 ≡ len → IsClosed delimiter behind (b ∷ bs) len
unfolding before
closed_here delimiter behind b bs len marked e =
    let parts = and_parts (eqb b delimiter) (not behind) marked in
    let first : IsClosed delimiter behind (b ∷ bs) 0 = record {
      is_body = subst (λ x. Body delimiter (before x [])) (sym (not-true behind parts.1)) none;
      is = ap (λ x. x ∷ bs) (eqb-true b delimiter parts.0);
    } in
    subst (IsClosed delimiter behind (b ∷ bs)) e first

closed_more : (delimiter : ℕ) (behind : Bool) (b : ℕ) (bs : List ℕ) (len : ℕ) → eqb b 10 ≡ false → (eqb b delimiter && not behind) ≡ false
    → IsClosed delimiter (eqb b 92 && not behind) bs len → IsClosed delimiter behind (b ∷ bs) (suc len)
closed_more delimiter behind b bs len newline marked h = record {
  is_body = extend delimiter behind b (take len bs) newline marked h.is_body;
  is = ap (λ x. b ∷ x) h.is;
}

closed_by_rest : (delimiter : ℕ) (behind : Bool) (b : ℕ) (bs : List ℕ) (len : ℕ) (o : Option ℕ) → eqb b 10 ≡ false → (eqb b delimiter && not behind) ≡ false
    → ((n : ℕ) → o ≡ Some n → IsClosed delimiter (eqb b 92 && not behind) bs n) → option_map suc o ≡ Some len → IsClosed delimiter behind (b ∷ bs) len
closed_by_rest delimiter behind b bs len None line other closed h = absurd (cc)
closed_by_rest delimiter behind b bs len (Some n) line other closed h =
    let len_is : suc n ≡ len = cc in
    subst (IsClosed delimiter behind (b ∷ bs)) len_is (closed_more delimiter behind b bs n line other (closed n refl))

is_closed : (delimiter : ℕ) (behind : Bool) (bs : List ℕ) (len : ℕ) → body_len delimiter behind bs ≡ Some len → IsClosed delimiter behind bs len
is_closed delimiter behind [] len h = absurd (cc)
is_closed delimiter behind (b ∷ bs) len h = elim (cases_Bool (eqb b 10)) [
  | inl newline ↦ let no : None ≡ Some len = sym (if_true (eqb b 10) _ _ newline) ∙ h in absurd (cc)
  | inr line ↦ elim (cases_Bool (eqb b delimiter && not behind)) [
    | inl marked ↦
        let zero_is : Some 0 ≡ Some len = sym (if_false (eqb b 10) _ _ line ∙ if_true (eqb b delimiter && not behind) _ _ marked) ∙ h in
        closed_here delimiter behind b bs len marked (cc)
    | inr other ↦
        closed_by_rest delimiter behind b bs len (body_len delimiter (eqb b 92 && not behind) bs) line other
        (is_closed delimiter (eqb b 92 && not behind) bs) (sym (step_over delimiter behind b bs line other) ∙ h)
  ]
]

pub closed_body : (delimiter : ℕ) (bs : List ℕ) (len : ℕ) → body_len delimiter false bs ≡ Some len → Body delimiter (take len bs) × (bs ≡ take len bs ++ delimiter ∷ drop (suc len) bs)
unfolding before
closed_body delimiter bs len h = let c = is_closed delimiter false bs len h in (c.is_body, c.is)

-- a body that breaks off
pub record Broken (delimiter : ℕ) (bs : List ℕ) : Type 0 where
  pub body : List ℕ
  pub rest : List ℕ
  pub is : bs ≡ body ++ rest
  pub is_body : Body delimiter body
  pub breaks_off : BreaksOff rest

broken_end : (delimiter : ℕ) (behind : Bool) (bs : List ℕ) → EndsLine bs → Broken delimiter (before behind bs)
unfolding before
broken_end delimiter false bs ends = record { body = []; rest = bs; is = refl; is_body = none; breaks_off = inl ends }
broken_end delimiter true bs ends = record { body = []; rest = 92 ∷ bs; is = refl; is_body = none; breaks_off = inr (bs, refl, ends) }

broken_more : (delimiter : ℕ) (behind : Bool) (b : ℕ) (bs : List ℕ) → eqb b 10 ≡ false → (eqb b delimiter && not behind) ≡ false
    → Broken delimiter (before (eqb b 92 && not behind) bs) → Broken delimiter (before behind (b ∷ bs))
unfolding before
broken_more delimiter true b bs newline marked h =
    let o = subst (λ x. Broken delimiter (before x bs)) (and_false (eqb b 92)) h in
    record {
      body = 92 ∷ b ∷ o.body;
      rest = o.rest;
      is = ap (λ x. 92 ∷ b ∷ x) o.is;
      is_body = escaped (ap not newline) o.is_body;
      breaks_off = o.breaks_off;
    }
broken_more delimiter false b bs newline marked h = elim (cases_Bool (eqb b 92)) [
  | inl backslash ↦
      subst (λ x. Broken delimiter (x ∷ bs)) (sym (eqb-true b 92 backslash)) (subst (λ x. Broken delimiter (before x bs)) (and_true (eqb b 92) ∙ backslash) h)
  | inr other ↦
      let o = subst (λ x. Broken delimiter (before x bs)) (and_true (eqb b 92) ∙ other) h in
      record {
        body = b ∷ o.body;
        rest = o.rest;
        is = ap (λ x. b ∷ x) o.is;
        is_body = plain (is_plain_from delimiter b (sym (and_true (eqb b delimiter)) ∙ marked) other newline) o.is_body;
        breaks_off = o.breaks_off;
      }
]

none_before : (o : Option ℕ) → option_map suc o ≡ None → o ≡ None
none_before None h = refl
none_before (Some n) h = absurd (cc)

not_none : (n : ℕ) → None ≡ Some n → ⊥
not_none n h = cc

broken_from : (delimiter : ℕ) (behind : Bool) (bs : List ℕ) → body_len delimiter behind bs ≡ None → Broken delimiter (before behind bs)
broken_from delimiter behind [] h = broken_end delimiter behind [] tt
broken_from delimiter behind (b ∷ bs) h = elim (cases_Bool (eqb b 10)) [
  | inl newline ↦ broken_end delimiter behind (b ∷ bs) (eqb-true b 10 newline)
  | inr line ↦ elim (cases_Bool (eqb b delimiter && not behind)) [
    | inl marked ↦ absurd (not_none 0 (sym h ∙ if_false (eqb b 10) _ _ line ∙ if_true (eqb b delimiter && not behind) _ _ marked))
    | inr other ↦
        broken_more delimiter behind b bs line other
        (broken_from delimiter (eqb b 92 && not behind) bs (none_before _ (sym (step_over delimiter behind b bs line other) ∙ h)))
  ]
]

pub broken_body : (delimiter : ℕ) (bs : List ℕ) → body_len delimiter false bs ≡ None → Broken delimiter bs
unfolding before
broken_body delimiter bs h = broken_from delimiter false bs h
