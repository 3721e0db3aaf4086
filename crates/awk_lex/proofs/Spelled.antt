-- What is found at a place is spelled there.
use Rattle.std.proofs.Common.{◌≡◌, ℕ, suc, ◌+◌, ◌≤◌, Bool, true, false, not, eqb, inl, inr, List, [], ◌∷◌, ◌++◌, length, take, drop, Option, Some, None, Ok, refl, sym, ap, ◌∙◌, subst, arith, append_assoc, length-append}
use Rattle.std.specs.Prelude.{take_while, is_some, unwrap_or}
use Rattle.std.specs.List.{prefix_len}
use Rattle.std.specs.Char.{is_ascii_digit}
use Rattle.std.proofs.lemmas.List.{length-take}
use Rattle.std.proofs.lemmas.Bool.{cases_Bool, and_from, eqb-true}
use Rattle.awk_lex.specs.definitions.Escapes.{unescaped}
use Rattle.awk_lex.specs.definitions.Tables.{reserved, punctuators, divisions, kind_in}
use Rattle.awk_lex.specs.definitions.Words.{is_name_start, is_word_byte, is_word, is_digits, opens, suits, Writes, number, string, ere, word, name, called, punctuator, division}
use Rattle.awk_lex.specs.support.Lexeme.{Found, found_number, body_len, named, kind_of, found_word, closed_string, found_string, found_ere, short_punctuator, long_punctuator, punctuator_at, slash_at, other_at, token_at}
use Rattle.awk_lex.specs.declared.token.Kind.{Kind}
use Rattle.awk_lex.specs.declared.token.Kind.TheVariants.{Name, Called}
use Rattle.awk_lex.proofs.Prefixes.{if_true, if_false, front_passes, front_cons, front_split}
use Rattle.awk_lex.proofs.Tables.{word_suits, IsTable, punctuators_are, divisions_are, row_is}
use Rattle.awk_lex.proofs.DelimitedBodies.{closed_body}
use Rattle.awk_lex.proofs.MaximalMunch.{ok_is, letter_in_word}

-- what is found is spelled, and suits what stands behind
pub record Spelled (d : Bool) (f : Found) (text : List ℕ) : Type 0 where
  pub word : List ℕ
  pub rest : List ℕ
  pub is : text ≡ word ++ rest
  pub writes : Writes d f.kind word
  pub suited : suits f.kind rest ≡ true
  pub len : length word ≡ f.len
  pub some : 1 ≤ f.len

front_spelled : (d : Bool) (p : ℕ → Bool) (text : List ℕ) (k : Kind) → Writes d k (take_while p text) → suits k (drop (prefix_len p text) text) ≡ true
    → 1 ≤ length (take_while p text) → Spelled d (record { kind = k; len = length (take_while p text) }) text
front_spelled d p text k writes suited some = record {
  word = take_while p text;
  rest = drop (prefix_len p text) text;
  is = front_split p text;
  writes = writes;
  suited = suited;
  len = refl;
  some = some;
}

-- the kind of a word is spelled by it and suits what stands behind
kind_spelled : (d : Bool) (w rest : List ℕ) → is_word w ≡ true → Writes d (kind_of w rest) w × (suits (kind_of w rest) rest ≡ true)
kind_spelled d w rest h = by_row (kind_in reserved w) refl
  where
    by_row : (o : Option Kind) → kind_in reserved w ≡ o → Writes d (unwrap_or o (named w rest)) w × (suits (unwrap_or o (named w rest)) rest ≡ true)
    by_row (Some k) e = (word e, word_suits w rest k e)
    by_row None e = elim (cases_Bool (opens rest)) [
      | inl opened ↦
          let is = sym (if_true (opens rest) (Called w) (Name w) opened) in
          (subst (λ k. Writes d k w) is (called h (ap is_some e)), subst (λ k. suits k rest ≡ true) is opened)
      | inr other ↦
          let is = sym (if_false (opens rest) (Called w) (Name w) other) in
          (subst (λ k. Writes d k w) is (name h (ap is_some e)), subst (λ k. suits k rest ≡ true) is (ap not other))
    ]

spelled_word : (d : Bool) (b : ℕ) (bs : List ℕ) (f : Found) → is_name_start b ≡ true
    → found_word (take_while is_word_byte (b ∷ bs)) (drop (prefix_len is_word_byte (b ∷ bs)) (b ∷ bs)) ≡ Ok f → Spelled d f (b ∷ bs)
spelled_word d b bs f letter h =
    let front = front_cons is_word_byte b bs (letter_in_word b letter) in
    let is_a_word : is_word (take_while is_word_byte (b ∷ bs)) ≡ true =
    ap is_word front ∙ and_from _ _ letter (front_passes is_word_byte bs) in
    let k = kind_spelled d (take_while is_word_byte (b ∷ bs)) (drop (prefix_len is_word_byte (b ∷ bs)) (b ∷ bs)) is_a_word in
    subst (λ g. Spelled d g (b ∷ bs)) (ok_is _ _ _ refl h)
    (front_spelled d is_word_byte (b ∷ bs) _ k.0 k.1 (omega (arith, ap length front)))

spelled_number : (d : Bool) (b : ℕ) (bs : List ℕ) (f : Found) → is_ascii_digit b ≡ true → found_number (take_while is_ascii_digit (b ∷ bs)) ≡ Ok f → Spelled d f (b ∷ bs)
spelled_number d b bs f digit h =
    let front = front_cons is_ascii_digit b bs digit in
    let are_digits : is_digits (take_while is_ascii_digit (b ∷ bs)) ≡ true =
    ap is_digits front ∙ and_from _ _ digit (front_passes is_ascii_digit bs) in
    subst (λ g. Spelled d g (b ∷ bs)) (ok_is _ _ _ refl h)
    (front_spelled d is_ascii_digit (b ∷ bs) _ (number are_digits) refl (omega (arith, ap length front)))

taken_len : (delimiter : ℕ) (bs : List ℕ) (len : ℕ) → bs ≡ take len bs ++ delimiter ∷ drop (suc len) bs → length (take len bs) ≡ len
taken_len delimiter bs len h = omega (arith, ap length h, length-append (take len bs) (delimiter ∷ drop (suc len) bs), length-take len bs)

-- what stands between two delimiters
between : (d : Bool) (delimiter : ℕ) (bs : List ℕ) (len : ℕ) (k : Kind) → bs ≡ take len bs ++ delimiter ∷ drop (suc len) bs
    → Writes d k (delimiter ∷ take len bs ++ delimiter ∷ []) → suits k (drop (suc len) bs) ≡ true → Spelled d (record { kind = k; len = len + 2 }) (delimiter ∷ bs)
between d delimiter bs len k is writes suited = record {
  word = delimiter ∷ take len bs ++ delimiter ∷ [];
  rest = drop (suc len) bs;
  is = ap (λ x. delimiter ∷ x) (is ∙ sym (append_assoc (take len bs) (delimiter ∷ []) (drop (suc len) bs)));
  writes = writes;
  suited = suited;
  len = omega (arith, length-append (take len bs) (delimiter ∷ []), taken_len delimiter bs len is);
  some = omega arith;
}

spelled_closed : (d : Bool) (bs : List ℕ) (len : ℕ) (f : Found) (o : Option (List ℕ)) → body_len 34 false bs ≡ Some len → unescaped (take len bs) ≡ o
    → closed_string len o ≡ Ok f → Spelled d f (34 ∷ bs)
spelled_closed d bs len f None closed is_value h = absurd (cc)
spelled_closed d bs len f (Some bytes) closed is_value h =
    let c = closed_body 34 bs len closed in
    subst (λ g. Spelled d g (34 ∷ bs)) (ok_is _ _ _ refl h) (between d 34 bs len _ c.1 (string c.0 is_value) refl)

spelled_string : (d : Bool) (bs : List ℕ) (f : Found) (o : Option ℕ) → body_len 34 false bs ≡ o → found_string bs o ≡ Ok f → Spelled d f (34 ∷ bs)
spelled_string d bs f None e h = absurd (cc)
spelled_string d bs f (Some len) e h = spelled_closed d bs len f (unescaped (take len bs)) e refl h

spelled_ere : (bs : List ℕ) (f : Found) (o : Option ℕ) → body_len 47 false bs ≡ o → found_ere bs o ≡ Ok f → Spelled false f (47 ∷ bs)
spelled_ere bs f None e h = absurd (cc)
spelled_ere bs f (Some len) e h =
    let c = closed_body 47 bs len e in
    subst (λ g. Spelled false g (47 ∷ bs)) (ok_is _ _ _ refl h) (between false 47 bs len _ c.1 (ere refl c.0) refl)

-- a table's rows are spellings
Spells : Bool → List (List ℕ × Kind) → Type 0
Spells d rows = (k : Kind) (w : List ℕ) → kind_in rows w ≡ Some k → Writes d k w

spelled_short : (d : Bool) (rows : List (List ℕ × Kind)) (a : ℕ) (bs : List ℕ) (f : Found) (o : Option Kind) → IsTable rows → Spells d rows
    → kind_in rows (a ∷ []) ≡ o → short_punctuator o ≡ Ok f → Spelled d f (a ∷ bs)
unfolding Spells
spelled_short d rows a bs f None table spells e h = absurd (cc)
spelled_short d rows a bs f (Some k) table spells e h =
    let r = row_is rows (a ∷ []) k table e in
    subst (λ g. Spelled d g (a ∷ bs)) (ok_is _ _ _ refl h)
    (record { word = a ∷ []; rest = bs; is = refl; writes = spells k (a ∷ []) e; suited = r.suits bs; len = refl; some = omega arith })

spelled_long : (d : Bool) (rows : List (List ℕ × Kind)) (a b : ℕ) (bs : List ℕ) (f : Found) (o : Option Kind) → IsTable rows → Spells d rows
    → kind_in rows (a ∷ b ∷ []) ≡ o → long_punctuator o (kind_in rows (a ∷ [])) ≡ Ok f → Spelled d f (a ∷ b ∷ bs)
unfolding Spells
spelled_long d rows a b bs f None table spells e h = spelled_short d rows a (b ∷ bs) f (kind_in rows (a ∷ [])) table spells refl h
spelled_long d rows a b bs f (Some k) table spells e h =
    let r = row_is rows (a ∷ b ∷ []) k table e in
    subst (λ g. Spelled d g (a ∷ b ∷ bs)) (ok_is _ _ _ refl h)
    (record { word = a ∷ b ∷ []; rest = bs; is = refl; writes = spells k (a ∷ b ∷ []) e; suited = r.suits bs; len = refl; some = omega arith })

spelled_row : (d : Bool) (rows : List (List ℕ × Kind)) (text : List ℕ) (f : Found) → IsTable rows → Spells d rows → punctuator_at rows text ≡ Ok f → Spelled d f text
spelled_row d rows [] f table spells h = absurd (cc)
spelled_row d rows (a ∷ []) f table spells h = spelled_short d rows a [] f (kind_in rows (a ∷ [])) table spells refl h
spelled_row d rows (a ∷ b ∷ bs) f table spells h = spelled_long d rows a b bs f (kind_in rows (a ∷ b ∷ [])) table spells refl h

spelled_slash : (d : Bool) (bs : List ℕ) (f : Found) → slash_at d (47 ∷ bs) ≡ Ok f → Spelled d f (47 ∷ bs)
unfolding Spells
spelled_slash true bs f h = spelled_row true divisions (47 ∷ bs) f divisions_are (λ k w e. division refl e) h
spelled_slash false bs f h = spelled_ere bs f (body_len 47 false bs) refl h

spelled_punctuator : (d : Bool) (text : List ℕ) (f : Found) → punctuator_at punctuators text ≡ Ok f → Spelled d f text
unfolding Spells
spelled_punctuator d text f h = spelled_row d punctuators text f punctuators_are (λ k w e. punctuator e) h

spelled_other : (d : Bool) (b : ℕ) (bs : List ℕ) (f : Found) → other_at d (b ∷ bs) ≡ Ok f → Spelled d f (b ∷ bs)
spelled_other d b bs f h = elim (cases_Bool (eqb b 34)) [
  | inl quote ↦
      subst (λ x. Spelled d f (x ∷ bs)) (sym (eqb-true b 34 quote))
      (spelled_string d bs f (body_len 34 false bs) refl (sym (if_true (eqb b 34) _ _ quote) ∙ h))
  | inr other ↦
      let k = sym (if_false (eqb b 34) _ _ other) ∙ h in
      elim (cases_Bool (eqb b 47)) [
        | inl slash ↦
            let e = eqb-true b 47 slash in
            let at_slash = ap (λ x. slash_at d (x ∷ bs)) (sym e) ∙ sym (if_true (eqb b 47) _ _ slash) ∙ k in
            subst (λ x. Spelled d f (x ∷ bs)) (sym e) (spelled_slash d bs f at_slash)
        | inr neither ↦ spelled_punctuator d (b ∷ bs) f (sym (if_false (eqb b 47) _ _ neither) ∙ k)
      ]
]

pub spelled : (d : Bool) (text : List ℕ) (f : Found) → token_at d text ≡ Ok f → Spelled d f text
spelled d [] f h = absurd (cc)
spelled d (b ∷ bs) f h = elim (cases_Bool (is_name_start b)) [
  | inl letter ↦ spelled_word d b bs f letter (sym (if_true (is_name_start b) _ _ letter) ∙ h)
  | inr other ↦
      let k = sym (if_false (is_name_start b) _ _ other) ∙ h in
      elim (cases_Bool (is_ascii_digit b)) [
        | inl digit ↦ spelled_number d b bs f digit (sym (if_true (is_ascii_digit b) _ _ digit) ∙ k)
        | inr neither ↦ spelled_other d b bs f (sym (if_false (is_ascii_digit b) _ _ neither) ∙ k)
      ]
]
