-- The token at a place is the longest that is spelled there.
use Rattle.std.proofs.Common.{◌≡◌, ℕ, ◌+◌, ◌≤◌, Bool, true, false, eqb, ◌||◌, List, [], ◌∷◌, ◌++◌, length, take, drop, Option, Some, None, Result, Ok, refl, sym, ap, ◌∙◌, subst, arith, rules, append_assoc, length-append}
use Rattle.std.specs.Prelude.{pos, take_while, is_some, unwrap_or}
use Rattle.std.specs.List.{list_all, prefix_len}
use Rattle.std.specs.Char.{is_ascii_digit}
use Rattle.std.specs.Str.Parse.{digits_value}
use Rattle.std.proofs.Math.Seq.{take-append_seam}
use Rattle.std.proofs.lemmas.Bool.{and_parts, and_from, not-true}
use Rattle.awk_lex.specs.definitions.Escapes.{unescaped}
use Rattle.awk_lex.specs.definitions.Tables.{reserved, punctuators, divisions, kind_in}
use Rattle.awk_lex.specs.definitions.Words.{is_name_start, is_word_byte, is_word, is_digits, is_reserved, opens, suits, Body, Writes, number, string, ere, word, name, called, punctuator, division}
use Rattle.awk_lex.specs.support.Lexeme.{Found, found, named, kind_of, closed_string, found_string, found_ere, short_punctuator, long_punctuator, punctuator_at, token_at}
use Rattle.awk_lex.specs.declared.token.Kind.{Kind}
use Rattle.awk_lex.specs.declared.token.Kind.TheVariants.{Number, String, Ere, Name, Called}
use Rattle.awk_lex.specs.declared.refusal.RefusalCode.{RefusalCode}
use Rattle.awk_lex.proofs.Prefixes.{if_true, if_false, front_longest, front_same, front_rest}
use Rattle.awk_lex.proofs.Tables.{reserved_is_word, IsTable, punctuators_are, divisions_are, row_is, punctuator_starts, division_starts}
use Rattle.awk_lex.proofs.DelimitedBodies.{quote_is_delimiter, slash_is_delimiter, closed_len}

pub ok_is : (f g : Found) (o : Result Found RefusalCode) → o ≡ Ok f → o ≡ Ok g → f ≡ g
ok_is f g o d e = let h = sym d ∙ e in cc

digit_is_no_letter : (b : ℕ) → is_ascii_digit b ≡ true → is_name_start b ≡ false
digit_is_no_letter b h = search rules

pub letter_in_word : (b : ℕ) → is_name_start b ≡ true → is_word_byte b ≡ true
letter_in_word b h = ap (λ l. l || is_ascii_digit b) h

-- what is spelled in front of a text is no longer than the token there, and the same if it is as long and suits
pub record Munched (t : Kind) (w rest : List ℕ) (o : Result Found RefusalCode) : Type 0 where
  pub token : Found
  pub is : o ≡ Ok token
  pub longest : length w ≤ token.len
  pub same : length w ≡ token.len → suits t rest ≡ true → token.kind ≡ t

munch_number : (d : Bool) (w y : List ℕ) → is_digits w ≡ true → Munched (Number (pos (digits_value 10 w))) w y (token_at d (w ++ y))
munch_number d [] y h = absurd (cc)
munch_number d (b ∷ w) y h =
    let digit = (and_parts (is_ascii_digit b) (list_all is_ascii_digit w) h).0 in
    record {
      token = record { kind = Number (pos (digits_value 10 (take_while is_ascii_digit ((b ∷ w) ++ y)))); len = length (take_while is_ascii_digit ((b ∷ w) ++ y)) };
      is = if_false (is_name_start b) _ _ (digit_is_no_letter b digit) ∙ if_true (is_ascii_digit b) _ _ digit;
      longest = front_longest is_ascii_digit (b ∷ w) y h;
      same = λ n _. ap (λ v. Number (pos (digits_value 10 v))) (front_same is_ascii_digit (b ∷ w) y n);
    }

munch_word : (d : Bool) (t : Kind) (w y : List ℕ) → is_word w ≡ true → (suits t y ≡ true → kind_of w y ≡ t) → Munched t w y (token_at d (w ++ y))
munch_word d t [] y h is_kind = absurd (cc)
munch_word d t (b ∷ w) y h is_kind =
    let a = and_parts (is_name_start b) (list_all is_word_byte w) h in
    let all : list_all is_word_byte (b ∷ w) ≡ true = and_from _ _ (letter_in_word b a.0) a.1 in
    let text = (b ∷ w) ++ y in
    record {
      token = record { kind = kind_of (take_while is_word_byte text) (drop (prefix_len is_word_byte text) text); len = length (take_while is_word_byte text) };
      is = if_true (is_name_start b) _ _ a.0;
      longest = front_longest is_word_byte (b ∷ w) y all;
      same = λ n s.
          ap (λ v. kind_of v (drop (prefix_len is_word_byte text) text)) (front_same is_word_byte (b ∷ w) y n)
          ∙ ap (kind_of (b ∷ w)) (front_rest is_word_byte (b ∷ w) y n) ∙ is_kind s;
    }

no_row : (o : Option Kind) → is_some o ≡ false → o ≡ None
no_row None h = refl
no_row (Some k) h = absurd (cc)

free_kind_of : (w y : List ℕ) → is_reserved w ≡ false → kind_of w y ≡ named w y
free_kind_of w y h = ap (λ o. unwrap_or o (named w y)) (no_row (kind_in reserved w) h)

name_kind_of : (w y : List ℕ) → is_reserved w ≡ false → suits (Name w) y ≡ true → kind_of w y ≡ Name w
name_kind_of w y h s = free_kind_of w y h ∙ if_false (opens y) _ _ (not-true (opens y) s)

called_kind_of : (w y : List ℕ) → is_reserved w ≡ false → suits (Called w) y ≡ true → kind_of w y ≡ Called w
called_kind_of w y h s = free_kind_of w y h ∙ if_true (opens y) _ _ s

munch_string : (d : Bool) (body bytes y : List ℕ) → Body 34 body → unescaped body ≡ Some bytes
    → Munched (String bytes) (34 ∷ body ++ 34 ∷ []) y (token_at d ((34 ∷ body ++ 34 ∷ []) ++ y))
munch_string d body bytes y h is_value =
    let behind : (body ++ 34 ∷ []) ++ y ≡ body ++ 34 ∷ y = append_assoc body (34 ∷ []) y in
    let front : take (length body) (body ++ 34 ∷ y) ≡ body = take-append_seam body (34 ∷ y) in
    record {
      token = record { kind = String bytes; len = length body + 2 };
      is =
          ap (λ x. token_at d (34 ∷ x)) behind ∙ ap (found_string (body ++ 34 ∷ y)) (closed_len 34 body y quote_is_delimiter h)
          ∙ ap (λ x. closed_string (length body) (unescaped x)) front ∙ ap (closed_string (length body)) is_value;
      longest = omega (arith, length-append body (34 ∷ []));
      same = λ _ _. refl;
    }

munch_ere : (body y : List ℕ) → Body 47 body → Munched (Ere body) (47 ∷ body ++ 47 ∷ []) y (token_at false ((47 ∷ body ++ 47 ∷ []) ++ y))
munch_ere body y h =
    let behind : (body ++ 47 ∷ []) ++ y ≡ body ++ 47 ∷ y = append_assoc body (47 ∷ []) y in
    let front : take (length body) (body ++ 47 ∷ y) ≡ body = take-append_seam body (47 ∷ y) in
    record {
      token = record { kind = Ere body; len = length body + 2 };
      is =
          ap (λ x. token_at false (47 ∷ x)) behind ∙ ap (found_ere (body ++ 47 ∷ y)) (closed_len 47 body y slash_is_delimiter h)
          ∙ ap (λ x. found (Ere x) (length body + 2)) front;
      longest = omega (arith, length-append body (47 ∷ []));
      same = λ _ _. refl;
    }

munch_short : (rows : List (List ℕ × Kind)) (a : ℕ) (y : List ℕ) (k : Kind) → kind_in rows (a ∷ []) ≡ Some k → Munched k (a ∷ []) y (punctuator_at rows (a ∷ y))
munch_short rows a [] k h = record { token = record { kind = k; len = 1 }; is = ap short_punctuator h; longest = omega arith; same = λ _ _. refl }
munch_short rows a (b ∷ y) k h = by_long (kind_in rows (a ∷ b ∷ []))
  where
    by_long : (o : Option Kind) → Munched k (a ∷ []) (b ∷ y) (long_punctuator o (kind_in rows (a ∷ [])))
    by_long None = record { token = record { kind = k; len = 1 }; is = ap short_punctuator h; longest = omega arith; same = λ _ _. refl }
    by_long (Some j) = record { token = record { kind = j; len = 2 }; is = refl; longest = omega arith; same = λ n _. absurd (omega arith) }

munch_row : (rows : List (List ℕ × Kind)) (w y : List ℕ) (k : Kind) → IsTable rows → kind_in rows w ≡ Some k → Munched k w y (punctuator_at rows (w ++ y))
munch_row rows [] y k table h = let r = row_is rows [] k table h in absurd (omega (arith, r.some))
munch_row rows (a ∷ []) y k table h = munch_short rows a y k h
munch_row rows (a ∷ b ∷ []) y k table h =
    record {
      token = record { kind = k; len = 2 };
      is = ap (λ o. long_punctuator o (kind_in rows (a ∷ []))) h;
      longest = omega arith;
      same = λ _ _. refl;
    }
munch_row rows (a ∷ b ∷ c ∷ w) y k table h = let r = row_is rows (a ∷ b ∷ c ∷ w) k table h in absurd (omega (arith, r.few))

-- at a byte that begins no word, no number and no string stands a punctuator
punctuator_there : (d : Bool) (b : ℕ) (bs : List ℕ) → is_name_start b ≡ false → is_ascii_digit b ≡ false → eqb b 34 ≡ false → eqb b 47 ≡ false
    → token_at d (b ∷ bs) ≡ punctuator_at punctuators (b ∷ bs)
punctuator_there d b bs l n q s = if_false (is_name_start b) _ _ l ∙ if_false (is_ascii_digit b) _ _ n ∙ if_false (eqb b 34) _ _ q ∙ if_false (eqb b 47) _ _ s

munch_punctuator : (d : Bool) (w y : List ℕ) (k : Kind) → kind_in punctuators w ≡ Some k → Munched k w y (token_at d (w ++ y))
munch_punctuator d [] y k h = absurd (cc)
munch_punctuator d (b ∷ w) y k h =
    let s = punctuator_starts (b ∷ w) k h in
    subst (Munched k (b ∷ w) y) (sym (punctuator_there d b (w ++ y) s.no_letter s.no_digit s.no_quote s.no_slash)) (munch_row punctuators (b ∷ w) y k punctuators_are h)

slash_there : (b : ℕ) (bs : List ℕ) → b ≡ 47 → token_at true (b ∷ bs) ≡ punctuator_at divisions (b ∷ bs)
slash_there b bs e = ap (λ x. token_at true (x ∷ bs)) e ∙ ap (λ x. punctuator_at divisions (x ∷ bs)) (sym e)

munch_division : (w y : List ℕ) (k : Kind) → kind_in divisions w ≡ Some k → Munched k w y (token_at true (w ++ y))
munch_division [] y k h = absurd (cc)
munch_division (b ∷ w) y k h =
    subst (Munched k (b ∷ w) y) (sym (slash_there b (w ++ y) (division_starts (b ∷ w) k h))) (munch_row divisions (b ∷ w) y k divisions_are h)

pub munch : (d : Bool) (t : Kind) (w y : List ℕ) → Writes d t w → Munched t w y (token_at d (w ++ y))
munch d t w y (number h) = munch_number d w y h
munch d t w y (string {body} {bytes} h is_value) = munch_string d body bytes y h is_value
munch d t w y (ere {body} opens h) = subst (λ x. Munched (Ere body) w y (token_at x (w ++ y))) (sym opens) (munch_ere body y h)
munch d t w y (word h) = munch_word d t w y (reserved_is_word w t h) (λ _. ap (λ o. unwrap_or o (named w y)) h)
munch d t w y (name h free) = munch_word d t w y h (name_kind_of w y free)
munch d t w y (called h free) = munch_word d t w y h (called_kind_of w y free)
munch d t w y (punctuator h) = munch_punctuator d w y t h
munch d t w y (division divides h) = subst (λ x. Munched t w y (token_at x (w ++ y))) (sym divides) (munch_division w y t h)
