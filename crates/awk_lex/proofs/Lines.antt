-- How many newlines stand before a place.
use Rattle.std.proofs.Common.{◌≡◌, ℕ, zero, suc, ◌+◌, Bool, true, false, eqb, cond, inl, inr, List, [], ◌∷◌, ◌++◌, length, get_or, take, drop, Some, refl, sym, ap, ◌∙◌, subst, arith}
use Rattle.std.specs.Prelude.{count_by}
use Rattle.std.specs.List.{list_all, prefix_len}
use mir.Val.{bool_byte}
use Rattle.std.specs.Char.{is_ascii_digit}
use Rattle.std.proofs.Math.Seq.{take-append_seam, take-add}
use Rattle.std.proofs.lemmas.Bool.{cases_Bool, and_parts, and_from, not-true, eqb-true}
use Rattle.std.proofs.lemmas.List.Sums.{sum_by-append, sum_by-cons}
use Rattle.awk_lex.specs.definitions.Words.{is_name_start, is_word_byte, is_word, is_digits, Body, none, plain, escaped, Writes, number, string, ere, word, name, called, punctuator, division}
use Rattle.awk_lex.specs.definitions.Tables.{reserved, punctuators, divisions, kind_in}
use Rattle.awk_lex.specs.definitions.Lexes.{is_space_or_tab, is_no_newline}
use Rattle.awk_lex.specs.support.Lexeme.{hidden_len, gap_len, lexeme_of, is_newline}
use Rattle.awk_lex.specs.definitions.Told.{line_at}
use Rattle.awk_lex.specs.declared.token.Kind.{Kind}
use Rattle.awk_lex.specs.declared.lexeme.Lexeme.TheVariants as lexeme
use Rattle.awk_lex.proofs.Prefixes.{if_true, if_false, front_passes}
use Rattle.awk_lex.proofs.Tables.{found_row}
use Rattle.awk_lex.proofs.DelimitedBodies.{plain_no_newline}
use Rattle.awk_lex.proofs.Gaps.{blank_is}
use Rattle.awk_lex.proofs.MaximalMunch.{letter_in_word}
use Rattle.awk_lex.proofs.Spelled.{spelled}
use Rattle.awk_lex.proofs.Read.{token_is, gap_is}

byte_is : (b : Bool) → bool_byte b ≡ cond b 1 0
byte_is true = refl
byte_is false = refl

get_or-drop_first : (text : List ℕ) (at : ℕ) → get_or (drop at text) 0 0 ≡ get_or text at 0
get_or-drop_first [] zero = refl
get_or-drop_first [] (suc at) = refl
get_or-drop_first (b ∷ text) zero = refl
get_or-drop_first (b ∷ text) (suc at) = get_or-drop_first text at

newlines : List ℕ → ℕ
newlines bs = count_by (λ b. eqb b 10) bs

newlines-append : (xs ys : List ℕ) → newlines (xs ++ ys) ≡ newlines xs + newlines ys
unfolding newlines
newlines-append xs ys = sum_by-append (λ b. cond (eqb b 10) 1 0) xs ys

other_byte : (b : ℕ) (bs : List ℕ) → eqb b 10 ≡ false → newlines (b ∷ bs) ≡ newlines bs
unfolding newlines
other_byte b bs h =
    let none_here : cond (eqb b 10) 1 0 ≡ 0 = ap (λ x. cond x 1 0) h in
    sum_by-cons (λ x. cond (eqb x 10) 1 0) b bs ∙ ap (λ n. n + newlines bs) none_here ∙ omega arith

-- bytes that are no newlines
no_newlines : (p : ℕ → Bool) → ((b : ℕ) → p b ≡ true → eqb b 10 ≡ false) → (bs : List ℕ) → list_all p bs ≡ true → newlines bs ≡ 0
unfolding newlines
no_newlines p other [] h = refl
no_newlines p other (b ∷ bs) h =
    let a = and_parts (p b) (list_all p bs) h in
    other_byte b bs (other b a.0) ∙ no_newlines p other bs a.1

body_newlines : (delimiter : ℕ) (body : List ℕ) → Body delimiter body → newlines body ≡ 0
unfolding newlines
body_newlines delimiter _ none = refl
body_newlines delimiter _ (plain {b} {body} h g) = other_byte b body (plain_no_newline delimiter b h) ∙ body_newlines delimiter body g
body_newlines delimiter _ (escaped {b} {body} h g) =
    other_byte 92 (b ∷ body) refl ∙ other_byte b body (not-true (eqb b 10) h) ∙ body_newlines delimiter body g

word_byte_is : (b : ℕ) → is_word_byte b ≡ true → eqb b 10 ≡ false
word_byte_is b h = elim (cases_Bool (eqb b 10)) [
  | inl newline ↦ let no : false ≡ true = ap is_word_byte (sym (eqb-true b 10 newline)) ∙ h in absurd (cc)
  | inr other ↦ other
]

digit_is : (b : ℕ) → is_ascii_digit b ≡ true → eqb b 10 ≡ false
digit_is b h = elim (cases_Bool (eqb b 10)) [
  | inl newline ↦ let no : false ≡ true = ap is_ascii_digit (sym (eqb-true b 10 newline)) ∙ h in absurd (cc)
  | inr other ↦ other
]

word_newlines : (w : List ℕ) → is_word w ≡ true → newlines w ≡ 0
word_newlines [] h = absurd (cc)
word_newlines (b ∷ w) h =
    let a = and_parts (is_name_start b) (list_all is_word_byte w) h in
    no_newlines is_word_byte word_byte_is (b ∷ w) (and_from _ _ (letter_in_word b a.0) a.1)

digits_newlines : (w : List ℕ) → is_digits w ≡ true → newlines w ≡ 0
digits_newlines [] h = absurd (cc)
digits_newlines (b ∷ w) h = no_newlines is_ascii_digit digit_is (b ∷ w) h

-- how many newlines a token has
count_of : Kind → ℕ
count_of k = cond (is_newline k) 1 0

marked_newlines : (delimiter : ℕ) (body : List ℕ) → eqb delimiter 10 ≡ false → Body delimiter body → newlines (delimiter ∷ body ++ delimiter ∷ []) ≡ 0
unfolding newlines
marked_newlines delimiter body other h =
    let inside = body_newlines delimiter body h in
    let close : newlines (delimiter ∷ []) ≡ 0 = other_byte delimiter [] other in
    other_byte delimiter (body ++ delimiter ∷ []) other ∙ newlines-append body (delimiter ∷ []) ∙ omega (arith, inside, close)

-- each row of a table has the newlines of its kind
has_count : List ℕ → Kind → Bool
has_count w k = eqb (newlines w) (count_of k)

row_newlines : (rows : List (List ℕ × Kind)) (w : List ℕ) (k : Kind) → list_all (λ row. has_count row.0 row.1) rows ≡ true → kind_in rows w ≡ Some k
    → newlines w ≡ count_of k
unfolding has_count
row_newlines rows w k all h = eqb-true _ _ (found_row has_count rows w k all h)

writes_newlines : (d : Bool) (k : Kind) (w : List ℕ) → Writes d k w → newlines w ≡ count_of k
unfolding count_of newlines has_count
writes_newlines d _ w (number h) = digits_newlines w h
writes_newlines d _ _ (string {body} h value) = marked_newlines 34 body refl h
writes_newlines d _ _ (ere {body} opens h) = marked_newlines 47 body refl h
writes_newlines d k w (word h) = row_newlines reserved w k refl h
writes_newlines d _ w (name h free) = word_newlines w h
writes_newlines d _ w (called h free) = word_newlines w h
writes_newlines d k w (punctuator h) = row_newlines punctuators w k refl h
writes_newlines d k w (division divides h) = row_newlines divisions w k refl h

token_newlines : (d : Bool) (text : List ℕ) (k : Kind) (n : ℕ) → lexeme_of d text ≡ lexeme.Token k n → newlines (take n text) ≡ count_of k
token_newlines d text k n h =
    let s = spelled d text (record { kind = k; len = n }) (token_is d text k n h).is in
    let prefix : take n text ≡ s.word = ap (λ m. take m text) (sym s.len) ∙ ap (take (length s.word)) s.is ∙ take-append_seam s.word s.rest in
    ap newlines prefix ∙ writes_newlines d k s.word s.writes

no_newline_is : (b : ℕ) → is_no_newline b ≡ true → eqb b 10 ≡ false
no_newline_is b h = not-true (eqb b 10) h

-- how many newlines a part of a gap has
hides : ℕ → ℕ
hides b = cond (eqb b 92) 1 0

blank_newlines : (b : ℕ) (bs : List ℕ) (n : ℕ) → is_space_or_tab b ≡ true → 1 ≡ suc n → newlines (take (suc n) (b ∷ bs)) ≡ hides b
unfolding newlines hides
blank_newlines b bs n h e = elim (blank_is b h) [
  | inl space ↦ subst (λ m. newlines (take m (b ∷ bs)) ≡ hides b) e (ap (λ x. newlines (x ∷ [])) space ∙ sym (ap hides space))
  | inr tab ↦ subst (λ m. newlines (take m (b ∷ bs)) ≡ hides b) e (ap (λ x. newlines (x ∷ [])) tab ∙ sym (ap hides tab))
]

hidden_newlines : (bs : List ℕ) (n : ℕ) → hidden_len bs ≡ suc n → newlines (take (suc n) (92 ∷ bs)) ≡ 1
unfolding newlines
hidden_newlines [] n h = absurd (cc)
hidden_newlines (c ∷ bs) n h = elim (cases_Bool (eqb c 10)) [
  | inl newline ↦
      let two : 2 ≡ suc n = sym (if_true (eqb c 10) _ _ newline) ∙ h in
      subst (λ m. newlines (take m (92 ∷ c ∷ bs)) ≡ 1) two (ap (λ x. newlines (92 ∷ x ∷ [])) (eqb-true c 10 newline))
  | inr other ↦ let no : 0 ≡ suc n = sym (if_false (eqb c 10) _ _ other) ∙ h in absurd (omega arith)
]

comment_newlines : (b : ℕ) (bs : List ℕ) (n : ℕ) → prefix_len is_no_newline (b ∷ bs) ≡ suc n → newlines (take (suc n) (b ∷ bs)) ≡ 0
comment_newlines b bs n h =
    ap (λ m. newlines (take m (b ∷ bs))) (sym h) ∙ no_newlines is_no_newline no_newline_is _ (front_passes is_no_newline (b ∷ bs))

part_newlines : (b : ℕ) (bs : List ℕ) (n : ℕ) → gap_len (b ∷ bs) ≡ suc n → newlines (take (suc n) (b ∷ bs)) ≡ hides b
unfolding hides
part_newlines b bs n h = elim (cases_Bool (is_space_or_tab b)) [
  | inl blanks ↦ blank_newlines b bs n blanks (sym (if_true (is_space_or_tab b) _ _ blanks) ∙ h)
  | inr other ↦
      let k = sym (if_false (is_space_or_tab b) _ _ other) ∙ h in
      elim (cases_Bool (eqb b 92)) [
        | inl backslash ↦
            let e = eqb-true b 92 backslash in
            ap (λ x. newlines (take (suc n) (x ∷ bs))) e ∙ hidden_newlines bs n (sym (if_true (eqb b 92) _ _ backslash) ∙ k) ∙ sym (ap hides e)
        | inr neither ↦
            let l = sym (if_false (eqb b 92) _ _ neither) ∙ k in
            elim (cases_Bool (eqb b 35)) [
              | inl hash ↦ comment_newlines b bs n (sym (if_true (eqb b 35) _ _ hash) ∙ l) ∙ sym (if_false (eqb b 92) 1 0 neither)
              | inr nothing ↦ let no : 0 ≡ suc n = sym (if_false (eqb b 35) _ _ nothing) ∙ l in absurd (omega arith)
            ]
      ]
]

gap_newlines : (d : Bool) (text : List ℕ) (n : ℕ) → lexeme_of d text ≡ lexeme.Gap n → newlines (take n text) ≡ hides (get_or text 0 0)
gap_newlines d [] n h = let g = gap_is d [] n h in absurd (omega (arith, g.is))
gap_newlines d (b ∷ bs) n h =
    let g = gap_is d (b ∷ bs) n h in
    ap (λ m. newlines (take m (b ∷ bs))) g.len ∙ part_newlines b bs g.before g.is

line_more : (text : List ℕ) (at n : ℕ) → line_at text (at + n) ≡ line_at text at + newlines (take n (drop at text))
unfolding newlines
line_more text at n =
    let parts = ap newlines (take-add at n text) ∙ newlines-append (take at text) (take n (drop at text)) in
    omega (arith, parts)

-- the line behind a part of a gap
pub gap_line : (d : Bool) (text : List ℕ) (at n line more : ℕ) → lexeme_of d (drop at text) ≡ lexeme.Gap n → line ≡ line_at text at
    → more ≡ bool_byte (eqb (get_or text at 0) 92) → line + more ≡ line_at text (at + n)
unfolding hides
gap_line d text at n line more h here counted =
    let first : get_or (drop at text) 0 0 ≡ get_or text at 0 = get_or-drop_first text at in
    let part : newlines (take n (drop at text)) ≡ cond (eqb (get_or text at 0) 92) 1 0 = gap_newlines d (drop at text) n h ∙ ap hides first in
    let both = byte_is (eqb (get_or text at 0) 92) in
    omega (arith, line_more text at n)

-- the line behind a token
pub token_line : (d : Bool) (text : List ℕ) (at n line more : ℕ) (k : Kind) → lexeme_of d (drop at text) ≡ lexeme.Token k n
    → line ≡ line_at text at → more ≡ bool_byte (is_newline k) → line + more ≡ line_at text (at + n)
unfolding count_of
token_line d text at n line more k h here counted =
    let token = token_newlines d (drop at text) k n h in
    let both = byte_is (is_newline k) in
    omega (arith, line_more text at n)
