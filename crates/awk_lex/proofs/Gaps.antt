-- Gaps, part by part.
use Rattle.std.proofs.Common.{◌≡◌, ℕ, suc, ◌+◌, ◌≤◌, Bool, true, false, cond, eqb, not, ◌||◌, ◌⊎◌, inl, inr, List, [], ◌∷◌, ◌++◌, length, take, drop, Err, refl, sym, ap, ◌∙◌, subst, arith, append_assoc}
use Rattle.std.specs.List.{list_all, prefix_len}
use Rattle.std.proofs.Math.Seq.{drop-append_seam}
use Rattle.std.proofs.lemmas.Bool.{cases_Bool, eqb-true}
use Rattle.std.proofs.lemmas.List.Folds.{length-prefix_len}
use Rattle.awk_lex.specs.definitions.Lexes.{is_space_or_tab, is_no_newline, EndsLine, Gap, none, blank, hidden, comment, Skips}
use Rattle.awk_lex.specs.support.Lexeme.{hidden_len, gap_len, token_at}
use Rattle.awk_lex.specs.declared.refusal.RefusalCode.TheVariants.{UnexpectedByte}
use Rattle.awk_lex.proofs.Prefixes.{if_true, if_false, prefix_over, front_passes, front_split}

pub blank_is : (b : ℕ) → is_space_or_tab b ≡ true → (b ≡ 32) ⊎ (b ≡ 9)
blank_is b h = elim (cases_Bool (eqb b 32)) [
  | inl space ↦ inl (eqb-true b 32 space)
  | inr other ↦ inr (eqb-true b 9 (sym (ap (λ x. x || eqb b 9) other) ∙ h))
]

-- a line that ends has no byte of a comment in front
line_over : (rest : List ℕ) → EndsLine rest → prefix_len is_no_newline rest ≡ 0
line_over [] h = refl
line_over (b ∷ rest) h = ap (λ x. prefix_len is_no_newline (x ∷ rest)) h

-- behind the front that is no newline, the line ends
line_ends : (bs : List ℕ) → EndsLine (drop (prefix_len is_no_newline bs) bs)
line_ends [] = tt
line_ends (b ∷ bs) = elim (cases_Bool (eqb b 10)) [
  | inl newline ↦
      let n : prefix_len is_no_newline (b ∷ bs) ≡ 0 = ap (λ x. cond (not x) (1 + prefix_len is_no_newline bs) 0) newline in
      subst (λ k. EndsLine (drop k (b ∷ bs))) (sym n) (eqb-true b 10 newline)
  | inr other ↦
      let n : prefix_len is_no_newline (b ∷ bs) ≡ suc (prefix_len is_no_newline bs) =
      ap (λ x. cond (not x) (1 + prefix_len is_no_newline bs) 0) other ∙ omega arith in
      subst (λ k. EndsLine (drop k (b ∷ bs))) (sym n) (line_ends bs)
]

blank_len : (b : ℕ) (bs : List ℕ) → is_space_or_tab b ≡ true → gap_len (b ∷ bs) ≡ 1
blank_len b bs h = if_true (is_space_or_tab b) _ _ h

comment_len : (bytes rest : List ℕ) → list_all is_no_newline bytes ≡ true → EndsLine rest → gap_len (35 ∷ bytes ++ rest) ≡ suc (length bytes)
comment_len bytes rest h ends =
    prefix_over is_no_newline (35 ∷ bytes) rest h ∙ omega (arith, line_over rest ends)

-- where a part of a gap stands in front, what it is
pub record Part (text : List ℕ) (n : ℕ) : Type 0 where
  pub gap : List ℕ
  pub is : text ≡ gap ++ drop (suc n) text
  pub is_gap : Gap (drop (suc n) text) gap
  pub len : length gap ≡ suc n

blank_part : (b : ℕ) (bs : List ℕ) (n : ℕ) → is_space_or_tab b ≡ true → 1 ≡ suc n → Part (b ∷ bs) n
blank_part b bs n h e =
    let zero_is : 0 ≡ n = omega arith in
    subst (Part (b ∷ bs)) zero_is (record { gap = b ∷ []; is = refl; is_gap = blank h none; len = refl })

hidden_part : (bs : List ℕ) (n : ℕ) → hidden_len bs ≡ suc n → Part (92 ∷ bs) n
hidden_part [] n h = absurd (cc)
hidden_part (c ∷ bs) n h = elim (cases_Bool (eqb c 10)) [
  | inl newline ↦
      let two : 2 ≡ suc n = sym (if_true (eqb c 10) _ _ newline) ∙ h in
      let one_is : 1 ≡ n = omega arith in
      subst (λ x. Part (92 ∷ x ∷ bs) n) (sym (eqb-true c 10 newline))
      (subst (Part (92 ∷ 10 ∷ bs)) one_is (record { gap = 92 ∷ 10 ∷ []; is = refl; is_gap = hidden none; len = refl }))
  | inr other ↦ let no : 0 ≡ suc n = sym (if_false (eqb c 10) _ _ other) ∙ h in absurd (omega arith)
]

comment_part : (bs : List ℕ) (n : ℕ) → prefix_len is_no_newline (35 ∷ bs) ≡ suc n → Part (35 ∷ bs) n
comment_part bs n h =
    let len_is : prefix_len is_no_newline bs ≡ n = omega (arith, h) in
    subst (Part (35 ∷ bs)) len_is (record {
      gap = 35 ∷ take (prefix_len is_no_newline bs) bs;
      is = ap (λ x. 35 ∷ x) (front_split is_no_newline bs);
      is_gap = comment (front_passes is_no_newline bs) (line_ends bs);
      len = ap suc (length-prefix_len is_no_newline bs);
    })

pub part_of : (text : List ℕ) (n : ℕ) → gap_len text ≡ suc n → Part text n
part_of [] n h = absurd (cc)
part_of (b ∷ bs) n h = elim (cases_Bool (is_space_or_tab b)) [
  | inl blanks ↦ blank_part b bs n blanks (sym (if_true (is_space_or_tab b) _ _ blanks) ∙ h)
  | inr other ↦
      let k = sym (if_false (is_space_or_tab b) _ _ other) ∙ h in
      elim (cases_Bool (eqb b 92)) [
        | inl backslash ↦ subst (λ x. Part (x ∷ bs) n) (sym (eqb-true b 92 backslash)) (hidden_part bs n (sym (if_true (eqb b 92) _ _ backslash) ∙ k))
        | inr neither ↦
            let l = sym (if_false (eqb b 92) _ _ neither) ∙ k in
            elim (cases_Bool (eqb b 35)) [
              | inl hash ↦
                  let e = eqb-true b 35 hash in
                  let m : prefix_len is_no_newline (35 ∷ bs) ≡ suc n = ap (λ x. prefix_len is_no_newline (x ∷ bs)) (sym e) ∙ sym (if_true (eqb b 35) _ _ hash) ∙ l in
                  subst (λ x. Part (x ∷ bs) n) (sym e) (comment_part bs n m)
              | inr nothing ↦ let no : 0 ≡ suc n = sym (if_false (eqb b 35) _ _ nothing) ∙ l in absurd (omega arith)
            ]
      ]
]

blank_is_no_newline : (b : ℕ) → is_space_or_tab b ≡ true → b ≡ 10 → ⊥
blank_is_no_newline b h e = let no : false ≡ true = ap is_space_or_tab (sym e) ∙ h in cc

-- a gap begins with no newline
no_line_end : (rest gap : List ℕ) → Gap rest gap → 1 ≤ length gap → EndsLine (gap ++ rest) → ⊥
no_line_end rest _ none some ends = omega arith
no_line_end rest _ (blank {b} h g) some ends = blank_is_no_newline b h ends
no_line_end rest _ (hidden g) some ends = omega arith
no_line_end rest _ (comment all e) some ends = omega arith

-- a gap before a gap is a gap
joined : (place rest gap part : List ℕ) → Gap place gap → place ≡ part ++ rest → Gap rest part → 1 ≤ length part → Gap rest (gap ++ part)
joined place rest _ part none e p some = p
joined place rest _ part (blank h g) e p some = blank h (joined place rest _ part g e p some)
joined place rest _ part (hidden g) e p some = hidden (joined place rest _ part g e p some)
joined place rest _ part (comment all ends) e p some = absurd (no_line_end rest part p some (subst EndsLine e ends))

-- a part more of a gap
pub skip_more : (text place : List ℕ) (n : ℕ) → Skips text place → gap_len place ≡ suc n → Skips text (drop (suc n) place)
skip_more text place n s h =
    let p = part_of place n h in
    record {
      gap = s.gap ++ p.gap;
      is = s.is ∙ ap (λ x. s.gap ++ x) p.is ∙ sym (append_assoc s.gap p.gap (drop (suc n) place));
      is_gap = joined place (drop (suc n) place) s.gap p.gap s.is_gap p.is p.is_gap (omega (arith, p.len));
    }

pub skip_none : (text : List ℕ) → Skips text text
skip_none text = record { gap = []; is = refl; is_gap = none }

-- where no part of a gap stands in front, a gap there is empty
pub no_gap : (rest gap : List ℕ) → Gap rest gap → gap_len (gap ++ rest) ≡ 0 → gap ≡ []
no_gap rest _ none h = refl
no_gap rest _ (blank {b} {gap} blanks g) h = let no = blank_len b (gap ++ rest) blanks in absurd (omega (arith, h))
no_gap rest _ (hidden g) h = absurd (omega (arith, h))
no_gap rest _ (comment {bytes} all ends) h = let no = comment_len bytes rest all ends in absurd (omega (arith, h))

pub no_skip : (text place : List ℕ) → gap_len text ≡ 0 → Skips text place → place ≡ text
no_skip text place h s =
    let empty = no_gap place s.gap s.is_gap (ap gap_len (sym s.is) ∙ h) in
    sym (s.is ∙ ap (λ g. g ++ place) empty)

drop_len : (n : ℕ) (xs ys : List ℕ) → n ≡ length xs → drop n (xs ++ ys) ≡ ys
drop_len n xs ys h = ap (λ k. drop k (xs ++ ys)) h ∙ drop-append_seam xs ys

less : (place gap : List ℕ) (n : ℕ) → Gap place gap → gap_len place ≡ 0 → gap_len (gap ++ place) ≡ suc n → Skips (drop (suc n) (gap ++ place)) place
less place _ n none h k = let no : 0 ≡ suc n = sym h ∙ k in absurd (omega arith)
less place _ n (blank {b} {gap} blanks g) h k =
    let one_is : 1 ≡ suc n = sym (blank_len b (gap ++ place) blanks) ∙ k in
    subst (λ m. Skips (drop m (b ∷ gap ++ place)) place) one_is (record { gap = gap; is = refl; is_gap = g })
less place _ n (hidden {gap} g) h k =
    subst (λ m. Skips (drop m (92 ∷ 10 ∷ gap ++ place)) place) k (record { gap = gap; is = refl; is_gap = g })
less place _ n (comment {bytes} all ends) h k =
    let len : suc n ≡ length (35 ∷ bytes) = sym k ∙ comment_len bytes place all ends in
    subst (λ x. Skips x place) (sym (drop_len (suc n) (35 ∷ bytes) place len)) (skip_none place)

-- a part less of a gap
pub skip_less : (text place : List ℕ) (n : ℕ) → Skips text place → gap_len place ≡ 0 → gap_len text ≡ suc n → Skips (drop (suc n) text) place
skip_less text place n s h k =
    subst (λ x. Skips (drop (suc n) x) place) (sym s.is) (less place s.gap n s.is_gap h (ap gap_len (sym s.is) ∙ k))

token_at_blank : (d : Bool) (bs : List ℕ) → token_at d (32 ∷ bs) ≡ Err UnexpectedByte
token_at_blank d [] = refl
token_at_blank d (c ∷ bs) = refl

token_at_tab : (d : Bool) (bs : List ℕ) → token_at d (9 ∷ bs) ≡ Err UnexpectedByte
token_at_tab d [] = refl
token_at_tab d (c ∷ bs) = refl

token_at_backslash : (d : Bool) (bs : List ℕ) → token_at d (92 ∷ bs) ≡ Err UnexpectedByte
token_at_backslash d [] = refl
token_at_backslash d (c ∷ bs) = refl

token_at_hash : (d : Bool) (bs : List ℕ) → token_at d (35 ∷ bs) ≡ Err UnexpectedByte
token_at_hash d [] = refl
token_at_hash d (c ∷ bs) = refl

gap_no_token : (d : Bool) (rest gap : List ℕ) → Gap rest gap → 1 ≤ length gap → token_at d (gap ++ rest) ≡ Err UnexpectedByte
gap_no_token d rest _ none some = absurd (omega arith)
gap_no_token d rest _ (blank {b} {gap} h g) some = elim (blank_is b h) [
  | inl e ↦ ap (λ x. token_at d (x ∷ gap ++ rest)) e ∙ token_at_blank d (gap ++ rest)
  | inr e ↦ ap (λ x. token_at d (x ∷ gap ++ rest)) e ∙ token_at_tab d (gap ++ rest)
]
gap_no_token d rest _ (hidden {gap} g) some = token_at_backslash d (10 ∷ gap ++ rest)
gap_no_token d rest _ (comment {bytes} all ends) some = token_at_hash d (bytes ++ rest)

-- no token begins where a gap does
pub no_token_in_gap : (d : Bool) (text : List ℕ) (n : ℕ) → gap_len text ≡ suc n → token_at d text ≡ Err UnexpectedByte
no_token_in_gap d text n h =
    let p = part_of text n h in
    ap (token_at d) p.is ∙ gap_no_token d (drop (suc n) text) p.gap p.is_gap (omega (arith, p.len))
