-- What is in front where no gap and no token is.
use Rattle.std.proofs.Common.{◌≡◌, ◌≢◌, ℕ, suc, Bool, true, false, eqb, inl, inr, List, [], ◌∷◌, take, drop, Option, Some, None, Result, Ok, Err, refl, sym, ap, ◌∙◌, subst}
use Rattle.std.proofs.lemmas.Bool.{cases_Bool, eqb-true}
use Rattle.std.specs.Char.{is_ascii_digit}
use Rattle.awk_lex.specs.definitions.Escapes.{unescaped}
use Rattle.awk_lex.specs.definitions.Tables.{punctuators, divisions, kind_in}
use Rattle.awk_lex.specs.definitions.Words.{is_name_start, is_allowed}
use Rattle.awk_lex.specs.definitions.Lexes.{Stands, BeginsNothing, IsOpen, IsBadString, IsBadNumber, Fault}
use Rattle.awk_lex.specs.support.Lexeme.{Found, gap_len, body_len, closed_string, found_string, found_ere, short_punctuator, long_punctuator, punctuator_at, slash_at, other_at, token_at, token_lexeme, lexeme_of}
use Rattle.awk_lex.specs.declared.token.Kind.{Kind}
use Rattle.awk_lex.specs.declared.token.Kind.TheVariants.{Number}
use Rattle.awk_lex.specs.declared.refusal.RefusalCode.{RefusalCode}
use Rattle.awk_lex.specs.declared.refusal.RefusalCode.TheVariants.{UnexpectedByte, OpenString, EscapeRefused, OpenPattern, NumberRefused}
use Rattle.awk_lex.specs.declared.lexeme.Lexeme.TheVariants as lexeme
use Rattle.awk_lex.proofs.Prefixes.{if_true, if_false}
use Rattle.awk_lex.proofs.DelimitedBodies.{closed_body, broken_body}
use Rattle.awk_lex.proofs.MaximalMunch.{munch}
use Rattle.awk_lex.proofs.Longest.{stands}
use Rattle.awk_lex.proofs.Gaps.{no_gap}
use Rattle.awk_lex.proofs.Read.{fault_in_front}

-- why there is no token in front: an open or refused string, an open ERE, or a byte that begins nothing
pub data Why (d : Bool) (c : RefusalCode) : List ℕ → Type 0 where
  byte : {text : List ℕ} → UnexpectedByte ≡ c → Why d c text
  string : {bs : List ℕ} → found_string bs (body_len 34 false bs) ≡ Err c → Why d c (34 ∷ bs)
  ere : {bs : List ℕ} → d ≡ false → found_ere bs (body_len 47 false bs) ≡ Err c → Why d c (47 ∷ bs)

short_fault : (c : RefusalCode) (o : Option Kind) → short_punctuator o ≡ Err c → UnexpectedByte ≡ c
short_fault c None h = cc
short_fault c (Some k) h = absurd (cc)

long_fault : (c : RefusalCode) (long short : Option Kind) → long_punctuator long short ≡ Err c → UnexpectedByte ≡ c
long_fault c None short h = short_fault c short h
long_fault c (Some k) short h = absurd (cc)

punctuator_fault : (rows : List (List ℕ × Kind)) (text : List ℕ) (c : RefusalCode) → punctuator_at rows text ≡ Err c → UnexpectedByte ≡ c
punctuator_fault rows [] c h = cc
punctuator_fault rows (a ∷ []) c h = short_fault c (kind_in rows (a ∷ [])) h
punctuator_fault rows (a ∷ b ∷ bs) c h = long_fault c (kind_in rows (a ∷ b ∷ [])) (kind_in rows (a ∷ [])) h

slash_why : (d : Bool) (bs : List ℕ) (c : RefusalCode) → slash_at d (47 ∷ bs) ≡ Err c → Why d c (47 ∷ bs)
slash_why true bs c h = byte (punctuator_fault divisions (47 ∷ bs) c h)
slash_why false bs c h = ere refl h

other_why : (d : Bool) (b : ℕ) (bs : List ℕ) (c : RefusalCode) → other_at d (b ∷ bs) ≡ Err c → Why d c (b ∷ bs)
other_why d b bs c h = elim (cases_Bool (eqb b 34)) [
  | inl quote ↦ subst (λ x. Why d c (x ∷ bs)) (sym (eqb-true b 34 quote)) (string (sym (if_true (eqb b 34) _ _ quote) ∙ h))
  | inr other ↦
      let k = sym (if_false (eqb b 34) _ _ other) ∙ h in
      elim (cases_Bool (eqb b 47)) [
        | inl slash ↦
            let e = eqb-true b 47 slash in
            let at_slash = ap (λ x. slash_at d (x ∷ bs)) (sym e) ∙ sym (if_true (eqb b 47) _ _ slash) ∙ k in
            subst (λ x. Why d c (x ∷ bs)) (sym e) (slash_why d bs c at_slash)
        | inr neither ↦ byte (punctuator_fault punctuators (b ∷ bs) c (sym (if_false (eqb b 47) _ _ neither) ∙ k))
      ]
]

why : (d : Bool) (text : List ℕ) (c : RefusalCode) → token_at d text ≡ Err c → Why d c text
why d [] c h = byte (cc)
why d (b ∷ bs) c h = elim (cases_Bool (is_name_start b)) [
  | inl letter ↦ let no = sym (if_true (is_name_start b) _ _ letter) ∙ h in absurd (cc)
  | inr other ↦
      let k = sym (if_false (is_name_start b) _ _ other) ∙ h in
      elim (cases_Bool (is_ascii_digit b)) [
        | inl digit ↦ let no = sym (if_true (is_ascii_digit b) _ _ digit) ∙ k in absurd (cc)
        | inr neither ↦ other_why d b bs c (sym (if_false (is_ascii_digit b) _ _ neither) ∙ k)
      ]
]

-- where no string and no ERE begins, the fault is a byte
pub unexpected_only : (d : Bool) (text : List ℕ) (c : RefusalCode) → ((rest : List ℕ) → text ≡ 34 ∷ rest → ⊥) → ((rest : List ℕ) → text ≡ 47 ∷ rest → ⊥)
    → token_at d text ≡ Err c → UnexpectedByte ≡ c
unexpected_only d text c no_string no_ere h = by_why text no_string no_ere (why d text c h)
  where
    by_why : (t : List ℕ) → ((rest : List ℕ) → t ≡ 34 ∷ rest → ⊥) → ((rest : List ℕ) → t ≡ 47 ∷ rest → ⊥) → Why d c t → UnexpectedByte ≡ c
    by_why t s e (byte is) = is
    by_why _ s e (string {bs} is) = absurd (s bs refl)
    by_why _ s e (ere {bs} opens is) = absurd (e bs refl)

closed_fault : (d : Bool) (bs : List ℕ) (len : ℕ) (c : RefusalCode) (o : Option (List ℕ)) → body_len 34 false bs ≡ Some len → unescaped (take len bs) ≡ o
    → closed_string len o ≡ Err c → Fault d c (34 ∷ bs)
closed_fault d bs len c None closed refused h =
    let s = closed_body 34 bs len closed in
    let bad : IsBadString (34 ∷ bs) =
    record { body = take len bs; rest = drop (suc len) bs; is = ap (λ x. 34 ∷ x) s.1; is_body = s.0; refused = refused } in
    let c_is : EscapeRefused ≡ c = cc in
    subst (λ x. Fault d x (34 ∷ bs)) c_is bad
closed_fault d bs len c (Some bytes) closed refused h = absurd (cc)

is_open : (delimiter : ℕ) (bs : List ℕ) → body_len delimiter false bs ≡ None → IsOpen delimiter (delimiter ∷ bs)
is_open delimiter bs e =
    let s = broken_body delimiter bs e in
    record { body = s.body; rest = s.rest; is = ap (λ x. delimiter ∷ x) s.is; is_body = s.is_body; breaks_off = s.breaks_off }

string_fault : (d : Bool) (bs : List ℕ) (c : RefusalCode) (o : Option ℕ) → body_len 34 false bs ≡ o → found_string bs o ≡ Err c → Fault d c (34 ∷ bs)
string_fault d bs c None e h =
    let c_is : OpenString ≡ c = cc in
    subst (λ x. Fault d x (34 ∷ bs)) c_is (is_open 34 bs e)
string_fault d bs c (Some len) e h = closed_fault d bs len c (unescaped (take len bs)) e refl h

ere_fault : (d : Bool) (bs : List ℕ) (c : RefusalCode) (o : Option ℕ) → d ≡ false → body_len 47 false bs ≡ o → found_ere bs o ≡ Err c → Fault d c (47 ∷ bs)
ere_fault d bs c None opens e h =
    let c_is : OpenPattern ≡ c = cc in
    subst (λ x. Fault d x (47 ∷ bs)) c_is (opens, is_open 47 bs e)
ere_fault d bs c (Some len) opens e h = absurd (cc)

closed_expected : (len : ℕ) (o : Option (List ℕ)) → closed_string len o ≡ Err UnexpectedByte → ⊥
closed_expected len None h = cc
closed_expected len (Some bytes) h = cc

string_expected : (bs : List ℕ) (o : Option ℕ) → found_string bs o ≡ Err UnexpectedByte → ⊥
string_expected bs None h = cc
string_expected bs (Some len) h = closed_expected len (unescaped (take len bs)) h

ere_expected : (bs : List ℕ) (o : Option ℕ) → found_ere bs o ≡ Err UnexpectedByte → ⊥
ere_expected bs None h = cc
ere_expected bs (Some len) h = cc

division_expected : (o : Option Kind) → long_punctuator o (kind_in divisions (47 ∷ [])) ≡ Err UnexpectedByte → ⊥
division_expected None h = cc
division_expected (Some k) h = cc

slash_expected : (d : Bool) (bs : List ℕ) → slash_at d (47 ∷ bs) ≡ Err UnexpectedByte → ⊥
slash_expected true [] h = cc
slash_expected true (b ∷ bs) h = division_expected (kind_in divisions (47 ∷ b ∷ [])) h
slash_expected false bs h = ere_expected bs (body_len 47 false bs) h

nothing_begins : (d : Bool) (text : List ℕ) → text ≢ [] → gap_len text ≡ 0 → token_at d text ≡ Err UnexpectedByte → BeginsNothing d text
nothing_begins d text some g h = record {
  some = some;
  no_gap = λ gap rest e p. no_gap rest gap p (ap gap_len (sym e) ∙ g);
  no_token = λ t w rest e p.
      let m = munch d t w rest p in
      let no : Err UnexpectedByte ≡ Ok m.token = sym h ∙ ap (token_at d) e ∙ m.is in
      cc;
  no_string = λ rest e. string_expected rest (body_len 34 false rest) (ap (token_at d) (sym e) ∙ h);
  no_ere = λ rest e. slash_expected d rest (ap (token_at d) (sym e) ∙ h);
}

fault_why : (d : Bool) (text : List ℕ) (c : RefusalCode) → text ≢ [] → gap_len text ≡ 0 → token_at d text ≡ Err c → Why d c text → Fault d c text
fault_why d text c some g h (byte is) = subst (λ x. Fault d x text) is (nothing_begins d text some g (h ∙ ap (λ x. Err x) (sym is)))
fault_why d _ c some g h (string {bs} is) = string_fault d bs c (body_len 34 false bs) refl is
fault_why d _ c some g h (ere {bs} opens is) = ere_fault d bs c (body_len 47 false bs) opens refl is

only_numbers : (d : Bool) (k : Kind) (text : List ℕ) (n : ℕ) → Stands d k text (drop n text) → is_allowed k (drop n text) ≡ false → IsBadNumber d text
only_numbers d (Number value) text n s h = record { value = value; after = drop n text; stands = s; refused = h }
only_numbers d _ text n s h = absurd (cc)

faulty : (d : Bool) (text : List ℕ) (c : RefusalCode) (o : Result Found RefusalCode) → text ≢ [] → gap_len text ≡ 0 → token_at d text ≡ o → token_lexeme text o ≡ lexeme.Fault c → Fault d c text
faulty d text c (Err e) some g is h =
    let e_is : e ≡ c = cc in
    let there = is ∙ ap (λ x. Err x) e_is in
    fault_why d text c some g there (why d text c there)
faulty d text c (Ok f) some g e h = elim (cases_Bool (is_allowed f.kind (drop f.len text))) [
  | inl allowed ↦ let no : lexeme.Token f.kind f.len ≡ lexeme.Fault c = sym (if_true (is_allowed f.kind (drop f.len text)) _ _ allowed) ∙ h in absurd (cc)
  | inr refused ↦
      let is : lexeme.Fault NumberRefused ≡ lexeme.Fault c = sym (if_false (is_allowed f.kind (drop f.len text)) _ _ refused) ∙ h in
      let c_is : NumberRefused ≡ c = cc in
      subst (λ x. Fault d x text) c_is (only_numbers d f.kind text f.len (stands d text f e) refused)
]

-- where the front is a fault, it is the fault there
pub fault_is : (d : Bool) (text : List ℕ) (c : RefusalCode) → text ≢ [] → lexeme_of d text ≡ lexeme.Fault c → Fault d c text
fault_is d text c some h = let f = fault_in_front d text c h in faulty d text c (token_at d text) some f.no_gap refl f.is
