-- What holds of each row of the tables.
use Rattle.std.proofs.Common.{◌≡◌, ℕ, ◌≤◌, Bool, true, false, not, ◌&&◌, eqb, inl, inr, List, [], ◌∷◌, ◌++◌, length, get_or, Option, Some, refl, sym, ap, ◌∙◌}
use Rattle.std.specs.Prelude.{if◌then◌else◌, bytes_eq, nat_le}
use Rattle.std.specs.Option.{option_map}
use Rattle.std.specs.List.{list_all}
use Rattle.std.specs.Char.{is_ascii_digit}
use Rattle.std.specs.Cmp.Lexicographic.{same_text}
use Rattle.std.proofs.lemmas.Bool.{cases_Bool, and_parts, not-true, leb-true, eqb-true}
use Rattle.awk_lex.specs.definitions.Tables.{reserved, punctuators, divisions, kind_in}
use Rattle.awk_lex.specs.definitions.Words.{is_name_start, is_word, suits, is_allowed}
use Rattle.awk_lex.specs.declared.token.Kind.{Kind}
use Rattle.awk_lex.specs.declared.token.Kind.TheVariants.{Number, String, Ere, Name, Called}
use Rattle.awk_lex.proofs.Prefixes.{if_true, if_false}

pub some_is : {A : Type 0} (x y : A) → Some x ≡ Some y → x ≡ y
some_is x y h = cc

-- what passes a test at each row passes it at the spelling that is found
pub found_row : (test : List ℕ → Kind → Bool) (rows : List (List ℕ × Kind)) (w : List ℕ) (k : Kind)
    → list_all (λ row. test row.0 row.1) rows ≡ true → kind_in rows w ≡ Some k → test w k ≡ true
found_row test [] w k all h = absurd (cc)
found_row test (row ∷ rows) w k all h = elim (cases_Bool (bytes_eq w row.0)) [
  | inl same ↦
      let w_is : w ≡ row.0 = same_text w row.0 (sym same) in
      let k_is : row.1 ≡ k = some_is _ _ (sym (if_true (bytes_eq w row.0) _ _ same) ∙ h) in
      ap (λ v. test v k) w_is ∙ ap (test row.0) (sym k_is) ∙ (and_parts _ _ all).0
  | inr other ↦ found_row test rows w k (and_parts _ _ all).1 (sym (if_false (bytes_eq w row.0) _ _ other) ∙ h)
]

-- a keyword and a built-in function's name are words
pub reserved_is_word : (w : List ℕ) (k : Kind) → kind_in reserved w ≡ Some k → is_word w ≡ true
reserved_is_word w k h = found_row (λ v _. is_word v) reserved w k refl h

-- a kind that says nothing of the bytes, so that it may stand before anything
is_mere : Kind → Bool
is_mere (Number value) = false
is_mere (String bytes) = false
is_mere (Ere body) = false
is_mere (Name w) = false
is_mere (Called w) = false
is_mere _ = true

mere_suits : (k : Kind) (rest : List ℕ) → is_mere k ≡ true → suits k rest ≡ true
unfolding is_mere
mere_suits (Name w) rest h = absurd (cc)
mere_suits (Called w) rest h = absurd (cc)
mere_suits _ rest h = refl

mere_allowed : (k : Kind) (rest : List ℕ) → is_mere k ≡ true → is_allowed k rest ≡ true
unfolding is_mere
mere_allowed (Number value) rest h = absurd (cc)
mere_allowed _ rest h = refl

mere_word : (w : List ℕ) (k : Kind) → kind_in reserved w ≡ Some k → is_mere k ≡ true
unfolding is_mere
mere_word w k h = found_row (λ _ j. is_mere j) reserved w k refl h

pub word_suits : (w rest : List ℕ) (k : Kind) → kind_in reserved w ≡ Some k → suits k rest ≡ true
word_suits w rest k h = mere_suits k rest (mere_word w k h)

pub word_allowed : (w rest : List ℕ) (k : Kind) → kind_in reserved w ≡ Some k → is_allowed k rest ≡ true
word_allowed w rest k h = mere_allowed k rest (mere_word w k h)

-- a row of a table of punctuators: one byte or two, and a kind that says nothing of them
is_punctuator : List ℕ → Kind → Bool
is_punctuator w k = nat_le 1 (length w) && (nat_le (length w) 2 && is_mere k)

pub IsTable : List (List ℕ × Kind) → Type 0
IsTable rows = list_all (λ row. is_punctuator row.0 row.1) rows ≡ true

pub punctuators_are : IsTable punctuators
unfolding IsTable is_punctuator is_mere
punctuators_are = refl

pub divisions_are : IsTable divisions
unfolding IsTable is_punctuator is_mere
divisions_are = refl

pub record IsRow (w : List ℕ) (k : Kind) : Type 0 where
  pub some : 1 ≤ length w
  pub few : length w ≤ 2
  pub suits : (rest : List ℕ) → suits k rest ≡ true
  pub allowed : (rest : List ℕ) → is_allowed k rest ≡ true

pub row_is : (rows : List (List ℕ × Kind)) (w : List ℕ) (k : Kind) → IsTable rows → kind_in rows w ≡ Some k → IsRow w k
unfolding IsTable is_punctuator
row_is rows w k table h =
    let a = and_parts _ _ (found_row is_punctuator rows w k table h) in
    let b = and_parts _ _ a.1 in
    record {
      some = leb-true _ _ a.0;
      few = leb-true _ _ b.0;
      suits = λ rest. mere_suits k rest b.1;
      allowed = λ rest. mere_allowed k rest b.1;
    }

-- a punctuator that begins with no slash begins with no letter, no digit and no quote either
starts_no_word : List ℕ → Kind → Bool
starts_no_word w k =
    not (is_name_start (get_or w 0 0)) && (not (is_ascii_digit (get_or w 0 0)) && (not (eqb (get_or w 0 0) 34) && not (eqb (get_or w 0 0) 47)))

pub record StartsPunctuator (b : ℕ) : Type 0 where
  pub no_letter : is_name_start b ≡ false
  pub no_digit : is_ascii_digit b ≡ false
  pub no_quote : eqb b 34 ≡ false
  pub no_slash : eqb b 47 ≡ false

pub punctuator_starts : (w : List ℕ) (k : Kind) → kind_in punctuators w ≡ Some k → StartsPunctuator (get_or w 0 0)
unfolding starts_no_word
punctuator_starts w k h =
    let a = and_parts _ _ (found_row starts_no_word punctuators w k refl h) in
    let b = and_parts _ _ a.1 in
    let c = and_parts _ _ b.1 in
    record { no_letter = not-true _ a.0; no_digit = not-true _ b.0; no_quote = not-true _ c.0; no_slash = not-true _ c.1 }

pub division_starts : (w : List ℕ) (k : Kind) → kind_in divisions w ≡ Some k → get_or w 0 0 ≡ 47
division_starts w k h = eqb-true _ 47 (found_row (λ v _. eqb (get_or v 0 0) 47) divisions w k refl h)

-- what is found, as a kind, row by row
pub option_map-if : {A B : Type 0} (f : A → B) (b : Bool) (x y : Option A) → option_map f (if b then x else y) ≡ (if b then option_map f x else option_map f y)
option_map-if f true x y = refl
option_map-if f false x y = refl

-- what the first of two tables has, both in a row have
pub in_first : (xs ys : List (List ℕ × Kind)) (w : List ℕ) (k : Kind) → kind_in xs w ≡ Some k → kind_in (xs ++ ys) w ≡ Some k
in_first [] ys w k h = absurd (cc)
in_first (row ∷ xs) ys w k h = elim (cases_Bool (bytes_eq w row.0)) [
  | inl same ↦ if_true (bytes_eq w row.0) _ _ same ∙ sym (if_true (bytes_eq w row.0) _ _ same) ∙ h
  | inr other ↦ if_false (bytes_eq w row.0) _ _ other ∙ in_first xs ys w k (sym (if_false (bytes_eq w row.0) _ _ other) ∙ h)
]
