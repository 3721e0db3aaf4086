-- What is read of an escape is written so, and what is written is read again.
use Rattle.std.proofs.Common.{◌≡◌, ℕ, ◌≤◌, true, false, cond, List, [], ◌∷◌, ◌++◌, Some, None, refl, subst, ◌∙◌, arith, inl, inr}
use Rattle.std.specs.Prelude.{◌||◌, not, nat_le}
use Rattle.std.proofs.lemmas.Option.{same_Some, none-some, cond_some}
use Rattle.std.proofs.lemmas.Bool.{and_parts, and_from, not-true, not_from_false, or_parts, cond-true, cond-false, leb-true, le-leb}
use Rattle.awk_ere.specs.definitions.Escapes.{within, is_octal, is_digit, is_letter, starts, names_byte, Escape, letter, octal1, octal2, octal3, itself, octal, escape_bytes, escape_fits}
use Rattle.awk_ere.specs.support.Lexer.{octal_more, octal_at, escape_at}
use Rattle.awk_ere.proofs.Choices.{chosen, refuted, among_all, Takes}

within_is : (low high b : ℕ) → within low high b ≡ true → (low ≤ b) × (b ≤ high)
within_is low high b e = let h = and_parts (nat_le low b) (nat_le b high) e in (leb-true low b h.0, leb-true b high h.1)

is_within : (low high b : ℕ) → low ≤ b → b ≤ high → within low high b ≡ true
is_within low high b l h = and_from (nat_le low b) (nat_le b high) (le-leb low b l) (le-leb b high h)

names_no_octal : (b : ℕ) → names_byte b ≡ true → is_octal b ≡ false
names_no_octal b e = among_all (λ c. is_octal c ≡ false) (97 ∷ 98 ∷ 102 ∷ 110 ∷ 114 ∷ 116 ∷ 118 ∷ []) b (refl, (refl, (refl, (refl, (refl, (refl, (refl, tt))))))) e

names_letter : (b : ℕ) → names_byte b ≡ true → is_letter b ≡ true
names_letter b e = among_all (λ c. is_letter c ≡ true) (97 ∷ 98 ∷ 102 ∷ 110 ∷ 114 ∷ 116 ∷ 118 ∷ []) b (refl, (refl, (refl, (refl, (refl, (refl, (refl, tt))))))) e

octal_digit : (b : ℕ) → is_octal b ≡ true → is_digit b ≡ true
octal_digit b e = let h = within_is 48 55 b e in is_within 48 57 b h.0 (omega (arith, h.1))

abbrev pub TakesEscape : List ℕ → Escape × List ℕ → Type 0
TakesEscape text e = Takes text (escape_bytes e.0) e.1 (escape_fits e.0 e.1)

escape_is : (text : List ℕ) (e f : Escape × List ℕ) → Some e ≡ Some f → TakesEscape text e → TakesEscape text f
escape_is text e f p h = subst (TakesEscape text) (same_Some e f p) h

octal_more_takes : (a b : ℕ) (bs : List ℕ) (e : Escape × List ℕ) → is_octal a ≡ true → is_octal b ≡ true → octal_more a b bs ≡ Some e → TakesEscape (a ∷ b ∷ bs) e
octal_more_takes a b [] e p q h = escape_is _ (octal2 a b, []) e h (record { parts = refl; fits = and_from (is_octal a) _ p (and_from (is_octal b) _ q refl) })
octal_more_takes a b (c ∷ ds) e p q h =
    elim (chosen (is_octal c) (cond (nat_le (octal a b c) 255) (Some (octal3 a b c, ds)) None) (Some (octal2 a b, c ∷ ds)) (Some e) h) [
      | inl x ↦ let y = cond_some (nat_le (octal a b c) 255) (octal3 a b c, ds) e x.1 in subst (TakesEscape (a ∷ b ∷ c ∷ ds)) y.1 (record { parts = refl; fits = and_from (is_octal a) _ p (and_from (is_octal b) _ q (and_from (is_octal c) _ x.0 y.0)) })
      | inr x ↦ escape_is _ (octal2 a b, c ∷ ds) e x.1 (record { parts = refl; fits = and_from (is_octal a) _ p (and_from (is_octal b) _ q (not_from_false (is_octal c) x.0)) })
    ]

octal_takes : (a : ℕ) (bs : List ℕ) (e : Escape × List ℕ) → is_octal a ≡ true → octal_at a bs ≡ Some e → TakesEscape (a ∷ bs) e
octal_takes a [] e p h = escape_is _ (octal1 a, []) e h (record { parts = refl; fits = and_from (is_octal a) _ p refl })
octal_takes a (b ∷ cs) e p h =
    elim (chosen (is_octal b) (octal_more a b cs) (Some (octal1 a, b ∷ cs)) (Some e) h) [
      | inl x ↦ octal_more_takes a b cs e p x.0 x.1
      | inr x ↦ escape_is _ (octal1 a, b ∷ cs) e x.1 (record { parts = refl; fits = and_from (is_octal a) _ p (not_from_false (is_octal b) x.0) })
    ]

pub escape_takes : (text : List ℕ) (e : Escape × List ℕ) → escape_at text ≡ Some e → TakesEscape text e
escape_takes [] e h = absurd (none-some e h)
escape_takes (a ∷ bs) e h =
    elim (chosen (is_octal a) (octal_at a bs) _ (Some e) h) [
      | inl x ↦ octal_takes a bs e x.0 x.1
      | inr x ↦ elim (chosen (names_byte a) (Some (letter a, bs)) _ (Some e) x.1) [
        | inl y ↦ escape_is _ (letter a, bs) e y.1 (record { parts = refl; fits = y.0 })
        | inr y ↦ elim (chosen (is_letter a || is_digit a) None (Some (itself a, bs)) (Some e) y.1) [
          | inl z ↦ absurd (none-some e z.1)
          | inr z ↦ escape_is _ (itself a, bs) e z.1 (record { parts = refl; fits = not_from_false (is_letter a || is_digit a) z.0 })
        ]
      ]
    ]

octal1_again : (a : ℕ) (rest : List ℕ) → not (starts is_octal rest) ≡ true → octal_at a rest ≡ Some (octal1 a, rest)
octal1_again a [] e = refl
octal1_again a (b ∷ rest) e = cond-false (is_octal b) (octal_more a b rest) (Some (octal1 a, b ∷ rest)) (not-true (is_octal b) e)

octal2_again : (a b : ℕ) (rest : List ℕ) → not (starts is_octal rest) ≡ true → octal_more a b rest ≡ Some (octal2 a b, rest)
octal2_again a b [] e = refl
octal2_again a b (c ∷ rest) e = cond-false (is_octal c) (cond (nat_le (octal a b c) 255) (Some (octal3 a b c, rest)) None) (Some (octal2 a b, c ∷ rest)) (not-true (is_octal c) e)

first_octal : (a : ℕ) (bs : List ℕ) → is_octal a ≡ true → escape_at (a ∷ bs) ≡ octal_at a bs
first_octal a bs e = cond-true (is_octal a) (octal_at a bs) _ e

pub escape_again : (e : Escape) (rest : List ℕ) → escape_fits e rest ≡ true → escape_at (escape_bytes e ++ rest) ≡ Some (e, rest)
escape_again (letter b) rest h =
    cond-false (is_octal b) (octal_at b rest) _ (names_no_octal b h) ∙ cond-true (names_byte b) (Some (letter b, rest)) _ h
escape_again (octal1 a) rest h =
    let p = and_parts (is_octal a) _ h in first_octal a rest p.0 ∙ octal1_again a rest p.1
escape_again (octal2 a b) rest h =
    let p = and_parts (is_octal a) _ h in let q = and_parts (is_octal b) _ p.1 in
    first_octal a (b ∷ rest) p.0 ∙ cond-true (is_octal b) (octal_more a b rest) _ q.0 ∙ octal2_again a b rest q.1
escape_again (octal3 a b c) rest h =
    let p = and_parts (is_octal a) _ h in let q = and_parts (is_octal b) _ p.1 in let r = and_parts (is_octal c) _ q.1 in
    first_octal a (b ∷ c ∷ rest) p.0 ∙ cond-true (is_octal b) (octal_more a b (c ∷ rest)) _ q.0
    ∙ cond-true (is_octal c) _ (Some (octal2 a b, c ∷ rest)) r.0 ∙ cond-true (nat_le (octal a b c) 255) (Some (octal3 a b c, rest)) None r.1
escape_again (itself b) rest h =
    let n = not-true (is_letter b || is_digit b) h in let p = or_parts (is_letter b) (is_digit b) n in
    cond-false (is_octal b) (octal_at b rest) _ (refuted (is_octal b) (is_digit b) (octal_digit b) p.1)
    ∙ cond-false (names_byte b) (Some (letter b, rest)) _ (refuted (names_byte b) (is_letter b) (names_letter b) p.0)
    ∙ cond-false (is_letter b || is_digit b) None (Some (itself b, rest)) n
