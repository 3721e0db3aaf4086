-- Texts of digits, and the first bytes of decimal forms.
use Rattle.std.proofs.Common.{◌≡◌, ℕ, zero, suc, ℤ, pos, negsuc, ◌+◌, ◌-◌, ◌*◌, ◌^◌, ◌<◌, ◌≤◌, ◌⊎◌, inl, inr, Bool, true, false, ◌&&◌, List, [], ◌∷◌, ◌++◌, take, drop, length, get_or, refl, sym, ap, ◌∙◌, subst, arith, true≢false, take-append-drop, length-take}
use Rattle.std.specs.Fmt.{decimal, signed_decimal}
use Rattle.std.specs.Char.{is_ascii_digit}
use Rattle.std.specs.Str.{all_ascii_digits}
use Rattle.std.proofs.Math.Seq.{drop-cons}
use Rattle.std.proofs.lemmas.List.{take_more}
use Rattle.std.proofs.lemmas.Fmt.{digits_decimal, decimal_nonempty, decimal_digit, first_decimal, decimal-digits_value}
use Rattle.std.proofs.lemmas.Str.Parse.{IsNumeralModel, numerals_by_fold, tells_all_ascii_digits, digits_value_short}
use Rattle.awk_value.specs.support.Texts.{IsInt64, IsTextKey, digits_after}

pub own : IsNumeralModel (λ ds. all_ascii_digits ds ≡ true) (digits_after 0)
own = numerals_by_fold _ tells_all_ascii_digits digits_after (record { empty = λ n. refl; more = λ n c cs r. refl })

-- one digit more
all-more : (ds : List ℕ) (c : ℕ) → all_ascii_digits ds ≡ true → is_ascii_digit c ≡ true → all_ascii_digits (ds ++ c ∷ []) ≡ true
all-more [] c h d = ap (λ b. b && true) d
all-more (x ∷ ds) c h d = by (is_ascii_digit x) (all_ascii_digits ds) (all-more ds c) h
  where
    by : (a b : Bool) → (b ≡ true → is_ascii_digit c ≡ true → all_ascii_digits (ds ++ c ∷ []) ≡ true) → (a && b) ≡ true → (a && all_ascii_digits (ds ++ c ∷ [])) ≡ true
    by true b ih h = ih h d
    by false b ih h = absurd (true≢false (sym h))

after-more : (n : ℕ) (ds : List ℕ) (c : ℕ) → digits_after n (ds ++ c ∷ []) ≡ digits_after n ds * 10 + (c - 48)
after-more n [] c = refl
after-more n (x ∷ ds) c = after-more (n * 10 + (x - 48)) ds c

not-all : (ds : List ℕ) (c : ℕ) (es : List ℕ) → is_ascii_digit c ≡ false → all_ascii_digits (ds ++ c ∷ es) ≡ false
not-all [] c es d = ap (λ b. b && all_ascii_digits es) d
not-all (x ∷ ds) c es d = by (is_ascii_digit x) (all_ascii_digits (ds ++ c ∷ es)) (not-all ds c es d)
  where
    by : (a b : Bool) → b ≡ false → (a && b) ≡ false
    by true b h = h
    by false b h = refl

module _ (ds : List ℕ) (n c : ℕ) (within : n < length ds) (read : c ≡ get_or ds n c) where
  next : take (n + 1) ds ≡ take n ds ++ c ∷ []
  next = take_more ds n c within ∙ ap (λ y. take n ds ++ y ∷ []) (sym read)

  pub all-next : all_ascii_digits (take n ds) ≡ true → is_ascii_digit c ≡ true → all_ascii_digits (take (n + 1) ds) ≡ true
  all-next h d = ap all_ascii_digits next ∙ all-more (take n ds) c h d

  pub after-next : digits_after 0 (take (n + 1) ds) ≡ digits_after 0 (take n ds) * 10 + (c - 48)
  after-next = ap (digits_after 0) next ∙ after-more 0 (take n ds) c

  pub not-next : is_ascii_digit c ≡ false → all_ascii_digits ds ≡ false
  not-next d =
      ap all_ascii_digits (sym (take-append-drop n ds) ∙ ap (λ l. take n ds ++ l) (drop-cons ds n c within ∙ ap (λ y. y ∷ drop (suc n) ds) (sym read)))
      ∙ not-all (take n ds) c (drop (suc n) ds) d

  -- no more than eighteen digits
  pub small-before : length ds ≤ 18 → all_ascii_digits (take n ds) ≡ true → digits_after 0 (take n ds) < 10 ^ 17
  small-before few h = digits_value_short own (take n ds) 17 h (omega (arith, length-take n ds))

-- the first byte
first-digit : (text : List ℕ) → all_ascii_digits text ≡ true → 0 < length text → is_ascii_digit (get_or text 0 0) ≡ true
first-digit [] h l = absurd (omega arith)
first-digit (c ∷ cs) h l = by (is_ascii_digit c) (all_ascii_digits cs) h
  where
    by : (a b : Bool) → (a && b) ≡ true → a ≡ true
    by true b h = refl
    by false b h = absurd (true≢false (sym h))

-- a decimal form begins with a minus, or is digits without a 0 in front
pub record IsPlain (text : List ℕ) : Type 0 where
  pub all : all_ascii_digits text ≡ true
  pub some : 0 < length text
  pub begin : is_ascii_digit (get_or text 0 0) ≡ true
  pub zero : get_or text 0 0 ≡ 48 → length text ≡ 1

plain : (n : ℕ) → n < 2 ^ 63 → IsPlain (decimal n)
plain n small =
    let some = decimal_nonempty n (omega arith) in
    let all = digits_decimal own n (omega arith) in
    record { all = all; some = some; begin = first-digit (decimal n) all some; zero = by n small }
  where
    by : (n : ℕ) → n < 2 ^ 63 → get_or (decimal n) 0 0 ≡ 48 → length (decimal n) ≡ 1
    by zero small e = ap length (decimal_digit 0 (omega arith))
    by (suc n) small e = let h = first_decimal (suc n) (omega arith) (omega arith) in absurd (omega arith)

pub form : (n : ℤ) → IsInt64 n → (text : List ℕ) → text ≡ signed_decimal n → (get_or text 0 0 ≡ 45) ⊎ IsPlain text
form (pos n) small text e = inr (subst IsPlain (sym e) (plain n small))
form (negsuc n) small text e = inl (ap (λ l. get_or l 0 0) e)

-- what is no decimal form
pub none-empty : (text : List ℕ) → length text ≡ 0 → IsTextKey text
none-empty text h n small e = by (form n small text e)
  where
    empty : (text : List ℕ) → length text ≡ 0 → get_or text 0 0 ≡ 0
    empty [] h = refl
    empty (c ∷ cs) h = absurd (omega arith)

    by : (get_or text 0 0 ≡ 45) ⊎ IsPlain text → ⊥
    by (inl m) = let z = empty text h in omega arith
    by (inr p) = let s = p.some in omega arith

pub none-other : (text : List ℕ) (c : ℕ) → c ≡ get_or text 0 0 → (c ≡ 45 → ⊥) → is_ascii_digit c ≡ false → IsTextKey text
none-other text c read minus digit n small e = by (form n small text e)
  where
    by : (get_or text 0 0 ≡ 45) ⊎ IsPlain text → ⊥
    by (inl m) = minus (read ∙ m)
    by (inr p) = true≢false (sym p.begin ∙ ap is_ascii_digit (sym read) ∙ digit)

pub none-padded : (text : List ℕ) (c : ℕ) → c ≡ get_or text 0 0 → c ≡ 48 → 1 < length text → IsTextKey text
none-padded text c read padded more n small e = by (form n small text e)
  where
    by : (get_or text 0 0 ≡ 45) ⊎ IsPlain text → ⊥
    by (inl m) = omega arith
    by (inr p) = let one : length text ≡ 1 = p.zero (sym read ∙ padded) in omega arith

pub none-mixed : (text : List ℕ) (c : ℕ) → c ≡ get_or text 0 0 → (c ≡ 45 → ⊥) → all_ascii_digits text ≡ false → IsTextKey text
none-mixed text c read minus mixed n small e = by (form n small text e)
  where
    by : (get_or text 0 0 ≡ 45) ⊎ IsPlain text → ⊥
    by (inl m) = minus (read ∙ m)
    by (inr p) = true≢false (sym p.all ∙ mixed)

-- few digits without a 0 in front
pub few-small : (text : List ℕ) → all_ascii_digits text ≡ true → length text ≤ 18 → digits_after 0 text < 10 ^ 18
few-small text all few = digits_value_short own text 18 all few

pub few-form : (text : List ℕ) (c : ℕ) → c ≡ get_or text 0 0 → 0 < length text → length text ≤ 18 → all_ascii_digits text ≡ true
    → (c ≡ 48 → 1 < length text → ⊥) → decimal (digits_after 0 text) ≡ text
few-form text c read some few all padded =
    let small = few-small text all few in
    decimal-digits_value own text all some (λ z. omega (arith, padded (read ∙ z))) (omega arith)
