-- What is read of the name of a class is written so, and what is written is read again.
use Rattle.std.proofs.Common.{◌≡◌, ℕ, zero, suc, ◌+◌, ◌<◌, List, [], ◌∷◌, ◌++◌, length, drop, get_or, Option, Some, None, refl, sym, ap, subst, ◌∙◌, arith, inl, inr}
use Rattle.std.specs.Prelude.{◌⊎◌, ◌==◌}
use Rattle.std.proofs.lemmas.Option.{same_Some, none-some}
use Rattle.std.proofs.lemmas.Bool.{eqb-true, eq-eqb, cond-true}
use Rattle.awk_ere.specs.declared.class_name.ClassName.{ClassName}
use Rattle.awk_ere.specs.declared.class_name.ClassName.TheVariants.{Alnum, Alpha, Blank, Cntrl, Digit, Graph, Lower, Print, Punct, Space, Upper, Xdigit}
use Rattle.awk_ere.specs.definitions.Brackets.{name_bytes}
use Rattle.awk_ere.specs.support.Lexer.{◌>>=◌, or_else, strip, this_name, first_name, all_names, name_at}
use Rattle.awk_ere.proofs.Choices.{chosen_some, bind_some}

strip_takes : (ps text rest : List ℕ) → strip ps text ≡ Some rest → text ≡ ps ++ rest
strip_takes [] text rest h = same_Some text rest h
strip_takes (p ∷ ps) [] rest h = absurd (none-some rest h)
strip_takes (p ∷ ps) (b ∷ bs) rest h =
    let x = chosen_some (p == b) (strip ps bs) rest h in
    ap (λ q. q ∷ bs) (sym (eqb-true p b x.0)) ∙ ap (λ (l : List ℕ). p ∷ l) (strip_takes ps bs rest x.1)

strip_again : (ps rest : List ℕ) → strip ps (ps ++ rest) ≡ Some rest
strip_again [] rest = refl
strip_again (p ∷ ps) rest = cond-true (p == p) (strip ps (ps ++ rest)) None (eq-eqb p p refl) ∙ strip_again ps rest

abbrev pub TakesName : List ℕ → ClassName × List ℕ → Type 0
TakesName text n = text ≡ name_bytes n.0 ++ n.1

or_some : {A : Type 0} (o p : Option A) (x : A) → or_else o p ≡ Some x → (o ≡ Some x) ⊎ (p ≡ Some x)
or_some None p x h = inr h
or_some (Some y) p x h = inl h

this_name_takes : (k : ClassName) (text : List ℕ) (n : ClassName × List ℕ) → this_name k text ≡ Some n → TakesName text n
this_name_takes k text n h =
    let y = bind_some (strip (name_bytes k) text) (λ rest. Some (k, rest)) n h in
    subst (TakesName text) (same_Some (k, y.0) n y.2) (strip_takes (name_bytes k) text y.0 y.1)

first_name_takes : (ns : List ClassName) (text : List ℕ) (n : ClassName × List ℕ) → first_name ns text ≡ Some n → TakesName text n
first_name_takes [] text n h = absurd (none-some n h)
first_name_takes (k ∷ ns) text n h =
    elim (or_some (this_name k text) (first_name ns text) n h) [
      | inl x ↦ this_name_takes k text n x
      | inr x ↦ first_name_takes ns text n x
    ]

pub name_takes : (text : List ℕ) (n : ClassName × List ℕ) → name_at text ≡ Some n → TakesName text n
name_takes text n h = first_name_takes all_names text n h

pub name_again : (n : ClassName) (rest : List ℕ) → name_at (name_bytes n ++ rest) ≡ Some (n, rest)
name_again Alnum rest = refl
name_again Alpha rest = refl
name_again Blank rest = refl
name_again Cntrl rest = refl
name_again Digit rest = refl
name_again Graph rest = refl
name_again Lower rest = refl
name_again Print rest = refl
name_again Punct rest = refl
name_again Space rest = refl
name_again Upper rest = refl
name_again Xdigit rest = refl

-- ---- the names one after another

nothing_found : {A : Type 0} (o : Option A) → ((x : A) → o ≡ Some x → ⊥) → o ≡ None
nothing_found None h = refl
nothing_found (Some x) h = absurd (h x refl)

next_name : (ns : List ClassName) (i : ℕ) (d : ClassName) (text : List ℕ) → i < length ns → strip (name_bytes (get_or ns i d)) text ≡ None → first_name (drop (suc i) ns) text ≡ first_name (drop i ns) text
next_name [] i d text lt e = absurd (omega arith)
next_name (n ∷ ns) zero d text lt e = sym (ap (λ o. or_else (o >>= λ rest. Some (n, rest)) (first_name ns text)) e)
next_name (n ∷ ns) (suc i) d text lt e = next_name ns i d text (omega arith) e

this_name_first : (ns : List ClassName) (i : ℕ) (d : ClassName) (text rest : List ℕ) → i < length ns → strip (name_bytes (get_or ns i d)) text ≡ Some rest → Some (get_or ns i d, rest) ≡ first_name (drop i ns) text
this_name_first [] i d text rest lt e = absurd (omega arith)
this_name_first (n ∷ ns) zero d text rest lt e = sym (ap (λ o. or_else (o >>= λ r. Some (n, r)) (first_name ns text)) e)
this_name_first (n ∷ ns) (suc i) d text rest lt e = this_name_first ns i d text rest (omega arith) e

-- a text with this name in front has it as the first of the names that are left
pub name_found : (i : ℕ) (d : ClassName) (p text rest : List ℕ) → i < 12 → p ≡ name_bytes (get_or all_names i d) → text ≡ p ++ rest → Some (get_or all_names i d, rest) ≡ first_name (drop i all_names) text
name_found i d p text rest lt e front =
    this_name_first all_names i d text rest lt
    (ap (λ (l : List ℕ). strip l text) (sym e) ∙ ap (strip p) front ∙ strip_again p rest)

-- a text without this name has the names that are left
pub name_passed : (i : ℕ) (d : ClassName) (p text : List ℕ) → i < 12 → p ≡ name_bytes (get_or all_names i d) → ((rest : List ℕ) → text ≡ p ++ rest → ⊥) → first_name (drop (i + 1) all_names) text ≡ first_name (drop i all_names) text
name_passed i d p text lt e none =
    let more : i + 1 ≡ suc i = omega arith in
    ap (λ (n : ℕ). first_name (drop n all_names) text) more
    ∙ next_name all_names i d text lt
    (ap (λ (l : List ℕ). strip l text) (sym e) ∙ nothing_found (strip p text) (λ rest f. none rest (strip_takes p text rest f)))
