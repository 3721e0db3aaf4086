-- The names of special variables, and what a look-up of one says.
use Rattle.std.proofs.Common.{◌≡◌, ◌↔◌, ℕ, Bool, true, false, cond, List, [], ◌∷◌, map, codes, Option, Some, None, if◌then◌else◌, refl, sym, ap, ◌∙◌, true≢false}
use Rattle.std.specs.Borrow.{Bor}
use Rattle.std.specs.List.{find}
use Rattle.std.specs.Str.{bytes_eq}
use Rattle.std.specs.Option.{option_map}
use Rattle.std.specs.Map.{lookup}
use Rattle.std.proofs.lemmas.Bool.{false_from_ne_true}
use Rattle.std.proofs.lemmas.Slice.Eq.{bytes_eq-Decides}
use Rattle.awk_kinds.specs.declared.special.Special.{Special}
use Rattle.awk_kinds.specs.declared.special.Special.TheVariants.{Argc, Convfmt, Filename, Fnr, Fs, Nr, Ofmt, Ofs, Ors, Rlength, Rs, Rstart, Subsep}
use Rattle.awk_kinds.specs.declared.special.OwnVariable.{OwnVariable}
use Rattle.awk_kinds.specs.definitions.Variables.{name_of}
use Rattle.awk_kinds.specs.support.SpecialIndices.{all_specials, special_named, kept, Named, named_by, names_in}

-- texts

pub same : (s t : List ℕ) → bytes_eq s t ≡ true → s ≡ t
same s t e = (bytes_eq-Decides s t).0 e

pub itself : (s t : List ℕ) → s ≡ t → bytes_eq s t ≡ true
itself s t e = (bytes_eq-Decides s t).1 e

pub other : (s t : List ℕ) → (s ≡ t → ⊥) → bytes_eq s t ≡ false
other s t ne = false_from_ne_true (bytes_eq s t) (λ e. ne (same s t e))

pub differs : (s t : List ℕ) → bytes_eq s t ≡ false → s ≡ t → ⊥
differs s t apart e = true≢false (sym (itself s t e) ∙ apart)

pub none_or_some : {A : Type 0} {x : A} → None ≡ Some x → ⊥
none_or_some e = cc

pub same_some : {A : Type 0} {x y : A} → Some x ≡ Some y → x ≡ y
same_some e = cc

-- names of special variables

pub special_named-name_of : (s : Special) → special_named (name_of s) ≡ Some s
special_named-name_of Argc = refl
special_named-name_of Convfmt = refl
special_named-name_of Filename = refl
special_named-name_of Fnr = refl
special_named-name_of Fs = refl
special_named-name_of Nr = refl
special_named-name_of Ofmt = refl
special_named-name_of Ofs = refl
special_named-name_of Ors = refl
special_named-name_of Rlength = refl
special_named-name_of Rs = refl
special_named-name_of Rstart = refl
special_named-name_of Subsep = refl

named_among : (name : List ℕ) (s : Special) (all : List Special) → lookup (bytes_eq name) (map (λ t. (name_of t, t)) all) ≡ Some s → name ≡ name_of s
named_among name s [] e = absurd (none_or_some e)
named_among name s (t ∷ all) e = by (bytes_eq name (name_of t)) refl (λ f. named_among name s all f) e
  where
    by : (b : Bool) → bytes_eq name (name_of t) ≡ b → (lookup (bytes_eq name) (map (λ t. (name_of t, t)) all) ≡ Some s → name ≡ name_of s) → cond b (Some t) (lookup (bytes_eq name) (map (λ t. (name_of t, t)) all)) ≡ Some s → name ≡ name_of s
    by true is rest f = same name (name_of t) is ∙ ap name_of (same_some f)
    by false is rest f = rest f

pub name_of_named : (name : List ℕ) (s : Special) → special_named name ≡ Some s → name ≡ name_of s
name_of_named name s e = named_among name s all_specials e

-- rows of awk's own variables

abbrev Row : Type 0
Row = Bor (List ℕ) × OwnVariable

abbrev named_in : List Special → List ℕ → Option Special
named_in specials name = lookup (bytes_eq name) (map (λ s. (name_of s, s)) specials)

pub found_by : (name : List ℕ) (rows : List Row) → kept (option_map (λ (row : Row). row.1) (find (λ (row : Row). bytes_eq name row.0.now) rows)) ≡ named_by (names_in rows) name
found_by name [] = refl
found_by name (row ∷ rows) = by (bytes_eq name row.0.now) (found_by name rows)
  where
    by : (b : Bool) → kept (option_map (λ (r : Row). r.1) (find (λ (r : Row). bytes_eq name r.0.now) rows)) ≡ named_by (names_in rows) name → kept (option_map (λ (r : Row). r.1) (cond b (Some row) (find (λ (r : Row). bytes_eq name r.0.now) rows))) ≡ cond b (kept (Some row.1)) (named_by (names_in rows) name)
    by true rest = refl
    by false rest = rest

-- the names tell which of the special variables each is
record Tell (names : Named) (specials : List Special) (name : List ℕ) : Type 0 where
  tell : named_by names name ≡ named_in specials name

name_kept : (name : List ℕ) (names : Named) (s : Special) (specials : List Special) → Tell names specials name → Tell ((name_of s, Some s) ∷ names) (s ∷ specials) name
name_kept name names s specials rest = record { tell = ap (λ r. cond (bytes_eq name (name_of s)) (Some s) r) rest.tell }

name_other : (name x : List ℕ) (names : Named) (specials : List Special) → named_in specials x ≡ None → Tell names specials name → Tell ((x, None) ∷ names) specials name
name_other name x names specials none rest = record { tell = by (bytes_eq name x) refl }
  where
    by : (b : Bool) → bytes_eq name x ≡ b → cond b None (named_by names name) ≡ named_in specials name
    by true e = sym (ap (named_in specials) (same name x e) ∙ none)
    by false e = rest.tell

abbrev pub own_names : Named
own_names =
    (codes "ARGV", None) ∷ (codes "ENVIRON", None) ∷ (codes "ARGC", Some Argc) ∷ (codes "CONVFMT", Some Convfmt) ∷ (codes "FILENAME", Some Filename)
    ∷ (codes "FNR", Some Fnr) ∷ (codes "FS", Some Fs) ∷ (codes "NF", None) ∷ (codes "NR", Some Nr) ∷ (codes "OFMT", Some Ofmt) ∷ (codes "OFS", Some Ofs)
    ∷ (codes "ORS", Some Ors) ∷ (codes "RLENGTH", Some Rlength) ∷ (codes "RS", Some Rs) ∷ (codes "RSTART", Some Rstart) ∷ (codes "SUBSEP", Some Subsep) ∷ []

own_told : (name : List ℕ) → Tell own_names all_specials name
own_told name =
    name_other name _ _ _ refl (
    name_other name _ _ _ refl (
    name_kept name _ _ _ (
    name_kept name _ _ _ (
    name_kept name _ _ _ (
    name_kept name _ _ _ (
    name_kept name _ _ _ (
    name_other name _ _ _ refl (
    name_kept name _ _ _ (
    name_kept name _ _ _ (
    name_kept name _ _ _ (
    name_kept name _ _ _ (
    name_kept name _ _ _ (
    name_kept name _ _ _ (
    name_kept name _ _ _ (
    name_kept name _ _ _ (
    record { tell = refl }))))))))))))))))

pub own_named : (name : List ℕ) → named_by own_names name ≡ special_named name
own_named name = (own_told name).tell

-- what a look-up of a special variable's name says of the name
pub named-names : (name : List ℕ) (found : Option Special) → found ≡ special_named name → (s : Special) → (found ≡ Some s) ↔ (name ≡ name_of s)
named-names name found is s = (λ e. name_of_named name s (sym is ∙ e), λ e. is ∙ ap special_named e ∙ special_named-name_of s)
