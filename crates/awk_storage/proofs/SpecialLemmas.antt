-- What the kept special variables are, name by name.
use Rattle.std.proofs.Common.{◌≡◌, ◌≢◌, ℕ, ◌<◌, Bool, true, false, cond, List, [], ◌∷◌, map, length, get_or, set, Option, Some, None, unwrap_or, if◌then◌else◌, refl, sym, ap, ◌∙◌, arith, get_or-set_same, get_or-set_other, length-set}
use Rattle.std.specs.Str.{bytes_eq}
use Rattle.std.specs.Option.{option_map}
use Rattle.std.specs.Map.{lookup}
use Rattle.std.proofs.lemmas.List.{get_or_default}
use Rattle.awk_value.specs.declared.value.Value.{Value}
use Rattle.awk_value.specs.declared.value.Value.TheVariants.{Nothing}
use Rattle.awk_kinds.specs.declared.special.Special.{Special}
use Rattle.awk_kinds.specs.declared.special.Special.TheVariants.{Argc, Convfmt, Filename, Fnr, Fs, Nr, Ofmt, Ofs, Ors, Rlength, Rs, Rstart, Subsep}
use Rattle.awk_kinds.specs.definitions.Variables.{value_of, name_of, with_value}
use Rattle.awk_kinds.specs.support.SpecialIndices.{all_specials, index_of, special_named}
use Rattle.awk_kinds.proofs.SpecialNaming.{same, itself, other, differs, none_or_some, same_some, special_named-name_of, name_of_named}
use Rattle.awk_storage.specs.support.SpecialValues.{value_at, special_pairs}

-- places

abbrev special_at : ℕ → Special
special_at n = get_or all_specials n Subsep

special_at-index_of : (s : Special) → special_at (index_of s) ≡ s
special_at-index_of Argc = refl
special_at-index_of Convfmt = refl
special_at-index_of Filename = refl
special_at-index_of Fnr = refl
special_at-index_of Fs = refl
special_at-index_of Nr = refl
special_at-index_of Ofmt = refl
special_at-index_of Ofs = refl
special_at-index_of Ors = refl
special_at-index_of Rlength = refl
special_at-index_of Rs = refl
special_at-index_of Rstart = refl
special_at-index_of Subsep = refl

pub index_within : (s : Special) → index_of s < 13
index_within Argc = omega arith
index_within Convfmt = omega arith
index_within Filename = omega arith
index_within Fnr = omega arith
index_within Fs = omega arith
index_within Nr = omega arith
index_within Ofmt = omega arith
index_within Ofs = omega arith
index_within Ors = omega arith
index_within Rlength = omega arith
index_within Rs = omega arith
index_within Rstart = omega arith
index_within Subsep = omega arith

same_special : (s t : Special) → index_of s ≡ index_of t → s ≡ t
same_special s t e = sym (special_at-index_of s) ∙ ap special_at e ∙ special_at-index_of t

-- look-ups

-- a look-up among the special variables, with a value for each
lookup_specials : (f : Special → Value) (name : List ℕ) (all : List Special) → lookup (bytes_eq name) (map (λ s. (name_of s, f s)) all) ≡ option_map f (lookup (bytes_eq name) (map (λ s. (name_of s, s)) all))
lookup_specials f name [] = refl
lookup_specials f name (t ∷ all) = by (bytes_eq name (name_of t)) (lookup_specials f name all)
  where
    by : (b : Bool) → lookup (bytes_eq name) (map (λ s. (name_of s, f s)) all) ≡ option_map f (lookup (bytes_eq name) (map (λ s. (name_of s, s)) all)) → cond b (Some (f t)) (lookup (bytes_eq name) (map (λ s. (name_of s, f s)) all)) ≡ option_map f (cond b (Some t) (lookup (bytes_eq name) (map (λ s. (name_of s, s)) all)))
    by true rest = refl
    by false rest = rest

-- the values of names

found_as : (values : List Value) (name : List ℕ) (r : Option Special) → special_named name ≡ r → lookup (bytes_eq name) (special_pairs values) ≡ option_map (value_at values) r
found_as values name r is = lookup_specials (value_at values) name all_specials ∙ ap (option_map (value_at values)) is

pub value_of-special : (values : List Value) (name : List ℕ) (s : Special) → special_named name ≡ Some s → value_of (special_pairs values) name ≡ value_at values s
value_of-special values name s is = ap (λ r. unwrap_or r Nothing) (found_as values name (Some s) is)

value_of-other : (values : List Value) (name : List ℕ) → special_named name ≡ None → value_of (special_pairs values) name ≡ Nothing
value_of-other values name is = ap (λ r. unwrap_or r Nothing) (found_as values name None is)

-- what stands at the index of a special variable is its value
pub value_of-at : (values : List Value) (s : Special) (i : ℕ) (x : Value) → length values ≡ 13 → i ≡ index_of s → get_or values i x ≡ value_of (special_pairs values) (name_of s)
value_of-at values s i x len is =
    let within : index_of s < length values = omega (arith, index_within s) in
    ap (λ j. get_or values j x) is ∙ get_or_default values (index_of s) x Nothing within ∙ sym (value_of-special values (name_of s) s (special_named-name_of s))

-- changes

changed : (values : List ℕ → Value) (name : List ℕ) (v : Value) (x : List ℕ) → name ≡ x → with_value values name v x ≡ v
changed values name v x e = ap (λ b. if b then v else values x) (itself name x e)

unchanged : (values : List ℕ → Value) (name : List ℕ) (v : Value) (x : List ℕ) → (name ≡ x → ⊥) → with_value values name v x ≡ values x
unchanged values name v x ne = ap (λ b. if b then v else values x) (other name x ne)

-- a special variable takes a value
pub value_of-set_special : (values : List Value) (s : Special) (v : Value) → length values ≡ 13 → (x : List ℕ) → value_of (special_pairs (set values (index_of s) v)) x ≡ with_value (value_of (special_pairs values)) (name_of s) v x
value_of-set_special values s v len x = by (special_named x) refl
  where
    by_name : (t : Special) → special_named x ≡ Some t → (b : Bool) → bytes_eq (name_of s) x ≡ b → value_at (set values (index_of s) v) t ≡ with_value (value_of (special_pairs values)) (name_of s) v x
    by_name t is true e =
        let here : name_of s ≡ x = same (name_of s) x e in
        let one : t ≡ s = same_some (sym is ∙ ap special_named (sym here) ∙ special_named-name_of s) in
        let within : index_of s < length values = omega (arith, index_within s) in
        ap (λ r. get_or (set values (index_of s) v) (index_of r) Nothing) one ∙ get_or-set_same values (index_of s) v Nothing within ∙ sym (changed (value_of (special_pairs values)) (name_of s) v x here)
    by_name t is false e =
        let elsewhere : name_of s ≡ x → ⊥ = differs (name_of s) x e in
        let apart : index_of t ≢ index_of s = λ p. elsewhere (ap name_of (sym (same_special t s p)) ∙ sym (name_of_named x t is)) in
        get_or-set_other values (index_of s) (index_of t) v Nothing apart ∙ sym (unchanged (value_of (special_pairs values)) (name_of s) v x elsewhere ∙ value_of-special values x t is)

    by : (r : Option Special) → special_named x ≡ r → value_of (special_pairs (set values (index_of s) v)) x ≡ with_value (value_of (special_pairs values)) (name_of s) v x
    by None is =
        let elsewhere : name_of s ≡ x → ⊥ = λ e. none_or_some (sym is ∙ ap special_named (sym e) ∙ special_named-name_of s) in
        value_of-other (set values (index_of s) v) x is ∙ sym (unchanged (value_of (special_pairs values)) (name_of s) v x elsewhere ∙ value_of-other values x is)
    by (Some t) is = value_of-special (set values (index_of s) v) x t is ∙ by_name t is (bytes_eq (name_of s) x) refl

-- NR and FNR take values
pub value_of-set_counts : (values : List Value) (m n : Value) → length values ≡ 13 → (x : List ℕ) → value_of (special_pairs (set (set values (index_of Nr) m) (index_of Fnr) n)) x ≡ with_value (with_value (value_of (special_pairs values)) (name_of Nr) m) (name_of Fnr) n x
value_of-set_counts values m n len x =
    value_of-set_special (set values (index_of Nr) m) Fnr n (length-set values (index_of Nr) m ∙ len) x
    ∙ ap (λ (r : Value). if bytes_eq (name_of Fnr) x then n else r) (value_of-set_special values Nr m len x)
