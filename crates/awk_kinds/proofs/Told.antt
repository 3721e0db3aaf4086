-- What is told against a program, as the code finds it.
use Rattle.std.proofs.Common.{◌≡◌, ℕ, nat_lt, Bool, true, false, ◌&&◌, ◌||◌, not, List, [], ◌∷◌, ◌++◌, length, map, Option, Some, None, is_some, slice_get, unwrap_or, bytes_eq, if◌then◌else◌, refl, sym, ap, ◌∙◌}
use Rattle.std.specs.List.{list_any}
use Rattle.std.proofs.Math.Bool.{or-false, and-false, and-true}
use Rattle.std.proofs.lemmas.List.Folds.{list_any-append}
use Rattle.awk_kinds.specs.definitions.Names.{has_name}
use Rattle.awk_lex.specs.Words.{is_left_out}
use Rattle.awk_grammar.specs.Tree.{Item, Function}
use Rattle.awk_kinds.specs.declared.variable.Variable.{Variable}
use Rattle.awk_kinds.specs.declared.variable.Variable.TheVariants.{Global, Parameter}
use Rattle.awk_kinds.specs.declared.uses.ArrayUse.{ArrayUse}
use Rattle.awk_kinds.specs.declared.uses.ArrayUse.TheVariants.{Used, Passed}
use Rattle.awk_kinds.specs.declared.uses.NameUse.{NameUse}
use Rattle.awk_kinds.specs.declared.uses.NameUse.TheVariants.{AsScalar, Measured, Called, Computed, NoArray}
use Rattle.awk_kinds.specs.declared.functions.Functions.{Functions}
use Rattle.awk_kinds.specs.declared.arrays.Arrays.{Arrays}
use Rattle.awk_kinds.specs.definitions.SpecialNames.{special_scalars}
use Rattle.awk_kinds.specs.definitions.Kinds.{Definition, parameters_of, definitions_by, function_names_of, arrays_of, is_member, is_parameter_among}
use Rattle.awk_kinds.specs.definitions.Kinds.{in_array_use}
use Rattle.awk_kinds.specs.definitions.Fits.{has_repeat, is_special, is_function, is_unknown_call, is_overfull_call, has_refused_parameter, scalars_among, variables_among, is_function_name, passed_by_value, all_passed_by_value, lacks_array}
use Rattle.awk_kinds.specs.support.Functions.{signature_of, names_defined, found, parameter_at, HoldsFunctions}
use Rattle.awk_kinds.specs.support.Misuses.{unknown_call, are_fewer, overfull_call, is_taken, refused_item, function_variable, any_array, any_scalar, any_named, any_variable}
use Rattle.awk_kinds.specs.support.Arrays.{is_marked}
use Rattle.awk_kinds.specs.support.Known.{HoldsArrays}
use Rattle.awk_kinds.specs.support.Mixed as m

pub any_same : {A : Type 0} (p q : A → Bool) → ((x : A) → p x ≡ q x) → (xs : List A) → list_any p xs ≡ list_any q xs
any_same p q same [] = refl
any_same p q same (x ∷ xs) = ap (λ b. b || list_any p xs) (same x) ∙ ap (λ b. q x || b) (any_same p q same xs)

pub any_map : {A B : Type 0} (f : A → B) (p : B → Bool) (xs : List A) → list_any p (map f xs) ≡ list_any (λ x. p (f x)) xs
any_map f p [] = refl
any_map f p (x ∷ xs) = ap (λ b. p (f x) || b) (any_map f p xs)

-- functions

names_by : (arrays : List Variable) (items : List Item) → map (λ (d : Definition). d.name) (definitions_by arrays items) ≡ names_defined items
names_by arrays [] = refl
names_by arrays (Function f ps block ∷ xs) = ap (λ l. f ∷ l) (names_by arrays xs)
names_by arrays (x ∷ xs) = names_by arrays xs

pub names_are : (items : List Item) → function_names_of items ≡ names_defined items
names_are items = names_by (arrays_of items) items

some_or : (b : Bool) (ps : List (List ℕ)) (r : Option (List (List ℕ))) (c : Bool) → c ≡ is_some r → (b || c) ≡ is_some (if b then Some ps else r)
some_or true ps r c e = refl
some_or false ps r c e = e

is_defined : (items : List Item) (x : List ℕ) → has_name (names_defined items) x ≡ is_some (signature_of items x)
is_defined [] x = refl
is_defined (Function f ps block ∷ xs) x = some_or (bytes_eq x f) ps (signature_of xs x) (has_name (names_defined xs) x) (is_defined xs x)
is_defined (y ∷ xs) x = is_defined xs x

first_parameters : (b : Bool) (ps qs : List (List ℕ)) (r : Option (List (List ℕ))) → qs ≡ unwrap_or r [] → (if b then ps else qs) ≡ unwrap_or (if b then Some ps else r) []
first_parameters true ps qs r e = refl
first_parameters false ps qs r e = e

pub parameters_are : (items : List Item) (f : List ℕ) → parameters_of items f ≡ unwrap_or (signature_of items f) []
parameters_are [] f = refl
parameters_are (Function g ps block ∷ xs) f = first_parameters (bytes_eq f g) ps (parameters_of xs f) (signature_of xs f) (parameters_are xs f)
parameters_are (y ∷ xs) f = parameters_are xs f

place_in : (r : Option (List (List ℕ))) (n : ℕ) → slice_get (unwrap_or r []) n ≡ parameter_at r n
place_in None n = refl
place_in (Some ps) n = refl

-- variables that are used

scalars_any : (P : Variable → Bool) (ns : List NameUse) → list_any P (scalars_among ns) ≡ any_scalar P ns
scalars_any P [] = refl
scalars_any P (AsScalar v ∷ ns) = ap (λ b. P v || b) (scalars_any P ns)
scalars_any P (Measured v ∷ ns) = scalars_any P ns
scalars_any P (Called f n ∷ ns) = scalars_any P ns
scalars_any P (Computed f n ∷ ns) = scalars_any P ns
scalars_any P (NoArray ∷ ns) = scalars_any P ns

named_any : (P : Variable → Bool) (ns : List NameUse) → list_any P (variables_among ns) ≡ any_named P ns
named_any P [] = refl
named_any P (AsScalar v ∷ ns) = ap (λ b. P v || b) (named_any P ns)
named_any P (Measured v ∷ ns) = ap (λ b. P v || b) (named_any P ns)
named_any P (Called f n ∷ ns) = named_any P ns
named_any P (Computed f n ∷ ns) = named_any P ns
named_any P (NoArray ∷ ns) = named_any P ns

pub variables_any : (P : Variable → Bool) (us : List ArrayUse) (ns : List NameUse) → list_any P (map in_array_use us ++ variables_among ns) ≡ any_variable P us ns
variables_any P us ns =
    list_any-append P (map in_array_use us) (variables_among ns)
    ∙ ap (λ b. b || list_any P (variables_among ns)) (any_map in_array_use P us)
    ∙ ap (λ b. any_array P us || b) (named_any P ns)

module _ (items : List Item) (functions : Functions) (h : HoldsFunctions items functions) where
  pub function_is : (x : List ℕ) → is_function items x ≡ is_some (found functions x)
  function_is x = ap (λ l. has_name l x) (names_are items) ∙ is_defined items x ∙ ap is_some (sym (h.first x))

  pub parameter_is : (f : List ℕ) (n : ℕ) → slice_get (parameters_of items f) n ≡ parameter_at (found functions f) n
  parameter_is f n = ap (λ l. slice_get l n) (parameters_are items f) ∙ place_in (signature_of items f) n ∙ ap (λ r. parameter_at r n) (sym (h.first f))

  unknown_is : (u : NameUse) → is_unknown_call items u ≡ unknown_call functions u
  unknown_is (Called f n) = ap (λ b. not b && not (is_left_out f)) (function_is f)
  unknown_is u = refl

  fewer : (r : Option (List (List ℕ))) (n : ℕ) → (is_some r && nat_lt (length (unwrap_or r [])) n) ≡ are_fewer r n
  fewer None n = refl
  fewer (Some ps) n = refl

  overfull_is : (u : NameUse) → is_overfull_call items u ≡ overfull_call functions u
  overfull_is (Called f n) =
      ap (λ b. b && nat_lt (length (parameters_of items f)) n) (function_is f)
      ∙ ap (λ ps. is_some (found functions f) && nat_lt (length ps) n) (parameters_are items f ∙ ap (λ r. unwrap_or r []) (sym (h.first f)))
      ∙ fewer (found functions f) n
  overfull_is u = refl

  refused_is : (x : Item) → has_refused_parameter items x ≡ refused_item functions x
  refused_is (Function f ps block) = ap (λ b. has_repeat ps || b) (any_same (λ x. is_function items x || is_special x) (is_taken functions) (λ x. ap (λ b. b || is_special x) (function_is x)) ps)
  refused_is x = refl

  pub function_name_is : (v : Variable) → is_function_name items v ≡ function_variable functions v
  function_name_is (Global x) = function_is x
  function_name_is (Parameter f x) = refl

  pub unknown_any : (ns : List NameUse) → list_any (is_unknown_call items) ns ≡ list_any (unknown_call functions) ns
  unknown_any ns = any_same (is_unknown_call items) (unknown_call functions) unknown_is ns

  pub overfull_any : (ns : List NameUse) → list_any (is_overfull_call items) ns ≡ list_any (overfull_call functions) ns
  overfull_any ns = any_same (is_overfull_call items) (overfull_call functions) overfull_is ns

  pub refused_any : (xs : List Item) → list_any (has_refused_parameter items) xs ≡ list_any (refused_item functions) xs
  refused_any xs = any_same (has_refused_parameter items) (refused_item functions) refused_is xs

  pub repeat_is : has_repeat (function_names_of items) ≡ has_repeat functions.names.items
  repeat_is = ap has_repeat (names_are items ∙ sym h.names)

  pub special_any : list_any is_special (function_names_of items) ≡ list_any is_special functions.names.items
  special_any = ap (list_any is_special) (names_are items ∙ sym h.names)

  pub function_names_any : (us : List ArrayUse) (ns : List NameUse) → list_any (is_function_name items) (map in_array_use us ++ variables_among ns) ≡ any_variable (function_variable functions) us ns
  function_names_any us ns = any_same (is_function_name items) (function_variable functions) function_name_is (map in_array_use us ++ variables_among ns) ∙ variables_any (function_variable functions) us ns

  module _ (arrays : Arrays) (k : HoldsArrays items arrays) where
    among_is : (f : List ℕ) (r : Option (List ℕ)) → is_parameter_among (arrays_of items) f r ≡ m.is_marked_at arrays f r
    among_is f None = refl
    among_is f (Some x) = sym (k.marked (Parameter f x))

    wanted_is : (f : List ℕ) (n : ℕ) → is_parameter_among (arrays_of items) f (slice_get (parameters_of items f) n) ≡ m.is_marked_parameter functions arrays f n
    wanted_is f n = among_is f (slice_get (parameters_of items f) n) ∙ ap (m.is_marked_at arrays f) (parameter_is f n)

    lacks_is : (u : NameUse) → lacks_array items (arrays_of items) u ≡ m.lacks_array functions arrays u
    lacks_is (Computed f n) = wanted_is f n
    lacks_is NoArray = refl
    lacks_is (AsScalar v) = refl
    lacks_is (Measured v) = refl
    lacks_is (Called f n) = refl

    by_value : (P : Variable → Bool) (v : Variable) (b : Bool) → list_any P (if b then [] else v ∷ []) ≡ (P v && not b)
    by_value P v true = sym (and-false (P v))
    by_value P v false = or-false (P v) ∙ sym (and-true (P v))

    passed_any : (us : List ArrayUse) → list_any (is_marked arrays) (all_passed_by_value items (arrays_of items) us) ≡ list_any (m.passes_marked functions arrays) us
    passed_any [] = refl
    passed_any (Used v ∷ us) = passed_any us
    passed_any (Passed v f n ∷ us) =
        list_any-append (is_marked arrays) (passed_by_value items (arrays_of items) (Passed v f n)) (all_passed_by_value items (arrays_of items) us)
        ∙ ap (λ b. b || list_any (is_marked arrays) (all_passed_by_value items (arrays_of items) us)) (by_value (is_marked arrays) v (is_parameter_among (arrays_of items) f (slice_get (parameters_of items f) n)) ∙ ap (λ b. is_marked arrays v && not b) (wanted_is f n))
        ∙ ap (λ b. m.passes_marked functions arrays (Passed v f n) || b) (passed_any us)

    regroup : (a b c d : Bool) → ((a || (b || c)) || d) ≡ (a || (b || (c || d)))
    regroup true b c d = refl
    regroup false true c d = refl
    regroup false false c d = refl

    pub mixes_is : (us : List ArrayUse) (ns : List NameUse) → (list_any (is_member (arrays_of items)) (map (λ x. Global x) special_scalars ++ (scalars_among ns ++ all_passed_by_value items (arrays_of items) us)) || list_any (lacks_array items (arrays_of items)) ns) ≡ m.mixes functions arrays us ns
    mixes_is us ns =
        let M = is_marked arrays in
        let passed = all_passed_by_value items (arrays_of items) us in
        ap (λ b. b || list_any (lacks_array items (arrays_of items)) ns)
        (any_same (is_member (arrays_of items)) M (λ v. sym (k.marked v)) (map (λ x. Global x) special_scalars ++ (scalars_among ns ++ passed))
        ∙ list_any-append M (map (λ x. Global x) special_scalars) (scalars_among ns ++ passed)
        ∙ ap (λ b. b || list_any M (scalars_among ns ++ passed)) (any_map (λ x. Global x) M special_scalars)
        ∙ ap (λ b. list_any (m.is_marked_global arrays) special_scalars || b) (list_any-append M (scalars_among ns) passed)
        ∙ ap (λ b. list_any (m.is_marked_global arrays) special_scalars || (b || list_any M passed)) (scalars_any M ns)
        ∙ ap (λ b. list_any (m.is_marked_global arrays) special_scalars || (any_scalar M ns || b)) (passed_any us))
        ∙ ap (λ b. (list_any (m.is_marked_global arrays) special_scalars || (any_scalar M ns || list_any (m.passes_marked functions arrays) us)) || b) (any_same (lacks_array items (arrays_of items)) (m.lacks_array functions arrays) lacks_is ns)
        ∙ regroup (list_any (m.is_marked_global arrays) special_scalars) (any_scalar M ns) (list_any (m.passes_marked functions arrays) us) (list_any (m.lacks_array functions arrays) ns)
