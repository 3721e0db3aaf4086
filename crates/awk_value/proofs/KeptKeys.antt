-- What a map of other hashes holds that was given all keys of another one.
use Rattle.std.proofs.Common.{◌≡◌, Bool, false, List, [], ◌∷◌, ◌++◌, refl, sym, ◌∙◌, ap, subst, append-nil, append_assoc}
use Rattle.std.specs.Map.{keys_of}
use Rattle.std.specs.List.{IsDistinct, AllByRecursion}
use Rattle.std.specs.Cmp.{IsEquivalence}
use Rattle.std.proofs.lemmas.Bool.{cond-false}
use Rattle.std.proofs.lemmas.Map.Keys.{IsDistinct-head, IsDistinct-tail}
use Rattle.indexmap.specs.IndexMap.{insert_entry, insert_all}

at_middle : {K V : Type 0} (P : K → Type 0) (es xs : List (K × V)) (x : K × V) → AllByRecursion P (keys_of (es ++ x ∷ xs)) → P x.0
at_middle P [] xs x h = h.0
at_middle P (e ∷ es) xs x h = at_middle P es xs x h.1

inserted_last : {K V : Type 0} {eq : K → K → Bool} → IsEquivalence eq → (es xs : List (K × V)) (x : K × V) → IsDistinct eq (keys_of (es ++ x ∷ xs)) → insert_entry eq es x.0 x.1 ≡ es ++ x ∷ []
inserted_last laws [] xs x distinct = refl
inserted_last {eq = eq} laws (e ∷ es) xs x distinct =
    let other : eq x.0 e.0 ≡ false = laws.symm x.0 e.0 ∙ at_middle (λ y. eq e.0 y ≡ false) es xs x (IsDistinct-head eq e.0 (keys_of (es ++ x ∷ xs)) distinct) in
    cond-false _ _ _ other ∙ ap (λ l. e ∷ l) (inserted_last laws es xs x (IsDistinct-tail eq e.0 (keys_of (es ++ x ∷ xs)) distinct))

inserted_all : {K V : Type 0} {eq : K → K → Bool} → IsEquivalence eq → (es xs : List (K × V)) → IsDistinct eq (keys_of (es ++ xs)) → insert_all eq es xs ≡ es ++ xs
inserted_all laws es [] distinct = sym (append-nil es)
inserted_all {eq = eq} laws es (x ∷ xs) distinct =
    let longer = append_assoc es (x ∷ []) xs in
    ap (λ l. insert_all eq l xs) (inserted_last laws es xs x distinct) ∙ (inserted_all laws (es ++ x ∷ []) xs (subst (λ l. IsDistinct eq (keys_of l)) (sym longer) distinct) ∙ longer)

-- an empty map that gets all entries of one holds what that one held
pub kept_keys : {K V : Type 0} {eq : K → K → Bool} → IsEquivalence eq → (none es new : List (K × V)) → none ≡ [] → IsDistinct eq (keys_of es) → new ≡ insert_all eq none es → new ≡ es
kept_keys {eq = eq} laws none es new empty distinct all = all ∙ (ap (λ l. insert_all eq l es) empty ∙ inserted_all laws [] es distinct)
