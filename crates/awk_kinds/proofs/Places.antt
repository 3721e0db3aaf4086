-- The place of a name among keys.
use Rattle.std.proofs.Common.{◌≡◌, ℕ, suc, ◌+◌, ◌<◌, Bool, true, false, not, List, [], ◌∷◌, ◌++◌, length, map, Option, Some, None, nat_lt, cond, bytes_eq, position, if◌then◌else◌, refl, sym, ap, ◌∙◌, arith}
use Rattle.std.specs.Global.{Vec}
use Rattle.std.specs.Option.{option_map}
use Rattle.std.specs.List.{list_any, position_or_len}
use Rattle.std.proofs.lemmas.Bool.{lt-ltb}
use Rattle.std.proofs.lemmas.Bool.Decides.{nat_tests}
use Rattle.std.proofs.lemmas.List.{map-append}
use Rattle.indexmap.specs.IndexSet.{insert_key}
use Rattle.awk_kinds.specs.definitions.Names.{with_name}
use Rattle.awk_kinds.specs.definitions.Signatures.{place_of}
use Rattle.awk_kinds.proofs.Told.{any_map}

same_order : (n l : ℕ) → nat_lt (1 + n) (suc l) ≡ nat_lt n l
same_order n l = grind (arith, nat_tests)

one_more : (b : Bool) (n : ℕ) → cond b (Some (1 + n)) None ≡ option_map suc (cond b (Some n) None)
one_more true n = let e : 1 + n ≡ suc n = omega arith in ap Some e
one_more false n = refl

step : (n l : ℕ) → cond (nat_lt (1 + n) (suc l)) (Some (1 + n)) None ≡ option_map suc (cond (nat_lt n l) (Some n) None)
step n l = ap (λ b. cond b (Some (1 + n)) None) (same_order n l) ∙ one_more (nat_lt n l) n

first : (l : ℕ) → cond {A = Option ℕ} (nat_lt 0 (suc l)) (Some 0) None ≡ Some 0
first l = let h : 0 < suc l = omega arith in ap (λ b. cond {A = Option ℕ} b (Some 0) None) (lt-ltb 0 (suc l) h)

by_first : (b : Bool) (n l : ℕ) (rest : Option ℕ) → cond (nat_lt n l) (Some n) None ≡ rest → cond (nat_lt (cond (not b) (1 + n) 0) (suc l)) (Some (cond (not b) (1 + n) 0)) None ≡ (if b then Some 0 else option_map suc rest)
by_first true n l rest e = first l
by_first false n l rest e = step n l ∙ ap (option_map suc) e

pub position_place : (x : List ℕ) (ks : List (Vec ℕ)) → position (λ (k : Vec ℕ). bytes_eq x k.items) ks ≡ place_of (map (λ (k : Vec ℕ). k.items) ks) x
position_place x [] = refl
position_place x (k ∷ ks) = by_first (bytes_eq x k.items) (position_or_len (λ (l : Vec ℕ). bytes_eq x l.items) ks) (length ks) (place_of (map (λ (l : Vec ℕ). l.items) ks) x) (position_place x ks)

-- a new key is a new name
pub key_added : (ks : List (Vec ℕ)) (k : Vec ℕ) (name : List ℕ) → k.items ≡ name → list_any (λ (l : Vec ℕ). bytes_eq name l.items) ks ≡ false → map (λ (l : Vec ℕ). l.items) (insert_key (λ (k l : Vec ℕ). bytes_eq k.items l.items) ks k) ≡ with_name (map (λ (l : Vec ℕ). l.items) ks) name
key_added ks k name is absent =
    let I = λ (l : Vec ℕ). l.items in
    let new : list_any (λ (l : Vec ℕ). bytes_eq k.items l.items) ks ≡ false = ap (λ n. list_any (λ (l : Vec ℕ). bytes_eq n l.items) ks) is ∙ absent in
    ap (λ b. map I (if b then ks else ks ++ k ∷ [])) new ∙ map-append I ks (k ∷ []) ∙ ap (λ n. map I ks ++ n ∷ []) is
    ∙ sym (ap (λ b. if b then map I ks else map I ks ++ name ∷ []) (any_map I (bytes_eq name) ks ∙ absent))

pub name_there : (ks : List (Vec ℕ)) (name : List ℕ) → list_any (λ (l : Vec ℕ). bytes_eq name l.items) ks ≡ true → map (λ (l : Vec ℕ). l.items) ks ≡ with_name (map (λ (l : Vec ℕ). l.items) ks) name
name_there ks name there = sym (ap (λ b. if b then map (λ (l : Vec ℕ). l.items) ks else map (λ (l : Vec ℕ). l.items) ks ++ name ∷ []) (any_map (λ (l : Vec ℕ). l.items) (bytes_eq name) ks ∙ there))
