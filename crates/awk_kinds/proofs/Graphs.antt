-- What a closed set of variables is asked, as a graph grows.
use Rattle.std.proofs.Common.{◌≡◌, inl, inr, ℕ, ◌+◌, ◌<◌, Bool, true, false, List, [], ◌∷◌, ◌++◌, length, get_or, slice_get, Some, None, if◌then◌else◌, refl, sym, ap, subst, ◌∙◌, arith, append_assoc, length-append, take, map, Bor}
use Rattle.std.specs.List.{list_any, Contains}
use Rattle.std.proofs.lemmas.List.{append-nil, get_or_append_left, take_more, map-append}
use Rattle.std.proofs.lemmas.List.Elements.{Contains-push, Contains-push_cases, Contains-append_left}
use Rattle.std.proofs.lemmas.Option.{get_or_from_slice_get}
use Rattle.indexmap.specs.IndexSet.{insert_key}
use Rattle.awk_kinds.specs.declared.special.OwnVariable.{OwnVariable}
use Rattle.awk_kinds.specs.declared.variable.Variable.{Variable}
use Rattle.awk_kinds.specs.declared.variable.Variable.TheVariants.{Global, Parameter}
use Rattle.awk_kinds.specs.declared.uses.ArrayUse.{ArrayUse}
use Rattle.awk_kinds.specs.declared.uses.ArrayUse.TheVariants.{Passed}
use Rattle.awk_kinds.specs.declared.functions.Functions.{Functions}
use Rattle.awk_kinds.specs.declared.graph.Graph.{Graph}
use Rattle.awk_kinds.specs.definitions.Kinds.{same_variable}
use Rattle.awk_kinds.specs.support.SameVariable.{same_is}
use Rattle.awk_kinds.specs.support.Functions.{found, parameter_at}
use Rattle.awk_kinds.specs.support.Graph.{variable_at, IsClosedUnder, IsClosedAlong, Numbers, Asks, AddsFirst, AddsEdge, AddsUse, FollowsUses, global_use}

-- a number

pub key_grows : (ks : List Variable) (v : Variable) → (more : List Variable) × (insert_key same_variable ks v ≡ ks ++ more)
key_grows ks v = by (list_any (same_variable v) ks)
  where
    by : (b : Bool) → (more : List Variable) × ((if b then ks else ks ++ v ∷ []) ≡ ks ++ more)
    by true = ([], sym (append-nil ks))
    by false = (v ∷ [], refl)

pub key_at : (ks : List Variable) (n : ℕ) (v k : Variable) → slice_get ks n ≡ Some k → same_variable v k ≡ true → variable_at ks n ≡ v
key_at ks n v k at same = get_or_from_slice_get ks n k (Global []) at ∙ sym (same_is v k same)

-- variables keep their numbers

module _ (P : Variable → Bool) (vs ws more : List Variable) (ns : List ℕ) (es : List (ℕ × ℕ)) (grows : ws ≡ vs ++ more)
    (low : (v : ℕ) → Contains ns v → v < length vs) (within : (v w : ℕ) → Contains es (v, w) → (v < length vs) × (w < length vs)) where
  kept : (k : ℕ) → k < length vs → variable_at ws k ≡ variable_at vs k
  kept k h = ap (λ xs. variable_at xs k) grows ∙ get_or_append_left vs more (Global []) k h

  pub stretched : IsClosedAlong P vs ns es → IsClosedAlong P ws ns es
  stretched c = record {
    first = λ v h. ap P (kept v (low v h)) ∙ c.first v h;
    along = λ v w h e. ap P (kept v (within v w h).0) ∙ c.along v w h (ap P (sym (kept w (within v w h).1)) ∙ e);
  }

  pub shrunk : IsClosedAlong P ws ns es → IsClosedAlong P vs ns es
  shrunk c = record {
    first = λ v h. ap P (sym (kept v (low v h))) ∙ c.first v h;
    along = λ v w h e. ap P (sym (kept v (within v w h).0)) ∙ c.along v w h (ap P (kept w (within v w h).1) ∙ e);
  }

module _ (P : Variable → Bool) (vs : List Variable) (ns : List ℕ) (es : List (ℕ × ℕ)) where
  first_before : (n : ℕ) → IsClosedAlong P vs (ns ++ n ∷ []) es → IsClosedAlong P vs ns es
  first_before n c = record { first = λ v h. c.first v (Contains-append_left ns (n ∷ []) v h); along = c.along }

  first_both : (n : ℕ) → IsClosedAlong P vs ns es → P (variable_at vs n) ≡ true → IsClosedAlong P vs (ns ++ n ∷ []) es
  first_both n c e = record {
    first = λ v h. elim (Contains-push_cases ns n v h) [ inl old ↦ c.first v old | inr is ↦ subst (λ k. P (variable_at vs k) ≡ true) is e ];
    along = c.along;
  }

  edge_before : (n m : ℕ) → IsClosedAlong P vs ns (es ++ (n, m) ∷ []) → IsClosedAlong P vs ns es
  edge_before n m c = record { first = c.first; along = λ v w h. c.along v w (Contains-append_left es ((n, m) ∷ []) (v, w) h) }

  edge_both : (n m : ℕ) → IsClosedAlong P vs ns es → (P (variable_at vs m) ≡ true → P (variable_at vs n) ≡ true) → IsClosedAlong P vs ns (es ++ (n, m) ∷ [])
  edge_both n m c e = record {
    first = c.first;
    along = λ v w h. elim (Contains-push_cases es (n, m) (v, w) h) [
      | inl old ↦ c.along v w old
      | inr is ↦ subst (λ (p : ℕ × ℕ). P (variable_at vs p.1) ≡ true → P (variable_at vs p.0) ≡ true) is e
    ];
  }

longer : (vs ws : List Variable) → (more : List Variable) × (ws ≡ vs ++ more) → (k : ℕ) → k < length vs → k < length ws
longer vs ws g k h = omega (arith, ap length g.1, length-append vs g.0, h)

pub first_added : {old new : Graph} {n : ℕ} {v : Variable} → (more : List Variable) × (new.variables.keys ≡ old.variables.keys ++ more) → new.first.items ≡ old.first.items ++ n ∷ [] → new.edges.items ≡ old.edges.items → n < length new.variables.keys → variable_at new.variables.keys n ≡ v → AddsFirst old new v
first_added {old} {new} {n} {v} grows first edges low is = record {
  numbers = λ h. record {
    first = λ k c. elim (Contains-push_cases old.first.items n k (subst (λ xs. Contains xs k) first c)) [
      | inl o ↦ longer old.variables.keys new.variables.keys grows k (h.first k o)
      | inr e ↦ subst (λ j. j < length new.variables.keys) e low
    ];
    edges = λ k j c. (let o = h.edges k j (subst (λ xs. Contains xs (k, j)) edges c) in (longer old.variables.keys new.variables.keys grows k o.0, longer old.variables.keys new.variables.keys grows j o.1));
  };
  before = λ h P c. shrunk P old.variables.keys new.variables.keys grows.0 old.first.items old.edges.items grows.1 h.first h.edges
      (first_before P new.variables.keys old.first.items old.edges.items n (subst (λ es. IsClosedAlong P new.variables.keys (old.first.items ++ n ∷ []) es) edges (subst (λ ns. IsClosedAlong P new.variables.keys ns new.edges.items) first c)));
  more = λ h P c. ap P (sym is) ∙ c.first n (subst (λ ns. Contains ns n) (sym first) (Contains-push old.first.items n));
  both = λ h P c e. subst (λ ns. IsClosedAlong P new.variables.keys ns new.edges.items) (sym first) (subst (λ es. IsClosedAlong P new.variables.keys (old.first.items ++ n ∷ []) es) (sym edges)
      (first_both P new.variables.keys old.first.items old.edges.items n (stretched P old.variables.keys new.variables.keys grows.0 old.first.items old.edges.items grows.1 h.first h.edges c) (ap P is ∙ e)));
}

pub edge_added : {old new : Graph} {n m : ℕ} {v w : Variable} → (more : List Variable) × (new.variables.keys ≡ old.variables.keys ++ more) → new.first.items ≡ old.first.items → new.edges.items ≡ old.edges.items ++ (n, m) ∷ [] → n < length new.variables.keys → m < length new.variables.keys → variable_at new.variables.keys n ≡ v → variable_at new.variables.keys m ≡ w → AddsEdge old new v w
edge_added {old} {new} {n} {m} {v} {w} grows first edges low_n low_m is_n is_m = record {
  numbers = λ h. record {
    first = λ k c. longer old.variables.keys new.variables.keys grows k (h.first k (subst (λ xs. Contains xs k) first c));
    edges = λ k j c. elim (Contains-push_cases old.edges.items (n, m) (k, j) (subst (λ xs. Contains xs (k, j)) edges c)) [
      | inl o ↦ (longer old.variables.keys new.variables.keys grows k (h.edges k j o).0, longer old.variables.keys new.variables.keys grows j (h.edges k j o).1)
      | inr e ↦ subst (λ (p : ℕ × ℕ). (p.0 < length new.variables.keys) × (p.1 < length new.variables.keys)) e (low_n, low_m)
    ];
  };
  before = λ h P c. shrunk P old.variables.keys new.variables.keys grows.0 old.first.items old.edges.items grows.1 h.first h.edges
      (edge_before P new.variables.keys old.first.items old.edges.items n m (subst (λ es. IsClosedAlong P new.variables.keys old.first.items es) edges (subst (λ ns. IsClosedAlong P new.variables.keys ns new.edges.items) first c)));
  more = λ h P c e. ap P (sym is_n) ∙ c.along n m (subst (λ es. Contains es (n, m)) (sym edges) (Contains-push old.edges.items (n, m))) (ap P is_m ∙ e);
  both = λ h P c e. subst (λ ns. IsClosedAlong P new.variables.keys ns new.edges.items) (sym first) (subst (λ es. IsClosedAlong P new.variables.keys old.first.items es) (sym edges)
      (edge_both P new.variables.keys old.first.items old.edges.items n m (stretched P old.variables.keys new.variables.keys grows.0 old.first.items old.edges.items grows.1 h.first h.edges c) (λ k. ap P is_n ∙ e (ap P (sym is_m) ∙ k))));
}

-- numbers in turn

pub first_numbered : {old mid new : Graph} {n : ℕ} {v : Variable} → Numbers old mid n v → new.variables.keys ≡ mid.variables.keys → new.first.items ≡ mid.first.items ++ n ∷ [] → new.edges.items ≡ mid.edges.items → AddsFirst old new v
first_numbered {old} {mid} {new} {n} {v} p keys first edges = first_added
    (p.grows.0, keys ∙ p.grows.1)
    (first ∙ ap (λ xs. xs.items ++ n ∷ []) p.first)
    (edges ∙ ap (λ xs. xs.items) p.edges)
    (omega (arith, p.low, ap length keys))
    (ap (λ xs. variable_at xs n) keys ∙ p.is)

pub edge_numbered : {old mid next new : Graph} {n m : ℕ} {v w : Variable} → Numbers old mid n v → Numbers mid next m w → new.variables.keys ≡ next.variables.keys → new.first.items ≡ next.first.items → new.edges.items ≡ next.edges.items ++ (n, m) ∷ [] → AddsEdge old new v w
edge_numbered {old} {mid} {next} {new} {n} {m} {v} {w} p q keys first edges = edge_added
    (p.grows.0 ++ q.grows.0, keys ∙ q.grows.1 ∙ ap (λ xs. xs ++ q.grows.0) p.grows.1 ∙ append_assoc old.variables.keys p.grows.0 q.grows.0)
    (first ∙ ap (λ xs. xs.items) q.first ∙ ap (λ xs. xs.items) p.first)
    (edges ∙ ap (λ xs. xs.items ++ (n, m) ∷ []) q.edges ∙ ap (λ xs. xs.items ++ (n, m) ∷ []) p.edges)
    (omega (arith, p.low, ap length keys, ap length q.grows.1, length-append mid.variables.keys q.grows.0))
    (omega (arith, q.low, ap length keys))
    (ap (λ xs. variable_at xs n) keys ∙ ap (λ xs. variable_at xs n) q.grows.1 ∙ get_or_append_left mid.variables.keys q.grows.0 (Global []) n p.low ∙ p.is)
    (ap (λ xs. variable_at xs m) keys ∙ q.is)

-- uses

pub nothing_asked : {g : Graph} {More : (Variable → Bool) → Type 0} → ((P : Variable → Bool) → More P) → Asks g g More
nothing_asked always = record { numbers = λ h. h; before = λ h P c. c; more = λ h P c. always P; both = λ h P c e. c }

pub asks_so : {old new : Graph} {More Other : (Variable → Bool) → Type 0} → Asks old new More → ((P : Variable → Bool) → More P → Other P) → ((P : Variable → Bool) → Other P → More P) → Asks old new Other
asks_so a to from = record { numbers = a.numbers; before = a.before; more = λ h P c. to P (a.more h P c); both = λ h P c e. a.both h P c (from P e) }

-- no parameter stands there
pub no_parameter : {g : Graph} (functions : Functions) (v : Variable) (f : List ℕ) (n : ℕ) → parameter_at (found functions f) n ≡ None → AddsUse functions g g (Passed v f n)
no_parameter functions v f n none = nothing_asked (λ P x is e. (let bad : None ≡ Some x = sym none ∙ is in cc))

pub a_parameter : {old new : Graph} (functions : Functions) (v : Variable) (f : List ℕ) (n : ℕ) (x : List ℕ) → parameter_at (found functions f) n ≡ Some x → AddsEdge old new v (Parameter f x) → AddsUse functions old new (Passed v f n)
a_parameter functions v f n x is a = asks_so a
    (λ P e y at k. (let same : y ≡ x = same_some (sym at ∙ is) in e (subst (λ z. P (Parameter f z) ≡ true) same k)))
    (λ P e. e x is)
  where
    same_some : {y z : List ℕ} → Some y ≡ Some z → y ≡ z
    same_some e = cc

pub closed-append : (functions : Functions) (P : Variable → Bool) (us vs : List ArrayUse) → IsClosedUnder functions P us → IsClosedUnder functions P vs → IsClosedUnder functions P (us ++ vs)
closed-append functions P [] vs p q = q
closed-append functions P (u ∷ us) vs p q = (p.0, closed-append functions P us vs p.1 q)

pub closed-left : (functions : Functions) (P : Variable → Bool) (us vs : List ArrayUse) → IsClosedUnder functions P (us ++ vs) → IsClosedUnder functions P us
closed-left functions P [] vs p = tt
closed-left functions P (u ∷ us) vs p = (p.0, closed-left functions P us vs p.1)

pub closed-right : (functions : Functions) (P : Variable → Bool) (us vs : List ArrayUse) → IsClosedUnder functions P (us ++ vs) → IsClosedUnder functions P vs
closed-right functions P [] vs p = p
closed-right functions P (u ∷ us) vs p = closed-right functions P us vs p.1

nothing_in : {A X : Type 0} (xs : List X) (x : X) → xs ≡ [] → Contains xs x → A
nothing_in xs x empty c = let c' : Contains [] x = subst (λ l. Contains l x) empty c in absurd (omega (arith, c'.1))

pub follows_none : (functions : Functions) (g : Graph) → g.first.items ≡ [] → g.edges.items ≡ [] → FollowsUses functions [] g
follows_none functions g first edges = record {
  numbers = record { first = λ v c. nothing_in g.first.items v first c; edges = λ v w c. nothing_in g.edges.items (v, w) edges c };
  from = λ P u. record { first = λ v c. nothing_in g.first.items v first c; along = λ v w c. nothing_in g.edges.items (v, w) edges c };
  to = λ P c. tt;
}

pub follows_one : {old new : Graph} (functions : Functions) (us : List ArrayUse) (u : ArrayUse) → FollowsUses functions us old → AddsUse functions old new u → FollowsUses functions (us ++ u ∷ []) new
follows_one functions us u f a = record {
  numbers = a.numbers f.numbers;
  from = λ P c. a.both f.numbers P (f.from P (closed-left functions P us (u ∷ []) c)) (closed-right functions P us (u ∷ []) c).0;
  to = λ P c. closed-append functions P us (u ∷ []) (f.to P (a.before f.numbers P c)) (a.more f.numbers P c, tt);
}

-- names of the whole program in turn
pub follows_name : {old new : Graph} (functions : Functions) (all : List (Bor (List ℕ) × OwnVariable)) (i : ℕ) (d : Bor (List ℕ) × OwnVariable) (x : List ℕ) → i < length all → x ≡ (get_or all i d).0.now → FollowsUses functions (map (λ (row : Bor (List ℕ) × OwnVariable). global_use row.0.now) (take i all)) old → AddsFirst old new (Global x) → FollowsUses functions (map (λ (row : Bor (List ℕ) × OwnVariable). global_use row.0.now) (take (i + 1) all)) new
follows_name {old} {new} functions all i d x low is f a =
    let F = λ (row : Bor (List ℕ) × OwnVariable). global_use row.0.now in
    let more : map F (take (i + 1) all) ≡ map F (take i all) ++ global_use x ∷ [] =
    ap (map F) (take_more all i d low) ∙ map-append F (take i all) (get_or all i d ∷ []) ∙ ap (λ y. map F (take i all) ++ global_use y ∷ []) (sym is) in
    subst (λ us. FollowsUses functions us new) (sym more) (follows_one functions (map F (take i all)) (global_use x) f a)
