-- A name stands for its parameter, or for what the whole program has under it.
use Rattle.std.proofs.Common.{◌≡◌, ℕ, zero, suc, Bool, true, false, cond, List, [], ◌∷◌, ◌++◌, ◌||◌, length, map, slice_get, slice_set, append-nil, bytes_eq, Option, Some, None, if◌then◌else◌, inl, inr, refl, sym, subst, ap, ◌∙◌}
use Rattle.std.specs.Option.{option_map}
use Rattle.std.specs.Map.{lookup, set_value}
use Rattle.std.specs.Prelude.{codes}
use Rattle.awk_value.specs.declared.value.Value.{Value}
use Rattle.awk_kinds.specs.declared.special.Special.{Special}
use Rattle.awk_kinds.specs.Variables.{name_of}
use Rattle.awk_kinds.specs.Names.{IsFront, has_name, with_name}
use Rattle.awk_kinds.proofs.Slots.{has_name-stands, stands_at}
use Rattle.awk_kinds.specs.definitions.Kinds.{FormalParameter}
use Rattle.awk_kinds.specs.definitions.Signatures.{ProgramKinds, place_of, parameter_names}
use Rattle.awk_semantics.specs.declared.local.Local.{Local}
use Rattle.awk_semantics.specs.declared.local.Local.TheVariants as local
use Rattle.awk_semantics.specs.definitions.State.{Frame, State, gives}
use Rattle.awk_semantics.specs.definitions.Primitives.{local_in, global_value, local_value, read_name, with_local, put_outside, put_by, put, number_in, local_number, is_local_array as kind_by, is_array}
use Rattle.awk_semantics.specs.support.Outside.{read_outside}
use Rattle.awk_storage.specs.declared.position.Variable.TheVariants as variable
use Rattle.awk_storage.specs.declared.position.Array.TheVariants as array
use Rattle.awk_storage.specs.support.Positions.{newest_locals, value_of_local, read_local, with_newest, with_local_at, put_local, read_slot, put_slot, number_of_local}
use Rattle.awk_resolve.specs.declared.builder.Builder.{Builder}
use Rattle.awk_resolve.specs.support.States.{is_array_local}
use Rattle.awk_resolve.specs.support.Builds.{arrays_among, IsScalar, AreScalars, AddsName, IsVariableOf, FindsVariable, IsArrayOf, IsOfKind}
use Rattle.awk_resolve.specs.support.Calls.{is_array_at}
use Rattle.awk_resolve.proofs.Building.{get_pushed, front_then, named}

abbrev Locals : Type 0
Locals = List (List ℕ × Local)

abbrev names_of : Locals → List (List ℕ)
names_of xs = map (λ (l : List ℕ × Local). l.0) xs

mapped : (o : Option ℕ) (i : ℕ) → option_map suc o ≡ Some i → (j : ℕ) × (o ≡ Some j) × (i ≡ suc j)
mapped None i e = cc
mapped (Some j) i e = (j, refl, (let h : suc j ≡ i = cc in sym h))

-- a parameter by its name and by its place
record IsFound (xs : Locals) (x : List ℕ) (i : ℕ) : Type 0 where
  here : List ℕ × Local
  at : slice_get xs i ≡ Some here
  by_name : lookup (bytes_eq x) xs ≡ Some here.1
  set : (w : Local) → set_value (bytes_eq x) xs w ≡ slice_set xs i (here.0, w)

record IsFoundBy (b : Bool) (y : List ℕ × Local) (ys : Locals) (x : List ℕ) (i : ℕ) : Type 0 where
  here : List ℕ × Local
  at : slice_get (y ∷ ys) i ≡ Some here
  by_name : cond b (Some y.1) (lookup (bytes_eq x) ys) ≡ Some here.1
  set : (w : Local) → cond b ((y.0, w) ∷ ys) (y ∷ set_value (bytes_eq x) ys w) ≡ slice_set (y ∷ ys) i (here.0, w)

found_by : (b : Bool) (y : List ℕ × Local) (ys : Locals) (x : List ℕ) (i : ℕ) → (if b then Some 0 else option_map suc (place_of (names_of ys) x)) ≡ Some i → ((j : ℕ) → place_of (names_of ys) x ≡ Some j → IsFound ys x j) → IsFoundBy b y ys x i
found_by true y ys x i e rest = let z : 0 ≡ i = cc in subst (λ k. IsFoundBy true y ys x k) z (record { here = y; at = refl; by_name = refl; set = λ w. refl })
found_by false y ys x i e rest =
    let m = mapped (place_of (names_of ys) x) i e in
    let f = rest m.0 m.1 in
    subst (λ k. IsFoundBy false y ys x k) (sym m.2) (record { here = f.here; at = f.at; by_name = f.by_name; set = λ w. ap (λ l. y ∷ l) (f.set w) })

found : (xs : Locals) (x : List ℕ) (i : ℕ) → place_of (names_of xs) x ≡ Some i → IsFound xs x i
found [] x i e = absurd (cc)
found (y ∷ ys) x i e = let f = found_by (bytes_eq x y.0) y ys x i e (λ j h. found ys x j h) in record { here = f.here; at = f.at; by_name = f.by_name; set = f.set }

none_by : (b : Bool) (y : Local) (o : Option ℕ) (l : Option Local) → (if b then Some 0 else option_map suc o) ≡ None → (o ≡ None → l ≡ None) → cond b (Some y) l ≡ None
none_by true y o l e h = cc
none_by false y None l e h = h refl
none_by false y (Some j) l e h = cc

none : (xs : Locals) (x : List ℕ) → place_of (names_of xs) x ≡ None → lookup (bytes_eq x) xs ≡ None
none [] x e = refl
none (y ∷ ys) x e = none_by (bytes_eq x y.0) y.1 (place_of (names_of ys) x) (lookup (bytes_eq x) ys) e (λ h. none ys x h)

newest : (frames : List Frame) (x : List ℕ) → local_in frames x ≡ lookup (bytes_eq x) (newest_locals frames)
newest [] x = refl
newest (frame ∷ frames) x = refl

-- the value of a parameter

same_value : (l : List ℕ × Local) (g : Value) → local_value (Some l.1) g ≡ value_of_local (Some l)
same_value (x, local.Value v) g = refl
same_value (x, local.Array n) g = refl

reads_local : (x : List ℕ) (s : State) (i : ℕ) → place_of (names_of (newest_locals s.frames)) x ≡ Some i → read_name x s ≡ read_local i s
unfolding read_name read_local
reads_local x s i e =
    let f = found (newest_locals s.frames) x i e in
    ap (λ (v : Value). gives v s)
    (ap (λ (o : Option Local). local_value o (global_value s x)) (newest s.frames x ∙ f.by_name) ∙ same_value f.here (global_value s x) ∙ ap value_of_local (sym f.at))

set_newest : (frames : List Frame) (x : List ℕ) (i : ℕ) (w : Value) (f : IsFound (newest_locals frames) x i) → with_local x w frames ≡ with_newest (slice_set (newest_locals frames) i (f.here.0, local.Value w)) frames
set_newest [] x i w f = refl
set_newest (frame ∷ frames) x i w f = ap (λ (ls : Locals). record frame { locals = ls } ∷ frames) (f.set (local.Value w))

same_put : (l : List ℕ × Local) (x : List ℕ) (i : ℕ) (w : Value) (s : State) → with_local x w s.frames ≡ with_newest (slice_set (newest_locals s.frames) i (l.0, local.Value w)) s.frames
    → put_by (Some l.1) x w s ≡ gives tt (with_local_at (Some l) i w s)
same_put (y, local.Value old) x i w s e = ap (λ (fs : List Frame). gives tt (record s { frames = fs })) e
same_put (y, local.Array n) x i w s e = refl

puts_local : (x : List ℕ) (w : Value) (s : State) (i : ℕ) → place_of (names_of (newest_locals s.frames)) x ≡ Some i → put x w s ≡ put_local i w s
unfolding put put_local
puts_local x w s i e =
    let f = found (newest_locals s.frames) x i e in
    ap (λ (o : Option Local). put_by o x w s) (newest s.frames x ∙ f.by_name)
    ∙ same_put f.here x i w s (set_newest s.frames x i w f)
    ∙ ap (λ o. gives tt (with_local_at o i w s)) (sym f.at)

-- that of a name of the whole program

reads_outside : (x : List ℕ) (s : State) → place_of (names_of (newest_locals s.frames)) x ≡ None → read_name x s ≡ read_outside x s
unfolding read_name read_outside
reads_outside x s e = ap (λ (o : Option Local). gives (local_value o (global_value s x)) s) (newest s.frames x ∙ none (newest_locals s.frames) x e)

puts_outside : (x : List ℕ) (w : Value) (s : State) → place_of (names_of (newest_locals s.frames)) x ≡ None → put x w s ≡ put_outside x w s
unfolding put
puts_outside x w s e = ap (λ (o : Option Local). put_by o x w s) (newest s.frames x ∙ none (newest_locals s.frames) x e)

-- what stands in front stays
pub front_at : {A : Type 0} (xs ys : List A) (i : ℕ) (x : A) → IsFront xs ys → slice_get xs i ≡ Some x → slice_get ys i ≡ Some x
front_at {A = A} xs ys i x f e = subst (λ l. slice_get l i ≡ Some x) (sym f.1) (stays xs f.0 i e)
  where
    stays : (zs more : List A) (j : ℕ) → slice_get zs j ≡ Some x → slice_get (zs ++ more) j ≡ Some x
    stays [] more j h = cc
    stays (z ∷ zs) more zero h = h
    stays (z ∷ zs) more (suc j) h = stays zs more j h

-- variables

module _ {kinds : ProgramKinds} {parameters : List FormalParameter} (x : List ℕ) where
  pub is_local : (b : Builder) (i : ℕ) → place_of (parameter_names parameters) x ≡ Some i → IsVariableOf kinds parameters b (variable.Local i) x
  is_local b i e = record {
    reads = λ p g n s h. reads_local x s i (ap (λ ns. place_of ns x) h.names ∙ e);
    puts = λ p g n w s h. puts_local x w s i (ap (λ ns. place_of ns x) h.names ∙ e);
  }

  module _ (b : Builder) (outside : place_of (parameter_names parameters) x ≡ None) where
    pub is_special : (special : Special) → x ≡ name_of special → IsVariableOf kinds parameters b (variable.Special special) x
    is_special special e = record {
      reads = λ p g n s h. reads_outside x s (ap (λ ns. place_of ns x) h.names ∙ outside) ∙ ap (λ y. read_outside y s) e;
      puts = λ p g n w s h. puts_outside x w s (ap (λ ns. place_of ns x) h.names ∙ outside) ∙ ap (λ y. put_outside y w s) e;
    }

    pub is_count : x ≡ codes "NF" → IsVariableOf kinds parameters b variable.FieldCount x
    is_count e = record {
      reads = λ p g n s h. reads_outside x s (ap (λ ns. place_of ns x) h.names ∙ outside) ∙ ap (λ y. read_outside y s) e;
      puts = λ p g n w s h. puts_outside x w s (ap (λ ns. place_of ns x) h.names ∙ outside) ∙ ap (λ y. put_outside y w s) e;
    }

    pub is_global : (slot : ℕ) → slice_get b.names slot ≡ Some x → IsVariableOf kinds parameters b (variable.Global slot) x
    is_global slot e = record {
      reads = λ p g n s h. reads_outside x s (ap (λ ns. place_of ns x) h.names ∙ outside) ∙ ap (λ o. read_slot o s) (sym (front_at b.names p.tables.names slot x (front_then b.names g.names p.names) e));
      puts = λ p g n w s h. puts_outside x w s (ap (λ ns. place_of ns x) h.names ∙ outside) ∙ ap (λ o. put_slot o w s) (sym (front_at b.names p.tables.names slot x (front_then b.names g.names p.names) e));
    }

-- a scalar that gets a slot

no_slot : (names : List (List ℕ)) (i : ℕ) (x : List ℕ) → has_name names x ≡ false → slice_get names i ≡ Some x → ⊥
no_slot names i x e h = let y : has_name names x ≡ true = has_name-stands names i x h in cc

scalars_with : (names : List (List ℕ)) (x : List ℕ) → IsScalar x → AreScalars names → AreScalars (with_name names x)
scalars_with names x is all = by (has_name names x) refl
  where
    by : (b : Bool) → has_name names x ≡ b → AreScalars (if b then names else names ++ x ∷ [])
    by true e = all
    by false e = record {
      each = λ i y h. elim (get_pushed names x i y h) [ inl f ↦ all.each i y f | inr f ↦ subst IsScalar (sym f.1) is ];
      distinct = λ i j y h k. elim (get_pushed names x i y h) [
        | inl f ↦ elim (get_pushed names x j y k) [ inl g ↦ all.distinct i j y f g | inr g ↦ absurd (no_slot names i x e (subst (λ z. slice_get names i ≡ Some z) g.1 f)) ]
        | inr f ↦ elim (get_pushed names x j y k) [ inl g ↦ absurd (no_slot names j x e (subst (λ z. slice_get names j ≡ Some z) f.1 g)) | inr g ↦ f.0 ∙ sym g.0 ]
      ];
    }

pub finds_global : {kinds : ProgramKinds} {parameters : List FormalParameter} {a b : Builder} {slot : ℕ} {x : List ℕ} → AddsName a b slot x → place_of (parameter_names parameters) x ≡ None → IsScalar x → FindsVariable kinds parameters a b (variable.Global slot) x
finds_global {a = a} {b = b} {slot = slot} {x = x} adds outside is = record {
  extends = named adds.nodes adds.heads adds.numbers.grows ([], ap (λ (v : _). v.items) adds.eres ∙ sym (append-nil a.eres.items)) adds.functions (λ h. subst AreScalars (sym adds.names) (scalars_with a.names x is h));
  is = is_global x b outside slot adds.numbers.stands;
}

-- arrays

same_number : (l : List ℕ × Local) (g : ℕ) → local_number (Some l.1) g ≡ number_of_local (Some l)
same_number (x, local.Value v) g = refl
same_number (x, local.Array n) g = refl

number_found : (names : List (List ℕ)) (x : List ℕ) (n : ℕ) → place_of names x ≡ Some n → number_in names x ≡ n
number_found [] x n e = absurd (cc)
number_found (y ∷ ys) x n e = by (bytes_eq x y) n (λ m h. number_found ys x m h) e
  where
    by : (b : Bool) (m : ℕ) → ((k : ℕ) → place_of ys x ≡ Some k → number_in ys x ≡ k) → (if b then Some 0 else option_map suc (place_of ys x)) ≡ Some m → (if b then 0 else suc (number_in ys x)) ≡ m
    by true m later h = cc
    by false m later h = let f = mapped (place_of ys x) m h in ap suc (later f.0 f.1) ∙ sym f.2

number_beyond : (names : List (List ℕ)) (x : List ℕ) → place_of names x ≡ None → number_in names x ≡ length names
number_beyond [] x e = refl
number_beyond (y ∷ ys) x e = by (bytes_eq x y) (place_of ys x) e (λ h. number_beyond ys x h)
  where
    by : (b : Bool) (o : Option ℕ) → (if b then Some 0 else option_map suc o) ≡ None → (o ≡ None → number_in ys x ≡ length ys) → (if b then 0 else suc (number_in ys x)) ≡ suc (length ys)
    by true o h k = cc
    by false None h k = ap suc (k refl)
    by false (Some j) h k = cc

module _ {kinds : ProgramKinds} {parameters : List FormalParameter} (x : List ℕ) where
  pub is_local_array : (i : ℕ) → place_of (parameter_names parameters) x ≡ Some i → IsArrayOf kinds parameters (array.Local i) x
  is_local_array i e = record {
    is = λ p n s h.
        let f = found (newest_locals s.frames) x i (ap (λ ns. place_of ns x) h.names ∙ e) in
        ap (λ (o : Option Local). local_number o (number_in s.array_names x)) (newest s.frames x ∙ f.by_name) ∙ same_number f.here (number_in s.array_names x) ∙ ap number_of_local (sym f.at);
  }

  is_outside : (m : ℕ) → place_of (parameter_names parameters) x ≡ None → number_in kinds.arrays x ≡ m → IsArrayOf kinds parameters (array.Global m) x
  is_outside m outside e = record {
    is = λ p n s h.
        ap (λ (o : Option Local). local_number o (number_in s.array_names x)) (newest s.frames x ∙ none (newest_locals s.frames) x (ap (λ ns. place_of ns x) h.names ∙ outside))
        ∙ ap (λ names. number_in names x) (h.arrays ∙ p.arrays) ∙ e;
  }

  pub is_global_array : (m : ℕ) → place_of (parameter_names parameters) x ≡ None → place_of kinds.arrays x ≡ Some m → IsArrayOf kinds parameters (array.Global m) x
  is_global_array m outside e = is_outside m outside (number_found kinds.arrays x m e)

  -- a name that is no array of the program
  pub is_no_array : (m : ℕ) → place_of (parameter_names parameters) x ≡ None → place_of kinds.arrays x ≡ None → m ≡ length kinds.arrays → IsArrayOf kinds parameters (array.Global m) x
  is_no_array m outside e last = is_outside m outside (number_beyond kinds.arrays x e ∙ sym last)

-- whether a name stands for an array

pub named_there : (names : List (List ℕ)) (x : List ℕ) (n : ℕ) → place_of names x ≡ Some n → has_name names x ≡ true
named_there names x n e = has_name-stands names n x (stands_at names x n e)

pub none_there : (names : List (List ℕ)) (x : List ℕ) → place_of names x ≡ None → has_name names x ≡ false
none_there [] x e = refl
none_there (y ∷ ys) x e = by (bytes_eq x y) (place_of ys x) e (λ h. none_there ys x h)
  where
    by : (b : Bool) (o : Option ℕ) → (if b then Some 0 else option_map suc o) ≡ None → (o ≡ None → has_name ys x ≡ false) → (b || has_name ys x) ≡ false
    by true o h k = cc
    by false None h k = k refl
    by false (Some j) h k = cc

same_kind : (l : Local) (global : Bool) → kind_by (Some l) global ≡ is_array_local l
same_kind (local.Value v) global = refl
same_kind (local.Array n) global = refl

kind_at : (xs : Locals) (i : ℕ) (l : List ℕ × Local) → slice_get xs i ≡ Some l → is_array_local l.1 ≡ is_array_at (map (λ (y : List ℕ × Local). is_array_local y.1) xs) i
kind_at [] i l e = cc
kind_at (x ∷ xs) zero l e = let z : x ≡ l = cc in ap (λ (y : List ℕ × Local). is_array_local y.1) (sym z)
kind_at (x ∷ xs) (suc i) l e = kind_at xs i l e

module _ {kinds : ProgramKinds} {parameters : List FormalParameter} (x : List ℕ) where
  pub is_parameter_of_kind : (i : ℕ) (b : Bool) → place_of (parameter_names parameters) x ≡ Some i → b ≡ is_array_at (arrays_among parameters) i → IsOfKind kinds parameters b x
  unfolding is_array
  is_parameter_of_kind i b e kind = record {
    is = λ p n s h.
        let f = found (newest_locals s.frames) x i (ap (λ ns. place_of ns x) h.names ∙ e) in
        ap (λ c. gives c s)
        (ap (λ (o : Option Local). kind_by o (has_name s.array_names x)) (newest s.frames x ∙ f.by_name)
        ∙ same_kind f.here.1 (has_name s.array_names x)
        ∙ kind_at (newest_locals s.frames) i f.here f.at
        ∙ ap (λ bs. is_array_at bs i) h.kinds
        ∙ sym kind);
  }

  pub is_outside_of_kind : (b : Bool) → place_of (parameter_names parameters) x ≡ None → has_name kinds.arrays x ≡ b → IsOfKind kinds parameters b x
  unfolding is_array
  is_outside_of_kind b outside e = record {
    is = λ p n s h.
        ap (λ c. gives c s)
        (ap (λ (o : Option Local). kind_by o (has_name s.array_names x)) (newest s.frames x ∙ none (newest_locals s.frames) x (ap (λ ns. place_of ns x) h.names ∙ outside))
        ∙ ap (λ names. has_name names x) (h.arrays ∙ p.arrays)
        ∙ e);
  }
