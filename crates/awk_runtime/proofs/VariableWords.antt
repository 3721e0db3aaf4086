-- What giving variables values does to the code's own state.
use Rattle.std.proofs.Common.{◌≡◌, ◌≢◌, true≢false, ◌≤◌, ◌<◌, ℕ, zero, suc, pos, Bool, true, false, List, [], ◌∷◌, length, map, set, unwrap_or, slice_get, Option, Some, None, Result, Ok, Err, refl, sym, ap, ◌∙◌, subst, ◌⊎◌, inl, inr, arith}
use Rattle.std.specs.Prelude.{◌&&◌, codes, bytes_eq, get_or, if◌then◌else◌}
use Rattle.std.specs.Option.{option_map}
use Rattle.std.specs.Global.{Vec}
use Rattle.std.proofs.lemmas.Slice.Eq.{bytes_eq-Decides}
use Rattle.std.proofs.lemmas.List.{map-set, set-get_or, get_or-set_same, get_or-set_other}
use Rattle.std.proofs.lemmas.Option.{slice_get-map, slice_get_within, get_or_from_slice_get}
use Rattle.awk_value.specs.declared.value.Value.{Value}
use Rattle.awk_value.specs.declared.value.Value.TheVariants as value
use Rattle.awk_value.specs.Values.{str_of}
use Rattle.awk_text.specs.Separators.{separator_of}
use Rattle.std.specs.Result.{is_err}
use Rattle.awk_kinds.specs.declared.special.Special.{Special}
use Rattle.awk_kinds.specs.declared.special.Special.TheVariants.{Argc, Convfmt, Filename, Fnr, Fs, Nr, Ofmt, Ofs, Ors, Rlength, Rs, Rstart, Subsep}
use Rattle.awk_text.specs.declared.fault.TextFault.{TextFault}
use Rattle.awk_text.specs.declared.fault.TextFault.TheVariants.{Memory, Pattern}
use Rattle.awk_kinds.specs.Variables.{value_of, name_of, with_value, is_refused}
use Rattle.awk_kinds.specs.Names.{AreDistinct}
use Rattle.awk_semantics.specs.declared.halt.Halt.{Halt}
use Rattle.awk_semantics.specs.declared.halt.Halt.TheVariants as halt
use Rattle.awk_semantics.specs.declared.fault.Fault.TheVariants.{PatternRefused}
use Rattle.awk_semantics.specs.declared.local.Local.{Local}
use Rattle.awk_semantics.specs.declared.local.Local.TheVariants as local
use Rattle.awk_semantics.specs.State.{State, Frame, Run, ◌>>=◌, lift, gives}
use Rattle.awk_semantics.specs.Results.{Yields}
use Rattle.awk_semantics.specs.PartFaults.{text_fault}
use Rattle.awk_semantics.specs.Operators.{raised}
use Rattle.awk_semantics.specs.Primitives.{put_unless, put_global, put_outside, put_special, count_in, with_variable}
use Rattle.awk_semantics.specs.Outside.{read_outside}
use Rattle.awk_storage.specs.support.Frames.{FramesView, newest_of, with_value_at}
use Rattle.awk_storage.specs.Positions.{newest_locals, value_of_local, with_newest, with_local_at, read_local, put_local, read_slot, put_slot}
use Rattle.awk_runtime.specs.declared.runtime.Runtime.{Runtime}
use Rattle.awk_runtime.specs.support.Simulation.{frame_view, OwnRelation, Changes, SameState}
use Rattle.awk_runtime.specs.support.Naming.{Naming, AreOwn}
use Rattle.awk_runtime.proofs.Composition.{own_changes, then_changes, ends_changes, lift_changes, memory_changes, frames_stay, staged_stay, callers_stay}
use Rattle.awk_runtime.proofs.Steps.{still, reads_changes, same_changes}

-- texts that are compared

pub turned : (x y : List ℕ) → bytes_eq x y ≡ false → bytes_eq y x ≡ false
turned x y e = by (bytes_eq y x) refl
  where
    by : (b : Bool) → bytes_eq y x ≡ b → b ≡ false
    by true is = absurd (true≢false (sym ((bytes_eq-Decides x y).1 (sym ((bytes_eq-Decides y x).0 is))) ∙ e))
    by false is = refl

-- values that change

-- all but the values of variables is the same
pub record SameButVariables (old new : Runtime) : Type 0 where
  pub names : new.names ≡ old.names
  pub current : new.current ≡ old.current
  pub arrays : new.arrays ≡ old.arrays
  pub frames : new.frames ≡ old.frames
  pub streams : new.streams ≡ old.streams
  pub next : new.next ≡ old.next
  pub input_seen : new.input_seen ≡ old.input_seen
  pub inside : new.inside ≡ old.inside
  pub status : new.status ≡ old.status
  pub steps : new.steps ≡ old.steps

-- the values of a state that the code knows are those of its variables
pub record AreValues (m : Runtime) (variables : List ℕ → Value) : Type 0 where
  pub specials : (x : Special) → variables (name_of x) ≡ value_of m.specials (name_of x)
  pub globals : (i : ℕ) (x : List ℕ) → slice_get m.names.scalars i ≡ Some x → variables x ≡ get_or m.globals.items i value.Nothing
  pub slots : length m.globals.items ≡ length m.names.scalars

pub variables_hold : {old new : Runtime} (s : State) (variables : List ℕ → Value) → SameButVariables old new → AreValues new variables → OwnRelation old s → OwnRelation new (record s { variables = variables })
variables_hold {old = old} {new = new} s variables same are h = record {
  current = h.current ∙ sym same.current;
  specials = are.specials;
  globals = are.globals;
  slots = are.slots;
  array_names = h.array_names ∙ ap (λ (n : Naming). n.arrays) (sym same.names);
  function_names = h.function_names ∙ ap (λ (n : Naming). n.functions) (sym same.names);
  arrays = h.arrays ∙ sym same.arrays;
  frames = frames_stay same.frames ∙ h.frames;
  staged = staged_stay same.frames ∙ h.staged;
  next = h.next ∙ sym same.next;
  input_seen = h.input_seen ∙ sym same.input_seen;
  inside = λ n. h.inside n ∙ ap (λ (v : Vec Bool). unwrap_or (slice_get v.items n) false) (sym same.inside);
  status = h.status ∙ sym same.status;
  steps = h.steps ∙ sym same.steps;
}

-- a name gets a value that no rule of FS refuses
given_value : {old new : Runtime} (run : Run (Unit {0})) (x : List ℕ) (v : Value) → SameButVariables old new → ((s : State) → OwnRelation old s → run s ≡ gives tt (with_variable x v s)) → ((s : State) → OwnRelation old s → AreValues new (with_value s.variables x v)) → Changes run old new (Ok tt)
given_value run x v same is are =
    own_changes run same.streams same.names (callers_stay same.frames) (omega (arith, same.steps)) (λ s h. record {
      result = Ok tt;
      state = record s { variables = with_value s.variables x v };
      is = is s h;
      part = record { outside = refl; openings = refl; output_openings = refl; closings = refl; runs = refl; outputs = refl; main = refl; streams = refl };
      matches = refl;
      holds = variables_hold s (with_value s.variables x v) same (are s h) h;
    })

chosen : (b : Bool) (v a c : Value) → a ≡ c → (if b then v else a) ≡ (if b then v else c)
chosen b v a c e = ap (λ z. if b then v else z) e

-- another name has the value that it had
kept : (f : List ℕ → Value) (x : List ℕ) (v : Value) (y : List ℕ) → bytes_eq x y ≡ false → with_value f x v y ≡ f y
kept f x v y e = ap (λ b. if b then v else f y) e

itself : (f : List ℕ → Value) (x : List ℕ) (v : Value) (y : List ℕ) → x ≡ y → with_value f x v y ≡ v
itself f x v y e = ap (λ b. if b then v else f y) ((bytes_eq-Decides x y).1 e)

-- special variables

pub not_nf : (x : Special) → bytes_eq (name_of x) (codes "NF") ≡ false
not_nf Argc = refl
not_nf Convfmt = refl
not_nf Filename = refl
not_nf Fnr = refl
not_nf Fs = refl
not_nf Nr = refl
not_nf Ofmt = refl
not_nf Ofs = refl
not_nf Ors = refl
not_nf Rlength = refl
not_nf Rs = refl
not_nf Rstart = refl
not_nf Subsep = refl

special_values : (x : Special) (v : Value) {old new : Runtime} → AreOwn old.names.scalars → ((y : List ℕ) → value_of new.specials y ≡ with_value (value_of old.specials) (name_of x) v y) → new.names ≡ old.names → new.globals ≡ old.globals → (s : State) → OwnRelation old s → AreValues new (with_value s.variables (name_of x) v)
special_values x v {old = old} {new = new} own put names globals s h = record {
  specials = λ y. chosen (bytes_eq (name_of x) (name_of y)) v _ _ (h.specials y) ∙ sym (put (name_of y));
  globals = λ i z at.
      let at_old : slice_get old.names.scalars i ≡ Some z = subst (λ (n : Naming). slice_get n.scalars i ≡ Some z) names at in
      kept s.variables (name_of x) v z ((own i z at_old).1 x) ∙ h.globals i z at_old ∙ ap (λ (g : Vec Value). get_or g.items i value.Nothing) (sym globals);
  slots = ap (λ (g : Vec Value). length g.items) globals ∙ h.slots ∙ ap (λ (n : Naming). length n.scalars) (sym names);
}

-- two of them, one after the other
pub special_values_twice : (x : Special) (v : Value) (y : Special) (w : Value) {old new : Runtime} → AreOwn old.names.scalars → ((z : List ℕ) → value_of new.specials z ≡ with_value (with_value (value_of old.specials) (name_of x) v) (name_of y) w z) → new.names ≡ old.names → new.globals ≡ old.globals → (s : State) → OwnRelation old s → AreValues new (with_value (with_value s.variables (name_of x) v) (name_of y) w)
special_values_twice x v y w {old = old} {new = new} own put names globals s h = record {
  specials = λ z.
      chosen (bytes_eq (name_of y) (name_of z)) w _ _ (chosen (bytes_eq (name_of x) (name_of z)) v _ _ (h.specials z)) ∙ sym (put (name_of z));
  globals = λ i z at.
      let at_old : slice_get old.names.scalars i ≡ Some z = subst (λ (n : Naming). slice_get n.scalars i ≡ Some z) names at in
      kept (with_value s.variables (name_of x) v) (name_of y) w z ((own i z at_old).1 y) ∙ kept s.variables (name_of x) v z ((own i z at_old).1 x) ∙ h.globals i z at_old ∙ ap (λ (g : Vec Value). get_or g.items i value.Nothing) (sym globals);
  slots = ap (λ (g : Vec Value). length g.items) globals ∙ h.slots ∙ ap (λ (n : Naming). length n.scalars) (sym names);
}

pub special_put : (x : Special) (v : Value) {old new : Runtime} → is_refused (name_of x) v ≡ false → AreOwn old.names.scalars → ((y : List ℕ) → value_of new.specials y ≡ with_value (value_of old.specials) (name_of x) v y) → new.globals ≡ old.globals → SameButVariables old new → Changes (put_special x v) old new (Ok tt)
unfolding put_special
special_put x v taken own put globals same =
    given_value _ (name_of x) v same (λ s h. ap (λ b. put_unless b (name_of x) v s) taken) (special_values x v own put same.names globals)

pub special_refused : (x : Special) (v : Value) {old new : Runtime} → is_refused (name_of x) v ≡ true → SameState old new → Changes (put_special x v) old new (Err (halt.Fault PatternRefused))
unfolding put_special
special_refused x v refused same =
    reads_changes _ (λ s. Err (halt.Fault PatternRefused)) (λ s. ap (λ b. put_unless b (name_of x) v s) refused) same (λ s h. refl)

abbrev pub failed : TextFault → Result (Unit {0}) TextFault
failed e = Err e

pub special_fails : (x : Special) (v : Value) (e : TextFault) {old new : Runtime} → (e ≡ Pattern → is_refused (name_of x) v ≡ true) → SameState old new → Changes (put_special x v) old new (Err (halt.Fault (text_fault e)))
special_fails x v Memory why same = memory_changes _ same.streams same.beside.names (callers_stay same.beside.frames) (omega (arith, same.beside.steps))
special_fails x v Pattern why same = special_refused x v (why refl) same

-- the same of a special variable's name
pub special_outside : (x : Special) (v : Value) {old new : Runtime} {r : Result (Unit {0}) Halt} → Changes (put_special x v) old new r → Changes (put_outside (name_of x) v) old new r
unfolding put_outside put_special
special_outside x v p = same_changes _ (put_special x v) (λ s h. ap (λ b. put_global b (name_of x) v s) (not_nf x)) p

pub special_read : (x : Special) {old new : Runtime} {v : Value} → SameState old new → v ≡ value_of old.specials (name_of x) → Changes (read_outside (name_of x)) old new (Ok v)
unfolding read_outside
special_read x {v = v} same e =
    reads_changes _ (λ s. Ok (s.variables (name_of x))) (λ s. ap (λ b. gives (if b then value.Number (pos (length s.current.fields)) else s.variables (name_of x)) s) (not_nf x)) same (λ s h. ap (λ w. Ok w) (h.specials x ∙ sym e))

-- counting

of_special : (x : Special) (m : Runtime) (s : State) → OwnRelation m s → count_in x s ≡ (lift (raised (value_of m.specials (name_of x))) >>= λ w. put_special x w) s
unfolding count_in
of_special x m s h = ap (λ v. (lift (raised v) >>= λ w. put_special x w) s) (h.specials x)

pub count_ends : (x : Special) {m : Runtime} {h : Halt} → Yields {A = Value} (Err h) (raised (value_of m.specials (name_of x))) → Changes (count_in x) m m (Err h)
count_ends x {m = m} e = same_changes _ (lift (raised (value_of m.specials (name_of x))) >>= λ w. put_special x w) (of_special x m) (ends_changes _ (lift_changes _ m e))

pub count_gives : (x : Special) {old new : Runtime} {w : Value} {r : Result (Unit {0}) Halt} → Yields (Ok w) (raised (value_of old.specials (name_of x))) → Changes (put_special x w) old new r → Changes (count_in x) old new r
count_gives x {old = old} e p = same_changes _ (lift (raised (value_of old.specials (name_of x))) >>= λ w. put_special x w) (of_special x old) (then_changes _ (lift_changes _ old e) p)

-- variables of the program

-- a variable of the program is neither NF nor FS
pub plain : (names : List (List ℕ)) → AreOwn names → (i : ℕ) (x : List ℕ) → slice_get names i ≡ Some x → (v : Value) → (s : State) → put_outside x v s ≡ gives tt (with_variable x v s)
unfolding put_outside
plain names own i x at v s =
    ap (λ b. put_global b x v s) (own i x at).0
    ∙ ap (λ b. put_unless (b && is_err (separator_of (str_of v))) x v s) (turned (codes "FS") x ((own i x at).1 Fs))

-- one of two places
same_or_not : (i j : ℕ) → (i ≡ j) ⊎ (i ≢ j)
same_or_not zero zero = inl refl
same_or_not zero (suc j) = inr (λ e. omega (arith, e))
same_or_not (suc i) zero = inr (λ e. omega (arith, e))
same_or_not (suc i) (suc j) = elim (same_or_not i j) [ inl e ↦ inl (ap suc e) | inr other ↦ inr (λ e. other (omega (arith, e))) ]

other_name : (names : List (List ℕ)) → AreDistinct names → (i j : ℕ) (x y : List ℕ) → slice_get names i ≡ Some x → slice_get names j ≡ Some y → i ≢ j → bytes_eq x y ≡ false
other_name names distinct i j x y at_i at_j apart = by (bytes_eq x y) refl
  where
    by : (b : Bool) → bytes_eq x y ≡ b → b ≡ false
    by true is = absurd (apart (distinct i j y (at_i ∙ ap Some ((bytes_eq-Decides x y).0 is)) at_j))
    by false is = refl

slot_values : (i : ℕ) (x : List ℕ) (v : Value) {old new : Runtime} → slice_get old.names.scalars i ≡ Some x → AreOwn old.names.scalars → AreDistinct old.names.scalars → new.globals.items ≡ set old.globals.items i v → new.specials ≡ old.specials → new.names ≡ old.names → (s : State) → OwnRelation old s → AreValues new (with_value s.variables x v)
slot_values i x v {old = old} {new = new} at own distinct put specials names s h = record {
  specials = λ y. kept s.variables x v (name_of y) (turned (name_of y) x ((own i x at).1 y)) ∙ h.specials y ∙ ap (λ p. value_of p (name_of y)) (sym specials);
  globals = λ j y at_j.
      let at_old : slice_get old.names.scalars j ≡ Some y = subst (λ (n : Naming). slice_get n.scalars j ≡ Some y) names at_j in
      let within : i < length old.globals.items = omega (arith, h.slots, slice_get_within old.names.scalars i x at) in
      elim (same_or_not i j) [
        | inl e ↦
            let same : Some x ≡ Some y = sym at ∙ ap (slice_get old.names.scalars) e ∙ at_old in
            let one : x ≡ y = cc in
            itself s.variables x v y one ∙ sym (ap (λ l. get_or l j value.Nothing) put ∙ ap (λ k. get_or (set old.globals.items i v) k value.Nothing) (sym e) ∙ get_or-set_same old.globals.items i v value.Nothing within)
        | inr apart ↦
            kept s.variables x v y (other_name old.names.scalars distinct i j x y at at_old apart) ∙ h.globals j y at_old
            ∙ sym (ap (λ l. get_or l j value.Nothing) put ∙ get_or-set_other old.globals.items i j v value.Nothing (λ e. apart (sym e)))
      ];
  slots = ap length put ∙ length_set old.globals.items i v ∙ h.slots ∙ ap (λ (n : Naming). length n.scalars) (sym names);
}
  where
    length_set : (l : List Value) (i : ℕ) (v : Value) → length (set l i v) ≡ length l
    length_set [] i v = refl
    length_set (y ∷ l) zero v = refl
    length_set (y ∷ l) (suc i) v = ap suc (length_set l i v)

-- a variable of the program gets a value, in its slot
pub slot_put : (i : ℕ) (x : List ℕ) (v : Value) {old new : Runtime} → slice_get old.names.scalars i ≡ Some x → AreOwn old.names.scalars → AreDistinct old.names.scalars → new.globals.items ≡ set old.globals.items i v → new.specials ≡ old.specials → SameButVariables old new → Changes (put_outside x v) old new (Ok tt)
slot_put i x v {old = old} at own distinct put specials same =
    given_value _ x v same (λ s h. plain old.names.scalars own i x at v s) (slot_values i x v at own distinct put specials same.names)

-- a name that is no variable of the program, none of awk's own and not NF
pub unknown_put : (x : List ℕ) (v : Value) {m : Runtime} → bytes_eq x (codes "NF") ≡ false → ((y : Special) → bytes_eq x (name_of y) ≡ false) → ((i : ℕ) (y : List ℕ) → slice_get m.names.scalars i ≡ Some y → bytes_eq x y ≡ false) → Changes (put_outside x v) m m (Ok tt)
unfolding put_outside
unknown_put x v {m = m} plain own absent =
    given_value _ x v (record { names = refl; current = refl; arrays = refl; frames = refl; streams = refl; next = refl; input_seen = refl; inside = refl; status = refl; steps = refl })
    (λ s h. ap (λ b. put_global b x v s) plain ∙ ap (λ b. put_unless (b && is_err (separator_of (str_of v))) x v s) (own Fs))
    (λ s h. record {
      specials = λ y. kept s.variables x v (name_of y) (own y) ∙ h.specials y;
      globals = λ i y at. kept s.variables x v y (absent i y at) ∙ h.globals i y at;
      slots = h.slots;
    })

-- slots

-- where the relation holds of no state, all is so
never : {A : Type 0} {r : Result A Halt} {old new : Runtime} (run : Run A) → new.streams ≡ old.streams → new.names ≡ old.names → new.frames.callers ≡ old.frames.callers → new.steps ≤ old.steps → ((s : State) → OwnRelation old s → ⊥) → Changes run old new r
never run streams names callers steps none = own_changes run streams names callers steps (λ s h. absurd (none s h))

-- there is an element at each place within
none_within : {A : Type 0} (xs : List A) (i : ℕ) → slice_get xs i ≡ None → i < length xs → ⊥
none_within [] i e low = omega (arith, low)
none_within (x ∷ xs) zero e low = cc
none_within (x ∷ xs) (suc i) e low = none_within xs i e (omega (arith, low))

slot_value : (o : Option (List ℕ)) (i : ℕ) (m : Runtime) → slice_get m.names.scalars i ≡ o → AreOwn m.names.scalars → i < length m.globals.items → Changes (read_slot o) m m (Ok (get_or m.globals.items i value.Nothing))
unfolding read_outside
slot_value None i m at own low = never _ refl refl refl (omega arith) (λ s h. none_within m.names.scalars i at (omega (arith, low, h.slots)))
slot_value (Some x) i m at own low =
    reads_changes _ (λ s. Ok (s.variables x)) (λ s. ap (λ b. gives (if b then value.Number (pos (length s.current.fields)) else s.variables x) s) (own i x at).0) (still m) (λ s h. ap (λ w. Ok w) (h.globals i x at))

pub slot_read : (i : ℕ) (m : Runtime) {v : Value} → AreOwn m.names.scalars → slice_get m.globals.items i ≡ Some v → Changes (read_slot (slice_get m.names.scalars i)) m m (Ok v)
slot_read i m {v = v} own at =
    subst (λ w. Changes (read_slot (slice_get m.names.scalars i)) m m (Ok w)) (get_or_from_slice_get m.globals.items i v value.Nothing at) (slot_value (slice_get m.names.scalars i) i m refl own (slice_get_within m.globals.items i v at))

past : (o : Option (List ℕ)) (i : ℕ) (m : Runtime) → slice_get m.names.scalars i ≡ o → length m.globals.items ≤ i → Changes (read_slot o) m m (Ok value.Nothing)
past None i m at high = lift_changes _ m refl
past (Some x) i m at high = never _ refl refl refl (omega arith) (λ s h. omega (arith, h.slots, slice_get_within m.names.scalars i x at))

pub slot_past : (i : ℕ) (m : Runtime) → length m.globals.items ≤ i → Changes (read_slot (slice_get m.names.scalars i)) m m (Ok value.Nothing)
slot_past i m high = past (slice_get m.names.scalars i) i m refl high

put_by_slot : (o : Option (List ℕ)) (i : ℕ) (v : Value) {old new : Runtime} → slice_get old.names.scalars i ≡ o → i < length old.globals.items → AreOwn old.names.scalars → AreDistinct old.names.scalars → new.globals.items ≡ set old.globals.items i v → new.specials ≡ old.specials → SameButVariables old new → Changes (put_slot o v) old new (Ok tt)
put_by_slot None i v {old = old} at low own distinct put specials same = never _ same.streams same.names (callers_stay same.frames) (omega (arith, same.steps)) (λ s h. none_within old.names.scalars i at (omega (arith, low, h.slots)))
put_by_slot (Some x) i v at low own distinct put specials same = slot_put i x v at own distinct put specials same

pub slot_given : (i : ℕ) (v : Value) {old new : Runtime} → i < length old.globals.items → AreOwn old.names.scalars → AreDistinct old.names.scalars → new.globals.items ≡ set old.globals.items i v → new.specials ≡ old.specials → SameButVariables old new → Changes (put_slot (slice_get old.names.scalars i) v) old new (Ok tt)
slot_given i v {old = old} low own distinct put specials same = put_by_slot (slice_get old.names.scalars i) i v refl low own distinct put specials same

put_past : (o : Option (List ℕ)) (i : ℕ) (v : Value) (m : Runtime) → slice_get m.names.scalars i ≡ o → length m.globals.items ≤ i → Changes (put_slot o v) m m (Ok tt)
put_past None i v m at high = lift_changes _ m refl
put_past (Some x) i v m at high = never _ refl refl refl (omega arith) (λ s h. omega (arith, h.slots, slice_get_within m.names.scalars i x at))

pub slot_not_given : (i : ℕ) (v : Value) (m : Runtime) → length m.globals.items ≤ i → Changes (put_slot (slice_get m.names.scalars i) v) m m (Ok tt)
slot_not_given i v m high = put_past (slice_get m.names.scalars i) i v m refl high

-- parameters

-- what a parameter has as its value
abbrev pub value_in : Option Local → Value
value_in (Some (local.Value v)) = v
value_in (Some (local.Array n)) = value.Nothing
value_in None = value.Nothing

local_value : (o : Option (List ℕ × Local)) → value_of_local o ≡ value_in (option_map (λ (l : List ℕ × Local). l.1) o)
local_value (Some (x, local.Value v)) = refl
local_value (Some (x, local.Array n)) = refl
local_value None = refl

newest-view : (frames : List Frame) (i : ℕ) → slice_get (newest_of (map frame_view frames)) i ≡ option_map (λ (l : List ℕ × Local). l.1) (slice_get (newest_locals frames) i)
newest-view [] i = refl
newest-view (frame ∷ frames) i = slice_get-map (λ (l : List ℕ × Local). l.1) frame.locals i

pub local_read : (i : ℕ) (m : Runtime) {v : Value} → v ≡ value_in (slice_get (newest_of m.frames.frames) i) → Changes (read_local i) m m (Ok v)
unfolding read_local
local_read i m {v = v} e =
    reads_changes _ (λ s. Ok (value_of_local (slice_get (newest_locals s.frames) i))) (λ s. refl) (still m)
    (λ s h. ap (λ w. Ok w) (local_value (slice_get (newest_locals s.frames) i) ∙ ap value_in (sym (newest-view s.frames i) ∙ ap (λ fs. slice_get (newest_of fs) i) (sym h.frames)) ∙ sym e))

-- the calls behind a parameter that was given a value
abbrev pub frames_after : Option (List ℕ × Local) → ℕ → Value → List Frame → List Frame
frames_after (Some (x, local.Value old)) i v frames = with_newest (set (newest_locals frames) i (x, local.Value v)) frames
frames_after (Some (x, local.Array n)) i v frames = frames
frames_after None i v frames = frames

pub with_local-is : (o : Option (List ℕ × Local)) (i : ℕ) (v : Value) (s : State) → with_local_at o i v s ≡ record s { frames = frames_after o i v s.frames }
with_local-is (Some (x, local.Value old)) i v s = refl
with_local-is (Some (x, local.Array n)) i v s = refl
with_local-is None i v s = refl

-- an element that is put where it stands
set_itself : {A : Type 0} (xs : List A) (i : ℕ) (x : A) → slice_get xs i ≡ Some x → set xs i x ≡ xs
set_itself xs i x at = ap (set xs i) (sym (get_or_from_slice_get xs i x x at)) ∙ set-get_or xs i x

frame_given : (frame : Frame) (frames : List Frame) (i : ℕ) (v : Value) (o : Option (List ℕ × Local)) → slice_get frame.locals i ≡ o
    → with_value_at (option_map (λ (l : List ℕ × Local). l.1) o) i v (map frame_view (frame ∷ frames)) ≡ map frame_view (frames_after o i v (frame ∷ frames))
frame_given frame frames i v (Some (x, local.Value old)) at = ap (λ ls. record { locals = ls; height = frame.height; arrays_before = frame.arrays_before } ∷ map frame_view frames) (sym (map-set (λ (l : List ℕ × Local). l.1) frame.locals i (x, local.Value v)))
frame_given frame frames i v (Some (x, local.Array n)) at =
    ap (λ ls. record { locals = ls; height = frame.height; arrays_before = frame.arrays_before } ∷ map frame_view frames)
    (set_itself (map (λ (l : List ℕ × Local). l.1) frame.locals) i (local.Array n) (slice_get-map (λ (l : List ℕ × Local). l.1) frame.locals i ∙ ap (option_map (λ (l : List ℕ × Local). l.1)) at))
frame_given frame frames i v None at = refl

frames_given : (frames : List Frame) (i : ℕ) (v : Value) → with_value_at (slice_get (newest_of (map frame_view frames)) i) i v (map frame_view frames) ≡ map frame_view (frames_after (slice_get (newest_locals frames) i) i v frames)
frames_given [] i v = refl
frames_given (frame ∷ frames) i v = ap (λ o. with_value_at o i v (map frame_view (frame ∷ frames))) (newest-view (frame ∷ frames) i) ∙ frame_given frame frames i v (slice_get frame.locals i) refl

-- all but the calls is the same
pub record SameButFrames (old new : Runtime) : Type 0 where
  pub names : new.names ≡ old.names
  pub current : new.current ≡ old.current
  pub specials : new.specials ≡ old.specials
  pub globals : new.globals ≡ old.globals
  pub arrays : new.arrays ≡ old.arrays
  pub streams : new.streams ≡ old.streams
  pub next : new.next ≡ old.next
  pub input_seen : new.input_seen ≡ old.input_seen
  pub inside : new.inside ≡ old.inside
  pub status : new.status ≡ old.status
  pub steps : new.steps ≡ old.steps

frames_hold : {old new : Runtime} (s : State) (frames : List Frame) → SameButFrames old new → new.frames.frames ≡ map frame_view frames → new.frames.staged ≡ old.frames.staged → OwnRelation old s → OwnRelation new (record s { frames = frames })
frames_hold {old = old} {new = new} s frames same is staged h = record {
  current = h.current ∙ sym same.current;
  specials = λ x. h.specials x ∙ ap (λ v. value_of v (name_of x)) (sym same.specials);
  globals = λ i x at. h.globals i x (subst (λ (n : Naming). slice_get n.scalars i ≡ Some x) same.names at) ∙ ap (λ (v : Vec Value). get_or v.items i value.Nothing) (sym same.globals);
  slots = ap (λ (v : Vec Value). length v.items) same.globals ∙ (h.slots ∙ ap (λ (n : Naming). length n.scalars) (sym same.names));
  array_names = h.array_names ∙ ap (λ (n : Naming). n.arrays) (sym same.names);
  function_names = h.function_names ∙ ap (λ (n : Naming). n.functions) (sym same.names);
  arrays = h.arrays ∙ sym same.arrays;
  frames = is;
  staged = staged ∙ h.staged;
  next = h.next ∙ sym same.next;
  input_seen = h.input_seen ∙ sym same.input_seen;
  inside = λ n. h.inside n ∙ ap (λ (v : Vec Bool). unwrap_or (slice_get v.items n) false) (sym same.inside);
  status = h.status ∙ sym same.status;
  steps = h.steps ∙ sym same.steps;
}

-- a parameter that is no array gets a value
pub local_given : (i : ℕ) (v : Value) {old new : Runtime} → new.frames ≡ record old.frames { frames = with_value_at (slice_get (newest_of old.frames.frames) i) i v old.frames.frames } → SameButFrames old new → Changes (put_local i v) old new (Ok tt)
unfolding put_local
local_given i v {old = old} put same =
    own_changes _ same.streams same.names (callers_stay put) (omega (arith, same.steps)) (λ s h. record {
      result = Ok tt;
      state = record s { frames = frames_after (slice_get (newest_locals s.frames) i) i v s.frames };
      is = ap (gives tt) (with_local-is (slice_get (newest_locals s.frames) i) i v s);
      part = record { outside = refl; openings = refl; output_openings = refl; closings = refl; runs = refl; outputs = refl; main = refl; streams = refl };
      matches = refl;
      holds = frames_hold s (frames_after (slice_get (newest_locals s.frames) i) i v s.frames) same
          (frames_stay put ∙ ap (λ fs. with_value_at (slice_get (newest_of fs) i) i v fs) h.frames ∙ frames_given s.frames i v) (staged_stay put) h;
    })
