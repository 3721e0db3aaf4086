-- What assignments to places do to the code's own state.
use Rattle.std.proofs.Common.{◌≡◌, ◌<◌, ℕ, zero, suc, ℤ, pos, List, [], ◌∷◌, length, set, slice_get, Some, None, Result, Ok, Err, refl, false, sym, ap, ◌∙◌, subst, arith}
use Rattle.std.specs.Prelude.{if◌then◌else◌}
use Rattle.std.proofs.lemmas.Slice.Eq.{bytes_eq-Decides}
use Rattle.std.proofs.lemmas.Option.{slice_get_within}
use Rattle.awk_value.specs.declared.value.Value.{Value}
use Rattle.awk_value.specs.declared.value.Value.TheVariants as value
use Rattle.awk_value.specs.declared.fault.ValueFault.{ValueFault}
use Rattle.awk_value.specs.Values.{num_of}
use Rattle.awk_lex.specs.declared.token.IncrementOperator.{IncrementOperator}
use Rattle.awk_lex.specs.declared.token.Operator.{Operator}
use Rattle.awk_kinds.specs.declared.special.Special.{Special}
use Rattle.awk_kinds.specs.Variables.{value_of, name_of, with_value, is_refused}
use Rattle.awk_kinds.specs.Names.{AreDistinct}
use Rattle.awk_semantics.specs.declared.halt.Halt.{Halt}
use Rattle.awk_semantics.specs.declared.halt.Halt.TheVariants as halt
use Rattle.awk_semantics.specs.declared.local.Local.{Local}
use Rattle.awk_semantics.specs.declared.local.Local.TheVariants as local
use Rattle.awk_semantics.specs.State.{lift}
use Rattle.awk_semantics.specs.Faults.{value_fault}
use Rattle.awk_semantics.specs.Operators.{applied, by_one, one}
use Rattle.awk_semantics.specs.Primitives.{read_field, set_field}
use Rattle.awk_storage.specs.declared.position.Variable.{Variable}
use Rattle.awk_storage.specs.declared.position.Variable.TheVariants as variable
use Rattle.awk_storage.specs.declared.position.Place.{Place}
use Rattle.awk_storage.specs.declared.position.Place.TheVariants as place
use Rattle.awk_storage.specs.support.Frames.{FrameView, FramesView, newest_of, with_newest_of, with_value_at}
use Rattle.awk_storage.specs.Positions.{read_variable, read_at, store_at, assign_at, assign_by_at, post_increment_at}
use Rattle.awk_runtime.specs.declared.places.Updated.{Updated}
use Rattle.awk_runtime.specs.declared.runtime.Runtime.{Runtime}
use Rattle.awk_runtime.specs.support.Simulation.{Changes}
use Rattle.awk_runtime.specs.support.Naming.{Naming, AreOwn}
use Rattle.awk_runtime.specs.support.Updates.{UpdatesVariable, Updates, PutsNumber}
use Rattle.awk_runtime.proofs.Composition.{then_changes, ends_changes, lift_changes}
use Rattle.awk_runtime.proofs.Steps.{still}
use Rattle.awk_runtime.proofs.Words.{number_had, number_lacked}
use Rattle.awk_runtime.proofs.VariableWords.{SameButVariables, SameButFrames, special_put, special_read, special_outside, slot_read, slot_given, value_in, local_read, local_given}

-- the names are the same

pub still_read : (old : Runtime) (p : Place) (operand : Value) {mid new : Runtime} {r : Result Value Halt} → mid.names ≡ old.names → Changes (read_at mid.names.scalars p operand) mid new r → Changes (read_at old.names.scalars p operand) mid new r
still_read old p operand {mid = mid} {new = new} {r = r} same x = subst (λ (n : Naming). Changes (read_at n.scalars p operand) mid new r) same x

pub still_stored : (old : Runtime) (p : Place) (operand v : Value) {mid new : Runtime} {r : Result (Unit {0}) Halt} → mid.names ≡ old.names → Changes (store_at mid.names.scalars p operand v) mid new r → Changes (store_at old.names.scalars p operand v) mid new r
still_stored old p operand v {mid = mid} {new = new} {r = r} same x = subst (λ (n : Naming). Changes (store_at n.scalars p operand v) mid new r) same x

still_assigned : (old : Runtime) (p : Place) (operand v : Value) {mid new : Runtime} {r : Result Value Halt} → mid.names ≡ old.names → Changes (assign_at mid.names.scalars p operand v) mid new r → Changes (assign_at old.names.scalars p operand v) mid new r
still_assigned old p operand v {mid = mid} {new = new} {r = r} same x = subst (λ (n : Naming). Changes (assign_at n.scalars p operand v) mid new r) same x

-- fields

pub field_read : (names : List (List ℕ)) (operand : Value) (n : ℤ) {old new : Runtime} {r : Result Value Halt} → Ok n ≡ num_of operand → Changes (read_field n) old new r → Changes (read_at names place.Field operand) old new r
field_read names operand n {old = old} is x = then_changes _ (number_had operand old is) x

pub no_field_read : (names : List (List ℕ)) (operand : Value) (e : ValueFault) (m : Runtime) → Err e ≡ num_of operand → Changes (read_at names place.Field operand) m m (Err (halt.Fault (value_fault e)))
no_field_read names operand e m is = ends_changes _ (number_lacked operand e m is)

pub field_stored : (names : List (List ℕ)) (operand v : Value) (n : ℤ) {old new : Runtime} {r : Result (Unit {0}) Halt} → Ok n ≡ num_of operand → Changes (set_field n v) old new r → Changes (store_at names place.Field operand v) old new r
field_stored names operand v n {old = old} is x = then_changes _ (number_had operand old is) x

pub no_field_stored : (names : List (List ℕ)) (operand v : Value) (e : ValueFault) (m : Runtime) → Err e ≡ num_of operand → Changes (store_at names place.Field operand v) m m (Err (halt.Fault (value_fault e)))
no_field_stored names operand v e m is = ends_changes _ (number_lacked operand e m is)

-- assignments

pub assigned : (p : Place) (operand v : Value) {old mid new : Runtime} {r : Result Value Halt} → Changes (store_at old.names.scalars p operand v) old mid (Ok tt) → Changes (read_at mid.names.scalars p operand) mid new r → Changes (assign_at old.names.scalars p operand v) old new r
unfolding assign_at
assigned p operand v {old = old} {mid = mid} x y = then_changes _ x (still_read old p operand x.names y)

pub not_assigned : (p : Place) (operand v : Value) {old new : Runtime} {h : Halt} → Changes (store_at old.names.scalars p operand v) old new (Err h) → Changes (assign_at old.names.scalars p operand v) old new (Err h)
unfolding assign_at
not_assigned p operand v x = ends_changes _ x

pub plainly_assigned : (p : Place) (operand v : Value) {old new : Runtime} {r : Result Value Halt} → Changes (assign_at old.names.scalars p operand v) old new r → Changes (assign_by_at old.names.scalars None p operand v) old new r
unfolding assign_by_at
plainly_assigned p operand v x = x

pub by_unread : (o : Operator) (p : Place) (operand v : Value) {old new : Runtime} {h : Halt} → Changes (read_at old.names.scalars p operand) old new (Err h) → Changes (assign_by_at old.names.scalars (Some o) p operand v) old new (Err h)
unfolding assign_by_at
by_unread o p operand v x = ends_changes _ x

pub by_refused : (o : Operator) (p : Place) (operand v : Value) {before : Value} {old mid new : Runtime} {h : Halt} → Changes (read_at old.names.scalars p operand) old mid (Ok before) → Changes (lift (applied o before v)) mid new (Err h) → Changes (assign_by_at old.names.scalars (Some o) p operand v) old new (Err h)
unfolding assign_by_at
by_refused o p operand v x y = then_changes _ x (ends_changes _ y)

pub by_assigned : (o : Operator) (p : Place) (operand v : Value) {before w : Value} {old mid later new : Runtime} {r : Result Value Halt} → Changes (read_at old.names.scalars p operand) old mid (Ok before) → Changes (lift (applied o before v)) mid later (Ok w) → Changes (assign_at later.names.scalars p operand w) later new r → Changes (assign_by_at old.names.scalars (Some o) p operand v) old new r
unfolding assign_by_at
by_assigned o p operand v {old = old} {later = later} x y z = then_changes _ x (then_changes _ y (still_assigned old p operand _ {mid = later} (y.names ∙ x.names) z))

pub by_updated : (o : Operator) (p : Place) (operand v : Value) {old new : Runtime} {u : Updated} → Updates o p operand v old new u → Changes (assign_by_at old.names.scalars (Some o) p operand v) old new (Ok (value.Number u.after))
unfolding assign_by_at assign_at
by_updated o p operand v {old = old} x = then_changes _ x.read (then_changes _ (lift_changes _ old x.made) (then_changes _ x.put x.again))

-- increments that give the number before

pub post_unread : (o : IncrementOperator) (p : Place) (operand : Value) {old new : Runtime} {h : Halt} → Changes (read_at old.names.scalars p operand) old new (Err h) → Changes (post_increment_at old.names.scalars o p operand) old new (Err h)
unfolding post_increment_at
post_unread o p operand x = ends_changes _ x

pub post_no_number : (o : IncrementOperator) (p : Place) (operand : Value) {v : Value} (e : ValueFault) {old new : Runtime} → Changes (read_at old.names.scalars p operand) old new (Ok v) → Err e ≡ num_of v → Changes (post_increment_at old.names.scalars o p operand) old new (Err (halt.Fault (value_fault e)))
unfolding post_increment_at
post_no_number o p operand {v = v} e {new = new} x is = then_changes _ x (ends_changes _ (number_lacked v e new is))

pub post_refused : (o : IncrementOperator) (p : Place) (operand : Value) {v : Value} (n : ℤ) {old mid new : Runtime} {h : Halt} → Changes (read_at old.names.scalars p operand) old mid (Ok v) → Ok n ≡ num_of v → Changes (lift (applied (by_one o) (value.Number n) one)) mid new (Err h) → Changes (post_increment_at old.names.scalars o p operand) old new (Err h)
unfolding post_increment_at
post_refused o p operand {v = v} n {mid = mid} x is y = then_changes _ x (then_changes _ (number_had v mid is) (ends_changes _ y))

pub post_unstored : (o : IncrementOperator) (p : Place) (operand : Value) {v w : Value} (n : ℤ) {old mid later new : Runtime} {h : Halt} → Changes (read_at old.names.scalars p operand) old mid (Ok v) → Ok n ≡ num_of v → Changes (lift (applied (by_one o) (value.Number n) one)) mid later (Ok w) → Changes (store_at later.names.scalars p operand w) later new (Err h) → Changes (post_increment_at old.names.scalars o p operand) old new (Err h)
unfolding post_increment_at
post_unstored o p operand {v = v} {w = w} n {old = old} {mid = mid} {later = later} x is y z = then_changes _ x (then_changes _ (number_had v mid is) (then_changes _ y (ends_changes _ (still_stored old p operand w {mid = later} (y.names ∙ x.names) z))))

pub post_stored : (o : IncrementOperator) (p : Place) (operand : Value) {v w : Value} (n : ℤ) {old mid later new : Runtime} → Changes (read_at old.names.scalars p operand) old mid (Ok v) → Ok n ≡ num_of v → Changes (lift (applied (by_one o) (value.Number n) one)) mid later (Ok w) → Changes (store_at later.names.scalars p operand w) later new (Ok tt) → Changes (post_increment_at old.names.scalars o p operand) old new (Ok (value.Number n))
unfolding post_increment_at
post_stored o p operand {v = v} {w = w} n {old = old} {mid = mid} {later = later} {new = new} x is y z = then_changes _ x (then_changes _ (number_had v mid is) (then_changes _ y (then_changes _ (still_stored old p operand w {mid = later} (y.names ∙ x.names) z) (lift_changes _ new refl))))

pub post_updated : (o : IncrementOperator) (p : Place) (operand : Value) {old new : Runtime} {u : Updated} → Updates (by_one o) p operand one old new u → Changes (post_increment_at old.names.scalars o p operand) old new (Ok (value.Number u.before))
unfolding post_increment_at
post_updated o p operand {old = old} {new = new} {u = u} x = then_changes _ x.read (then_changes _ (number_had (value.Number u.before) old refl) (then_changes _ (lift_changes _ old x.made) (then_changes _ x.put (lift_changes _ new refl))))

-- numbers that are changed where they stand

pub of_variable : (o : Operator) (x : Variable) (operand : Value) (n : ℤ) {old new : Runtime} {u : Updated} → UpdatesVariable o x n old new u → Updates o (place.Variable x) operand (value.Number n) old new u
of_variable o x operand n h = record { read = h.read; made = h.made; put = h.put; again = h.again }

pub get-set : {A : Type 0} (xs : List A) (i : ℕ) (x : A) → i < length xs → slice_get (set xs i x) i ≡ Some x
get-set [] i x low = absurd (omega arith)
get-set (y ∷ xs) zero x low = refl
get-set (y ∷ xs) (suc i) x low = get-set xs i x (omega arith)

pub slot_updated : (o : Operator) (i : ℕ) (n before after : ℤ) {old new : Runtime} → slice_get old.globals.items i ≡ Some (value.Number before) → applied o (value.Number before) (value.Number n) ≡ Ok (value.Number after) → AreOwn old.names.scalars → AreDistinct old.names.scalars → new.globals.items ≡ set old.globals.items i (value.Number after) → new.specials ≡ old.specials → SameButVariables old new → UpdatesVariable o (variable.Global i) n old new (record { before = before; after = after })
slot_updated o i n before after {old = old} {new = new} at made own distinct put specials same =
    let within = slice_get_within old.globals.items i (value.Number before) at in
    record {
      read = slot_read i old own at;
      made = made;
      put = slot_given i (value.Number after) within own distinct put specials same;
      again = subst (λ (k : Naming). Changes (read_variable k.scalars (variable.Global i)) new new (Ok (value.Number after))) same.names
          (slot_read i new (subst (λ (k : Naming). AreOwn k.scalars) (sym same.names) own) (ap (λ l. slice_get l i) put ∙ get-set old.globals.items i (value.Number after) within));
    }

newest-put : (frames : List FrameView) (i : ℕ) (l x : Local) → slice_get (newest_of frames) i ≡ Some l → slice_get (newest_of (with_newest_of (set (newest_of frames) i x) frames)) i ≡ Some x
newest-put [] i l x at = cc
newest-put (frame ∷ frames) i l x at = get-set frame.locals i x (slice_get_within frame.locals i l at)

pub local_updated : (o : Operator) (i : ℕ) (n before after : ℤ) {old new : Runtime} → slice_get (newest_of old.frames.frames) i ≡ Some (local.Value (value.Number before)) → applied o (value.Number before) (value.Number n) ≡ Ok (value.Number after) → new.frames ≡ record old.frames { frames = with_value_at (slice_get (newest_of old.frames.frames) i) i (value.Number after) old.frames.frames } → SameButFrames old new → UpdatesVariable o (variable.Local i) n old new (record { before = before; after = after })
local_updated o i n before after {old = old} {new = new} at made put same = record {
  read = local_read i old (ap value_in (sym at));
  made = made;
  put = local_given i (value.Number after) put same;
  again = local_read i new (sym (ap value_in (ap (λ (f : FramesView). slice_get (newest_of f.frames) i) put
      ∙ ap (λ l. slice_get (newest_of (with_value_at l i (value.Number after) old.frames.frames)) i) at
      ∙ newest-put old.frames.frames i (local.Value (value.Number before)) (local.Value (value.Number after)) at)));
}

pub special_updated : (o : Operator) (x : Special) (n before after : ℤ) {old new : Runtime} → value.Number before ≡ value_of old.specials (name_of x) → applied o (value.Number before) (value.Number n) ≡ Ok (value.Number after) → is_refused (name_of x) (value.Number after) ≡ false → AreOwn old.names.scalars → ((y : List ℕ) → value_of new.specials y ≡ with_value (value_of old.specials) (name_of x) (value.Number after) y) → new.globals ≡ old.globals → SameButVariables old new → UpdatesVariable o (variable.Special x) n old new (record { before = before; after = after })
special_updated o x n before after {old = old} {new = new} was made taken own put globals same = record {
  read = special_read x (still old) was;
  made = made;
  put = special_outside x (value.Number after) (special_put x (value.Number after) taken own put globals same);
  again = special_read x (still new) (sym (put (name_of x) ∙ ap (λ b. if b then value.Number after else value_of old.specials (name_of x)) ((bytes_eq-Decides (name_of x) (name_of x)).1 refl)));
}

-- numbers that are put where they stand

pub slot_numbered : (i : ℕ) (n : ℤ) {old new : Runtime} → i < length old.globals.items → AreOwn old.names.scalars → AreDistinct old.names.scalars → new.globals.items ≡ set old.globals.items i (value.Number n) → new.specials ≡ old.specials → SameButVariables old new → PutsNumber (variable.Global i) n old new
slot_numbered i n {old = old} {new = new} within own distinct put specials same = record {
  put = slot_given i (value.Number n) within own distinct put specials same;
  again = subst (λ (k : Naming). Changes (read_variable k.scalars (variable.Global i)) new new (Ok (value.Number n))) same.names
      (slot_read i new (subst (λ (k : Naming). AreOwn k.scalars) (sym same.names) own) (ap (λ l. slice_get l i) put ∙ get-set old.globals.items i (value.Number n) within));
}

pub local_numbered : (i : ℕ) (n : ℤ) {v : Value} {old new : Runtime} → slice_get (newest_of old.frames.frames) i ≡ Some (local.Value v) → new.frames ≡ record old.frames { frames = with_value_at (slice_get (newest_of old.frames.frames) i) i (value.Number n) old.frames.frames } → SameButFrames old new → PutsNumber (variable.Local i) n old new
local_numbered i n {v = v} {old = old} {new = new} at put same = record {
  put = local_given i (value.Number n) put same;
  again = local_read i new (sym (ap value_in (ap (λ (f : FramesView). slice_get (newest_of f.frames) i) put
      ∙ ap (λ l. slice_get (newest_of (with_value_at l i (value.Number n) old.frames.frames)) i) at
      ∙ newest-put old.frames.frames i (local.Value v) (local.Value (value.Number n)) at)));
}

pub plainly_numbered : (x : Variable) (n : ℤ) {old new : Runtime} → PutsNumber x n old new → Changes (assign_by_at old.names.scalars None (place.Variable x) value.Nothing (value.Number n)) old new (Ok (value.Number n))
unfolding assign_by_at assign_at
plainly_numbered x n p = then_changes _ p.put p.again

pub by_numbered : (o : Operator) (x : Variable) (n : ℤ) {old new : Runtime} {u : Updated} → UpdatesVariable o x n old new u → Changes (assign_by_at old.names.scalars (Some o) (place.Variable x) value.Nothing (value.Number n)) old new (Ok (value.Number u.after))
by_numbered o x n h = by_updated o (place.Variable x) value.Nothing (value.Number n) (of_variable o x value.Nothing n h)

pub post_numbered : (o : IncrementOperator) (x : Variable) {old new : Runtime} {u : Updated} → UpdatesVariable (by_one o) x (pos 1) old new u → Changes (post_increment_at old.names.scalars o (place.Variable x) value.Nothing) old new (Ok (value.Number u.before))
post_numbered o x h = post_updated o (place.Variable x) value.Nothing (of_variable (by_one o) x value.Nothing (pos 1) h)
