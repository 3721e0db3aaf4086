-- What an assignment to a field does to the code's own state: the field then holds what it was given.
use Rattle.std.proofs.Common.{◌≡◌, ◌≢◌, ℕ, zero, suc, ℤ, pos, negsuc, ◌-◌, ◌<◌, max, List, length, take, replicate, unwrap_or, None, Result, Ok, Err, refl, ◌∙◌, ap, arith, inl, inr}
use Rattle.std.specs.Prelude.{slice_set, nat_lt}
use Rattle.std.proofs.lemmas.Bool.{cases_Bool, cond-true, cond-false}
use Rattle.std.proofs.lemmas.List.{length-append, length-take, length-replicate}
use Rattle.awk_value.specs.Values.{str_of}
use Rattle.awk_value.specs.declared.value.Value.{Value}
use Rattle.awk_value.specs.declared.value.Value.TheVariants.{Nothing, Number}
use Rattle.awk_record.specs.declared.record_fault.RecordFault.{RecordFault}
use Rattle.awk_record.specs.declared.record_fault.RecordFault.TheVariants.{FieldNumber}
use Rattle.awk_record.specs.Record.{RecordPair, assignable, resized, joined_by, with_field, field_of, most_fields}
use Rattle.awk_kinds.specs.declared.special.Special.TheVariants.{Ofs}
use Rattle.awk_kinds.specs.Variables.{value_of, name_of}
use Rattle.awk_semantics.specs.Faults.{of_record}
use Rattle.awk_storage.specs.declared.position.Place.TheVariants.{Field}
use Rattle.awk_storage.specs.Positions.{assign_by_at}
use Rattle.awk_runtime.specs.declared.runtime.Runtime.{Runtime}
use Rattle.awk_runtime.specs.support.Simulation.{Changes}
use Rattle.awk_runtime.proofs.Steps.{still}
use Rattle.awk_runtime.proofs.Words.{SameButRecord, field_changes, field_set}
use Rattle.awk_runtime.proofs.PlaceWords.{get-set, assigned, plainly_assigned, field_stored, field_read}

length-resized : (count : ℕ) (fields : List Value) → length (resized count fields) ≡ count
length-resized count fields =
    let parts = length-append (take count fields) (replicate (count - length fields) Nothing) in
    let front = length-take count fields in
    let back = length-replicate (count - length fields) Nothing in
    omega (arith, parts, front, back)

-- the field reads as what it was given
given_read : (n : ℤ) (v : Value) (between : List ℕ) (r r' : RecordPair) → n ≢ pos 0 → Ok r' ≡ with_field (assignable n) v between r → field_of r' n ≡ Ok v
given_read (pos zero) v between r r' other is = absurd (other refl)
given_read (negsuc n) v between r r' other is = cc
given_read (pos (suc i)) v between r r' other is = elim (cases_Bool (nat_lt most_fields (suc i))) [
  | inl past ↦
      let refused : with_field (assignable (pos (suc i))) v between r ≡ Err FieldNumber = ap (λ (n : Result ℕ RecordFault). with_field n v between r) (cond-true _ _ _ past) in
      let bad : Ok r' ≡ Err FieldNumber = is ∙ refused in
      cc
  | inr within ↦
      let fields : List Value = resized (max (suc i) (length r.fields)) r.fields in
      let there : with_field (assignable (pos (suc i))) v between r ≡ Ok (joined_by between (slice_set fields i v)) = ap (λ (n : Result ℕ RecordFault). with_field n v between r) (cond-false _ _ _ within) in
      let same : Ok r' ≡ Ok (joined_by between (slice_set fields i v)) = is ∙ there in
      let low : i < length fields = omega (arith, length-resized (max (suc i) (length r.fields)) r.fields) in
      let at : r' ≡ joined_by between (slice_set fields i v) = cc in
      ap (λ (p : RecordPair). field_of p (pos (suc i))) at ∙ ap (λ o. Ok (unwrap_or o Nothing)) (get-set fields i v low)
]

pub field_given : (n : ℤ) (v : Value) (between : List ℕ) {old new : Runtime} → n ≢ pos 0 → between ≡ str_of (value_of old.specials (name_of Ofs)) → Ok new.current ≡ with_field (assignable n) v between old.current → SameButRecord old new
    → Changes (assign_by_at old.names.scalars None Field (Number n) v) old new (Ok v)
field_given n v between {old = old} {new = new} other ofs is same =
    plainly_assigned Field (Number n) v (assigned Field (Number n) v (field_stored old.names.scalars (Number n) v n refl (field_set n v between other ofs is same))
    (field_read new.names.scalars (Number n) n refl (field_changes n (still new) (ap of_record (given_read n v between old.current new.current other is)))))
