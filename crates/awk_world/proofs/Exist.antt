-- To a log in order there are oracles that are consistent: those that the log itself shows.
use Rattle.std.proofs.Common.{◌≡◌, inl, inr, ℕ, ℤ, ◌+◌, ◌<◌, ◌==◌, ◌&&◌, if◌then◌else◌, pos, Bool, true, false, List, [], ◌∷◌, ◌++◌, Option, Some, None, refl, sym, ◌∙◌, ap, subst, arith, append_assoc, append-nil, bytes_eq}
use Rattle.std.proofs.lemmas.Bool.{cond-true, cond-false, ne_eqb, eq-eqb, cases_eq}
use Rattle.awk_world.specs.declared.world.InputKind.{InputKind}
use Rattle.awk_world.specs.declared.world.InputKind.TheVariants.{Standard, File, Command}
use Rattle.awk_world.specs.declared.world.OutputKind.{OutputKind}
use Rattle.awk_world.specs.declared.world.OutputKind.TheVariants.{File as ToFile, Command as ToCommand}
use Rattle.awk_world.specs.definitions.Log.{Event, OpenedInput, OpenedOutput, Read, Ended, Broke, Wrote, Flushed, Closed, Ran}
use Rattle.awk_record.specs.Cut.{AtEnd, AtBreak}
use Rattle.awk_world.specs.definitions.Oracle.{Source, Oracle, same_input_kind, same_output_kind, one_if, how_many, opens_input, opens_output, closes_command, runs, Reading, read_on, over, new_reading, reading_of, Gives, EndsWith, IsConsistentAt, IsConsistent}
use Rattle.awk_world.specs.definitions.Writes.{with_events}
use Rattle.awk_world.specs.definitions.Orderly.{IsOrderlyAt, IsOrderly}

-- what is made of the k-th event of a sort and of the events after it, the oldest of them first
abbrev pick : {T : Type 0} → (Event → List Event → Bool) → (Event → List Event → T) → T → ℕ → List Event → List Event → T
pick sort make other k newer [] = other
pick sort make other k newer (e ∷ older) = if how_many sort older == k && sort e older then make e newer else pick sort make other k (e ∷ newer) older

-- bytes in front of what a source gives
abbrev front : List ℕ → Source → Source
front bs s = record { bytes = bs ++ s.bytes; ending = s.ending }

-- what these events, the oldest first, show of the input that stands under this number
abbrev shown : ℕ → List Event → Source
shown id [] = record { bytes = []; ending = AtEnd }
shown id (Read i bs ∷ es) = if i == id then front bs (shown id es) else shown id es
shown id (Ended i ∷ es) = if i == id then record { bytes = []; ending = AtEnd } else shown id es
shown id (Broke i ∷ es) = if i == id then record { bytes = []; ending = AtBreak } else shown id es
shown id (e ∷ es) = shown id es

abbrev source_of : Event → List Event → Option Source
source_of (OpenedInput kind name (Some id)) newer = Some (shown id newer)
source_of e newer = None

abbrev is_granted : Event → List Event → Bool
is_granted (OpenedOutput kind name mode (Some id)) newer = true
is_granted e newer = false

abbrev number_of : Event → List Event → ℤ
number_of (Closed id n) newer = n
number_of (Ran command n) newer = n
number_of e newer = pos 0

abbrev pub oracle_of : List Event → Oracle
oracle_of log = record {
  input = λ kind name k. pick (opens_input kind name) source_of None k [] log;
  output = λ kind name k. pick (opens_output kind name) is_granted false k [] log;
  closing = λ k. pick closes_command number_of (pos 0) k [] log;
  running = λ k. pick runs number_of (pos 0) k [] log;
}

-- the k-th event of a sort stands before all events of which k were there
pick-pass : {T : Type 0} (sort : Event → List Event → Bool) (make : Event → List Event → T) (other : T) (k : ℕ) (es newer log : List Event) → k < how_many sort log →
    pick sort make other k newer (with_events es log) ≡ pick sort make other k (es ++ newer) log
pick-pass sort make other k [] newer log lt = refl
pick-pass sort make other k (e ∷ es) newer log lt =
    let more : k < one_if (sort e log) + how_many sort log = omega arith in
    let differs : (how_many sort log == k) ≡ false = ne_eqb (how_many sort log) k (λ (is : how_many sort log ≡ k). omega arith) in
    pick-pass sort make other k es newer (e ∷ log) more ∙ cond-false _ _ _ (ap (λ b. b && sort e log) differs)

pick-here : {T : Type 0} (sort : Event → List Event → Bool) (make : Event → List Event → T) (other : T) (newer : List Event) (e : Event) (older : List Event) → sort e older ≡ true →
    pick sort make other (how_many sort older) [] (with_events newer (e ∷ older)) ≡ make e newer
pick-here sort make other newer e older is =
    let one : one_if (sort e older) ≡ 1 = ap one_if is in
    let lt : how_many sort older < one_if (sort e older) + how_many sort older = omega (arith, one) in
    let here : (how_many sort older == how_many sort older && sort e older) ≡ true = ap (λ b. b && sort e older) (eq-eqb (how_many sort older) (how_many sort older) refl) ∙ is in
    pick-pass sort make other (how_many sort older) newer [] (e ∷ older) lt ∙ (cond-true _ _ _ here ∙ ap (make e) (append-nil newer))

same_name : (name : List ℕ) → bytes_eq name name ≡ true
same_name [] = refl
same_name (x ∷ xs) = ap (λ b. b && bytes_eq xs xs) (eq-eqb x x refl) ∙ same_name xs

pub opens_input-self : (kind : InputKind) (name : List ℕ) → (same_input_kind kind kind && bytes_eq name name) ≡ true
opens_input-self Standard name = same_name name
opens_input-self File name = same_name name
opens_input-self Command name = same_name name

opens_output-self : (kind : OutputKind) (name : List ℕ) → (same_output_kind kind kind && bytes_eq name name) ≡ true
opens_output-self ToFile name = same_name name
opens_output-self ToCommand name = same_name name

some_is : {T : Type 0} (x y : T) → Some x ≡ Some y → x ≡ y
some_is x y e = cc

none_is : {T : Type 0} {P : Type 0} (x : T) → None ≡ Some x → P
none_is x e = cc

read_on-is : (bs : List ℕ) (o : Option Reading) (r : Reading) → read_on bs o ≡ Some r →
    (was : Reading) × (o ≡ Some was) × (record was { bytes = was.bytes ++ bs } ≡ r)
read_on-is bs None r e = none_is r e
read_on-is bs (Some was) r e = (was, refl, some_is _ r e)

over-is : {P : Type 0} (o : Option Reading) (r : Reading) → over o ≡ Some r → r.is_over ≡ false → P
over-is None r e unended = none_is r e
over-is (Some was) r e unended =
    let bad : true ≡ false = ap (λ (x : Reading). x.is_over) (some_is _ r e) ∙ unended in
    cc

-- of an input that stands open and is not over, the answers give what was read and then what the later events show
abbrev Shows : ℕ → List Event → List Event → Reading → Type 0
Shows id newer older r = (oracle_of (with_events newer older)).input r.kind r.name r.count ≡ Some (front r.bytes (shown id newer))

shows : (id : ℕ) (newer older : List Event) (r : Reading) → reading_of id older ≡ Some r → r.is_over ≡ false → Shows id newer older r
shows id newer [] r is unended = none_is r is
shows id newer (OpenedInput kind name (Some i) ∷ older) r is unended = elim (cases_eq i id) [
  | inl same ↦
      let here : new_reading kind name older ≡ r = some_is _ r (sym (cond-true _ _ _ (eq-eqb i id same)) ∙ is) in
      subst (λ (x : Reading). Shows id newer (OpenedInput kind name (Some i) ∷ older) x) here
      (pick-here (opens_input kind name) source_of None newer (OpenedInput kind name (Some i)) older (opens_input-self kind name) ∙ ap (λ j. Some (shown j newer)) same)
  | inr differs ↦ shows id (OpenedInput kind name (Some i) ∷ newer) older r (sym (cond-false _ _ _ (ne_eqb i id differs)) ∙ is) unended
]
shows id newer (OpenedOutput kind name mode (Some i) ∷ older) r is unended = elim (cases_eq i id) [
  | inl same ↦ none_is r (sym (cond-true _ _ _ (eq-eqb i id same)) ∙ is)
  | inr differs ↦ shows id (OpenedOutput kind name mode (Some i) ∷ newer) older r (sym (cond-false _ _ _ (ne_eqb i id differs)) ∙ is) unended
]
shows id newer (Closed i n ∷ older) r is unended = elim (cases_eq i id) [
  | inl same ↦ none_is r (sym (cond-true _ _ _ (eq-eqb i id same)) ∙ is)
  | inr differs ↦ shows id (Closed i n ∷ newer) older r (sym (cond-false _ _ _ (ne_eqb i id differs)) ∙ is) unended
]
shows id newer (Read i bs ∷ older) r is unended = elim (cases_eq i id) [
  | inl same ↦
      let was = read_on-is bs (reading_of id older) r (sym (cond-true _ _ _ (eq-eqb i id same)) ∙ is) in
      let before = shows id (Read i bs ∷ newer) older was.0 was.1 (ap (λ (x : Reading). x.is_over) was.2 ∙ unended) in
      let later : shown id (Read i bs ∷ newer) ≡ front bs (shown id newer) = cond-true _ _ _ (eq-eqb i id same) in
      let joined : front was.0.bytes (front bs (shown id newer)) ≡ front (was.0.bytes ++ bs) (shown id newer) = ap (λ (b : List ℕ). record { bytes = b; ending = (shown id newer).ending }) (sym (append_assoc was.0.bytes bs (shown id newer).bytes)) in
      subst (λ (x : Reading). Shows id newer (Read i bs ∷ older) x) was.2 (before ∙ ap Some (ap (front was.0.bytes) later ∙ joined))
  | inr differs ↦
      shows id (Read i bs ∷ newer) older r (sym (cond-false _ _ _ (ne_eqb i id differs)) ∙ is) unended ∙ ap (λ s. Some (front r.bytes s)) (cond-false _ _ _ (ne_eqb i id differs))
]
shows id newer (Ended i ∷ older) r is unended = elim (cases_eq i id) [
  | inl same ↦ over-is (reading_of id older) r (sym (cond-true _ _ _ (eq-eqb i id same)) ∙ is) unended
  | inr differs ↦
      shows id (Ended i ∷ newer) older r (sym (cond-false _ _ _ (ne_eqb i id differs)) ∙ is) unended ∙ ap (λ s. Some (front r.bytes s)) (cond-false _ _ _ (ne_eqb i id differs))
]
shows id newer (Broke i ∷ older) r is unended = elim (cases_eq i id) [
  | inl same ↦ over-is (reading_of id older) r (sym (cond-true _ _ _ (eq-eqb i id same)) ∙ is) unended
  | inr differs ↦
      shows id (Broke i ∷ newer) older r (sym (cond-false _ _ _ (ne_eqb i id differs)) ∙ is) unended ∙ ap (λ s. Some (front r.bytes s)) (cond-false _ _ _ (ne_eqb i id differs))
]
shows id newer (e ∷ older) r is unended = shows id (e ∷ newer) older r is unended

consistent_at : (e : Event) (newer older : List Event) → IsOrderlyAt e older → IsConsistentAt (oracle_of (with_events newer (e ∷ older))) e older
consistent_at (OpenedInput kind name (Some id)) newer older at =
    (shown id newer, pick-here (opens_input kind name) source_of None newer (OpenedInput kind name (Some id)) older (opens_input-self kind name))
consistent_at (OpenedInput kind name None) newer older at = pick-here (opens_input kind name) source_of None newer (OpenedInput kind name None) older (opens_input-self kind name)
consistent_at (OpenedOutput kind name mode (Some id)) newer older at = pick-here (opens_output kind name) is_granted false newer (OpenedOutput kind name mode (Some id)) older (opens_output-self kind name)
consistent_at (OpenedOutput kind name mode None) newer older at = pick-here (opens_output kind name) is_granted false newer (OpenedOutput kind name mode None) older (opens_output-self kind name)
consistent_at (Read id bs) newer older at =
    let a = oracle_of (with_events newer (Read id bs ∷ older)) in
    let r = at.reading in
    let later : shown id (Read id bs ∷ newer) ≡ front bs (shown id newer) = cond-true _ _ _ (eq-eqb id id refl) in
    subst (λ (o : Option Reading). Gives a o bs) (sym at.stands)
    (front r.bytes (front bs (shown id newer)), (shows id (Read id bs ∷ newer) older r at.stands at.unended ∙ ap (λ s. Some (front r.bytes s)) later), ((shown id newer).bytes, sym (append_assoc r.bytes bs (shown id newer).bytes)))
consistent_at (Ended id) newer older at =
    let a = oracle_of (with_events newer (Ended id ∷ older)) in
    let r = at.reading in
    let later : shown id (Ended id ∷ newer) ≡ record { bytes = []; ending = AtEnd } = cond-true _ _ _ (eq-eqb id id refl) in
    subst (λ (o : Option Reading). EndsWith a o AtEnd) (sym at.stands)
    (front r.bytes record { bytes = []; ending = AtEnd }, (shows id (Ended id ∷ newer) older r at.stands at.unended ∙ ap (λ s. Some (front r.bytes s)) later), append-nil r.bytes, refl)
consistent_at (Broke id) newer older at =
    let a = oracle_of (with_events newer (Broke id ∷ older)) in
    let r = at.reading in
    let later : shown id (Broke id ∷ newer) ≡ record { bytes = []; ending = AtBreak } = cond-true _ _ _ (eq-eqb id id refl) in
    subst (λ (o : Option Reading). EndsWith a o AtBreak) (sym at.stands)
    (front r.bytes record { bytes = []; ending = AtBreak }, (shows id (Broke id ∷ newer) older r at.stands at.unended ∙ ap (λ s. Some (front r.bytes s)) later), append-nil r.bytes, refl)
consistent_at (Closed id n) newer older at = λ is. pick-here closes_command number_of (pos 0) newer (Closed id n) older is
consistent_at (Ran command n) newer older at = pick-here runs number_of (pos 0) newer (Ran command n) older refl
consistent_at (Wrote id bs) newer older at = tt
consistent_at (Flushed id) newer older at = tt

consistent_from : (newer older : List Event) → IsOrderly older → IsConsistent (oracle_of (with_events newer older)) older
consistent_from newer [] orderly = tt
consistent_from newer (e ∷ older) orderly = (consistent_at e newer older orderly.0, consistent_from (e ∷ newer) older orderly.1)

pub some_oracle : (log : List Event) → IsOrderly log → (a : Oracle) × IsConsistent a log
some_oracle log orderly = (oracle_of log, consistent_from [] log orderly)
