-- A field, by the piece that its number asks for.
use Rattle.std.proofs.Common.{◌≡◌, ◌≢◌, ℕ, zero, suc, ℤ, pos, negsuc, ◌<ℤ◌, ◌+◌, ◌-◌, ◌≤◌, min, List, length, take, drop, get_or, Option, Some, None, Result, Ok, Err, Bor, refl, sym, ◌∙◌, ap, subst, arith, inl, inr}
use Rattle.std.specs.Prelude.{slice_get, unwrap_or, IfSome, IfOk, IfErr}
use Rattle.std.specs.Option.{option_map}
use Rattle.std.proofs.lemmas.Bool.{cases_lt}
use Rattle.std.proofs.lemmas.Int.{ints}
use Rattle.std.proofs.lemmas.List.{drop-take}
use Rattle.std.proofs.lemmas.Option.{slice_get-map, slice_get_past, slice_get-get_or}
use Rattle.awk_text.specs.Pieces.{stretch_at, IsSpanOf}
use Rattle.awk_text.specs.Fields.{pieces_by}
use Rattle.awk_text.specs.Separators.{Rule}
use Rattle.awk_text.specs.declared.span.Span.{Span}
use Rattle.awk_value.specs.declared.value.Value.{Value}
use Rattle.awk_value.specs.declared.value.Value.TheVariants.{Nothing, Input}
use Rattle.awk_record.specs.declared.record_fault.RecordFault.{RecordFault}
use Rattle.awk_record.specs.declared.record_fault.RecordFault.TheVariants.{Memory}
use Rattle.awk_record.specs.definitions.Record.{RecordPair, inputs_of, split_by, field_of}
use Rattle.awk_record.specs.support.Viewed.{pair_of}
use Rattle.awk_record.specs.declared.record.Form.{Form}
use Rattle.awk_record.specs.declared.record.Form.TheVariants.{Split, Assigned, Joined}

-- the index of the field of this number, or the greatest number there is
abbrev pub IsIndexOf : (most : ℕ) (number : ℤ) (index : ℕ) → Type 0
IsIndexOf most number index = (i : ℕ) → number ≡ pos (suc i) → index ≡ min i most

pub cut_stretch : (text : List ℕ) (span : Span) → IsSpanOf text span → drop span.start (take span.end text) ≡ stretch_at text span
cut_stretch text span (le, within) =
    let sum : span.end ≡ span.start + (span.end - span.start) = omega arith in
    ap (λ n. drop span.start (take n text)) sum ∙ drop-take span.start (span.end - span.start) text

-- the piece of a span that was found at an index
pub piece_value : (text : List ℕ) (pieces : List (List ℕ)) (index : ℕ) (found : Option Span) → option_map (stretch_at text) found ≡ slice_get pieces index →
    slice_get (inputs_of pieces) index ≡ option_map (λ (t : List ℕ). Input t) (option_map (stretch_at text) found)
piece_value text pieces index found is = slice_get-map (λ (t : List ℕ). Input t) pieces index ∙ ap (option_map (λ (t : List ℕ). Input t)) (sym is)

-- where nothing is at an index, nothing is behind it
none_behind : (values : List Value) (most i : ℕ) → slice_get values most ≡ None → most ≤ i → slice_get values i ≡ None
none_behind values most i none le = elim (cases_lt most (length values)) [
  | inl lt ↦ let some : slice_get values most ≡ Some (get_or values most Nothing) = slice_get-get_or values most Nothing lt in cc
  | inr past ↦ slice_get_past values i (omega arith)
]

-- the field that a number asks for
pub field_asked : (r : RecordPair) (most : ℕ) (number : ℤ) (index : ℕ) (result : Result Value RecordFault) → pos 0 <ℤ number → IsIndexOf most number index →
    IfOk result (λ value. value ≡ unwrap_or (slice_get r.fields index) Nothing) → (index ≡ most → IfOk result (λ _. slice_get r.fields index ≡ None)) →
    IfErr result (λ e. e ≡ Memory) → result ≢ Err Memory → result ≡ field_of r number
field_asked r most (pos zero) index result low at value none memory other = absurd (omega (arith, ints))
field_asked r most (negsuc n) index result low at value none memory other = absurd (omega (arith, ints))
field_asked r most (pos (suc i)) index (Err e) low at value none memory other = absurd (other (ap (λ (e : RecordFault). Err e) memory))
field_asked r most (pos (suc i)) index (Ok v) low at value none memory other = elim (cases_lt i most) [
  | inl lt ↦ let same : index ≡ i = omega (arith, at i refl) in ap (λ (v : Value). Ok v) (value ∙ ap (λ k. unwrap_or (slice_get r.fields k) Nothing) same)
  | inr le ↦
      let last : index ≡ most = omega (arith, at i refl) in
      let gone : slice_get r.fields most ≡ None = sym (ap (slice_get r.fields) last) ∙ none last in
      ap (λ (v : Value). Ok v) (value ∙ (ap (λ k. unwrap_or (slice_get r.fields k) Nothing) last
      ∙ (ap (λ (o : Option Value). unwrap_or o Nothing) (gone ∙ sym (none_behind r.fields most i gone le)))))
]

-- the piece that was cut at a span that was found
pub cut_value : (text seen : List ℕ) (separator : Rule) (index : ℕ) (found : Option Span) (span : Span) (cut : List ℕ) → seen ≡ text → found ≡ Some span → IfSome found (IsSpanOf seen) →
    option_map (stretch_at seen) found ≡ slice_get (pieces_by separator seen) index → cut ≡ drop span.start (take span.end text) →
    Input cut ≡ unwrap_or (slice_get (inputs_of (pieces_by separator text)) index) Nothing
cut_value text seen separator index found span cut same is within piece cutting =
    let lies = subst (λ (o : Option Span). IfSome o (IsSpanOf text)) is (subst (λ (t : List ℕ). IfSome found (IsSpanOf t)) same within) in
    let here = subst (λ (t : List ℕ). option_map (stretch_at t) found ≡ slice_get (pieces_by separator t) index) same piece in
    ap (λ (t : List ℕ). Input t) (cutting ∙ cut_stretch text span lies)
    ∙ ap (λ (o : Option Value). unwrap_or o Nothing) (ap (λ (o : Option Span). option_map (λ (t : List ℕ). Input t) (option_map (stretch_at text) o)) (sym is) ∙ sym (piece_value text (pieces_by separator text) index found here))

pub no_value : (text seen : List ℕ) (separator : Rule) (index : ℕ) (found : Option Span) → seen ≡ text → found ≡ None →
    option_map (stretch_at seen) found ≡ slice_get (pieces_by separator seen) index → slice_get (inputs_of (pieces_by separator text)) index ≡ None
no_value text seen separator index found same is piece =
    let here = subst (λ (t : List ℕ). option_map (stretch_at t) found ≡ slice_get (pieces_by separator t) index) same piece in
    piece_value text (pieces_by separator text) index found here ∙ ap (λ (o : Option Span). option_map (λ (t : List ℕ). Input t) (option_map (stretch_at text) o)) is

-- the field whose stretch was found
pub stretch_found : (r : RecordPair) (rule : Rule) (text seen : List ℕ) (most : ℕ) (number : ℤ) (index : ℕ) (found : Option Span) (span : Span) → split_by rule text ≡ r → seen ≡ text →
    pos 0 <ℤ number → IsIndexOf most number index → found ≡ Some span → option_map (stretch_at seen) found ≡ slice_get (pieces_by rule seen) index → (index ≡ most → found ≡ None) →
    field_of r number ≡ Ok (Input (stretch_at r.text span))
stretch_found r rule text seen most number index found span view same low at is piece none =
    let here = subst (λ (t : List ℕ). option_map (stretch_at t) found ≡ slice_get (pieces_by rule t) index) same piece in
    let field : slice_get r.fields index ≡ Some (Input (stretch_at text span)) =
    ap (λ (p : RecordPair). slice_get p.fields index) (sym view)
    ∙ (piece_value text (pieces_by rule text) index found here ∙ ap (λ (o : Option Span). option_map (λ (t : List ℕ). Input t) (option_map (stretch_at text) o)) is) in
    let value : Input (stretch_at r.text span) ≡ unwrap_or (slice_get r.fields index) Nothing =
    ap (λ (p : RecordPair). Input (stretch_at p.text span)) (sym view) ∙ ap (λ (o : Option Value). unwrap_or o Nothing) (sym field) in
    sym (field_asked r most number index (Ok (Input (stretch_at r.text span))) low at value (λ last. let bad : Some span ≡ None = sym is ∙ none last in cc) tt (λ bad. cc))

-- the fields that are kept as values
pub kept_values : (form : Form) (text : List ℕ) (rule : Rule) (between : List ℕ) (values : List Value) → form ≢ Split → (pair_of form text rule between values).fields ≡ values
kept_values Split text rule between values other = absurd (other refl)
kept_values Assigned text rule between values other = refl
kept_values Joined text rule between values other = refl

-- the field whose value was found
pub field_kept : (r : RecordPair) (values : List Value) (most : ℕ) (number : ℤ) (index : ℕ) (found : Option (Bor Value)) → r.fields ≡ values → pos 0 <ℤ number → IsIndexOf most number index →
    IfSome found (λ v. slice_get values index ≡ Some v.now) → (index ≡ most → slice_get values index ≡ None) → IfSome found (λ v. field_of r number ≡ Ok v.now)
field_kept r values most number index None same low at is none = tt
field_kept r values most number index (Some v) same low at is none =
    let field : slice_get r.fields index ≡ Some v.now = ap (λ (vs : List Value). slice_get vs index) same ∙ is in
    sym (field_asked r most number index (Ok v.now) low at (ap (λ (o : Option Value). unwrap_or o Nothing) (sym field))
    (λ last. ap (λ (vs : List Value). slice_get vs index) same ∙ none last) tt (λ bad. cc))
