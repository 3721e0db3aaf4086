-- What flushes tell: of all outputs, and of those of a text.
use Rattle.std.proofs.Common.{◌≡◌, ◌≢◌, ◌<◌, inl, inr, ℕ, zero, suc, Bool, true, false, List, [], ◌∷◌, ◌++◌, length, Option, Some, None, Result, Ok, Err, refl, sym, ◌∙◌, ap, subst, arith}
use Rattle.std.specs.Prelude.{OnOk, IfErr, is_some, slice_get, bytes_eq, ◌==◌, ◌&&◌, ◌||◌, if◌then◌else◌}
use Rattle.std.specs.List.{list_any}
use Rattle.std.proofs.lemmas.Bool.{cond-true, cond-false, ne_eqb, eq-eqb, eqb-true, cases_eq, cases_Bool}
use Rattle.std.proofs.lemmas.Option.{same_Some}
use Rattle.awk_world.specs.declared.world.OutputKind.{OutputKind}
use Rattle.awk_world.specs.declared.world.OutputKind.TheVariants as output
use Rattle.awk_world.specs.definitions.Log.{Event}
use Rattle.awk_world.specs.definitions.Oracle.{Oracle}
use Rattle.awk_world.specs.definitions.WorldState.{WorldState}
use Rattle.awk_world.specs.definitions.Writes.{GoesOn}
use Rattle.awk_world.specs.definitions.Openings.{Opening, openings, in_order, receives}
use Rattle.awk_streams.specs.declared.fault.StreamFault.{StreamFault}
use Rattle.awk_streams.specs.declared.named.NamedStream.{NamedStream}
use Rattle.awk_streams.specs.declared.named.NamedStream.TheVariants as named
use Rattle.awk_streams.specs.definitions.Outputs.{IsOutputFault, FailsWith}
use Rattle.awk_streams.specs.definitions.Named as words
use Rattle.awk_streams.specs.definitions.Streams.{StreamsView, number_of, AreOthers, AreApart, AreOpen, held_in, held_of, with_held, place_of, StandFor, FailsBy, all_unheld}
use Rattle.awk_streams.specs.definitions.Flushes.{FlushesAll, is_standard_output, is_standard_error, is_output_called, has_output_called, is_number_among, is_standard_number, is_number_of, held_unless, all_emptied, without_held, AreBringingTo, FlushesText}
use Rattle.awk_streams.specs.support.Held.{HoldsNothing}
use Rattle.awk_streams.specs.support.Brings.{BringsHeld, AreFlushedBut}
use Rattle.awk_streams.specs.support.Flushing.{BringsSome, standard_emptied}
use Rattle.awk_streams.proofs.OpeningsLemmas.{receives-none}
use Rattle.awk_streams.proofs.HeldLemmas.{place-receives, length-receives}
use Rattle.awk_streams.proofs.PlaceLemmas.{length-in_order, place_within}
use Rattle.awk_streams.proofs.StreamsLemmas.{but_held_numbered}
use Rattle.awk_streams.proofs.ViewLemmas.{keeps_as, brings_all, loses_bytes, fails_as, small_others}
use Rattle.awk_streams.proofs.EmptiedLemmas.{all_unheld_emptied, unheld_empty}
use Rattle.awk_streams.proofs.FlushLemmas.{only_more, some_as, some_then}

no_element : {T : Type 0} {P : Type 0} (x : T) → None ≡ Some x → P
no_element x e = cc

false_true : {P : Type 0} → false ≡ true → P
false_true e = cc

-- ---- all outputs

pub all_flushed : (before after : WorldState) (old new : StreamsView) (result : Result (Unit {0}) StreamFault) → new.main ≡ old.main → all_unheld new.named ≡ all_unheld old.named → BringsHeld before (held_of old) result after (held_of new) → OnOk result (HoldsNothing new) → OnOk result (AreFlushedBut [] after.log) →
    IfErr result (λ fault. FailsWith fault before after) → IfErr result IsOutputFault → FlushesAll before old result after new
all_flushed before after old new (Ok u) main same b empty flushed fails fault = record {
  grows = b.touches.grows;
  flushed = brings_all before after old new u main same b empty flushed;
  failure = b.no_failure;
}
all_flushed before after old new (Err e) main same b empty flushed fails (inl memory) =
    subst (λ (f : StreamFault). FlushesAll before old (Err f) after new) (sym memory) record {
      grows = b.touches.grows;
      flushed = loses_bytes before after old new (Err e) b;
      failure = subst (λ (f : StreamFault). FailsBy f before after) memory (fails_as before after e (inl memory) fails);
    }
all_flushed before after old new (Err e) main same b empty flushed fails (inr failed) =
    subst (λ (f : StreamFault). FlushesAll before old (Err f) after new) (sym failed) record {
      grows = b.touches.grows;
      flushed = loses_bytes before after old new (Err e) b;
      failure = subst (λ (f : StreamFault). FailsBy f before after) failed (fails_as before after e (inr failed) fails);
    }

pub all_is : (old new : StreamsView) (result : Result (Unit {0}) StreamFault) → new.main ≡ old.main → all_unheld new.named ≡ all_unheld old.named → OnOk result (HoldsNothing new) →
    OnOk result (new ≡ record { main = old.main; output = []; error = []; named = all_unheld old.named })
all_is old new (Ok u) main same h =
    let named : new.named ≡ all_unheld old.named = sym (unheld_empty new.named h.named) ∙ same in
    ap (λ m. record new { main = m }) main
    ∙ (ap (λ (b : List ℕ). record { main = old.main; output = b; error = new.error; named = new.named }) h.output
    ∙ (ap (λ (b : List ℕ). record { main = old.main; output = []; error = b; named = new.named }) h.error ∙ ap (λ (xs : List NamedStream). record { main = old.main; output = []; error = []; named = xs }) named))
all_is old new (Err e) main same h = tt

-- ---- what the others receive changes nothing of an opening

front_at : (xs ys : List Opening) (n : ℕ) → n < length xs → slice_get (xs ++ ys) n ≡ slice_get xs n
front_at [] ys n lt = absurd (omega arith)
front_at (x ∷ xs) ys zero lt = refl
front_at (x ∷ xs) ys (suc n) lt = front_at xs ys n (omega arith)

last_at : (xs : List Opening) (y : Opening) (n : ℕ) → n ≡ length xs → slice_get (xs ++ y ∷ []) n ≡ Some y
last_at [] y zero is = refl
last_at [] y (suc n) is = absurd (omega (arith, is))
last_at (x ∷ xs) y zero is = absurd (omega (arith, is))
last_at (x ∷ xs) y (suc n) is = last_at xs y n (omega (arith, is))

older_place : (id i n : ℕ) (o : Opening) (older : List (ℕ × Opening)) → i ≢ id → place_of id ((i, o) ∷ older) ≡ Some n → place_of id older ≡ Some n
older_place id i n o older differs is = sym (cond-false _ _ _ (ne_eqb i id differs)) ∙ is

received_elsewhere : (id j n : ℕ) (bytes : List ℕ) (os : List (ℕ × Opening)) → j ≢ id → place_of id os ≡ Some n → slice_get (in_order (receives j bytes os)) n ≡ slice_get (in_order os) n
received_elsewhere id j n bytes [] differs is = no_element n is
received_elsewhere id j n bytes ((i, o) ∷ older) differs is = elim (cases_eq i j) [
  | inl at_j ↦
      let there = older_place id i n o older (λ (e : i ≡ id). differs (sym at_j ∙ e)) is in
      let lt : n < length (in_order older) = omega (arith, place_within id n older there, length-in_order older) in
      ap (λ l. slice_get (in_order l) n) (cond-true _ _ _ (eq-eqb i j at_j)) ∙ (front_at (in_order older) (record { output = o.output; bytes = o.bytes ++ bytes } ∷ []) n lt ∙ sym (front_at (in_order older) (o ∷ []) n lt))
  | inr not_j ↦
      let later : receives j bytes ((i, o) ∷ older) ≡ (i, o) ∷ receives j bytes older = cond-false _ _ _ (ne_eqb i j not_j) in
      let long : length (in_order (receives j bytes older)) ≡ length (in_order older) = length-in_order (receives j bytes older) ∙ (length-receives j bytes older ∙ sym (length-in_order older)) in
      elim (cases_eq i id) [
        | inl here ↦
            let at : length older ≡ n = same_Some (length older) n (sym (cond-true _ _ _ (eq-eqb i id here)) ∙ is) in
            let size : n ≡ length (in_order older) = sym at ∙ sym (length-in_order older) in
            ap (λ l. slice_get (in_order l) n) later ∙ (last_at (in_order (receives j bytes older)) o n (size ∙ sym long) ∙ sym (last_at (in_order older) o n size))
        | inr not_id ↦
            let there = older_place id i n o older not_id is in
            let lt : n < length (in_order older) = omega (arith, place_within id n older there, length-in_order older) in
            ap (λ l. slice_get (in_order l) n) later
            ∙ (front_at (in_order (receives j bytes older)) (o ∷ []) n (omega (arith, long, lt)) ∙ (received_elsewhere id j n bytes older differs there ∙ sym (front_at (in_order older) (o ∷ []) n lt)))
      ]
]

-- under this number nothing is held back
abbrev HoldNoneUnder : ℕ → List (ℕ × List ℕ) → Type 0
HoldNoneUnder id [] = Unit {0}
HoldNoneUnder id (h ∷ hs) = (h.0 ≡ id → h.1 ≡ []) × HoldNoneUnder id hs

held_elsewhere : (id n : ℕ) (hs : List (ℕ × List ℕ)) (os : List (ℕ × Opening)) → HoldNoneUnder id hs → place_of id os ≡ Some n → slice_get (in_order (with_held hs os)) n ≡ slice_get (in_order os) n
held_elsewhere id n [] os none is = refl
held_elsewhere id n (h ∷ hs) os none is =
    held_elsewhere id n hs (receives h.0 h.1 os) none.1 (place-receives id h.0 h.1 os ∙ is) ∙ elim (cases_eq h.0 id) [
      | inl here ↦ ap (λ (b : List ℕ). slice_get (in_order (receives h.0 b os)) n) (none.0 here) ∙ ap (λ l. slice_get (in_order l) n) (receives-none h.0 os)
      | inr there ↦ received_elsewhere id h.0 n h.1 os there is
    ]

-- ---- the outputs of a text hold nothing back

none_other : (text : List ℕ) (id : ℕ) (xs : List NamedStream) → AreOthers id xs → HoldNoneUnder id (held_in (all_emptied text xs))
none_other text id [] others = tt
none_other text id (named.Input k n input ∷ xs) others = none_other text id xs others.1
none_other text id (named.Output k n o ∷ xs) others = (λ (e : o.id ≡ id). absurd (others.0 e), none_other text id xs others.1)

and_right : (a b : Bool) → (a && b) ≡ true → b ≡ true
and_right true b e = e
and_right false b e = false_true e

and_left : (a b : Bool) → (a && b) ≡ true → a ≡ true
and_left true b e = refl
and_left false b e = false_true e

or_else : (a b : Bool) → (a || b) ≡ true → a ≡ false → b ≡ true
or_else true b e is = false_true (sym is)
or_else false b e is = e

other_number : (text : List ℕ) (id : ℕ) (xs : List NamedStream) → AreOthers id xs → is_number_among text xs id ≡ true → ⊥
other_number text id [] others is = false_true is
other_number text id (x ∷ xs) others is = elim (cases_Bool (is_output_called text x && number_of x == id)) [
  | inl here ↦ others.0 (eqb-true (number_of x) id (and_right (is_output_called text x) (number_of x == id) here))
  | inr there ↦ other_number text id xs others.1 (or_else (is_output_called text x && number_of x == id) (is_number_among text xs id) is there)
]

none_among : (text : List ℕ) (id : ℕ) (xs : List NamedStream) → AreApart xs → is_number_among text xs id ≡ true → HoldNoneUnder id (held_in (all_emptied text xs))
none_among text id [] apart is = tt
none_among text id (named.Input k n input ∷ xs) apart is = none_among text id xs apart.1 is
none_among text id (named.Output k n o ∷ xs) apart is = elim (cases_Bool (bytes_eq n text && o.id == id)) [
  | inl here ↦
      let called : bytes_eq n text ≡ true = and_left (bytes_eq n text) (o.id == id) here in
      let same : o.id ≡ id = eqb-true o.id id (and_right (bytes_eq n text) (o.id == id) here) in
      (λ (e : o.id ≡ id). ap (λ (b : Bool). held_unless b o.held) called, none_other text id xs (subst (λ (j : ℕ). AreOthers j xs) same apart.0))
  | inr there ↦
      let later : is_number_among text xs id ≡ true = or_else (bytes_eq n text && o.id == id) (is_number_among text xs id) is there in
      (λ (e : o.id ≡ id). absurd (other_number text id xs (subst (λ (j : ℕ). AreOthers j xs) e apart.0) later), none_among text id xs apart.1 later)
]

none_standard : (world : WorldState) (text : List ℕ) (s : StreamsView) (id : ℕ) → AreOpen world s → is_standard_number text id ≡ true → HoldNoneUnder id (held_of (without_held text s))
none_standard world text s id open' is = elim (cases_Bool (is_standard_output text && id == 0)) [
  | inl out ↦
      let named : is_standard_output text ≡ true = and_left (is_standard_output text) (id == 0) out in
      let zero_is : id ≡ 0 = eqb-true id 0 (and_right (is_standard_output text) (id == 0) out) in (
        λ (e : 0 ≡ id). ap (λ (b : Bool). held_unless b s.output) named,
        (λ (e : 1 ≡ id). absurd (omega (arith, e, zero_is)), none_other text id s.named (small_others world id s.named (omega (arith, zero_is)) open'.named)),
      )
  | inr not_out ↦
      let err : (is_standard_error text && id == 1) ≡ true = or_else (is_standard_output text && id == 0) (is_standard_error text && id == 1) is not_out in
      let named : is_standard_error text ≡ true = and_left (is_standard_error text) (id == 1) err in
      let one_is : id ≡ 1 = eqb-true id 1 (and_right (is_standard_error text) (id == 1) err) in (
        λ (e : 0 ≡ id). absurd (omega (arith, e, one_is)),
        (λ (e : 1 ≡ id). ap (λ (b : Bool). held_unless b s.error) named, none_other text id s.named (small_others world id s.named (omega (arith, one_is)) open'.named)),
      )
]

none_under : (world : WorldState) (text : List ℕ) (s : StreamsView) (id : ℕ) → AreOpen world s → is_number_of text s id ≡ true → HoldNoneUnder id (held_of (without_held text s))
none_under world text s id open' is = elim (cases_Bool (is_standard_number text id)) [
  | inl standard ↦ none_standard world text s id open' standard
  | inr not_standard ↦
      let among : is_number_among text s.named id ≡ true = or_else (is_standard_number text id) (is_number_among text s.named id) is not_standard in
      let low : id < 2 → ⊥ = λ lt. other_number text id s.named (small_others world id s.named lt open'.named) among in
      (λ (e : 0 ≡ id). absurd (low (omega (arith, e))), (λ (e : 1 ≡ id). absurd (low (omega (arith, e))), none_among text id s.named open'.apart among))
]

-- ---- whether one is open, in the words of the language

or_true : (a : Bool) → (a || true) ≡ true
or_true true = refl
or_true false = refl

file_has : (b : Bool) (n : ℕ) (f g : Option ℕ) → (is_some (if b then Some n else f) || is_some g) ≡ (b || (is_some f || is_some g))
file_has true n f g = refl
file_has false n f g = refl

command_has : (b : Bool) (n : ℕ) (f g : Option ℕ) → (is_some f || is_some (if b then Some n else g)) ≡ (b || (is_some f || is_some g))
command_has true n f g = or_true (is_some f)
command_has false n f g = refl

output_has : (text : List ℕ) (k : OutputKind) (name : List ℕ) (opening : ℕ) (zs : List words.Stream) → words.has_output (words.AnOutput k name opening ∷ zs) text ≡ (bytes_eq name text || words.has_output zs text)
output_has text output.File name opening zs = file_has (bytes_eq name text) opening (words.opening_in zs output.File text) (words.opening_in zs output.Command text)
output_has text output.Command name opening zs = command_has (bytes_eq name text) opening (words.opening_in zs output.File text) (words.opening_in zs output.Command text)

has_as : (a : Oracle) (log : List Event) (text : List ℕ) (xs : List NamedStream) (zs : List words.Stream) → StandFor a log xs zs → words.has_output zs text ≡ list_any (is_output_called text) xs
has_as a log text [] [] h = refl
has_as a log text [] (z ∷ zs) h = absurd h
has_as a log text (x ∷ xs) [] h = absurd h
has_as a log text (named.Input k n input ∷ xs) (words.AnInput k' n' rest ∷ zs) h = has_as a log text xs zs h.1
has_as a log text (named.Output k n o ∷ xs) (words.AnOutput k' n' opening ∷ zs) h =
    output_has text k' n' opening zs ∙ (ap (λ (m : List ℕ). bytes_eq m text || words.has_output zs text) h.0.1 ∙ ap (λ (b : Bool). bytes_eq n text || b) (has_as a log text xs zs h.1))
has_as a log text (named.Input k n input ∷ xs) (words.AnOutput k' n' opening ∷ zs) h = absurd h.0
has_as a log text (named.Output k n o ∷ xs) (words.AnInput k' n' rest ∷ zs) h = absurd h.0

-- ---- the outputs of a text

-- first a standard output, then the named ones
pub text_some : (text : List ℕ) (before mid after : WorldState) (old s new : StreamsView) (u : Unit {0}) (result : Result (Unit {0}) StreamFault) → s ≡ standard_emptied text old → BringsSome (is_standard_number text) before old (Ok u) mid s → BringsSome (is_number_among text s.named) mid s result after new →
    BringsSome (is_number_of text old) before old result after new
text_some text before mid after old s new u result is f g =
    let same : s.named ≡ old.named = ap (λ (v : StreamsView). v.named) is in
    some_as (λ id. is_standard_number text id || is_number_among text s.named id) (is_number_of text old) before after old new result
    (λ id. ap (λ (xs : List NamedStream). is_standard_number text id || is_number_among text xs id) (sym same))
    (some_then (is_standard_number text) (is_number_among text s.named) before mid after old s new u result (ap all_unheld same) f g)

pub text_view : (text : List ℕ) (old s new : StreamsView) → s ≡ standard_emptied text old → new ≡ record s { named = all_emptied text s.named } → new ≡ without_held text old
text_view text old s new is later = later ∙ ap (λ (v : StreamsView). record v { named = all_emptied text v.named }) is

pub text_flushed : (text : List ℕ) (before after : WorldState) (old new : StreamsView) (is_open : Bool) (u : Unit {0}) → AreOpen before old → new ≡ without_held text old → is_open ≡ has_output_called text old → BringsSome (is_number_of text old) before old (Ok u) after new →
    FlushesText text before old (Ok is_open) after new
text_flushed text before after old new is_open u open' is has f =
    let main : new.main ≡ old.main = ap (λ (v : StreamsView). v.main) is in
    let kept : all_unheld new.named ≡ all_unheld old.named = ap (λ (v : StreamsView). all_unheld v.named) is ∙ all_unheld_emptied text old.named in
    record {
      grows = f.brings.touches.grows;
      only = f.only;
      flushed = record {
        found = λ a zs h. ap (λ (b : Bool). is_standard_output text || (is_standard_error text || b)) (has_as a before.log text old.named zs h) ∙ sym has;
        received = λ id opening here at.
            let none : HoldNoneUnder id (held_of new) = subst (λ (v : StreamsView). HoldNoneUnder id (held_of v)) (sym is) (none_under before text old id open' here) in
            sym (held_elsewhere id opening (held_of new) (openings after.log) none ((f.brings.touches.same id).place ∙ at)) ∙ ap (λ os. slice_get (in_order os) opening) f.brings.printed;
        flushed = f.flushed;
        main = main;
        numbers = but_held_numbered old.named new.named kept;
        printed = ap in_order f.brings.printed;
        counts = f.brings.touches.counts;
        same = keeps_as before after old new f.brings.touches.same main kept;
        no_failure = f.brings.no_failure;
      };
      failure = f.brings.no_failure;
    }

-- that failed
text_fails : (text : List ℕ) (before after : WorldState) (old new : StreamsView) (e : StreamFault) → IsOutputFault e → GoesOn (AreBringingTo (is_number_of text old)) before.log after.log → BringsHeld before (held_of old) (Err e) after (held_of new) → FailsBy e before after →
    FlushesText text before old (Err e) after new
text_fails text before after old new e (inl memory) only b fails =
    subst (λ (f : StreamFault). FlushesText text before old (Err f) after new) (sym memory) record {
      grows = b.touches.grows;
      only = only;
      flushed = loses_bytes before after old new (Err e) b;
      failure = subst (λ (f : StreamFault). FailsBy f before after) memory fails;
    }
text_fails text before after old new e (inr failed) only b fails =
    subst (λ (f : StreamFault). FlushesText text before old (Err f) after new) (sym failed) record {
      grows = b.touches.grows;
      only = only;
      flushed = loses_bytes before after old new (Err e) b;
      failure = subst (λ (f : StreamFault). FailsBy f before after) failed fails;
    }

pub text_unflushed : (text : List ℕ) (before after : WorldState) (old new : StreamsView) (e : StreamFault) → IsOutputFault e → BringsSome (is_number_of text old) before old (Err e) after new → FlushesText text before old (Err e) after new
text_unflushed text before after old new e fault f = text_fails text before after old new e fault f.only f.brings (fails_as before after e fault f.fails)

or_left : (a b : Bool) → a ≡ true → (a || b) ≡ true
or_left true b is = refl
or_left false b is = false_true is

pub standard_unflushed : (text : List ℕ) (before after : WorldState) (old new : StreamsView) (e : StreamFault) → IsOutputFault e → BringsSome (is_standard_number text) before old (Err e) after new → FlushesText text before old (Err e) after new
standard_unflushed text before after old new e fault f =
    text_fails text before after old new e fault (only_more (is_standard_number text) (is_number_of text old) (λ id is. or_left (is_standard_number text id) (is_number_among text old.named id) is) f.only) f.brings (fails_as before after e fault f.fails)
