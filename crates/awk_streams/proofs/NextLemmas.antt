-- The next record of a named input, among the streams that stand open.
use Rattle.std.proofs.Common.{◌≡◌, ◌≢◌, ◌≤◌, ℕ, zero, suc, true, false, List, [], ◌∷◌, ◌++◌, length, set, get_or, Option, Some, None, Result, Ok, refl, sym, ◌∙◌, ap, subst, arith}
use Rattle.std.specs.Prelude.{slice_get}
use Rattle.std.specs.List.{position}
use Rattle.std.proofs.lemmas.Option.{get_or_from_slice_get}
use Rattle.awk_record.specs.Cut.{cut_of}
use Rattle.awk_record.specs.declared.buffer.Step.{Step}
use Rattle.awk_record.specs.declared.buffer.Step.TheVariants.{NeedMore}
use Rattle.awk_record.specs.declared.buffer_fault.BufferFault.{BufferFault}
use Rattle.awk_world.specs.declared.world.InputKind.{InputKind}
use Rattle.awk_world.specs.definitions.Log.{Event}
use Rattle.awk_world.specs.definitions.Oracle.{Source}
use Rattle.awk_world.specs.definitions.WorldState.{WorldState, SameOpen}
use Rattle.awk_world.specs.definitions.Openings.{openings, in_order}
use Rattle.awk_streams.specs.declared.fault.StreamFault.{StreamFault}
use Rattle.awk_streams.specs.declared.input.Input.{Input}
use Rattle.awk_streams.specs.declared.input.NextNamed.{NextNamed}
use Rattle.awk_streams.specs.declared.named.NamedStream.{NamedStream}
use Rattle.awk_streams.specs.declared.named.NamedStream.TheVariants as named
use Rattle.awk_streams.specs.definitions.Named as words
use Rattle.awk_streams.specs.definitions.Streams.{StreamsView, number_of, name_of, numbered, AreOthers, AreApart, IsApartFrom, AreOpen, AreSound, IsSound, AreSoundNamed, AreOnce, StandFor, held_in, held_of, with_held, is_output_among}
use Rattle.awk_streams.specs.definitions.NamedInputs.{AsksNamed}
use Rattle.awk_streams.specs.support.Kept.{SameAt, SameForMain}
use Rattle.awk_streams.specs.support.Held.{is_an_output}
use Rattle.awk_streams.specs.support.Places.{is_named_input}
use Rattle.awk_streams.specs.support.Asks.{Takes, TakesNamed, IsNamedAs}
use Rattle.awk_streams.proofs.StreamsLemmas.{main_same, main_rest_same, sound_same, same_for_others, once_by}
use Rattle.awk_streams.proofs.NamesLemmas.{AllFail, first_found, first_at}
use Rattle.awk_streams.proofs.NamedLemmas.{open_at}
use Rattle.awk_streams.proofs.ViewLemmas.{keeps_open}
use Rattle.awk_streams.proofs.MainLemmas.{step_failure}
use Rattle.awk_streams.proofs.OwnedLemmas.{of_named_by}
use Rattle.awk_streams.proofs.AskLemmas.{named_next, named_memory, named_wants, named_not_write, reaches_openings, reaches_streams, reaches_others, reaches_flushed, reaches_open, asked_sound, asked_order, asked_rest}
use Rattle.awk_streams.proofs.InputCallLemmas.{rest_found, leaves_rest, same_input, back_fails, number_skip}

true_false : {P : Type 0} → true ≡ false → P
true_false e = cc

false_true : {P : Type 0} → false ≡ true → P
false_true e = cc

-- one stream in a list of them

others_here : (id : ℕ) (front back : List NamedStream) (x : NamedStream) → AreOthers id (front ++ x ∷ back) → id ≢ number_of x
others_here id [] back x h = λ (e : id ≡ number_of x). h.0 (sym e)
others_here id (y ∷ front) back x h = others_here id front back x h.1

pub apart_front : (front back : List NamedStream) (x : NamedStream) → AreApart (front ++ x ∷ back) → AreOthers (number_of x) front
apart_front [] back x h = tt
apart_front (y ∷ front) back x h = (others_here (number_of y) front back x h.0, apart_front front back x h.1)

pub apart_back : (front back : List NamedStream) (x : NamedStream) → AreApart (front ++ x ∷ back) → AreOthers (number_of x) back
apart_back [] back x h = h.0
apart_back (y ∷ front) back x h = apart_back front back x h.1

pub others_middle : (id : ℕ) (front back : List NamedStream) (x : NamedStream) → AreOthers id (front ++ x ∷ back) → number_of x ≢ id
others_middle id [] back x h = h.0
others_middle id (y ∷ front) back x h = others_middle id front back x h.1

pub sound_front : (log : List Event) (front back : List NamedStream) (x : NamedStream) → AreSoundNamed log (front ++ x ∷ back) → AreSoundNamed log front
sound_front log [] back x h = tt
sound_front log (y ∷ front) back x h = (h.0, sound_front log front back x h.1)

pub sound_here : (log : List Event) (front back : List NamedStream) (x : NamedStream) → AreSoundNamed log (front ++ x ∷ back) → IsSound log x
sound_here log [] back x h = h.0
sound_here log (y ∷ front) back x h = sound_here log front back x h.1

pub sound_back : (log : List Event) (front back : List NamedStream) (x : NamedStream) → AreSoundNamed log (front ++ x ∷ back) → AreSoundNamed log back
sound_back log [] back x h = h.1
sound_back log (y ∷ front) back x h = sound_back log front back x h.1

pub sound_join : (log : List Event) (front back : List NamedStream) (x : NamedStream) → AreSoundNamed log front → IsSound log x → AreSoundNamed log back → AreSoundNamed log (front ++ x ∷ back)
sound_join log [] back x f h b = (h, b)
sound_join log (y ∷ front) back x f h b = (f.0, sound_join log front back x f.1 h b)

numbered_middle : (front back : List NamedStream) (x y : NamedStream) → name_of y ≡ name_of x → number_of y ≡ number_of x → numbered (front ++ y ∷ back) ≡ numbered (front ++ x ∷ back)
numbered_middle [] back x y names numbers = ap (λ n. (n, number_of y) ∷ numbered back) names ∙ ap (λ n. (name_of x, n) ∷ numbered back) numbers
numbered_middle (z ∷ front) back x y names numbers = ap (λ l. (name_of z, number_of z) ∷ l) (numbered_middle front back x y names numbers)

length_middle : (front back : List NamedStream) (x y : NamedStream) → length (front ++ y ∷ back) ≡ length (front ++ x ∷ back)
length_middle [] back x y = refl
length_middle (z ∷ front) back x y = ap suc (length_middle front back x y)

held_middle : (front back : List NamedStream) (k k' : InputKind) (n n' : List ℕ) (input input' : Input) → held_in (front ++ named.Input k' n' input' ∷ back) ≡ held_in (front ++ named.Input k n input ∷ back)
held_middle [] back k k' n n' input input' = refl
held_middle (named.Input j m i ∷ front) back k k' n n' input input' = held_middle front back k k' n n' input input'
held_middle (named.Output j m o ∷ front) back k k' n n' input input' = ap (λ hs. (o.id, o.held) ∷ hs) (held_middle front back k k' n n' input input')

set_middle : (front back : List NamedStream) (x y : NamedStream) (i : ℕ) → length front ≡ i → set (front ++ x ∷ back) i y ≡ front ++ y ∷ back
set_middle [] back x y zero e = refl
set_middle [] back x y (suc i) e = absurd (omega (arith, e))
set_middle (z ∷ front) back x y zero e = absurd (omega (arith, e))
set_middle (z ∷ front) back x y (suc i) e = ap (λ l. z ∷ l) (set_middle front back x y i (omega (arith, e)))

pub main_others : (main : Option Input) (id : ℕ) (front back : List NamedStream) (x : NamedStream) (log log' : List Event) → number_of x ≡ id → IsApartFrom main (front ++ x ∷ back) → ((j : ℕ) → j ≢ id → SameAt j log log') → SameForMain main log log'
main_others None id front back x log log' is apart same = tt
main_others (Some input) id front back x log log' is apart same = same input.id (λ (e : input.id ≡ id). others_middle input.id front back x apart (is ∙ sym e))

-- the streams after an asking

next_sound : (separator : List ℕ) (before after : WorldState) (s : StreamsView) (front back : List NamedStream) (k k' : InputKind) (n n' : List ℕ) (old new : Input) (step : Result Step BufferFault) → s.named ≡ front ++ named.Input k n old ∷ back → AreOpen before s → AreSound before s → SameOpen before after →
    (k' ≡ k) × (n' ≡ n) × Takes separator before old step after new → AreSound after record s { named = front ++ named.Input k' n' new ∷ back }
next_sound separator before after s front back k k' n n' old new step is open' h same (kind, name, takes) =
    let x : NamedStream = named.Input k n old in
    let y : NamedStream = named.Input k' n' new in
    let apart = subst (λ (l : List NamedStream). AreApart l) is open'.apart in
    let sound = subst (λ (l : List NamedStream). AreSoundNamed before.log l) is h.named in
    let others : (j : ℕ) → j ≢ old.id → SameAt j before.log after.log = λ j differs. reaches_others old.id j separator old.pending takes.pulls.seen before.log after.log takes.pulls.reads differs in
    let here = sound_here before.log front back x sound in
    let names : name_of y ≡ name_of x = ap (λ (i : InputKind). words.Input i n') kind ∙ ap (λ (m : List ℕ). words.Input k m) name in
    let held : held_in (front ++ y ∷ back) ≡ held_in s.named = held_middle front back k k' n n' old new ∙ ap held_in (sym is) in
    record {
      order = asked_order separator before after k old new step same here takes h.order;
      main = main_same s.main before.log after.log (main_others s.main old.id front back x before.log after.log refl (subst (λ (l : List NamedStream). IsApartFrom s.main l) is open'.apart_from_main) others) h.main;
      named = sound_join after.log front back y (sound_same front before.log after.log (same_for_others old.id front before.log after.log others (apart_front front back x apart)) (sound_front before.log front back x sound))
          (subst (λ (i : InputKind). IsSound after.log (named.Input i n' new)) (sym kind) (asked_sound separator before after k old new step here takes))
          (sound_same back before.log after.log (same_for_others old.id back before.log after.log others (apart_back front back x apart)) (sound_back before.log front back x sound));
      once = once_by s.named (front ++ y ∷ back) (numbered_middle front back x y names takes.id ∙ ap numbered (sym is)) h.once;
      few = subst (λ (m : ℕ). m ≤ 200) (sym (length_middle front back x y ∙ ap length (sym is))) h.few;
      flushed = λ j other. reaches_flushed old.id j separator old.pending takes.pulls.seen before.log after.log takes.pulls.reads ∙ h.flushed j (ap (λ hs. is_output_among j ((0, s.output) ∷ (1, s.error) ∷ hs)) (sym held) ∙ other);
      owned = λ j no_main no_named.
          (reaches_streams old.id separator old.pending takes.pulls.seen before.log after.log takes.pulls.reads).stands j ∙
          h.owned j no_main (of_named_by j s.named (front ++ y ∷ back) (numbered_middle front back x y names takes.id ∙ ap numbered (sym is)) no_named);
    }

next_told : (kind : InputKind) (name separator : List ℕ) (before after : WorldState) (s : StreamsView) (front back : List NamedStream) (k k' : InputKind) (n n' : List ℕ) (old new : Input) (step : Result Step BufferFault) (result : Result NextNamed StreamFault) → s.named ≡ front ++ named.Input k n old ∷ back →
    AllFail (is_named_input kind name) front → is_named_input kind name (named.Input k n old) ≡ true → AreOpen before s → AreSound before s → step ≢ Ok NeedMore → (k' ≡ k) × (n' ≡ n) × Takes separator before old step after new → IsNamedAs step result →
    AsksNamed kind name separator before s result after record s { named = front ++ named.Input k' n' new ∷ back }
next_told kind name separator before after s front back k k' n n' old new step result is fails passes open' h needs (kind_is, name_is, takes) says =
    let x : NamedStream = named.Input k n old in
    let y : NamedStream = named.Input k' n' new in
    let apart = subst (λ (l : List NamedStream). AreApart l) is open'.apart in
    let sound = subst (λ (l : List NamedStream). AreSoundNamed before.log l) is h.named in
    let pulls = takes.pulls in
    let others : (j : ℕ) → j ≢ old.id → SameAt j before.log after.log = λ j differs. reaches_others old.id j separator old.pending pulls.seen before.log after.log pulls.reads differs in
    let here = sound_here before.log front back x sound in
    let names : name_of y ≡ name_of x = ap (λ (i : InputKind). words.Input i n') kind_is ∙ ap (λ (m : List ℕ). words.Input k m) name_is in
    let held : held_in (front ++ y ∷ back) ≡ held_in s.named = held_middle front back k k' n n' old new ∙ ap held_in (sym is) in
    let rest_fails = back_fails kind name front back k n old (same_input k kind n name passes) (subst (λ (l : List NamedStream). AreOnce l) is h.once) in
    record {
      grows = takes.grows;
      main = refl;
      numbers = numbered_middle front back x y names takes.id ∙ ap numbered (sym is);
      id = old.id;
      number = ap (λ l. words.number_among (numbered l) (words.Input kind name)) is ∙ number_skip kind name front back k n old fails passes;
      pending = old.pending;
      asked = λ a zs stand.
          let found = rest_found a before.log kind name front back k n old zs fails passes (subst (λ (l : List NamedStream). StandFor a before.log l zs) is stand) in
          record { whole = found.rest; is = found.is; source = found.stands.0; ending = found.stands.1; rest = found.stands.2 };
      reads = (pulls.seen, pulls.reads);
      readable = reaches_open old.id separator old.pending pulls.seen before.log after.log pulls.reads here.readable;
      printed = ap (λ hs. in_order (with_held ((0, s.output) ∷ (1, s.error) ∷ hs) (openings after.log))) held ∙ ap (λ os. in_order (with_held (held_of s) os)) (reaches_openings old.id separator old.pending pulls.seen before.log after.log pulls.reads);
      counts = (reaches_streams old.id separator old.pending pulls.seen before.log after.log pulls.reads).counts;
      answered = λ differs a main zs consistent stands.
          let all = subst (λ (l : List NamedStream). StandFor a before.log l zs) is stands.named in
          let found = rest_found a before.log kind name front back k n old zs fails passes all in
          let next = asked_rest separator before after old new step needs (λ memory. differs (named_memory step result says memory)) takes a found.rest consistent found.stands in
          let left : Source = record { bytes = next.0; ending = found.rest.ending } in
          let leaves = leaves_rest a before.log after.log kind name left front back k n old new zs fails passes rest_fails (same_for_others old.id front before.log after.log others (apart_front front back x apart)) (same_for_others old.id back before.log after.log others (apart_back front back x apart)) next.2 all in
          record {
            whole = found.rest;
            is = found.is;
            source = found.stands.0;
            ending = found.stands.1;
            rest = found.stands.2;
            left = next.0;
            told = named_next (cut_of separator found.rest.bytes found.rest.ending) step result found.rest.bytes next.0 says next.1;
            leaves = record {
              main = main_rest_same a s.main main before.log after.log (main_others s.main old.id front back x before.log after.log refl (subst (λ (l : List NamedStream). IsApartFrom s.main l) is open'.apart_from_main) others) stands.main;
              named = subst (λ (i : InputKind). StandFor a after.log (front ++ named.Input i n' new ∷ back) (words.with_rest_of kind name left zs)) (sym kind_is) (subst (λ (m : List ℕ). StandFor a after.log (front ++ named.Input k m new ∷ back) (words.with_rest_of kind name left zs)) (sym name_is) leaves);
            };
          };
      failure = step_failure before after step result (λ differs memory. differs (named_memory step result says memory)) (λ memory. named_wants step result says memory) (named_not_write step result says) takes.no_failure takes.failure;
    }

-- the same of the streams as the code has them

pub record NextAt (kind : InputKind) (name : List ℕ) (s : StreamsView) (place : ℕ) (x : NamedStream) : Type 0 where
  pub front : List NamedStream
  pub back : List NamedStream
  pub is : s.named ≡ front ++ x ∷ back
  pub fails : AllFail (is_named_input kind name) front
  pub passes : is_named_input kind name x ≡ true
  pub place_is : length front ≡ place
  pub at : slice_get s.named place ≡ Some x

pub next_at : (kind : InputKind) (name : List ℕ) (old s : StreamsView) (place : ℕ) (x : NamedStream) → s ≡ old → position (is_named_input kind name) old.named ≡ Some place → x ≡ get_or s.named place x → NextAt kind name s place x
next_at kind name old s place x is found at =
    let f = first_found (is_named_input kind name) s.named place (ap (λ (v : StreamsView). position (is_named_input kind name) v.named) is ∙ found) in
    let there = first_at (is_named_input kind name) s.named place f in
    let same : f.at ≡ x = sym (at ∙ get_or_from_slice_get s.named place f.at x there) in
    record {
      front = f.front;
      back = f.back;
      is = f.is ∙ ap (λ (z : NamedStream). f.front ++ z ∷ f.back) same;
      fails = f.fails;
      passes = ap (is_named_input kind name) (sym same) ∙ f.passes;
      place_is = f.place;
      at = there ∙ ap Some same;
    }

passing : (kind : InputKind) (name : List ℕ) (x : NamedStream) → is_named_input kind name x ≡ true → is_an_output x ≡ false
passing kind name (named.Input k n input) e = refl
passing kind name (named.Output k n output) e = false_true e

pub next_needs : (kind : InputKind) (name : List ℕ) (world : WorldState) (old s : StreamsView) (place : ℕ) (x : NamedStream) → s ≡ old → AreOpen world old → NextAt kind name s place x → (is_an_output x ≡ false) × (world.is_open (number_of x) ≡ true)
next_needs kind name world old s place x is open' at = (passing kind name x at.passes, (open_at world s.named place x (subst (λ (v : StreamsView). AreOpen world v) (sym is) open').named at.at).0)

set_is : (kind : InputKind) (name : List ℕ) (s : StreamsView) (place : ℕ) (x y : NamedStream) (at : NextAt kind name s place x) → set s.named place y ≡ at.front ++ y ∷ at.back
set_is kind name s place x y at = ap (λ l. set l place y) at.is ∙ set_middle at.front at.back x y place at.place_is

pub next_open : (kind : InputKind) (name : List ℕ) (before after : WorldState) (old s : StreamsView) (place : ℕ) (x y : NamedStream) → s ≡ old → AreOpen before old → NextAt kind name s place x → SameOpen before after → name_of y ≡ name_of x → number_of y ≡ number_of x → AreOpen after record s { named = set s.named place y }
next_open kind name before after old s place x y is open' at same names numbers =
    keeps_open before after s record s { named = set s.named place y } same refl (ap numbered (set_is kind name s place x y at) ∙ (numbered_middle at.front at.back x y names numbers ∙ ap numbered (sym at.is))) (subst (λ (v : StreamsView). AreOpen before v) (sym is) open')

pub next_of_sound : (kind : InputKind) (name separator : List ℕ) (before after : WorldState) (s : StreamsView) (place : ℕ) (x y : NamedStream) (step : Result Step BufferFault) → AreOpen before s → AreSound before s → NextAt kind name s place x → SameOpen before after → TakesNamed separator before x step after y →
    AreSound after record s { named = set s.named place y }
next_of_sound kind name separator before after s place (named.Input k n old) (named.Input k' n' new) step open' h at same takes =
    subst (λ (l : List NamedStream). AreSound after record s { named = l }) (sym (set_is kind name s place (named.Input k n old) (named.Input k' n' new) at))
    (next_sound separator before after s at.front at.back k k' n n' old new step at.is open' h same takes)
next_of_sound kind name separator before after s place (named.Input k n old) (named.Output k' n' new) step open' h at same takes = absurd takes
next_of_sound kind name separator before after s place (named.Output k n old) y step open' h at same takes = absurd takes

pub next_of_told : (kind : InputKind) (name separator : List ℕ) (before after : WorldState) (s : StreamsView) (place : ℕ) (x y : NamedStream) (step : Result Step BufferFault) (result : Result NextNamed StreamFault) → AreOpen before s → AreSound before s → NextAt kind name s place x → step ≢ Ok NeedMore →
    TakesNamed separator before x step after y → IsNamedAs step result → AsksNamed kind name separator before s result after record s { named = set s.named place y }
next_of_told kind name separator before after s place (named.Input k n old) (named.Input k' n' new) step result open' h at needs takes says =
    subst (λ (l : List NamedStream). AsksNamed kind name separator before s result after record s { named = l }) (sym (set_is kind name s place (named.Input k n old) (named.Input k' n' new) at))
    (next_told kind name separator before after s at.front at.back k k' n n' old new step result at.is at.fails at.passes open' h needs takes says)
next_of_told kind name separator before after s place (named.Input k n old) (named.Output k' n' new) step result open' h at needs takes says = absurd takes
next_of_told kind name separator before after s place (named.Output k n old) y step result open' h at needs takes says = absurd takes

pub next_call_sound : (kind : InputKind) (name separator : List ℕ) (before after : WorldState) (old s : StreamsView) (place : ℕ) (x y : NamedStream) (step : Result Step BufferFault) → s ≡ old → AreOpen before old → AreSound before old → NextAt kind name s place x → SameOpen before after →
    TakesNamed separator before x step after y → AreSound after record s { named = set s.named place y }
next_call_sound kind name separator before after old s place x y step is open' h at same takes =
    next_of_sound kind name separator before after s place x y step (subst (λ (v : StreamsView). AreOpen before v) (sym is) open') (subst (λ (v : StreamsView). AreSound before v) (sym is) h) at same takes

pub next_call_told : (kind : InputKind) (name separator : List ℕ) (before after : WorldState) (old s : StreamsView) (place : ℕ) (x y : NamedStream) (step : Result Step BufferFault) (result : Result NextNamed StreamFault) → s ≡ old → AreOpen before old → AreSound before old → NextAt kind name s place x →
    step ≢ Ok NeedMore → TakesNamed separator before x step after y → IsNamedAs step result → AsksNamed kind name separator before old result after record s { named = set s.named place y }
next_call_told kind name separator before after old s place x y step result is open' h at needs takes says =
    subst (λ (v : StreamsView). AsksNamed kind name separator before v result after record s { named = set s.named place y }) is
    (next_of_told kind name separator before after s place x y step result (subst (λ (v : StreamsView). AreOpen before v) (sym is) open') (subst (λ (v : StreamsView). AreSound before v) (sym is) h) at needs takes says)
