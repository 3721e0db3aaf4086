-- Flushing some of the outputs, step by step.
use Rattle.std.proofs.Common.{◌≡◌, inl, inr, ℕ, zero, suc, Bool, true, false, List, [], ◌∷◌, ◌++◌, take, set, Option, Some, Result, Ok, Err, refl, sym, ◌∙◌, ap, subst}
use Rattle.std.specs.Prelude.{OnOk, slice_get, bytes_eq, codes, ◌==◌, ◌&&◌, ◌||◌}
use Rattle.std.proofs.lemmas.Slice.Eq.{bytes_eq-Decides}
use Rattle.std.proofs.lemmas.Bool.{eq-eqb, eqb-true, cases_eq}
use Rattle.awk_world.specs.declared.world.InputKind.{InputKind}
use Rattle.awk_world.specs.declared.world.OutputKind.{OutputKind}
use Rattle.awk_world.specs.definitions.Log.{Event, Wrote, Flushed}
use Rattle.awk_world.specs.definitions.Orderly.{IsWritable}
use Rattle.awk_world.specs.definitions.Writes.{with_events, GoesOn}
use Rattle.awk_world.specs.definitions.WorldState.{WorldState, SameOpen}
use Rattle.awk_world.specs.definitions.Openings.{is_flushed}
use Rattle.awk_streams.specs.declared.fault.StreamFault.{StreamFault}
use Rattle.awk_streams.specs.declared.input.Input.{Input}
use Rattle.awk_streams.specs.declared.output.Output.{Output}
use Rattle.awk_streams.specs.declared.named.NamedStream.{NamedStream}
use Rattle.awk_streams.specs.declared.named.NamedStream.TheVariants as named
use Rattle.awk_streams.specs.definitions.Streams.{StreamsView, AreOpen, AreSound, number_of, held_of, is_output_among, AreBringing, unheld, all_unheld}
use Rattle.awk_streams.specs.definitions.Flushes.{is_standard_output, is_standard_error, is_output_called, is_number_among, is_standard_number, AreBringingTo}
use Rattle.awk_streams.specs.definitions.Outputs.{WritesAndFlushes, FailsWith, FailsAtOutput}
use Rattle.awk_streams.specs.support.Kept.{AreOfOutput}
use Rattle.awk_streams.specs.support.Held.{ChangesHeld, held_by}
use Rattle.awk_streams.specs.support.Brings.{FlushesNamed, BringsHeld}
use Rattle.awk_streams.specs.support.Flushing.{BringsSome, BringsSomeTo, is_number_at, emptied_to, emptied_at}
use Rattle.awk_streams.proofs.GrowsLemmas.{with_events-append}
use Rattle.awk_streams.proofs.WritingLemmas.{fails_with, fails_with_later}
use Rattle.awk_streams.proofs.LeavesLemmas.{of_output_flushed, flushed_here}
use Rattle.awk_streams.proofs.BringLemmas.{on_ok, brings-self, brings-then, flush_brings, flush_events, flush_log, flush_of}
use Rattle.awk_streams.proofs.StreamsLemmas.{but_held_numbered}
use Rattle.awk_streams.proofs.NamedLemmas.{among_at, sound_at, unheld_set}
use Rattle.awk_streams.proofs.ViewLemmas.{keeps_open, keeps_sound, same_among, step_output, step_error}
use Rattle.awk_streams.proofs.PrintLemmas.{change_at, two_true}
use Rattle.awk_streams.proofs.EmptiedLemmas.{unheld_emptied_to, emptied_next, emptied_to_get, among_next}
use Rattle.std.proofs.lemmas.Result.{IfErr-weaker}

-- events that bring bytes to some outputs

-- are events that bring bytes
pub to_some_bringing : (among : ℕ → Bool) (es : List Event) → AreBringingTo among es → AreBringing es
to_some_bringing among [] h = tt
to_some_bringing among (Wrote id bytes ∷ es) h = to_some_bringing among es h.1
to_some_bringing among (Flushed id ∷ es) h = to_some_bringing among es h.1
to_some_bringing among (e ∷ es) h = absurd h

to_more : (p q : ℕ → Bool) (es : List Event) → ((id : ℕ) → p id ≡ true → q id ≡ true) → AreBringingTo p es → AreBringingTo q es
to_more p q [] more h = tt
to_more p q (Wrote id bytes ∷ es) more h = (more id h.0, to_more p q es more h.1)
to_more p q (Flushed id ∷ es) more h = (more id h.0, to_more p q es more h.1)
to_more p q (e ∷ es) more h = absurd h

to_some-append : (p : ℕ → Bool) (es fs : List Event) → AreBringingTo p es → AreBringingTo p fs → AreBringingTo p (es ++ fs)
to_some-append p [] fs h k = k
to_some-append p (Wrote id bytes ∷ es) fs h k = (h.0, to_some-append p es fs h.1 k)
to_some-append p (Flushed id ∷ es) fs h k = (h.0, to_some-append p es fs h.1 k)
to_some-append p (e ∷ es) fs h k = absurd h

of_output_to : (p : ℕ → Bool) (id : ℕ) (es : List Event) → p id ≡ true → AreOfOutput id es → AreBringingTo p es
of_output_to p id [] is h = tt
of_output_to p id (Wrote i bytes ∷ es) is h = (ap p h.0 ∙ is, of_output_to p id es is h.1)
of_output_to p id (Flushed i ∷ es) is h = (ap p h.0 ∙ is, of_output_to p id es is h.1)
of_output_to p id (e ∷ es) is h = absurd h

pub only_more : {x y : List Event} (p q : ℕ → Bool) → ((id : ℕ) → p id ≡ true → q id ≡ true) → GoesOn (AreBringingTo p) x y → GoesOn (AreBringingTo q) x y
only_more p q more g = record { events = g.events; log = g.log; each = to_more p q g.events more g.each }

only_then : {x y z : List Event} (p : ℕ → Bool) → GoesOn (AreBringingTo p) x y → GoesOn (AreBringingTo p) y z → GoesOn (AreBringingTo p) x z
only_then {x = x} p g h = record {
  events = g.events ++ h.events;
  log = h.log ∙ (ap (with_events h.events) g.log ∙ sym (with_events-append g.events h.events x));
  each = to_some-append p g.events h.events g.each h.each;
}

-- tests

or_left : (a b : Bool) → a ≡ true → (a || b) ≡ true
or_left true b e = refl
or_left false b e = absurd cc

or_right : (a b : Bool) → b ≡ true → (a || b) ≡ true
or_right true b e = refl
or_right false b e = e

or_either : (P : Type 0) (a b : Bool) → (a || b) ≡ true → (a ≡ true → P) → (b ≡ true → P) → P
or_either P true b e f g = f refl
or_either P false b e f g = g e

and_true : (a b : Bool) → a ≡ true → b ≡ true → (a && b) ≡ true
and_true true b e f = f
and_true false b e f = absurd cc

and_right : (a b : Bool) → (a && b) ≡ true → b ≡ true
and_right true b e = e
and_right false b e = absurd cc

false_true : {P : Type 0} → false ≡ true → P
false_true e = cc

-- nothing was to be flushed
pub some_none : (among : ℕ → Bool) (world : WorldState) (s : StreamsView) (u : Unit {0}) → ((id : ℕ) → among id ≡ false) → BringsSome among world s (Ok u) world s
some_none among world s u none = record {
  brings = brings-self world (held_of s) u;
  only = record { events = []; log = refl; each = tt };
  flushed = λ id is. false_true (sym (none id) ∙ is);
  stays = λ id is. is;
  fails = tt;
}

-- one output was flushed

one_flushed : (among : ℕ → Bool) (id : ℕ) (held : List ℕ) (before after : WorldState) (result : Result (Unit {0}) StreamFault) → ((j : ℕ) → among j ≡ true → j ≡ id) → WritesAndFlushes id held before result after →
    OnOk result ((j : ℕ) → among j ≡ true → is_flushed j after.log ≡ true)
one_flushed among id held before after (Ok u) only w = λ j is.
    subst (λ (i : ℕ). is_flushed i after.log ≡ true) (sym (only j is)) (ap (is_flushed id) w.adds ∙ flushed_here id w.written)
one_flushed among id held before after (Err e) only w = tt

one_stays : (id : ℕ) (held : List ℕ) (before after : WorldState) (result : Result (Unit {0}) StreamFault) → WritesAndFlushes id held before result after →
    OnOk result ((j : ℕ) → is_flushed j before.log ≡ true → is_flushed j after.log ≡ true)
one_stays id held before after (Ok u) w = λ j is. elim (cases_eq id j) [
  | inl same ↦ subst (λ (i : ℕ). is_flushed i after.log ≡ true) same (ap (is_flushed id) w.adds ∙ flushed_here id w.written)
  | inr differs ↦ ap (is_flushed j) (flush_log w) ∙ (of_output_flushed id j (flush_events w) before.log (flush_of w) differs ∙ is)
]
one_stays id held before after (Err e) w = tt

some_one : (among : ℕ → Bool) (id : ℕ) (held : List ℕ) (before after : WorldState) (old new : StreamsView) (result : Result (Unit {0}) StreamFault) → among id ≡ true → ((j : ℕ) → among j ≡ true → j ≡ id) → BringsHeld before (held_of old) result after (held_of new) →
    WritesAndFlushes id held before result after → BringsSome among before old result after new
some_one among id held before after old new result is only b w = record {
  brings = b;
  only = record { events = flush_events w; log = flush_log w; each = of_output_to among id (flush_events w) is (flush_of w) };
  flushed = one_flushed among id held before after result only w;
  stays = one_stays id held before after result w;
  fails = IfErr-weaker result (λ e. FailsAtOutput id e before after) (λ e. FailsWith e before after) (λ e f. fails_with id e before after f) w.fails;
}

-- one stretch after another

then_flushed : (p q : ℕ → Bool) (mid after : List Event) (result : Result (Unit {0}) StreamFault) → ((id : ℕ) → p id ≡ true → is_flushed id mid ≡ true) → OnOk result ((id : ℕ) → q id ≡ true → is_flushed id after ≡ true) →
    OnOk result ((id : ℕ) → is_flushed id mid ≡ true → is_flushed id after ≡ true) → OnOk result ((id : ℕ) → (p id || q id) ≡ true → is_flushed id after ≡ true)
then_flushed p q mid after (Ok u) first second stays = λ id is. or_either (is_flushed id after ≡ true) (p id) (q id) is (λ here. stays id (first id here)) (second id)
then_flushed p q mid after (Err e) first second stays = tt

pub some_then : (p q : ℕ → Bool) (before mid after : WorldState) (old s new : StreamsView) (u : Unit {0}) (result : Result (Unit {0}) StreamFault) → all_unheld s.named ≡ all_unheld old.named → BringsSome p before old (Ok u) mid s → BringsSome q mid s result after new →
    BringsSome (λ id. p id || q id) before old result after new
some_then p q before mid after old s new u result same f g = record {
  brings = brings-then (Ok u) result (λ j. same_among j old s same) f.brings g.brings;
  only = only_then (λ id. p id || q id) (only_more p (λ id. p id || q id) (λ id is. or_left (p id) (q id) is) f.only) (only_more q (λ id. p id || q id) (λ id is. or_right (p id) (q id) is) g.only);
  flushed = then_flushed p q mid.log after.log result f.flushed g.flushed g.stays;
  stays = on_ok result (λ (h : (id : ℕ) → is_flushed id mid.log ≡ true → is_flushed id after.log ≡ true) (id : ℕ) (is : is_flushed id before.log ≡ true). h id (f.stays id is)) g.stays;
  fails = IfErr-weaker result (λ e. FailsWith e mid after) (λ e. FailsWith e before after) (λ e h. fails_with_later e before mid after f.brings.no_failure h) g.fails;
}

-- of the same numbers
pub some_as : (p q : ℕ → Bool) (before after : WorldState) (old new : StreamsView) (result : Result (Unit {0}) StreamFault) → ((id : ℕ) → q id ≡ p id) → BringsSome p before old result after new → BringsSome q before old result after new
some_as p q before after old new result same f = record {
  brings = f.brings;
  only = only_more p q (λ id is. same id ∙ is) f.only;
  flushed = on_ok result (λ (h : (id : ℕ) → p id ≡ true → is_flushed id after.log ≡ true) (id : ℕ) (is : q id ≡ true). h id (sym (same id) ∙ is)) f.flushed;
  stays = f.stays;
  fails = f.fails;
}

-- the steps, for each world and for one that tells its log

pub flush_standard_output : (L : Type 0) (before after : WorldState) (s : StreamsView) (held : List ℕ) (result : Result (Unit {0}) StreamFault) → AreOpen before s → (L → AreSound before s) → SameOpen before after → held ≡ [] → (L → WritesAndFlushes 0 s.output before result after) →
    BringsSomeTo L (λ id. id == 0) before s result after record s { output = held }
flush_standard_output L before after s held result open' sound same none w =
    let step = step_output L before after s held result open' sound same none w in
    record {
      open_as = step.open_as;
      sound = step.sound;
      told = λ t. some_one (λ id. id == 0) 0 s.output before after s record s { output = held } result refl (λ j e. eqb-true j 0 e) (step.told t) (w t);
    }

pub flush_standard_error : (L : Type 0) (before after : WorldState) (s : StreamsView) (held : List ℕ) (result : Result (Unit {0}) StreamFault) → AreOpen before s → (L → AreSound before s) → SameOpen before after → held ≡ [] → (L → WritesAndFlushes 1 s.error before result after) →
    BringsSomeTo L (λ id. id == 1) before s result after record s { error = held }
flush_standard_error L before after s held result open' sound same none w =
    let step = step_error L before after s held result open' sound same none w in
    record {
      open_as = step.open_as;
      sound = step.sound;
      told = λ t. some_one (λ id. id == 1) 1 s.error before after s record s { error = held } result refl (λ j e. eqb-true j 1 e) (step.told t) (w t);
    }

-- by the text

some_to_as : (L : Type 0) (p q : ℕ → Bool) (before after : WorldState) (old new : StreamsView) (result : Result (Unit {0}) StreamFault) → ((id : ℕ) → q id ≡ p id) → BringsSomeTo L p before old result after new → BringsSomeTo L q before old result after new
some_to_as L p q before after old new result same f = record { open_as = f.open_as; sound = f.sound; told = λ t. some_as p q before after old new result same (f.told t) }

not_error : (text : List ℕ) → is_standard_output text ≡ true → is_standard_error text ≡ false
not_error text is =
    let same : text ≡ codes "/dev/stdout" = (bytes_eq-Decides text (codes "/dev/stdout")).0 is in
    ap is_standard_error same

first_test : (b c x y : Bool) → b ≡ true → c ≡ false → ((b && x) || (c && y)) ≡ x
first_test true false true y e f = refl
first_test true false false y e f = refl
first_test false c x y e f = false_true e
first_test true true x y e f = false_true (sym f)

second_test : (b c x y : Bool) → b ≡ false → c ≡ true → ((b && x) || (c && y)) ≡ y
second_test false true x y e f = refl
second_test true c x y e f = false_true (sym e)
second_test false false x y e f = false_true f

no_test : (b c x y : Bool) → b ≡ false → c ≡ false → ((b && x) || (c && y)) ≡ false
no_test false false x y e f = refl
no_test true c x y e f = false_true (sym e)
no_test false true x y e f = false_true (sym f)

pub text_of_output : (L : Type 0) (text : List ℕ) (before after : WorldState) (old s : StreamsView) (held : List ℕ) (result : Result (Unit {0}) StreamFault) → s ≡ old → is_standard_output text ≡ true → AreOpen before old → (L → AreSound before old) → SameOpen before after → held ≡ [] →
    (L → WritesAndFlushes 0 s.output before result after) → BringsSomeTo L (is_standard_number text) before old result after record s { output = held }
text_of_output L text before after old s held result is out open' sound same none w =
    let new : StreamsView = record s { output = held } in
    some_to_as L (λ id. id == 0) (is_standard_number text) before after old new result (λ id. first_test (is_standard_output text) (is_standard_error text) (id == 0) (id == 1) out (not_error text out))
    (subst (λ (v : StreamsView). BringsSomeTo L (λ id. id == 0) before v result after new) is
    (flush_standard_output L before after s held result (subst (λ (v : StreamsView). AreOpen before v) (sym is) open') (λ t. subst (λ (v : StreamsView). AreSound before v) (sym is) (sound t)) same none w))

pub text_of_error : (L : Type 0) (text : List ℕ) (before after : WorldState) (old s : StreamsView) (held : List ℕ) (result : Result (Unit {0}) StreamFault) → s ≡ old → is_standard_output text ≡ false → is_standard_error text ≡ true → AreOpen before old → (L → AreSound before old) → SameOpen before after → held ≡ [] →
    (L → WritesAndFlushes 1 s.error before result after) → BringsSomeTo L (is_standard_number text) before old result after record s { error = held }
text_of_error L text before after old s held result is not_out err open' sound same none w =
    let new : StreamsView = record s { error = held } in
    some_to_as L (λ id. id == 1) (is_standard_number text) before after old new result (λ id. second_test (is_standard_output text) (is_standard_error text) (id == 0) (id == 1) not_out err)
    (subst (λ (v : StreamsView). BringsSomeTo L (λ id. id == 1) before v result after new) is
    (flush_standard_error L before after s held result (subst (λ (v : StreamsView). AreOpen before v) (sym is) open') (λ t. subst (λ (v : StreamsView). AreSound before v) (sym is) (sound t)) same none w))

pub text_of_none : (text : List ℕ) (world : WorldState) (s : StreamsView) (u : Unit {0}) → is_standard_output text ≡ false → is_standard_error text ≡ false → BringsSome (is_standard_number text) world s (Ok u) world s
text_of_none text world s u not_out not_err = some_none (is_standard_number text) world s u (λ id. no_test (is_standard_output text) (is_standard_error text) (id == 0) (id == 1) not_out not_err)

input_output : {P : Type 0} (k : InputKind) (n : List ℕ) (input : Input) (k' : OutputKind) (n' : List ℕ) (output : Output) → named.Input k n input ≡ named.Output k' n' output → P
input_output k n input k' n' output e = cc

pub flush_named : (L : Type 0) (text : List ℕ) (before after : WorldState) (s : StreamsView) (i : ℕ) (x y : NamedStream) (result : Result (Unit {0}) StreamFault) → slice_get s.named i ≡ Some x → is_output_called text x ≡ true → AreOpen before s → (L → AreSound before s) → SameOpen before after →
    unheld y ≡ unheld x → held_by y ≡ [] → (L → FlushesNamed x before result after) → BringsSomeTo L (is_number_at text (Some x)) before s result after record s { named = set s.named i y }
flush_named L text before after s i (named.Input k n input) y result at called open' sound same kept none w = false_true called
flush_named L text before after s i (named.Output k n o) (named.Input k' n' input) result at called open' sound same kept none w = input_output k' n' input k n record { id = o.id; held = [] } kept
flush_named L text before after s i (named.Output k n o) (named.Output k' n' o') result at called open' sound same kept none w =
    let x : NamedStream = named.Output k n o in
    let y : NamedStream = named.Output k' n' o' in
    let new : StreamsView = record s { named = set s.named i y } in
    let id : o'.id ≡ o.id = ap number_of kept in
    let kept' : all_unheld new.named ≡ all_unheld s.named = unheld_set s.named i x y at kept in
    let among : is_output_among o.id (held_of s) ≡ true = ap (λ b. 0 == o.id || (1 == o.id || b)) (among_at s.named i k n o at) ∙ two_true (0 == o.id) (1 == o.id) in
    let change : ChangesHeld o.id o.held [] (held_of s) (held_of new) = subst (λ (h : List ℕ). ChangesHeld o.id o.held h (held_of s) (held_of new)) none (change_at before s i k k' n n' o o' open' at id) in
    let writable : (t : L) → IsWritable o.id before.log = λ t. inr (k, sound_at before.log s.named i x (sound t).named at) in
    let brings : (t : L) → BringsHeld before (held_of s) result after (held_of new) = λ t. flush_brings change (w t) among (writable t) same in
    let here : is_number_at text (Some x) o.id ≡ true = and_true (bytes_eq n text) (o.id == o.id) called (eq-eqb o.id o.id refl) in
    record {
      open_as = keeps_open before after s new same refl (but_held_numbered s.named new.named kept') open';
      sound = λ t. keeps_sound before after s new (brings t).touches refl kept' (sound t);
      told = λ t. some_one (is_number_at text (Some x)) o.id o.held before after s new result here (λ j is. sym (eqb-true o.id j (and_right (bytes_eq n text) (o.id == j) is))) (brings t) (w t);
    }

-- a stream in a place

pub flush_at : (L : Type 0) (text : List ℕ) (before after : WorldState) (old s : StreamsView) (i : ℕ) (x y : NamedStream) (result : Result (Unit {0}) StreamFault) → s ≡ old → slice_get old.named i ≡ Some x → is_output_called text x ≡ true → AreOpen before old → (L → AreSound before old) → SameOpen before after →
    unheld y ≡ unheld x → held_by y ≡ [] → (L → FlushesNamed x before result after) → BringsSomeTo L (is_number_at text (slice_get old.named i)) before old result after record s { named = set s.named i y }
flush_at L text before after old s i x y result is at called open' sound same kept none w =
    let at' : slice_get s.named i ≡ Some x = ap (λ (v : StreamsView). slice_get v.named i) is ∙ at in
    let new : StreamsView = record s { named = set s.named i y } in
    let here : BringsSomeTo L (is_number_at text (Some x)) before s result after new = flush_named L text before after s i x y result at' called (subst (λ (v : StreamsView). AreOpen before v) (sym is) open') (λ t. subst (λ (v : StreamsView). AreSound before v) (sym is) (sound t)) same kept none w in
    subst (λ (v : StreamsView). BringsSomeTo L (is_number_at text (slice_get v.named i)) before v result after new) is
    (subst (λ (o : Option NamedStream). BringsSomeTo L (is_number_at text o) before s result after new) (sym at') here)

pub not_at : (text : List ℕ) (world : WorldState) (s : StreamsView) (i : ℕ) (x : NamedStream) (u : Unit {0}) → slice_get s.named i ≡ Some x → is_output_called text x ≡ false → BringsSome (is_number_at text (slice_get s.named i)) world s (Ok u) world s
not_at text world s i x u at other =
    some_none (is_number_at text (slice_get s.named i)) world s u (λ id. ap (λ (o : Option NamedStream). is_number_at text o id) at ∙ ap (λ (b : Bool). b && number_of x == id) other)

-- as far as the streams in front of a place

pub view_next : (text : List ℕ) (i : ℕ) (old s new : StreamsView) → s ≡ record old { named = emptied_to i text old.named } → new ≡ record s { named = emptied_at i text s.named } → new ≡ record old { named = emptied_to (suc i) text old.named }
view_next text i old s new is later = later ∙ (ap (λ (v : StreamsView). record v { named = emptied_at i text v.named }) is ∙ ap (λ (xs : List NamedStream). record old { named = xs }) (emptied_next i text old.named))

pub some_next : (text : List ℕ) (i : ℕ) (before mid after : WorldState) (old s new : StreamsView) (result : Result (Unit {0}) StreamFault) → s ≡ record old { named = emptied_to i text old.named } → BringsSome (is_number_among text (take i old.named)) before old (Ok tt) mid s →
    BringsSome (is_number_at text (slice_get s.named i)) mid s result after new → BringsSome (is_number_among text (take (suc i) old.named)) before old result after new
some_next text i before mid after old s new result is f g =
    let at : slice_get s.named i ≡ slice_get old.named i = ap (λ (v : StreamsView). slice_get v.named i) is ∙ emptied_to_get i text old.named in
    let kept : all_unheld s.named ≡ all_unheld old.named = ap (λ (v : StreamsView). all_unheld v.named) is ∙ unheld_emptied_to i text old.named in
    some_as (λ id. is_number_among text (take i old.named) id || is_number_at text (slice_get s.named i) id) (is_number_among text (take (suc i) old.named)) before after old new result
    (λ id. among_next i text old.named id ∙ ap (λ (o : Option NamedStream). is_number_among text (take i old.named) id || is_number_at text o id) (sym at))
    (some_then (is_number_among text (take i old.named)) (is_number_at text (slice_get s.named i)) before mid after old s new tt result kept f g)

among_front : (text : List ℕ) (i : ℕ) (xs : List NamedStream) (id : ℕ) → is_number_among text (take i xs) id ≡ true → is_number_among text xs id ≡ true
among_front text zero xs id is = false_true is
among_front text (suc i) [] id is = is
among_front text (suc i) (x ∷ xs) id is =
    let here : Bool = is_output_called text x && number_of x == id in
    or_either ((here || is_number_among text xs id) ≡ true) here (is_number_among text (take i xs) id) is (or_left here (is_number_among text xs id)) (λ later. or_right here (is_number_among text xs id) (among_front text i xs id later))

-- a failure there is one of all
pub some_failed : (text : List ℕ) (i : ℕ) (before after : WorldState) (old new : StreamsView) (e : StreamFault) → BringsSome (is_number_among text (take i old.named)) before old (Err e) after new → BringsSome (is_number_among text old.named) before old (Err e) after new
some_failed text i before after old new e f = record {
  brings = f.brings;
  only = only_more (is_number_among text (take i old.named)) (is_number_among text old.named) (among_front text i old.named) f.only;
  flushed = tt;
  stays = tt;
  fails = f.fails;
}
