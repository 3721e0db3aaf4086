-- Streams that are opened, and openings that are refused.
use Rattle.std.proofs.Common.{◌≡◌, ◌≢◌, ◌≤◌, ◌<◌, inl, inr, ℕ, Bool, true, false, List, [], ◌∷◌, ◌++◌, length, Option, Some, None, refl, sym, ◌∙◌, ap, subst, arith}
use Rattle.std.specs.Prelude.{is_some, ◌||◌, ◌==◌, ◌+◌, get_or, slice_get}
use Rattle.std.proofs.lemmas.Option.{slice_get-get_or}
use Rattle.std.proofs.Math.Seq.{get_or-append_seam}
use Rattle.std.proofs.lemmas.Bool.{cond-true, cond-false, ne_eqb, eq-eqb, cases_eq}
use Rattle.std.proofs.lemmas.List.{length-append}
use Rattle.awk_world.specs.declared.world.InputKind.{InputKind}
use Rattle.awk_world.specs.declared.world.OutputKind.{OutputKind}
use Rattle.awk_world.specs.declared.world.Mode.{Mode}
use Rattle.awk_world.specs.definitions.Log.{Event, DidNot, OpenedInput, OpenedOutput}
use Rattle.awk_world.specs.declared.world.WorldFault.TheVariants.{Memory as WorldMemory}
use Rattle.awk_world.specs.definitions.Oracle.{Standing, standing, new_reading}
use Rattle.awk_world.specs.definitions.Orderly.{IsFree, IsOrderlyAt, IsInOrder}
use Rattle.awk_world.specs.definitions.WorldState.{WorldState, Logs, SameOpen, IsFresh, Opens}
use Rattle.awk_world.specs.definitions.Openings.{is_flushed}
use Rattle.awk_streams.specs.declared.input.Input.{Input}
use Rattle.awk_streams.specs.declared.named.NamedStream.{NamedStream}
use Rattle.awk_streams.specs.declared.named.NamedStream.TheVariants as named
use Rattle.awk_streams.specs.definitions.Named as words
use Rattle.awk_streams.specs.definitions.Streams.{StreamsView, number_of, name_of, IsOpenMain, AreOpenNamed, AreOthers, AreApart, IsApartFrom, AreOpen, held_in, is_output_among, IsSoundInput, IsSound, AreSoundNamed, HaveOtherNames, AreOnce, AreSound}
use Rattle.awk_streams.specs.support.Kept.{SameAt, SameFor, SameForMain}
use Rattle.awk_streams.specs.support.Asks.{FindsNoMemory, new_output, new_input}
use Rattle.awk_record.specs.Cut.{Ending}
use Rattle.awk_record.specs.Buffer.{Pending}
use Rattle.awk_streams.specs.definitions.Streams.{numbered}
use Rattle.awk_streams.specs.support.Places.{is_named_input, is_named_output}
use Rattle.awk_streams.proofs.OwnedLemmas.{is_other, of_first, of_last}
use Rattle.awk_streams.proofs.GrowsLemmas.{Grows-self, logs_grow, failed_there}
use Rattle.awk_streams.proofs.NamesLemmas.{AllFail}
use Rattle.awk_streams.proofs.ViewLemmas.{keeps_open}
use Rattle.awk_streams.proofs.StreamsLemmas.{main_same, sound_same, same_for_all, same_for_others, same_for_main}

true_false : {P : Type 0} → true ≡ false → P
true_false e = cc

false_true : {P : Type 0} → false ≡ true → P
false_true e = cc

-- what stands open in a world

pub opens_keep : (before after : WorldState) (id j : ℕ) → Opens before after id → before.is_open j ≡ true → after.is_open j ≡ true
opens_keep before after id j opens is = elim (cases_eq j id) [
  | inl same ↦ opens j ∙ cond-true _ _ _ (eq-eqb j id same)
  | inr differs ↦ opens j ∙ (cond-false _ _ _ (ne_eqb j id differs) ∙ is)
]

pub opens_here : (before after : WorldState) (id : ℕ) → Opens before after id → after.is_open id ≡ true
opens_here before after id opens = opens id ∙ cond-true _ _ _ (eq-eqb id id refl)

not_fresh : (world : WorldState) (id j : ℕ) → IsFresh world id → world.is_open j ≡ true → j ≢ id
not_fresh world id j fresh is = λ (e : j ≡ id). true_false (sym is ∙ (ap world.is_open e ∙ fresh.not_open))

pub fresh_others : (world : WorldState) (id : ℕ) (xs : List NamedStream) → IsFresh world id → AreOpenNamed world xs → AreOthers id xs
fresh_others world id [] fresh h = tt
fresh_others world id (x ∷ xs) fresh h = (not_fresh world id (number_of x) fresh h.0, fresh_others world id xs fresh h.2)

open_append : (before after : WorldState) (id : ℕ) (xs : List NamedStream) (x : NamedStream) → Opens before after id → 2 ≤ id → number_of x ≡ id → AreOpenNamed before xs → AreOpenNamed after (xs ++ x ∷ [])
open_append before after id [] x opens low is h = (ap after.is_open is ∙ opens_here before after id opens, omega (arith, low, is), tt)
open_append before after id (y ∷ ys) x opens low is h = (opens_keep before after id (number_of y) opens h.0, h.1, open_append before after id ys x opens low is h.2)

others_append : (j id : ℕ) (xs : List NamedStream) (x : NamedStream) → j ≢ id → number_of x ≡ id → AreOthers j xs → AreOthers j (xs ++ x ∷ [])
others_append j id [] x differs is h = (λ (e : number_of x ≡ j). differs (sym e ∙ is), tt)
others_append j id (y ∷ ys) x differs is h = (h.0, others_append j id ys x differs is h.1)

apart_append : (id : ℕ) (xs : List NamedStream) (x : NamedStream) → number_of x ≡ id → AreOthers id xs → AreApart xs → AreApart (xs ++ x ∷ [])
apart_append id [] x is others h = (tt, tt)
apart_append id (y ∷ ys) x is others h = (others_append (number_of y) id ys x others.0 is h.0, apart_append id ys x is others.1 h.1)

pub main_other : (world : WorldState) (id : ℕ) (main : Option Input) → IsFresh world id → IsOpenMain world main → (log log' : List Event) → ((j : ℕ) → j ≢ id → SameAt j log log') → SameForMain main log log'
main_other world id None fresh h log log' same = tt
main_other world id (Some input) fresh h log log' same = same input.id (not_fresh world id input.id fresh h.0)

open_main_on : (before after : WorldState) (id : ℕ) (main : Option Input) → Opens before after id → IsOpenMain before main → IsOpenMain after main
open_main_on before after id None opens h = tt
open_main_on before after id (Some input) opens h = (opens_keep before after id input.id opens h.0, h.1)

apart_from_append : (world : WorldState) (id : ℕ) (main : Option Input) (xs : List NamedStream) (x : NamedStream) → IsFresh world id → IsOpenMain world main → number_of x ≡ id → IsApartFrom main xs → IsApartFrom main (xs ++ x ∷ [])
apart_from_append world id None xs x fresh h is apart = tt
apart_from_append world id (Some input) xs x fresh h is apart = others_append input.id id xs x (not_fresh world id input.id fresh h.0) is apart

pub added_open : (before after : WorldState) (old : StreamsView) (id : ℕ) (x : NamedStream) → AreOpen before old → IsFresh before id → Opens before after id → number_of x ≡ id → AreOpen after record old { named = old.named ++ x ∷ [] }
added_open before after old id x h fresh opens is = record {
  main = open_main_on before after id old.main opens h.main;
  named = open_append before after id old.named x opens fresh.named is h.named;
  apart = apart_append id old.named x is (fresh_others before id old.named fresh h.named) h.apart;
  apart_from_main = apart_from_append before id old.main old.named x fresh h.main is h.apart_from_main;
}

-- what stands open in a log

standing_none : (o : Option Standing) → (is_some o ≡ true → ⊥) → o ≡ None
standing_none None closed = refl
standing_none (Some s) closed = absurd (closed refl)

free_of_fresh : (before : WorldState) (log : List Event) (id : ℕ) → IsInOrder before.is_open log → IsFresh before id → IsFree id log
free_of_fresh before log id order fresh = record {
  none = standing_none (standing id log) (λ some. false_true (sym fresh.not_open ∙ order.known id some));
  named = fresh.named;
}

-- the event of a granted opening: what it makes stand, and what it leaves
pub record Grants (id : ℕ) (e : Event) (log : List Event) : Type 0 where
  pub others : (j : ℕ) → j ≢ id → SameAt j log (e ∷ log)
  pub orderly : IsFree id log → IsOrderlyAt e log
  pub flushed : (j : ℕ) → is_flushed j (e ∷ log) ≡ is_flushed j log

pub grants_input : (id : ℕ) (kind : InputKind) (name : List ℕ) (log : List Event) → Grants id (OpenedInput kind name (Some id)) log
grants_input id kind name log = record {
  others = λ j differs. record {
    stands = cond-false _ _ _ (ne_eqb id j (λ (e : id ≡ j). differs (sym e)));
    reads = cond-false _ _ _ (ne_eqb id j (λ (e : id ≡ j). differs (sym e)));
    place = refl;
  };
  orderly = λ free. free;
  flushed = λ j. refl;
}

pub grants_output : (id : ℕ) (kind : OutputKind) (name : List ℕ) (mode : Mode) (log : List Event) → Grants id (OpenedOutput kind name mode (Some id)) log
grants_output id kind name mode log = record {
  others = λ j differs. record {
    stands = cond-false _ _ _ (ne_eqb id j (λ (e : id ≡ j). differs (sym e)));
    reads = cond-false _ _ _ (ne_eqb id j (λ (e : id ≡ j). differs (sym e)));
    place = cond-false _ _ _ (ne_eqb id j (λ (e : id ≡ j). differs (sym e)));
  };
  orderly = λ free. free;
  flushed = λ j. refl;
}

pub granted_order : (before after : WorldState) (id : ℕ) (e : Event) → Grants id e before.log → IsFresh before id → Opens before after id → IsInOrder before.is_open before.log → IsInOrder after.is_open (e ∷ before.log)
granted_order before after id e grants fresh opens order = record {
  orderly = (grants.orderly (free_of_fresh before before.log id order fresh), order.orderly);
  known = λ j some. elim (cases_eq j id) [
    | inl same ↦ opens j ∙ cond-true _ _ _ (eq-eqb j id same)
    | inr differs ↦ opens_keep before after id j opens (order.known j (ap is_some (sym (grants.others j differs).stands) ∙ some))
  ];
}

sound_append : (log : List Event) (xs : List NamedStream) (x : NamedStream) → AreSoundNamed log xs → IsSound log x → AreSoundNamed log (xs ++ x ∷ [])
sound_append log [] x h here = (here, tt)
sound_append log (y ∷ ys) x h here = (h.0, sound_append log ys x h.1 here)

-- no stream is of this kind and name, so it may be one more
abbrev pub NoneIs : words.Named → List NamedStream → Type 0
NoneIs n [] = Unit {0}
NoneIs n (y ∷ ys) = (words.same_named (name_of y) n ≡ false) × NoneIs n ys

other_append : (n m : words.Named) (xs : List NamedStream) (x : NamedStream) → words.same_named n m ≡ false → name_of x ≡ m → HaveOtherNames n xs → HaveOtherNames n (xs ++ x ∷ [])
other_append n m [] x differs is h = (ap (words.same_named n) is ∙ differs, tt)
other_append n m (y ∷ ys) x differs is h = (h.0, other_append n m ys x differs is h.1)

once_append : (m : words.Named) (xs : List NamedStream) (x : NamedStream) → name_of x ≡ m → NoneIs m xs → AreOnce xs → AreOnce (xs ++ x ∷ [])
once_append m [] x is none h = (tt, tt)
once_append m (y ∷ ys) x is none h = (other_append (name_of y) m ys x none.0 is h.0, once_append m ys x is none.1 h.1)

or_false : (a x y : Bool) → (a || x) ≡ false → (x ≡ false → y ≡ false) → (a || y) ≡ false
or_false true x y e f = true_false e
or_false false x y e f = f e

among_front : (j : ℕ) (xs : List NamedStream) (x : NamedStream) → is_output_among j (held_in (xs ++ x ∷ [])) ≡ false → is_output_among j (held_in xs) ≡ false
among_front j [] x e = refl
among_front j (named.Input k n input ∷ xs) x e = among_front j xs x e
among_front j (named.Output k n output ∷ xs) x e = or_false (output.id == j) (is_output_among j (held_in (xs ++ x ∷ []))) (is_output_among j (held_in xs)) e (among_front j xs x)

pub added_sound : (before after : WorldState) (old : StreamsView) (id : ℕ) (e : Event) (x : NamedStream) → AreOpen before old → AreSound before old → Grants id e before.log → IsFresh before id → Opens before after id → after.log ≡ e ∷ before.log → IsSound (e ∷ before.log) x →
    number_of x ≡ id → NoneIs (name_of x) old.named → length old.named < 200 → AreSound after record old { named = old.named ++ x ∷ [] }
added_sound before after old id e x open' h grants fresh opens is here number none few =
    let new : StreamsView = record old { named = old.named ++ x ∷ [] } in
    let log : List Event = e ∷ before.log in
    let same : SameFor old.named before.log log = same_for_others id old.named before.log log grants.others (fresh_others before id old.named fresh open'.named) in
    subst (λ (l : List Event). AreSound record after { log = l } new) (sym is) record {
      order = granted_order before after id e grants fresh opens h.order;
      main = main_same old.main before.log log (main_other before id old.main fresh open'.main before.log log grants.others) h.main;
      named = sound_append log old.named x (sound_same old.named before.log log same h.named) here;
      once = once_append (name_of x) old.named x refl none h.once;
      few = omega (arith, few, length-append old.named (x ∷ []));
      flushed = λ j other. grants.flushed j ∙ h.flushed j (or_false (0 == j) (1 == j || is_output_among j (held_in (old.named ++ x ∷ []))) (1 == j || is_output_among j (held_in old.named)) other
          (λ one. or_false (1 == j) (is_output_among j (held_in (old.named ++ x ∷ []))) (is_output_among j (held_in old.named)) one (among_front j old.named x)));
      owned = λ j no_main no_named.
          (grants.others j (λ (e : j ≡ id). is_other (number_of x) j (of_last j old.named x no_named) (e ∙ sym number))).stands ∙ h.owned j no_main (of_first j old.named x no_named);
    }

-- an event that leaves all

pub record LeavesAll (e : Event) (log : List Event) : Type 0 where
  pub same : (j : ℕ) → SameAt j log (e ∷ log)
  pub orderly : IsOrderlyAt e log
  pub flushed : (j : ℕ) → is_flushed j (e ∷ log) ≡ is_flushed j log

pub refuses_input : (kind : InputKind) (name : List ℕ) (log : List Event) → LeavesAll (OpenedInput kind name None) log
refuses_input kind name log = record { same = λ j. record { stands = refl; reads = refl; place = refl }; orderly = tt; flushed = λ j. refl }

pub refuses_output : (kind : OutputKind) (name : List ℕ) (mode : Mode) (log : List Event) → LeavesAll (OpenedOutput kind name mode None) log
refuses_output kind name mode log = record { same = λ j. record { stands = refl; reads = refl; place = refl }; orderly = tt; flushed = λ j. refl }

pub left_sound : (before after : WorldState) (s : StreamsView) (e : Event) → AreSound before s → LeavesAll e before.log → SameOpen before after → after.log ≡ e ∷ before.log → AreSound after s
left_sound before after s e h leaves same is =
    let log : List Event = e ∷ before.log in
    subst (λ (l : List Event). AreSound record after { log = l } s) (sym is) record {
      order = record { orderly = (leaves.orderly, h.order.orderly); known = λ j some. same j ∙ h.order.known j (ap is_some (sym (leaves.same j).stands) ∙ some) };
      main = main_same s.main before.log log (same_for_main s.main before.log log leaves.same) h.main;
      named = sound_same s.named before.log log (same_for_all s.named before.log log leaves.same) h.named;
      once = h.once;
      few = h.few;
      flushed = λ j other. leaves.flushed j ∙ h.flushed j other;
      owned = λ j no_main no_named. (leaves.same j).stands ∙ h.owned j no_main no_named;
    }

pub same_sound : (before after : WorldState) (s : StreamsView) → AreSound before s → SameOpen before after → after.log ≡ before.log → AreSound after s
same_sound before after s h same is =
    subst (λ (l : List Event). AreSound record after { log = l } s) (sym is) record {
      order = record { orderly = h.order.orderly; known = λ j some. same j ∙ h.order.known j some };
      main = h.main;
      named = h.named;
      once = h.once;
      few = h.few;
      flushed = h.flushed;
      owned = h.owned;
    }

-- what is new stands

pub new_output_sound : (kind : OutputKind) (name : List ℕ) (mode : Mode) (id : ℕ) (log : List Event) → IsSound (OpenedOutput kind name mode (Some id) ∷ log) (new_output kind name id)
new_output_sound kind name mode id log = cond-true _ _ _ (eq-eqb id id refl)

pub new_input_sound : (kind : InputKind) (name : List ℕ) (id : ℕ) (log : List Event) → IsSoundInput (OpenedInput kind name (Some id) ∷ log) kind record { id = id; pending = record { bytes = []; ending = None } }
new_input_sound kind name id log = record {
  stands = cond-true _ _ _ (eq-eqb id id refl);
  readable = λ none. record { reading = new_reading kind name log; stands = cond-true _ _ _ (eq-eqb id id refl); unended = refl };
}

-- the streams with one more, as the code has them

pub asked_open : (before after : WorldState) (old s : StreamsView) (zs : List NamedStream) (id : ℕ) (x : NamedStream) → s ≡ old → zs ≡ old.named ++ x ∷ [] → AreOpen before old → IsFresh before id → Opens before after id → number_of x ≡ id → AreOpen after record s { named = zs }
asked_open before after old s zs id x is items h fresh opens number =
    subst (λ (v : StreamsView). AreOpen after record v { named = zs }) (sym is) (subst (λ (l : List NamedStream). AreOpen after record old { named = l }) (sym items) (added_open before after old id x h fresh opens number))

pub asked_sound : (before after : WorldState) (old s : StreamsView) (zs : List NamedStream) (id : ℕ) (e : Event) (x : NamedStream) → s ≡ old → zs ≡ old.named ++ x ∷ [] → AreOpen before old → AreSound before old → Grants id e before.log → IsFresh before id → Opens before after id → after.log ≡ e ∷ before.log →
    IsSound (e ∷ before.log) x → number_of x ≡ id → NoneIs (name_of x) old.named → length old.named < 200 → AreSound after record s { named = zs }
asked_sound before after old s zs id e x is items open' h grants fresh opens log here number none few =
    subst (λ (v : StreamsView). AreSound after record v { named = zs }) (sym is)
    (subst (λ (l : List NamedStream). AreSound after record old { named = l }) (sym items) (added_sound before after old id e x open' h grants fresh opens log here number none few))

pub output_items : (xs ys zs : List NamedStream) (kind : OutputKind) (name name' : List ℕ) (id : ℕ) (held : List ℕ) → zs ≡ xs ++ named.Output kind name' record { id = id; held = held } ∷ [] → xs ≡ ys → name' ≡ name → held ≡ [] → zs ≡ ys ++ new_output kind name id ∷ []
output_items xs ys zs kind name name' id held is same same_name none =
    is ∙ (ap (λ l. l ++ named.Output kind name' record { id = id; held = held } ∷ []) same ∙ (ap (λ n. ys ++ named.Output kind n record { id = id; held = held } ∷ []) same_name ∙ ap (λ h. ys ++ named.Output kind name record { id = id; held = h } ∷ []) none))

pub input_items : (xs ys zs : List NamedStream) (kind : InputKind) (name name' : List ℕ) (id : ℕ) (pending : Pending) → zs ≡ xs ++ named.Input kind name' record { id = id; pending = pending } ∷ [] → xs ≡ ys → name' ≡ name → pending ≡ record { bytes = []; ending = None } → zs ≡ ys ++ new_input kind name id ∷ []
input_items xs ys zs kind name name' id pending is same same_name none =
    is ∙ (ap (λ l. l ++ named.Input kind name' record { id = id; pending = pending } ∷ []) same ∙ (ap (λ n. ys ++ named.Input kind n record { id = id; pending = pending } ∷ []) same_name ∙ ap (λ p. ys ++ named.Input kind name record { id = id; pending = p } ∷ []) none))

pub refused_open : (before after : WorldState) (old s : StreamsView) (zs : List NamedStream) → s ≡ old → zs ≡ s.named → AreOpen before old → SameOpen before after → AreOpen after record s { named = zs }
refused_open before after old s zs is items h same =
    subst (λ (l : List NamedStream). AreOpen after record s { named = l }) (sym items) (keeps_open before after old s same (ap (λ (v : StreamsView). v.main) is) (ap (λ (v : StreamsView). numbered v.named) is) h)

pub refused_sound : (before after : WorldState) (old s : StreamsView) (zs : List NamedStream) (e : Event) → s ≡ old → zs ≡ s.named → AreSound before old → LeavesAll e before.log → SameOpen before after → after.log ≡ e ∷ before.log → AreSound after record s { named = zs }
refused_sound before after old s zs e is items h leaves same log =
    subst (λ (l : List NamedStream). AreSound after record s { named = l }) (sym items) (subst (λ (v : StreamsView). AreSound after v) (sym is) (left_sound before after old e h leaves same log))

-- no output, and no input, of this kind and name

pub no_output : (kind : OutputKind) (name : List ℕ) (xs : List NamedStream) → AllFail (is_named_output kind name) xs → NoneIs (words.Output kind name) xs
no_output kind name [] h = tt
no_output kind name (named.Input k n input ∷ xs) h = (refl, no_output kind name xs h.1)
no_output kind name (named.Output k n output ∷ xs) h = (h.0, no_output kind name xs h.1)

pub no_input : (kind : InputKind) (name : List ℕ) (xs : List NamedStream) → AllFail (is_named_input kind name) xs → NoneIs (words.Input kind name) xs
no_input kind name [] h = tt
no_input kind name (named.Input k n input ∷ xs) h = (h.0, no_input kind name xs h.1)
no_input kind name (named.Output k n output ∷ xs) h = (refl, no_input kind name xs h.1)

pub empty_pending : (p : Pending) → p.bytes ≡ [] → p.ending ≡ None → p ≡ record { bytes = []; ending = None }
empty_pending p bytes ending = ap (λ (b : List ℕ). record { bytes = b; ending = p.ending }) bytes ∙ ap (λ (e : Option Ending). record { bytes = []; ending = e }) ending

-- want of memory, of the streams' own or of the world

pub finds_none : (world : WorldState) (old s : StreamsView) (xs : List NamedStream) → s ≡ old → xs ≡ s.named → FindsNoMemory world old world record s { named = xs }
finds_none world old s xs view same = record {
  log = refl;
  same = ap (λ (l : List NamedStream). record s { named = l }) same ∙ view;
  open_as = λ j. refl;
  failure = inl refl;
  grows = Grows-self world;
}

pub world_finds_none : (before after : WorldState) (old s : StreamsView) (xs : List NamedStream) → s ≡ old → xs ≡ s.named → SameOpen before after → Logs (DidNot None WorldMemory) before after → FindsNoMemory before old after record s { named = xs }
world_finds_none before after old s xs view same open' logs = record {
  log = logs.0;
  same = ap (λ (l : List NamedStream). record s { named = l }) same ∙ view;
  open_as = open';
  failure = inr (failed_there None WorldMemory before after logs);
  grows = logs_grow (DidNot None WorldMemory) before after logs;
}

-- what is added stands behind all others
pub stands_last : (old xs : List NamedStream) (x : NamedStream) (place : ℕ) → xs ≡ old ++ x ∷ [] → place ≡ length old → slice_get xs place ≡ Some x
stands_last old xs x place is at =
    let here : get_or xs place x ≡ x = ap (λ (l : List NamedStream). get_or l place x) is ∙ (ap (λ n. get_or (old ++ x ∷ []) n x) at ∙ get_or-append_seam old x [] x) in
    let long : length xs ≡ length old + 1 = ap length is ∙ length-append old (x ∷ []) in
    slice_get-get_or xs place x (omega (arith, long, at)) ∙ ap Some here
