-- Where what streams stand for is the same, they are as they were, but for what outputs hold back.
use Rattle.std.proofs.Common.{◌≡◌, ◌≢◌, ◌≤◌, ℕ, suc, true, false, List, [], ◌∷◌, length, Option, Some, None, refl, sym, ◌∙◌, ap, subst}
use Rattle.std.specs.Prelude.{◌==◌, ◌||◌}
use Rattle.awk_world.specs.definitions.Log.{Event}
use Rattle.awk_world.specs.definitions.Oracle.{Oracle, Source, reading_of}
use Rattle.awk_world.specs.declared.world.InputKind.{InputKind}
use Rattle.awk_record.specs.Cut.{Ending}
use Rattle.awk_world.specs.definitions.Orderly.{IsReadable}
use Rattle.awk_world.specs.definitions.WorldState.{WorldState}
use Rattle.awk_streams.specs.declared.input.Input.{Input}
use Rattle.awk_streams.specs.declared.named.NamedStream.{NamedStream}
use Rattle.awk_streams.specs.declared.named.NamedStream.TheVariants as named
use Rattle.awk_streams.specs.definitions.Inputs.{Rest}
use Rattle.awk_streams.specs.definitions.Named as words
use Rattle.awk_streams.specs.definitions.Streams.{number_of, name_of, numbered, AreOpenNamed, AreOthers, AreApart, IsApartFrom, held_in, is_output_among, IsSoundInput, IsSoundMain, AreSoundNamed, HaveOtherNames, AreOnce, IsMainRest, StandFor, unheld, all_unheld}
use Rattle.awk_streams.specs.support.Kept.{SameAt, SameFor, SameForMain}

readable_same : (id : ℕ) (log log' : List Event) → reading_of id log' ≡ reading_of id log → IsReadable id log → IsReadable id log'
readable_same id log log' same r = record { reading = r.reading; stands = same ∙ r.stands; unended = r.unended }

pub rest_same : (a : Oracle) (id : ℕ) (log log' : List Event) (s : Source) (whole b : List ℕ) (ending : Option Ending) → reading_of id log' ≡ reading_of id log → Rest a id log s whole b ending → Rest a id log' s whole b ending
rest_same a id log log' s whole b ending same r = record {
  reading = r.reading;
  stands = same ∙ r.stands;
  answer = r.answer;
  more = r.more;
  begins = r.begins;
  same = r.same;
  over = r.over;
}

-- where the same stands for each

pub input_same : (kind : InputKind) (log log' : List Event) (input : Input) → SameAt input.id log log' → IsSoundInput log kind input → IsSoundInput log' kind input
input_same kind log log' input same h = record {
  stands = same.stands ∙ h.stands;
  readable = λ none. readable_same input.id log log' same.reads (h.readable none);
}

pub main_same : (main : Option Input) (log log' : List Event) → SameForMain main log log' → IsSoundMain log main → IsSoundMain log' main
main_same None log log' same h = tt
main_same (Some input) log log' same (kind, plain, h) = (kind, plain, input_same kind log log' input same h)

pub main_rest_same : (a : Oracle) (main : Option Input) (rest : Option Source) (log log' : List Event) → SameForMain main log log' → IsMainRest a log main rest → IsMainRest a log' main rest
main_rest_same a None None log log' same h = h
main_rest_same a None (Some whole) log log' same h = h
main_rest_same a (Some input) None log log' same h = h
main_rest_same a (Some input) (Some whole) log log' same (s, ends, rest) =
    (s, ends, rest_same a input.id log log' s whole.bytes input.pending.bytes input.pending.ending same.reads rest)

pub sound_same : (xs : List NamedStream) (log log' : List Event) → SameFor xs log log' → AreSoundNamed log xs → AreSoundNamed log' xs
sound_same [] log log' same h = tt
sound_same (named.Input kind name input ∷ xs) log log' same h = (input_same kind log log' input same.0 h.0, sound_same xs log log' same.1 h.1)
sound_same (named.Output kind name output ∷ xs) log log' same h = (same.0.stands ∙ h.0, sound_same xs log log' same.1 h.1)

pub stand_same : (a : Oracle) (xs : List NamedStream) (ys : List words.Stream) (log log' : List Event) → SameFor xs log log' → StandFor a log xs ys → StandFor a log' xs ys
stand_same a [] [] log log' same h = h
stand_same a [] (y ∷ ys) log log' same h = h
stand_same a (x ∷ xs) [] log log' same h = h
stand_same a (named.Input kind name input ∷ xs) (words.AnInput k n rest ∷ ys) log log' same h =
    ((h.0.0, h.0.1, (h.0.2.0, h.0.2.1, rest_same a input.id log log' h.0.2.0 rest.bytes input.pending.bytes input.pending.ending same.0.reads h.0.2.2)), stand_same a xs ys log log' same.1 h.1)
stand_same a (named.Input kind name input ∷ xs) (words.AnOutput k n opening ∷ ys) log log' same h = absurd h.0
stand_same a (named.Output kind name output ∷ xs) (words.AnInput k n rest ∷ ys) log log' same h = absurd h.0
stand_same a (named.Output kind name output ∷ xs) (words.AnOutput k n opening ∷ ys) log log' same h =
    ((h.0.0, h.0.1, same.0.place ∙ h.0.2), stand_same a xs ys log log' same.1 h.1)

-- all are the same, or all but one

pub same_for_all : (xs : List NamedStream) (log log' : List Event) → ((j : ℕ) → SameAt j log log') → SameFor xs log log'
same_for_all [] log log' same = tt
same_for_all (x ∷ xs) log log' same = (same (number_of x), same_for_all xs log log' same)

pub same_for_others : (id : ℕ) (xs : List NamedStream) (log log' : List Event) → ((j : ℕ) → j ≢ id → SameAt j log log') → AreOthers id xs → SameFor xs log log'
same_for_others id [] log log' same others = tt
same_for_others id (x ∷ xs) log log' same others = (same (number_of x) others.0, same_for_others id xs log log' same others.1)

pub same_for_main : (main : Option Input) (log log' : List Event) → ((j : ℕ) → SameAt j log log') → SameForMain main log log'
same_for_main None log log' same = tt
same_for_main (Some input) log log' same = same input.id

-- what outputs hold back is of no account

pub unheld_length : (xs : List NamedStream) → length (all_unheld xs) ≡ length xs
unheld_length [] = refl
unheld_length (x ∷ xs) = ap suc (unheld_length xs)

unheld_number : (x : NamedStream) → number_of (unheld x) ≡ number_of x
unheld_number (named.Input kind name input) = refl
unheld_number (named.Output kind name output) = refl

pub unheld_numbered : (xs : List NamedStream) → numbered (all_unheld xs) ≡ numbered xs
unheld_numbered [] = refl
unheld_numbered (named.Input kind name input ∷ xs) = ap (λ l. (words.Input kind name, input.id) ∷ l) (unheld_numbered xs)
unheld_numbered (named.Output kind name output ∷ xs) = ap (λ l. (words.Output kind name, output.id) ∷ l) (unheld_numbered xs)

pub but_held_numbered : (xs ys : List NamedStream) → all_unheld ys ≡ all_unheld xs → numbered ys ≡ numbered xs
but_held_numbered xs ys same = sym (unheld_numbered ys) ∙ (ap numbered same ∙ unheld_numbered xs)

pub but_held_length : (xs ys : List NamedStream) → all_unheld ys ≡ all_unheld xs → length ys ≡ length xs
but_held_length xs ys same = sym (unheld_length ys) ∙ (ap length same ∙ unheld_length xs)

-- these hold of names and numbers alone

abbrev AreOpenUnder : WorldState → List (words.Named × ℕ) → Type 0
AreOpenUnder world [] = Unit {0}
AreOpenUnder world (x ∷ xs) = (world.is_open x.1 ≡ true) × (2 ≤ x.1) × AreOpenUnder world xs

open_to : (world : WorldState) (xs : List NamedStream) → AreOpenNamed world xs → AreOpenUnder world (numbered xs)
open_to world [] h = tt
open_to world (x ∷ xs) h = (h.0, h.1, open_to world xs h.2)

open_from : (world : WorldState) (xs : List NamedStream) → AreOpenUnder world (numbered xs) → AreOpenNamed world xs
open_from world [] h = tt
open_from world (x ∷ xs) h = (h.0, h.1, open_from world xs h.2)

pub open_named_by : (world : WorldState) (xs ys : List NamedStream) → numbered ys ≡ numbered xs → AreOpenNamed world xs → AreOpenNamed world ys
open_named_by world xs ys same h = open_from world ys (subst (λ l. AreOpenUnder world l) (sym same) (open_to world xs h))

abbrev AreOtherThan : ℕ → List (words.Named × ℕ) → Type 0
AreOtherThan id [] = Unit {0}
AreOtherThan id (x ∷ xs) = (x.1 ≢ id) × AreOtherThan id xs

others_to : (id : ℕ) (xs : List NamedStream) → AreOthers id xs → AreOtherThan id (numbered xs)
others_to id [] h = tt
others_to id (x ∷ xs) h = (h.0, others_to id xs h.1)

others_from : (id : ℕ) (xs : List NamedStream) → AreOtherThan id (numbered xs) → AreOthers id xs
others_from id [] h = tt
others_from id (x ∷ xs) h = (h.0, others_from id xs h.1)

pub others_by : (id : ℕ) (xs ys : List NamedStream) → numbered ys ≡ numbered xs → AreOthers id xs → AreOthers id ys
others_by id xs ys same h = others_from id ys (subst (λ l. AreOtherThan id l) (sym same) (others_to id xs h))

abbrev AreApartUnder : List (words.Named × ℕ) → Type 0
AreApartUnder [] = Unit {0}
AreApartUnder (x ∷ xs) = AreOtherThan x.1 xs × AreApartUnder xs

apart_to : (xs : List NamedStream) → AreApart xs → AreApartUnder (numbered xs)
apart_to [] h = tt
apart_to (x ∷ xs) h = (others_to (number_of x) xs h.0, apart_to xs h.1)

apart_from : (xs : List NamedStream) → AreApartUnder (numbered xs) → AreApart xs
apart_from [] h = tt
apart_from (x ∷ xs) h = (others_from (number_of x) xs h.0, apart_from xs h.1)

pub apart_by : (xs ys : List NamedStream) → numbered ys ≡ numbered xs → AreApart xs → AreApart ys
apart_by xs ys same h = apart_from ys (subst (λ l. AreApartUnder l) (sym same) (apart_to xs h))

pub apart_from_main_by : (main : Option Input) (xs ys : List NamedStream) → numbered ys ≡ numbered xs → IsApartFrom main xs → IsApartFrom main ys
apart_from_main_by None xs ys same h = tt
apart_from_main_by (Some input) xs ys same h = others_by input.id xs ys same h

abbrev HaveOther : words.Named → List (words.Named × ℕ) → Type 0
HaveOther x [] = Unit {0}
HaveOther x (y ∷ ys) = (words.same_named x y.0 ≡ false) × HaveOther x ys

other_names_to : (x : words.Named) (xs : List NamedStream) → HaveOtherNames x xs → HaveOther x (numbered xs)
other_names_to x [] h = tt
other_names_to x (y ∷ ys) h = (h.0, other_names_to x ys h.1)

other_names_from : (x : words.Named) (xs : List NamedStream) → HaveOther x (numbered xs) → HaveOtherNames x xs
other_names_from x [] h = tt
other_names_from x (y ∷ ys) h = (h.0, other_names_from x ys h.1)

pub other_names_by : (x : words.Named) (xs ys : List NamedStream) → numbered ys ≡ numbered xs → HaveOtherNames x xs → HaveOtherNames x ys
other_names_by x xs ys same h = other_names_from x ys (subst (λ l. HaveOther x l) (sym same) (other_names_to x xs h))

abbrev AreOnceUnder : List (words.Named × ℕ) → Type 0
AreOnceUnder [] = Unit {0}
AreOnceUnder (x ∷ xs) = HaveOther x.0 xs × AreOnceUnder xs

once_to : (xs : List NamedStream) → AreOnce xs → AreOnceUnder (numbered xs)
once_to [] h = tt
once_to (x ∷ xs) h = (other_names_to (name_of x) xs h.0, once_to xs h.1)

once_from : (xs : List NamedStream) → AreOnceUnder (numbered xs) → AreOnce xs
once_from [] h = tt
once_from (x ∷ xs) h = (other_names_from (name_of x) xs h.0, once_from xs h.1)

pub once_by : (xs ys : List NamedStream) → numbered ys ≡ numbered xs → AreOnce xs → AreOnce ys
once_by xs ys same h = once_from ys (subst (λ l. AreOnceUnder l) (sym same) (once_to xs h))

-- these hold of all but what is held back

unheld_sound_to : (log : List Event) (xs : List NamedStream) → AreSoundNamed log xs → AreSoundNamed log (all_unheld xs)
unheld_sound_to log [] h = tt
unheld_sound_to log (named.Input kind name input ∷ xs) h = (h.0, unheld_sound_to log xs h.1)
unheld_sound_to log (named.Output kind name output ∷ xs) h = (h.0, unheld_sound_to log xs h.1)

unheld_sound_from : (log : List Event) (xs : List NamedStream) → AreSoundNamed log (all_unheld xs) → AreSoundNamed log xs
unheld_sound_from log [] h = tt
unheld_sound_from log (named.Input kind name input ∷ xs) h = (h.0, unheld_sound_from log xs h.1)
unheld_sound_from log (named.Output kind name output ∷ xs) h = (h.0, unheld_sound_from log xs h.1)

pub but_held_sound : (log : List Event) (xs ys : List NamedStream) → all_unheld ys ≡ all_unheld xs → AreSoundNamed log xs → AreSoundNamed log ys
but_held_sound log xs ys same h = unheld_sound_from log ys (subst (λ l. AreSoundNamed log l) (sym same) (unheld_sound_to log xs h))

unheld_stand_to : (a : Oracle) (log : List Event) (xs : List NamedStream) (zs : List words.Stream) → StandFor a log xs zs → StandFor a log (all_unheld xs) zs
unheld_stand_to a log [] [] h = h
unheld_stand_to a log [] (z ∷ zs) h = h
unheld_stand_to a log (x ∷ xs) [] h = h
unheld_stand_to a log (named.Input kind name input ∷ xs) (z ∷ zs) h = (h.0, unheld_stand_to a log xs zs h.1)
unheld_stand_to a log (named.Output kind name output ∷ xs) (words.AnInput k n rest ∷ zs) h = absurd h.0
unheld_stand_to a log (named.Output kind name output ∷ xs) (words.AnOutput k n opening ∷ zs) h = (h.0, unheld_stand_to a log xs zs h.1)

unheld_stand_from : (a : Oracle) (log : List Event) (xs : List NamedStream) (zs : List words.Stream) → StandFor a log (all_unheld xs) zs → StandFor a log xs zs
unheld_stand_from a log [] [] h = h
unheld_stand_from a log [] (z ∷ zs) h = h
unheld_stand_from a log (x ∷ xs) [] h = h
unheld_stand_from a log (named.Input kind name input ∷ xs) (z ∷ zs) h = (h.0, unheld_stand_from a log xs zs h.1)
unheld_stand_from a log (named.Output kind name output ∷ xs) (words.AnInput k n rest ∷ zs) h = absurd h.0
unheld_stand_from a log (named.Output kind name output ∷ xs) (words.AnOutput k n opening ∷ zs) h = (h.0, unheld_stand_from a log xs zs h.1)

pub but_held_stand : (a : Oracle) (log : List Event) (xs ys : List NamedStream) (zs : List words.Stream) → all_unheld ys ≡ all_unheld xs → StandFor a log xs zs → StandFor a log ys zs
but_held_stand a log xs ys zs same h = unheld_stand_from a log ys zs (subst (λ l. StandFor a log l zs) (sym same) (unheld_stand_to a log xs zs h))

unheld_among : (j : ℕ) (xs : List NamedStream) → is_output_among j (held_in (all_unheld xs)) ≡ is_output_among j (held_in xs)
unheld_among j [] = refl
unheld_among j (named.Input kind name input ∷ xs) = unheld_among j xs
unheld_among j (named.Output kind name output ∷ xs) = ap (λ b. output.id == j || b) (unheld_among j xs)

pub but_held_among : (j : ℕ) (xs ys : List NamedStream) → all_unheld ys ≡ all_unheld xs → is_output_among j (held_in ys) ≡ is_output_among j (held_in xs)
but_held_among j xs ys same = sym (unheld_among j ys) ∙ (ap (λ l. is_output_among j (held_in l)) same ∙ unheld_among j xs)
