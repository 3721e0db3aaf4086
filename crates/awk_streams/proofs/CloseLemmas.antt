-- What the closing of a named stream tells.
use Rattle.std.proofs.Common.{◌≡◌, ◌≢◌, ◌≤◌, ◌<◌, ◌+◌, inl, inr, ℕ, zero, suc, ℤ, pos, Bool, true, false, not, List, [], ◌∷◌, ◌++◌, length, get_or, Option, Some, None, refl, sym, ◌∙◌, ap, subst, arith}
use Rattle.std.specs.Prelude.{is_some, slice_get, filter, ◌==◌, ◌||◌, ◌&&◌, bytes_eq, if◌then◌else◌}
use Rattle.std.specs.List.{remove}
use Rattle.std.proofs.lemmas.Bool.{cond-true, cond-false, ne_eqb, eq-eqb, cases_eq}
use Rattle.std.proofs.lemmas.Option.{same_Some, slice_get_read}
use Rattle.awk_world.specs.declared.world.InputKind.{InputKind}
use Rattle.awk_world.specs.declared.world.InputKind.TheVariants.{Standard, File, Command}
use Rattle.awk_world.specs.declared.world.OutputKind.{OutputKind}
use Rattle.awk_world.specs.declared.world.OutputKind.TheVariants.{File as ToFile, Command as ToCommand}
use Rattle.awk_world.specs.definitions.Log.{Event, Closed}
use Rattle.awk_world.specs.definitions.Oracle.{Oracle, is_command, one_if, how_many, closes_command, standing, same_output_kind}
use Rattle.awk_world.specs.definitions.WorldState.{WorldState, Closes}
use Rattle.awk_world.specs.definitions.Openings.{Opening, openings, in_order, AreFlushed}
use Rattle.awk_world.proofs.Exist.{opens_input-self}
use Rattle.awk_streams.specs.declared.input.Input.{Input}
use Rattle.awk_streams.specs.declared.named.NamedStream.{NamedStream}
use Rattle.awk_streams.specs.declared.named.NamedStream.TheVariants as named
use Rattle.awk_streams.specs.definitions.Named as words
use Rattle.awk_streams.specs.definitions.Streams.{StreamsView, number_of, name_of, numbered, IsOpenMain, AreOpenNamed, AreOthers, AreApart, IsApartFrom, AreOpen, held_in, held_of, printed_openings, is_output_among, IsSound, AreSoundNamed, HaveOtherNames, AreOnce, is_of_named, AreSound, StandsFor, StandFor}
use Rattle.awk_streams.specs.definitions.Commands.{closing_answer, ClosesStream}
use Rattle.awk_streams.specs.support.Kept.{SameAt, SameFor}
use Rattle.awk_streams.specs.support.Held.{AreEmpty, HoldsNothing}
use Rattle.awk_streams.specs.support.Closes.{without_place, ClosesAt}
use Rattle.awk_streams.proofs.GrowsLemmas.{grows_on}
use Rattle.awk_streams.proofs.StreamsLemmas.{main_same, main_rest_same, sound_same, stand_same, same_for_others}
use Rattle.awk_streams.proofs.OwnedLemmas.{closed_none, of_without}
use Rattle.awk_streams.proofs.NamesLemmas.{named_swap}
use Rattle.awk_streams.proofs.ViewLemmas.{nothing_held}
use Rattle.awk_streams.proofs.MainLemmas.{closed_at, closed_known, closed_flushed}
use Rattle.awk_streams.proofs.NextLemmas.{apart_front, apart_back, others_middle, sound_front, sound_here, sound_back, main_others}

true_false : {P : Type 0} → true ≡ false → P
true_false e = cc

false_true : {P : Type 0} → false ≡ true → P
false_true e = cc

no_element : {T : Type 0} {P : Type 0} (x : T) → None ≡ Some x → P
no_element x e = cc

-- a list around one of its streams

pub record SplitAt (xs : List NamedStream) (place : ℕ) (x : NamedStream) : Type 0 where
  pub front : List NamedStream
  pub back : List NamedStream
  pub is : xs ≡ front ++ x ∷ back
  pub place_is : length front ≡ place

pub split_at : (xs : List NamedStream) (place : ℕ) (x : NamedStream) → slice_get xs place ≡ Some x → SplitAt xs place x
split_at [] place x at = no_element x at
split_at (y ∷ ys) zero x at = record { front = []; back = ys; is = ap (λ (z : NamedStream). z ∷ ys) (same_Some y x at); place_is = refl }
split_at (y ∷ ys) (suc i) x at =
    let later = split_at ys i x at in
    record { front = y ∷ later.front; back = later.back; is = ap (λ l. y ∷ l) later.is; place_is = ap suc later.place_is }

remove_middle : (front back : List NamedStream) (x : NamedStream) (i : ℕ) → length front ≡ i → remove (front ++ x ∷ back) i ≡ front ++ back
remove_middle [] back x zero e = refl
remove_middle [] back x (suc i) e = absurd (omega (arith, e))
remove_middle (y ∷ front) back x zero e = absurd (omega (arith, e))
remove_middle (y ∷ front) back x (suc i) e = ap (λ l. y ∷ l) (remove_middle front back x i (omega (arith, e)))

pub removed : (xs : List NamedStream) (place : ℕ) (x : NamedStream) (s : SplitAt xs place x) → remove xs place ≡ s.front ++ s.back
removed xs place x s = ap (λ l. remove l place) s.is ∙ remove_middle s.front s.back x place s.place_is

-- what holds of all holds without one

others_without : (id : ℕ) (front back : List NamedStream) (x : NamedStream) → AreOthers id (front ++ x ∷ back) → AreOthers id (front ++ back)
others_without id [] back x h = h.1
others_without id (y ∷ front) back x h = (h.0, others_without id front back x h.1)

apart_without : (front back : List NamedStream) (x : NamedStream) → AreApart (front ++ x ∷ back) → AreApart (front ++ back)
apart_without [] back x h = h.1
apart_without (y ∷ front) back x h = (others_without (number_of y) front back x h.0, apart_without front back x h.1)

apart_from_without : (main : Option Input) (front back : List NamedStream) (x : NamedStream) → IsApartFrom main (front ++ x ∷ back) → IsApartFrom main (front ++ back)
apart_from_without None front back x h = tt
apart_from_without (Some input) front back x h = others_without input.id front back x h

names_without : (n : words.Named) (front back : List NamedStream) (x : NamedStream) → HaveOtherNames n (front ++ x ∷ back) → HaveOtherNames n (front ++ back)
names_without n [] back x h = h.1
names_without n (y ∷ front) back x h = (h.0, names_without n front back x h.1)

once_without : (front back : List NamedStream) (x : NamedStream) → AreOnce (front ++ x ∷ back) → AreOnce (front ++ back)
once_without [] back x h = h.1
once_without (y ∷ front) back x h = (names_without (name_of y) front back x h.0, once_without front back x h.1)

empty_without : (front back : List NamedStream) (x : NamedStream) → AreEmpty (front ++ x ∷ back) → AreEmpty (front ++ back)
empty_without [] back (named.Input k n input) h = h
empty_without [] back (named.Output k n output) h = h.1
empty_without (named.Input k n input ∷ front) back x h = empty_without front back x h
empty_without (named.Output k n output ∷ front) back x h = (h.0, empty_without front back x h.1)

length_without : (front back : List NamedStream) (x : NamedStream) → length (front ++ back) ≤ length (front ++ x ∷ back)
length_without [] back x = omega arith
length_without (y ∷ front) back x = omega (arith, length_without front back x)

or_false : (a x y : Bool) → (a || x) ≡ false → (x ≡ false → y ≡ false) → (a || y) ≡ false
or_false true x y e f = true_false e
or_false false x y e f = f e

among_without : (j : ℕ) (front back : List NamedStream) (x : NamedStream) → j ≢ number_of x → is_output_among j (held_in (front ++ back)) ≡ false → is_output_among j (held_in (front ++ x ∷ back)) ≡ false
among_without j [] back (named.Input k n input) differs e = e
among_without j [] back (named.Output k n output) differs e = ap (λ b. b || is_output_among j (held_in back)) (ne_eqb output.id j (λ (same : output.id ≡ j). differs (sym same))) ∙ e
among_without j (named.Input k n input ∷ front) back x differs e = among_without j front back x differs e
among_without j (named.Output k n output ∷ front) back x differs e = or_false (output.id == j) (is_output_among j (held_in (front ++ back))) (is_output_among j (held_in (front ++ x ∷ back))) e (among_without j front back x differs)

sound_without : (log : List Event) (front back : List NamedStream) → AreSoundNamed log front → AreSoundNamed log back → AreSoundNamed log (front ++ back)
sound_without log [] back f b = b
sound_without log (y ∷ front) back f b = (f.0, sound_without log front back f.1 b)

-- other names

other_here : (n : words.Named) (front back : List NamedStream) (x : NamedStream) → HaveOtherNames n (front ++ x ∷ back) → words.same_named n (name_of x) ≡ false
other_here n [] back x h = h.0
other_here n (y ∷ front) back x h = other_here n front back x h.1

front_names : (front back : List NamedStream) (x : NamedStream) → AreOnce (front ++ x ∷ back) → HaveOtherNames (name_of x) front
front_names [] back x h = tt
front_names (y ∷ front) back x h = (named_swap (name_of x) (name_of y) ∙ other_here (name_of y) front back x h.0, front_names front back x h.1)

back_names : (front back : List NamedStream) (x : NamedStream) → AreOnce (front ++ x ∷ back) → HaveOtherNames (name_of x) back
back_names [] back x h = h.0
back_names (y ∷ front) back x h = back_names front back x h.1

output_self : (kind : OutputKind) (name : List ℕ) → (same_output_kind kind kind && bytes_eq name name) ≡ true
output_self ToFile name = opens_input-self File name
output_self ToCommand name = opens_input-self Command name

same_self : (n : words.Named) → words.same_named n n ≡ true
same_self (words.Input kind name) = opens_input-self kind name
same_self (words.Output kind name) = output_self kind name

pub number_here : (front back : List NamedStream) (x : NamedStream) → HaveOtherNames (name_of x) front → words.number_among (numbered (front ++ x ∷ back)) (name_of x) ≡ Some (number_of x)
number_here [] back x h = cond-true _ _ _ (same_self (name_of x))
number_here (y ∷ front) back x h = cond-false _ _ _ h.0 ∙ number_here front back x h.1

without_others : (n : words.Named) (xs : List NamedStream) → HaveOtherNames n xs → words.without_number n (numbered xs) ≡ numbered xs
without_others n [] h = refl
without_others n (y ∷ ys) h = cond-true _ _ _ (ap not h.0) ∙ ap (λ l. (name_of y, number_of y) ∷ l) (without_others n ys h.1)

pub numbers_without : (front back : List NamedStream) (x : NamedStream) → HaveOtherNames (name_of x) front → HaveOtherNames (name_of x) back → numbered (front ++ back) ≡ words.without_number (name_of x) (numbered (front ++ x ∷ back))
numbers_without [] back x f b = sym (cond-false _ _ _ (ap not (same_self (name_of x))) ∙ without_others (name_of x) back b)
numbers_without (y ∷ front) back x f b = sym (cond-true _ _ _ (ap not f.0) ∙ ap (λ l. (name_of y, number_of y) ∷ l) (sym (numbers_without front back x f.1 b)))

-- in the words of the language

named_as : (a : Oracle) (log : List Event) (x : NamedStream) (z : words.Stream) → StandsFor a log x z → words.named_of z ≡ name_of x
named_as a log (named.Input k n input) (words.AnInput k' n' rest) h = ap (λ (i : InputKind). words.Input i n') h.0 ∙ ap (λ (m : List ℕ). words.Input k m) h.1
named_as a log (named.Input k n input) (words.AnOutput k' n' opening) h = absurd h
named_as a log (named.Output k n output) (words.AnInput k' n' rest) h = absurd h
named_as a log (named.Output k n output) (words.AnOutput k' n' opening) h = ap (λ (i : OutputKind). words.Output i n') h.0 ∙ ap (λ (m : List ℕ). words.Output k m) h.1

stand_others : (a : Oracle) (log log' : List Event) (n : words.Named) (xs : List NamedStream) (zs : List words.Stream) → HaveOtherNames n xs → SameFor xs log log' → StandFor a log xs zs → StandFor a log' xs (filter (words.is_other n) zs)
stand_others a log log' n [] [] names same h = tt
stand_others a log log' n [] (z ∷ zs) names same h = absurd h
stand_others a log log' n (x ∷ xs) [] names same h = absurd h
stand_others a log log' n (x ∷ xs) (z ∷ zs) names same h =
    let other : words.is_other n z ≡ true = ap not (ap (words.same_named n) (named_as a log x z h.0) ∙ names.0) in
    subst (λ (l : List words.Stream). StandFor a log' (x ∷ xs) l) (sym (cond-true (words.is_other n z) (z ∷ filter (words.is_other n) zs) (filter (words.is_other n) zs) other))
    ((stand_same a (x ∷ []) (z ∷ []) log log' (same.0, tt) (h.0, tt)).0, stand_others a log log' n xs zs names.1 same.1 h.1)

stand_without : (a : Oracle) (log log' : List Event) (front back : List NamedStream) (x : NamedStream) (zs : List words.Stream) → HaveOtherNames (name_of x) front → HaveOtherNames (name_of x) back → SameFor front log log' → SameFor back log log' → StandFor a log (front ++ x ∷ back) zs →
    StandFor a log' (front ++ back) (filter (words.is_other (name_of x)) zs)
stand_without a log log' [] back x [] f b same same' h = absurd h
stand_without a log log' [] back x (z ∷ zs) f b same same' h =
    let here : words.is_other (name_of x) z ≡ false = ap not (ap (words.same_named (name_of x)) (named_as a log x z h.0) ∙ same_self (name_of x)) in
    subst (λ (l : List words.Stream). StandFor a log' back l) (sym (cond-false (words.is_other (name_of x) z) (z ∷ filter (words.is_other (name_of x)) zs) (filter (words.is_other (name_of x)) zs) here)) (stand_others a log log' (name_of x) back zs b same' h.1)
stand_without a log log' (y ∷ front) back x [] f b same same' h = absurd h
stand_without a log log' (y ∷ front) back x (z ∷ zs) f b same same' h =
    let other : words.is_other (name_of x) z ≡ true = ap not (ap (words.same_named (name_of x)) (named_as a log y z h.0) ∙ f.0) in
    subst (λ (l : List words.Stream). StandFor a log' (y ∷ (front ++ back)) l) (sym (cond-true (words.is_other (name_of x) z) (z ∷ filter (words.is_other (name_of x)) zs) (filter (words.is_other (name_of x)) zs) other))
    ((stand_same a (y ∷ []) (z ∷ []) log log' (same.0, tt) (h.0, tt)).0, stand_without a log log' front back x zs f.1 b same.1 same' h.1)

-- a command is one in the log too

command_stands : (log : List Event) (x : NamedStream) → IsSound log x → is_command (standing (number_of x) log) ≡ words.is_command (name_of x)
command_stands log (named.Input Standard n input) h = ap is_command h.stands
command_stands log (named.Input File n input) h = ap is_command h.stands
command_stands log (named.Input Command n input) h = ap is_command h.stands
command_stands log (named.Output ToFile n output) h = ap is_command h
command_stands log (named.Output ToCommand n output) h = ap is_command h

some_stands : (log : List Event) (x : NamedStream) → IsSound log x → is_some (standing (number_of x) log) ≡ true
some_stands log (named.Input k n input) h = ap is_some h.stands
some_stands log (named.Output k n output) h = ap is_some h

none_more : (n : ℕ) → 0 + n ≡ n
none_more n = omega arith

-- a closing

close_named : (before after : WorldState) (id : ℕ) (xs : List NamedStream) → Closes before after id → AreOthers id xs → AreOpenNamed before xs → AreOpenNamed after xs
close_named before after id [] closes others h = tt
close_named before after id (x ∷ xs) closes others h = (closes (number_of x) ∙ (cond-false _ _ _ (ne_eqb (number_of x) id others.0) ∙ h.0), h.1, close_named before after id xs closes others.1 h.2)

open_without : (world : WorldState) (front back : List NamedStream) (x : NamedStream) → AreOpenNamed world (front ++ x ∷ back) → AreOpenNamed world (front ++ back)
open_without world [] back x h = h.2
open_without world (y ∷ front) back x h = (h.0, h.1, open_without world front back x h.2)

others_both : (id : ℕ) (front back : List NamedStream) → AreOthers id front → AreOthers id back → AreOthers id (front ++ back)
others_both id [] back f b = b
others_both id (y ∷ front) back f b = (f.0, others_both id front back f.1 b)

close_main : (before after : WorldState) (id : ℕ) (main : Option Input) (front back : List NamedStream) (x : NamedStream) → number_of x ≡ id → Closes before after id → IsApartFrom main (front ++ x ∷ back) → IsOpenMain before main → IsOpenMain after main
close_main before after id None front back x is closes apart h = tt
close_main before after id (Some input) front back x is closes apart h =
    (closes input.id ∙ (cond-false _ _ _ (ne_eqb input.id id (λ (e : input.id ≡ id). others_middle input.id front back x apart (is ∙ sym e))) ∙ h.0), h.1)

close_open : (before after : WorldState) (s : StreamsView) (front back : List NamedStream) (x : NamedStream) → s.named ≡ front ++ x ∷ back → AreOpen before s → Closes before after (number_of x) → AreOpen after record s { named = front ++ back }
close_open before after s front back x is h closes =
    let apart = subst (λ (l : List NamedStream). AreApart l) is h.apart in
    let from_main = subst (λ (l : List NamedStream). IsApartFrom s.main l) is h.apart_from_main in
    record {
      main = close_main before after (number_of x) s.main front back x refl closes from_main h.main;
      named = close_named before after (number_of x) (front ++ back) closes (others_both (number_of x) front back (apart_front front back x apart) (apart_back front back x apart)) (open_without before front back x (subst (λ (l : List NamedStream). AreOpenNamed before l) is h.named));
      apart = apart_without front back x apart;
      apart_from_main = apart_from_without s.main front back x from_main;
    }

close_sound : (before after : WorldState) (s : StreamsView) (front back : List NamedStream) (x : NamedStream) (n : ℤ) → s.named ≡ front ++ x ∷ back → AreOpen before s → AreSound before s → Closes before after (number_of x) → after.log ≡ Closed (number_of x) n ∷ before.log → AreSound after record s { named = front ++ back }
close_sound before after s front back x n is open' h closes logs =
    let id : ℕ = number_of x in
    let log : List Event = Closed id n ∷ before.log in
    let new : StreamsView = record s { named = front ++ back } in
    let apart = subst (λ (l : List NamedStream). AreApart l) is open'.apart in
    let sound = subst (λ (l : List NamedStream). AreSoundNamed before.log l) is h.named in
    let others : (j : ℕ) → j ≢ id → SameAt j before.log log = λ j differs. closed_at id j n before.log differs in
    subst (λ (l : List Event). AreSound record after { log = l } new) (sym logs) record {
      order = closed_known before after id n before.log closes (some_stands before.log x (sound_here before.log front back x sound)) h.order;
      main = main_same s.main before.log log (main_others s.main id front back x before.log log refl (subst (λ (l : List NamedStream). IsApartFrom s.main l) is open'.apart_from_main) others) h.main;
      named = sound_without log front back (sound_same front before.log log (same_for_others id front before.log log others (apart_front front back x apart)) (sound_front before.log front back x sound))
          (sound_same back before.log log (same_for_others id back before.log log others (apart_back front back x apart)) (sound_back before.log front back x sound));
      once = once_without front back x (subst (λ (l : List NamedStream). AreOnce l) is h.once);
      few = omega (arith, h.few, length_without front back x, ap length is);
      flushed = λ j other. elim (cases_eq id j) [
        | inl same ↦ cond-true _ _ _ (eq-eqb id j same)
        | inr differs ↦
            let not_old : is_output_among j (held_of s) ≡ false =
            or_false (0 == j) (1 == j || is_output_among j (held_in (front ++ back))) (1 == j || is_output_among j (held_in s.named)) other
            (λ one. or_false (1 == j) (is_output_among j (held_in (front ++ back))) (is_output_among j (held_in s.named)) one
            (λ two. ap (λ l. is_output_among j (held_in l)) is ∙ among_without j front back x (λ (e : j ≡ id). differs (sym e)) two)) in
            closed_flushed id j n before.log (h.flushed j not_old)
      ];
      owned = λ j no_main no_named. closed_none id j n before.log (λ other. h.owned j no_main (ap (is_of_named j) is ∙ of_without j front back x other no_named));
    }

pub flushed_after : (os : List (ℕ × Opening)) (id : ℕ) (n : ℤ) (log : List Event) → AreFlushed os log → AreFlushed os (Closed id n ∷ log)
flushed_after [] id n log h = tt
flushed_after (o ∷ os) id n log h = (closed_flushed id o.0 n log h.0, flushed_after os id n log h.1)

answered : (b : Bool) (a : Oracle) (log : List Event) (told answer : ℤ) → (b ≡ true → answer ≡ told) → (b ≡ false → answer ≡ pos 0) → (b ≡ true → a.closing (how_many closes_command log) ≡ told) → closing_answer b a log ≡ answer
answered true a log told answer command file consistent = consistent refl ∙ sym (command refl)
answered false a log told answer command file consistent = sym (file refl)

close_told : (before after : WorldState) (s : StreamsView) (front back : List NamedStream) (x : NamedStream) (told answer : ℤ) → s.named ≡ front ++ x ∷ back → AreOpen before s → AreSound before s → HoldsNothing s → (words.is_command (name_of x) ≡ true → answer ≡ told) → (words.is_command (name_of x) ≡ false → answer ≡ pos 0) →
    after.log ≡ Closed (number_of x) told ∷ before.log → after.failures ≡ before.failures → ClosesStream (name_of x) before s answer after record s { named = front ++ back }
close_told before after s front back x told answer is open' h empty command file logs same_failure =
    let id : ℕ = number_of x in
    let log : List Event = Closed id told ∷ before.log in
    let new : StreamsView = record s { named = front ++ back } in
    let apart = subst (λ (l : List NamedStream). AreApart l) is open'.apart in
    let once = subst (λ (l : List NamedStream). AreOnce l) is h.once in
    let sound = subst (λ (l : List NamedStream). AreSoundNamed before.log l) is h.named in
    let others : (j : ℕ) → j ≢ id → SameAt j before.log log = λ j differs. closed_at id j told before.log differs in
    let front_other = front_names front back x once in
    let back_other = back_names front back x once in
    let is_a_command = command_stands before.log x (sound_here before.log front back x sound) in
    let new_empty : HoldsNothing new = record { output = empty.output; error = empty.error; named = empty_without front back x (subst (λ (l : List NamedStream). AreEmpty l) is empty.named) } in
    let printed : printed_openings record after { log = log } new ≡ printed_openings before s = ap in_order (nothing_held new (openings before.log) new_empty ∙ sym (nothing_held s (openings before.log) empty)) in
    subst (λ (l : List Event). ClosesStream (name_of x) before s answer record after { log = l } new) (sym logs) record {
      grows = grows_on (Closed id told ∷ []) before record after { log = log } refl same_failure;
      main = refl;
      id = id;
      number = ap (λ l. words.number_among (numbered l) (name_of x)) is ∙ number_here front back x front_other;
      told = told;
      adds = refl;
      numbers = numbers_without front back x front_other back_other ∙ ap (λ l. words.without_number (name_of x) (numbered l)) (sym is);
      printed = printed;
      brought = λ b. record { received = b.received ∙ sym printed; flushed = flushed_after (openings before.log) id told before.log b.flushed };
      counts = record {
        inputs = λ k m. none_more _;
        outputs = λ k m. none_more _;
        closings = ap (λ c. one_if c + how_many closes_command before.log) is_a_command;
        runs = none_more _;
      };
      answered = λ a consistent. answered (words.is_command (name_of x)) a before.log told answer command file (λ e. consistent.0 (is_a_command ∙ e));
      streams = λ a main zs stands. record {
        main = main_rest_same a s.main main before.log log (main_others s.main id front back x before.log log refl (subst (λ (l : List NamedStream). IsApartFrom s.main l) is open'.apart_from_main) others) stands.main;
        named = stand_without a before.log log front back x zs front_other back_other (same_for_others id front before.log log others (apart_front front back x apart)) (same_for_others id back before.log log others (apart_back front back x apart))
            (subst (λ (l : List NamedStream). StandFor a before.log l zs) is stands.named);
      };
      no_failure = same_failure;
    }

-- the same of the streams as the code has them

pub closed_open : (before after : WorldState) (s : StreamsView) (place : ℕ) (x : NamedStream) → slice_get s.named place ≡ Some x → AreOpen before s → Closes before after (number_of x) → AreOpen after (without_place place s)
closed_open before after s place x at h closes =
    let p = split_at s.named place x at in
    subst (λ (l : List NamedStream). AreOpen after record s { named = l }) (sym (removed s.named place x p)) (close_open before after s p.front p.back x p.is h closes)

pub closed_sound : (before after : WorldState) (s : StreamsView) (place : ℕ) (x : NamedStream) (n : ℤ) → slice_get s.named place ≡ Some x → AreOpen before s → AreSound before s → Closes before after (number_of x) → after.log ≡ Closed (number_of x) n ∷ before.log → AreSound after (without_place place s)
closed_sound before after s place x n at open' h closes logs =
    let p = split_at s.named place x at in
    subst (λ (l : List NamedStream). AreSound after record s { named = l }) (sym (removed s.named place x p)) (close_sound before after s p.front p.back x n p.is open' h closes logs)

pub closed_told : (before after : WorldState) (s : StreamsView) (place : ℕ) (x : NamedStream) (told answer : ℤ) → slice_get s.named place ≡ Some x → AreOpen before s → AreSound before s → HoldsNothing s → (words.is_command (name_of x) ≡ true → answer ≡ told) → (words.is_command (name_of x) ≡ false → answer ≡ pos 0) →
    after.log ≡ Closed (number_of x) told ∷ before.log → after.failures ≡ before.failures → ClosesAt place before s answer after (without_place place s)
closed_told before after s place x told answer at open' h empty command file logs same_failure =
    let p = split_at s.named place x at in
    record {
      stream = x;
      at = at;
      closes = subst (λ (l : List NamedStream). ClosesStream (name_of x) before s answer after record s { named = l }) (sym (removed s.named place x p)) (close_told before after s p.front p.back x told answer p.is open' h empty command file logs same_failure);
    }

pub closed_empty : (s : StreamsView) (place : ℕ) (x : NamedStream) → slice_get s.named place ≡ Some x → HoldsNothing s → HoldsNothing (without_place place s)
closed_empty s place x at empty =
    let p = split_at s.named place x at in
    record {
      output = empty.output;
      error = empty.error;
      named = subst (λ (l : List NamedStream). AreEmpty l) (sym (removed s.named place x p)) (empty_without p.front p.back x (subst (λ (l : List NamedStream). AreEmpty l) p.is empty.named));
    }

-- what the code answers
pub if_command : (b c : Bool) (told answer : ℤ) → b ≡ c → answer ≡ (if b then told else pos 0) → c ≡ true → answer ≡ told
if_command b c told answer same is command = is ∙ cond-true _ _ _ (same ∙ command)

pub if_file : (b c : Bool) (told answer : ℤ) → b ≡ c → answer ≡ (if b then told else pos 0) → c ≡ false → answer ≡ pos 0
if_file b c told answer same is file = is ∙ cond-false _ _ _ (same ∙ file)

pub stream_at : (old s : StreamsView) (place : ℕ) (x : NamedStream) → s ≡ old → place < length old.named → x ≡ get_or s.named place x → slice_get old.named place ≡ Some x
stream_at old s place x is within at =
    ap (λ (v : StreamsView). slice_get v.named place) (sym is) ∙ slice_get_read s.named (length s.named) place x refl (omega (arith, within, ap (λ (v : StreamsView). length v.named) is)) at

pub without_is : (old s : StreamsView) (place : ℕ) (xs : List NamedStream) → s ≡ old → xs ≡ remove s.named place → record s { named = xs } ≡ without_place place old
without_is old s place xs is items = ap (λ l. record s { named = l }) items ∙ ap (without_place place) is
