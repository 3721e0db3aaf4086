-- Records of the main input that are passed over at once.
use Rattle.std.proofs.Common.{◌≡◌, ◌≤◌, inl, ℕ, suc, true, false, List, [], ◌∷◌, ◌++◌, length, drop, take, Option, Some, None, Ok, refl, sym, ◌∙◌, ap, subst, append_assoc, arith}
use Rattle.std.specs.Prelude.{is_some}
use Rattle.std.specs.List.{All}
use Rattle.std.proofs.lemmas.List.{take-append-drop}
use Rattle.awk_record.specs.Cut.{Ending, Cut, Found, cut_of, IsDecided}
use Rattle.awk_record.specs.Buffer.{Pending, Steps, IsAnswerOf}
use Rattle.awk_record.specs.declared.buffer.Step.TheVariants.{Record, NeedMore}
use Rattle.awk_record.proofs.CutOfLine.{cut_of-line}
use Rattle.awk_world.specs.definitions.WorldState.{WorldState}
use Rattle.awk_streams.specs.declared.input.Input.{Input}
use Rattle.awk_streams.specs.definitions.Streams.{StreamsView, AreOpen, AreSound, IsSameMain}
use Rattle.awk_streams.specs.definitions.MainInput.{IsLineOf, lines_of, TakesMain, TakesEach, main_bytes, skipped_main}
use Rattle.awk_streams.proofs.AtHandLemmas.{main_kept, at_hand_open, at_hand_told}

-- a line in front is the next record

line_cut : (c : ℕ) (first rest : List ℕ) → IsLineOf c first → (more : List ℕ) (ending : Ending) → cut_of (c ∷ []) ((first ++ c ∷ rest) ++ more) ending ≡ Found first (rest ++ more)
line_cut c first rest line more ending =
    ap (λ bytes. cut_of (c ∷ []) bytes ending) (append_assoc first (c ∷ rest) more) ∙ cut_of-line c first (rest ++ more) ending line.plain line.short

found_answer : (cut : Cut) (first rest : List ℕ) (ending : Option Ending) (old : Pending) → cut ≡ Found first rest → IsAnswerOf cut ending (Ok (Record first)) old record { bytes = rest; ending = ending }
found_answer cut first rest ending old is = subst (λ (x : Cut). IsAnswerOf x ending (Ok (Record first)) old record { bytes = rest; ending = ending }) (sym is) (refl, refl, refl)

line_steps : (c : ℕ) (first rest : List ℕ) (old : Pending) → IsLineOf c first → old.bytes ≡ first ++ c ∷ rest → Steps (c ∷ []) old (Ok (Record first)) record { bytes = rest; ending = old.ending }
line_steps c first rest old line is =
    let cut : (ending : Ending) → cut_of (c ∷ []) old.bytes ending ≡ Found first rest = λ ending. ap (λ bytes. cut_of (c ∷ []) bytes ending) is ∙ cut_of-line c first rest ending line.plain line.short in
    let decided : IsDecided (c ∷ []) old.bytes = inl (first, rest, λ more ending. ap (λ bytes. cut_of (c ∷ []) (bytes ++ more) ending) is ∙ line_cut c first rest line more ending) in
    record {
      needs_more = λ none undecided. absurd (undecided decided);
      only_then = λ e. let bad : Ok (Record first) ≡ Ok NeedMore = e in absurd cc;
      decided = λ none is_decided ending. subst (λ (o : Option Ending). IsAnswerOf (cut_of (c ∷ []) old.bytes ending) None (Ok (Record first)) old record { bytes = rest; ending = o }) (sym none) (found_answer _ first rest None old (cut ending));
      ended = λ ending some. subst (λ (o : Option Ending). IsAnswerOf (cut_of (c ∷ []) old.bytes ending) (Some ending) (Ok (Record first)) old record { bytes = rest; ending = o }) (sym some) (found_answer _ first rest (Some ending) old (cut ending));
    }

-- each in turn

with_bytes : Input → List ℕ → Input
with_bytes input bytes = record input { pending = record { bytes = bytes; ending = input.pending.ending } }

takes_each : (c : ℕ) (lines : List (List ℕ)) (rest : List ℕ) (world : WorldState) (s : StreamsView) (input : Input) → s.main ≡ Some input → input.pending.bytes ≡ lines_of c lines ++ rest → All (IsLineOf c) lines → AreOpen world s → AreSound world s →
    TakesEach (c ∷ []) lines world s record s { main = Some (with_bytes input rest) }
unfolding with_bytes
takes_each c [] rest world s input main is lines open' sound =
    ap (λ (m : Option Input). record s { main = m }) (ap (λ (b : List ℕ). Some (with_bytes input b)) (sym is) ∙ sym main)
takes_each c (first ∷ more) rest world s input main is all open' sound =
    let line : IsLineOf c first = all 0 first (omega arith) in
    let lines : All (IsLineOf c) more = λ k d within. all (suc k) d (omega (arith, within)) in
    let left : List ℕ = lines_of c more ++ rest in
    let bytes : input.pending.bytes ≡ first ++ c ∷ left = is ∙ append_assoc first (c ∷ lines_of c more) rest in
    let next : Input = with_bytes input left in
    let mid : StreamsView = record s { main = Some next } in
    let steps = line_steps c first left input.pending line bytes in
    let mid_open = at_hand_open s s input next refl main refl world open' in
    let mid_sound = main_kept s s input next refl main refl refl world sound in
    let takes : TakesMain (c ∷ []) first world s mid = record {
      there = ap is_some main;
      same = subst (λ (m : Option Input). IsSameMain m (Some next)) (sym main) refl;
      open_as = mid_open;
      sound = mid_sound;
      asks = at_hand_told (c ∷ []) s s input next (Some first) refl main refl (steps, refl) world open' sound;
    } in
    (mid, takes, takes_each c more rest world mid next refl refl lines mid_open mid_sound)

-- the streams, as the code has them

-- nothing but the bytes at hand is another
pub record IsSkipped (count : ℕ) (was new : Input) : Type 0 where
  pub id : new.id ≡ was.id
  pub bytes : new.pending.bytes ≡ drop count was.pending.bytes
  pub ending : new.pending.ending ≡ was.pending.ending

main_is : (old s : StreamsView) (was : Input) → s ≡ old → s.main ≡ Some was → old.main ≡ Some was
main_is old s was is main = ap (λ (v : StreamsView). v.main) (sym is) ∙ main

pub skip_within : (old s : StreamsView) (was : Input) (count : ℕ) → s ≡ old → s.main ≡ Some was → count ≤ length (main_bytes old.main) → count ≤ length was.pending.bytes
skip_within old s was count is main within = subst (λ (m : Option Input). count ≤ length (main_bytes m)) (main_is old s was is main) within

input_is : (count : ℕ) (was new : Input) → IsSkipped count was new → with_bytes was (drop count was.pending.bytes) ≡ new
unfolding with_bytes
input_is count was new h =
    ap (λ (i : ℕ). record { id = i; pending = record { bytes = drop count was.pending.bytes; ending = was.pending.ending } }) (sym h.id)
    ∙ (ap (λ (b : List ℕ). record { id = new.id; pending = record { bytes = b; ending = was.pending.ending } }) (sym h.bytes)
    ∙ ap (λ (e : Option Ending). record { id = new.id; pending = record { bytes = new.pending.bytes; ending = e } }) (sym h.ending))

pub skipped_is : (old s : StreamsView) (was new : Input) (count : ℕ) → s ≡ old → s.main ≡ Some was → IsSkipped count was new → record s { main = Some new } ≡ record old { main = skipped_main count old.main }
unfolding with_bytes
skipped_is old s was new count is main h =
    ap (λ (m : Option Input). record s { main = m }) (ap Some (sym (input_is count was new h)) ∙ ap (skipped_main count) (sym main)) ∙ ap (λ (v : StreamsView). record v { main = skipped_main count v.main }) is

pub skip_told : (old s : StreamsView) (was new : Input) (count : ℕ) → s ≡ old → s.main ≡ Some was → IsSkipped count was new →
    (c : ℕ) (lines : List (List ℕ)) → is_some old.main ≡ true → take count (main_bytes old.main) ≡ lines_of c lines → All (IsLineOf c) lines → (world : WorldState) → AreOpen world old → AreSound world old → TakesEach (c ∷ []) lines world old record s { main = Some new }
skip_told old s was new count is main h c lines there front each world open' sound =
    let old_main : old.main ≡ Some was = main_is old s was is main in
    let left : List ℕ = drop count was.pending.bytes in
    let whole : was.pending.bytes ≡ lines_of c lines ++ left =
    sym (take-append-drop count was.pending.bytes) ∙ ap (λ b. b ++ left) (ap (λ (m : Option Input). take count (main_bytes m)) (sym old_main) ∙ front) in
    subst (λ (v : StreamsView). TakesEach (c ∷ []) lines world old v)
    (ap (λ (v : StreamsView). record v { main = Some (with_bytes was left) }) (sym is) ∙ ap (λ (i : Input). record s { main = Some i }) (input_is count was new h))
    (takes_each c lines left world old was old_main whole each open' sound)

-- where no main input is open
pub skipped_none : (old s : StreamsView) (count : ℕ) → s ≡ old → s.main ≡ None → s ≡ record old { main = skipped_main count old.main }
skipped_none old s count is none =
    ap (λ (m : Option Input). record s { main = m }) (none ∙ ap (skipped_main count) (sym none)) ∙ ap (λ (v : StreamsView). record v { main = skipped_main count v.main }) is

none_there : {P : Type 0} (old s : StreamsView) → s ≡ old → s.main ≡ None → is_some old.main ≡ true → P
none_there old s is none there =
    let missing : old.main ≡ None = ap (λ (v : StreamsView). v.main) (sym is) ∙ none in
    let bad : false ≡ true = ap is_some (sym missing) ∙ there in
    absurd cc

pub skip_told_none : (old s : StreamsView) (count : ℕ) → s ≡ old → s.main ≡ None → (c : ℕ) (lines : List (List ℕ)) → is_some old.main ≡ true → take count (main_bytes old.main) ≡ lines_of c lines → All (IsLineOf c) lines → (world : WorldState) → AreOpen world old → AreSound world old →
    TakesEach (c ∷ []) lines world old s
skip_told_none old s count is none c lines there front each world open' sound = none_there old s is none there
