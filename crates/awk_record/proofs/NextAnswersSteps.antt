-- An answer of the buffer, from the cut that it looked at.
use Rattle.std.proofs.Common.{◌≡◌, ◌≢◌, ◌⊎◌, inl, inr, ℕ, List, [], Option, Some, None, Result, Ok, refl, sym, ◌∙◌, ap, subst, append-nil}
use Rattle.awk_record.specs.definitions.Cut.{Ending, AtEnd, AtBreak, Cut, Found, NoMore, BrokenOff, TooLong, cut_of}
use Rattle.awk_record.specs.definitions.Buffer.{Pending, IsAnswerOf, Steps}
use Rattle.awk_record.specs.support.Boundary.{ending_of, ending_or_break}
use Rattle.awk_record.specs.declared.buffer.Step.{Step}
use Rattle.awk_record.specs.declared.buffer.Step.TheVariants.{NeedMore, Broken}
use Rattle.awk_record.specs.declared.buffer.Supply.{Supply}
use Rattle.awk_record.specs.declared.buffer.Supply.TheVariants.{Open, Ended, Broke}
use Rattle.awk_record.specs.declared.buffer_fault.BufferFault.{BufferFault}
use Rattle.awk_record.proofs.CutIsDecided.{IsDecided_law, cut-found, cut-too_long, cut-never_none}

-- what is settled is so for each ending
same_for_each : (separator bytes : List ℕ) (c : Cut) → cut_of separator bytes AtBreak ≡ c → c ≢ BrokenOff → (ending : Ending) → cut_of separator bytes ending ≡ c
same_for_each separator bytes (Found first rest) is other ending =
    ap (λ b. cut_of separator b ending) (sym (append-nil bytes)) ∙ (cut-found separator bytes [] ending first rest is ∙ ap (Found first) (append-nil rest))
same_for_each separator bytes TooLong is other ending =
    ap (λ b. cut_of separator b ending) (sym (append-nil bytes)) ∙ cut-too_long separator bytes [] ending is
same_for_each separator bytes BrokenOff is other ending = absurd (other refl)
same_for_each separator bytes NoMore is other ending = absurd (cut-never_none separator bytes is)

no_more_asked : (c : Cut) (ending : Option Ending) (result : Result Step BufferFault) (old new : Pending) → IsAnswerOf c ending result old new → result ≡ Ok NeedMore → ⊥
no_more_asked (Found first rest) ending result old new (answer, rest_is, ending_is) e = cc
no_more_asked NoMore ending result old new (answer, rest_is, ending_is) e = cc
no_more_asked BrokenOff ending result old new (answer, rest_is, ending_is) e = cc
no_more_asked TooLong ending result old new (answer, same) e = cc

pub Steps-more : (separator : List ℕ) (old : Pending) → old.ending ≡ None → cut_of separator old.bytes AtBreak ≡ BrokenOff → Steps separator old (Ok NeedMore) old
Steps-more separator old none is = record {
  needs_more = λ _ _. (refl, refl);
  only_then = λ _. (none, λ decided. (IsDecided_law separator old.bytes).0 decided is);
  decided = λ _ decided ending. absurd ((IsDecided_law separator old.bytes).0 decided is);
  ended = λ ending some. let bad : None ≡ Some ending = sym none ∙ some in cc;
}

pub Steps-open : (separator : List ℕ) (old new : Pending) (result : Result Step BufferFault) (c : Cut) → old.ending ≡ None → cut_of separator old.bytes AtBreak ≡ c → c ≢ BrokenOff →
    IsAnswerOf c None result old new → Steps separator old result new
Steps-open separator old new result c none is other answers = record {
  needs_more = λ _ undecided. absurd (undecided ((IsDecided_law separator old.bytes).1 (λ (broken : cut_of separator old.bytes AtBreak ≡ BrokenOff). other (sym is ∙ broken))));
  only_then = λ e. absurd (no_more_asked c None result old new answers e);
  decided = λ _ decided ending. subst (λ (x : Cut). IsAnswerOf x None result old new) (sym (same_for_each separator old.bytes c is other ending)) answers;
  ended = λ ending some. let bad : None ≡ Some ending = sym none ∙ some in cc;
}

pub Steps-ended : (separator : List ℕ) (old new : Pending) (result : Result Step BufferFault) (ending : Ending) (c : Cut) → old.ending ≡ Some ending → cut_of separator old.bytes ending ≡ c →
    IsAnswerOf c (Some ending) result old new → Steps separator old result new
Steps-ended separator old new result ending c some is answers = record {
  needs_more = λ none _. let bad : None ≡ Some ending = sym none ∙ some in cc;
  only_then = λ e. absurd (no_more_asked c (Some ending) result old new answers e);
  decided = λ none _ _. let bad : None ≡ Some ending = sym none ∙ some in cc;
  ended = λ other is_other.
      let same : other ≡ ending = cc in
      subst (λ (e : Ending). IsAnswerOf (cut_of separator old.bytes e) (Some e) result old new) (sym same) (subst (λ (x : Cut). IsAnswerOf x (Some ending) result old new) (sym is) answers);
}

-- by what was supply
pub Steps-at : (separator : List ℕ) (supply : Supply) (old new : Pending) (result : Result Step BufferFault) (c : Cut) → old.ending ≡ ending_of supply →
    cut_of separator old.bytes (ending_or_break supply) ≡ c → c ≢ BrokenOff → IsAnswerOf c (ending_of supply) result old new → Steps separator old result new
Steps-at separator Open old new result c ending is other answers = Steps-open separator old new result c ending is other answers
Steps-at separator Ended old new result c ending is other answers = Steps-ended separator old new result AtEnd c ending is answers
Steps-at separator Broke old new result c ending is other answers = Steps-ended separator old new result AtBreak c ending is answers

-- the cut of what is pending, by a look at the bytes at hand
cuts_at : (separator held bytes : List ℕ) (supply : Supply) (e : Ending) (old : Pending) (c : Cut) → c ≡ cut_of separator held e → e ≡ ending_or_break supply → held ≡ bytes →
    record { bytes = bytes; ending = ending_of supply } ≡ old → cut_of separator old.bytes (ending_or_break supply) ≡ c
cuts_at separator held bytes supply e old c is same_e same view =
    let bytes_are : held ≡ old.bytes = same ∙ ap (λ (p : Pending). p.bytes) view in
    sym (is ∙ (ap (λ b. cut_of separator b e) bytes_are ∙ ap (cut_of separator old.bytes) same_e))

-- from what a look at the bytes at hand showed
pub Steps-seen : (separator held bytes : List ℕ) (supply : Supply) (e : Ending) (old new : Pending) (result : Result Step BufferFault) (c : Cut) →
    c ≡ cut_of separator held e → e ≡ ending_or_break supply → held ≡ bytes → record { bytes = bytes; ending = ending_of supply } ≡ old →
    c ≢ BrokenOff → IsAnswerOf c (ending_of supply) result old new → Steps separator old result new
Steps-seen separator held bytes supply e old new result c is same_e same view other answers =
    let ending_is : ending_of supply ≡ old.ending = ap (λ (p : Pending). p.ending) view in
    Steps-at separator supply old new result c (sym ending_is) (cuts_at separator held bytes supply e old c is same_e same view) other answers

pub Steps-waits : (separator held bytes : List ℕ) (supply : Supply) (e : Ending) (old : Pending) →
    BrokenOff ≡ cut_of separator held e → e ≡ ending_or_break supply → held ≡ bytes → record { bytes = bytes; ending = ending_of supply } ≡ old →
    supply ≡ Open → Steps separator old (Ok NeedMore) old
Steps-waits separator held bytes supply e old is same_e same view nothing =
    let ending_is : ending_of supply ≡ old.ending = ap (λ (p : Pending). p.ending) view in
    let cuts : cut_of separator old.bytes AtBreak ≡ BrokenOff =
    ap (λ (s : Supply). cut_of separator old.bytes (ending_or_break s)) (sym nothing) ∙ cuts_at separator held bytes supply e old BrokenOff is same_e same view in
    Steps-more separator old (sym ending_is ∙ ap ending_of nothing) cuts

pub Steps-breaks : (separator held bytes : List ℕ) (supply : Supply) (e : Ending) (old new : Pending) →
    BrokenOff ≡ cut_of separator held e → e ≡ ending_or_break supply → held ≡ bytes → record { bytes = bytes; ending = ending_of supply } ≡ old →
    supply ≢ Open → new.bytes ≡ [] → new.ending ≡ ending_of supply → Steps separator old (Ok Broken) new
Steps-breaks separator held bytes Open e old new is same_e same view some empty kept = absurd (some refl)
Steps-breaks separator held bytes Ended e old new is same_e same view some empty kept =
    let ending_is : Some AtEnd ≡ old.ending = ap (λ (p : Pending). p.ending) view in
    Steps-ended separator old new (Ok Broken) AtEnd BrokenOff (sym ending_is) (cuts_at separator held bytes Ended e old BrokenOff is same_e same view) (refl, empty, kept)
Steps-breaks separator held bytes Broke e old new is same_e same view some empty kept =
    let ending_is : Some AtBreak ≡ old.ending = ap (λ (p : Pending). p.ending) view in
    Steps-ended separator old new (Ok Broken) AtBreak BrokenOff (sym ending_is) (cuts_at separator held bytes Broke e old BrokenOff is same_e same view) (refl, empty, kept)

pub found_unbroken : (first rest : List ℕ) → Found first rest ≡ BrokenOff → ⊥
found_unbroken first rest bad = cc

pub something_met : (supply : Supply) → (supply ≡ Ended) ⊎ (supply ≡ Broke) → supply ≢ Open
something_met supply (inl e) n = let bad : Open ≡ Ended = sym n ∙ e in cc
something_met supply (inr e) n = let bad : Open ≡ Broke = sym n ∙ e in cc
