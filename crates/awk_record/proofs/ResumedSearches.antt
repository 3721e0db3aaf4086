-- Searches that go on where earlier ones, over fewer bytes, found nothing.
use Rattle.std.proofs.Common.{◌≡◌, ℕ, zero, suc, ◌+◌, ◌-◌, ◌<◌, ◌≤◌, false, List, [], ◌∷◌, ◌++◌, length, drop, Option, Some, None, refl, sym, ◌∙◌, ap, subst, arith, length-append}
use Rattle.std.proofs.lemmas.Bool.{cond-false}
use Rattle.std.proofs.lemmas.List.{drop-drop, length-drop, drop-append-le, get_or_append_left}
use Rattle.memchr.specs.Find.{FindsNeedle}
use Rattle.awk_record.specs.definitions.Cut.{Ending, BrokenOff, begins_with, one_later, first_at, newlines, without_newline, cut_of}
use Rattle.awk_record.specs.support.Boundary.{HasNoWord, IsKnown, IsSkipped, nothing_known, IsSearched}
use Rattle.awk_record.specs.declared.separator_search.Progress.{Progress}
use Rattle.awk_record.specs.declared.separator_search.ResumedSearch.{ResumedSearch}
use Rattle.awk_record.proofs.CutIsDecided.{begins_with-front}
use Rattle.awk_record.proofs.SearchFindsFirst.{found_needle, none_begins, nothing_found}
use Rattle.awk_record.proofs.BlankLines.{newlines_are}

-- ---- what a search finds that is resumed

-- so many places further on
abbrev pub further : ℕ → Option ℕ → Option ℕ
further n None = None
further n (Some i) = Some (n + i)

further_none : (o : Option ℕ) → further 0 o ≡ o
further_none None = refl
further_none (Some i) = ap Some (omega arith)

further_one : (n : ℕ) (o : Option ℕ) → one_later (further n o) ≡ further (suc n) o
further_one n None = refl
further_one n (Some i) = ap Some (omega arith)

first_at_further : (word : List ℕ) (n : ℕ) (bytes : List ℕ) → n ≤ length bytes → ((k : ℕ) → k < n → begins_with word (drop k bytes) ≡ false) → first_at word bytes ≡ further n (first_at word (drop n bytes))
first_at_further word zero bytes le fails = sym (further_none (first_at word bytes))
first_at_further word (suc n) [] le fails = absurd (omega arith)
first_at_further word (suc n) (b ∷ bytes) le fails =
    cond-false _ _ _ (fails 0 (omega arith))
    ∙ (ap one_later (first_at_further word n bytes (omega arith) (λ k lt. fails (suc k) (omega arith))) ∙ further_one n (first_at word (drop n bytes)))

-- what a search finds that begins at a place before which the word stands nowhere behind the front
pub word_found : (word bytes rest : List ℕ) (front searched from : ℕ) (found : Option ℕ) → 0 < length word → front ≤ from → from ≤ length bytes → HasNoWord word front searched bytes →
    ((k : ℕ) → front ≤ k → k < from → k + length word ≤ searched) → rest ≡ drop from bytes → FindsNeedle rest word 0 found → further (from - front) found ≡ first_at word (drop front bytes)
word_found word bytes rest front searched from found some order within none before is finds =
    let place : front + (from - front) ≡ from = omega arith in
    let behind : drop (from - front) (drop front bytes) ≡ rest = drop-drop (from - front) front bytes ∙ (ap (λ j. drop j bytes) place ∙ sym is) in
    let size : length (drop front bytes) ≡ length bytes - front = length-drop front bytes in
    let fails : (k : ℕ) → k < from - front → begins_with word (drop k (drop front bytes)) ≡ false = λ k lt.
    ap (begins_with word) (drop-drop k front bytes) ∙ none (front + k) (omega arith) (before (front + k) (omega arith) (omega arith)) in
    ap (further (from - front)) (found_needle word rest found some finds ∙ ap (first_at word) (sym behind))
    ∙ sym (first_at_further word (from - front) (drop front bytes) (omega arith) fails)

-- ---- what is known of the bytes

no_word : (word bytes : List ℕ) (front : ℕ) → 0 < length word → ((k : ℕ) → k < length (drop front bytes) → begins_with word (drop k (drop front bytes)) ≡ false) → HasNoWord word front (length bytes) bytes
no_word word bytes front some fails k le fits =
    let place : front + (k - front) ≡ k = omega arith in
    let within : k - front < length (drop front bytes) = omega (arith, length-drop front bytes) in
    sym (ap (begins_with word) (drop-drop (k - front) front bytes ∙ ap (λ j. drop j bytes) place)) ∙ fails (k - front) within

-- what a cut that found no whole record tells of them
pub unfinished_known : (separator bytes : List ℕ) (ending : Ending) (skipped : ℕ) → BrokenOff ≡ cut_of separator bytes ending → IsSkipped separator skipped bytes → IsKnown separator record { skipped = skipped; searched = length bytes } bytes
unfinished_known [] bytes ending skipped is counted =
    let none = nothing_found (first_at (10 ∷ 10 ∷ []) (drop (newlines bytes) bytes)) (newlines bytes) (10 ∷ 10 ∷ []) without_newline (drop (newlines bytes) bytes) ending is in
    subst (λ n. IsKnown [] record { skipped = n; searched = length bytes } bytes) (sym counted)
    (newlines_are bytes, no_word (10 ∷ 10 ∷ []) bytes (newlines bytes) (omega arith) (none_begins (10 ∷ 10 ∷ []) (drop (newlines bytes) bytes) none))
unfinished_known (c ∷ separator) bytes ending skipped is counted =
    let none = nothing_found (first_at (c ∷ separator) bytes) 0 (c ∷ separator) (λ b. b) bytes ending is in
    no_word (c ∷ separator) bytes 0 (omega arith) (none_begins (c ∷ separator) bytes none)

pub known_nothing : (separator bytes : List ℕ) → IsKnown separator nothing_known bytes
known_nothing [] bytes = (λ k lt. absurd (omega arith), λ k le fits. absurd (omega arith))
known_nothing (c ∷ separator) bytes = λ k le fits. absurd (omega arith)

-- more bytes behind them change nothing of it
no_word_more : (word bytes more : List ℕ) (place n : ℕ) → n ≤ length bytes → HasNoWord word place n bytes → HasNoWord word place n (bytes ++ more)
no_word_more word bytes more place n le none k front fits =
    let behind : drop k (bytes ++ more) ≡ drop k bytes ++ more = drop-append-le k bytes more (omega arith) in
    ap (begins_with word) behind ∙ (begins_with-front word (drop k bytes) more (omega (arith, length-drop k bytes)) ∙ none k front fits)

pub known_more : (separator : List ℕ) (progress : Progress) (bytes more : List ℕ) → progress.skipped ≤ length bytes → progress.searched ≤ length bytes → IsKnown separator progress bytes → IsKnown separator progress (bytes ++ more)
known_more [] progress bytes more skipped searched known = (
  λ k lt. get_or_append_left bytes more 0 k (omega arith) ∙ known.0 k lt,
  no_word_more (10 ∷ 10 ∷ []) bytes more progress.skipped progress.searched searched known.1,
)
known_more (c ∷ separator) progress bytes more skipped searched known = no_word_more (c ∷ separator) bytes more 0 progress.searched searched known

pub searched_more : (bytes more : List ℕ) (last : ResumedSearch) → IsSearched bytes last → IsSearched (bytes ++ more) last
searched_more bytes more last is = record {
  skipped = omega (arith, is.skipped, length-append bytes more);
  searched = omega (arith, is.searched, length-append bytes more);
  known = known_more last.separator.items last.progress bytes more is.skipped is.searched is.known;
}

pub searched_nothing : (bytes : List ℕ) (last : ResumedSearch) → last.progress ≡ nothing_known → IsSearched bytes last
searched_nothing bytes last none =
    let skipped : last.progress.skipped ≡ 0 = ap (λ (p : Progress). p.skipped) none in
    let searched : last.progress.searched ≡ 0 = ap (λ (p : Progress). p.searched) none in
    record {
      skipped = omega arith;
      searched = omega arith;
      known = subst (λ (p : Progress). IsKnown last.separator.items p bytes) (sym none) (known_nothing last.separator.items bytes);
    }

-- how far the search has come is kept
pub searched_kept : (bytes held separator : List ℕ) (progress : Progress) (last : ResumedSearch) → held ≡ bytes → progress.skipped ≤ length held → progress.searched ≤ length held →
    last.separator.items ≡ separator → last.progress ≡ progress → IsKnown separator progress held → IsSearched bytes last
searched_kept bytes held separator progress last is skipped searched same_separator same_progress known =
    let size : length held ≡ length bytes = ap length is in
    let known' : IsKnown separator progress bytes = subst (IsKnown separator progress) is known in
    let here : IsKnown last.separator.items progress bytes = subst (λ (s : List ℕ). IsKnown s progress bytes) (sym same_separator) known' in
    record {
      skipped = omega (arith, ap (λ (p : Progress). p.skipped) same_progress);
      searched = omega (arith, ap (λ (p : Progress). p.searched) same_progress);
      known = subst (λ (p : Progress). IsKnown last.separator.items p bytes) (sym same_progress) here;
    }
