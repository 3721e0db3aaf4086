-- What the code keeps, and the separator for which it stands.
use Rattle.std.proofs.Common.{◌≡◌, ◌≢◌, ℕ, ◌≤◌, Bool, true, List, [], ◌∷◌, ◌++◌, length, Option, Some, None, Result, Ok, Err, refl, sym, ap, subst, ◌∙◌, arith}
use Rattle.std.specs.Prelude.{is_ok, IfOk, IfErr, OnOk, MatchResult}
use Rattle.std.specs.Result.{IsErrAnd}
use Rattle.std.proofs.Math.Logic.{∥∥₁_elim, ∥∥₁_prop}
use Rattle.std.specs.Coded.{Coded-set, coded_list, coded_ℕ}
use Rattle.awk_ere.specs.definitions.Tree.{Tree}
use Rattle.awk_ere.specs.definitions.Means.{Means, ReadsAs, pattern_of}
use Rattle.awk_ere.specs.declared.pattern.Pattern.{Pattern}
use Rattle.awk_ere.specs.declared.fault.PatternFault.{PatternFault}
use Rattle.awk_ere.specs.declared.fault.PatternFault.TheVariants as patterns
use Rattle.awk_text.specs.declared.fault.TextFault.{TextFault}
use Rattle.awk_text.specs.declared.fault.TextFault.TheVariants.{Memory, Pattern as NoPattern}
use Rattle.awk_text.specs.declared.separator.Separator.{Separator as CodeSeparator}
use Rattle.awk_text.specs.declared.separator.Separator.TheVariants as code
use Rattle.awk_text.specs.declared.splitter.Splitter.{Splitter}
use Rattle.awk_text.specs.declared.splitter.Splitter.TheVariants as splitters
use Rattle.awk_text.specs.declared.matcher.Matcher.{Matcher}
use Rattle.awk_text.specs.definitions.Separators.{Separator, blanks, byte, each, ere, separator_of, ere_or_refused, separator_made, or_newline, IsSeparator, IsMadeFor}
use Rattle.awk_text.specs.support.Faults.{text_fault}
use Rattle.awk_text.specs.support.Splitters.{Stands, StandsFor}
use Rattle.awk_text.specs.definitions.Fields.{pieces_from, pieces_of}

ere_made : (p : Pattern) (o : Option Tree) → ReadsAs (Ok p) o → IsMadeFor (ere_or_refused o) (code.Ere p)
ere_made p None reads = reads
ere_made p (Some t) reads = reads

-- a longer text stands for the pattern that it spells
pub longer_made : (text : List ℕ) (p : Pattern) → 2 ≤ length text → ReadsAs (Ok p) (pattern_of text) → IsMadeFor (separator_of text) (code.Ere p)
longer_made [] p long reads = absurd (omega arith)
longer_made (b ∷ []) p long reads = absurd (omega arith)
longer_made (b ∷ c ∷ text) p long reads = ere_made p (pattern_of (b ∷ c ∷ text)) reads

no_memory : (fault : PatternFault) → text_fault fault ≢ Memory → NoPattern ≡ text_fault fault
no_memory patterns.Memory other = absurd (other refl)
no_memory patterns.IllFormed other = refl
no_memory patterns.BadCount other = refl
no_memory patterns.TooLarge other = refl

ere_refused : (fault : PatternFault) (o : Option Tree) → ReadsAs (Err fault) o → text_fault fault ≢ Memory → ere_or_refused o ≡ Err (text_fault fault)
ere_refused fault None reads other = ap (λ (e : TextFault). Err e) (no_memory fault other)
ere_refused fault (Some t) reads other = absurd (other (ap text_fault reads))

longer_refused : (text : List ℕ) (fault : PatternFault) → 2 ≤ length text → ReadsAs (Err fault) (pattern_of text) → text_fault fault ≢ Memory → separator_of text ≡ Err (text_fault fault)
longer_refused [] fault long reads other = absurd (omega arith)
longer_refused (b ∷ []) fault long reads other = absurd (omega arith)
longer_refused (b ∷ c ∷ text) fault long reads other = ere_refused fault (pattern_of (b ∷ c ∷ text)) reads other

-- where it isn't made although there is memory, the text is refused
pub refused_for : (text : List ℕ) (fault : PatternFault) (r : Result CodeSeparator TextFault) → 2 ≤ length text → ReadsAs (Err fault) (pattern_of text) →
    IsErrAnd r (λ e. e ≡ text_fault fault) → IfErr r (λ e. e ≢ Memory → separator_of text ≡ Err e)
refused_for text fault (Ok made) long reads is = tt
refused_for text fault (Err e) long reads is = λ other.
    longer_refused text fault long reads (λ memory. other (is ∙ memory)) ∙ ap (λ (x : TextFault). Err x) (sym is)

-- what was made of the separator of a text stands for it
pub made_stands : (separator : Result Separator TextFault) (newline_too : Bool) (made : CodeSeparator) (splitter : Splitter) → ((s : Separator) → IsSeparator s made → Stands s newline_too splitter) →
    IsMadeFor separator made → ∥ StandsFor separator newline_too splitter ∥₁
made_stands (Ok s) n made splitter stands is = ∣ stands s is ∣₁
made_stands (Err fault) n made splitter stands is = absurd is

pub for_blanks : (newline_too : Bool) (P : Separator → Type 0) → P blanks → (s : Separator) → Stands s newline_too splitters.Blanks → P s
for_blanks n P p blanks h = p
for_blanks n P p (byte b) h = absurd h
for_blanks n P p each h = absurd h
for_blanks n P p (ere t) h = absurd h

pub same_ere : (newline_too : Bool) (old new : Matcher) → new.pattern ≡ old.pattern → (s : Separator) → Stands s newline_too (splitters.Ere old) → Stands s newline_too (splitters.Ere new)
same_ere n old new same blanks h = absurd h
same_ere n old new same (byte b) h = absurd h
same_ere n old new same each h = absurd h
same_ere n old new same (ere t) h = subst (λ p. Means (or_newline n t) p) (sym same) h

-- a pattern to which a newline was added, where only faults are changed
pub newline_means : (p : Pattern) (r : Result Pattern PatternFault) (made : Result Pattern TextFault) (Q : PatternFault → Type 0) →
    ((t : Tree) → Means t p → MatchResult r (λ q. Means (or_newline true t) q) (λ fault. fault ≡ patterns.Memory)) →
    MatchResult r (λ q. made ≡ Ok q) Q → is_ok made ≡ is_ok r → (t : Tree) → Means t p → IfOk made (Means (or_newline true t))
newline_means p (Ok q) made Q newline same variant t means = subst (λ (m : Result Pattern TextFault). IfOk m (Means (or_newline true t))) (sym same) (newline t means)
newline_means p (Err fault) (Ok q) Q newline same variant t means = cc
newline_means p (Err fault) (Err e) Q newline same variant t means = tt

pub stands_ere : (newline_too : Bool) (p : Pattern) (m : Matcher) → ((t : Tree) → Means t p → Means (or_newline newline_too t) m.pattern) →
    (s : Separator) → IsSeparator s (code.Ere p) → Stands s newline_too (splitters.Ere m)
stands_ere n p m means blanks is = absurd is
stands_ere n p m means (byte b) is = absurd is
stands_ere n p m means each is = absurd is
stands_ere n p m means (ere t) is = means t is

-- the same separator, by what the code keeps of it
pub stands_still : (separator : Result Separator TextFault) (newline_too : Bool) (old new : Splitter) → ((s : Separator) → Stands s newline_too old → Stands s newline_too new) →
    ∥ StandsFor separator newline_too old ∥₁ → ∥ StandsFor separator newline_too new ∥₁
stands_still separator n old new still stands = ∥∥₁_elim stands ∥∥₁_prop (λ h. ∣ still_for separator h ∣₁)
  where
    still_for : (separator : Result Separator TextFault) → StandsFor separator n old → StandsFor separator n new
    still_for (Ok s) h = still s h
    still_for (Err fault) h = h

-- the pieces found and those left, by the separator that a value of FS stands for
pub left_for : (separator : Result Separator TextFault) (newline_too : Bool) (splitter : Splitter) (text : List ℕ) (old new : List (List ℕ)) (before behind : ℕ) →
    ((s : Separator) → Stands s newline_too splitter → new ++ pieces_from s newline_too text behind ≡ old ++ pieces_from s newline_too text before) →
    ∥ StandsFor separator newline_too splitter ∥₁ →
    new ++ pieces_from (separator_made separator) newline_too text behind ≡ old ++ pieces_from (separator_made separator) newline_too text before
left_for separator n splitter text old new before behind pieces stands =
    let made = separator_made separator in
    ∥∥₁_elim stands (Coded-set (coded_list (coded_list coded_ℕ)) (new ++ pieces_from made n text behind) (old ++ pieces_from made n text before)) (λ h. by_made separator h)
  where
    by_made : (separator : Result Separator TextFault) → StandsFor separator n splitter →
        new ++ pieces_from (separator_made separator) n text behind ≡ old ++ pieces_from (separator_made separator) n text before
    by_made (Ok s) h = pieces s h
    by_made (Err fault) h = absurd h

-- all pieces by the separator that a value of FS stands for
pub pieces_for : (separator : Result Separator TextFault) (newline_too : Bool) (splitter : Splitter) (text : List ℕ) (r : Result (Unit {0}) TextFault) (found : List (List ℕ)) →
    ((s : Separator) → Stands s newline_too splitter → OnOk r (found ≡ pieces_of s newline_too text)) →
    ∥ StandsFor separator newline_too splitter ∥₁ → OnOk r (found ≡ pieces_of (separator_made separator) newline_too text)
pieces_for separator n splitter text (Err fault) found pieces stands = tt
pieces_for separator n splitter text (Ok done) found pieces stands =
    ∥∥₁_elim stands (Coded-set (coded_list (coded_list coded_ℕ)) found (pieces_of (separator_made separator) n text)) (λ h. by_made separator h)
  where
    by_made : (separator : Result Separator TextFault) → StandsFor separator n splitter → found ≡ pieces_of (separator_made separator) n text
    by_made (Ok s) h = pieces s h
    by_made (Err fault) h = absurd h
