-- The record that ends at a byte, and the bytes that memory holds which was lent.
use Rattle.std.proofs.Common.{◌≡◌, ℕ, ◌+◌, ◌-◌, ◌<◌, ◌≤◌, List, [], ◌∷◌, ◌++◌, length, take, drop, Option, Some, Ok, sym, ◌∙◌, ap, subst, arith, append_assoc}
use Rattle.std.specs.Prelude.{slice_range}
use Rattle.std.proofs.Math.Seq.{take-add, take-append_seam}
use Rattle.std.proofs.lemmas.List.{drop-take, take-take}
use Rattle.memchr.specs.Find.{IsFirstByte, is_byte}
use Rattle.awk_record.specs.definitions.Cut.{Ending, Found, longest, first_at, cut_at, cut_of}
use Rattle.awk_record.specs.definitions.Buffer.{Pending, Steps}
use Rattle.awk_record.specs.support.Boundary.{ending_of, ending_or_break}
use Rattle.awk_record.specs.declared.buffer.Step.TheVariants.{Record}
use Rattle.awk_record.specs.declared.buffer.Supply.{Supply}
use Rattle.awk_record.proofs.SearchFindsFirst.{first_byte_some}
use Rattle.awk_record.proofs.CutOfLine.{limited-within}
use Rattle.awk_record.proofs.NextAnswersSteps.{Steps-at, found_unbroken}

-- the bytes of a cut, in either order of its ends
pub cut_is : (bytes : List ℕ) (from to : ℕ) → from ≤ to → drop from (take to bytes) ≡ take (to - from) (drop from bytes)
cut_is bytes from to le =
    let sum : to ≡ from + (to - from) = omega arith in
    ap (λ (n : ℕ). drop from (take n bytes)) sum ∙ drop-take from (to - from) bytes

-- the cut at the first place of a byte
cut_at_byte : (c : ℕ) (bytes : List ℕ) (to : ℕ) (ending : Ending) → IsFirstByte (is_byte c) bytes (Some to) → to < longest → cut_of (c ∷ []) bytes ending ≡ Found (take to bytes) (drop (to + 1) bytes)
cut_at_byte c bytes to ending found lt =
    let sum : 0 + to ≡ to = omega arith in
    let place : first_at (c ∷ []) bytes ≡ Some to = (first_byte_some c bytes 0 to (omega arith) (λ k few. absurd (omega arith)) found).0 ∙ ap (λ (i : ℕ). Some i) sum in
    ap (λ (i : Option ℕ). cut_at i 0 (c ∷ []) (λ b. b) bytes ending) place ∙ limited-within (0 + (to + 1)) _ (omega arith)

pub Steps-at_byte : (c : ℕ) (held bytes : List ℕ) (to : ℕ) (supply : Supply) (old new : Pending) (first : List ℕ) → IsFirstByte (is_byte c) held (Some to) → held ≡ bytes → to < longest →
    record { bytes = bytes; ending = ending_of supply } ≡ old → first ≡ drop 0 (take to bytes) → new.bytes ≡ drop (to + 1) bytes → new.ending ≡ ending_of supply →
    Steps (c ∷ []) old (Ok (Record first)) new
Steps-at_byte c held bytes to supply old new first found same lt view is rest kept =
    let bytes_are : bytes ≡ old.bytes = ap (λ (p : Pending). p.bytes) view in
    let ending_is : ending_of supply ≡ old.ending = ap (λ (p : Pending). p.ending) view in
    let place = subst (λ (s : List ℕ). IsFirstByte (is_byte c) s (Some to)) same found in
    let cuts = ap (λ (s : List ℕ). cut_of (c ∷ []) s (ending_or_break supply)) (sym bytes_are) ∙ cut_at_byte c bytes to (ending_or_break supply) place lt in
    Steps-at (c ∷ []) supply old new (Ok (Record first)) (Found (take to bytes) (drop (to + 1) bytes)) (sym ending_is) cuts (found_unbroken _ _)
    (ap (λ (t : List ℕ). Ok (Record t)) is, rest, kept)

-- the bytes that were written in front of memory
pub front_written : (written bytes behind rest : List ℕ) (n size : ℕ) → written ≡ bytes ++ behind → n ≡ length bytes → n ≤ size → take n (take size (written ++ rest)) ≡ bytes
front_written written bytes behind rest n size is count le =
    take-take n size (written ++ rest) le
    ∙ (ap (λ (w : List ℕ). take n (w ++ rest)) is
    ∙ (ap (take n) (append_assoc bytes behind rest)
    ∙ (ap (λ (k : ℕ). take k (bytes ++ (behind ++ rest))) count ∙ take-append_seam bytes (behind ++ rest))))

-- the bytes at hand, and those that were read behind them
pub taken_back : (items bytes : List ℕ) (end : ℕ) → take (length bytes) items ≡ bytes → length bytes ≤ end → take end items ≡ bytes ++ slice_range items (length bytes) end
taken_back items bytes end front le =
    let sum : end ≡ length bytes + (end - length bytes) = omega arith in
    ap (λ (n : ℕ). take n items) sum
    ∙ (take-add (length bytes) (end - length bytes) items ∙ ap (λ (b : List ℕ). b ++ take (end - length bytes) (drop (length bytes) items)) front)
