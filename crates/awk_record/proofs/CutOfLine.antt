-- The cut of bytes whose first line is known.
use Rattle.std.proofs.Common.{◌≡◌, ◌≢◌, ℕ, ◌+◌, ◌<◌, ◌≤◌, List, [], ◌∷◌, ◌++◌, length, take, drop, get_or, Option, Some, refl, sym, ◌∙◌, ap, arith, length-append}
use Rattle.std.specs.List.{All}
use Rattle.std.proofs.Math.ListN.{get_or-append}
use Rattle.std.proofs.Math.Seq.{take-append_seam, drop-append_seam, get_or-append_seam}
use Rattle.std.proofs.lemmas.Bool.{cond-false, le-ltb}
use Rattle.std.proofs.lemmas.List.{drop-drop}
use Rattle.std.proofs.lemmas.List.Elements.{All-get_or}
use Rattle.awk_record.specs.definitions.Cut.{Ending, AtEnd, AtBreak, Cut, Found, BrokenOff, longest, first_at, limited, unfinished, cut_at, cut_of}
use Rattle.awk_record.proofs.SearchFindsFirst.{first_at_some, first_byte_none, byte_fails, byte_holds}

pub limited-within : (stretch : ℕ) (cut : Cut) → stretch ≤ longest → limited stretch cut ≡ cut
limited-within stretch cut le = cond-false _ _ _ (le-ltb longest stretch le)

-- the first place behind bytes among which the byte isn't
byte_behind : (c : ℕ) (first rest : List ℕ) → All (λ b. b ≢ c) first → first_at (c ∷ []) (first ++ c ∷ rest) ≡ Some (length first)
byte_behind c first rest none =
    let bytes = first ++ c ∷ rest in
    let within : length first < length bytes = omega (arith, length-append first (c ∷ rest)) in
    let fails : (k : ℕ) → k < length first → get_or bytes k 0 ≢ c =
    λ k lt is. All-get_or (λ (b : ℕ). b ≢ c) first k 0 lt none (sym (get_or-append first (c ∷ rest) 0 k lt) ∙ is) in
    first_at_some (c ∷ []) bytes (length first) within (λ k lt. byte_fails c bytes k (omega arith) (fails k lt)) (byte_holds c bytes (length first) within (get_or-append_seam first c rest 0))

pub cut_of-line : (c : ℕ) (first rest : List ℕ) (ending : Ending) → All (λ b. b ≢ c) first → length first < longest → cut_of (c ∷ []) (first ++ c ∷ rest) ending ≡ Found first rest
cut_of-line c first rest ending none lt =
    let bytes = first ++ c ∷ rest in
    let place = byte_behind c first rest none in
    let front : take (length first) bytes ≡ first = take-append_seam first (c ∷ rest) in
    let back : drop (length first + 1) bytes ≡ rest = sym (drop-drop 1 (length first) bytes) ∙ ap (drop 1) (drop-append_seam first (c ∷ rest)) in
    ap (λ (i : Option ℕ). cut_at i 0 (c ∷ []) (λ b. b) bytes ending) place ∙ (limited-within (0 + (length first + 1)) _ (omega arith) ∙ rw (front, back) refl)

nowhere : (c : ℕ) (bytes : List ℕ) (ending : Ending) → All (λ b. b ≢ c) bytes → length bytes ≤ longest → cut_of (c ∷ []) bytes ending ≡ unfinished (λ b. b) bytes ending
nowhere c bytes ending none le =
    let place = first_byte_none c bytes (λ k lt. All-get_or (λ (b : ℕ). b ≢ c) bytes k 0 lt none) in
    ap (λ (i : Option ℕ). cut_at i 0 (c ∷ []) (λ b. b) bytes ending) place ∙ limited-within (0 + length bytes) _ (omega arith)

pub cut_of-last_line : (c : ℕ) (bytes : List ℕ) → All (λ b. b ≢ c) bytes → bytes ≢ [] → length bytes ≤ longest → cut_of (c ∷ []) bytes AtEnd ≡ Found bytes []
cut_of-last_line c [] none some le = absurd (some refl)
cut_of-last_line c (b ∷ bytes) none some le = nowhere c (b ∷ bytes) AtEnd none le

pub cut_of-broken_line : (c : ℕ) (bytes : List ℕ) → All (λ b. b ≢ c) bytes → length bytes ≤ longest → cut_of (c ∷ []) bytes AtBreak ≡ BrokenOff
cut_of-broken_line c bytes none le = nowhere c bytes AtBreak none le
