-- As many heights are together no lower than their number.
use Rattle.std.proofs.Common.{◌≡◌, ℕ, zero, suc, ◌+◌, ◌-◌, ◌≤◌, ◌<◌, List, [], ◌∷◌, ◌++◌, length, take, sym, subst, ap, ◌∙◌, arith, length-append}
use Rattle.std.specs.List.{sum}
use Rattle.std.proofs.lemmas.List.{take-append-le, take_all, length-take}
use Rattle.std.proofs.lemmas.List.Sums.{sum_by-cons}
use Rattle.awk_storage.specs.declared.entry.Entry.{Entry}
use Rattle.awk_storage.specs.declared.control.TheConstants.{FIRST_BOUND}
use Rattle.awk_storage.specs.support.Control.{Controlled, but_last, HasRoom}
use Rattle.awk_storage.specs.support.Entered.{AreHigh, AreEntered}

pub no_lower : (heights : List ℕ) → AreHigh heights → length heights ≤ sum heights
no_lower [] h = omega arith
no_lower (x ∷ xs) h = let low = h.0 in let rest = no_lower xs h.1 in let all = sum_by-cons (λ n. n) x xs in omega (arith, low, rest, all)

pub high_more : (heights : List ℕ) (height : ℕ) → AreHigh heights → 0 < height → AreHigh (heights ++ height ∷ [])
high_more [] height h p = (p, tt)
high_more (x ∷ xs) height h p = (h.0, high_more xs height h.1 p)

pub high_front : (n : ℕ) (heights : List ℕ) → AreHigh heights → AreHigh (take n heights)
high_front zero heights h = tt
high_front (suc n) [] h = tt
high_front (suc n) (x ∷ xs) h = (h.0, high_front n xs h.1)

-- with one more there is room
pub room_for : (c : Controlled) (height : ℕ) → AreEntered c → 0 < height → HasRoom (record { entries = c.entries; heights = c.heights ++ height ∷ [] })
room_for c height h p =
    let low = no_lower (c.heights ++ height ∷ []) (high_more c.heights height h.high p) in
    let many = h.many in
    let long = length-append c.heights (height ∷ []) in
    omega (arith, low, many, long)

pub but_last_more : (heights : List ℕ) (height : ℕ) → but_last (heights ++ height ∷ []) ≡ heights
but_last_more heights height =
    let long = length-append heights (height ∷ []) in
    let one : length (heights ++ height ∷ []) - 1 ≡ length heights = omega (arith, long) in
    let le : length heights ≤ length heights = omega arith in
    ap (λ n. take n (heights ++ height ∷ [])) one ∙ take-append-le (length heights) heights (height ∷ []) le ∙ take_all (length heights) heights le

-- without the newest call
pub fits_without : {c : Controlled} (d : Controlled) (e : Entry) → AreEntered c → c.entries ≡ d.entries ++ e ∷ [] → d.heights ≡ c.heights → length d.entries ≤ FIRST_BOUND + sum (but_last d.heights)
fits_without {c = c} d e h is same =
    let high : AreHigh (but_last d.heights) = high_front (length d.heights - 1) d.heights (subst AreHigh (sym same) h.high) in
    let low = no_lower (but_last d.heights) high in
    let long = ap length is in
    let more = length-append d.entries (e ∷ []) in
    let many = h.many in
    let heights = ap length same in
    let cut = length-take (length d.heights - 1) d.heights in
    omega (arith, low, long, more, many, heights, cut)

pub entered_without : {c : Controlled} (d : Controlled) (e : Entry) → AreEntered c → c.entries ≡ d.entries ++ e ∷ [] → d.heights ≡ c.heights → AreEntered (record { entries = d.entries; heights = but_last d.heights })
entered_without {c = c} d e h is same =
    let long = ap length is in
    let more = length-append d.entries (e ∷ []) in
    let many = h.many in
    let heights = ap length same in
    let cut = length-take (length d.heights - 1) d.heights in
    record { many = omega (arith, long, more, many, heights, cut); high = high_front (length d.heights - 1) d.heights (subst AreHigh (sym same) h.high) }

-- with one more
pub entered_with : {c d : Controlled} (e : Entry) (height : ℕ) → AreEntered c → 0 < height → d.entries ≡ c.entries ++ e ∷ [] → d.heights ≡ c.heights ++ height ∷ [] → AreEntered d
entered_with {c = c} {d = d} e height h p is same =
    let long = ap length is in
    let more = length-append c.entries (e ∷ []) in
    let many = h.many in
    let heights = ap length same in
    let above = length-append c.heights (height ∷ []) in
    record { many = omega (arith, long, more, many, heights, above); high = subst AreHigh (sym same) (high_more c.heights height h.high p) }

-- what was entered beyond them is no less
pub fits_still : {c d : Controlled} (height : ℕ) → AreEntered c → d ≡ record { entries = c.entries; heights = c.heights ++ height ∷ [] } → length d.entries ≤ FIRST_BOUND + sum (but_last d.heights)
fits_still {c = c} {d = d} height h is =
    let entries = ap (λ (x : Controlled). length x.entries) is in
    let cut : but_last d.heights ≡ c.heights = ap (λ (x : Controlled). but_last x.heights) is ∙ but_last_more c.heights height in
    let sums = ap sum cut in
    let low = no_lower c.heights h.high in
    let many = h.many in
    omega (arith, entries, sums, low, many)
