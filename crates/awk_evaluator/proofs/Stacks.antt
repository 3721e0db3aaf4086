-- The topmost values of a stack, from its end and from its beginning.
use Rattle.std.proofs.Common.{◌≡◌, ℕ, ◌+◌, ◌-◌, ◌≤◌, ◌<◌, max, min, [], ◌∷◌, suc, List, ◌++◌, length, take, drop, reverse, refl, sym, ap, ◌∙◌, arith}
use Rattle.std.proofs.lemmas.List.{take-append-drop, drop-append-le, drop-drop, drop-take, take-take, take_min, drop_min, reverse-append, reverse-reverse, length-reverse, drop-set-add, set_split, take-set-le}
use Rattle.std.proofs.Math.Seq.{drop-append_seam}
use Rattle.std.proofs.Common.{length-drop}
use Rattle.std.proofs.lemmas.List.{length-take}
use Rattle.std.proofs.Math.ListN.{drop_of_length-le, set}
use Rattle.awk_value.specs.declared.value.Value.{Value}
use Rattle.awk_resolve.specs.Nodes.{first, taken}
use Rattle.awk_evaluator.specs.support.Operands.{OperandsView}

-- all but the last ones, from the end
pub behind_reverse : {A : Type 0} (ys : List A) (count : ℕ) → reverse (take (length ys - count) ys) ≡ drop count (reverse ys)
behind_reverse {A = A} ys count =
    let n = length ys - count in
    let xs : List A = reverse (drop n ys) in
    let zs : List A = reverse (take n ys) in
    let parts : reverse ys ≡ xs ++ zs = ap reverse (sym (take-append-drop n ys)) ∙ reverse-append (take n ys) (drop n ys) in
    let long : length xs ≡ length ys - n = length-reverse (drop n ys) ∙ length-drop n ys in
    let all : length (xs ++ zs) ≡ length ys = ap length (sym parts) ∙ length-reverse ys in
    let seam : min count (length (xs ++ zs)) ≡ length xs = omega (arith, long, all) in
    sym (ap (drop count) parts ∙ sym (drop_min count (xs ++ zs)) ∙ ap (λ k. drop k (xs ++ zs)) seam ∙ drop-append_seam xs zs)

-- the last ones, in their order
pub front_reverse : {A : Type 0} (ys : List A) (count : ℕ) → reverse (take count (reverse ys)) ≡ drop (length ys - count) ys
front_reverse ys count =
    let k = length ys - count in
    let long = length-reverse ys in
    let few : length (reverse ys) - k ≡ min count (length (reverse ys)) = omega (arith, long) in
    ap reverse (sym (take_min count (reverse ys)) ∙ ap (λ n. take n (reverse ys)) (sym few))
    ∙ behind_reverse (reverse ys) k
    ∙ ap (drop k) (reverse-reverse ys)

-- so many values are taken off, but none of those below
pub dropped_view : (items : List Value) (base start count : ℕ) → base ≤ length items → start ≡ max base (length items - count)
    → let left : OperandsView = record { values = reverse (drop base (take start items)); below = take base (take start items) } in left ≡ record { values = drop count (reverse (drop base items)); below = take base items }
dropped_view items base start count low is =
    let ys = drop base items in
    let long = length-drop base items in
    let over : start ≡ base + (length ys - count) = omega (arith, is, low, long) in
    let values = ap (λ k. reverse (drop base (take k items))) over ∙ ap reverse (drop-take base (length ys - count) items) ∙ behind_reverse ys count in
    let le : base ≤ start = omega (arith, over) in
    let below = take-take base start items le in
    let first : List Value → OperandsView = λ vs. record { values = vs; below = take base (take start items) } in
    let second : List Value → OperandsView = λ vs. record { values = drop count (reverse ys); below = vs } in
    ap first values ∙ ap second below

-- the newest values
pub newest_values : (items : List Value) (base start count : ℕ) → base ≤ length items → start ≡ max base (length items - count) → drop start items ≡ taken count (reverse (drop base items))
newest_values items base start count low is =
    let ys = drop base items in
    let long = length-drop base items in
    let over : start ≡ base + (length ys - count) = omega (arith, is, low, long) in
    ap (λ k. drop k items) over ∙ sym (drop-drop (length ys - count) base items) ∙ sym (front_reverse ys count)

-- where more are taken off than there are
pub all_dropped : (items : List Value) (base count : ℕ) → length items < count
    → let left : OperandsView = record { values = reverse (drop base (take base items)); below = take base (take base items) } in left ≡ record { values = drop count (reverse (drop base items)); below = take base items }
all_dropped items base count few =
    let cut = length-take base items in
    let long = length-drop base items in
    let turned = length-reverse (drop base items) in
    let short : length (take base items) ≤ base = omega (arith, cut) in
    let less : length (reverse (drop base items)) ≤ count = omega (arith, few, long, turned) in
    let le : base ≤ base = omega arith in
    let first : List Value → OperandsView = λ vs. record { values = reverse vs; below = take base (take base items) } in
    let second : List Value → OperandsView = λ vs. record { values = []; below = vs } in
    let third : List Value → OperandsView = λ vs. record { values = vs; below = take base items } in
    ap first (drop_of_length-le (take base items) short) ∙ ap second (take-take base base items le) ∙ sym (ap third (drop_of_length-le (reverse (drop base items)) less))

-- where all but those below are taken off
pub own_dropped : (items : List Value) (base : ℕ) → let left : OperandsView = record { values = reverse (drop base (take base items)); below = take base (take base items) } in left ≡ record { values = []; below = take base items }
own_dropped items base =
    let cut = length-take base items in
    let short : length (take base items) ≤ base = omega (arith, cut) in
    let le : base ≤ base = omega arith in
    let first : List Value → OperandsView = λ vs. record { values = reverse vs; below = take base (take base items) } in
    let second : List Value → OperandsView = λ vs. record { values = []; below = vs } in
    ap first (drop_of_length-le (take base items) short) ∙ ap second (take-take base base items le)

-- the topmost value gives way to another one
pub replaced_view : (items : List Value) (base : ℕ) (v : Value) → base < length items
    → let new : OperandsView = record { values = reverse (drop base (set items (length items - 1) v)); below = take base (set items (length items - 1) v) } in new ≡ record { values = v ∷ drop 1 (reverse (drop base items)); below = take base items }
replaced_view items base v low =
    let ys = drop base items in
    let long = length-drop base items in
    let n = length ys - 1 in
    let at : length items - 1 ≡ base + n = omega (arith, long, low) in
    let within : n < length ys = omega (arith, long, low) in
    let last : length ys ≤ suc n = omega (arith, long, low) in
    let le : base ≤ length items - 1 = omega (arith, low) in
    let changed : drop base (set items (length items - 1) v) ≡ take n ys ++ v ∷ [] =
    ap (λ k. drop base (set items k v)) at ∙ drop-set-add base items n v ∙ set_split ys n v within ∙ ap (λ zs. take n ys ++ v ∷ zs) (drop_of_length-le ys last) in
    let turned : reverse (take n ys ++ v ∷ []) ≡ v ∷ drop 1 (reverse ys) =
    reverse-append (take n ys) (v ∷ []) ∙ ap (λ (zs : List Value). v ∷ zs) (behind_reverse ys 1) in
    let first : List Value → OperandsView = λ vs. record { values = vs; below = take base (set items (length items - 1) v) } in
    let second : List Value → OperandsView = λ vs. record { values = v ∷ drop 1 (reverse ys); below = vs } in
    ap first (ap reverse changed ∙ turned) ∙ ap second (take-set-le base items (length items - 1) v le)

-- one value is left where it stands, for the caller

one_is : (ys : List Value) → length ys ≡ 1 → ys ≡ first ys ∷ []
one_is [] long = absurd (omega (arith, long))
one_is (y ∷ []) long = refl
one_is (y ∷ z ∷ more) long = absurd (omega (arith, long))

pub handed_view : (items : List Value) (base to : ℕ) → length items ≡ base + 1
    → let new : OperandsView = record { values = reverse (drop (min to base) items); below = take (min to base) items } in new ≡ record { values = first (reverse (drop base items)) ∷ reverse (drop to (take base items)); below = take to (take base items) }
handed_view items base to long =
    let n = min to base in
    let xs = take base items in
    let ys = drop base items in
    let cut = length-take base items in
    let behind = length-drop base items in
    let v = first ys in
    let xs_long : length xs ≡ base = omega (arith, cut, long) in
    let one : ys ≡ v ∷ [] = one_is ys (omega (arith, behind, long)) in
    let top : first (reverse ys) ≡ v = ap (λ zs. first (reverse zs)) one in
    let n_is : n ≡ min to (length xs) = ap (min to) (sym xs_long) in
    let le : n ≤ base = omega arith in
    let low : n ≤ length xs = omega (arith, xs_long, le) in
    let values : reverse (drop n items) ≡ first (reverse ys) ∷ reverse (drop to xs) =
    ap (λ l. reverse (drop n l)) (sym (take-append-drop base items)) ∙ ap reverse (drop-append-le n xs ys low) ∙ ap (λ l. reverse (drop n xs ++ l)) one
    ∙ reverse-append (drop n xs) (v ∷ []) ∙ ap (λ k. v ∷ reverse (drop k xs)) n_is ∙ ap (λ l. v ∷ reverse l) (drop_min to xs) ∙ ap (λ w. w ∷ reverse (drop to xs)) (sym top) in
    let below : take n items ≡ take to xs = sym (take-take n base items le) ∙ ap (λ k. take k xs) n_is ∙ take_min to xs in
    let first_part : List Value → OperandsView = λ vs. record { values = vs; below = take n items } in
    let second_part : List Value → OperandsView = λ vs. record { values = first (reverse ys) ∷ reverse (drop to xs); below = vs } in
    ap first_part values ∙ ap second_part below
