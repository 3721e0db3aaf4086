-- What a call shows of the three maps that keep an array: one lemma a call, at a number, a short text
-- and a long one.
use Rattle.std.proofs.Common.{◌≡◌, ℕ, ℤ, ◌+◌, ◌<◌, ◌≤◌, Bool, true, false, nat_eq, true≢false, arith, append_assoc, length-append, FitsSigned, w64, to_z, of_z, to_z-of_z, List, [], ◌∷◌, ◌++◌, length, refl, sym, ap, subst, ◌∙◌, Option, Some, None}
use Rattle.std.specs.Fmt.{signed_decimal}
use Rattle.std.specs.Option.{option_map}
use Rattle.std.specs.Prelude.{Result, Ok, Err, OnOk, bytes_eq, map, ◌&&◌, MatchOption}
use Rattle.std.specs.Ordering.{int_eq}
use Rattle.std.specs.Map.{lookup, set_value, keys_of}
use Rattle.std.specs.List.{AllByRecursion}
use Rattle.std.specs.List.Sorted.{IsPermutation, IsNonDecreasingBy}
use Rattle.std.specs.Cmp.Derive.{both_true}
use Rattle.std.proofs.lemmas.Bool.Decides.{nat_tests}
use Rattle.std.proofs.lemmas.Slice.Eq.{bytes_eq-Decides}
use Rattle.std.proofs.lemmas.List.{length-map}
use Rattle.std.proofs.lemmas.List.Sorted.{IsPermutation-map, IsPermutation-refl}
use Rattle.std.specs.Global.{Vec}
use Rattle.indexmap.specs.IndexMap.{swap_remove_entry}
use Rattle.awk_value.specs.declared.value.Value.{Value}
use Rattle.awk_value.specs.declared.entry.Entry.{Entry}
use Rattle.awk_value.specs.declared.short_text.ShortText.{ShortText}
use Rattle.awk_value.specs.definitions.Arrays.{Array, value_at, with_pair, without, HasDistinctKeys}
use Rattle.awk_value.specs.support.StampOrder.{stamp_order}
use Rattle.awk_value.specs.support.Texts.{IsInt64, IsTextKey, short_text, packed, IsPadded}
use Rattle.awk_value.proofs.Int64.{is_int64}
use Rattle.awk_value.proofs.Rows.{map-both, map-twice}
use Rattle.awk_value.specs.support.Entries.{IsConsistent, all_rows, joined}
use Rattle.awk_value.proofs.NamedKeys.{chosen-none, chosen-some}
use Rattle.awk_value.proofs.Moves.{swap-hit, swap-missed}
use Rattle.awk_value.proofs.Joined.{left-lookup, left-set, left-more, left-taken, right-lookup, right-set, right-more, right-taken}
use Rattle.awk_value.proofs.Counts.{stamp_order-few}
use Rattle.awk_value.proofs.NumbersAndTexts
use Rattle.awk_value.specs.support.DenseKeys.{IsTaken, revalued, with_value}
use Rattle.awk_value.proofs.BothNumbers.{Leaves}

abbrev text_of : List ℕ → List ℕ
text_of k = k

abbrev short_of : ShortText → List ℕ
short_of s = short_text s

abbrev long_of : Vec ℕ → List ℕ
long_of v = v.items

abbrev IsShort : ShortText → Type 0
IsShort s = IsPadded s

abbrev IsLong : Vec ℕ → Type 0
IsLong v = 23 < length v.items

-- the entries by texts
abbrev texts_in : List (ShortText × Entry) → List (Vec ℕ × Entry) → List (List ℕ × Entry)
texts_in ss ts = joined (λ s. short_text s) (λ v. v.items) ss ts

abbrev stamp_of : Entry → ℕ
stamp_of e = e.stamp

abbrev value_of : Entry → Value
value_of e = e.value

both : (a b : Bool) → (a && b) ≡ true → (a ≡ true) × (b ≡ true)
both true true e = (refl, refl)
both true false e = absurd (true≢false (sym e))
both false b e = absurd (true≢false (sym e))

too_long : (short long : List ℕ) → length short ≤ 23 → 23 < length long → short ≡ long → ⊥
too_long short long a c e = let h : length short ≡ length long = ap length e in omega arith

equal_numbers : (m n : ℕ) → nat_eq m n ≡ true → m ≡ n
equal_numbers m n e = grind (arith, nat_tests)

numbers_equal : (m n : ℕ) → m ≡ n → nat_eq m n ≡ true
numbers_equal m n e = grind (arith, nat_tests)

-- short texts are compared as their words are
same-short : (k : ShortText) → IsPadded k → (x : ShortText) → IsPadded x
    → bytes_eq (short_of k) (short_of x) ≡ (nat_eq k.first x.first && (nat_eq k.second x.second && nat_eq k.third x.third))
same-short k q x p =
    let whole = bytes_eq-Decides (short_of k) (short_of x) in
    let test : Bool = nat_eq k.first x.first && (nat_eq k.second x.second && nat_eq k.third x.third) in
    let Parts : Type 0 = (k.first ≡ x.first) × (k.second ≡ x.second) × (k.third ≡ x.third) in
    NumbersAndTexts.same_tests {Q = Parts} (bytes_eq (short_of k) (short_of x)) test whole.0 whole.1
    (λ e. let h = both (nat_eq k.first x.first) (nat_eq k.second x.second && nat_eq k.third x.third) e in
    let g = both (nat_eq k.second x.second) (nat_eq k.third x.third) h.1 in
    (equal_numbers k.first x.first h.0, equal_numbers k.second x.second g.0, equal_numbers k.third x.third g.1))
    (λ r. both_true (numbers_equal k.first x.first r.0) (both_true (numbers_equal k.second x.second r.1) (numbers_equal k.third x.third r.2)))
    (λ e. let same : k ≡ x = q.0 ∙ ap packed e ∙ sym p.0 in (ap (λ (s : ShortText). s.first) same, ap (λ (s : ShortText). s.second) same, ap (λ (s : ShortText). s.third) same))
    (λ r. (λ j. short_text (record { first = r.0 j; second = r.1 j; third = r.2 j })))

-- the maps keep the array
pub record Keeps (n : ℕ) (ns : List (ℤ × Entry)) (ss : List (ShortText × Entry)) (ts : List (Vec ℕ × Entry)) (a : Array) : Type 0 where
  pub consistent : IsConsistent (λ k. k) (λ e. e.stamp) (λ e. e.value) n ns (texts_in ss ts)
      × AllByRecursion (λ s. IsPadded s) (keys_of ss) × AllByRecursion (λ v. 23 < length v.items) (keys_of ts)
  pub view : stamp_order n (all_rows (λ k. k) (λ e. e.stamp) (λ e. e.value) ns (texts_in ss ts)) ≡ a

pub keeps : (n : ℕ) (ns : List (ℤ × Entry)) (ss : List (ShortText × Entry)) (ts : List (Vec ℕ × Entry)) (a : Array)
    → IsConsistent (λ k. k) (λ e. e.stamp) (λ e. e.value) n ns (texts_in ss ts)
    × AllByRecursion (λ s. IsPadded s) (keys_of ss) × AllByRecursion (λ v. 23 < length v.items) (keys_of ts)
    → stamp_order n (all_rows (λ k. k) (λ e. e.stamp) (λ e. e.value) ns (texts_in ss ts)) ≡ a → Keeps n ns ss ts a
keeps n ns ss ts a i e = record { consistent = i; view = e }

module _ {n : ℕ} {ns : List (ℤ × Entry)} {ss : List (ShortText × Entry)} {ts : List (Vec ℕ × Entry)} {a : Array} (now : Keeps n ns ss ts a) where
  -- at a number z, which the code lends as `lent`
  module _ (z : ℤ) (f : FitsSigned w64 z) where
    abbrev lent : ℤ
    lent = to_z w64 (of_z w64 z)

    abbrev key : List ℕ
    key = signed_decimal z

    s : IsInt64 z
    s = is_int64 z f

    own : (o : Option Entry) → o ≡ lookup (int_eq lent) ns → lookup (int_eq z) ns ≡ o
    own o e = ap (λ k. lookup (int_eq k) ns) (sym (to_z-of_z f)) ∙ sym e

    pub number-hit : (x : Entry) → Some x ≡ lookup (int_eq lent) ns → value_at a key ≡ Some x.value
    number-hit x e =
        sym (ap (λ t. value_at t key) now.view)
        ∙ NumbersAndTexts.number-some text_of stamp_of value_of n ns (texts_in ss ts) now.consistent.0 z s x (own (Some x) e)

    pub number-miss : None ≡ lookup (int_eq lent) ns → value_at a key ≡ None
    number-miss e =
        sym (ap (λ t. value_at t key) now.view)
        ∙ NumbersAndTexts.number-none text_of stamp_of value_of n ns (texts_in ss ts) now.consistent.0 z s (own None e)

    -- the value is another one
    pub number-put : (x : Entry) (v : Value) → Some x ≡ lookup (int_eq lent) ns → Keeps n (with_value (lookup (int_eq lent) ns) lent v ns) ss ts (with_pair a key v)
    number-put x v e =
        let w : Entry = revalued x v in
        let ms = with_value (lookup (int_eq lent) ns) lent v ns in
        let there = own (Some x) e in
        let set : ms ≡ set_value (int_eq z) ns w = ap (λ o. with_value o lent v ns) (sym e) ∙ ap (λ k. set_value (int_eq k) ns w) (to_z-of_z f) in
        record {
          consistent = (NumbersAndTexts.number-kept-set text_of stamp_of value_of n ns (texts_in ss ts) now.consistent.0 z s x w refl there ms set, now.consistent.1, now.consistent.2);
          view =
              NumbersAndTexts.number-seen-set text_of stamp_of value_of n ns (texts_in ss ts) now.consistent.0 z s x w refl there ms set
              ∙ ap (λ t. set_value (bytes_eq key) t v) now.view
              ∙ sym (chosen-some (value_at a key) x.value (set_value (bytes_eq key) a v) (a ++ (key, v) ∷ []) (number-hit x e));
        }

    pub number-absent : value_at a key ≡ None → lookup (int_eq z) ns ≡ None
    number-absent e =
        NumbersAndTexts.number-absent text_of stamp_of value_of n ns (texts_in ss ts) now.consistent.0 z s (ap (λ t. value_at t key) now.view ∙ e)

    pub number-add : value_at a key ≡ None → (x : Entry) → x.stamp ≡ n → (m : ℕ) → m ≡ n + 1 → (ms : List (ℤ × Entry))
        → IsPermutation (ns ++ (z, x) ∷ []) ms → Keeps m ms ss ts (a ++ (key, x.value) ∷ [])
    number-add none x e m up ms moves =
        let gone = number-absent none in
        let more : List (ℤ × Entry) = ns ++ (z, x) ∷ [] in
        let kept = NumbersAndTexts.number-kept-more text_of stamp_of value_of n ns (texts_in ss ts) now.consistent.0 z s x m e up gone more refl in
        record {
          consistent = (NumbersAndTexts.number-kept-moved text_of stamp_of value_of m more ms (texts_in ss ts) moves kept, now.consistent.1, now.consistent.2);
          view =
              NumbersAndTexts.number-seen-moved text_of stamp_of value_of m more ms (texts_in ss ts) moves kept
              ∙ NumbersAndTexts.number-seen-more text_of stamp_of value_of n ns (texts_in ss ts) now.consistent.0 z s x m e up gone more refl
              ∙ ap (λ t. t ++ (key, x.value) ∷ []) now.view;
        }

    pub number-removed : (ms : List (ℤ × Entry)) → Leaves lent ns ms → Keeps n ms ss ts (without a key)
    number-removed ms h = by (lookup (int_eq lent) ns) refl h
      where
        by : (o : Option Entry) → o ≡ lookup (int_eq lent) ns → MatchOption o (ms ≡ ns) (λ x. IsTaken x ns ms) → Keeps n ms ss ts (without a key)
        by None e same =
            let out = NumbersAndTexts.number-missed text_of stamp_of value_of n ns (texts_in ss ts) now.consistent.0 z s (own None e) in
            subst (λ l. Keeps n l ss ts (without a key)) (sym same)
            (record { consistent = (out.kept, now.consistent.1, now.consistent.2); view = out.seen ∙ ap (λ t. without t key) now.view })
        by (Some x) e r =
            let out = NumbersAndTexts.number-out text_of stamp_of value_of n ns (texts_in ss ts) now.consistent.0 z s r.key x ms (own (Some x) e) r.moved in
            record { consistent = (out.kept, now.consistent.1, now.consistent.2); view = out.seen ∙ ap (λ t. without t key) now.view }

  -- at a text k, by what is looked up among the texts
  module _ (k : List ℕ) (s : IsTextKey k) where
    text-hit : (x : Entry) → lookup (bytes_eq k) (texts_in ss ts) ≡ Some x → value_at a k ≡ Some x.value
    text-hit x e =
        sym (ap (λ t. value_at t k) now.view)
        ∙ NumbersAndTexts.text-some text_of stamp_of value_of n ns (texts_in ss ts) now.consistent.0 k s x e

    text-miss : lookup (bytes_eq k) (texts_in ss ts) ≡ None → value_at a k ≡ None
    text-miss e =
        sym (ap (λ t. value_at t k) now.view)
        ∙ NumbersAndTexts.text-none text_of stamp_of value_of n ns (texts_in ss ts) now.consistent.0 k s e

    text-absent : value_at a k ≡ None → lookup (bytes_eq k) (texts_in ss ts) ≡ None
    text-absent e =
        NumbersAndTexts.text-absent text_of stamp_of value_of n ns (texts_in ss ts) now.consistent.0 k s (ap (λ t. value_at t k) now.view ∙ e)

    -- other maps that keep what the texts become
    module _ (rs : List (ShortText × Entry)) (us : List (Vec ℕ × Entry)) (shorts : AllByRecursion IsShort (keys_of rs)) (longs : AllByRecursion IsLong (keys_of us)) where
      text-put : (x : Entry) (v : Value) → lookup (bytes_eq k) (texts_in ss ts) ≡ Some x
          → texts_in rs us ≡ set_value (bytes_eq k) (texts_in ss ts) (record { stamp = x.stamp; value = v })
          → Keeps n ns rs us (with_pair a k v)
      text-put x v e m =
          let w : Entry = record { stamp = x.stamp; value = v } in
          record {
            consistent = (NumbersAndTexts.text-kept-set text_of stamp_of value_of n ns (texts_in ss ts) now.consistent.0 k s x w refl e (texts_in rs us) m, shorts, longs);
            view =
                NumbersAndTexts.text-seen-set text_of stamp_of value_of n ns (texts_in ss ts) now.consistent.0 k s x w refl e (texts_in rs us) m
                ∙ ap (λ t. set_value (bytes_eq k) t v) now.view
                ∙ sym (chosen-some (value_at a k) x.value (set_value (bytes_eq k) a v) (a ++ (k, v) ∷ []) (text-hit x e));
          }

      text-add : value_at a k ≡ None → (x : Entry) → x.stamp ≡ n → (m : ℕ) → m ≡ n + 1
          → IsPermutation (texts_in ss ts ++ (k, x) ∷ []) (texts_in rs us) → Keeps m ns rs us (a ++ (k, x.value) ∷ [])
      text-add none x e m up moves =
          let gone = text-absent none in
          let more : List (List ℕ × Entry) = texts_in ss ts ++ (k, x) ∷ [] in
          let kept = NumbersAndTexts.text-kept-more text_of stamp_of value_of n ns (texts_in ss ts) now.consistent.0 k s k refl x m e up gone more refl in
          record {
            consistent = (NumbersAndTexts.text-kept-moved text_of stamp_of value_of m ns more (texts_in rs us) moves kept, shorts, longs);
            view =
                NumbersAndTexts.text-seen-moved text_of stamp_of value_of m ns more (texts_in rs us) moves kept
                ∙ NumbersAndTexts.text-seen-more text_of stamp_of value_of n ns (texts_in ss ts) now.consistent.0 k s k refl x m e up gone more refl
                ∙ ap (λ t. t ++ (k, x.value) ∷ []) now.view;
          }

      text-gone : (t : List ℕ) (x : Entry) → lookup (bytes_eq k) (texts_in ss ts) ≡ Some x
          → IsPermutation (texts_in ss ts) ((t, x) ∷ texts_in rs us) → Keeps n ns rs us (without a k)
      text-gone t x e moves =
          let out = NumbersAndTexts.text-out text_of stamp_of value_of n ns (texts_in ss ts) now.consistent.0 k s t x (texts_in rs us) e moves in
          record { consistent = (out.kept, shorts, longs); view = out.seen ∙ ap (λ t. without t k) now.view }

    text-stays : lookup (bytes_eq k) (texts_in ss ts) ≡ None → Keeps n ns ss ts (without a k)
    text-stays e =
        let out = NumbersAndTexts.text-missed text_of stamp_of value_of n ns (texts_in ss ts) now.consistent.0 k s e in
        record { consistent = (out.kept, now.consistent.1, now.consistent.2); view = out.seen ∙ ap (λ t. without t k) now.view }

  -- at a short text
  module _ (k : ShortText) (s : IsTextKey (short_text k)) (q : IsPadded k) where
    abbrev same : ShortText → Bool
    same x = nat_eq k.first x.first && (nat_eq k.second x.second && nat_eq k.third x.third)

    far : (v : Vec ℕ) → 23 < length v.items → short_of k ≡ v.items → ⊥
    far v l e = too_long (short_of k) v.items q.1 l e

    at : lookup (bytes_eq (short_of k)) (texts_in ss ts) ≡ lookup same ss
    at = left-lookup short_of long_of IsShort IsLong ss ts now.consistent.1 now.consistent.2 (short_of k) same (same-short k q) far

    pub short-hit : (x : Entry) → Some x ≡ lookup same ss → value_at a (short_of k) ≡ Some x.value
    short-hit x e = text-hit (short_of k) s x (at ∙ sym e)

    pub short-miss : None ≡ lookup same ss → value_at a (short_of k) ≡ None
    short-miss e = text-miss (short_of k) s (at ∙ sym e)

    pub short-put : (x : Entry) (v : Value) → Some x ≡ lookup same ss → (rs : List (ShortText × Entry))
        → rs ≡ set_value same ss (record { stamp = x.stamp; value = v }) → Keeps n ns rs ts (with_pair a (short_of k) v)
    short-put x v e rs m =
        let w : Entry = record { stamp = x.stamp; value = v } in
        text-put (short_of k) s rs ts (subst (AllByRecursion IsShort) (sym (ap keys_of m ∙ NumbersAndTexts.set-keys same ss w)) now.consistent.1) now.consistent.2 x v (at ∙ sym e)
        (ap (λ l. texts_in l ts) m ∙ left-set short_of long_of IsShort IsLong ss ts now.consistent.1 now.consistent.2 (short_of k) same (same-short k q) far w)

    pub short-absent : value_at a (short_of k) ≡ None → lookup same ss ≡ None
    short-absent e = sym at ∙ text-absent (short_of k) s e

    pub short-add : value_at a (short_of k) ≡ None → (x : Entry) → x.stamp ≡ n → (m : ℕ) → m ≡ n + 1
        → (rs : List (ShortText × Entry)) → rs ≡ ss ++ (k, x) ∷ [] → Keeps m ns rs ts (a ++ (short_of k, x.value) ∷ [])
    short-add none x e m up rs h =
        text-add (short_of k) s rs ts (subst (AllByRecursion IsShort) (sym (ap keys_of h ∙ NumbersAndTexts.keys-more ss k x)) (NumbersAndTexts.all_more IsShort (keys_of ss) k now.consistent.1 q)) now.consistent.2 none x e m up
        (subst (λ l. IsPermutation (texts_in ss ts ++ (short_of k, x) ∷ []) (texts_in l ts)) (sym h) (left-more short_of long_of ss ts k x))

    pub short-removed : (rs : List (ShortText × Entry)) → rs ≡ swap_remove_entry same ss → Keeps n ns rs ts (without a (short_of k))
    short-removed rs h = by (lookup same ss) refl
      where
        by : (o : Option Entry) → lookup same ss ≡ o → Keeps n ns rs ts (without a (short_of k))
        by None e =
            subst (λ l. Keeps n ns l ts (without a (short_of k))) (sym (h ∙ swap-missed same ss e)) (text-stays (short_of k) s (at ∙ e))
        by (Some x) e =
            let m = swap-hit same x ss e in
            let moves : IsPermutation ss ((m.0, x) ∷ rs) = subst (λ l. IsPermutation ss ((m.0, x) ∷ l)) (sym h) m.1 in
            text-gone (short_of k) s rs ts (NumbersAndTexts.all_moved IsShort (keys_of ss) (keys_of rs) m.0 (IsPermutation-map (λ e. e.0) ss ((m.0, x) ∷ rs) moves) now.consistent.1) now.consistent.2 (short_of m.0) x (at ∙ e) (left-taken short_of long_of ss ts m.0 x rs moves)

  -- at a long text
  module _ (k : List ℕ) (s : IsTextKey k) (q : 23 < length k) where
    near : (x : ShortText) → IsPadded x → k ≡ short_of x → ⊥
    near x p e = too_long (short_of x) k p.1 q (sym e)

    at-long : lookup (bytes_eq k) (texts_in ss ts) ≡ lookup (λ t. bytes_eq k t.items) ts
    at-long =
        right-lookup short_of long_of IsShort IsLong ss ts now.consistent.1 now.consistent.2 k (λ t. bytes_eq k t.items) (λ t l. refl) near

    pub long-hit : (x : Entry) → Some x ≡ lookup (λ t. bytes_eq k t.items) ts → value_at a k ≡ Some x.value
    long-hit x e = text-hit k s x (at-long ∙ sym e)

    pub long-miss : None ≡ lookup (λ t. bytes_eq k t.items) ts → value_at a k ≡ None
    long-miss e = text-miss k s (at-long ∙ sym e)

    pub long-put : (x : Entry) (v : Value) → Some x ≡ lookup (λ t. bytes_eq k t.items) ts → (us : List (Vec ℕ × Entry))
        → us ≡ set_value (λ t. bytes_eq k t.items) ts (record { stamp = x.stamp; value = v }) → Keeps n ns ss us (with_pair a k v)
    long-put x v e us m =
        let w : Entry = record { stamp = x.stamp; value = v } in
        text-put k s ss us now.consistent.1 (subst (AllByRecursion IsLong) (sym (ap keys_of m ∙ NumbersAndTexts.set-keys (λ t. bytes_eq k t.items) ts w)) now.consistent.2) x v (at-long ∙ sym e)
        (ap (λ l. texts_in ss l) m ∙ right-set short_of long_of IsShort IsLong ss ts now.consistent.1 now.consistent.2 k (λ t. bytes_eq k t.items) (λ t l. refl) near w)

    pub long-absent : value_at a k ≡ None → lookup (λ t. bytes_eq k t.items) ts ≡ None
    long-absent e = sym at-long ∙ text-absent k s e

    pub long-add : value_at a k ≡ None → (t : Vec ℕ) → t.items ≡ k → (x : Entry) → x.stamp ≡ n → (m : ℕ) → m ≡ n + 1
        → (us : List (Vec ℕ × Entry)) → us ≡ ts ++ (t, x) ∷ [] → Keeps m ns ss us (a ++ (k, x.value) ∷ [])
    long-add none t is x e m up us h =
        text-add k s ss us now.consistent.1 (subst (AllByRecursion IsLong) (sym (ap keys_of h ∙ NumbersAndTexts.keys-more ts t x)) (NumbersAndTexts.all_more IsLong (keys_of ts) t now.consistent.2 (subst (λ l. 23 < length l) (sym is) q))) none x e m up
        (subst (λ l. IsPermutation (texts_in ss ts ++ (k, x) ∷ []) l) (sym (ap (λ l. texts_in ss l) h ∙ right-more short_of long_of ss ts t x ∙ ap (λ l. texts_in ss ts ++ (l, x) ∷ []) is)) (IsPermutation-refl _))

    pub long-removed : (us : List (Vec ℕ × Entry)) → us ≡ swap_remove_entry (λ t. bytes_eq k t.items) ts → Keeps n ns ss us (without a k)
    long-removed us h = by (lookup (λ t. bytes_eq k t.items) ts) refl
      where
        by : (o : Option Entry) → lookup (λ t. bytes_eq k t.items) ts ≡ o → Keeps n ns ss us (without a k)
        by None e =
            subst (λ l. Keeps n ns ss l (without a k)) (sym (h ∙ swap-missed (λ t. bytes_eq k t.items) ts e)) (text-stays k s (at-long ∙ e))
        by (Some x) e =
            let m = swap-hit (λ t. bytes_eq k t.items) x ts e in
            let moves : IsPermutation ts ((m.0, x) ∷ us) = subst (λ l. IsPermutation ts ((m.0, x) ∷ l)) (sym h) m.1 in
            text-gone k s ss us now.consistent.1 (NumbersAndTexts.all_moved IsLong (keys_of ts) (keys_of us) m.0 (IsPermutation-map (λ e. e.0) ts ((m.0, x) ∷ us) moves) now.consistent.2) (long_of m.0) x (at-long ∙ e) (right-taken short_of long_of ss ts m.0 x us moves)

  pub len-is : length ns + length ss + length ts ≡ length a
  len-is =
      let short : ShortText × Entry → List ℕ × Entry = λ e. (short_of e.0, e.1) in
      let long : Vec ℕ × Entry → List ℕ × Entry = λ e. (long_of e.0, e.1) in
      let both = length-append (map short ss) (map long ts) in
      let s = length-map ss short in
      let l = length-map ts long in
      let all = NumbersAndTexts.length-all_entries text_of stamp_of value_of n ns (texts_in ss ts) now.consistent.0 ∙ ap length now.view in
      omega arith

  pub few : length ns + length ss + length ts ≤ n
  few =
      let own = stamp_order-few n (all_rows (λ k. k) (λ e. e.stamp) (λ e. e.value) ns (texts_in ss ts)) in
      let seen = ap length now.view in
      let all = len-is in
      omega arith

  pub keys-differ : HasDistinctKeys a
  keys-differ =
      subst HasDistinctKeys now.view (NumbersAndTexts.distinct-all_entries text_of stamp_of value_of n ns (texts_in ss ts) now.consistent.0)

  -- the rows of the maps, sorted by their stamps, have the keys in order
  pub keys-are : (ps qs : List (ℕ × List ℕ))
      → ps ≡ map (λ e. (e.1.stamp, signed_decimal e.0)) ns ++ map (λ e. (e.1.stamp, short_text e.0)) ss ++ map (λ e. (e.1.stamp, e.0.items)) ts
      → IsPermutation ps qs → IsNonDecreasingBy (λ r. r.0) qs → map (λ r. r.1) qs ≡ keys_of a
  keys-are ps qs e m s =
      let own : List ℕ × Entry → ℕ × List ℕ = λ e. (e.1.stamp, e.0) in
      let short : ShortText × Entry → List ℕ × Entry = λ e. (short_of e.0, e.1) in
      let long : Vec ℕ × Entry → List ℕ × Entry = λ e. (long_of e.0, e.1) in
      let numbers : List (ℕ × List ℕ) = map (λ e. (e.1.stamp, signed_decimal e.0)) ns in
      let rows : map own (texts_in ss ts) ≡ map (λ e. own (short e)) ss ++ map (λ e. own (long e)) ts =
      map-both own (map short ss) (map long ts) ∙ (λ j. map-twice own short ss j ++ map-twice own long ts j) in
      NumbersAndTexts.keys-rows text_of stamp_of value_of n ns (texts_in ss ts) now.consistent.0 ps qs
      (e ∙ append_assoc numbers (map (λ e. own (short e)) ss) (map (λ e. own (long e)) ts) ∙ ap (λ l. numbers ++ l) (sym rows)) m s
      ∙ ap keys_of now.view

-- a value put at a new key, as the call that adds it tells
pub put_new : {U E : Type 0} (r : Result U E) (new was a : Array) (k h : List ℕ) (v w : Value)
    → OnOk r (new ≡ was ++ (h, w) ∷ []) → was ≡ a → h ≡ k → w ≡ v → value_at a k ≡ None
    → OnOk r (new ≡ with_pair a k v)
put_new (Ok u) new was a k h v w e l n m none =
    e ∙ (λ j. l j ++ (n j, m j) ∷ [])
    ∙ sym (chosen-none (value_at a k) (set_value (bytes_eq k) a v) (a ++ (k, v) ∷ []) none)
put_new (Err e) new was a k h v w p l n m none = tt

-- empty maps keep the empty array
pub none-kept : (n : ℕ) (ns : List (ℤ × Entry)) (ss : List (ShortText × Entry)) (ts : List (Vec ℕ × Entry)) → ns ≡ [] → ss ≡ [] → ts ≡ []
    → IsConsistent (λ k. k) (λ e. e.stamp) (λ e. e.value) n ns (texts_in ss ts)
    × AllByRecursion (λ s. IsPadded s) (keys_of ss) × AllByRecursion (λ v. 23 < length v.items) (keys_of ts)
none-kept n ns ss ts e f g = (
  NumbersAndTexts.split_none text_of stamp_of value_of n ns (texts_in ss ts) e (λ j. texts_in (f j) (g j)),
  subst (λ l. AllByRecursion (λ s. IsPadded s) (keys_of l)) (sym f) tt,
  subst (λ l. AllByRecursion (λ v. 23 < length v.items) (keys_of l)) (sym g) tt,
)

-- the entry whose value is told
pub record Seen (o : Option Entry) (v : Value) : Type 0 where
  pub entry : Entry
  pub is : Some entry ≡ o
  pub value : v ≡ entry.value

pub seen : (o : Option Entry) (v : Value) → Some v ≡ option_map (λ (e : Entry). e.value) o → Seen o v
seen None v e = absurd (cc)
seen (Some x) v e = record { entry = x; is = refl; value = cc }

pub unseen : (o : Option Entry) → None ≡ option_map (λ (e : Entry). e.value) o → None ≡ o
unseen None e = refl
unseen (Some x) e = absurd (cc)
