-- What is read of a bracket is written so, and what is written is read again.
use Rattle.std.proofs.Common.{◌≡◌, ℕ, zero, suc, ◌≤◌, Bool, true, false, List, [], ◌∷◌, ◌++◌, length, Some, None, refl, sym, ap, subst, ◌∙◌, append_assoc, arith, inl, inr}
use Rattle.std.specs.Prelude.{◌&&◌, ◌||◌, not, ◌==◌}
use Rattle.std.proofs.Math.Bool.{and-false}
use Rattle.std.proofs.lemmas.List.{length-append}
use Rattle.std.proofs.lemmas.Option.{same_Some, none-some}
use Rattle.std.proofs.lemmas.Bool.{false≢true, eqb-true, and_parts, and_from, not-true, not_from_false, cond-true, cond-false}
use Rattle.awk_ere.specs.definitions.Escapes.{starts, escape_bytes}
use Rattle.awk_ere.specs.definitions.Brackets.{Mark, plain, escaped, mark_bytes, mark_fits, is_name_mark, BracketItem, single, range, class, item_bytes, begins_range, is_barred, may_begin, may_end, item_fits, items_bytes, items_fit, Bracket, these, others, bracket_bytes, bracket_fits}
use Rattle.awk_ere.specs.support.Lexer.{◌>>=◌, tail, escape_at, as_mark, mark_at, name_at, as_range, range_at, as_class, item_at, closes, with_item, items_at, as_these, as_others, bracket_at}
use Rattle.awk_ere.proofs.Choices.{chosen, bind_some, refuted, Takes}
use Rattle.awk_ere.proofs.EscapeRoundTrip.{escape_takes, escape_again}
use Rattle.awk_ere.proofs.ClassNameRoundTrip.{name_takes, name_again}

pub starts_is : (x : ℕ) (bs : List ℕ) → starts (λ c. c == x) bs ≡ true → bs ≡ x ∷ tail bs
starts_is x [] e = absurd (false≢true e)
starts_is x (b ∷ bs) e = ap (λ y. y ∷ bs) (eqb-true b x e)

-- ---- bytes in a bracket

abbrev pub TakesMark : List ℕ → Mark × List ℕ → Type 0
TakesMark text m = Takes text (mark_bytes m.0) m.1 (mark_fits m.0 m.1)

pub mark_takes : (text : List ℕ) (m : Mark × List ℕ) → mark_at text ≡ Some m → TakesMark text m
mark_takes [] m h = absurd (none-some m h)
mark_takes (b ∷ bs) m h =
    elim (chosen (b == 92) (escape_at bs >>= as_mark) _ (Some m) h) [
      | inl x ↦
          let y = bind_some (escape_at bs) as_mark m x.1 in
          let t = escape_takes bs y.0 y.1 in
          subst (TakesMark (b ∷ bs)) (same_Some (escaped y.0.0, y.0.1) m y.2)
          (record { parts = ap (λ c. c ∷ bs) (eqb-true b 92 x.0) ∙ ap (λ (l : List ℕ). 92 ∷ l) t.parts; fits = t.fits })
      | inr x ↦ elim (chosen (b == 91 && starts is_name_mark bs) None (Some (plain b, bs)) (Some m) x.1) [
        | inl y ↦ absurd (none-some m y.1)
        | inr y ↦ subst (TakesMark (b ∷ bs)) (same_Some (plain b, bs) m y.1)
            (record { parts = refl; fits = and_from (not (b == 92)) _ (not_from_false (b == 92) x.0) (not_from_false (b == 91 && starts is_name_mark bs) y.0) })
      ]
    ]

pub mark_again : (m : Mark) (rest : List ℕ) → mark_fits m rest ≡ true → mark_at (mark_bytes m ++ rest) ≡ Some (m, rest)
mark_again (plain b) rest h =
    let p = and_parts (not (b == 92)) _ h in
    cond-false (b == 92) (escape_at rest >>= as_mark) _ (not-true (b == 92) p.0)
    ∙ cond-false (b == 91 && starts is_name_mark rest) None (Some (plain b, rest)) (not-true (b == 91 && starts is_name_mark rest) p.1)
mark_again (escaped e) rest h = ap (λ o. o >>= as_mark) (escape_again e rest h)

-- ---- items

abbrev pub TakesItem : Bool → List ℕ → BracketItem × List ℕ → Type 0
TakesItem first text i = Takes text (item_bytes i.0) i.1 (item_fits first i.0 i.1)

abbrev barred_at : Bool → List ℕ → Bool
barred_at first [] = false
barred_at first (b ∷ bs) = is_barred first b bs

begin_from : (first : Bool) (m : Mark) (rest : List ℕ) → barred_at first (mark_bytes m ++ rest) ≡ false → may_begin first m rest ≡ true
begin_from first (plain b) rest h = not_from_false (is_barred first b rest) h
begin_from first (escaped e) rest h = refl

end_from : (m : Mark) (rest : List ℕ) → begins_range (45 ∷ (mark_bytes m ++ rest)) ≡ true → may_end m ≡ true
end_from (plain b) rest h = h
end_from (escaped e) rest h = refl

dash_is : (bs : List ℕ) → begins_range bs ≡ true → bs ≡ 45 ∷ tail bs
dash_is [] h = absurd (false≢true h)
dash_is (a ∷ []) h = absurd (false≢true h)
dash_is (a ∷ c ∷ cs) h = ap (λ (x : ℕ). x ∷ c ∷ cs) (eqb-true a 45 (and_parts (a == 45) _ h).0)

range_takes : (first : Bool) (text : List ℕ) (m : Mark × List ℕ) (i : BracketItem × List ℕ) → TakesMark text m → barred_at first text ≡ false → range_at m ≡ Some i → TakesItem first text i
range_takes first text m i t free h =
    let may : may_begin first m.0 m.1 ≡ true = begin_from first m.0 m.1 (subst (λ (l : List ℕ). barred_at first l ≡ false) t.parts free) in
    elim (chosen (begins_range m.1) (mark_at (tail m.1) >>= as_range m.0) (Some (single m.0, m.1)) (Some i) h) [
      | inl x ↦
          let y = bind_some (mark_at (tail m.1)) (as_range m.0) i x.1 in
          let u = mark_takes (tail m.1) y.0 y.1 in
          let dash : m.1 ≡ 45 ∷ (mark_bytes y.0.0 ++ y.0.1) = dash_is m.1 x.0 ∙ ap (λ (l : List ℕ). 45 ∷ l) u.parts in
          subst (TakesItem first text) (same_Some (range m.0 y.0.0, y.0.1) i y.2)
          (record {
            parts = t.parts ∙ ap (λ (l : List ℕ). mark_bytes m.0 ++ l) dash ∙ sym (append_assoc (mark_bytes m.0) (45 ∷ mark_bytes y.0.0) y.0.1);
            fits = and_from (mark_fits m.0 (45 ∷ (mark_bytes y.0.0 ++ y.0.1))) _ (subst (λ (l : List ℕ). mark_fits m.0 l ≡ true) dash t.fits)
                (and_from (may_begin first m.0 (45 ∷ (mark_bytes y.0.0 ++ y.0.1))) _ (subst (λ (l : List ℕ). may_begin first m.0 l ≡ true) dash may)
                (and_from (mark_fits y.0.0 y.0.1) _ u.fits (end_from y.0.0 y.0.1 (subst (λ (l : List ℕ). begins_range l ≡ true) dash x.0))));
          })
      | inr x ↦ subst (TakesItem first text) (same_Some (single m.0, m.1) i x.1)
          (record { parts = t.parts; fits = and_from (mark_fits m.0 m.1) _ t.fits (and_from (may_begin first m.0 m.1) _ may (not_from_false (begins_range m.1) x.0)) })
    ]

pub item_takes : (first : Bool) (text : List ℕ) (i : BracketItem × List ℕ) → item_at first text ≡ Some i → TakesItem first text i
item_takes first [] i h = absurd (none-some i h)
item_takes first (b ∷ bs) i h =
    elim (chosen (b == 91 && starts (λ c. c == 58) bs) (name_at (tail bs) >>= as_class) _ (Some i) h) [
      | inl x ↦
          let y = bind_some (name_at (tail bs)) as_class i x.1 in
          let p = and_parts (b == 91) _ x.0 in
          subst (TakesItem first (b ∷ bs)) (same_Some (class y.0.0, y.0.1) i y.2)
          (record {
            parts = ap (λ c. c ∷ bs) (eqb-true b 91 p.0) ∙ ap (λ (l : List ℕ). 91 ∷ l) (starts_is 58 bs p.1 ∙ ap (λ (l : List ℕ). 58 ∷ l) (name_takes (tail bs) y.0 y.1));
            fits = refl;
          })
      | inr x ↦ elim (chosen (is_barred first b bs) None (mark_at (b ∷ bs) >>= range_at) (Some i) x.1) [
        | inl y ↦ absurd (none-some i y.1)
        | inr y ↦
            let z = bind_some (mark_at (b ∷ bs)) range_at i y.1 in
            range_takes first (b ∷ bs) z.0 i (mark_takes (b ∷ bs) z.0 z.1) y.0 z.2
      ]
    ]

colon_mark : (bs : List ℕ) → starts (λ c. c == 58) bs ≡ true → starts is_name_mark bs ≡ true
colon_mark [] e = e
colon_mark (b ∷ bs) e = ap (λ (x : Bool). x || (b == 46 || (b == 61 || false))) e

and_more : (a b c : Bool) → (b ≡ true → c ≡ true) → (a && b) ≡ true → (a && c) ≡ true
and_more true b c f e = f e
and_more false b c f e = e

begun_again : (first : Bool) (m : Mark) (more : List ℕ) → mark_fits m more ≡ true → may_begin first m more ≡ true → item_at first (mark_bytes m ++ more) ≡ range_at (m, more)
begun_again first (plain b) more f g =
    let p = and_parts (not (b == 92)) _ f in
    cond-false (b == 91 && starts (λ c. c == 58) more) (name_at (tail more) >>= as_class) _
    (refuted _ _ (and_more (b == 91) _ _ (colon_mark more)) (not-true (b == 91 && starts is_name_mark more) p.1))
    ∙ cond-false (is_barred first b more) None (mark_at (b ∷ more) >>= range_at) (not-true (is_barred first b more) g)
    ∙ ap (λ o. o >>= range_at) (mark_again (plain b) more f)
begun_again first (escaped e) more f g =
    cond-false (is_barred first 92 (escape_bytes e ++ more)) None (mark_at (92 ∷ (escape_bytes e ++ more)) >>= range_at) (and-false (not first))
    ∙ ap (λ o. o >>= range_at) (mark_again (escaped e) more f)

begins_again : (m : Mark) (rest : List ℕ) → may_end m ≡ true → begins_range (45 ∷ (mark_bytes m ++ rest)) ≡ true
begins_again (plain b) rest h = h
begins_again (escaped e) rest h = refl

pub item_again : (first : Bool) (i : BracketItem) (rest : List ℕ) → item_fits first i rest ≡ true → item_at first (item_bytes i ++ rest) ≡ Some (i, rest)
item_again first (single m) rest h =
    let p = and_parts (mark_fits m rest) _ h in let q = and_parts (may_begin first m rest) _ p.1 in
    begun_again first m rest p.0 q.0
    ∙ cond-false (begins_range rest) (mark_at (tail rest) >>= as_range m) (Some (single m, rest)) (not-true (begins_range rest) q.1)
item_again first (range x y) rest h =
    let more = 45 ∷ (mark_bytes y ++ rest) in
    let p = and_parts (mark_fits x more) _ h in let q = and_parts (may_begin first x more) _ p.1 in let r = and_parts (mark_fits y rest) _ q.1 in
    ap (item_at first) (append_assoc (mark_bytes x) (45 ∷ mark_bytes y) rest)
    ∙ begun_again first x more p.0 q.0
    ∙ cond-true (begins_range more) (mark_at (mark_bytes y ++ rest) >>= as_range x) (Some (single x, more)) (begins_again y rest r.1)
    ∙ ap (λ o. o >>= as_range x) (mark_again y rest r.0)
item_again first (class n) rest h = ap (λ o. o >>= as_class) (name_again n rest)

-- ---- the items of a bracket

abbrev pub TakesItems : Bool → List ℕ → List BracketItem × List ℕ → Type 0
TakesItems first text r = Takes text (items_bytes r.0) r.1 (items_fit first r.0 r.1)

pub items_takes : (n : ℕ) (first : Bool) (text : List ℕ) (r : List BracketItem × List ℕ) → items_at n first text ≡ Some r → TakesItems first text r
items_takes zero first text r h = absurd (none-some r h)
items_takes (suc n) first text r h =
    elim (chosen (closes first text) (Some ([], tail text)) (item_at first text >>= λ i. items_at n false i.1 >>= with_item i.0) (Some r) h) [
      | inl x ↦
          let p = and_parts (not first) _ x.0 in
          subst (TakesItems first text) (same_Some ([], tail text) r x.1) (record { parts = starts_is 93 text p.1; fits = p.0 })
      | inr x ↦
          let y = bind_some (item_at first text) (λ i. items_at n false i.1 >>= with_item i.0) r x.1 in
          let z = bind_some (items_at n false y.0.1) (with_item y.0.0) r y.2 in
          let t = item_takes first text y.0 y.1 in
          let u = items_takes n false y.0.1 z.0 z.1 in
          subst (TakesItems first text) (same_Some (y.0.0 ∷ z.0.0, z.0.1) r z.2)
          (record {
            parts = t.parts ∙ ap (λ (l : List ℕ). item_bytes y.0.0 ++ l) u.parts ∙ sym (append_assoc (item_bytes y.0.0) (items_bytes z.0.0) z.0.1);
            fits = and_from (item_fits first y.0.0 (items_bytes z.0.0 ++ z.0.1)) _ (subst (λ (l : List ℕ). item_fits first y.0.0 l ≡ true) u.parts t.fits) u.fits;
          })
    ]

or_first : (a b c : Bool) → (a && (b || c)) ≡ false → (a && b) ≡ false
or_first true true c h = h
or_first true false c h = refl
or_first false b c h = refl

mark_opens : (first : Bool) (m : Mark) (more : List ℕ) → may_begin first m more ≡ true → closes first (mark_bytes m ++ more) ≡ false
mark_opens first (plain b) more h = or_first (not first) (b == 93) _ (not-true (is_barred first b more) h)
mark_opens first (escaped e) more h = and-false (not first)

item_opens : (first : Bool) (i : BracketItem) (more : List ℕ) → item_fits first i more ≡ true → closes first (item_bytes i ++ more) ≡ false
item_opens first (single m) more h =
    mark_opens first m more (and_parts (may_begin first m more) _ (and_parts (mark_fits m more) _ h).1).0
item_opens first (range x y) more h =
    ap (closes first) (append_assoc (mark_bytes x) (45 ∷ mark_bytes y) more)
    ∙ mark_opens first x (45 ∷ (mark_bytes y ++ more)) (and_parts (may_begin first x (45 ∷ (mark_bytes y ++ more))) _ (and_parts (mark_fits x (45 ∷ (mark_bytes y ++ more))) _ h).1).0
item_opens first (class n) more h = and-false (not first)

mark_long : (m : Mark) → 1 ≤ length (mark_bytes m)
mark_long (plain b) = omega arith
mark_long (escaped e) = omega arith

pub item_long : (i : BracketItem) → 1 ≤ length (item_bytes i)
item_long (single m) = mark_long m
item_long (range x y) = omega (arith, length-append (mark_bytes x) (45 ∷ mark_bytes y))
item_long (class n) = omega arith

pub items_again : (n : ℕ) (first : Bool) (is : List BracketItem) (rest : List ℕ) → length (items_bytes is ++ rest) ≤ n → items_fit first is rest ≡ true → items_at n first (items_bytes is ++ rest) ≡ Some (is, rest)
items_again zero first [] rest le h = absurd (omega arith)
items_again (suc n) first [] rest le h = cond-true (not first && true) (Some ([], rest)) _ (and_from (not first) true h refl)
items_again zero first (i ∷ is) rest le h = absurd (omega (arith, item_long i, length-append (item_bytes i) (items_bytes is), length-append (item_bytes i ++ items_bytes is) rest))
items_again (suc n) first (i ∷ is) rest le h =
    let more = items_bytes is ++ rest in
    let p = and_parts (item_fits first i more) _ h in
    let short : length more ≤ n = omega (arith, item_long i, ap length (append_assoc (item_bytes i) (items_bytes is) rest), length-append (item_bytes i) more) in
    ap (items_at (suc n) first) (append_assoc (item_bytes i) (items_bytes is) rest)
    ∙ cond-false (closes first (item_bytes i ++ more)) (Some ([], tail (item_bytes i ++ more))) (item_at first (item_bytes i ++ more) >>= λ j. items_at n false j.1 >>= with_item j.0) (item_opens first i more p.0)
    ∙ ap (λ o. o >>= λ j. items_at n false j.1 >>= with_item j.0) (item_again first i more p.0)
    ∙ ap (λ o. o >>= with_item i) (items_again n false is rest short p.1)

-- ---- brackets

abbrev pub TakesBracket : List ℕ → Bracket × List ℕ → Type 0
TakesBracket text k = Takes text (bracket_bytes k.0) k.1 (bracket_fits k.0 k.1)

pub bracket_takes : (text : List ℕ) (k : Bracket × List ℕ) → bracket_at text ≡ Some k → TakesBracket text k
bracket_takes text k h =
    elim (chosen (starts (λ b. b == 94) text) (items_at (length (tail text)) true (tail text) >>= as_others) (items_at (length text) true text >>= as_these) (Some k) h) [
      | inl x ↦
          let y = bind_some (items_at (length (tail text)) true (tail text)) as_others k x.1 in
          let t = items_takes (length (tail text)) true (tail text) y.0 y.1 in
          subst (TakesBracket text) (same_Some (others y.0.0, y.0.1) k y.2)
          (record { parts = starts_is 94 text x.0 ∙ ap (λ (l : List ℕ). 94 ∷ l) t.parts; fits = t.fits })
      | inr x ↦
          let y = bind_some (items_at (length text) true text) as_these k x.1 in
          let t = items_takes (length text) true text y.0 y.1 in
          subst (TakesBracket text) (same_Some (these y.0.0, y.0.1) k y.2)
          (record { parts = t.parts; fits = and_from (items_fit true y.0.0 y.0.1) _ t.fits (not_from_false (starts (λ b. b == 94) (items_bytes y.0.0 ++ y.0.1)) (subst (λ (l : List ℕ). starts (λ b. b == 94) l ≡ false) t.parts x.0)) })
    ]

pub bracket_again : (k : Bracket) (rest : List ℕ) → bracket_fits k rest ≡ true → bracket_at (bracket_bytes k ++ rest) ≡ Some (k, rest)
bracket_again (these is) rest h =
    let p = and_parts (items_fit true is rest) _ h in
    let text = items_bytes is ++ rest in
    cond-false (starts (λ b. b == 94) text) (items_at (length (tail text)) true (tail text) >>= as_others) _ (not-true (starts (λ b. b == 94) text) p.1)
    ∙ ap (λ o. o >>= as_these) (items_again (length text) true is rest (omega arith) p.0)
bracket_again (others is) rest h =
    ap (λ o. o >>= as_others) (items_again (length (items_bytes is ++ rest)) true is rest (omega arith) h)
