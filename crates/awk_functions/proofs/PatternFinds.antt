-- What a pattern that is kept finds is what the definitions say of the text that spells it.
use Rattle.std.proofs.Common.{◌≡◌, ℕ, zero, suc, ◌-◌, ◌<◌, Bool, List, [], ◌∷◌, ◌++◌, take, drop, Option, Some, None, Result, Ok, Err, refl, sym, ap, ◌∙◌, subst, arith}
use Rattle.std.proofs.Math.Logic.{∥∥₁_elim}
use Rattle.std.proofs.Props.{props}
use Rattle.std.specs.Prelude.{◌↔◌, false, IfSome, IfErr, OnOk}
use Rattle.std.specs.Coded.{Coded, Coded-set, code_by, coded×, coded_option, coded_list, coded_ℕ, coded_bool}
use Rattle.awk_ere.specs.Tree.{Tree}
use Rattle.awk_ere.specs.definitions.Desugared.{IsOrdered}
use Rattle.awk_ere.specs.Means.{Means, pattern_of, occurs, HasNoneUpTo}
use Rattle.awk_ere.specs.declared.pattern.Pattern.{Pattern}
use Rattle.awk_text.specs.declared.span.Span.{Span}
use Rattle.awk_text.specs.declared.substitution.Substitution.{Substitution}
use Rattle.awk_text.specs.Chosen.{IsNextMatch}
use Rattle.awk_text.specs.Fields.{ere_pieces}
use Rattle.awk_text.specs.Replaced.{Replaced, Substitutes}
use Rattle.awk_semantics.specs.declared.halt.Halt.{Halt}
use Rattle.awk_semantics.specs.Operators.{pattern_or_fault, pattern_in}
use Rattle.awk_semantics.specs.Results.{sort_of, YieldsBy, IsWantOfMemory}
use Rattle.awk_semantics.specs.Texts.{find_from, exchanged, ere_separator}
use Rattle.awk_functions.specs.declared.found.Exchanged.{Exchanged}
use Rattle.awk_functions.specs.support.Matched.{matched, HasNoMatchUpTo, found, some_exchanged, exchanged_by, split_by}
use Rattle.awk_functions.specs.support.Compiled.{MeansOf}
use Rattle.awk_functions.specs.support.Written.{Writes}

-- a text that spells a pattern which is kept spells one
record Kept (text : List ℕ) (p : Pattern) : Type 0 where
  tree : Tree
  spelled : pattern_of text ≡ Some tree
  means : ∥ Means tree p ∥₁

kept_tree : (text : List ℕ) (p : Pattern) → ∥ MeansOf (pattern_of text) p ∥₁ → Kept text p
kept_tree text p means = by (pattern_of text) refl means
  where
    by : (o : Option Tree) → pattern_of text ≡ o → ∥ MeansOf o p ∥₁ → Kept text p
    by None is m = absurd (∥∥₁_elim m (λ x y. absurd x) (λ h. h))
    by (Some t) is m = record { tree = t; spelled = is; means = m }

-- whether there is a match

pub matched_is : (text s : List ℕ) (p : Pattern) (r : Bool) → ∥ MeansOf (pattern_of text) p ∥₁ → ((t : Tree) → Means t p → r ≡ occurs t s) → matched (pattern_in text) s ≡ Ok r
matched_is text s p r means decided =
    let kept = kept_tree text p means in
    let same : r ≡ occurs kept.tree s = ∥∥₁_elim kept.means (Coded-set coded_bool r (occurs kept.tree s)) (λ m. decided kept.tree m) in
    ap (λ o. matched (pattern_or_fault o) s) kept.spelled ∙ ap Ok (sym same)

-- no match

pub none_matched : (text s : List ℕ) (p : Pattern) (r : Option ℕ) → ∥ MeansOf (pattern_of text) p ∥₁ → IfSome r (λ place. (t : Tree) → Means t p → HasNoneUpTo t s place) → IfSome r (HasNoMatchUpTo (pattern_in text) s)
none_matched text s p None means none = tt
none_matched text s p (Some place) means none = λ before part after is within.
    let kept = kept_tree text p means in
    let absent : occurs kept.tree part ≡ false = ∥∥₁_elim kept.means (Coded-set coded_bool (occurs kept.tree part) false) (λ m. none kept.tree m before part after is within) in
    ap (λ o. matched (pattern_or_fault o) part) kept.spelled ∙ ap Ok absent

-- the first match

coded_span : Coded Span
coded_span = code_by (ℕ × ℕ) (coded× coded_ℕ coded_ℕ) (λ m. (m.start, m.end)) (λ p. record { start = p.0; end = p.1 }) (λ _. refl)

abbrev FirstLaw : Type 0
FirstLaw = (t : Tree) (text : List ℕ) (found : Option Span) → IsOrdered t → IsNextMatch t text None found ↔ (found ≡ find_from t text 0)

pub found_is : FirstLaw → (text s : List ℕ) (p : Pattern) (r : Option Span) → ∥ MeansOf (pattern_of text) p ∥₁ → ((t : Tree) → Means t p → IsNextMatch t s None r) → found (pattern_in text) s ≡ Ok r
found_is law text s p r means next =
    let kept = kept_tree text p means in
    let same : r ≡ find_from kept.tree s 0 = ∥∥₁_elim kept.means (Coded-set (coded_option coded_span) r (find_from kept.tree s 0)) (λ m. (law kept.tree s r m.0).0 (next kept.tree m)) in
    ap (λ o. found (pattern_or_fault o) s) kept.spelled ∙ ap Ok (sym same)

-- exchanged matches

abbrev IsExchanged : Tree → (all : Bool) → (replacement s : List ℕ) → ℕ → List ℕ → Type 0
IsExchanged t all replacement s count text = (count ≡ (exchanged all t replacement s).count) × (text ≡ (exchanged all t replacement s).text)

abbrev ExchangeLaw : Type 0
ExchangeLaw = (t : Tree) (replacement text : List ℕ) (all : Bool) (count : ℕ) (other : List ℕ) → IsOrdered t → Replaced t replacement text all count other ↔ IsExchanged t all replacement text count other

abbrev pub made_of : ℕ → List ℕ → Option Exchanged
made_of count text = Some (record { count = count; text = text })

some_made : (count : ℕ) (text : List ℕ) → 0 < count → some_exchanged count text ≡ made_of count text
some_made zero text above = absurd (omega arith)
some_made (suc n) text above = refl

module _ (law : ExchangeLaw) (text s replacement : List ℕ) (p : Pattern) (all : Bool) (means : ∥ MeansOf (pattern_of text) p ∥₁) where
  same : (t : Tree) (count : ℕ) (made : List ℕ) → ∥ Means t p ∥₁ → (Means t p → Replaced t replacement s all count made) → IsExchanged t all replacement s count made
  same t count made m replaced = (
    ∥∥₁_elim m (Coded-set coded_ℕ count (exchanged all t replacement s).count) (λ h. ((law t replacement s all count made h.0).0 (replaced h)).0),
    ∥∥₁_elim m (Coded-set (coded_list coded_ℕ) made (exchanged all t replacement s).text) (λ h. ((law t replacement s all count made h.0).0 (replaced h)).1),
  )

  told : (t : Tree) (count : ℕ) (made : List ℕ) → pattern_of text ≡ Some t → IsExchanged t all replacement s count made → exchanged_by all (pattern_in text) replacement s ≡ Ok (some_exchanged count made)
  told t count made spelled is =
      ap (λ o. exchanged_by all (pattern_or_fault o) replacement s) spelled
      ∙ (ap (λ n. Ok (some_exchanged n (exchanged all t replacement s).text)) (sym is.0) ∙ ap (λ x. Ok (some_exchanged count x)) (sym is.1))

  pub exchanged_some : (made : Substitution) (o : Option Substitution) → o ≡ Some made → ((t : Tree) → Means t p → Substitutes t replacement s all o) → exchanged_by all (pattern_in text) replacement s ≡ Ok (made_of made.count made.text.items)
  exchanged_some made o is replaced =
      let kept = kept_tree text p means in
      let some : (m : Means kept.tree p) → Substitutes kept.tree replacement s all (Some made) = λ m. subst (Substitutes kept.tree replacement s all) is (replaced kept.tree m) in
      let above : 0 < made.count = ∥∥₁_elim kept.means (hlevel props) (λ m. (some m).0) in
      told kept.tree made.count made.text.items kept.spelled (same kept.tree made.count made.text.items kept.means (λ m. (some m).1)) ∙ ap Ok (some_made made.count made.text.items above)

  pub exchanged_none : (o : Option Substitution) → o ≡ None → ((t : Tree) → Means t p → Substitutes t replacement s all o) → exchanged_by all (pattern_in text) replacement s ≡ Ok None
  exchanged_none o is replaced =
      let kept = kept_tree text p means in
      told kept.tree 0 s kept.spelled (same kept.tree 0 s kept.means (λ m. subst (Substitutes kept.tree replacement s all) is (replaced kept.tree m)))

  pub first_exchanged : (made : List ℕ) → ((t : Tree) → Means t p → Replaced t replacement s all 1 made) → exchanged_by all (pattern_in text) replacement s ≡ Ok (made_of 1 made)
  first_exchanged made replaced =
      let kept = kept_tree text p means in
      told kept.tree 1 made kept.spelled (same kept.tree 1 made kept.means (λ m. replaced kept.tree m))

  pub nothing_exchanged : ((t : Tree) → Means t p → Replaced t replacement s all 0 s) → exchanged_by all (pattern_in text) replacement s ≡ Ok None
  nothing_exchanged replaced =
      let kept = kept_tree text p means in
      told kept.tree 0 s kept.spelled (same kept.tree 0 s kept.means (λ m. replaced kept.tree m))

-- a first match that is left out

pub left_out : (t : Tree) (s : List ℕ) (m : Span) → IsNextMatch t s None (Some m) → Replaced t [] s false 1 (take m.start s ++ drop m.end s)
left_out t s m next =
    let whole : m.start ≡ m.start - 0 = omega arith in
    record { matches = m ∷ []; chosen = next; counted = refl; bytes = ap (λ n. take n s ++ drop m.end s) whole }

pub none_left_out : (t : Tree) (s : List ℕ) → IsNextMatch t s None None → Replaced t [] s false 0 s
none_left_out t s next = record { matches = []; chosen = next; counted = refl; bytes = refl }

-- the pieces between matches

pub split_written : (text s : List ℕ) (p : Pattern) (pieces : List (List ℕ)) (r : Result (Unit {0}) Halt) → ∥ MeansOf (pattern_of text) p ∥₁ → ((t : Tree) → Means t p → OnOk r (pieces ≡ ere_pieces t s))
    → IfErr r IsWantOfMemory → Writes r pieces (split_by (ere_separator (pattern_in text)) s)
split_written text s p pieces (Ok x) means are memory =
    let kept = kept_tree text p means in
    let same : pieces ≡ ere_pieces kept.tree s = ∥∥₁_elim kept.means (Coded-set (coded_list (coded_list coded_ℕ)) pieces (ere_pieces kept.tree s)) (λ m. are kept.tree m) in
    ap (λ o. split_by (ere_separator (pattern_or_fault o)) s) kept.spelled ∙ ap Ok (sym same)
split_written text s p pieces (Err h) means are memory =
    let P : Halt → Type 0 = λ k. YieldsBy (sort_of k) (split_by (ere_separator (pattern_in text)) s) in
    subst P (sym memory) tt
