-- Which pattern a text spells is decided.
use Rattle.std.proofs.Common.{◌≡◌, ℕ, zero, suc, ◌≤◌, true, false, List, [], ◌∷◌, ◌++◌, length, Option, Some, None, refl, sym, ap, subst, ◌∙◌, arith}
use Rattle.std.specs.Prelude.{not, nat_le, option_map}
use Rattle.std.proofs.lemmas.List.{length-append}
use Rattle.std.proofs.lemmas.Option.{same_Some, none-some}
use Rattle.std.proofs.lemmas.Bool.{and_parts, and_from, not-true, not_from_false, leb-true, le-leb, cond-true}
use Rattle.awk_ere.specs.definitions.Tree.{Tree, none, size}
use Rattle.awk_ere.specs.definitions.Tokens.{Token, token_bytes, token_fits, text_of, tokens_fit, AreSpelt}
use Rattle.awk_ere.specs.definitions.Written.{Pattern, tokens, Whole, nothing, whole, whole_tokens, tree_of, whole_opened}
use Rattle.awk_ere.specs.definitions.Desugared.{IsOrdered}
use Rattle.awk_ere.specs.definitions.Limits.{most_opened, greatest_size, any_bad, SpellsWithin}
use Rattle.awk_ere.specs.support.Lexer.{◌>>=◌, token_at}
use Rattle.awk_ere.specs.support.Parser.{parse}
use Rattle.awk_ere.specs.support.PatternOf.{in_front, tokens_of, whole_of, is_within, within_limits, pattern_of}
use Rattle.awk_ere.proofs.CountsOrdered.{ordered_pattern}
use Rattle.awk_ere.proofs.Choices.{chosen_some, bind_some}
use Rattle.awk_ere.proofs.ParseRoundTrip.{parse_tokens, tokens_parse}
use Rattle.awk_ere.proofs.TokenRoundTrip.{token_takes, token_again, token_long}

-- ---- tokens

tokens_sound : (n : ℕ) (text : List ℕ) (ws : List Token) → tokens_of n text ≡ Some ws → AreSpelt ws text
tokens_sound n [] ws e = subst (λ vs. AreSpelt vs []) (same_Some [] ws e) (refl, refl)
tokens_sound zero (b ∷ bs) ws e = absurd (none-some ws e)
tokens_sound (suc n) (b ∷ bs) ws e =
    let h = bind_some (token_at (b ∷ bs)) (λ w. tokens_of n w.1 >>= in_front w.0) ws e in
    let w = h.0 in
    let t = token_takes (b ∷ bs) w h.1 in
    let k = bind_some (tokens_of n w.1) (in_front w.0) ws h.2 in
    let r = tokens_sound n w.1 k.0 k.1 in
    subst (λ vs. AreSpelt vs (b ∷ bs)) (same_Some (w.0 ∷ k.0) ws k.2)
    (t.parts ∙ ap (λ l. token_bytes w.0 ++ l) r.0, and_from (token_fits w.0 (text_of k.0)) (tokens_fit k.0) (ap (token_fits w.0) (sym r.0) ∙ t.fits) r.1)

tokens_step : (n : ℕ) (text : List ℕ) (w : Token × List ℕ) (ws : List Token) → token_at text ≡ Some w → tokens_of n w.1 ≡ Some ws → tokens_of (suc n) text ≡ Some (w.0 ∷ ws)
tokens_step n [] w ws e f = absurd (none-some w e)
tokens_step n (b ∷ bs) w ws e f =
    ap (λ o. o >>= λ v. tokens_of n v.1 >>= in_front v.0) e ∙ ap (λ o. o >>= in_front w.0) f

tokens_complete : (ws : List Token) (n : ℕ) → length (text_of ws) ≤ n → tokens_fit ws ≡ true → tokens_of n (text_of ws) ≡ Some ws
tokens_complete [] n le fit = refl
tokens_complete (w ∷ ws) zero le fit = absurd (omega (arith, le, token_long w, length-append (token_bytes w) (text_of ws)))
tokens_complete (w ∷ ws) (suc n) le fit =
    let f = and_parts (token_fits w (text_of ws)) (tokens_fit ws) fit in
    tokens_step n (token_bytes w ++ text_of ws) (w, text_of ws) ws (token_again w (text_of ws) f.0)
    (tokens_complete ws n (omega (arith, le, token_long w, length-append (token_bytes w) (text_of ws))) f.1)

-- ---- a whole text

parsed : (ws : List Token) (o : Option Pattern) (w : Whole) → parse ws ≡ o → option_map whole o ≡ Some w → whole_tokens w ≡ ws
parsed ws None w h e = absurd (none-some w e)
parsed ws (Some p) w h e = subst (λ v. whole_tokens v ≡ ws) (same_Some (whole p) w e) (tokens_parse ws p h)

whole_sound : (ws : List Token) (w : Whole) → whole_of ws ≡ Some w → whole_tokens w ≡ ws
whole_sound [] w e = subst (λ v. whole_tokens v ≡ []) (same_Some nothing w e) refl
whole_sound (x ∷ xs) w e = parsed (x ∷ xs) (parse (x ∷ xs)) w refl e

some_whole : (ws : List Token) (p : Pattern) → parse ws ≡ Some p → whole_of ws ≡ Some (whole p)
some_whole [] p e = absurd (none-some p e)
some_whole (x ∷ xs) p e = ap (option_map whole) e

whole_complete : (w : Whole) → whole_of (whole_tokens w) ≡ Some w
whole_complete nothing = refl
whole_complete (whole p) = some_whole (tokens p) p (parse_tokens p)

-- ---- the limits

abbrev Within : Whole → Type 0
Within w = (any_bad (whole_tokens w) ≡ false) × (whole_opened w ≤ most_opened) × (size (tree_of w) ≤ greatest_size)

within_sound : (w : Whole) → is_within w ≡ true → Within w
within_sound w e =
    let h = and_parts (not (any_bad (whole_tokens w))) _ e in
    let k = and_parts (nat_le (whole_opened w) most_opened) (nat_le (size (tree_of w)) greatest_size) h.1 in
    (not-true (any_bad (whole_tokens w)) h.0, leb-true (whole_opened w) most_opened k.0, leb-true (size (tree_of w)) greatest_size k.1)

within_complete : (w : Whole) → Within w → is_within w ≡ true
within_complete w h =
    and_from (not (any_bad (whole_tokens w))) _ (not_from_false (any_bad (whole_tokens w)) h.0)
    (and_from (nat_le (whole_opened w) most_opened) (nat_le (size (tree_of w)) greatest_size) (le-leb (whole_opened w) most_opened h.1) (le-leb (size (tree_of w)) greatest_size h.2))

-- ---- the pattern of a text

pub pattern_sound : (text : List ℕ) (t : Tree) → pattern_of text ≡ Some t → SpellsWithin t text
unfolding pattern_of
pattern_sound text t e =
    let h = bind_some (tokens_of (length text) text >>= whole_of) within_limits t e in
    let w = h.0 in
    let k = bind_some (tokens_of (length text) text) whole_of w h.1 in
    let l = chosen_some (is_within w) (Some (tree_of w)) t h.2 in
    let l2 = within_sound w l.0 in
    (w, (subst (λ ws. AreSpelt ws text) (sym (whole_sound k.0 w k.2)) (tokens_sound (length text) text k.0 k.1), l2.0, l2.1, l2.2), same_Some (tree_of w) t l.1)

pub pattern_complete : (text : List ℕ) (t : Tree) → SpellsWithin t text → pattern_of text ≡ Some t
unfolding pattern_of
pattern_complete text t h =
    let w = h.0 in
    let ws = whole_tokens w in
    let good = h.1 in
    let read : tokens_of (length text) text ≡ Some ws =
    ap (tokens_of (length text)) good.0.0 ∙ tokens_complete ws (length text) (omega (arith, ap length good.0.0)) good.0.1 in
    ap (λ o. o >>= whole_of >>= within_limits) read
    ∙ ap (λ o. o >>= within_limits) (whole_complete w)
    ∙ cond-true (is_within w) (Some (tree_of w)) None (within_complete w (good.1, good.2, good.3))
    ∙ ap Some h.2

whole_ordered : (w : Whole) → any_bad (whole_tokens w) ≡ false → IsOrdered (tree_of w)
whole_ordered nothing e = tt
whole_ordered (whole p) e = ordered_pattern p none e tt

-- its counts are in order, since none of its tokens is refused
pub pattern_ordered : (text : List ℕ) (t : Tree) → pattern_of text ≡ Some t → IsOrdered t
pattern_ordered text t e =
    let h = pattern_sound text t e in
    subst IsOrdered h.2 (whole_ordered h.0 h.1.1)
