-- A loop over a text's symbols: the bytes so far and what is left of the text make up the whole.
use Rattle.std.proofs.Common.{◌≡◌, ℕ, zero, suc, ◌+◌, ◌<◌, ◌≤◌, false, eqb, List, [], ◌∷◌, ◌++◌, length, drop, get_or, Option, Some, None, refl, sym, ◌∙◌, ap, append_assoc, arith}
use Rattle.std.specs.Prelude.{slice_range}
use Rattle.std.specs.Option.{option_map, option_and_then}
use Rattle.std.proofs.lemmas.List.{at_drop_more, drop-drop, length-drop, take_rest}
use Rattle.std.specs.List.{list_any}
use Rattle.std.proofs.lemmas.Bool.{or_parts}
use Rattle.awk_lex.proofs.Prefixes.{if_false}
use Rattle.awk_lex.specs.definitions.Escapes.{first_symbol, unescaped_behind, unescaped}
use Rattle.awk_lex.specs.declared.escapes.Symbol.{Symbol}

unescaped_behind-drop : (taken : ℕ) (text : List ℕ) → unescaped_behind taken text ≡ unescaped (drop taken text)
unescaped_behind-drop zero text = refl
unescaped_behind-drop (suc taken) [] = refl
unescaped_behind-drop (suc taken) (byte ∷ text) = unescaped_behind-drop taken text

regroup : (front : List ℕ) (byte : ℕ) (rest : Option (List ℕ)) → option_map (λ bytes. (front ++ byte ∷ []) ++ bytes) rest ≡ option_map (λ bytes. front ++ bytes) (option_map (λ bytes. byte ∷ bytes) rest)
regroup front byte None = refl
regroup front byte (Some bytes) = ap Some (append_assoc front (byte ∷ []) bytes)

-- what a symbol takes lies within the text
pub symbol_within : (text : List ℕ) (place taken : ℕ) → place < length text → taken ≤ length (slice_range text (place + 1) (length text)) → place + 1 + taken ≤ length text
symbol_within text place taken lt le = omega (arith, ap length (take_rest text (place + 1)), length-drop (place + 1) text)

-- one symbol more
pub unescaped_more : (text front new : List ℕ) (whole : Option (List ℕ)) (place : ℕ) (first : Symbol) → place < length text →
    Some first ≡ first_symbol (get_or text place 0) (slice_range text (place + 1) (length text)) →
    new ≡ front ++ first.byte ∷ [] →
    option_map (λ bytes. front ++ bytes) (unescaped (drop place text)) ≡ whole →
    option_map (λ bytes. new ++ bytes) (unescaped (drop (place + 1 + first.behind) text)) ≡ whole
unescaped_more text front new whole place first lt is added h =
    let rest = drop (place + 1) text in
    let left : unescaped (drop place text) ≡ option_map (λ bytes. first.byte ∷ bytes) (unescaped_behind first.behind rest) =
    at_drop_more unescaped text place 0 lt ∙ ap (option_and_then (λ (s : Symbol). option_map (λ bytes. s.byte ∷ bytes) (unescaped_behind s.behind rest))) (sym (is ∙ ap (first_symbol (get_or text place 0)) (take_rest text (place + 1)))) in
    let behind : unescaped (drop (place + 1 + first.behind) text) ≡ unescaped_behind first.behind rest =
    ap unescaped (sym (drop-drop first.behind (place + 1) text)) ∙ sym (unescaped_behind-drop first.behind rest) in
    ap (λ (made : List ℕ). option_map (λ bytes. made ++ bytes) (unescaped (drop (place + 1 + first.behind) text))) added
    ∙ (ap (option_map (λ bytes. (front ++ first.byte ∷ []) ++ bytes)) behind
    ∙ (regroup front first.byte (unescaped_behind first.behind rest) ∙ (ap (option_map (λ bytes. front ++ bytes)) (sym left) ∙ h)))

-- a text without a backslash stands for itself
pub unescaped_plain : (text : List ℕ) → list_any (λ b. eqb b 92) text ≡ false → unescaped text ≡ Some text
unescaped_plain [] h = refl
unescaped_plain (b ∷ text) h =
    let parts = or_parts (eqb b 92) (list_any (λ x. eqb x 92) text) h in
    let first : first_symbol b text ≡ Some (record { byte = b; behind = 0 }) = if_false (eqb b 92) _ _ parts.0 in
    ap (option_and_then (λ (s : Symbol). option_map (λ bytes. s.byte ∷ bytes) (unescaped_behind s.behind text))) first
    ∙ ap (option_map (λ bytes. b ∷ bytes)) (unescaped_plain text parts.1)
