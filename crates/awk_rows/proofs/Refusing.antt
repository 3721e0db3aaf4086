-- Why a text is refused is computed, and what is computed is so.
use Rattle.std.proofs.Common.{◌≡◌, ℕ, zero, suc, ◌+◌, ◌≤◌, ◌<◌, Bool, true, false, List, [], ◌∷◌, ◌++◌, length, drop, Option, Some, None, refl, sym, ap, ◌∙◌, subst, arith, drop-drop, length-drop}
use Rattle.std.specs.Prelude.{nat_le}
use Rattle.std.proofs.lemmas.Bool.{leb-true, leb-false}
use Rattle.awk_lex.specs.Words.{divides_after}
use Rattle.awk_lex.specs.Lexes.{Breaks}
use Rattle.awk_lex.specs.declared.token.Kind.{Kind}
use Rattle.awk_lex.specs.declared.lexer.TheConstants.{LIMIT}
use Rattle.awk_lex.specs.declared.lexeme.Lexeme.{Lexeme}
use Rattle.awk_lex.specs.declared.lexeme.Lexeme.TheVariants as lexeme
use Rattle.awk_lex.specs.declared.refusal.RefusalCode.{RefusalCode}
use Rattle.awk_lex.specs.declared.refusal.RefusalCode.TheVariants.{NotAProgram, NestedTooDeep}
use Rattle.awk_lex.specs.support.Lexeme.{lexeme_of}
use Rattle.awk_lex.proofs.Progress.{IsRead, none_read, after_gap, after_token, fault_here}
use Rattle.awk_grammar.specs.Tree.{Item}
use Rattle.awk_grammar.specs.Height.{max_height, height_of_program}
use Rattle.awk_grammar.specs.support.UnlimitedParser.{read}
use Rattle.awk_grammar.proofs.ParserSound.{sound, refused}
use Rattle.awk_kinds.specs.definitions.Fits.{first_refusal}
use Rattle.awk_rows.specs.definitions.Refusal.{IsRefused, breaks, spells_nothing, is_too_high, does_not_fit}
use Rattle.awk_rows.proofs.Reading.{tokens_of, tokens_sound, are_readable, all_readable}

-- ---- where the tokens end

-- what breaks behind a lexeme, by whether a slash divides there
abbrev pub broken_behind : Lexeme → Bool → (Bool → ℕ → Option RefusalCode) → Option RefusalCode
broken_behind (lexeme.Gap n) d rest = rest d n
broken_behind (lexeme.Token k n) d rest = rest (divides_after k) n
broken_behind (lexeme.Fault c) d rest = Some c

-- what breaks in a text of less than so many bytes, if anything does
abbrev pub broken_within : ℕ → Bool → List ℕ → Option RefusalCode
broken_within zero d text = None
broken_within (suc n) d [] = None
broken_within (suc n) d (b ∷ text) = broken_behind (lexeme_of d (b ∷ text)) d (λ e m. broken_within n e (drop m (b ∷ text)))

abbrev pub broken_of : List ℕ → Option RefusalCode
broken_of text = broken_within (suc (length text)) false text

abbrev Breaking : (text : List ℕ) (code : RefusalCode) (n : ℕ) → Type 0
Breaking text code n = (d : Bool) (at : ℕ) (ts : List Kind) (left : List ℕ) → IsRead ts d text at → left ≡ drop at text → broken_within n d left ≡ Some code → Breaks code text

by_lexeme : (text : List ℕ) (code : RefusalCode) (n : ℕ) → Breaking text code n → (d : Bool) (at : ℕ) (ts : List Kind) (b : ℕ) (left : List ℕ) → IsRead ts d text at → (b ∷ left) ≡ drop at text
    → (s : Lexeme) → lexeme_of d (b ∷ left) ≡ s → broken_behind s d (λ e m. broken_within n e (drop m (b ∷ left))) ≡ Some code → Breaks code text
by_lexeme text code n go d at ts b left r e (lexeme.Gap m) is h =
    let here = ap (lexeme_of d) (sym e) ∙ is in
    go d (at + m) ts (drop m (b ∷ left)) (after_gap ts d text at m r here) (ap (drop m) e ∙ drop-drop m at text) h
by_lexeme text code n go d at ts b left r e (lexeme.Token k m) is h =
    let here = ap (lexeme_of d) (sym e) ∙ is in
    go (divides_after k) (at + m) (ts ++ k ∷ []) (drop m (b ∷ left)) (after_token ts d (divides_after k) text at m k r here refl) (ap (drop m) e ∙ drop-drop m at text) h
by_lexeme text code n go d at ts b left r e (lexeme.Fault c) is h =
    let here = ap (lexeme_of d) (sym e) ∙ is in
    let same : c ≡ code = cc in
    let inside : at < length text = omega (arith, length-drop at text, ap length e) in
    subst (λ x. Breaks x text) same (record { tokens = ts; place = drop at text; reads = r.reads; fault = fault_here ts d text at c inside r here })

breaking : (text : List ℕ) (code : RefusalCode) (n : ℕ) → Breaking text code n
breaking text code zero d at ts left r e h = absurd (cc)
breaking text code (suc n) d at ts [] r e h = absurd (cc)
breaking text code (suc n) d at ts (b ∷ left) r e h = by_lexeme text code n (breaking text code n) d at ts b left r e (lexeme_of d (b ∷ left)) refl h

broken_sound : (text : List ℕ) (code : RefusalCode) → broken_of text ≡ Some code → Breaks code text
broken_sound text code h = breaking text code (suc (length text)) false 0 [] text (none_read text) refl h

-- ---- the first cause

abbrev pub by_names : Bool → List Item → Option RefusalCode
by_names true items = first_refusal items
by_names false items = None

abbrev pub by_height : Bool → Bool → List Item → Option RefusalCode
by_height true readable items = by_names readable items
by_height false readable items = Some NestedTooDeep

abbrev pub by_tree : List Kind → Option (List Item) → Option RefusalCode
by_tree tokens None = Some NotAProgram
by_tree tokens (Some items) = by_height (nat_le (height_of_program items) max_height) (are_readable tokens) items

abbrev pub by_tokens : Option (List Kind) → Option RefusalCode
by_tokens None = None
by_tokens (Some tokens) = by_tree tokens (read tokens)

abbrev pub by_break : List ℕ → Option RefusalCode → Option RefusalCode
by_break text None = by_tokens (tokens_of text)
by_break text (Some code) = Some code

abbrev pub if_short : Bool → Option RefusalCode → Option RefusalCode
if_short true found = found
if_short false found = None

abbrev pub refusal_of : List ℕ → Option RefusalCode
refusal_of text = if_short (nat_le (length text) LIMIT) (by_break text (broken_of text))

names_so : (text : List ℕ) (tokens : List Kind) (items : List Item) (code : RefusalCode) (b : Bool) → are_readable tokens ≡ b → length text ≤ LIMIT → tokens_of text ≡ Some tokens → read tokens ≡ Some items
    → height_of_program items ≤ max_height → by_names b items ≡ Some code → IsRefused text code
names_so text tokens items code true is short lexed parsed low h = does_not_fit tokens items short (tokens_sound text tokens lexed) (sound tokens items parsed) low (all_readable tokens is) h
names_so text tokens items code false is short lexed parsed low h = absurd (cc)

height_so : (text : List ℕ) (tokens : List Kind) (items : List Item) (code : RefusalCode) (b : Bool) → nat_le (height_of_program items) max_height ≡ b → length text ≤ LIMIT → tokens_of text ≡ Some tokens → read tokens ≡ Some items
    → by_height b (are_readable tokens) items ≡ Some code → IsRefused text code
height_so text tokens items code true is short lexed parsed h = names_so text tokens items code (are_readable tokens) refl short lexed parsed (leb-true _ _ is) h
height_so text tokens items code false is short lexed parsed h =
    let same : NestedTooDeep ≡ code = cc in
    subst (IsRefused text) same (is_too_high tokens items short (tokens_sound text tokens lexed) (sound tokens items parsed) (leb-false (height_of_program items) max_height is))

tree_so : (text : List ℕ) (tokens : List Kind) (code : RefusalCode) (o : Option (List Item)) → read tokens ≡ o → length text ≤ LIMIT → tokens_of text ≡ Some tokens → by_tree tokens o ≡ Some code → IsRefused text code
tree_so text tokens code None parsed short lexed h =
    let same : NotAProgram ≡ code = cc in
    subst (IsRefused text) same (spells_nothing tokens short (tokens_sound text tokens lexed) (λ items p. refused tokens items parsed p))
tree_so text tokens code (Some items) parsed short lexed h = height_so text tokens items code (nat_le (height_of_program items) max_height) refl short lexed parsed h

tokens_so : (text : List ℕ) (code : RefusalCode) (o : Option (List Kind)) → tokens_of text ≡ o → length text ≤ LIMIT → by_tokens o ≡ Some code → IsRefused text code
tokens_so text code None lexed short h = absurd (cc)
tokens_so text code (Some tokens) lexed short h = tree_so text tokens code (read tokens) refl short lexed h

break_so : (text : List ℕ) (code : RefusalCode) (o : Option RefusalCode) → broken_of text ≡ o → length text ≤ LIMIT → by_break text o ≡ Some code → IsRefused text code
break_so text code None is short h = tokens_so text code (tokens_of text) refl short h
break_so text code (Some c) is short h = breaks short (broken_sound text code (is ∙ h))

short_so : (text : List ℕ) (code : RefusalCode) (b : Bool) → nat_le (length text) LIMIT ≡ b → if_short b (by_break text (broken_of text)) ≡ Some code → IsRefused text code
short_so text code true is h = break_so text code (broken_of text) refl (leb-true _ _ is) h
short_so text code false is h = absurd (cc)

-- what is computed is why the text is refused
pub refuses : {text : List ℕ} {code : RefusalCode} → refusal_of text ≡ Some code → IsRefused text code
refuses {text} {code} h = short_so text code (nat_le (length text) LIMIT) refl h
