-- A text is read as a program by computing, and what is read is one.
use Rattle.std.proofs.Common.{◌≡◌, ℕ, zero, suc, ◌+◌, ◌≤◌, Bool, true, false, List, [], ◌∷◌, ◌++◌, length, drop, Option, Some, None, refl, sym, ap, ◌∙◌, subst, append_assoc, append-nil, drop-drop}
use Rattle.std.specs.Prelude.{nat_le, ◌&&◌, is_some, not, if◌then◌else◌}
use Rattle.std.proofs.lemmas.Bool.{cases_Bool, and_parts, leb-true}
use Rattle.awk_ere.specs.Tree.{Tree}
use Rattle.awk_ere.specs.support.PatternOf.{pattern_of}
use Rattle.awk_ere.proofs.PatternDecided.{pattern_sound}
use Rattle.awk_lex.specs.Words.{divides_after}
use Rattle.awk_lex.specs.Lexes.{Lexes, Reads}
use Rattle.awk_lex.specs.declared.token.Kind.{Kind}
use Rattle.awk_lex.specs.declared.token.Kind.TheVariants.{Ere}
use Rattle.awk_lex.specs.declared.lexer.TheConstants.{LIMIT}
use Rattle.awk_lex.specs.declared.lexeme.Lexeme.{Lexeme}
use Rattle.awk_lex.specs.declared.lexeme.Lexeme.TheVariants as lexeme
use Rattle.awk_lex.specs.support.Lexeme.{lexeme_of}
use Rattle.awk_lex.proofs.Progress.{IsRead, none_read, after_gap, after_token}
use Rattle.awk_grammar.specs.Tree.{Item}
use Rattle.awk_grammar.specs.Height.{max_height, height_of_program}
use Rattle.awk_grammar.specs.support.UnlimitedParser.{read}
use Rattle.awk_grammar.proofs.ParserSound.{sound}
use Rattle.awk_kinds.specs.definitions.Fits.{first_refusal}
use Rattle.awk_kinds.proofs.FitsLaw.{law_of_refusals}
use Rattle.awk_rows.specs.definitions.Row.{IsReadable, AreReadable, IsProgramText}

-- ---- the tokens

abbrev pub in_front : Kind → Option (List Kind) → Option (List Kind)
in_front k None = None
in_front k (Some ts) = Some (k ∷ ts)

-- what is read behind a lexeme, by whether a slash divides there
abbrev pub behind : Lexeme → Bool → (Bool → ℕ → Option (List Kind)) → Option (List Kind)
behind (lexeme.Gap n) d rest = rest d n
behind (lexeme.Token k n) d rest = in_front k (rest (divides_after k) n)
behind (lexeme.Fault c) d rest = None

-- the tokens of a text of less than so many bytes
abbrev pub tokens_within : ℕ → Bool → List ℕ → Option (List Kind)
tokens_within zero d text = None
tokens_within (suc n) d [] = Some []
tokens_within (suc n) d (b ∷ text) = behind (lexeme_of d (b ∷ text)) d (λ e m. tokens_within n e (drop m (b ∷ text)))

abbrev pub tokens_of : List ℕ → Option (List Kind)
tokens_of text = tokens_within (suc (length text)) false text

taken_apart : (k : Kind) (o : Option (List Kind)) (ts : List Kind) → in_front k o ≡ Some ts → (us : List Kind) × (o ≡ Some us) × (k ∷ us ≡ ts)
taken_apart k None ts h = absurd (cc)
taken_apart k (Some us) ts h = (us, refl, cc)

-- what is read from a place on, behind these tokens, are the text's tokens
abbrev Goes : (text : List ℕ) (n : ℕ) → Type 0
Goes text n = (d : Bool) (at : ℕ) (ts : List Kind) (left : List ℕ) (more : List Kind) → IsRead ts d text at → left ≡ drop at text → tokens_within n d left ≡ Some more → Lexes (ts ++ more) text

by_lexeme : (text : List ℕ) (n : ℕ) → Goes text n → (d : Bool) (at : ℕ) (ts : List Kind) (left : List ℕ) (more : List Kind) → IsRead ts d text at → left ≡ drop at text
    → (s : Lexeme) → lexeme_of d left ≡ s → behind s d (λ e m. tokens_within n e (drop m left)) ≡ Some more → Lexes (ts ++ more) text
by_lexeme text n go d at ts left more r e (lexeme.Gap m) is h =
    let here = ap (lexeme_of d) (sym e) ∙ is in
    go d (at + m) ts (drop m left) more (after_gap ts d text at m r here) (ap (drop m) e ∙ drop-drop m at text) h
by_lexeme text n go d at ts left more r e (lexeme.Token k m) is h =
    let here = ap (lexeme_of d) (sym e) ∙ is in
    let t = taken_apart k (tokens_within n (divides_after k) (drop m left)) more h in
    let all = go (divides_after k) (at + m) (ts ++ k ∷ []) (drop m left) t.0 (after_token ts d (divides_after k) text at m k r here refl) (ap (drop m) e ∙ drop-drop m at text) t.1 in
    subst (λ us. Lexes us text) (append_assoc ts (k ∷ []) t.0 ∙ ap (λ us. ts ++ us) t.2) all
by_lexeme text n go d at ts left more r e (lexeme.Fault c) is h = absurd (cc)

goes : (text : List ℕ) (n : ℕ) → Goes text n
goes text zero d at ts left more r e h = absurd (cc)
goes text (suc n) d at ts [] more r e h =
    let none : [] ≡ more = cc in
    let read : Lexes ts text = subst (Reads false ts text) (sym e) r.reads in
    subst (λ us. Lexes us text) (sym (append-nil ts) ∙ ap (λ us. ts ++ us) none) read
goes text (suc n) d at ts (b ∷ left) more r e h = by_lexeme text n (goes text n) d at ts (b ∷ left) more r e (lexeme_of d (b ∷ left)) refl h

pub tokens_sound : (text : List ℕ) (ts : List Kind) → tokens_of text ≡ Some ts → Lexes ts text
tokens_sound text ts h = goes text (suc (length text)) false 0 [] text ts (none_read text) refl h

-- ---- the EREs

abbrev pub is_readable : Kind → Bool
is_readable (Ere text) = is_some (pattern_of text)
is_readable token = true

abbrev pub are_readable : List Kind → Bool
are_readable [] = true
are_readable (token ∷ tokens) = is_readable token && are_readable tokens

spelled : (text : List ℕ) (o : Option Tree) → pattern_of text ≡ o → is_some o ≡ true → IsReadable (Ere text)
spelled text None is h = absurd (cc)
spelled text (Some t) is h = (t, pattern_sound text t is)

readable_sound : (token : Kind) → is_readable token ≡ true → IsReadable token
readable_sound (Ere text) h = spelled text (pattern_of text) refl h
readable_sound token h = tt

pub all_readable : (tokens : List Kind) → are_readable tokens ≡ true → AreReadable tokens
all_readable [] h = tt
all_readable (token ∷ tokens) h =
    let p = and_parts (is_readable token) (are_readable tokens) h in
    (readable_sound token p.0, all_readable tokens p.1)

-- ---- the program

abbrev pub is_accepted : List ℕ → List Kind → List Item → Bool
is_accepted text tokens items =
    nat_le (length text) LIMIT && (nat_le (height_of_program items) max_height && (are_readable tokens && not (is_some (first_refusal items))))

abbrev pub if_accepted : Bool → List Item → Option (List Item)
if_accepted true items = Some items
if_accepted false items = None

abbrev pub with_items : List ℕ → List Kind → Option (List Item) → Option (List Item)
with_items text tokens None = None
with_items text tokens (Some items) = if_accepted (is_accepted text tokens items) items

abbrev pub with_tokens : List ℕ → Option (List Kind) → Option (List Item)
with_tokens text None = None
with_tokens text (Some tokens) = with_items text tokens (read tokens)

-- the items of a program
abbrev pub program_of : List ℕ → Option (List Item)
program_of text = with_tokens text (tokens_of text)

none_told : {A : Type 0} (o : Option A) → not (is_some o) ≡ true → o ≡ None
none_told None h = refl
none_told (Some x) h = absurd (cc)

accepted : (text : List ℕ) (tokens : List Kind) (items : List Item) → tokens_of text ≡ Some tokens → read tokens ≡ Some items → is_accepted text tokens items ≡ true → IsProgramText text items
accepted text tokens items lexed parsed h =
    let short = and_parts (nat_le (length text) LIMIT) _ h in
    let low = and_parts (nat_le (height_of_program items) max_height) _ short.1 in
    let readable = and_parts (are_readable tokens) _ low.1 in
    record {
      tokens = tokens;
      short = leb-true _ _ short.0;
      lexes = tokens_sound text tokens lexed;
      spells = sound tokens items parsed;
      low = leb-true _ _ low.0;
      readable = all_readable tokens readable.0;
      fits = (law_of_refusals items).fits (none_told (first_refusal items) readable.1);
    }

by_test : (text : List ℕ) (tokens : List Kind) (all items : List Item) (b : Bool) → is_accepted text tokens all ≡ b → tokens_of text ≡ Some tokens → read tokens ≡ Some all → if_accepted b all ≡ Some items → IsProgramText text items
by_test text tokens all items true is lexed parsed h =
    let same : all ≡ items = cc in
    subst (IsProgramText text) same (accepted text tokens all lexed parsed is)
by_test text tokens all items false is lexed parsed h = absurd (cc)

by_items : (text : List ℕ) (tokens : List Kind) (o : Option (List Item)) (items : List Item) → tokens_of text ≡ Some tokens → read tokens ≡ o → with_items text tokens o ≡ Some items → IsProgramText text items
by_items text tokens None items lexed parsed h = absurd (cc)
by_items text tokens (Some all) items lexed parsed h = by_test text tokens all items (is_accepted text tokens all) refl lexed parsed h

by_tokens : (text : List ℕ) (o : Option (List Kind)) (items : List Item) → tokens_of text ≡ o → with_tokens text o ≡ Some items → IsProgramText text items
by_tokens text None items lexed h = absurd (cc)
by_tokens text (Some tokens) items lexed h = by_items text tokens (read tokens) items lexed refl h

pub program_sound : (text : List ℕ) (items : List Item) → program_of text ≡ Some items → IsProgramText text items
program_sound text items h = by_tokens text (tokens_of text) items refl h
