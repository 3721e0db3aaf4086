-- What the scanner answers by the first byte.
use Rattle.std.proofs.Common.{◌≡◌, ℕ, ◌+◌, ◌≤◌, ◌<◌, Bool, true, false, eqb, inl, inr, List, [], ◌∷◌, length, get_or, take, drop, Option, Some, None, refl, sym, ap, ◌∙◌, subst, drop-drop, arith}
use Rattle.std.specs.Prelude.{slice_index, take_while, unwrap_or}
use Rattle.std.specs.List.{prefix_len}
use Rattle.std.specs.Char.{is_ascii_digit}
use Rattle.std.proofs.lemmas.Bool.{cases_Bool, ne_eqb}
use Rattle.std.proofs.lemmas.List.{drop-take}
use Rattle.std.proofs.lemmas.List.Folds.{length-prefix_len}
use Rattle.awk_lex.specs.definitions.Escapes.{unescaped}
use Rattle.awk_lex.specs.definitions.Tables.{reserved, punctuators, kind_in}
use Rattle.awk_lex.specs.definitions.Words.{is_name_start, is_word_byte, opens, is_allowed}
use Rattle.awk_lex.specs.support.Lexeme.{gap_len, body_len, named, kind_of, found_word, closed_string, found_string, found_ere, short_punctuator, long_punctuator, punctuator_at, token_lexeme, lexeme_of}
use Rattle.awk_lex.specs.declared.token.Kind.{Kind}
use Rattle.awk_lex.specs.declared.token.Kind.TheVariants.{String, Ere, Name, Called}
use Rattle.awk_lex.specs.declared.refusal.RefusalCode.TheVariants.{EscapeRefused, NumberRefused, UnexpectedByte}
use Rattle.awk_lex.specs.declared.lexeme.Lexeme.{Lexeme}
use Rattle.awk_lex.specs.declared.lexeme.Lexeme.TheVariants as lexeme
use Rattle.awk_lex.proofs.Prefixes.{if_true, if_false}
use Rattle.awk_lex.proofs.Tables.{word_allowed, punctuators_are, row_is}
use Rattle.awk_lex.proofs.Read.{lexeme_without_gap}

named_allowed : (w rest x : List ℕ) → is_allowed (named w rest) x ≡ true
named_allowed w rest x = elim (cases_Bool (opens rest)) [
  | inl opened ↦ ap (λ k. is_allowed k x) (if_true (opens rest) (Called w) (Name w) opened)
  | inr other ↦ ap (λ k. is_allowed k x) (if_false (opens rest) (Called w) (Name w) other)
]

-- a word may stand before anything
kind_allowed : (w rest x : List ℕ) → is_allowed (kind_of w rest) x ≡ true
kind_allowed w rest x = by_row (kind_in reserved w) refl
  where
    by_row : (o : Option Kind) → kind_in reserved w ≡ o → is_allowed (unwrap_or o (named w rest)) x ≡ true
    by_row (Some k) e = word_allowed w x k e
    by_row None e = named_allowed w rest x

-- the word in front
abbrev word_here : List ℕ → Lexeme
word_here t = token_lexeme t (found_word (take_while is_word_byte t) (drop (prefix_len is_word_byte t) t))

word_token : (r t : List ℕ) (len : ℕ) (k : Kind) → r ≡ t → len ≡ prefix_len is_word_byte r → kind_of (take len r) (drop len r) ≡ k
    → lexeme.Token k len ≡ word_here t
word_token r t len k same len_is is_kind =
    let word = take_while is_word_byte r in
    let behind = drop (prefix_len is_word_byte r) r in
    let stays = if_true (is_allowed (kind_of word behind) (drop (length word) r)) (lexeme.Token (kind_of word behind) (length word)) _
    (kind_allowed word behind (drop (length word) r)) in
    let kind_is : kind_of word behind ≡ k = ap (λ n. kind_of (take n r) (drop n r)) (sym len_is) ∙ is_kind in
    let here : lexeme.Token k len ≡ word_here r =
    ap (λ x. lexeme.Token x len) (sym kind_is) ∙ ap (lexeme.Token (kind_of word behind)) (len_is ∙ sym (length-prefix_len is_word_byte r)) ∙ sym stays in
    subst (λ x. lexeme.Token k len ≡ word_here x) same here

pub reserved_token : (r t : List ℕ) (len : ℕ) (k : Kind) (o : Option Kind) → r ≡ t → len ≡ prefix_len is_word_byte r
    → o ≡ kind_in reserved (take len r) → o ≡ Some k → lexeme.Token k len ≡ word_here t
reserved_token r t len k o same len_is table found =
    word_token r t len k same len_is (ap (λ x. unwrap_or x (named (take len r) (drop len r))) (sym table ∙ found))

pub name_token : (r t name : List ℕ) (len : ℕ) (k : Kind) (o : Option Kind) → r ≡ t → len ≡ prefix_len is_word_byte r
    → o ≡ kind_in reserved (take len r) → o ≡ None → name ≡ take len r → k ≡ named name (drop len r)
    → lexeme.Token k len ≡ word_here t
name_token r t name len k o same len_is table found name_is k_is =
    word_token r t len k same len_is
    (ap (λ x. unwrap_or x (named (take len r) (drop len r))) (sym table ∙ found) ∙ ap (λ w. named w (drop len r)) (sym name_is) ∙ sym k_is)

pub not_some_is : {A : Type 0} (o : Option A) → ((x : A) → o ≡ Some x → ⊥) → o ≡ None
not_some_is None h = refl
not_some_is (Some x) h = absurd (h x refl)

-- the bytes between two delimiters, cut from the text
body_cut : (text body : List ℕ) (at len : ℕ) → body ≡ drop (at + 1) (take (at + 1 + len) text) → body ≡ take len (drop 1 (drop at text))
body_cut text body at len is = is ∙ drop-take (at + 1) len text ∙ ap (take len) (sym (drop-drop 1 at text))

-- the string in front
abbrev string_here : List ℕ → Lexeme
string_here t = token_lexeme t (found_string (drop 1 t) (body_len 34 false (drop 1 t)))

pub string_token : (text body bytes : List ℕ) (at len : ℕ) (o : Option (List ℕ)) → Some len ≡ body_len 34 false (drop 1 (drop at text))
    → body ≡ drop (at + 1) (take (at + 1 + len) text) → o ≡ unescaped body → o ≡ Some bytes
    → lexeme.Token (String bytes) (len + 2) ≡ string_here (drop at text)
string_token text body bytes at len o closed body_is value found =
    let is_value : unescaped (take len (drop 1 (drop at text))) ≡ Some bytes = ap unescaped (sym (body_cut text body at len body_is)) ∙ sym value ∙ found in
    sym (ap (λ x. token_lexeme (drop at text) (found_string (drop 1 (drop at text)) x)) (sym closed)
    ∙ ap (λ x. token_lexeme (drop at text) (closed_string len x)) is_value)

pub refused_string : (text body : List ℕ) (at len : ℕ) (o : Option (List ℕ)) → Some len ≡ body_len 34 false (drop 1 (drop at text))
    → body ≡ drop (at + 1) (take (at + 1 + len) text) → o ≡ unescaped body → o ≡ None
    → lexeme.Fault EscapeRefused ≡ string_here (drop at text)
refused_string text body at len o closed body_is value found =
    let no_value : unescaped (take len (drop 1 (drop at text))) ≡ None = ap unescaped (sym (body_cut text body at len body_is)) ∙ sym value ∙ found in
    sym (ap (λ x. token_lexeme (drop at text) (found_string (drop 1 (drop at text)) x)) (sym closed)
    ∙ ap (λ x. token_lexeme (drop at text) (closed_string len x)) no_value)

pub ere_token : (text body : List ℕ) (at len : ℕ) → Some len ≡ body_len 47 false (drop 1 (drop at text)) → body ≡ drop (at + 1) (take (at + 1 + len) text)
    → lexeme.Token (Ere body) (len + 2) ≡ token_lexeme (drop at text) (found_ere (drop 1 (drop at text)) (body_len 47 false (drop 1 (drop at text))))
ere_token text body at len closed body_is =
    ap (λ x. lexeme.Token (Ere x) (len + 2)) (body_cut text body at len body_is)
    ∙ ap (λ x. token_lexeme (drop at text) (found_ere (drop 1 (drop at text)) x)) closed

pub punctuator_first : (d : Bool) (text : List ℕ) (s : Lexeme) → gap_len text ≡ 0 → is_name_start (slice_index text 0) ≡ false → is_ascii_digit (slice_index text 0) ≡ false
    → (slice_index text 0 ≡ 34 → ⊥) → (slice_index text 0 ≡ 47 → ⊥) → s ≡ token_lexeme text (punctuator_at punctuators text) → s ≡ lexeme_of d text
punctuator_first d text s g letter digit no_quote no_slash e =
    let b = slice_index text 0 in
    e ∙ ap (token_lexeme text) (sym (if_false (is_name_start b) _ _ letter ∙ if_false (is_ascii_digit b) _ _ digit
    ∙ if_false (eqb b 34) _ _ (ne_eqb b 34 no_quote) ∙ if_false (eqb b 47) _ _ (ne_eqb b 47 no_slash))) ∙ sym (lexeme_without_gap d text g)

-- ---- punctuators

-- the first byte alone
abbrev short_here : ℕ → List ℕ → Lexeme
short_here b rest = token_lexeme (b ∷ rest) (short_punctuator (kind_in punctuators (b ∷ [])))

pub short_token : (b : ℕ) (rest : List ℕ) (k : Kind) → Some k ≡ kind_in punctuators (b ∷ []) → lexeme.Token k 1 ≡ short_here b rest
short_token b rest k e =
    sym (if_true (is_allowed k rest) (lexeme.Token k 1) (lexeme.Fault NumberRefused) ((row_is punctuators (b ∷ []) k punctuators_are (sym e)).allowed rest))
    ∙ ap (λ (o : Option Kind). token_lexeme (b ∷ rest) (short_punctuator o)) e

pub short_fault : (b : ℕ) (rest : List ℕ) → None ≡ kind_in punctuators (b ∷ []) → lexeme.Fault UnexpectedByte ≡ short_here b rest
short_fault b rest e = ap (λ (o : Option Kind). token_lexeme (b ∷ rest) (short_punctuator o)) e

pub one_byte : (text : List ℕ) (l : Lexeme) → 1 ≤ length text → length text < 2 → ((rest : List ℕ) → l ≡ short_here (get_or text 0 0) rest) → l ≡ token_lexeme text (punctuator_at punctuators text)
one_byte [] l ge lt short = absurd (omega arith)
one_byte (a ∷ []) l ge lt short = short []
one_byte (a ∷ b ∷ rest) l ge lt short = absurd (omega arith)

-- the first two bytes
abbrev long_here : ℕ → ℕ → List ℕ → Option Kind → Lexeme
long_here a b rest o = token_lexeme (a ∷ b ∷ rest) (long_punctuator o (kind_in punctuators (a ∷ [])))

pub long_token : (text : List ℕ) (k : Kind) → 2 ≤ length text → Some k ≡ kind_in punctuators (get_or text 0 0 ∷ get_or text 1 0 ∷ []) → lexeme.Token k 2 ≡ token_lexeme text (punctuator_at punctuators text)
long_token [] k le e = absurd (omega arith)
long_token (a ∷ []) k le e = absurd (omega arith)
long_token (a ∷ b ∷ rest) k le e =
    sym (if_true (is_allowed k rest) (lexeme.Token k 2) (lexeme.Fault NumberRefused) ((row_is punctuators (a ∷ b ∷ []) k punctuators_are (sym e)).allowed rest))
    ∙ ap (long_here a b rest) e

pub no_long_token : (text : List ℕ) (l : Lexeme) → 2 ≤ length text → None ≡ kind_in punctuators (get_or text 0 0 ∷ get_or text 1 0 ∷ []) → ((rest : List ℕ) → l ≡ short_here (get_or text 0 0) rest) → l ≡ token_lexeme text (punctuator_at punctuators text)
no_long_token [] l le e short = absurd (omega arith)
no_long_token (a ∷ []) l le e short = absurd (omega arith)
no_long_token (a ∷ b ∷ rest) l le e short = short (b ∷ rest) ∙ ap (long_here a b rest) e
