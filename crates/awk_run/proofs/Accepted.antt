-- From a text's tokens and their tree to its program.
use Rattle.std.proofs.Common.{◌≡◌, ◌⊎◌, inl, inr, ℕ, ◌≤◌, true, false, List, [], ◌∷◌, length, Some, None, Ok, Err, refl, sym, ap, ◌∙◌, subst}
use Rattle.std.proofs.lemmas.Bool.{cases_Bool}
use Rattle.awk_lex.specs.declared.token.Kind.{Kind}
use Rattle.awk_lex.specs.declared.token.Token.{Token}
use Rattle.awk_lex.specs.declared.refusal.Refusal.{Refusal}
use Rattle.awk_lex.specs.declared.refusal.RefusalCode.{RefusalCode}
use Rattle.awk_lex.specs.declared.refusal.RefusalCode.TheVariants.{UnexpectedByte, OpenString, OpenPattern, EscapeRefused, NumberRefused, ProgramTooLong, NotAProgram, NestedTooDeep, PatternIllFormed, PatternCountRefused, PatternTooLarge, ArrayAndScalar, UnknownFunction, DefinedTwice, TooManyArguments, ParameterRefused, StatementOutOfPlace, NameLeftOut, FunctionAsVariable, OutOfMemory}
use Rattle.awk_lex.specs.Refused.{IsOutOfMemory}
use Rattle.awk_lex.specs.Lexes.{Lexes}
use Rattle.awk_lex.specs.Told.{Refuses, kinds_of as token_kinds_of}
use Rattle.awk_grammar.specs.Tree.{Item}
use Rattle.awk_grammar.specs.Spelling.{IsProgram}
use Rattle.awk_grammar.specs.View.{tree_of}
use Rattle.awk_grammar.specs.declared.tree.Tree.{Tree}
use Rattle.awk_syntax.specs.Outcome.{Reads, IsProgramWithinHeight, RefusesPattern, Justifies}
use Rattle.awk_syntax.specs.Patterns.{AreReadable}
use Rattle.awk_kinds.specs.definitions.Fits.{holds, first_of, in_order, first_refusal, LawOfRefusals}
use Rattle.awk_kinds.specs.definitions.Signatures.{Resolves}
use Rattle.awk_run.specs.definitions.Accepted.{longest_text, IsSpelled, HasBadEre, DoesNotFit, Accepted, RefusedFor}

-- the tree of a text

pub spelled : (text : List ℕ) (tokens : List Kind) (items : List Item) → length text ≤ longest_text → Lexes tokens text → IsProgramWithinHeight tokens items → AreReadable tokens → IsSpelled text tokens items
spelled text tokens items short lexes found readable = record { has = record { short = short; lexes = lexes }; spells = found.0; low = found.1; readable = readable }

-- a text has these tokens alone
abbrev pub HasOne : List ℕ → List Kind → Type 0
HasOne text tokens = (ts : List Kind) → Lexes ts text → length text ≤ longest_text → tokens ≡ ts

within : (text : List ℕ) (tokens ts : List Kind) (items : List Item) → tokens ≡ ts → IsSpelled text ts items → IsProgramWithinHeight tokens items × AreReadable tokens
within text tokens ts items same s = (subst (λ us. IsProgramWithinHeight us items) (sym same) (s.spells, s.low), subst AreReadable (sym same) s.readable)

-- a text that is refused as its tokens are read as a tree is no program
pub none_read : (refusal : Refusal) (text : List ℕ) (tokens : List Kind) → HasOne text tokens
    → ((items : List Item) → IsProgramWithinHeight tokens items → AreReadable tokens → Reads (Err refusal) items)
    → (items : List Item) → Accepted text items → IsOutOfMemory refusal
none_read refusal text tokens one only items a =
    let w = within text tokens a.tokens items (one a.tokens a.spelled.has.lexes a.spelled.has.short) a.spelled in
    only items w.0 w.1

-- a text that is read as a tree is no other program
same_read : (text : List ℕ) (tokens : List Kind) (tree : Tree) → HasOne text tokens
    → ((items : List Item) → IsProgramWithinHeight tokens items → AreReadable tokens → Reads (Ok tree) items)
    → (items : List Item) → Accepted text items → tree_of tree ≡ items
same_read text tokens tree one only items a =
    let w = within text tokens a.tokens items (one a.tokens a.spelled.has.lexes a.spelled.has.short) a.spelled in
    only items w.0 w.1

none_some : {A B : Type 0} {x : A} → None ≡ Some x → B
none_some e = absurd (cc)

-- a tree of which something is told is no program
pub none_fits : ((items : List Item) → LawOfRefusals items) → (refusal : Refusal) (text : List ℕ) (tokens : List Kind) (tree : Tree) → HasOne text tokens
    → ((items : List Item) → IsProgramWithinHeight tokens items → AreReadable tokens → Reads (Ok tree) items)
    → Resolves (tree_of tree) (Err refusal) → (items : List Item) → Accepted text items → IsOutOfMemory refusal
none_fits law refusal text tokens tree one only h items a = elim h [
  | inl m ↦ m
  | inr told ↦
      let same = same_read text tokens tree one only items a in
      none_some (sym ((law items).none a.fits) ∙ (ap first_refusal (sym same) ∙ told.0))
]

-- a text is one program at most, where it has one list of tokens and they have one tree
pub one_program : (text : List ℕ) (xs ys : List Item) → ((ts us : List Kind) → Lexes ts text → Lexes us text → ts ≡ us)
    → ((tokens : List Kind) (ps qs : List Item) → IsProgram tokens ps → IsProgram tokens qs → ps ≡ qs)
    → Accepted text xs → Accepted text ys → xs ≡ ys
one_program text xs ys one_lexing one_tree a b =
    let same = one_lexing a.tokens b.tokens a.spelled.has.lexes b.spelled.has.lexes in
    one_tree b.tokens xs ys (subst (λ ts. IsProgram ts xs) same a.spelled.spells) b.spelled.spells

-- why a program doesn't fit

same_code : (a b : RefusalCode) → Some a ≡ Some b → a ≡ b
same_code a b e = cc

first_holds : (codes' : List RefusalCode) (items : List Item) (code : RefusalCode) → first_of codes' items ≡ Some code → holds code items ≡ true
first_holds [] items code e = absurd (cc)
first_holds (x ∷ xs) items code e = elim (cases_Bool (holds x items)) [
  | inl is_so ↦ let is : first_of (x ∷ xs) items ≡ Some x = rw is_so refl in subst (λ y. holds y items ≡ true) (same_code x code (sym is ∙ e)) is_so
  | inr not_so ↦ let is : first_of (x ∷ xs) items ≡ first_of xs items = rw not_so refl in first_holds xs items code (sym is ∙ e)
]

not_among : (code : RefusalCode) (items : List Item) → holds code items ≡ false → first_refusal items ≡ Some code → ⊥
not_among code items failed e = let clash : false ≡ true = sym failed ∙ first_holds in_order items code e in absurd (cc)

does_not_fit : (code : RefusalCode) (text : List ℕ) → DoesNotFit code text → RefusedFor code text
does_not_fit UnknownFunction text n = n
does_not_fit DefinedTwice text n = n
does_not_fit TooManyArguments text n = n
does_not_fit ParameterRefused text n = n
does_not_fit StatementOutOfPlace text n = n
does_not_fit NameLeftOut text n = n
does_not_fit FunctionAsVariable text n = n
does_not_fit ArrayAndScalar text n = n
does_not_fit OutOfMemory text n = tt
does_not_fit ProgramTooLong text n = absurd (not_among ProgramTooLong n.1 refl n.3)
does_not_fit UnexpectedByte text n = absurd (not_among UnexpectedByte n.1 refl n.3)
does_not_fit OpenString text n = absurd (not_among OpenString n.1 refl n.3)
does_not_fit OpenPattern text n = absurd (not_among OpenPattern n.1 refl n.3)
does_not_fit EscapeRefused text n = absurd (not_among EscapeRefused n.1 refl n.3)
does_not_fit NumberRefused text n = absurd (not_among NumberRefused n.1 refl n.3)
does_not_fit NotAProgram text n = absurd (not_among NotAProgram n.1 refl n.3)
does_not_fit NestedTooDeep text n = absurd (not_among NestedTooDeep n.1 refl n.3)
does_not_fit PatternIllFormed text n = absurd (not_among PatternIllFormed n.1 refl n.3)
does_not_fit PatternCountRefused text n = absurd (not_among PatternCountRefused n.1 refl n.3)
does_not_fit PatternTooLarge text n = absurd (not_among PatternTooLarge n.1 refl n.3)

pub resolving_refused : (refusal : Refusal) (text : List ℕ) (tokens : List Kind) (items : List Item) → IsSpelled text tokens items → Resolves items (Err refusal) → RefusedFor refusal.code text
resolving_refused refusal text tokens items s h = elim h [
  | inl m ↦ subst (λ c. RefusedFor c text) (sym m) tt
  | inr told ↦ does_not_fit refusal.code text (tokens, items, s, told.0)
]

-- the other refusals

refused_as : (code : RefusalCode) (text : List ℕ) → Refuses code text → RefusedFor code text
refused_as ProgramTooLong text why = why
refused_as UnexpectedByte text why = why
refused_as OpenString text why = why
refused_as OpenPattern text why = why
refused_as EscapeRefused text why = why
refused_as NumberRefused text why = why
refused_as OutOfMemory text why = tt
refused_as code text why = absurd why.1.fault

of_memory : (code : RefusalCode) (text : List ℕ) → code ≡ OutOfMemory → RefusedFor code text
of_memory code text e = subst (λ c. RefusedFor c text) (sym e) tt

pub lexing_refused : (refusal : Refusal) (text : List ℕ) → (IsOutOfMemory refusal ⊎ Refuses refusal.code text) → RefusedFor refusal.code text
lexing_refused refusal text (inl e) = of_memory refusal.code text e
lexing_refused refusal text (inr why) = refused_as refusal.code text why

abbrev Refusing : List ℕ → List Token → Type 0
Refusing text tokens = (length text ≤ longest_text) × Lexes (token_kinds_of tokens) text

has_bad_ere : (code : RefusalCode) (line : ℕ) (text : List ℕ) (tokens : List Token) → Refusing text tokens → RefusesPattern code line tokens → HasBadEre code text
has_bad_ere code line text tokens h why =
    (token_kinds_of tokens, record { short = h.0; lexes = h.1 }, (why.0.0, why.0.1.0, why.0.1.1), why.1.refuses)

justified : (code : RefusalCode) (line : ℕ) (text : List ℕ) (tokens : List Token) → Refusing text tokens → Justifies code line tokens → RefusedFor code text
justified NotAProgram line text tokens h why = (token_kinds_of tokens, record { short = h.0; lexes = h.1 }, why)
justified NestedTooDeep line text tokens h why = (token_kinds_of tokens, record { short = h.0; lexes = h.1 }, why)
justified PatternIllFormed line text tokens h why = has_bad_ere PatternIllFormed line text tokens h why
justified PatternCountRefused line text tokens h why = has_bad_ere PatternCountRefused line text tokens h why
justified PatternTooLarge line text tokens h why = has_bad_ere PatternTooLarge line text tokens h why
justified OutOfMemory line text tokens h why = tt
justified code line text tokens h why = absurd why

pub parsing_refused : (refusal : Refusal) (text : List ℕ) (tokens : List Token) → length text ≤ longest_text → Lexes (token_kinds_of tokens) text → Justifies refusal.code refusal.line tokens → RefusedFor refusal.code text
parsing_refused refusal text tokens short lexes why = justified refusal.code refusal.line text tokens (short, lexes) why
