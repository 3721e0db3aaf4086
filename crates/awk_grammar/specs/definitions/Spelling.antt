-- How a program is written (POSIX awk, Grammar: program, item_list, item).
use Rattle.std.specs.Prelude.{ℕ, ◌≡◌, Bool, true, false, List, [], ◌∷◌}
use Rattle.awk_lex.specs.declared.token.Kind.{Kind}
use Rattle.awk_lex.specs.declared.token.Kind.TheVariants as t
use Rattle.awk_lex.specs.declared.token.Keyword.TheVariants as word
use Rattle.awk_grammar.specs.definitions.Tree.{Statements, Pattern, Single, Range, Item, Action, PatternAction, PatternOnly}
use Rattle.awk_grammar.specs.definitions.Tree as tree
use Rattle.awk_grammar.specs.definitions.StatementsAllowed.{ProgramKeepsPrecedence}
use Rattle.awk_grammar.specs.definitions.SpellingOfExpressions.{newlines, Spells}
use Rattle.awk_grammar.specs.definitions.SpellingOfStatements.{SpellsAll}

-- action
abbrev pub SpellsBlock : Statements → List Kind → List Kind → Type 0
SpellsBlock all ts rest = (n : ℕ) × (u : List Kind) × (ts ≡ t.OpenBrace ∷ newlines n u) × SpellsAll all u (t.CloseBrace ∷ rest)

-- normal_pattern: expr, expr ',' newline_opt expr
abbrev pub SpellsPattern : Pattern → List Kind → List Kind → Type 0
SpellsPattern (Single e) ts rest = Spells e ts rest
SpellsPattern (Range d e) ts rest = (n : ℕ) × (u : List Kind) × Spells d ts (t.Comma ∷ newlines n u) × Spells e u rest

-- param_list_opt; wider: newline_opt may follow each comma
abbrev pub SpellsParameters : List (List ℕ) → List Kind → List Kind → Type 0
SpellsParameters [] ts rest = ts ≡ rest
SpellsParameters (x ∷ []) ts rest = ts ≡ t.Name x ∷ rest
SpellsParameters (x ∷ xs) ts rest = (n : ℕ) × (u : List Kind) × (ts ≡ t.Name x ∷ t.Comma ∷ newlines n u) × SpellsParameters xs u rest

-- FUNC_NAME, where `(` stands directly behind it, or NAME
abbrev pub function_name : Bool → List ℕ → Kind
function_name true f = t.Called f
function_name false f = t.Name f

-- a terminator follows, or the text ends
abbrev pub is_closed : List Kind → Bool
is_closed [] = true
is_closed (t.Semicolon ∷ ts) = true
is_closed (t.Newline ∷ ts) = true
is_closed (y ∷ ts) = false

-- item
abbrev pub SpellsItem : Item → List Kind → List Kind → Type 0
-- special_pattern action: Begin, End
SpellsItem (tree.Begin all) ts rest = (u : List Kind) × (ts ≡ t.Keyword word.Begin ∷ u) × SpellsBlock all u rest
SpellsItem (tree.End all) ts rest = (u : List Kind) × (ts ≡ t.Keyword word.End ∷ u) × SpellsBlock all u rest
-- action
SpellsItem (Action all) ts rest = SpellsBlock all ts rest
-- normal_pattern action
SpellsItem (PatternAction p all) ts rest = (u : List Kind) × SpellsPattern p ts u × SpellsBlock all u rest
-- normal_pattern
SpellsItem (PatternOnly p) ts rest = SpellsPattern p ts rest × (is_closed rest ≡ true)
-- Function FUNC_NAME '(' param_list_opt ')' newline_opt action
SpellsItem (tree.Function f xs all) ts rest = (called : Bool) × (n : ℕ) × (u v : List Kind) × (ts ≡ t.Keyword word.Function ∷ function_name called f ∷ t.OpenParenthesis ∷ u) × SpellsParameters xs u (t.CloseParenthesis ∷ newlines n v) × SpellsBlock all v rest

-- terminators: `;` and newlines
abbrev pub separators : List Bool → List Kind → List Kind
separators [] ts = ts
separators (true ∷ bs) ts = t.Semicolon ∷ separators bs ts
separators (false ∷ bs) ts = t.Newline ∷ separators bs ts

-- program: an item_list, with terminators before, between and behind the items. Wider: several may stand together, and
-- behind an item that ends in a block none is needed.
abbrev pub SpellsProgram : List Item → List Kind → Type 0
SpellsProgram [] ts = (bs : List Bool) × (ts ≡ separators bs [])
SpellsProgram (x ∷ xs) ts = (bs : List Bool) × (u v : List Kind) × (ts ≡ separators bs u) × SpellsItem x u v × SpellsProgram xs v

-- the items are a tree of the grammar that these tokens spell
abbrev pub IsProgram : List Kind → List Item → Type 0
IsProgram ts items = SpellsProgram items ts × ProgramKeepsPrecedence items
