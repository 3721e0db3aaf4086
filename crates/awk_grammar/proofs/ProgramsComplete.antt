-- A program that is spelled is read, and so there is one tree.
use Rattle.std.proofs.Common.{◌≡◌, ℕ, zero, suc, Bool, true, false, List, [], ◌∷◌, ◌++◌, Some, refl, sym, ap, ◌∙◌, subst}
use Rattle.awk_lex.specs.declared.token.Kind.{Kind}
use Rattle.awk_lex.specs.declared.token.Kind.TheVariants as t
use Rattle.awk_lex.specs.declared.token.Keyword.TheVariants as word
use Rattle.awk_grammar.specs.definitions.Tree as tree
use Rattle.awk_grammar.specs.definitions.Tree.{Statements, NoMore, Pattern, Single, Range, Item, Action, PatternAction, PatternOnly}
use Rattle.awk_grammar.specs.definitions.StatementsAllowed.{StatementsKeepPrecedence, PatternKeepsPrecedence, ItemKeepsPrecedence, ProgramKeepsPrecedence}
use Rattle.awk_grammar.specs.definitions.SpellingOfExpressions.{newlines}
use Rattle.awk_grammar.specs.definitions.Spelling.{SpellsBlock, SpellsPattern, SpellsParameters, function_name, is_closed, SpellsItem, separators, SpellsProgram, IsProgram}
use Rattle.awk_grammar.specs.support.InfixRole.{Ends}
use Rattle.awk_grammar.specs.support.UnlimitedState.{Head, OfBegin, OfEnd, OfNoPattern, OfPattern, OfFunction, Frame, InPattern, InRangeEnd, InAction, InProgram, ParserState, BeforeOperand, AfterOperand, BeforeStatement, BetweenItems, BeforeAction, BeforeParameter}
use Rattle.awk_grammar.specs.support.UnlimitedItems.{make_item}
use Rattle.awk_grammar.specs.support.UnlimitedParser.{answer, read}
use Rattle.awk_grammar.proofs.RightEdges.{next, Stops, precedence_most, stops_end}
use Rattle.awk_grammar.proofs.ExpressionsComplete.{over_newlines, complete}
use Rattle.awk_grammar.proofs.SimpleStatementsComplete.{started, starts_so}
use Rattle.awk_grammar.proofs.StatementsComplete.{begin_newlines, OfAction, join_all, complete_all}

snoc : {A : Type 0} (xs : List A) (x : A) (ys : List A) → ((xs ++ (x ∷ [])) ++ ys) ≡ (xs ++ (x ∷ ys))
snoc [] x ys = refl
snoc (y ∷ xs) x ys = ap (λ z. y ∷ z) (snoc xs x ys)

none : {A : Type 0} (xs : List A) → (xs ++ []) ≡ xs
none [] = refl
none (x ∷ xs) = ap (λ z. x ∷ z) (none xs)

over_separators : (bs : List Bool) (k : List Frame) (ts : List Kind) → answer (BetweenItems k) (separators bs ts) ≡ answer (BetweenItems k) ts
over_separators [] k ts = refl
over_separators (true ∷ bs) k ts = over_separators bs k ts
over_separators (false ∷ bs) k ts = over_separators bs k ts

abbrev at : List Item → List Frame
at done = InProgram done ∷ []

block : (h : Head) (all : Statements) (done : List Item) (u rest : List Kind) → StatementsKeepPrecedence all → (p : SpellsBlock all u rest) → answer (BeforeStatement (InAction h NoMore ∷ at done)) (newlines p.0 p.1) ≡ answer (BetweenItems (at (done ++ (make_item h all ∷ [])))) rest
block h all done u rest l p =
    begin_newlines p.0 (InAction h NoMore ∷ at done) p.1
    ∙ complete_all all (OfAction h) NoMore p.1 (t.CloseBrace ∷ rest) (at done) l p.3
    ∙ ap (λ z. answer (BetweenItems (at (done ++ (make_item h z ∷ [])))) rest) (join_all all)

item_starts : (k : List Frame) (ts : List Kind) → started ts ≡ true → answer (BetweenItems k) ts ≡ answer (BeforeOperand false false (InPattern ∷ k)) ts
item_starts k [] h = absurd (cc)
item_starts k (t.Semicolon ∷ ts) h = absurd (cc)
item_starts k (t.Newline ∷ ts) h = absurd (cc)
item_starts k (t.Keyword word.Begin ∷ ts) h = absurd (cc)
item_starts k (t.Keyword word.End ∷ ts) h = absurd (cc)
item_starts k (t.Keyword word.Function ∷ ts) h = absurd (cc)
item_starts k (t.OpenBrace ∷ ts) h = absurd (cc)
item_starts k (y ∷ ts) h = refl

abbrev matched : Pattern → List Frame → ParserState
matched (Single e) k = AfterOperand false e (InPattern ∷ k)
matched (Range d e) k = AfterOperand false e (InRangeEnd d ∷ k)

pattern_read : (p : Pattern) (ts v : List Kind) (k : List Frame) → PatternKeepsPrecedence p → SpellsPattern p ts v → next false v ≡ Ends → answer (BetweenItems k) ts ≡ answer (matched p k) v
pattern_read (Single e) ts v k l p n =
    item_starts k ts (starts_so e ts v p)
    ∙ complete e ts v false false (InPattern ∷ k) l p (precedence_most e) (subst (λ x. Stops x e) (sym n) (stops_end false e l))
pattern_read (Range d e) ts v k l p n =
    item_starts k ts (starts_so d ts (t.Comma ∷ newlines p.0 p.1) p.2)
    ∙ complete d ts (t.Comma ∷ newlines p.0 p.1) false false (InPattern ∷ k) l.0 p.2 (precedence_most d) (stops_end false d l.0)
    ∙ over_newlines p.0 false (InRangeEnd d ∷ k) p.1
    ∙ complete e p.1 v true false (InRangeEnd d ∷ k) l.1 p.3 (precedence_most e) (subst (λ x. Stops x e) (sym n) (stops_end false e l.1))

ruled : (p : Pattern) (k : List Frame) (ts : List Kind) → answer (matched p k) (t.OpenBrace ∷ ts) ≡ answer (BeforeStatement (InAction (OfPattern p) NoMore ∷ k)) ts
ruled (Single e) k ts = refl
ruled (Range d e) k ts = refl

parted_role : (v : List Kind) → is_closed v ≡ true → next false v ≡ Ends
parted_role [] h = refl
parted_role (t.Semicolon ∷ v) h = refl
parted_role (t.Newline ∷ v) h = refl
parted_role (y ∷ v) h = absurd (cc)

short : (p : Pattern) (done : List Item) (v : List Kind) → is_closed v ≡ true → answer (matched p (at done)) v ≡ answer (BetweenItems (at (done ++ (PatternOnly p ∷ [])))) v
short (Single e) done [] h = refl
short (Single e) done (t.Semicolon ∷ v) h = refl
short (Single e) done (t.Newline ∷ v) h = refl
short (Single e) done (y ∷ v) h = absurd (cc)
short (Range d e) done [] h = refl
short (Range d e) done (t.Semicolon ∷ v) h = refl
short (Range d e) done (t.Newline ∷ v) h = refl
short (Range d e) done (y ∷ v) h = absurd (cc)

over_parameter : (n : ℕ) (f : List ℕ) (xs : List (List ℕ)) (k : List Frame) (ts : List Kind) → answer (BeforeParameter f true xs k) (newlines n ts) ≡ answer (BeforeParameter f true xs k) ts
over_parameter zero f xs k ts = refl
over_parameter (suc n) f xs k ts = over_parameter n f xs k ts

names : (f : List ℕ) (x : List ℕ) (xs done : List (List ℕ)) (b : Bool) (k : List Frame) (u v : List Kind) → SpellsParameters (x ∷ xs) u (t.CloseParenthesis ∷ v) → answer (BeforeParameter f b done k) u ≡ answer (BeforeAction (OfFunction f (done ++ (x ∷ xs))) true k) v
names f x [] done b k u v p = ap (answer (BeforeParameter f b done k)) p
names f x (y ∷ ys) done b k u v p =
    ap (answer (BeforeParameter f b done k)) p.2 ∙ over_parameter p.0 f (done ++ (x ∷ [])) k p.1
    ∙ names f y ys (done ++ (x ∷ [])) true k p.1 v p.3
    ∙ ap (λ z. answer (BeforeAction (OfFunction f z) true k) v) (snoc done x (y ∷ ys))

all_names : (f : List ℕ) (xs : List (List ℕ)) (k : List Frame) (u v : List Kind) → SpellsParameters xs u (t.CloseParenthesis ∷ v) → answer (BeforeParameter f false [] k) u ≡ answer (BeforeAction (OfFunction f xs) true k) v
all_names f [] k u v p = ap (answer (BeforeParameter f false [] k)) p
all_names f (x ∷ xs) k u v p = names f x xs [] false k u v p

over_brace : (n : ℕ) (h : Head) (k : List Frame) (ts : List Kind) → answer (BeforeAction h true k) (newlines n ts) ≡ answer (BeforeAction h true k) ts
over_brace zero h k ts = refl
over_brace (suc n) h k ts = over_brace n h k ts

defines : (b : Bool) (f : List ℕ) (k : List Frame) (u : List Kind) → answer (BetweenItems k) (t.Keyword word.Function ∷ function_name b f ∷ t.OpenParenthesis ∷ u) ≡ answer (BeforeParameter f false [] k) u
defines true f k u = refl
defines false f k u = refl

item_read : (x : Item) (ts v : List Kind) (done : List Item) → ItemKeepsPrecedence x → SpellsItem x ts v → answer (BetweenItems (at done)) ts ≡ answer (BetweenItems (at (done ++ (x ∷ [])))) v
item_read (tree.Begin all) ts v done l p =
    ap (answer (BetweenItems (at done))) p.1 ∙ ap (answer (BeforeAction OfBegin false (at done))) p.2.2 ∙ block OfBegin all done p.0 v l p.2
item_read (tree.End all) ts v done l p =
    ap (answer (BetweenItems (at done))) p.1 ∙ ap (answer (BeforeAction OfEnd false (at done))) p.2.2 ∙ block OfEnd all done p.0 v l p.2
item_read (Action all) ts v done l p = ap (answer (BetweenItems (at done))) p.2 ∙ block OfNoPattern all done ts v l p
item_read (PatternAction q all) ts v done l p =
    pattern_read q ts p.0 (at done) l.0 p.1 (ap (next false) p.2.2) ∙ ap (answer (matched q (at done))) p.2.2
    ∙ ruled q (at done) (newlines p.2.0 p.2.1) ∙ block (OfPattern q) all done p.0 v l.1 p.2
item_read (PatternOnly q) ts v done l p = pattern_read q ts v (at done) l p.0 (parted_role v p.1) ∙ short q done v p.1
item_read (tree.Function f xs all) ts v done l p =
    ap (answer (BetweenItems (at done))) p.4 ∙ defines p.0 f (at done) p.2 ∙ all_names f xs (at done) p.2 (newlines p.1 p.3) p.5
    ∙ over_brace p.1 (OfFunction f xs) (at done) p.3 ∙ ap (answer (BeforeAction (OfFunction f xs) true (at done))) p.6.2
    ∙ block (OfFunction f xs) all done p.3 v l p.6

items_read : (xs done : List Item) (ts : List Kind) → ProgramKeepsPrecedence xs → SpellsProgram xs ts → answer (BetweenItems (at done)) ts ≡ Some (done ++ xs)
items_read [] done ts l p = ap (answer (BetweenItems (at done))) p.1 ∙ over_separators p.0 (at done) [] ∙ ap (λ z. Some z) (sym (none done))
items_read (x ∷ xs) done ts l p =
    ap (answer (BetweenItems (at done))) p.3 ∙ over_separators p.0 (at done) p.1 ∙ item_read x p.1 p.2 done l.0 p.4
    ∙ items_read xs (done ++ (x ∷ [])) p.2 l.1 p.5 ∙ ap (λ z. Some z) (snoc done x xs)

-- what is spelled so and keeps precedence is read
pub reads : (ts : List Kind) (xs : List Item) → IsProgram ts xs → read ts ≡ Some xs
reads ts xs p = items_read xs [] ts p.1 p.0

-- tokens have at most one tree
pub one_tree : (ts : List Kind) (xs ys : List Item) → IsProgram ts xs → IsProgram ts ys → xs ≡ ys
one_tree ts xs ys p q =
    let x = reads ts xs p in
    let y = reads ts ys q in
    cc
