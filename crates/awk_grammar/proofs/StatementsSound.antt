-- What it makes of the tokens of statements and items is, too.
use Rattle.std.proofs.Common.{◌≡◌, ℕ, suc, ◌≤◌, Bool, true, false, List, [], ◌∷◌, ◌++◌, refl, sym, ap, ◌∙◌, subst, arith}
use Rattle.awk_lex.specs.declared.token.Kind.{Kind}
use Rattle.awk_grammar.specs.declared.tree.PrintForm.{PrintForm}
use Rattle.awk_lex.specs.declared.token.Kind.TheVariants as t
use Rattle.awk_lex.specs.declared.token.Keyword.TheVariants as word
use Rattle.awk_lex.specs.declared.token.Operator.TheVariants as operator
use Rattle.awk_grammar.specs.declared.tree.PrintForm.TheVariants as form
use Rattle.awk_grammar.specs.definitions.Tree as tree
use Rattle.awk_grammar.specs.definitions.Tree.{Expr, Name, Membership, Exprs, Nil, OptionalExpr, NoExpr, PrintList, Bare, Standard, SimpleStatement, OptionalSimple, Statement, Simple, If, IfElse, While, ForIn, For, Statements, NoMore, Then, Pattern, Single, Item, PatternOnly}
use Rattle.awk_grammar.specs.definitions.Arguments.{count}
use Rattle.awk_grammar.specs.definitions.OperandsAllowed.{KeepsPrecedence}
use Rattle.awk_grammar.specs.definitions.StatementsAllowed.{least_count, PrintListKeepsPrecedence, SimpleKeepsPrecedence, StatementKeepsPrecedence, StatementsKeepPrecedence, PatternKeepsPrecedence, ItemKeepsPrecedence, ProgramKeepsPrecedence}
use Rattle.awk_grammar.specs.definitions.SpellingOfExpressions.{newlines, Spells}
use Rattle.awk_grammar.specs.definitions.SpellingOfStatements.{print_token, SpellsPrintList, SpellsSimple, Ended, BySemicolon, ByNewline, ByBrace, NoElse, SpellsStatement, SpellsAll}
use Rattle.awk_grammar.specs.definitions.Spelling.{SpellsPattern, SpellsParameters, SpellsItem, separators}
use Rattle.awk_grammar.specs.support.Nodes.{push}
use Rattle.awk_grammar.specs.support.InfixRole.{is_else}
use Rattle.awk_grammar.specs.support.UnlimitedState.{Head, OfBegin, OfEnd, OfNoPattern, OfPattern, OfFunction, Frame, InExpression, InPrint, InExit, InReturn, InForFirst, InForCondition, InForLast, InBlock, InIfBody, InElseBody, InWhileBody, InDoBody, InForInBody, InForBody, InPattern, InAction, InProgram, AfterExit, AfterReturn, BeforeForFirst, BeforeForCondition, BeforeForLast, BeforeStatement, BetweenItems, BeforeAction, AfterFunction, BeforeParameter, AfterParameter}
use Rattle.awk_grammar.specs.support.UnlimitedItems.{make_item, end_item, after_pattern, after_pattern_expr, start_item, before_action, after_function, before_parameter, after_parameter}
use Rattle.awk_grammar.specs.support.UnlimitedStatements.{close_block, start_part, start_statement, after_do_body, end_statement, end_simple_statement, end_for_first, end_for_last, end_simple, end_print_list, after_delete_subscript, after_print_expr, after_print, after_exit, before_for_first, before_for_condition, before_for_last, after_statement}
use Rattle.awk_grammar.proofs.StatementsComplete.{ground}
use Rattle.awk_grammar.proofs.ParserInvariant.{NamesBefore, filled, SpellsHead, HeadKeepsPrecedence, SpellsItems, Stacked, Said, Made, Waits, Holds}
use Rattle.awk_grammar.proofs.OperandsSound.{by_test, starts_operand, Listing, before}

never : {A : Type 0} (b : Bool) → b ≡ true → b ≡ false → A
never true h i = absurd (cc)
never false h i = absurd (cc)

abbrev pub is_newline : Kind → Bool
is_newline t.Newline = true
is_newline y = false

-- a statement up to here
pub record Spelt (x : Statement) (k : List Frame) (all here : List Kind) : Type 0 where
  pub from : List Kind
  pub below : Stacked false k all from
  pub spelled : SpellsStatement x from here
  pub keeps : StatementKeepsPrecedence x

pub record MadeItem (x : Item) (k : List Frame) (all here : List Kind) : Type 0 where
  pub from : List Kind
  pub below : Stacked false k all from
  pub spelled : SpellsItem x from here
  pub keeps : ItemKeepsPrecedence x

all_snoc : (made : Statements) (x : Statement) (v u rest : List Kind) → SpellsAll made v u → SpellsStatement x u rest → SpellsAll (push made x) v rest
all_snoc NoMore x v u rest p q = (rest, subst (λ z. SpellsStatement x z rest) (sym p) q, refl)
all_snoc (Then y made) x v u rest p q = (p.0, p.1, all_snoc made x p.0 u rest p.2 q)

all_keep : (made : Statements) (x : Statement) → StatementsKeepPrecedence made → StatementKeepsPrecedence x → StatementsKeepPrecedence (push made x)
all_keep NoMore x l n = (n, tt)
all_keep (Then y made) x l n = (l.0, all_keep made x l.1 n)

pub items_snoc : (xs : List Item) (x : Item) (ts u v rest : List Kind) (bs : List Bool) → SpellsItems xs ts u → SpellsItem x u v → v ≡ separators bs rest → SpellsItems (xs ++ (x ∷ [])) ts rest
items_snoc [] x ts u v rest bs p q e = (p.0, u, v, p.1, q, (bs, e))
items_snoc (y ∷ xs) x ts u v rest bs p q e = (p.0, p.1, p.2, p.3, p.4, items_snoc xs x p.2 u v rest bs p.5 q e)

pub items_keep : (xs : List Item) (x : Item) → ProgramKeepsPrecedence xs → ItemKeepsPrecedence x → ProgramKeepsPrecedence (xs ++ (x ∷ []))
items_keep [] x l n = (n, tt)
items_keep (y ∷ xs) x l n = (l.0, items_keep xs x l.1 n)

separators_join : (xs bs : List Bool) (r : List Kind) → separators xs (separators bs r) ≡ separators (xs ++ bs) r
separators_join [] bs r = refl
separators_join (true ∷ xs) bs r = ap (λ z. t.Semicolon ∷ z) (separators_join xs bs r)
separators_join (false ∷ xs) bs r = ap (λ z. t.Newline ∷ z) (separators_join xs bs r)

-- an item is read, and separators behind it
pub betweens : (x : Item) (k : List Frame) (all here rest : List Kind) (first : List Bool) → here ≡ separators first rest → MadeItem x k all here → Holds (end_item x k) all rest
betweens x (InProgram made ∷ k) all here rest first q p =
    let b = p.below in
    λ bs r e. (b.0, b.1, items_snoc made x b.0 p.from here r (first ++ bs) b.2 p.spelled (q ∙ ap (separators first) e ∙ separators_join first bs r), items_keep made x b.3 p.keeps)
betweens x [] all here rest first q p = tt
betweens x (f ∷ k) all here rest first q p = tt

closes_action : (head : Head) (made : Statements) (k : List Frame) (all rest : List Kind) → Stacked false (InAction head made ∷ k) all (t.CloseBrace ∷ rest) → MadeItem (make_item head made) k all rest
closes_action OfBegin made k all rest b =
    record { from = b.1; below = b.3; spelled = (t.OpenBrace ∷ newlines b.0 b.2, b.4, (b.0, b.2, refl, b.6)); keeps = b.7 }
closes_action OfEnd made k all rest b =
    record { from = b.1; below = b.3; spelled = (t.OpenBrace ∷ newlines b.0 b.2, b.4, (b.0, b.2, refl, b.6)); keeps = b.7 }
closes_action OfNoPattern made k all rest b =
    record { from = b.1; below = b.3; spelled = (b.0, b.2, b.4, b.6); keeps = b.7 }
closes_action (OfPattern e) made k all rest b =
    record { from = b.1; below = b.3; spelled = (t.OpenBrace ∷ newlines b.0 b.2, b.4, (b.0, b.2, refl, b.6)); keeps = (b.5, b.7) }
closes_action (OfFunction f xs) made k all rest b =
    let h = b.4 in
    record { from = b.1; below = b.3; spelled = (h.0, h.1, h.2, t.OpenBrace ∷ newlines b.0 b.2, h.3, h.4, (b.0, b.2, refl, b.6)); keeps = b.7 }

closes_block : (k : List Frame) (all rest : List Kind) → Stacked false k all (t.CloseBrace ∷ rest) → Holds (close_block k) all rest
closes_block (InBlock made ∷ k) all rest b =
    record { from = t.OpenBrace ∷ newlines b.0 b.1; below = b.2; spelled = λ m r e. (b.0, m, b.1, refl, subst (λ z. SpellsAll made b.1 (t.CloseBrace ∷ z)) e b.3); keeps = b.4 }
closes_block (InAction head made ∷ k) all rest b = betweens (make_item head made) k all rest rest [] refl (closes_action head made k all rest b)
closes_block [] all rest b = tt
closes_block (f ∷ k) all rest b = tt

pub begins_part : (y : Kind) (k : List Frame) (all rest : List Kind) → Stacked false k all (y ∷ rest) → Holds (start_part y k) all rest
begins_part (t.Keyword word.Print) k all rest h = h
begins_part (t.Keyword word.Printf) k all rest h = h
begins_part (t.Keyword word.Delete) k all rest h = h
begins_part y k all rest h = starts_operand y false false (InExpression ∷ k) all rest (refl, h)

-- a statement of one word
one_word : (y : Kind) (m : SimpleStatement) (k : List Frame) (all rest : List Kind) → ground k ≡ true → Stacked false k all (y ∷ rest) → SpellsSimple m (y ∷ rest) rest → SimpleKeepsPrecedence m → Said m k all rest
one_word y m k all rest g h p l = record { from = y ∷ rest; below = h; spelled = p; keeps = l; allowed = λ z. never (ground k) g z }

begins_at : (y : Kind) (k : List Frame) (all rest : List Kind) → is_newline y ≡ false → ground k ≡ true → Stacked false k all (y ∷ rest) → Holds (start_statement y k) all rest
begins_at t.Newline k all rest n g h = absurd (cc)
begins_at t.Semicolon k all rest n g h =
    record { from = t.Semicolon ∷ rest; below = h; spelled = λ n r e. (n, ap (λ z. t.Semicolon ∷ z) e); keeps = tt }
begins_at t.OpenBrace k all rest n g h = (refl, λ n r e. (n, r, subst (λ z. Stacked false k all (t.OpenBrace ∷ z)) e h, refl, tt))
begins_at t.CloseBrace k all rest n g h = closes_block k all rest h
begins_at (t.Keyword word.Next) k all rest n g h = one_word (t.Keyword word.Next) tree.Next k all rest g h refl tt
begins_at (t.Keyword word.NextFile) k all rest n g h = one_word (t.Keyword word.NextFile) tree.NextFile k all rest g h refl tt
begins_at (t.Keyword word.Break) k all rest n g h = one_word (t.Keyword word.Break) tree.Break k all rest g h refl tt
begins_at (t.Keyword word.Continue) k all rest n g h = one_word (t.Keyword word.Continue) tree.Continue k all rest g h refl tt
begins_at (t.Keyword word.Exit) k all rest n g h = (h, g)
begins_at (t.Keyword word.Return) k all rest n g h = (h, g)
begins_at (t.Keyword word.If) k all rest n g h = λ r e. (refl, subst (λ z. Stacked false k all (t.Keyword word.If ∷ z)) e h)
begins_at (t.Keyword word.While) k all rest n g h = λ r e. (refl, subst (λ z. Stacked false k all (t.Keyword word.While ∷ z)) e h)
begins_at (t.Keyword word.For) k all rest n g h = h
begins_at (t.Keyword word.Do) k all rest n g h = (refl, λ n r e. (n, subst (λ z. Stacked false k all (t.Keyword word.Do ∷ z)) e h))
begins_at y k all rest n g h = begins_part y k all rest h

pub begins : (y : Kind) (k : List Frame) (all rest : List Kind) → Holds (BeforeStatement k) all (y ∷ rest) → Holds (start_statement y k) all rest
begins t.Newline k all rest h = (h.0, λ n r e. h.1 (suc n) r (ap (λ z. t.Newline ∷ z) e))
begins y k all rest h = begins_at y k all rest refl h.0 (h.1 0 (y ∷ rest) refl)

else_is : (y : Kind) → is_else y ≡ true → y ≡ (t.Keyword word.Else)
else_is (t.Keyword word.Else) h = refl
else_is y h = absurd (cc)

no_else : (y : Kind) (ts : List Kind) → is_newline y ≡ false → is_else y ≡ false → NoElse (y ∷ ts)
no_else t.Newline ts h i = absurd (cc)
no_else (t.Keyword word.Else) ts h i = absurd (cc)
no_else y ts h i = tt

agains : (y : Kind) (x : Statement) (k : List Frame) (all rest : List Kind) → Spelt x (InDoBody ∷ k) all (y ∷ rest) → Holds (after_do_body y x k) all rest
agains (t.Keyword word.While) x k all rest p =
    let b = p.below in
    λ r e. (b.0, p.from, refl, b.1, subst (λ z. SpellsStatement x p.from (t.Keyword word.While ∷ z)) e p.spelled, p.keeps)
agains y x k all rest p = tt

statement_ends : (y : Kind) (x : Statement) (k : List Frame) (all rest : List Kind) → is_newline y ≡ false → Spelt x k all (y ∷ rest) → Holds (end_statement y x k) all rest
statement_ends y x (InBlock made ∷ k) all rest n p =
    let b = p.below in
    begins_at y (InBlock (push made x) ∷ k) all rest n refl (b.0, b.1, b.2, all_snoc made x b.1 p.from (y ∷ rest) b.3 p.spelled, all_keep made x b.4 p.keeps)
statement_ends y x (InAction head made ∷ k) all rest n p =
    let b = p.below in
    begins_at y (InAction head (push made x) ∷ k) all rest n refl (b.0, b.1, b.2, b.3, b.4, b.5, all_snoc made x b.2 p.from (y ∷ rest) b.6 p.spelled, all_keep made x b.7 p.keeps)
statement_ends y x (InIfBody c ∷ k) all rest n p =
    let b = p.below in
    by_test (λ z. Holds z all rest) (is_else y) (BeforeStatement (InElseBody c x ∷ k)) (end_statement y (If c x) k)
    (λ q. (refl, λ m r e. (b.0, m, b.1, p.from, b.2, b.3, b.4, subst (λ z. SpellsStatement x p.from (t.Keyword word.Else ∷ z)) e (subst (λ z. SpellsStatement x p.from (z ∷ rest)) (else_is y q) p.spelled), p.keeps)))
    (λ q. statement_ends y (If c x) k all rest n (record { from = (t.Keyword word.If) ∷ t.OpenParenthesis ∷ b.1; below = b.2; spelled = (b.0, b.1, p.from, refl, b.3, p.spelled, no_else y rest n q); keeps = (b.4, p.keeps) }))
statement_ends y x (InElseBody c d ∷ k) all rest n p =
    let b = p.below in
    statement_ends y (IfElse c d x) k all rest n (record { from = (t.Keyword word.If) ∷ t.OpenParenthesis ∷ b.2; below = b.4; spelled = (b.0, b.1, b.2, b.3, p.from, refl, b.5, b.7, p.spelled); keeps = (b.6, b.8, p.keeps) })
statement_ends y x (InWhileBody c ∷ k) all rest n p =
    let b = p.below in
    statement_ends y (While c x) k all rest n (record { from = (t.Keyword word.While) ∷ t.OpenParenthesis ∷ b.1; below = b.2; spelled = (b.0, b.1, p.from, refl, b.3, p.spelled); keeps = (b.4, p.keeps) })
statement_ends y x (InForInBody d a ∷ k) all rest n p =
    let b = p.below in
    statement_ends y (ForIn d a x) k all rest n (record { from = (t.Keyword word.For) ∷ t.OpenParenthesis ∷ t.Name d ∷ t.Keyword word.In ∷ t.Name a ∷ t.CloseParenthesis ∷ newlines b.0 p.from; below = b.1; spelled = (b.0, p.from, refl, p.spelled); keeps = p.keeps })
statement_ends y x (InForBody d c e ∷ k) all rest n p =
    let b = p.below in
    statement_ends y (For d c e x) k all rest n (record { from = (t.Keyword word.For) ∷ t.OpenParenthesis ∷ b.1; below = b.4; spelled = (b.0, b.1, b.2, b.3, p.from, refl, b.5, b.6, b.7, p.spelled); keeps = (b.8, b.9, b.10, p.keeps) })
statement_ends y x (InDoBody ∷ k) all rest n p = agains y x k all rest p
statement_ends y x [] all rest n p = tt
statement_ends y x (f ∷ k) all rest n p = tt

pub ends_with : (y : Kind) (x : Statement) (k : List Frame) (all rest : List Kind) → Waits x k all (y ∷ rest) → Holds (end_simple_statement y x k) all rest
ends_with t.Semicolon x k all rest p =
    record { from = p.from; below = p.below; spelled = λ n r e. p.spelled r (subst (λ z. Ended (t.Semicolon ∷ z) r) (sym e) (BySemicolon n r)); keeps = p.keeps }
ends_with t.Newline x k all rest p =
    record { from = p.from; below = p.below; spelled = λ n r e. p.spelled r (subst (λ z. Ended (t.Newline ∷ z) r) (sym e) (ByNewline n r)); keeps = p.keeps }
ends_with t.CloseBrace x k all rest p =
    statement_ends t.CloseBrace x k all rest refl (record { from = p.from; below = p.below; spelled = p.spelled (t.CloseBrace ∷ rest) (ByBrace rest); keeps = p.keeps })
ends_with y x k all rest p = tt

ends_first : (y : Kind) (m : SimpleStatement) (k : List Frame) (all rest : List Kind) → Said m (InForFirst ∷ k) all (y ∷ rest) → Holds (end_for_first y m k) all rest
ends_first t.Semicolon m k all rest p = (p.from, p.below, p.spelled, (p.allowed refl, p.keeps))
ends_first t.CloseParenthesis (tree.Expression (Membership (Name b) a)) k all rest p = (
  refl,
  λ n r e.
      let q = p.spelled ∙ ap (λ z. t.Name b ∷ t.Keyword word.In ∷ t.Name a ∷ t.CloseParenthesis ∷ z) e in
      (n, subst (λ z. Stacked false k all (t.Keyword word.For ∷ t.OpenParenthesis ∷ z)) q p.below),
)
ends_first y m k all rest p = tt

ends_last : (y : Kind) (d : OptionalSimple) (c : OptionalExpr) (m : SimpleStatement) (k : List Frame) (all rest : List Kind) → Said m (InForLast d c ∷ k) all (y ∷ rest) → Holds (end_for_last y d c m k) all rest
ends_last t.CloseParenthesis d c m k all rest p =
    let b = p.below in
    (refl, λ n r e. (n, b.0, b.1, p.from, b.2, b.3, b.4, subst (λ z. SpellsSimple m p.from (t.CloseParenthesis ∷ z)) e p.spelled, b.5, b.6, (p.allowed refl, p.keeps)))
ends_last y d c m k all rest p = tt

just : (y : Kind) (m : SimpleStatement) (k : List Frame) (all rest : List Kind) → Said m k all (y ∷ rest) → Holds (end_simple_statement y (Simple m) k) all rest
just y m k all rest p =
    ends_with y (Simple m) k all rest (record { from = p.from; below = p.below; spelled = λ r e. (y ∷ rest, p.spelled, e); keeps = p.keeps })

pub endeds : (y : Kind) (m : SimpleStatement) (k : List Frame) (all rest : List Kind) → Said m k all (y ∷ rest) → Holds (end_simple y m k) all rest
endeds y m (InForFirst ∷ k) all rest p = ends_first y m k all rest p
endeds y m (InForLast d c ∷ k) all rest p = ends_last y d c m k all rest p
endeds y m [] all rest p = just y m [] all rest p
endeds y m (f ∷ k) all rest p = just y m (f ∷ k) all rest p

-- what is printed has ended
pub printeds : (y : Kind) (how : PrintForm) (what : PrintList) (k : List Frame) (all v rest : List Kind) → Stacked false k all (print_token how ∷ v) → SpellsPrintList what v (y ∷ rest) → PrintListKeepsPrecedence how what → Holds (end_print_list y how what k) all rest
printeds (t.Operator operator.Greater) how what k all v rest h p l = (v, refl, h, p, l)
printeds t.Append how what k all v rest h p l = (v, refl, h, p, l)
printeds t.Bar how what k all v rest h p l = (v, refl, h, p, l)
printeds y how what k all v rest h p l =
    endeds y (tree.Print how what Standard) k all rest (record { from = print_token how ∷ v; below = h; spelled = (v, y ∷ rest, refl, p, refl); keeps = (l, tt); allowed = λ _. refl })

pub least_how : (how : PrintForm) (xs : Exprs) → 1 ≤ count xs → least_count how ≤ count xs
least_how form.Print xs h = omega arith
least_how form.Printf xs h = h

pub closes_print : (y : Kind) (how : PrintForm) (xs : Exprs) (k : List Frame) (all v rest : List Kind) → Stacked false k all (print_token how ∷ v) → Listing true xs v (y ∷ rest) → Holds (after_print_expr y how xs k) all rest
closes_print t.Comma how xs k all v rest h l = λ n r e. (v, refl, h, before true xs v rest r n l e, l.1)
closes_print y how xs k all v rest h l = printeds y how (Bare xs) k all v rest h l.0 (least_how how xs l.2, l.1)

pub closes_delete : (y : Kind) (a : List ℕ) (xs : Exprs) (k : List Frame) (all v rest : List Kind) → Stacked false k all (t.Keyword word.Delete ∷ t.Name a ∷ t.OpenBracket ∷ v) → Listing false xs v (y ∷ rest) → Holds (after_delete_subscript y a xs k) all rest
closes_delete t.Comma a xs k all v rest h l = λ n r e. (v, refl, h, before false xs v rest r n l e, l.1)
closes_delete t.CloseBracket a xs k all v rest h l =
    record { from = (t.Keyword word.Delete) ∷ t.Name a ∷ t.OpenBracket ∷ v; below = h; spelled = (v, refl, l.0); keeps = (l.2, l.1); allowed = λ _. refl }
closes_delete y a xs k all v rest h l = tt

pub closes_pattern : (y : Kind) (p : Pattern) (k : List Frame) (all from rest : List Kind) → Stacked false k all from → SpellsPattern p from (y ∷ rest) → PatternKeepsPrecedence p → Holds (after_pattern y p k) all rest
closes_pattern t.OpenBrace p k all from rest h q l =
    (refl, λ n r e. (n, from, r, h, subst (λ z. SpellsPattern p from (t.OpenBrace ∷ z)) e q, l, refl, tt))
closes_pattern t.Semicolon p k all from rest h q l =
    betweens (PatternOnly p) k all (t.Semicolon ∷ rest) rest (true ∷ []) refl (record { from = from; below = h; spelled = (q, refl); keeps = l })
closes_pattern t.Newline p k all from rest h q l =
    betweens (PatternOnly p) k all (t.Newline ∷ rest) rest (false ∷ []) refl (record { from = from; below = h; spelled = (q, refl); keeps = l })
closes_pattern y p k all from rest h q l = tt

pub closes_range : (y : Kind) (e : Expr) (k : List Frame) (all from rest : List Kind) → Stacked false k all from → Spells e from (y ∷ rest) → KeepsPrecedence false e → Holds (after_pattern_expr y e k) all rest
closes_range t.Comma e k all from rest h q l = λ n r z. (n, from, refl, h, subst (λ z. Spells e from (t.Comma ∷ z)) z q, l)
closes_range y e k all from rest h q l = closes_pattern y (Single e) k all from rest h q l

none_printed : (y : Kind) (k : List Frame) (all rest : List Kind) → Stacked false k all (print_token form.Print ∷ y ∷ rest) → Holds (end_print_list y form.Print (Bare Nil) k) all rest
none_printed y k all rest h = printeds y form.Print (Bare Nil) k all (y ∷ rest) rest h refl (omega arith, tt)

pub prints_so : (y : Kind) (how : PrintForm) (k : List Frame) (all rest : List Kind) → Stacked false k all (print_token how ∷ y ∷ rest) → Holds (after_print how k y) all rest
prints_so (t.Operator operator.Greater) form.Print k all rest h = none_printed (t.Operator operator.Greater) k all rest h
prints_so t.Append form.Print k all rest h = none_printed t.Append k all rest h
prints_so t.Bar form.Print k all rest h = none_printed t.Bar k all rest h
prints_so t.Semicolon form.Print k all rest h = none_printed t.Semicolon k all rest h
prints_so t.Newline form.Print k all rest h = none_printed t.Newline k all rest h
prints_so t.CloseBrace form.Print k all rest h = none_printed t.CloseBrace k all rest h
prints_so t.CloseParenthesis form.Print k all rest h = none_printed t.CloseParenthesis k all rest h
prints_so y form.Print k all rest h = starts_operand y false true (InPrint form.Print Nil ∷ k) all rest (y ∷ rest, refl, h, refl, tt)
prints_so y form.Printf k all rest h = starts_operand y false true (InPrint form.Printf Nil ∷ k) all rest (y ∷ rest, refl, h, refl, tt)

pub after_exit_so : (y : Kind) (m : SimpleStatement) (f : Frame) (k : List Frame) (all rest : List Kind) → Said m k all (y ∷ rest) → Stacked false (f ∷ k) all (y ∷ rest) → Holds (after_exit m f k y) all rest
after_exit_so t.Semicolon m f k all rest p h = endeds t.Semicolon m k all rest p
after_exit_so t.Newline m f k all rest p h = endeds t.Newline m k all rest p
after_exit_so t.CloseBrace m f k all rest p h = endeds t.CloseBrace m k all rest p
after_exit_so y m f k all rest p h = starts_operand y false false (f ∷ k) all rest h

pub exits : (y : Kind) (k : List Frame) (all rest : List Kind) → Holds (AfterExit k) all (y ∷ rest) → Holds (after_exit (tree.Exit NoExpr) InExit k y) all rest
exits y k all rest h =
    after_exit_so y (tree.Exit NoExpr) InExit k all rest (record { from = (t.Keyword word.Exit) ∷ y ∷ rest; below = h.0; spelled = (y ∷ rest, refl, refl); keeps = tt; allowed = λ z. never (ground k) h.1 z }) (refl, h.0, h.1)

pub returns : (y : Kind) (k : List Frame) (all rest : List Kind) → Holds (AfterReturn k) all (y ∷ rest) → Holds (after_exit (tree.Return NoExpr) InReturn k y) all rest
returns y k all rest h =
    after_exit_so y (tree.Return NoExpr) InReturn k all rest (record { from = (t.Keyword word.Return) ∷ y ∷ rest; below = h.0; spelled = (y ∷ rest, refl, refl); keeps = tt; allowed = λ z. never (ground k) h.1 z }) (refl, h.0, h.1)

pub first_so : (y : Kind) (k : List Frame) (all rest : List Kind) → Holds (BeforeForFirst k) all (y ∷ rest) → Holds (before_for_first k y) all rest
first_so t.Semicolon k all rest h = (t.Semicolon ∷ rest, h, refl, tt)
first_so y k all rest h = begins_part y (InForFirst ∷ k) all rest h

pub test_so : (y : Kind) (p : OptionalSimple) (k : List Frame) (all rest : List Kind) → Holds (BeforeForCondition p k) all (y ∷ rest) → Holds (before_for_condition p k y) all rest
test_so t.Semicolon p k all rest h = (h.0, t.Semicolon ∷ rest, h.1, h.2, refl, h.3, tt)
test_so y p k all rest h = starts_operand y false false (InForCondition p ∷ k) all rest (h.0, refl, h.1, h.2, h.3)

pub last_so : (y : Kind) (p : OptionalSimple) (c : OptionalExpr) (k : List Frame) (all rest : List Kind) → Holds (BeforeForLast p c k) all (y ∷ rest) → Holds (before_for_last p c k y) all rest
last_so t.CloseParenthesis p c k all rest h = (refl, λ n r e. (n, h.0, h.1, t.CloseParenthesis ∷ rest, h.2, h.3, h.4, ap (λ z. t.CloseParenthesis ∷ z) e, h.5, h.6, tt))
last_so y p c k all rest h = begins_part y (InForLast p c ∷ k) all rest h

pub after_statement_so : (y : Kind) (x : Statement) (k : List Frame) (all rest : List Kind) → Made x k all (y ∷ rest) → Holds (after_statement x k y) all rest
after_statement_so t.Newline x k all rest p =
    record { from = p.from; below = p.below; spelled = λ n r e. p.spelled (suc n) r (ap (λ z. t.Newline ∷ z) e); keeps = p.keeps }
after_statement_so y x k all rest p =
    statement_ends y x k all rest refl (record { from = p.from; below = p.below; spelled = p.spelled 0 (y ∷ rest) refl; keeps = p.keeps })

pub item_so : (y : Kind) (k : List Frame) (all rest : List Kind) → Holds (BetweenItems k) all (y ∷ rest) → Holds (start_item k y) all rest
item_so t.Semicolon k all rest h = λ bs r e. h (true ∷ bs) r (ap (λ z. t.Semicolon ∷ z) e)
item_so t.Newline k all rest h = λ bs r e. h (false ∷ bs) r (ap (λ z. t.Newline ∷ z) e)
item_so (t.Keyword word.Begin) k all rest h = (t.Keyword word.Begin ∷ rest, h [] (t.Keyword word.Begin ∷ rest) refl, refl, tt)
item_so (t.Keyword word.End) k all rest h = (t.Keyword word.End ∷ rest, h [] (t.Keyword word.End ∷ rest) refl, refl, tt)
item_so (t.Keyword word.Function) k all rest h = h [] (t.Keyword word.Function ∷ rest) refl
item_so t.OpenBrace k all rest h = (refl, λ n r e. (n, t.OpenBrace ∷ rest, r, h [] (t.OpenBrace ∷ rest) refl, ap (λ z. t.OpenBrace ∷ z) e, tt, refl, tt))
item_so y k all rest h = starts_operand y false false (InPattern ∷ k) all rest (refl, h [] (y ∷ rest) refl)

abbrev Headed : Head → List Frame → List Kind → List Kind → Type 0
Headed d k all here = (u : List Kind) × Stacked false k all u × SpellsHead d u here × HeadKeepsPrecedence d

braced : (d : Head) (k : List Frame) (all rest : List Kind) → Headed d k all (t.OpenBrace ∷ rest) → Holds (BeforeStatement (InAction d NoMore ∷ k)) all rest
braced d k all rest h = (refl, λ n r e. (n, h.0, r, h.1, subst (λ z. SpellsHead d h.0 (t.OpenBrace ∷ z)) e h.2, h.3, refl, tt))

pub before_action_so : (y : Kind) (d : Head) (s : Bool) (k : List Frame) (all rest : List Kind) → Holds (BeforeAction d s k) all (y ∷ rest) → Holds (before_action d s k y) all rest
before_action_so t.Newline d true k all rest h = λ n r e. h (suc n) r (ap (λ z. t.Newline ∷ z) e)
before_action_so t.Newline d false k all rest h = tt
before_action_so t.OpenBrace d true k all rest h = braced d k all rest (h 0 (t.OpenBrace ∷ rest) refl)
before_action_so t.OpenBrace d false k all rest h = braced d k all rest h
before_action_so y d s k all rest h = tt

pub after_function_so : (y : Kind) (k : List Frame) (all rest : List Kind) → Holds (AfterFunction k) all (y ∷ rest) → Holds (after_function k y) all rest
after_function_so (t.Name f) k all rest h = (false, h)
after_function_so (t.Called f) k all rest h = (true, h)
after_function_so y k all rest h = tt

names_snoc : (xs : List (List ℕ)) (x : List ℕ) (u rest : List Kind) → NamesBefore xs u (t.Name x ∷ rest) → SpellsParameters (xs ++ (x ∷ [])) u rest
names_snoc [] x u rest p = p
names_snoc (y ∷ []) x u rest p = (p.0, t.Name x ∷ rest, p.1, refl)
names_snoc (y ∷ z ∷ zs) x u rest p = (p.1.0, p.1.1, p.1.2, names_snoc (z ∷ zs) x p.1.1 rest (p.0, p.1.3))

filled_snoc : (xs : List (List ℕ)) (x : List ℕ) → filled (xs ++ (x ∷ [])) ≡ true
filled_snoc [] x = refl
filled_snoc (y ∷ xs) x = refl

names_before : (xs : List (List ℕ)) (u here rest : List Kind) (n : ℕ) → filled xs ≡ true → SpellsParameters xs u (t.Comma ∷ here) → here ≡ newlines n rest → NamesBefore xs u rest
names_before [] u here rest n f p e = absurd (cc)
names_before (x ∷ xs) u here rest n f p e = (n, subst (λ z. SpellsParameters (x ∷ xs) u (t.Comma ∷ z)) e p)

pub before_parameter_so : (y : Kind) (f : List ℕ) (s : Bool) (xs : List (List ℕ)) (k : List Frame) (all rest : List Kind) → Holds (BeforeParameter f s xs k) all (y ∷ rest) → Holds (before_parameter f s xs k y) all rest
before_parameter_so (t.Name x) f true xs k all rest h = (h.0, h.1, h.2, names_snoc xs x h.1 rest (h.3 0 (t.Name x ∷ rest) refl), filled_snoc xs x)
before_parameter_so (t.Name x) f false xs k all rest h = (h.0, h.1, h.2, names_snoc xs x h.1 rest (subst (λ z. NamesBefore z h.1 (t.Name x ∷ rest)) (sym h.3) h.4), filled_snoc xs x)
before_parameter_so t.Newline f true xs k all rest h = (h.0, h.1, h.2, λ n r e. h.3 (suc n) r (ap (λ z. t.Newline ∷ z) e))
before_parameter_so t.Newline f false xs k all rest h = tt
before_parameter_so t.CloseParenthesis f true xs k all rest h = tt
before_parameter_so t.CloseParenthesis f false xs k all rest h =
    λ n r e. (_, h.2, (h.0, n, h.1, refl, subst (λ z. SpellsParameters z h.1 (t.CloseParenthesis ∷ newlines n r)) (sym h.3) (h.4 ∙ ap (λ z. t.CloseParenthesis ∷ z) e)), tt)
before_parameter_so y f s xs k all rest h = tt

pub after_parameter_so : (y : Kind) (f : List ℕ) (xs : List (List ℕ)) (k : List Frame) (all rest : List Kind) → Holds (AfterParameter f xs k) all (y ∷ rest) → Holds (after_parameter f xs k y) all rest
after_parameter_so t.Comma f xs k all rest h = (h.0, h.1, h.2, λ n r e. names_before xs h.1 rest r n h.4 h.3 e)
after_parameter_so t.CloseParenthesis f xs k all rest h =
    λ n r e. (_, h.2, (h.0, n, h.1, refl, subst (λ z. SpellsParameters xs h.1 (t.CloseParenthesis ∷ z)) e h.3), tt)
after_parameter_so y f xs k all rest h = tt
