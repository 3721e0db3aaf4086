-- A statement that is spelled is read.
use Rattle.std.proofs.Common.{◌≡◌, ℕ, zero, suc, Bool, true, false, List, [], ◌∷◌, refl, sym, ap, ◌∙◌}
use Rattle.awk_lex.specs.declared.token.Kind.{Kind}
use Rattle.awk_grammar.specs.declared.tree.PrintForm.{PrintForm}
use Rattle.awk_lex.specs.declared.token.Kind.TheVariants as t
use Rattle.awk_lex.specs.declared.token.Keyword.TheVariants as word
use Rattle.awk_grammar.specs.declared.tree.PrintForm.TheVariants as form
use Rattle.awk_grammar.specs.definitions.Tree as tree
use Rattle.awk_grammar.specs.definitions.Tree.{Expr, OptionalExpr, NoExpr, AnExpr, SimpleStatement, OptionalSimple, NoSimple, ASimple, Statement, Empty, Simple, Block, If, IfElse, While, Do, ForIn, For, Statements, NoMore, Then}
use Rattle.awk_grammar.specs.definitions.OperandsAllowed.{OptionalKeepsPrecedence}
use Rattle.awk_grammar.specs.definitions.StatementsAllowed.{SimpleKeepsPrecedence, is_for_part, ForPartKeepsPrecedence, StatementKeepsPrecedence, StatementsKeepPrecedence}
use Rattle.awk_grammar.specs.definitions.SpellingOfExpressions.{newlines, SpellsOptional}
use Rattle.awk_grammar.specs.definitions.SpellingOfStatements.{print_token, SpellsSimple, SpellsOptionalSimple, Ended, BySemicolon, ByNewline, ByBrace, NoElse, SpellsStatement, SpellsAll}
use Rattle.awk_grammar.specs.support.Nodes.{push}
use Rattle.awk_grammar.specs.support.UnlimitedState.{Head, Frame, InExit, InReturn, InIfCondition, InWhileCondition, InDoCondition, InForFirst, InForCondition, InForLast, InBlock, InIfBody, InElseBody, InWhileBody, InDoBody, InForInBody, InForBody, InAction, BeforeOperand, AfterExit, AfterReturn, AfterDo, BeforeForFirst, BeforeForCondition, BeforeForLast, BeforeStatement, AfterStatement}
use Rattle.awk_grammar.specs.support.UnlimitedStatements.{end_simple_statement, end_simple}
use Rattle.awk_grammar.specs.support.UnlimitedParser.{answer}
use Rattle.awk_grammar.proofs.RightEdges.{precedence_most, stops_end}
use Rattle.awk_grammar.proofs.ExpressionsComplete.{complete}
use Rattle.awk_grammar.proofs.SimpleStatementsComplete.{starter, started, starts_so, ender, part_from, complete_part}

pub begin_newlines : (n : ℕ) (k : List Frame) (ts : List Kind) → answer (BeforeStatement k) (newlines n ts) ≡ answer (BeforeStatement k) ts
begin_newlines zero k ts = refl
begin_newlines (suc n) k ts = begin_newlines n k ts

done_newlines : (n : ℕ) (x : Statement) (k : List Frame) (ts : List Kind) → answer (AfterStatement x k) (newlines n ts) ≡ answer (AfterStatement x k) ts
done_newlines zero x k ts = refl
done_newlines (suc n) x k ts = done_newlines n x k ts

-- no part of a `for` is read
abbrev pub ground : List Frame → Bool
ground (InForFirst ∷ k) = false
ground (InForLast p c ∷ k) = false
ground k = true

ended_ground : (y : Kind) (m : SimpleStatement) (k : List Frame) → ground k ≡ true → end_simple y m k ≡ end_simple_statement y (Simple m) k
ended_ground y m [] h = refl
ended_ground y m (InForFirst ∷ k) h = absurd (cc)
ended_ground y m (InForLast p c ∷ k) h = absurd (cc)
ended_ground y m (f ∷ k) h = refl

-- the first token of an expression, a print or a delete
abbrev parting : Kind → Bool
parting (t.Keyword word.Print) = true
parting (t.Keyword word.Printf) = true
parting (t.Keyword word.Delete) = true
parting y = starter y

abbrev parted : List Kind → Bool
parted [] = false
parted (y ∷ ts) = parting y

parted_start : (ts : List Kind) → started ts ≡ true → parted ts ≡ true
parted_start [] h = absurd (cc)
parted_start (t.Keyword word.Print ∷ ts) h = refl
parted_start (t.Keyword word.Printf ∷ ts) h = refl
parted_start (t.Keyword word.Delete ∷ ts) h = refl
parted_start (y ∷ ts) h = h

print_parted : (how : PrintForm) (u : List Kind) → parted (print_token how ∷ u) ≡ true
print_parted form.Print u = refl
print_parted form.Printf u = refl

part_first : (m : SimpleStatement) (ts rest : List Kind) → is_for_part m ≡ true → SpellsSimple m ts rest → parted ts ≡ true
part_first (tree.Expression e) ts rest q p = parted_start ts (starts_so e ts rest p)
part_first (tree.Print how what to) ts rest q p = ap parted p.2 ∙ print_parted how p.0
part_first (tree.Delete a xs) ts rest q p = ap parted p.1
part_first (tree.DeleteAll a) ts rest q p = ap parted p
part_first m ts rest q p = absurd (cc)

begins_part : (k : List Frame) (ts : List Kind) → parted ts ≡ true → answer (BeforeStatement k) ts ≡ part_from k ts
begins_part k [] h = absurd (cc)
begins_part k (t.Newline ∷ ts) h = absurd (cc)
begins_part k (t.Semicolon ∷ ts) h = absurd (cc)
begins_part k (t.OpenBrace ∷ ts) h = absurd (cc)
begins_part k (t.CloseBrace ∷ ts) h = absurd (cc)
begins_part k (t.Keyword word.Next ∷ ts) h = absurd (cc)
begins_part k (t.Keyword word.NextFile ∷ ts) h = absurd (cc)
begins_part k (t.Keyword word.Break ∷ ts) h = absurd (cc)
begins_part k (t.Keyword word.Continue ∷ ts) h = absurd (cc)
begins_part k (t.Keyword word.Exit ∷ ts) h = absurd (cc)
begins_part k (t.Keyword word.Return ∷ ts) h = absurd (cc)
begins_part k (t.Keyword word.If ∷ ts) h = absurd (cc)
begins_part k (t.Keyword word.While ∷ ts) h = absurd (cc)
begins_part k (t.Keyword word.For ∷ ts) h = absurd (cc)
begins_part k (t.Keyword word.Do ∷ ts) h = absurd (cc)
begins_part k (y ∷ ts) h = refl

first_part : (k : List Frame) (ts : List Kind) → parted ts ≡ true → answer (BeforeForFirst k) ts ≡ part_from (InForFirst ∷ k) ts
first_part k [] h = absurd (cc)
first_part k (t.Semicolon ∷ ts) h = absurd (cc)
first_part k (y ∷ ts) h = refl

last_part : (p : OptionalSimple) (c : OptionalExpr) (k : List Frame) (ts : List Kind) → parted ts ≡ true → answer (BeforeForLast p c k) ts ≡ part_from (InForLast p c ∷ k) ts
last_part p c k [] h = absurd (cc)
last_part p c k (t.CloseParenthesis ∷ ts) h = absurd (cc)
last_part p c k (y ∷ ts) h = refl

condition_starts : (p : OptionalSimple) (k : List Frame) (ts : List Kind) → started ts ≡ true → answer (BeforeForCondition p k) ts ≡ answer (BeforeOperand false false (InForCondition p ∷ k)) ts
condition_starts p k [] h = absurd (cc)
condition_starts p k (t.Semicolon ∷ ts) h = absurd (cc)
condition_starts p k (y ∷ ts) h = refl

first_read : (p : OptionalSimple) (k : List Frame) (u v : List Kind) → ForPartKeepsPrecedence p → SpellsOptionalSimple p u (t.Semicolon ∷ v) → answer (BeforeForFirst k) u ≡ answer (BeforeForCondition p k) v
first_read NoSimple k u v l p = ap (answer (BeforeForFirst k)) p
first_read (ASimple m) k u v l p =
    first_part k u (part_first m u (t.Semicolon ∷ v) l.0 p) ∙ complete_part m u t.Semicolon v (InForFirst ∷ k) l.0 l.1 p refl

test_read : (p : OptionalSimple) (c : OptionalExpr) (k : List Frame) (u v : List Kind) → OptionalKeepsPrecedence c → SpellsOptional c u (t.Semicolon ∷ v) → answer (BeforeForCondition p k) u ≡ answer (BeforeForLast p c k) v
test_read p NoExpr k u v l q = ap (answer (BeforeForCondition p k)) q
test_read p (AnExpr e) k u v l q =
    condition_starts p k u (starts_so e u (t.Semicolon ∷ v) q)
    ∙ complete e u (t.Semicolon ∷ v) false false (InForCondition p ∷ k) l q (precedence_most e) (stops_end false e l)

last_read : (p : OptionalSimple) (c : OptionalExpr) (q : OptionalSimple) (k : List Frame) (u v : List Kind) → ForPartKeepsPrecedence q → SpellsOptionalSimple q u (t.CloseParenthesis ∷ v) → answer (BeforeForLast p c k) u ≡ answer (BeforeStatement (InForBody p c q ∷ k)) v
last_read p c NoSimple k u v l r = ap (answer (BeforeForLast p c k)) r
last_read p c (ASimple m) k u v l r =
    last_part p c k u (part_first m u (t.CloseParenthesis ∷ v) l.0 r) ∙ complete_part m u t.CloseParenthesis v (InForLast p c ∷ k) l.0 l.1 r refl

if_closed : (c : Expr) (x : Statement) (k : List Frame) (ts : List Kind) → NoElse ts → answer (AfterStatement x (InIfBody c ∷ k)) ts ≡ answer (AfterStatement (If c x) k) ts
if_closed c x k [] h = refl
if_closed c x k (t.Newline ∷ ts) h = if_closed c x k ts h
if_closed c x k (t.Keyword word.Else ∷ ts) h = absurd h
if_closed c x k (y ∷ ts) h = refl

other_closed : (c : Expr) (z x : Statement) (k : List Frame) (ts : List Kind) → answer (AfterStatement x (InElseBody c z ∷ k)) ts ≡ answer (AfterStatement (IfElse c z x) k) ts
other_closed c z x k [] = refl
other_closed c z x k (t.Newline ∷ ts) = other_closed c z x k ts
other_closed c z x k (y ∷ ts) = refl

while_closed : (c : Expr) (x : Statement) (k : List Frame) (ts : List Kind) → answer (AfterStatement x (InWhileBody c ∷ k)) ts ≡ answer (AfterStatement (While c x) k) ts
while_closed c x k [] = refl
while_closed c x k (t.Newline ∷ ts) = while_closed c x k ts
while_closed c x k (y ∷ ts) = refl

for_in_closed : (b a : List ℕ) (x : Statement) (k : List Frame) (ts : List Kind) → answer (AfterStatement x (InForInBody b a ∷ k)) ts ≡ answer (AfterStatement (ForIn b a x) k) ts
for_in_closed b a x k [] = refl
for_in_closed b a x k (t.Newline ∷ ts) = for_in_closed b a x k ts
for_in_closed b a x k (y ∷ ts) = refl

for_closed : (p : OptionalSimple) (c : OptionalExpr) (q : OptionalSimple) (x : Statement) (k : List Frame) (ts : List Kind) → answer (AfterStatement x (InForBody p c q ∷ k)) ts ≡ answer (AfterStatement (For p c q x) k) ts
for_closed p c q x k [] = refl
for_closed p c q x k (t.Newline ∷ ts) = for_closed p c q x k ts
for_closed p c q x k (y ∷ ts) = refl

-- what holds statements
pub data Body : Type 0 where
  OfBlock : Body
  OfAction : (head : Head) → Body

abbrev pub body : Body → Statements → Frame
body OfBlock all = InBlock all
body (OfAction head) all = InAction head all

next_in : (b : Body) (done : Statements) (x : Statement) (k : List Frame) (ts : List Kind) → answer (AfterStatement x (body b done ∷ k)) ts ≡ answer (BeforeStatement (body b (push done x) ∷ k)) ts
next_in OfBlock done x k [] = refl
next_in OfBlock done x k (t.Newline ∷ ts) = next_in OfBlock done x k ts
next_in OfBlock done x k (y ∷ ts) = refl
next_in (OfAction head) done x k [] = refl
next_in (OfAction head) done x k (t.Newline ∷ ts) = next_in (OfAction head) done x k ts
next_in (OfAction head) done x k (y ∷ ts) = refl

body_ground : (b : Body) (done : Statements) (k : List Frame) → ground (body b done ∷ k) ≡ true
body_ground OfBlock done k = refl
body_ground (OfAction head) done k = refl

exit_starts : (k : List Frame) (ts : List Kind) → started ts ≡ true → answer (AfterExit k) ts ≡ answer (BeforeOperand false false (InExit ∷ k)) ts
exit_starts k [] h = absurd (cc)
exit_starts k (t.Semicolon ∷ ts) h = absurd (cc)
exit_starts k (t.Newline ∷ ts) h = absurd (cc)
exit_starts k (t.CloseBrace ∷ ts) h = absurd (cc)
exit_starts k (y ∷ ts) h = refl

return_starts : (k : List Frame) (ts : List Kind) → started ts ≡ true → answer (AfterReturn k) ts ≡ answer (BeforeOperand false false (InReturn ∷ k)) ts
return_starts k [] h = absurd (cc)
return_starts k (t.Semicolon ∷ ts) h = absurd (cc)
return_starts k (t.Newline ∷ ts) h = absurd (cc)
return_starts k (t.CloseBrace ∷ ts) h = absurd (cc)
return_starts k (y ∷ ts) h = refl

-- `;`, a newline and `}` end a statement
pub data Stopper : Kind → Type 0 where
  AtSemicolon : Stopper t.Semicolon
  AtNewline : Stopper t.Newline
  AtBrace : Stopper t.CloseBrace

exit_read : (e : OptionalExpr) (u : List Kind) (y : Kind) (r : List Kind) (k : List Frame) → OptionalKeepsPrecedence e → SpellsOptional e u (y ∷ r) → Stopper y → answer (AfterExit k) u ≡ answer (end_simple y (tree.Exit e) k) r
exit_read NoExpr u y r k l p AtSemicolon = ap (answer (AfterExit k)) p
exit_read NoExpr u y r k l p AtNewline = ap (answer (AfterExit k)) p
exit_read NoExpr u y r k l p AtBrace = ap (answer (AfterExit k)) p
exit_read (AnExpr e) u y r k l p AtSemicolon = exit_starts k u (starts_so e u (t.Semicolon ∷ r) p) ∙ complete e u (t.Semicolon ∷ r) false false (InExit ∷ k) l p (precedence_most e) (stops_end false e l)
exit_read (AnExpr e) u y r k l p AtNewline = exit_starts k u (starts_so e u (t.Newline ∷ r) p) ∙ complete e u (t.Newline ∷ r) false false (InExit ∷ k) l p (precedence_most e) (stops_end false e l)
exit_read (AnExpr e) u y r k l p AtBrace = exit_starts k u (starts_so e u (t.CloseBrace ∷ r) p) ∙ complete e u (t.CloseBrace ∷ r) false false (InExit ∷ k) l p (precedence_most e) (stops_end false e l)

return_read : (e : OptionalExpr) (u : List Kind) (y : Kind) (r : List Kind) (k : List Frame) → OptionalKeepsPrecedence e → SpellsOptional e u (y ∷ r) → Stopper y → answer (AfterReturn k) u ≡ answer (end_simple y (tree.Return e) k) r
return_read NoExpr u y r k l p AtSemicolon = ap (answer (AfterReturn k)) p
return_read NoExpr u y r k l p AtNewline = ap (answer (AfterReturn k)) p
return_read NoExpr u y r k l p AtBrace = ap (answer (AfterReturn k)) p
return_read (AnExpr e) u y r k l p AtSemicolon = return_starts k u (starts_so e u (t.Semicolon ∷ r) p) ∙ complete e u (t.Semicolon ∷ r) false false (InReturn ∷ k) l p (precedence_most e) (stops_end false e l)
return_read (AnExpr e) u y r k l p AtNewline = return_starts k u (starts_so e u (t.Newline ∷ r) p) ∙ complete e u (t.Newline ∷ r) false false (InReturn ∷ k) l p (precedence_most e) (stops_end false e l)
return_read (AnExpr e) u y r k l p AtBrace = return_starts k u (starts_so e u (t.CloseBrace ∷ r) p) ∙ complete e u (t.CloseBrace ∷ r) false false (InReturn ∷ k) l p (precedence_most e) (stops_end false e l)

stopper_ends : (y : Kind) → Stopper y → ender y ≡ true
stopper_ends y AtSemicolon = refl
stopper_ends y AtNewline = refl
stopper_ends y AtBrace = refl

part_read : (m : SimpleStatement) (ts : List Kind) (y : Kind) (r : List Kind) (k : List Frame) → is_for_part m ≡ true → SimpleKeepsPrecedence m → SpellsSimple m ts (y ∷ r) → Stopper y → answer (BeforeStatement k) ts ≡ answer (end_simple y m k) r
part_read m ts y r k q l p h = begins_part k ts (part_first m ts (y ∷ r) q p) ∙ complete_part m ts y r k q l p (stopper_ends y h)

simple_read : (m : SimpleStatement) (ts : List Kind) (y : Kind) (r : List Kind) (k : List Frame) → SimpleKeepsPrecedence m → SpellsSimple m ts (y ∷ r) → Stopper y → answer (BeforeStatement k) ts ≡ answer (end_simple y m k) r
simple_read (tree.Expression e) ts y r k l p h = part_read (tree.Expression e) ts y r k refl l p h
simple_read (tree.Print how what to) ts y r k l p h = part_read (tree.Print how what to) ts y r k refl l p h
simple_read (tree.Delete a xs) ts y r k l p h = part_read (tree.Delete a xs) ts y r k refl l p h
simple_read (tree.DeleteAll a) ts y r k l p h = part_read (tree.DeleteAll a) ts y r k refl l p h
simple_read (tree.Exit e) ts y r k l p h = ap (answer (BeforeStatement k)) p.1 ∙ exit_read e p.0 y r k l p.2 h
simple_read (tree.Return e) ts y r k l p h = ap (answer (BeforeStatement k)) p.1 ∙ return_read e p.0 y r k l p.2 h
simple_read m ts y r k l p h = ap (answer (BeforeStatement k)) p

just_read : (m : SimpleStatement) (ts u rest : List Kind) (k : List Frame) → ground k ≡ true → SimpleKeepsPrecedence m → SpellsSimple m ts u → Ended u rest → answer (BeforeStatement k) ts ≡ answer (AfterStatement (Simple m) k) rest
just_read m ts u rest k g l p (BySemicolon n r) = simple_read m ts t.Semicolon (newlines n r) k l p AtSemicolon ∙ ap (λ x. answer x (newlines n r)) (ended_ground t.Semicolon m k g) ∙ done_newlines n (Simple m) k r
just_read m ts u rest k g l p (ByNewline n r) = simple_read m ts t.Newline (newlines n r) k l p AtNewline ∙ ap (λ x. answer x (newlines n r)) (ended_ground t.Newline m k g) ∙ done_newlines n (Simple m) k r
just_read m ts u rest k g l p (ByBrace r) = simple_read m ts t.CloseBrace r k l p AtBrace ∙ ap (λ x. answer x r) (ended_ground t.CloseBrace m k g)

need_end : (x : Statement) (k : List Frame) (u rest : List Kind) → Ended u rest → answer (AfterDo x k) u ≡ answer (AfterStatement x k) rest
need_end x k u rest (BySemicolon n r) = done_newlines n x k r
need_end x k u rest (ByNewline n r) = done_newlines n x k r
need_end x k u rest (ByBrace r) = refl

abbrev pub join : Statements → Statements → Statements
join done NoMore = done
join done (Then x all) = join (push done x) all

abbrev plus : Statements → Statements → Statements
plus NoMore ys = ys
plus (Then x xs) ys = Then x (plus xs ys)

push_plus : (done : Statements) (x : Statement) (ys : Statements) → plus (push done x) ys ≡ plus done (Then x ys)
push_plus NoMore x ys = refl
push_plus (Then y all) x ys = ap (Then y) (push_plus all x ys)

plus_none : (done : Statements) → plus done NoMore ≡ done
plus_none NoMore = refl
plus_none (Then x all) = ap (Then x) (plus_none all)

join_plus : (all done : Statements) → join done all ≡ plus done all
join_plus NoMore done = sym (plus_none done)
join_plus (Then x all) done = join_plus all (push done x) ∙ push_plus done x all

pub join_all : (all : Statements) → join NoMore all ≡ all
join_all all = join_plus all NoMore

mutual
  pub complete_statement : (x : Statement) (ts rest : List Kind) (k : List Frame) → ground k ≡ true → StatementKeepsPrecedence x → SpellsStatement x ts rest → answer (BeforeStatement k) ts ≡ answer (AfterStatement x k) rest
  complete_statement Empty ts rest k g l p = ap (answer (BeforeStatement k)) p.1 ∙ done_newlines p.0 Empty k rest
  complete_statement (Simple m) ts rest k g l p = just_read m ts p.0 rest k g l p.1 p.2
  complete_statement (Block all) ts rest k g l p =
      ap (answer (BeforeStatement k)) p.3 ∙ begin_newlines p.0 (InBlock NoMore ∷ k) p.2
      ∙ complete_all all OfBlock NoMore p.2 (t.CloseBrace ∷ newlines p.1 rest) k l p.4
      ∙ done_newlines p.1 (Block (join NoMore all)) k rest ∙ ap (λ z. answer (AfterStatement (Block z) k) rest) (join_all all)
  complete_statement (If c x) ts rest k g l p =
      ap (answer (BeforeStatement k)) p.3 ∙ complete c p.1 (t.CloseParenthesis ∷ newlines p.0 p.2) false false (InIfCondition ∷ k) l.0 p.4 (precedence_most c) (stops_end false c l.0)
      ∙ begin_newlines p.0 (InIfBody c ∷ k) p.2 ∙ complete_statement x p.2 rest (InIfBody c ∷ k) refl l.1 p.5 ∙ if_closed c x k rest p.6
  complete_statement (IfElse c x z) ts rest k g l p =
      ap (answer (BeforeStatement k)) p.5 ∙ complete c p.2 (t.CloseParenthesis ∷ newlines p.0 p.3) false false (InIfCondition ∷ k) l.0 p.6 (precedence_most c) (stops_end false c l.0)
      ∙ begin_newlines p.0 (InIfBody c ∷ k) p.3 ∙ complete_statement x p.3 (t.Keyword word.Else ∷ newlines p.1 p.4) (InIfBody c ∷ k) refl l.1 p.7
      ∙ begin_newlines p.1 (InElseBody c x ∷ k) p.4 ∙ complete_statement z p.4 rest (InElseBody c x ∷ k) refl l.2 p.8 ∙ other_closed c x z k rest
  complete_statement (While c x) ts rest k g l p =
      ap (answer (BeforeStatement k)) p.3 ∙ complete c p.1 (t.CloseParenthesis ∷ newlines p.0 p.2) false false (InWhileCondition ∷ k) l.0 p.4 (precedence_most c) (stops_end false c l.0)
      ∙ begin_newlines p.0 (InWhileBody c ∷ k) p.2 ∙ complete_statement x p.2 rest (InWhileBody c ∷ k) refl l.1 p.5 ∙ while_closed c x k rest
  complete_statement (Do x c) ts rest k g l p =
      ap (answer (BeforeStatement k)) p.4 ∙ begin_newlines p.0 (InDoBody ∷ k) p.1
      ∙ complete_statement x p.1 (t.Keyword word.While ∷ t.OpenParenthesis ∷ p.2) (InDoBody ∷ k) refl l.0 p.5
      ∙ complete c p.2 (t.CloseParenthesis ∷ p.3) false false (InDoCondition x ∷ k) l.1 p.6 (precedence_most c) (stops_end false c l.1)
      ∙ need_end (Do x c) k p.3 rest p.7
  complete_statement (ForIn b a x) ts rest k g l p =
      ap (answer (BeforeStatement k)) p.2 ∙ begin_newlines p.0 (InForInBody b a ∷ k) p.1 ∙ complete_statement x p.1 rest (InForInBody b a ∷ k) refl l p.3 ∙ for_in_closed b a x k rest
  complete_statement (For d c q x) ts rest k g l p =
      ap (answer (BeforeStatement k)) p.5 ∙ first_read d k p.1 p.2 l.0 p.6 ∙ test_read d c k p.2 p.3 l.1 p.7 ∙ last_read d c q k p.3 (newlines p.0 p.4) l.2 p.8
      ∙ begin_newlines p.0 (InForBody d c q ∷ k) p.4 ∙ complete_statement x p.4 rest (InForBody d c q ∷ k) refl l.3 p.9 ∙ for_closed d c q x k rest

  pub complete_all : (all : Statements) (b : Body) (done : Statements) (ts rest : List Kind) (k : List Frame) → StatementsKeepPrecedence all → SpellsAll all ts rest → answer (BeforeStatement (body b done ∷ k)) ts ≡ answer (BeforeStatement (body b (join done all) ∷ k)) rest
  complete_all NoMore b done ts rest k l p = ap (answer (BeforeStatement (body b done ∷ k))) p
  complete_all (Then x all) b done ts rest k l p =
      complete_statement x ts p.0 (body b done ∷ k) (body_ground b done k) l.0 p.1 ∙ next_in b done x k p.0
      ∙ complete_all all b (push done x) p.0 rest k l.1 p.2
