-- What is kept of trees, frames and states; the makers of nodes give what is kept of the node.
use Rattle.std.proofs.Common.{◌≡◌, ℕ, zero, suc, ◌+◌, ◌≤◌, ◌<◌, max, Bool, true, false, cond, leb, ◌&&◌, ◌||◌, inl, inr, List, [], ◌∷◌, Option, Some, None, refl, sym, ap, ◌∙◌, arith}
use Rattle.std.proofs.lemmas.Bool.{le-leb, lt-leb, cases_lt}
use Rattle.awk_lex.specs.declared.token.Kind.{Kind}
use Rattle.awk_grammar.specs.declared.tree.UnaryOperator.{UnaryOperator}
use Rattle.awk_lex.specs.declared.token.BuiltIn.{BuiltIn as BuiltInName}
use Rattle.awk_lex.specs.declared.token.Kind.TheVariants as t
use Rattle.awk_lex.specs.declared.token.Keyword.TheVariants as word
use Rattle.awk_lex.specs.declared.token.BuiltIn.TheVariants as built_in
use Rattle.awk_lex.specs.declared.token.Operator.TheVariants as operator
use Rattle.awk_grammar.specs.declared.tree.UnaryOperator.TheVariants as prefix
use Rattle.awk_grammar.specs.support.UnlimitedParser as unlimited
use Rattle.awk_grammar.specs.support.Parser as parser
use Rattle.awk_grammar.specs.definitions.Tree.{Expr, Field, Call, BuiltIn, PreIncrement, Getline, PipedGetline, Unary, Binary, Conditional, Assign, Exprs, Nil, Cons, OptionalExpr, NoExpr, AnExpr, PrintList, SimpleStatement, OptionalSimple, Statement, Statements, Pattern, Item}
use Rattle.awk_grammar.specs.definitions.Height.{height_of, tallest, optional_height, height_of_print_list, height_of_simple, height_of_optional_simple, height_of_statement, tallest_of, height_of_pattern, height_of_item, height_of_program}
use Rattle.awk_grammar.specs.definitions.Precedence.{operator_precedence, ends_in_assignment, right_precedence, expr_precedence}
use Rattle.awk_grammar.specs.definitions.Arguments.{is_place, count, third_is_place, accepts, accepts_list}
use Rattle.awk_grammar.specs.support.Nodes.{limited, over_one, over_two, over_three, over_four, append}
use Rattle.awk_grammar.specs.support.InfixRole.{InfixRole, Starts}
use Rattle.awk_grammar.specs.support.ParserState.{Operand, OperandList, OptionalOperand, NoOperand, AnOperand, optional_expr, operand_of, third_after, one_more, ending, finish_node}
use Rattle.awk_grammar.specs.support.ParserOperands.{is_none}
use Rattle.awk_grammar.proofs.RightEdges.{right_precedence_most}

pub test_true : {A : Type 0} (b : Bool) (x y : A) → b ≡ true → cond b x y ≡ x
test_true true x y h = refl
test_true false x y h = absurd (cc)

pub test_false : {A : Type 0} (b : Bool) (x y : A) → b ≡ false → cond b x y ≡ y
test_false true x y h = absurd (cc)
test_false false x y h = refl

pub low : {A : Type 0} (m n : ℕ) (x : A) → n ≤ m → limited m n x ≡ Some x
low m n x h = test_true _ _ _ (le-leb n m h)

pub high : {A : Type 0} (m n : ℕ) (x : A) → m < n → limited m n x ≡ None
high m n x h = test_false _ _ _ (lt-leb n m h)

pub one_limited : {A B : Type 0} (m i : ℕ) (h : B → ℕ) (f : A → B) (x : A) → i ≤ h (f x) → over_one m h f (limited m i x) ≡ limited m (h (f x)) (f x)
one_limited m i h f x p = elim (cases_lt m i) [
  | inl q ↦ ap (over_one m h f) (high m i x q) ∙ sym (high m (h (f x)) (f x) (omega arith))
  | inr q ↦ ap (over_one m h f) (low m i x q)
]

pub two_none : {A B C : Type 0} (m : ℕ) (h : C → ℕ) (f : A → B → C) (o : Option A) → over_two m h f o None ≡ None
two_none m h f None = refl
two_none m h f (Some x) = refl

pub two_limited : {A B C : Type 0} (m i j : ℕ) (h : C → ℕ) (f : A → B → C) (x : A) (y : B) → i ≤ h (f x y) → j ≤ h (f x y) → over_two m h f (limited m i x) (limited m j y) ≡ limited m (h (f x y)) (f x y)
two_limited m i j h f x y p q = elim (cases_lt m i) [
  | inl r ↦ ap (λ o. over_two m h f o (limited m j y)) (high m i x r) ∙ sym (high m (h (f x y)) (f x y) (omega arith))
  | inr r ↦ elim (cases_lt m j) [
    | inl z ↦ ap (λ o. over_two m h f (limited m i x) o) (high m j y z) ∙ two_none m h f (limited m i x) ∙ sym (high m (h (f x y)) (f x y) (omega arith))
    | inr z ↦ ap (λ o. over_two m h f o (limited m j y)) (low m i x r) ∙ ap (λ o. over_two m h f (Some x) o) (low m j y z)
  ]
]

pub three_first : {A B C D : Type 0} (m : ℕ) (h : D → ℕ) (f : A → B → C → D) (x : A) (o : Option B) (p : Option C) → over_three m h f (Some x) o p ≡ over_two m h (f x) o p
three_first m h f x None p = refl
three_first m h f x (Some y) None = refl
three_first m h f x (Some y) (Some z) = refl

pub three_limited : {A B C D : Type 0} (m i j k : ℕ) (h : D → ℕ) (f : A → B → C → D) (x : A) (y : B) (z : C) → i ≤ h (f x y z) → j ≤ h (f x y z) → k ≤ h (f x y z) → over_three m h f (limited m i x) (limited m j y) (limited m k z) ≡ limited m (h (f x y z)) (f x y z)
three_limited m i j k h f x y z p q r = elim (cases_lt m i) [
  | inl c ↦ ap (λ o. over_three m h f o (limited m j y) (limited m k z)) (high m i x c) ∙ sym (high m (h (f x y z)) (f x y z) (omega arith))
  | inr c ↦ ap (λ o. over_three m h f o (limited m j y) (limited m k z)) (low m i x c) ∙ three_first m h f x (limited m j y) (limited m k z) ∙ two_limited m j k h (f x) y z q r
]

pub four_limited : {A B C D E : Type 0} (m i j k l : ℕ) (h : E → ℕ) (f : A → B → C → D → E) (x : A) (y : B) (z : C) (v : D) → i ≤ h (f x y z v) → j ≤ h (f x y z v) → k ≤ h (f x y z v) → l ≤ h (f x y z v) → over_four m h f (limited m i x) (limited m j y) (limited m k z) (limited m l v) ≡ limited m (h (f x y z v)) (f x y z v)
four_limited m i j k l h f x y z v p q r u = elim (cases_lt m i) [
  | inl c ↦ ap (λ o. over_four m h f o (limited m j y) (limited m k z) (limited m l v)) (high m i x c) ∙ sym (high m (h (f x y z v)) (f x y z v) (omega arith))
  | inr c ↦ ap (λ o. over_four m h f o (limited m j y) (limited m k z) (limited m l v)) (low m i x c) ∙ three_limited m j k l h (f x) y z v q r u
]

abbrev pub keep : ℕ → Expr → Operand
keep m e = record { precedence = expr_precedence e; is_place = is_place e; tree = limited m (height_of e) e }

abbrev pub keep_list : ℕ → Exprs → OperandList
keep_list m xs = record { count = count xs; third_is_place = third_is_place xs; exprs = limited m (tallest xs) xs }

abbrev pub keep_maybe : ℕ → OptionalExpr → OptionalOperand
keep_maybe m NoExpr = NoOperand
keep_maybe m (AnExpr e) = AnOperand (keep m e)

abbrev pub keep_tree : ℕ → Expr → Option Expr
keep_tree m e = limited m (height_of e) e

abbrev pub keep_if : ℕ → OptionalExpr → Option OptionalExpr
keep_if m e = limited m (optional_height e) e

abbrev pub keep_printed : ℕ → PrintList → Option PrintList
keep_printed m x = limited m (height_of_print_list x) x

abbrev pub keep_simple : ℕ → SimpleStatement → Option SimpleStatement
keep_simple m x = limited m (height_of_simple x) x

abbrev pub keep_part : ℕ → OptionalSimple → Option OptionalSimple
keep_part m x = limited m (height_of_optional_simple x) x

abbrev pub keep_statement : ℕ → Statement → Option Statement
keep_statement m x = limited m (height_of_statement x) x

abbrev pub keep_all : ℕ → Statements → Option Statements
keep_all m x = limited m (tallest_of x) x

abbrev pub keep_pattern : ℕ → Pattern → Option Pattern
keep_pattern m x = limited m (height_of_pattern x) x

abbrev pub keep_item : ℕ → Item → Option Item
keep_item m x = limited m (height_of_item x) x

abbrev pub keep_items : ℕ → List Item → Option (List Item)
keep_items m x = limited m (height_of_program x) x

pub maybe_kept : (m : ℕ) (e : OptionalExpr) → optional_expr m (keep_maybe m e) ≡ limited m (optional_height e) e
maybe_kept m NoExpr = refl
maybe_kept m (AnExpr e) = one_limited m (height_of e) optional_height AnExpr e (omega arith)

pub tallest_append : (xs : Exprs) (e : Expr) → tallest (append xs e) ≡ max (tallest xs) (height_of e)
tallest_append Nil e = omega arith
tallest_append (Cons d xs) e = omega (arith, tallest_append xs e)

pub count_append : (xs : Exprs) (e : Expr) → count (append xs e) ≡ 1 + count xs
count_append Nil e = refl
count_append (Cons d xs) e = ap (λ n. 1 + n) (count_append xs e)

abbrev pub head : ℕ → unlimited.Head → parser.Head
head m unlimited.OfBegin = parser.OfBegin
head m unlimited.OfEnd = parser.OfEnd
head m unlimited.OfNoPattern = parser.OfNoPattern
head m (unlimited.OfPattern p) = parser.OfPattern (keep_pattern m p)
head m (unlimited.OfFunction f xs) = parser.OfFunction f xs

abbrev pub frame : ℕ → unlimited.Frame → parser.Frame
frame m (unlimited.InGroup o xs) = parser.InGroup o (keep_list m xs)
frame m (unlimited.InCall f o xs) = parser.InCall f o (keep_list m xs)
frame m (unlimited.InBuiltIn f o xs) = parser.InBuiltIn f o (keep_list m xs)
frame m (unlimited.InElement x o xs) = parser.InElement x o (keep_list m xs)
frame m unlimited.InField = parser.InField
frame m (unlimited.InPreIncrement x) = parser.InPreIncrement x
frame m (unlimited.InUnary o) = parser.InUnary o
frame m (unlimited.InBinary o x) = parser.InBinary o (keep m x)
frame m (unlimited.InAssign o x) = parser.InAssign o (keep m x)
frame m (unlimited.InFirstChoice c) = parser.InFirstChoice (keep m c)
frame m (unlimited.InSecondChoice c x) = parser.InSecondChoice (keep m c) (keep m x)
frame m (unlimited.InGetlinePlace c) = parser.InGetlinePlace (keep_maybe m c)
frame m (unlimited.InGetlineFile c) = parser.InGetlineFile (keep_maybe m c)
frame m unlimited.InExpression = parser.InExpression
frame m (unlimited.InPrint how xs) = parser.InPrint how (keep_list m xs)
frame m (unlimited.InOutput how what way) = parser.InOutput how (keep_printed m what) way
frame m (unlimited.InDelete x xs) = parser.InDelete x (keep_list m xs)
frame m unlimited.InExit = parser.InExit
frame m unlimited.InReturn = parser.InReturn
frame m unlimited.InIfCondition = parser.InIfCondition
frame m unlimited.InWhileCondition = parser.InWhileCondition
frame m (unlimited.InDoCondition x) = parser.InDoCondition (keep_statement m x)
frame m unlimited.InForFirst = parser.InForFirst
frame m (unlimited.InForCondition p) = parser.InForCondition (keep_part m p)
frame m (unlimited.InForLast p c) = parser.InForLast (keep_part m p) (keep_if m c)
frame m (unlimited.InBlock all) = parser.InBlock (keep_all m all)
frame m (unlimited.InIfBody c) = parser.InIfBody (keep_tree m c)
frame m (unlimited.InElseBody c x) = parser.InElseBody (keep_tree m c) (keep_statement m x)
frame m (unlimited.InWhileBody c) = parser.InWhileBody (keep_tree m c)
frame m unlimited.InDoBody = parser.InDoBody
frame m (unlimited.InForInBody x y) = parser.InForInBody x y
frame m (unlimited.InForBody p c q) = parser.InForBody (keep_part m p) (keep_if m c) (keep_part m q)
frame m unlimited.InPattern = parser.InPattern
frame m (unlimited.InRangeEnd d) = parser.InRangeEnd (keep_tree m d)
frame m (unlimited.InAction h all) = parser.InAction (head m h) (keep_all m all)
frame m (unlimited.InProgram xs) = parser.InProgram (keep_items m xs)

abbrev pub frames : ℕ → List unlimited.Frame → List parser.Frame
frames m [] = []
frames m (f ∷ k) = frame m f ∷ frames m k

pub allowed_kept : (m : ℕ) (f : unlimited.Frame) → parser.greatest_allowed (frame m f) ≡ unlimited.greatest_allowed f
allowed_kept m unlimited.InField = refl
allowed_kept m f = refl

pub allowed_on_kept : (m : ℕ) (k : List unlimited.Frame) → parser.greatest_allowed_on (frames m k) ≡ unlimited.greatest_allowed_on k
allowed_on_kept m [] = refl
allowed_on_kept m (f ∷ k) = allowed_kept m f

pub continues_kept : (m : ℕ) (r : InfixRole) (e : Expr) (h : ℕ) → parser.continues r (keep m e) h ≡ unlimited.continues r e h
continues_kept m Starts e h = refl
continues_kept m r e h = refl

pub stays_open_kept : (m : ℕ) (f : unlimited.Frame) (e : Expr) → parser.stays_open (frame m f) (keep m e) ≡ unlimited.stays_open f e
stays_open_kept m unlimited.InField e = refl
stays_open_kept m f e = refl

pub takes_file_kept : (m : ℕ) (f : unlimited.Frame) (r : InfixRole) → parser.takes_file (frame m f) r ≡ unlimited.takes_file f r
takes_file_kept m (unlimited.InGetlinePlace NoExpr) r = refl
takes_file_kept m (unlimited.InGetlinePlace (AnExpr c)) r = refl
takes_file_kept m f r = refl

pub getline_kept : (m : ℕ) (to file : OptionalExpr) → parser.getline_operand m NoOperand (keep_maybe m to) (keep_maybe m file) ≡ keep m (Getline to file)
getline_kept m to file =
    ap (operand_of 3) (ap (λ x. over_two m height_of Getline x (optional_expr m (keep_maybe m file))) (maybe_kept m to)
    ∙ ap (over_two m height_of Getline (limited m (optional_height to) to)) (maybe_kept m file)
    ∙ two_limited m (optional_height to) (optional_height file) height_of Getline to file (omega arith) (omega arith))

pub piped_kept : (m : ℕ) (c : Expr) (to : OptionalExpr) → parser.getline_operand m (AnOperand (keep m c)) (keep_maybe m to) NoOperand ≡ keep m (PipedGetline c to)
piped_kept m c to =
    ap (operand_of 9) (ap (over_two m height_of PipedGetline (limited m (height_of c) c)) (maybe_kept m to)
    ∙ two_limited m (height_of c) (optional_height to) height_of PipedGetline c to (omega arith) (omega arith))

-- what ends in an assignment, told by precedences
ending_by : (b : Bool) (l n : ℕ) → l ≤ 15 → ending (cond b 16 l) n ≡ cond b 16 n
ending_by true l n h = refl
ending_by false l n h = test_false (leb 16 l) 16 n (lt-leb 16 l (omega arith))

ending_kept : (e : Expr) (n : ℕ) → ending (expr_precedence e) n ≡ cond (ends_in_assignment e) 16 n
ending_kept e n = ending_by (ends_in_assignment e) (right_precedence e) n (right_precedence_most e)

pub finish_node_kept : (m : ℕ) (f : unlimited.Frame) (e : Expr) → finish_node m (frame m f) (keep m e) ≡ keep m (unlimited.finish_node f e)
finish_node_kept m unlimited.InField e = ap (parser.place_operand 1) (one_limited m (height_of e) height_of Field e (omega arith))
finish_node_kept m (unlimited.InPreIncrement x) e = ap (operand_of 2) (one_limited m (height_of e) height_of (PreIncrement x) e (omega arith))
finish_node_kept m (unlimited.InUnary o) e = ap (operand_of 5) (one_limited m (height_of e) height_of (Unary o) e (omega arith))
finish_node_kept m (unlimited.InBinary o x) e =
    ap (λ n. operand_of n (over_two m height_of (Binary o) (limited m (height_of x) x) (limited m (height_of e) e))) (ending_kept e (operator_precedence o))
    ∙ ap (operand_of (expr_precedence (Binary o x e))) (two_limited m (height_of x) (height_of e) height_of (Binary o) x e (omega arith) (omega arith))
finish_node_kept m (unlimited.InAssign o x) e = ap (operand_of 16) (two_limited m (height_of x) (height_of e) height_of (Assign o) x e (omega arith) (omega arith))
finish_node_kept m (unlimited.InSecondChoice c x) e =
    ap (λ n. operand_of n (over_three m height_of Conditional (limited m (height_of c) c) (limited m (height_of x) x) (limited m (height_of e) e))) (ending_kept e 15)
    ∙ ap (operand_of (expr_precedence (Conditional c x e))) (three_limited m (height_of c) (height_of x) (height_of e) height_of Conditional c x e (omega arith) (omega arith) (omega arith))
finish_node_kept m (unlimited.InGetlinePlace NoExpr) e = getline_kept m (AnExpr e) NoExpr
finish_node_kept m (unlimited.InGetlinePlace (AnExpr c)) e = piped_kept m c (AnExpr e)
finish_node_kept m (unlimited.InGetlineFile to) e = getline_kept m to (AnExpr e)
finish_node_kept m f e = refl

abbrev pub held : ℕ → unlimited.Reduced → parser.Reduced
held m h = record { operand = keep m h.operand; stack = frames m h.stack }

pub reduce_by : (m : ℕ) (x : Bool) (f : unlimited.Frame) (e : Expr) (k : List unlimited.Frame) (y : parser.Reduced) (z : unlimited.Reduced) → y ≡ held m z → cond x (record { operand = keep m e; stack = frames m (f ∷ k) }) y ≡ held m (cond x (record { operand = e; stack = f ∷ k }) z)
reduce_by m true f e k y z h = refl
reduce_by m false f e k y z h = h

pub test_kept : (m : ℕ) (r : InfixRole) (f : unlimited.Frame) (e : Expr) → (parser.continues r (keep m e) (parser.greatest_allowed (frame m f)) || (parser.stays_open (frame m f) (keep m e) || parser.takes_file (frame m f) r)) ≡ (unlimited.continues r e (unlimited.greatest_allowed f) || (unlimited.stays_open f e || unlimited.takes_file f r))
test_kept m r f e =
    ap (λ h. parser.continues r (keep m e) h || (parser.stays_open (frame m f) (keep m e) || parser.takes_file (frame m f) r)) (allowed_kept m f)
    ∙ ap (λ x. x || (parser.stays_open (frame m f) (keep m e) || parser.takes_file (frame m f) r)) (continues_kept m r e (unlimited.greatest_allowed f))
    ∙ ap (λ x. unlimited.continues r e (unlimited.greatest_allowed f) || (x || parser.takes_file (frame m f) r)) (stays_open_kept m f e)
    ∙ ap (λ x. unlimited.continues r e (unlimited.greatest_allowed f) || (unlimited.stays_open f e || x)) (takes_file_kept m f r)

pub reduce_kept : (m : ℕ) (r : InfixRole) (e : Expr) (k : List unlimited.Frame) → parser.reduce m r (keep m e) (frames m k) ≡ held m (unlimited.reduce r e k)
reduce_kept m r e [] = refl
reduce_kept m r e (f ∷ k) =
    ap (λ x. cond x (held m (record { operand = e; stack = f ∷ k })) (parser.reduce m r (finish_node m (frame m f) (keep m e)) (frames m k))) (test_kept m r f e)
    ∙ reduce_by m (unlimited.continues r e (unlimited.greatest_allowed f) || (unlimited.stays_open f e || unlimited.takes_file f r)) f e k _ _ (ap (λ x. parser.reduce m r x (frames m k)) (finish_node_kept m f e) ∙ reduce_kept m r (unlimited.finish_node f e) k)

abbrev pub state : ℕ → unlimited.ParserState → parser.ParserState
state m (unlimited.BeforeOperand l g k) = parser.BeforeOperand l g (frames m k)
state m (unlimited.AfterOperand g e k) = parser.AfterOperand g (keep m e) (frames m k)
state m (unlimited.AfterName x g k) = parser.AfterName x g (frames m k)
state m (unlimited.AfterLength g k) = parser.AfterLength g (frames m k)
state m (unlimited.AfterGetline c g k) = parser.AfterGetline (keep_maybe m c) g (frames m k)
state m (unlimited.AfterBar g e k) = parser.AfterBar g (keep m e) (frames m k)
state m (unlimited.BeforeParenthesis f g k) = parser.BeforeParenthesis (frame m f) g (frames m k)
state m (unlimited.AfterList g xs k) = parser.AfterList g (keep_list m xs) (frames m k)
state m (unlimited.AfterIn e g k) = parser.AfterIn (keep m e) g (frames m k)
state m (unlimited.AfterListIn xs g k) = parser.AfterListIn (keep_list m xs) g (frames m k)
state m (unlimited.AfterPrint how k) = parser.AfterPrint how (frames m k)
state m (unlimited.AfterDelete k) = parser.AfterDelete (frames m k)
state m (unlimited.AfterDeleteName x k) = parser.AfterDeleteName x (frames m k)
state m (unlimited.AfterExit k) = parser.AfterExit (frames m k)
state m (unlimited.AfterReturn k) = parser.AfterReturn (frames m k)
state m (unlimited.AfterSimpleStatement x k) = parser.AfterSimpleStatement (keep_simple m x) (frames m k)
state m (unlimited.AfterDo x k) = parser.AfterDo (keep_statement m x) (frames m k)
state m (unlimited.AfterFor k) = parser.AfterFor (frames m k)
state m (unlimited.BeforeForFirst k) = parser.BeforeForFirst (frames m k)
state m (unlimited.BeforeForCondition p k) = parser.BeforeForCondition (keep_part m p) (frames m k)
state m (unlimited.BeforeForLast p c k) = parser.BeforeForLast (keep_part m p) (keep_if m c) (frames m k)
state m (unlimited.BeforeStatement k) = parser.BeforeStatement (frames m k)
state m (unlimited.AfterStatement x k) = parser.AfterStatement (keep_statement m x) (frames m k)
state m (unlimited.BetweenItems k) = parser.BetweenItems (frames m k)
state m (unlimited.BeforeAction h l k) = parser.BeforeAction (head m h) l (frames m k)
state m (unlimited.AfterFunction k) = parser.AfterFunction (frames m k)
state m (unlimited.AfterFunctionName f k) = parser.AfterFunctionName f (frames m k)
state m (unlimited.BeforeParameter f l xs k) = parser.BeforeParameter f l xs (frames m k)
state m (unlimited.AfterParameter f xs k) = parser.AfterParameter f xs (frames m k)
state m unlimited.Failed = parser.Failed

pub when_kept : (m : ℕ) (x y : Bool) (z : unlimited.ParserState) → x ≡ y → parser.when x (state m z) ≡ state m (unlimited.when y z)
when_kept m x true z h = ap (λ c. parser.when c (state m z)) h
when_kept m x false z h = ap (λ c. parser.when c (state m z)) h

pub cond_kept : (m : ℕ) (c : Bool) (x y : parser.ParserState) (u v : unlimited.ParserState) → x ≡ state m u → y ≡ state m v → cond c x y ≡ state m (cond c u v)
cond_kept m true x y u v h i = h
cond_kept m false x y u v h i = i

pub unary_kept : (m : ℕ) (o : UnaryOperator) (g : Bool) (k : List unlimited.Frame) → parser.start_unary o g (frames m k) ≡ state m (unlimited.start_unary o g k)
unary_kept m o g k = when_kept m (leb 5 (parser.greatest_allowed_on (frames m k))) (leb 5 (unlimited.greatest_allowed_on k)) (unlimited.BeforeOperand false g (unlimited.InUnary o ∷ k)) (ap (leb 5) (allowed_on_kept m k))

pub empty_not : (n : ℕ) → 1 ≤ n → is_none n ≡ false
empty_not zero h = absurd (omega arith)
empty_not (suc n) h = refl

pub third_far : (n : ℕ) (o p : Bool) → 3 ≤ n → third_after n o p ≡ o
third_far zero o p h = refl
third_far (suc zero) o p h = refl
third_far (suc (suc zero)) o p h = absurd (omega arith)
third_far (suc (suc (suc n))) o p h = refl

pub third_kept : (xs : Exprs) (e : Expr) → third_after (count xs) (third_is_place xs) (is_place e) ≡ third_is_place (append xs e)
third_kept Nil e = refl
third_kept (Cons c Nil) e = refl
third_kept (Cons c (Cons d Nil)) e = refl
third_kept (Cons c (Cons d (Cons p xs))) e = third_far (1 + (1 + (1 + count xs))) (is_place p) (is_place e) (omega arith)

abbrev pub list_as : ℕ → Bool → Option Exprs → OperandList
list_as n p x = record { count = n; third_is_place = p; exprs = x }

pub list_of : (n l : ℕ) (p q : Bool) (x y : Option Exprs) → n ≡ l → p ≡ q → x ≡ y → list_as n p x ≡ list_as l q y
list_of n l p q x y h i j = ap (λ z. list_as z p x) h ∙ ap (λ z. list_as l z x) i ∙ ap (list_as l q) j

pub one_more_kept : (m : ℕ) (xs : Exprs) (e : Expr) → one_more m (keep_list m xs) (keep m e) ≡ keep_list m (append xs e)
one_more_kept m xs e =
    let h = tallest_append xs e in
    list_of _ _ _ _ _ _ (sym (count_append xs e)) (third_kept xs e) (two_limited m (tallest xs) (height_of e) tallest append xs e (omega arith) (omega arith))

pub accepts_kept : (f : BuiltInName) (xs : Exprs) → accepts f (count xs) (third_is_place xs) ≡ accepts_list f xs
accepts_kept built_in.Length xs = refl
accepts_kept f xs = refl

pub call_kept : (m : ℕ) (f : List ℕ) (xs : Exprs) → operand_of 0 (over_one m height_of (Call f) (limited m (tallest xs) xs)) ≡ keep m (Call f xs)
call_kept m f xs = ap (operand_of 0) (one_limited m (tallest xs) height_of (Call f) xs (omega arith))

pub built_in_kept : (m : ℕ) (f : BuiltInName) (xs : Exprs) → operand_of 0 (over_one m height_of (BuiltIn f) (limited m (tallest xs) xs)) ≡ keep m (BuiltIn f xs)
built_in_kept m f xs = ap (operand_of 0) (one_limited m (tallest xs) height_of (BuiltIn f) xs (omega arith))

pub no_list_kept : (m : ℕ) (k : List unlimited.Frame) → parser.close_empty_list m (frames m k) ≡ state m (unlimited.close_empty_list k)
no_list_kept m [] = refl
no_list_kept m (unlimited.InCall f g Nil ∷ k) = ap (λ x. parser.AfterOperand g x (frames m k)) (call_kept m f Nil)
no_list_kept m (unlimited.InCall f g (Cons e xs) ∷ k) = ap (λ x. parser.when x (parser.AfterOperand g (operand_of 0 (over_one m height_of (Call f) (limited m (tallest (Cons e xs)) (Cons e xs)))) (frames m k))) (empty_not (1 + count xs) (omega arith))
no_list_kept m (unlimited.InBuiltIn f g Nil ∷ k) =
    ap (λ x. parser.when (accepts f 0 true) (parser.AfterOperand g x (frames m k))) (built_in_kept m f Nil)
    ∙ when_kept m (accepts f 0 true) (accepts_list f Nil) (unlimited.AfterOperand g (BuiltIn f Nil) k) (accepts_kept f Nil)
no_list_kept m (unlimited.InBuiltIn f g (Cons e xs) ∷ k) = ap (λ x. parser.when (x && accepts f 0 true) (parser.AfterOperand g (operand_of 0 (over_one m height_of (BuiltIn f) (limited m (tallest (Cons e xs)) (Cons e xs)))) (frames m k))) (empty_not (1 + count xs) (omega arith))
no_list_kept m (f ∷ k) = refl

pub start_operand_kept : (m : ℕ) (y : Kind) (l g : Bool) (k : List unlimited.Frame) → parser.start_operand m y l g (frames m k) ≡ state m (unlimited.start_operand y l g k)
start_operand_kept m t.Not l g k = unary_kept m prefix.Not g k
start_operand_kept m (t.Operator operator.Plus) l g k = unary_kept m prefix.Plus g k
start_operand_kept m (t.Operator operator.Minus) l g k = unary_kept m prefix.Minus g k
start_operand_kept m (t.Operator o) l g k = refl
start_operand_kept m (t.BuiltIn built_in.Length) l g k = refl
start_operand_kept m (t.BuiltIn f) l g k = refl
start_operand_kept m (t.Increment x) l g k = when_kept m (leb 2 (parser.greatest_allowed_on (frames m k))) (leb 2 (unlimited.greatest_allowed_on k)) (unlimited.BeforeOperand false g (unlimited.InPreIncrement x ∷ k)) (ap (leb 2) (allowed_on_kept m k))
start_operand_kept m (t.Keyword word.Getline) l g k = when_kept m (leb 3 (parser.greatest_allowed_on (frames m k))) (leb 3 (unlimited.greatest_allowed_on k)) (unlimited.AfterGetline NoExpr g k) (ap (leb 3) (allowed_on_kept m k))
start_operand_kept m t.Newline true g k = refl
start_operand_kept m t.Newline false g k = refl
start_operand_kept m t.CloseParenthesis true g k = refl
start_operand_kept m t.CloseParenthesis false g k = no_list_kept m k
start_operand_kept m y l g k = refl
