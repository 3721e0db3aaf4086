-- What the parser makes of the tokens of an expression is spelled so and keeps precedence.
use Rattle.std.proofs.Common.{◌≡◌, ℕ, suc, ◌≤◌, Bool, true, false, cond, leb, not, ◌&&◌, ◌||◌, List, [], ◌∷◌, refl, sym, ap, ◌∙◌, subst, arith}
use Rattle.std.proofs.lemmas.Bool.{and_parts, leb-true, le-leb, and_left, and_right}
use Rattle.awk_lex.specs.declared.token.Kind.{Kind}
use Rattle.awk_lex.specs.declared.token.Operator.{Operator}
use Rattle.awk_lex.specs.declared.token.IncrementOperator.{IncrementOperator}
use Rattle.awk_grammar.specs.declared.tree.BinaryOperator.{BinaryOperator}
use Rattle.awk_grammar.specs.declared.tree.UnaryOperator.{UnaryOperator}
use Rattle.awk_lex.specs.declared.token.BuiltIn.{BuiltIn as BuiltInName}
use Rattle.awk_grammar.specs.declared.tree.BinaryOperator.TheVariants.{Concatenate, Infix}
use Rattle.awk_lex.specs.declared.token.Kind.TheVariants as t
use Rattle.awk_lex.specs.declared.token.Keyword.TheVariants as word
use Rattle.awk_lex.specs.declared.token.BuiltIn.TheVariants as built_in
use Rattle.awk_lex.specs.declared.token.Operator.TheVariants as operator
use Rattle.awk_grammar.specs.declared.tree.UnaryOperator.TheVariants as prefix
use Rattle.awk_grammar.specs.definitions.Tree.{Expr, Number, String, Ere, BuiltIn, PostIncrement, PipedGetline, Exprs, Nil, Cons, OptionalExpr, NoExpr, AnExpr}
use Rattle.awk_grammar.specs.definitions.Precedence.{operator_precedence, greatest_left, greatest_right, is_greater, right_precedence, expr_precedence}
use Rattle.awk_grammar.specs.definitions.Arguments.{is_place, count, accepts_list}
use Rattle.awk_grammar.specs.definitions.OperandsAllowed.{KeepsPrecedence, AllKeepPrecedence}
use Rattle.awk_grammar.specs.definitions.SpellingOfExpressions.{newlines, allows_newlines, newlines_if, prefix_of, begins_sign, begins_increment, begins_place, begins_less, StandsAsOperand, Spells, SpellsList, SpellsMore}
use Rattle.awk_grammar.specs.support.Nodes.{append}
use Rattle.awk_grammar.specs.support.InfixRole.{InfixRole, Operates, Increments, Assigns, Starts, TestsMembership, Pipes, Asks, Subscripts, Ends, operate, role, is_less}
use Rattle.awk_grammar.specs.support.UnlimitedState.{getline_of, Frame, InCall, InBuiltIn, InField, InPreIncrement, InUnary, InBinary, InAssign, InFirstChoice, InSecondChoice, InGetlinePlace, InGetlineFile, greatest_allowed, greatest_allowed_on, stays_open, finish_node, takes_file, fits, continues, Reduced, reduce, ParserState, BeforeOperand, AfterOperand, AfterGetline, when}
use Rattle.awk_grammar.specs.support.UnlimitedOperands.{start_unary, close_empty_list, start_operand, close_group, close_call, close_built_in, close_element, close_first_choice, after_getline_place}
use Rattle.awk_grammar.specs.support.UnlimitedParser.{shift}
use Rattle.awk_grammar.proofs.RightEdges.{as_tight}
use Rattle.awk_grammar.proofs.ParserInvariant.{SpellsBefore, Stacked, OperandRead, Holds}

pub by_test : {A : Type 0} (P : A → Type 0) (b : Bool) (x y : A) → (b ≡ true → P x) → (b ≡ false → P y) → P (cond b x y)
by_test P true x y f g = f refl
by_test P false x y f g = g refl

or_first : (x y : Bool) → (x || y) ≡ false → x ≡ false
or_first true y h = absurd (cc)
or_first false y h = refl

or_second : (x y : Bool) → (x || y) ≡ false → y ≡ false
or_second true y h = absurd (cc)
or_second false y h = h

not_false : (x : Bool) → not x ≡ false → x ≡ true
not_false true h = refl
not_false false h = absurd (cc)

and_first : (x y : Bool) → y ≡ true → (x && y) ≡ false → x ≡ false
and_first true y e h = absurd (cc)
and_first false y e h = refl

pub when_so : (b : Bool) (x : ParserState) (all rest : List Kind) → (b ≡ true → Holds x all rest) → Holds (when b x) all rest
when_so true x all rest f = f refl
when_so false x all rest f = tt

right_least : (o : BinaryOperator) → 5 ≤ greatest_right o
right_least Concatenate = omega arith
right_least (Infix operator.Times) = omega arith
right_least (Infix o) = omega arith

least : (k : List Frame) → 1 ≤ greatest_allowed_on k
least [] = omega arith
least (InBinary o a ∷ k) = omega (arith, right_least o)
least (f ∷ k) = omega arith

-- what the role tells of the tokens that follow
abbrev is_steps : InfixRole → Bool
is_steps (Increments x) = true
is_steps r = false

abbrev pub Seen : InfixRole → List Kind → Type 0
Seen r here = (begins_increment here ≡ is_steps r) × (begins_less here ≡ is_less r)

seen_by : (g : Bool) (o : Operator) (ts : List Kind) → Seen (operate o g) (t.Operator o ∷ ts)
seen_by true operator.Greater ts = (refl, refl)
seen_by false operator.Greater ts = (refl, refl)
seen_by g o ts = (refl, refl)

pub seen : (g : Bool) (y : Kind) (ts : List Kind) → Seen (role g y) (y ∷ ts)
seen g (t.Operator o) ts = seen_by g o ts
seen g (t.Keyword word.Getline) ts = (refl, refl)
seen g y ts = (refl, refl)

-- what is reduced where an operand with `++` is allowed is no place before `++`
stands : (r : InfixRole) (e : Expr) (h : ℕ) (here : List Kind) → 3 ≤ h → continues r e h ≡ false → Seen r here → StandsAsOperand e here
stands (Increments x) e h here n q s =
    and_left _ _ (and_first (is_place e) (leb 3 h) (le-leb 3 h n) (or_first _ _ q))
stands r e h here n q s = and_right _ _ s.0

pub reduces : (r : InfixRole) (g : Bool) (f : Frame) (k : List Frame) (e : Expr) (all here : List Kind) → continues r e (greatest_allowed f) ≡ false → stays_open f e ≡ false → takes_file f r ≡ false → Seen r here → OperandRead g e (f ∷ k) all here → OperandRead g (finish_node f e) k all here
reduces r g InField k e all here q c n s p =
    record { from = t.Dollar ∷ p.from; below = p.below; spelled = (p.from, refl, p.spelled); keeps = (as_tight g e 2 (omega arith) p.keeps p.fits, p.keeps); fits = least k }
reduces r g (InPreIncrement x) k e all here q c n s p =
    record { from = t.Increment x ∷ p.from; below = p.below.0; spelled = (p.from, refl, p.spelled); keeps = (not_false _ c, p.keeps); fits = p.below.1 }
reduces r g (InUnary o) k e all here q c n s p =
    record { from = prefix_of o ∷ p.from; below = p.below.0; spelled = (p.from, refl, p.spelled, stands r e 5 here (omega arith) q s); keeps = (as_tight g e 5 (omega arith) p.keeps p.fits, p.keeps); fits = p.below.1 }
reduces r g (InBinary o a) k e all here q c n s p =
    let b = p.below in
    let l = right_least o in
    record { from = b.0; below = b.2; spelled = (b.1, p.from, b.3, b.4, b.5, p.spelled, stands r e (greatest_right o) here (omega arith) q s); keeps = (b.7, p.fits, b.6, p.keeps, b.9); fits = b.8 }
reduces r g (InAssign o d) k e all here q c n s p =
    let b = p.below in
    record { from = b.0; below = b.1; spelled = (p.from, b.2, p.spelled, stands r e 16 here (omega arith) q s); keeps = (b.4, b.3, p.keeps); fits = b.5 }
reduces r g (InSecondChoice d a) k e all here q c n s p =
    let b = p.below in
    record { from = b.0; below = b.2; spelled = (b.1, p.from, b.3, b.4, p.spelled, stands r e 16 here (omega arith) q s); keeps = (b.7, b.5, b.6, p.keeps); fits = b.8 }
reduces r g (InGetlinePlace NoExpr) k e all here q c n s p =
    record { from = (t.Keyword word.Getline) ∷ p.from; below = p.below.0; spelled = (p.from, here, refl, p.spelled, (refl, s.1 ∙ n)); keeps = ((not_false _ c, p.keeps), tt); fits = p.below.1 }
reduces r g (InGetlinePlace (AnExpr d)) k e all here q c n s p =
    let b = p.below in
    record { from = b.0; below = b.1; spelled = (p.from, b.2, p.spelled); keeps = (b.4, b.3, (not_false _ c, p.keeps)); fits = b.5 }
reduces r g (InGetlineFile to) k e all here q c n s p =
    let b = p.below in
    record { from = (t.Keyword word.Getline) ∷ b.0; below = b.1; spelled = (b.0, t.Operator operator.Less ∷ p.from, refl, b.2, (p.from, refl, p.spelled)); keeps = (b.3, (as_tight g e 1 (omega arith) p.keeps p.fits, p.keeps)); fits = b.4 }
reduces r g f k e all here q c n s p = absurd (cc)

abbrev pub IsOperand : Bool → List Kind → List Kind → Reduced → Type 0
IsOperand g all here h = OperandRead g h.operand h.stack all here

pub reduce_sound : (r : InfixRole) (g : Bool) (e : Expr) (k : List Frame) (all here : List Kind) → Seen r here → OperandRead g e k all here → IsOperand g all here (reduce r e k)
reduce_sound r g e [] all here s p = p
reduce_sound r g e (f ∷ k) all here s p =
    by_test (IsOperand g all here) (continues r e (greatest_allowed f) || (stays_open f e || takes_file f r)) (record { operand = e; stack = f ∷ k }) (reduce r (finish_node f e) k)
    (λ _. p)
    (λ n.
    let m = or_second (continues r e (greatest_allowed f)) (stays_open f e || takes_file f r) n in
    reduce_sound r g (finish_node f e) k all here s (reduces r g f k e all here (or_first (continues r e (greatest_allowed f)) _ n) (or_first (stays_open f e) _ m) (or_second (stays_open f e) _ m) s p))

no_lists : (g : Bool) (k : List Frame) (all rest : List Kind) → Stacked g k all (t.CloseParenthesis ∷ rest) → Holds (close_empty_list k) all rest
no_lists g (InCall f o Nil ∷ k) all rest h =
    record { from = t.Called f ∷ t.OpenParenthesis ∷ h.0; below = h.2; spelled = (h.0, refl, h.3); keeps = tt; fits = omega arith }
no_lists g (InBuiltIn f o Nil ∷ k) all rest h =
    when_so (accepts_list f Nil) (AfterOperand o (BuiltIn f Nil) k) all rest
    (λ e. record { from = t.BuiltIn f ∷ t.OpenParenthesis ∷ h.0; below = h.2; spelled = (h.0, refl, h.3); keeps = (e, tt); fits = omega arith })
no_lists g [] all rest h = tt
no_lists g (f ∷ k) all rest h = tt

unaries : (o : UnaryOperator) (g : Bool) (k : List Frame) (all rest : List Kind) → Stacked g k all (prefix_of o ∷ rest) → Holds (start_unary o g k) all rest
unaries o g k all rest h = when_so (leb 5 (greatest_allowed_on k)) (BeforeOperand false g (InUnary o ∷ k)) all rest (λ e. (h, leb-true _ _ e))

-- an operand that is one token
pub one : (g : Bool) (y : Kind) (e : Expr) (k : List Frame) (all rest : List Kind) → Stacked g k all (y ∷ rest) → Spells e (y ∷ rest) rest → KeepsPrecedence g e → right_precedence e ≤ 0 → OperandRead g e k all rest
one g y e k all rest h p l n = record { from = y ∷ rest; below = h; spelled = p; keeps = l; fits = omega arith }

-- at the beginning of an operand
starts_at : (y : Kind) (g : Bool) (k : List Frame) (all rest : List Kind) → Stacked g k all (y ∷ rest) → Holds (start_operand y false g k) all rest
starts_at (t.Number n) g k all rest h = one g (t.Number n) (Number n) k all rest h refl tt (omega arith)
starts_at (t.String b) g k all rest h = one g (t.String b) (String b) k all rest h refl tt (omega arith)
starts_at (t.Ere b) g k all rest h = one g (t.Ere b) (Ere b) k all rest h refl tt (omega arith)
starts_at (t.Name a) g k all rest h = h
starts_at (t.Called f) g k all rest h = λ r e. (r, refl, subst (λ z. Stacked g k all (t.Called f ∷ z)) e h, refl, tt)
starts_at (t.BuiltIn built_in.Length) g k all rest h = h
starts_at (t.BuiltIn f) g k all rest h = λ r e. (r, refl, subst (λ z. Stacked g k all (t.BuiltIn f ∷ z)) e h, refl, tt)
starts_at t.OpenParenthesis g k all rest h = (rest, refl, h, refl, tt)
starts_at t.Dollar g k all rest h = h
starts_at t.Not g k all rest h = unaries prefix.Not g k all rest h
starts_at (t.Operator operator.Plus) g k all rest h = unaries prefix.Plus g k all rest h
starts_at (t.Operator operator.Minus) g k all rest h = unaries prefix.Minus g k all rest h
starts_at (t.Increment x) g k all rest h = when_so (leb 2 (greatest_allowed_on k)) (BeforeOperand false g (InPreIncrement x ∷ k)) all rest (λ e. (h, leb-true _ _ e))
starts_at (t.Keyword word.Getline) g k all rest h = when_so (leb 3 (greatest_allowed_on k)) (AfterGetline NoExpr g k) all rest (λ e. (h, leb-true _ _ e))
starts_at t.CloseParenthesis g k all rest h = no_lists g k all rest h
starts_at y g k all rest h = tt

starts_loose : (y : Kind) (g : Bool) (k : List Frame) (all rest : List Kind) → Holds (BeforeOperand true g k) all (y ∷ rest) → Holds (start_operand y true g k) all rest
starts_loose t.Newline g k all rest h = λ n r e. h (suc n) r (ap (λ z. t.Newline ∷ z) e)
starts_loose t.CloseParenthesis g k all rest h = tt
starts_loose (t.BuiltIn built_in.Length) g k all rest h = h 0 _ refl
starts_loose (t.BuiltIn f) g k all rest h = starts_at (t.BuiltIn f) g k all rest (h 0 _ refl)
starts_loose (t.Operator operator.Plus) g k all rest h = starts_at (t.Operator operator.Plus) g k all rest (h 0 _ refl)
starts_loose (t.Operator operator.Minus) g k all rest h = starts_at (t.Operator operator.Minus) g k all rest (h 0 _ refl)
starts_loose (t.Operator o) g k all rest h = tt
starts_loose (t.Keyword word.Getline) g k all rest h = starts_at (t.Keyword word.Getline) g k all rest (h 0 _ refl)
starts_loose y g k all rest h = starts_at y g k all rest (h 0 (y ∷ rest) refl)

pub starts_operand : (y : Kind) (s g : Bool) (k : List Frame) (all rest : List Kind) → Holds (BeforeOperand s g k) all (y ∷ rest) → Holds (start_operand y s g k) all rest
starts_operand y true g k all rest h = starts_loose y g k all rest h
starts_operand y false g k all rest h = starts_at y g k all rest h

-- what the token is, by its role
abbrev pub Is : Bool → InfixRole → Kind → Type 0
Is g (Operates o) y = (y ≡ t.Operator o) × ((g && is_greater (Infix o)) ≡ false)
Is g (Increments x) y = y ≡ t.Increment x
Is g (Assigns o) y = y ≡ t.Assign o
Is g Starts y = (ts : List Kind) → (begins_sign (y ∷ ts) ≡ false) × (begins_increment (y ∷ ts) ≡ false)
Is g TestsMembership y = y ≡ (t.Keyword word.In)
Is g Pipes y = y ≡ t.Bar
Is g Asks y = y ≡ t.Question
Is g r y = Unit {0}

is_by : (g : Bool) (o : Operator) → Is g (operate o g) (t.Operator o)
is_by true operator.Greater = tt
is_by false operator.Greater = (refl, refl)
is_by g o = (refl, and_right g false refl)

pub is : (g : Bool) (y : Kind) → Is g (role g y) y
is g (t.Number n) = λ ts. (refl, refl)
is g (t.String b) = λ ts. (refl, refl)
is g (t.Ere b) = λ ts. (refl, refl)
is g (t.Name a) = λ ts. (refl, refl)
is g (t.Called a) = λ ts. (refl, refl)
is g (t.BuiltIn f) = λ ts. (refl, refl)
is g (t.Operator o) = is_by g o
is g (t.Increment x) = refl
is g (t.Assign o) = refl
is g t.Not = λ ts. (refl, refl)
is g t.Dollar = λ ts. (refl, refl)
is g t.OpenParenthesis = λ ts. (refl, refl)
is g (t.Keyword word.Getline) = λ ts. (refl, refl)
is g (t.Keyword word.In) = refl
is g t.Bar = refl
is g t.Question = refl
is g y = tt

-- a right operand begins directly behind the left one
besides : (y : Kind) (g : Bool) (e : Expr) (k : List Frame) (all rest : List Kind) → StandsAsOperand e (y ∷ rest) → begins_sign (y ∷ rest) ≡ false → fits Starts e (greatest_allowed_on k) ≡ true → OperandRead g e k all (y ∷ rest) → Holds (start_operand y false g (InBinary Concatenate e ∷ k)) all rest
besides y g e k all rest s n h p =
    let b = and_parts (leb (expr_precedence e) 8) (leb 8 (greatest_allowed_on k)) h in
    starts_at y g (InBinary Concatenate e ∷ k) all rest (p.from, y ∷ rest, p.below, p.spelled, s, (refl, n), p.keeps, leb-true _ _ b.0, leb-true _ _ b.1, and_right g false refl)

or_cases : {A : Type 0} (x y : Bool) → (x || y) ≡ true → (x ≡ true → A) → (y ≡ true → A) → A
or_cases true y h f g = f refl
or_cases false y h f g = g h

room : (e : Expr) (h : ℕ) → ((is_place e && leb 3 h) || (leb (expr_precedence e) 8 && leb 8 h)) ≡ true → 3 ≤ h
room e h q =
    or_cases (is_place e && leb 3 h) (leb (expr_precedence e) 8 && leb 8 h) q
    (λ a. leb-true _ _ (and_parts (is_place e) (leb 3 h) a).1)
    (λ a. let m = leb-true 8 h (and_parts (leb (expr_precedence e) 8) (leb 8 h) a).1 in omega arith)

no_room : (x y z : Bool) → x ≡ false → ((x && y) || z) ≡ true → z ≡ true
no_room true y z e h = absurd (cc)
no_room false y z e h = h

steps_on : (x : IncrementOperator) (y : Kind) (g : Bool) (e : Expr) (k : List Frame) (all rest : List Kind) → y ≡ t.Increment x → continues (Increments x) e (greatest_allowed_on k) ≡ true → OperandRead g e k all (y ∷ rest) → Holds (shift (Increments x) y g e k) all rest
steps_on x y g e k all rest b h p =
    by_test (λ z. Holds z all rest) (is_place e) (AfterOperand g (PostIncrement x e) k) (start_operand y false g (InBinary Concatenate e ∷ k))
    (λ q. record { from = p.from; below = p.below; spelled = subst (λ z. Spells e p.from (z ∷ rest)) b p.spelled; keeps = (q, p.keeps); fits = room e (greatest_allowed_on k) h })
    (λ q. besides y g e k all rest (and_left _ _ q) (ap (λ z. begins_sign (z ∷ rest)) b) (no_room (is_place e) (leb 3 (greatest_allowed_on k)) _ q h) p)

infix_on : (o : Operator) (y : Kind) (g : Bool) (e : Expr) (k : List Frame) (all rest : List Kind) → Is g (Operates o) y → continues (Operates o) e (greatest_allowed_on k) ≡ true → OperandRead g e k all (y ∷ rest) → (n : ℕ) (r : List Kind) → rest ≡ newlines_if (allows_newlines o) n r → Stacked g (InBinary (Infix o) e ∷ k) all r
infix_on o y g e k all rest b h p n r q =
    let c = and_parts (leb (expr_precedence e) (greatest_left (Infix o))) (leb (operator_precedence (Infix o)) (greatest_allowed_on k)) h in
    (p.from, y ∷ rest, p.below, p.spelled, ap (λ z. is_place e && begins_increment (z ∷ rest)) b.0 ∙ and_right (is_place e) false refl, (n, ap (λ z. z ∷ rest) b.0 ∙ ap (λ z. t.Operator o ∷ z) q), p.keeps, leb-true _ _ c.0, leb-true _ _ c.1, b.1)

expects : (s g : Bool) (k : List Frame) (all rest : List Kind) → ((n : ℕ) (r : List Kind) → rest ≡ newlines_if s n r → Stacked g k all r) → Holds (BeforeOperand s g k) all rest
expects true g k all rest f = f
expects false g k all rest f = f 0 rest refl

pub shifts : (r : InfixRole) (y : Kind) (g : Bool) (e : Expr) (k : List Frame) (all rest : List Kind) → Is g r y → continues r e (greatest_allowed_on k) ≡ true → OperandRead g e k all (y ∷ rest) → Holds (shift r y g e k) all rest
shifts (Operates o) y g e k all rest b h p = expects (allows_newlines o) g (InBinary (Infix o) e ∷ k) all rest (infix_on o y g e k all rest b h p)
shifts (Increments x) y g e k all rest b h p = steps_on x y g e k all rest b h p
shifts (Assigns o) y g e k all rest b h p =
    let c = and_parts (is_place e) (leb 12 (greatest_allowed_on k)) h in
    (p.from, p.below, subst (λ z. Spells e p.from (z ∷ rest)) b p.spelled, p.keeps, c.0, leb-true _ _ c.1)
shifts Starts y g e k all rest b h p = besides y g e k all rest (and_right _ _ (b rest).1) (b rest).0 h p
shifts TestsMembership y g e k all rest b h p =
    let c = and_parts (leb (expr_precedence e) 12) (leb 12 (greatest_allowed_on k)) h in
    (subst (λ z. OperandRead g e k all (z ∷ rest)) b p, leb-true _ _ c.0, leb-true _ _ c.1)
shifts Pipes y g e k all rest b h p = tt
shifts Asks y g e k all rest b h p =
    let c = and_parts (leb (expr_precedence e) 14) (leb 15 (greatest_allowed_on k)) h in
    (p.from, p.below, subst (λ z. Spells e p.from (z ∷ rest)) b p.spelled, p.keeps, leb-true _ _ c.0, leb-true _ _ c.1)
shifts Subscripts y g e k all rest b h p = tt
shifts Ends y g e k all rest b h p = tt

-- lists
more_snoc : (xs : Exprs) (e : Expr) (ts u v : List Kind) (n : ℕ) → SpellsMore xs ts (t.Comma ∷ newlines n u) → Spells e u v → SpellsMore (append xs e) ts v
more_snoc Nil e ts u v n p q = (n, u, v, p, q, refl)
more_snoc (Cons d xs) e ts u v n p q = (p.0, p.1, p.2, p.3, p.4, more_snoc xs e p.2 u v n p.5 q)

list_snoc : (xs : Exprs) (e : Expr) (ts u v : List Kind) → SpellsBefore xs ts u → Spells e u v → SpellsList (append xs e) ts v
list_snoc Nil e ts u v p q = (v, subst (λ z. Spells e z v) (sym p) q, refl)
list_snoc (Cons d xs) e ts u v p q = (p.1.0, p.1.1, more_snoc xs e p.1.0 u v p.0 p.1.2 q)

list_keeps : (g : Bool) (xs : Exprs) (e : Expr) → AllKeepPrecedence g xs → KeepsPrecedence g e → AllKeepPrecedence g (append xs e)
list_keeps g Nil e l n = (n, tt)
list_keeps g (Cons d xs) e l n = (l.0, list_keeps g xs e l.1 n)

least_one : (xs : Exprs) (e : Expr) → 1 ≤ count (append xs e)
least_one Nil e = omega arith
least_one (Cons d xs) e = omega arith

pub least_two : (d : Expr) (xs : Exprs) (e : Expr) → 2 ≤ count (append (Cons d xs) e)
least_two d xs e = omega (arith, least_one xs e)

-- a list of one or more
abbrev pub Listing : Bool → Exprs → List Kind → List Kind → Type 0
Listing g xs v here = SpellsList xs v here × AllKeepPrecedence g xs × (1 ≤ count xs)

pub lists : (g : Bool) (made : Exprs) (e : Expr) (v from here : List Kind) → SpellsBefore made v from → AllKeepPrecedence g made → Spells e from here → KeepsPrecedence g e → Listing g (append made e) v here
lists g made e v from here b l p q = (list_snoc made e v from here b p, list_keeps g made e l q, least_one made e)

pub before : (g : Bool) (xs : Exprs) (v here rest : List Kind) (n : ℕ) → Listing g xs v (t.Comma ∷ here) → here ≡ newlines n rest → SpellsBefore xs v rest
before g Nil v here rest n l e = absurd (omega (arith, l.2))
before g (Cons d xs) v here rest n l e = (n, subst (λ z. SpellsList (Cons d xs) v (t.Comma ∷ z)) e l.0)

pub closes_group : (y : Kind) (o : Bool) (made : Exprs) (e : Expr) (k : List Frame) (all v from rest : List Kind) → Stacked o k all (t.OpenParenthesis ∷ v) → SpellsBefore made v from → AllKeepPrecedence false made → Spells e from (y ∷ rest) → KeepsPrecedence false e → Holds (close_group y o made e k) all rest
closes_group t.Comma o made e k all v from rest h b l p q =
    λ n r z. let c = lists false made e v from (t.Comma ∷ rest) b l p q in (v, refl, h, before false (append made e) v rest r n c z, c.1)
closes_group t.CloseParenthesis o Nil e k all v from rest h b l p q =
    record { from = t.OpenParenthesis ∷ v; below = h; spelled = (v, refl, subst (λ z. Spells e z (t.CloseParenthesis ∷ rest)) (sym b) p); keeps = q; fits = omega arith }
closes_group t.CloseParenthesis o (Cons d made) e k all v from rest h b l p q =
    let c = lists false (Cons d made) e v from (t.CloseParenthesis ∷ rest) b l p q in
    (v, h, c.0, c.1, least_two d made e)
closes_group y o made e k all v from rest h b l p q = tt

pub closes_call : (y : Kind) (f : List ℕ) (o : Bool) (xs : Exprs) (k : List Frame) (all v rest : List Kind) → Stacked o k all (t.Called f ∷ t.OpenParenthesis ∷ v) → Listing false xs v (y ∷ rest) → Holds (close_call y f o xs k) all rest
closes_call t.Comma f o xs k all v rest h l = λ n r z. (v, refl, h, before false xs v rest r n l z, l.1)
closes_call t.CloseParenthesis f o xs k all v rest h l = record { from = t.Called f ∷ t.OpenParenthesis ∷ v; below = h; spelled = (v, refl, l.0); keeps = l.1; fits = omega arith }
closes_call y f o xs k all v rest h l = tt

pub closes_built_in : (y : Kind) (f : BuiltInName) (o : Bool) (xs : Exprs) (k : List Frame) (all v rest : List Kind) → Stacked o k all (t.BuiltIn f ∷ t.OpenParenthesis ∷ v) → Listing false xs v (y ∷ rest) → Holds (close_built_in y f o xs k) all rest
closes_built_in t.Comma f o xs k all v rest h l = λ n r z. (v, refl, h, before false xs v rest r n l z, l.1)
closes_built_in t.CloseParenthesis f o xs k all v rest h l =
    when_so (accepts_list f xs) (AfterOperand o (BuiltIn f xs) k) all rest
    (λ e. record { from = t.BuiltIn f ∷ t.OpenParenthesis ∷ v; below = h; spelled = (v, refl, l.0); keeps = (e, l.1); fits = omega arith })
closes_built_in y f o xs k all v rest h l = tt

pub closes_element : (y : Kind) (a : List ℕ) (o : Bool) (xs : Exprs) (k : List Frame) (all v rest : List Kind) → Stacked o k all (t.Name a ∷ t.OpenBracket ∷ v) → Listing false xs v (y ∷ rest) → Holds (close_element y a o xs k) all rest
closes_element t.Comma a o xs k all v rest h l = λ n r z. (v, refl, h, before false xs v rest r n l z, l.1)
closes_element t.CloseBracket a o xs k all v rest h l = record { from = t.Name a ∷ t.OpenBracket ∷ v; below = h; spelled = (v, refl, l.0); keeps = (l.2, l.1); fits = omega arith }
closes_element y a o xs k all v rest h l = tt

pub closes_then : (y : Kind) (g : Bool) (c e : Expr) (k : List Frame) (all rest : List Kind) → OperandRead g e (InFirstChoice c ∷ k) all (y ∷ rest) → Holds (close_first_choice y g c e k) all rest
closes_then t.Colon g c e k all rest p =
    let b = p.below in
    (b.0, p.from, b.1, b.2, p.spelled, b.3, p.keeps, b.4, b.5)
closes_then y g c e k all rest p = tt

pub closes_to : (y : Kind) (g : Bool) (c : OptionalExpr) (e : Expr) (k : List Frame) (all rest : List Kind) → OperandRead g e (InGetlinePlace c ∷ k) all (y ∷ rest) → Holds (after_getline_place y g c e k) all rest
closes_to (t.Operator operator.Less) g NoExpr e k all rest p =
    when_so (is_place e) (BeforeOperand false g (InGetlineFile (AnExpr e) ∷ k)) all rest
    (λ h. (p.from, p.below.0, p.spelled, (h, p.keeps), p.below.1))
closes_to y g c e k all rest p = tt

-- a getline without a file, and a place
pub alone : (c : OptionalExpr) (g : Bool) (k : List Frame) (all here : List Kind) → begins_place here ≡ false → begins_less here ≡ false → Holds (AfterGetline c g k) all here → OperandRead g (getline_of c NoExpr) k all here
alone NoExpr g k all here n m h =
    record { from = (t.Keyword word.Getline) ∷ here; below = h.0; spelled = (here, here, refl, (refl, n), (refl, m)); keeps = (tt, tt); fits = h.1 }
alone (AnExpr c) g k all here n m h =
    record { from = h.0; below = h.1; spelled = (here, h.2, (refl, n)); keeps = (h.4, h.3, tt); fits = h.5 }

pub piped_alone : (c : Expr) (g : Bool) (k : List Frame) (all here : List Kind) → begins_place here ≡ false → Holds (AfterGetline (AnExpr c) g k) all here → OperandRead g (PipedGetline c NoExpr) k all here
piped_alone c g k all here n h =
    record { from = h.0; below = h.1; spelled = (here, h.2, (refl, n)); keeps = (h.4, h.3, tt); fits = h.5 }
