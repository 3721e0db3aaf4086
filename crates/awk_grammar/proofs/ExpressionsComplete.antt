-- An expression that keeps precedence and is spelled is read.
use Rattle.std.proofs.Common.{◌≡◌, ℕ, zero, suc, ◌≤◌, Bool, true, false, cond, leb, not, ◌&&◌, ◌||◌, ◌⊎◌, inl, inr, List, [], ◌∷◌, refl, sym, ap, ◌∙◌, subst, arith}
use Rattle.std.proofs.lemmas.Bool.{and_from, le-leb, and_right}
use Rattle.awk_lex.specs.declared.token.Kind.{Kind}
use Rattle.awk_lex.specs.declared.token.Operator.{Operator}
use Rattle.awk_lex.specs.declared.token.IncrementOperator.{IncrementOperator}
use Rattle.awk_grammar.specs.declared.tree.BinaryOperator.{BinaryOperator}
use Rattle.awk_grammar.specs.declared.tree.UnaryOperator.{UnaryOperator}
use Rattle.awk_grammar.specs.declared.tree.PrintForm.{PrintForm}
use Rattle.awk_lex.specs.declared.token.BuiltIn.{BuiltIn as BuiltInName}
use Rattle.awk_grammar.specs.declared.tree.BinaryOperator.TheVariants.{Concatenate, Infix}
use Rattle.awk_lex.specs.declared.token.Kind.TheVariants as t
use Rattle.awk_lex.specs.declared.token.Keyword.TheVariants as word
use Rattle.awk_lex.specs.declared.token.BuiltIn.TheVariants as built_in
use Rattle.awk_lex.specs.declared.token.Operator.TheVariants as operator
use Rattle.awk_grammar.specs.declared.tree.UnaryOperator.TheVariants as prefix
use Rattle.awk_grammar.specs.definitions.Tree.{Expr, Number, String, Ere, Name, Element, Field, Group, Call, BuiltIn, Length, PreIncrement, PostIncrement, Getline, PipedGetline, Unary, Binary, Membership, ListMembership, Conditional, Assign, Exprs, Nil, Cons, OptionalExpr, NoExpr, AnExpr}
use Rattle.awk_grammar.specs.definitions.Precedence.{operator_precedence, greatest_left, is_greater, right_precedence, expr_precedence}
use Rattle.awk_grammar.specs.definitions.Arguments.{is_place, count, accepts_list}
use Rattle.awk_grammar.specs.definitions.OperandsAllowed.{KeepsPrecedence, AllKeepPrecedence, PlaceKeepsPrecedence}
use Rattle.awk_grammar.specs.definitions.SpellingOfExpressions.{newlines, allows_newlines, newlines_if, prefix_of, begins_sign, begins_place, begins_less, begins_parenthesis, Joined, StandsAsOperand, Spells, SpellsList, SpellsMore, SpellsPlace}
use Rattle.awk_grammar.specs.support.Nodes.{append}
use Rattle.awk_grammar.specs.support.InfixRole.{InfixRole, Operates, Increments, Assigns, Starts, TestsMembership, Pipes, Asks, Ends, role, is_less}
use Rattle.awk_grammar.specs.support.UnlimitedState.{Frame, InGroup, InCall, InBuiltIn, InElement, InField, InPreIncrement, InUnary, InBinary, InAssign, InFirstChoice, InSecondChoice, InGetlinePlace, InGetlineFile, InPrint, InDelete, greatest_allowed, greatest_allowed_on, stays_open, finish_node, takes_file, continues, Reduced, reduce, ParserState, BeforeOperand, AfterOperand, AfterName, AfterLength, AfterGetline, AfterBar, AfterList, when}
use Rattle.awk_grammar.specs.support.UnlimitedOperands.{start_operand}
use Rattle.awk_grammar.specs.support.UnlimitedStatements.{redirect_to_pipe}
use Rattle.awk_grammar.specs.support.UnlimitedParser.{shift, after_reduced, step, whole, answer}
use Rattle.awk_grammar.proofs.RightEdges.{pipes, next, subscripts, Stops, StopsTo, bounds, precedence_most, as_right, place_precedence, neither, tight_place, stops_end, starts_role, steps_role, no_file, no_place, stops}

test_true : {A : Type 0} (b : Bool) (x y : A) → b ≡ true → cond b x y ≡ x
test_true true x y h = refl
test_true false x y h = absurd (cc)

test_false : {A : Type 0} (b : Bool) (x y : A) → b ≡ false → cond b x y ≡ y
test_false true x y h = absurd (cc)
test_false false x y h = refl

when_true : (b : Bool) (x : ParserState) → b ≡ true → when b x ≡ x
when_true true x h = refl
when_true false x h = absurd (cc)

or_left : (x y : Bool) → x ≡ true → (x || y) ≡ true
or_left true y h = refl
or_left false y h = absurd (cc)

or_right : (x y : Bool) → y ≡ true → (x || y) ≡ true
or_right true y h = refl
or_right false y h = h

reduce_on : (r : InfixRole) (f : Frame) (e : Expr) (k : List Frame) → stays_open f e ≡ false → takes_file f r ≡ false → continues r e (greatest_allowed f) ≡ false → reduce r e (f ∷ k) ≡ reduce r (finish_node f e) k
reduce_on r f e k c n h = test_false _ _ _ (neither (continues r e (greatest_allowed f)) (stays_open f e || takes_file f r) h (neither (stays_open f e) (takes_file f r) c n))

takes_no_file : (f : Frame) (r : InfixRole) → is_less r ≡ false → takes_file f r ≡ false
takes_no_file (InGetlinePlace NoExpr) r h = h
takes_no_file f r h = refl

-- a bar that isn't a pipe: what is reduced at it is reduced to the end
abbrev pub held : Expr → List Frame → Reduced
held e k = record { operand = e; stack = k }

abbrev pub ends_of : Reduced → Reduced
ends_of h = reduce Ends h.operand h.stack

ends_by : (x y v : Bool) (e : Expr) (f : Frame) (k : List Frame) → stays_open f e ≡ y → ends_of (reduce Pipes (finish_node f e) k) ≡ reduce Ends (finish_node f e) k → ends_of (cond (x || (y || v)) (held e (f ∷ k)) (reduce Pipes (finish_node f e) k)) ≡ reduce Ends e (f ∷ k)
ends_by true y v e f k n i = refl
ends_by false true v e f k n i = refl
ends_by false false true e f k n i = refl
ends_by false false false e f k n i = i ∙ sym (reduce_on Ends f e k n (takes_no_file f Ends refl) refl)

pub reduced_twice : (e : Expr) (k : List Frame) → ends_of (reduce Pipes e k) ≡ reduce Ends e k
reduced_twice e [] = refl
reduced_twice e (f ∷ k) = ends_by (continues Pipes e (greatest_allowed f)) (stays_open f e) (takes_file f Pipes) e f k refl (reduced_twice (finish_node f e) k)

bar_reduced : (g : Bool) (f : Frame) (k : List Frame) (e : Expr) (ts : List Kind) → stays_open f e ≡ false → continues (pipes ts) e (greatest_allowed f) ≡ false → answer (AfterOperand g e (f ∷ k)) (t.Bar ∷ ts) ≡ answer (AfterOperand g (finish_node f e) k) (t.Bar ∷ ts)
bar_reduced g f k e [] c h =
    ap (λ s. whole (redirect_to_pipe t.Newline s.operand s.stack)) (reduced_twice e (f ∷ k) ∙ reduce_on Ends f e k c (takes_no_file f Ends refl) refl ∙ sym (reduced_twice (finish_node f e) k))
bar_reduced g f k e (t.Keyword word.Getline ∷ ts) c h = ap (λ s. answer (after_reduced Pipes t.Bar g s) (t.Keyword word.Getline ∷ ts)) (reduce_on Pipes f e k c (takes_no_file f Pipes refl) h)
bar_reduced g f k e (y ∷ ts) c h =
    ap (λ h. answer (redirect_to_pipe y h.operand h.stack) ts) (reduced_twice e (f ∷ k) ∙ reduce_on Ends f e k c (takes_no_file f Ends refl) refl ∙ sym (reduced_twice (finish_node f e) k))

reduced : (g : Bool) (f : Frame) (k : List Frame) (e : Expr) (ts : List Kind) → stays_open f e ≡ false → takes_file f (next g ts) ≡ false → continues (next g ts) e (greatest_allowed f) ≡ false → answer (AfterOperand g e (f ∷ k)) ts ≡ answer (AfterOperand g (finish_node f e) k) ts
reduced g f k e [] c n h = ap (λ s. whole (after_reduced Ends t.Newline g s)) (reduce_on Ends f e k c n h)
reduced g f k e (t.Bar ∷ ts) c n h = bar_reduced g f k e ts c h
reduced g f k e (x ∷ ts) c n h = ap (λ s. answer (after_reduced (role g x) x g s) ts) (reduce_on (role g x) f e k c n h)

reduce_stops : (r : InfixRole) (e : Expr) (k : List Frame) → continues r e (greatest_allowed_on k) ≡ true → reduce r e k ≡ record { operand = e; stack = k }
reduce_stops r e [] h = refl
reduce_stops r e (f ∷ k) h = test_true _ _ _ (or_left (continues r e (greatest_allowed f)) (stays_open f e || takes_file f r) h)

abbrev is_pipes : InfixRole → Bool
is_pipes Pipes = true
is_pipes r = false

followed : (r : InfixRole) (x : Kind) (g : Bool) (e : Expr) (k : List Frame) → is_pipes r ≡ false → continues r e (greatest_allowed_on k) ≡ true → after_reduced r x g (record { operand = e; stack = k }) ≡ shift r x g e k
followed Pipes x g e k n h = absurd (cc)
followed r x g e k n h = test_true _ _ _ h

shifted : (x : Kind) (r : InfixRole) (g : Bool) (e : Expr) (k : List Frame) → role g x ≡ r → is_pipes r ≡ false → continues r e (greatest_allowed_on k) ≡ true → step (AfterOperand g e k) x ≡ shift r x g e k
shifted x r g e k q n h =
    ap (λ z. after_reduced z x g (reduce z e k)) q ∙ ap (after_reduced r x g) (reduce_stops r e k h) ∙ followed r x g e k n h

pub over_newlines : (n : ℕ) (g : Bool) (k : List Frame) (ts : List Kind) → answer (BeforeOperand true g k) (newlines n ts) ≡ answer (BeforeOperand true g k) ts
over_newlines zero g k ts = refl
over_newlines (suc n) g k ts = over_newlines n g k ts

over_gap : (b : Bool) (n : ℕ) (g : Bool) (k : List Frame) (ts : List Kind) → answer (BeforeOperand b g k) (newlines_if b n ts) ≡ answer (BeforeOperand b g k) ts
over_gap true n g k ts = over_newlines n g k ts
over_gap false n g k ts = refl

-- the flag matters at `>` alone
role_by : (g : Bool) (o : Operator) → (g && is_greater (Infix o)) ≡ false → role g (t.Operator o) ≡ Operates o
role_by true operator.Greater h = absurd (cc)
role_by false operator.Greater h = refl
role_by g o h = refl

-- the words that are looked at with the token behind them
name_alone : (a : List ℕ) (g : Bool) (k : List Frame) (v : List Kind) → subscripts (next g v) ≡ false → answer (AfterName a g k) v ≡ answer (AfterOperand g (Name a) k) v
name_alone a g k [] h = refl
name_alone a g k (t.OpenBracket ∷ v) h = absurd (cc)
name_alone a g k (y ∷ v) h = refl

length_alone : (g : Bool) (k : List Frame) (v : List Kind) → begins_parenthesis v ≡ false → answer (AfterLength g k) v ≡ answer (AfterOperand g Length k) v
length_alone g k [] h = refl
length_alone g k (t.OpenParenthesis ∷ v) h = absurd (cc)
length_alone g k (y ∷ v) h = refl

getline_alone : (g : Bool) (k : List Frame) (v : List Kind) → begins_place v ≡ false → begins_less v ≡ false → answer (AfterGetline NoExpr g k) v ≡ answer (AfterOperand g (Getline NoExpr NoExpr) k) v
getline_alone g k [] h i = refl
getline_alone g k (t.Name a ∷ v) h i = absurd (cc)
getline_alone g k (t.Dollar ∷ v) h i = absurd (cc)
getline_alone g k (t.Operator operator.Less ∷ v) h i = absurd (cc)
getline_alone g k (y ∷ v) h i = refl

piped_alone : (c : Expr) (g : Bool) (k : List Frame) (v : List Kind) → begins_place v ≡ false → answer (AfterGetline (AnExpr c) g k) v ≡ answer (AfterOperand g (PipedGetline c NoExpr) k) v
piped_alone c g k [] h = refl
piped_alone c g k (t.Name a ∷ v) h = absurd (cc)
piped_alone c g k (t.Dollar ∷ v) h = absurd (cc)
piped_alone c g k (t.Operator operator.Less ∷ v) h = refl
piped_alone c g k (y ∷ v) h = refl

-- a getline with its place, and the `<` behind it
filed : (g : Bool) (p : Expr) (k : List Frame) (v : List Kind) → is_place p ≡ true → answer (AfterOperand g p (InGetlinePlace NoExpr ∷ k)) (t.Operator operator.Less ∷ v) ≡ answer (BeforeOperand false g (InGetlineFile (AnExpr p) ∷ k)) v
filed g p k v h =
    let n = and_right (leb (expr_precedence p) 9) false refl in
    ap (λ s. answer (after_reduced (Operates operator.Less) (t.Operator operator.Less) g s) v) (test_true _ _ _ (or_right (continues (Operates operator.Less) p 1) _ (or_right (stays_open (InGetlinePlace NoExpr) p) true refl)))
    ∙ ap (λ x. answer x v) (test_false _ _ _ n ∙ when_true _ _ h)

getline_place : (c : OptionalExpr) (g : Bool) (k : List Frame) (p : Expr) (u v : List Kind) → is_place p ≡ true → Spells p u v → answer (AfterGetline c g k) u ≡ answer (BeforeOperand false g (InGetlinePlace c ∷ k)) u
getline_place c g k (Name a) u v h p = ap (answer (AfterGetline c g k)) p ∙ sym (ap (answer (BeforeOperand false g (InGetlinePlace c ∷ k))) p)
getline_place c g k (Element a xs) u v h p = ap (answer (AfterGetline c g k)) p.1 ∙ sym (ap (answer (BeforeOperand false g (InGetlinePlace c ∷ k))) p.1)
getline_place c g k (Field e) u v h p = ap (answer (AfterGetline c g k)) p.1 ∙ sym (ap (answer (BeforeOperand false g (InGetlinePlace c ∷ k))) p.1)
getline_place c g k e u v h p = absurd (cc)

-- how an operand begins, when no sign begins it
abbrev First : Bool → List Kind → Type 0
First g ts = (next g ts ≡ Starts) ⊎ ((x : IncrementOperator) × (next g ts ≡ Increments x))

begins : (g : Bool) (e : Expr) (ts rest : List Kind) → Spells e ts rest → begins_sign ts ≡ false → First g ts
begins g (Number n) ts rest p h = inl (ap (next g) p)
begins g (String b) ts rest p h = inl (ap (next g) p)
begins g (Ere b) ts rest p h = inl (ap (next g) p)
begins g (Name a) ts rest p h = inl (ap (next g) p)
begins g (Element a xs) ts rest p h = inl (ap (next g) p.1)
begins g (Field e) ts rest p h = inl (ap (next g) p.1)
begins g (Group e) ts rest p h = inl (ap (next g) p.1)
begins g (Call f xs) ts rest p h = inl (ap (next g) p.1)
begins g (BuiltIn f xs) ts rest p h = inl (ap (next g) p.1)
begins g Length ts rest p h = inl (ap (next g) p.0)
begins g (PreIncrement x e) ts rest p h = inr (x, ap (next g) p.1)
begins g (PostIncrement x e) ts rest p h = begins g e ts (t.Increment x ∷ rest) p h
begins g (Getline to file) ts rest p h = inl (ap (next g) p.2)
begins g (PipedGetline c to) ts rest p h = begins g c ts (t.Bar ∷ t.Keyword word.Getline ∷ p.0) p.1 h
begins g (Unary prefix.Not e) ts rest p h = inl (ap (next g) p.1)
begins g (Unary prefix.Plus e) ts rest p h = let z : true ≡ false = sym (ap begins_sign p.1) ∙ h in absurd (cc)
begins g (Unary prefix.Minus e) ts rest p h = let z : true ≡ false = sym (ap begins_sign p.1) ∙ h in absurd (cc)
begins g (Binary o a b) ts rest p h = begins g a ts p.0 p.2 h
begins g (Membership e a) ts rest p h = begins g e ts (t.Keyword word.In ∷ t.Name a ∷ rest) p h
begins g (ListMembership xs a) ts rest p h = inl (ap (next g) p.1)
begins g (Conditional c a b) ts rest p h = begins g c ts (t.Question ∷ p.0) p.2 h
begins g (Assign o e x) ts rest p h = begins g e ts (t.Assign o ∷ p.0) p.1 h

-- at `++`, `a` being no place
go_on_step : (x : IncrementOperator) (y : Kind) (g : Bool) (a : Expr) (k : List Frame) → is_place a ≡ false → shift (Increments x) y g a k ≡ start_operand y false g (InBinary Concatenate a ∷ k)
go_on_step x y g a k h = test_false (is_place a) _ _ h

-- the next operand begins
starts : (g : Bool) (a : Expr) (k : List Frame) (v : List Kind) → First g v → StandsAsOperand a v → expr_precedence a ≤ 8 → 8 ≤ greatest_allowed_on k → answer (AfterOperand g a k) v ≡ answer (BeforeOperand false g (InBinary Concatenate a ∷ k)) v
starts g a k [] q s la lo = elim q [ inl r ↦ absurd (cc) | inr r ↦ let z = r.1 in absurd (cc) ]
starts g a k (y ∷ v) q s la lo =
    let f = and_from _ _ (le-leb (expr_precedence a) 8 la) (le-leb 8 (greatest_allowed_on k) lo) in
    elim q [
      | inl r ↦ ap (λ z. answer z v) (shifted y Starts g a k (starts_role g y v r) refl f)
      | inr r ↦
          let n = no_place g r.0 a (y ∷ v) r.1 s in
          ap (λ z. answer z v) (shifted y (Increments r.0) g a k (steps_role g r.0 y v r.1) refl (or_right (is_place a && leb 3 (greatest_allowed_on k)) _ f) ∙ go_on_step r.0 y g a k n)
    ]

operates : (o : Operator) (g : Bool) (a : Expr) (k : List Frame) (v : List Kind) → role g (t.Operator o) ≡ Operates o → expr_precedence a ≤ greatest_left (Infix o) → operator_precedence (Infix o) ≤ greatest_allowed_on k → answer (AfterOperand g a k) (t.Operator o ∷ v) ≡ answer (BeforeOperand (allows_newlines o) g (InBinary (Infix o) a ∷ k)) v
operates o g a k v q la lo =
    ap (λ s. answer s v) (shifted (t.Operator o) (Operates o) g a k q refl (and_from _ _ (le-leb (expr_precedence a) (greatest_left (Infix o)) la) (le-leb (operator_precedence (Infix o)) (greatest_allowed_on k) lo)))

abbrev loose : BinaryOperator → Bool
loose Concatenate = false
loose (Infix o) = allows_newlines o

-- from a left operand to the right one
joins : (o : BinaryOperator) (g : Bool) (a b : Expr) (k : List Frame) (ts u v rest : List Kind) → Joined o u v → Spells a ts u → StandsAsOperand a u → Spells b v rest → (g && is_greater o) ≡ false → expr_precedence a ≤ greatest_left o → operator_precedence o ≤ greatest_allowed_on k → answer (AfterOperand g a k) u ≡ answer (BeforeOperand (loose o) g (InBinary o a ∷ k)) v
joins Concatenate g a b k ts u v rest j p s q n la lo =
    ap (answer (AfterOperand g a k)) j.0 ∙ starts g a k v (begins g b v rest q j.1) (subst (StandsAsOperand a) j.0 s) la lo
joins (Infix o) g a b k ts u v rest j p s q n la lo =
    let r = role_by g o n in
    ap (answer (AfterOperand g a k)) j.1 ∙ operates o g a k (newlines_if (allows_newlines o) j.0 v) r la lo
    ∙ over_gap (allows_newlines o) j.0 g (InBinary (Infix o) a ∷ k) v

-- the left operand ends where the operator stands
left_stops : (o : BinaryOperator) (g : Bool) (a b : Expr) (ts u v rest : List Kind) → Joined o u v → (g && is_greater o) ≡ false → KeepsPrecedence g a → Spells a ts u → Spells b v rest → expr_precedence a ≤ greatest_left o → Stops (next g u) a
left_stops Concatenate g a b ts u v rest j n l p q h =
    elim (begins g b v rest q j.1) [
      | inl r ↦ let e = ap (next g) j.0 ∙ r in subst (λ z. Stops z a) (sym e) (stops Starts g a ts u e refl refl l p h)
      | inr r ↦ let e = ap (next g) j.0 ∙ r.1 in subst (λ z. Stops z a) (sym e) (stops (Increments r.0) g a ts u e refl refl l p h)
    ]
left_stops (Infix o) g a b ts u v rest j n l p q h =
    let e = ap (next g) j.1 ∙ role_by g o n in subst (λ z. Stops z a) (sym e) (stops (Operates o) g a ts u e refl refl l p h)

-- frames with a list
pub data ListFrame : Type 0 where
  OfGroup : (outer : Bool) → ListFrame
  OfCall : (f : List ℕ) (outer : Bool) → ListFrame
  OfBuiltIn : (f : BuiltInName) (outer : Bool) → ListFrame
  OfElement : (a : List ℕ) (outer : Bool) → ListFrame
  OfPrint : (how : PrintForm) → ListFrame
  OfDelete : (a : List ℕ) → ListFrame

abbrev pub frame : ListFrame → Exprs → Frame
frame (OfGroup o) xs = InGroup o xs
frame (OfCall f o) xs = InCall f o xs
frame (OfBuiltIn f o) xs = InBuiltIn f o xs
frame (OfElement a o) xs = InElement a o xs
frame (OfPrint how) xs = InPrint how xs
frame (OfDelete a) xs = InDelete a xs

abbrev pub flag : ListFrame → Bool
flag (OfPrint how) = true
flag q = false

comma : (q : ListFrame) (e : Expr) (done : Exprs) (k : List Frame) (ts : List Kind) → answer (AfterOperand (flag q) e (frame q done ∷ k)) (t.Comma ∷ ts) ≡ answer (BeforeOperand true (flag q) (frame q (append done e) ∷ k)) ts
comma (OfPrint how) e done k ts = refl
comma q e done k ts = refl

room : (q : ListFrame) (done : Exprs) (e : Expr) → right_precedence e ≤ greatest_allowed (frame q done)
room (OfPrint how) done e = precedence_most e
room q done e = precedence_most e

abbrev pub last : Expr → Exprs → Expr
last e Nil = e
last e (Cons d xs) = last d xs

abbrev pub front : Exprs → Expr → Exprs → Exprs
front done e Nil = done
front done e (Cons d xs) = front (append done e) d xs

abbrev pub plus : Exprs → Exprs → Exprs
plus Nil ys = ys
plus (Cons d xs) ys = Cons d (plus xs ys)

plus_one : (done : Exprs) (e : Expr) → append done e ≡ plus done (Cons e Nil)
plus_one Nil e = refl
plus_one (Cons d xs) e = ap (Cons d) (plus_one xs e)

plus_more : (done : Exprs) (e : Expr) (ys : Exprs) → plus (append done e) ys ≡ plus done (Cons e ys)
plus_more Nil e ys = refl
plus_more (Cons d xs) e ys = ap (Cons d) (plus_more xs e ys)

pub all_of : (done : Exprs) (e : Expr) (xs : Exprs) → append (front done e xs) (last e xs) ≡ plus done (Cons e xs)
all_of done e Nil = plus_one done e
all_of done e (Cons d xs) = all_of (append done e) d xs ∙ plus_more done e (Cons d xs)

front_more : (c : Expr) (done : Exprs) (e : Expr) (xs : Exprs) → front (Cons c done) e xs ≡ Cons c (front done e xs)
front_more c done e Nil = refl
front_more c done e (Cons d xs) = front_more c (append done e) d xs

-- a parenthesised list of two or more
pub close_list : (g : Bool) (c d : Expr) (ys : Exprs) (k : List Frame) (ts : List Kind) → answer (AfterOperand false (last d ys) (InGroup g (front (Cons c Nil) d ys) ∷ k)) (t.CloseParenthesis ∷ ts) ≡ answer (AfterList g (Cons c (Cons d ys)) k) ts
close_list g c d ys k ts =
    ap (λ z. answer (AfterOperand false (last d ys) (InGroup g z ∷ k)) (t.CloseParenthesis ∷ ts)) (front_more c Nil d ys)
    ∙ ap (λ z. answer (AfterList g (Cons c z) k) ts) (all_of Nil d ys)

built_in_begins : (f : BuiltInName) (s g : Bool) (k : List Frame) (u : List Kind) → answer (BeforeOperand s g k) (t.BuiltIn f ∷ t.OpenParenthesis ∷ u) ≡ answer (BeforeOperand false false (InBuiltIn f g Nil ∷ k)) u
built_in_begins built_in.Length s g k u = refl
built_in_begins f s g k u = refl

unary_begins : (o : UnaryOperator) (s g : Bool) (k : List Frame) (u : List Kind) → 5 ≤ greatest_allowed_on k → answer (BeforeOperand s g k) (prefix_of o ∷ u) ≡ answer (BeforeOperand false g (InUnary o ∷ k)) u
unary_begins prefix.Not s g k u h = ap (λ x. answer x u) (when_true _ _ (le-leb 5 (greatest_allowed_on k) h))
unary_begins o s g k u h = ap (λ x. answer x u) (when_true _ _ (le-leb 5 (greatest_allowed_on k) h))

bars : (g : Bool) (c : Expr) (k : List Frame) (u : List Kind) → expr_precedence c ≤ 9 → 9 ≤ greatest_allowed_on k → answer (AfterOperand g c k) (t.Bar ∷ t.Keyword word.Getline ∷ u) ≡ answer (AfterGetline (AnExpr c) g k) u
bars g c k u l h =
    let f = and_from _ _ (le-leb (expr_precedence c) 9 l) (le-leb 9 (greatest_allowed_on k) h) in
    ap (λ x. answer (AfterBar g x.operand x.stack) (t.Keyword word.Getline ∷ u)) (reduce_stops Pipes c k f) ∙ ap (λ x. answer x u) (when_true _ _ f)

-- what it is to have read a list in a frame
abbrev pub ListRead : ListFrame → Exprs → Exprs → List Kind → List Kind → Bool → List Frame → Type 0
ListRead q Nil done ts rest s k = ts ≡ rest
ListRead q (Cons e xs) done ts rest s k = answer (BeforeOperand s (flag q) (frame q done ∷ k)) ts ≡ answer (AfterOperand (flag q) (last e xs) (frame q (front done e xs) ∷ k)) rest

list_ends : (g : Bool) (xs : Exprs) (u rest : List Kind) → SpellsMore xs u rest → next g rest ≡ Ends → next g u ≡ Ends
list_ends g Nil u rest p n = ap (next g) p ∙ n
list_ends g (Cons e xs) u rest p n = ap (next g) p.3

element_read : (a : List ℕ) (xs : Exprs) (g : Bool) (k : List Frame) (u rest : List Kind) → 1 ≤ count xs → ListRead (OfElement a g) xs Nil u (t.CloseBracket ∷ rest) false k → answer (BeforeOperand false false (InElement a g Nil ∷ k)) u ≡ answer (AfterOperand g (Element a xs) k) rest
element_read a Nil g k u rest l r = absurd (omega (arith, l))
element_read a (Cons e xs) g k u rest l r = r ∙ ap (λ x. answer (AfterOperand g (Element a x) k) rest) (all_of Nil e xs)

call_read : (f : List ℕ) (xs : Exprs) (g : Bool) (k : List Frame) (u rest : List Kind) → ListRead (OfCall f g) xs Nil u (t.CloseParenthesis ∷ rest) false k → answer (BeforeOperand false false (InCall f g Nil ∷ k)) u ≡ answer (AfterOperand g (Call f xs) k) rest
call_read f Nil g k u rest r = ap (answer (BeforeOperand false false (InCall f g Nil ∷ k))) r
call_read f (Cons e xs) g k u rest r = r ∙ ap (λ x. answer (AfterOperand g (Call f x) k) rest) (all_of Nil e xs)

built_in_read : (f : BuiltInName) (xs : Exprs) (g : Bool) (k : List Frame) (u rest : List Kind) → accepts_list f xs ≡ true → ListRead (OfBuiltIn f g) xs Nil u (t.CloseParenthesis ∷ rest) false k → answer (BeforeOperand false false (InBuiltIn f g Nil ∷ k)) u ≡ answer (AfterOperand g (BuiltIn f xs) k) rest
built_in_read f Nil g k u rest l r = ap (answer (BeforeOperand false false (InBuiltIn f g Nil ∷ k))) r ∙ ap (λ x. answer x rest) (when_true _ _ l)
built_in_read f (Cons e xs) g k u rest l r =
    r ∙ ap (λ x. answer (when (accepts_list f x) (AfterOperand g (BuiltIn f x) k)) rest) (all_of Nil e xs) ∙ ap (λ x. answer x rest) (when_true _ _ l)

members_read : (xs : Exprs) (a : List ℕ) (g : Bool) (k : List Frame) (u rest : List Kind) → 2 ≤ count xs → 12 ≤ greatest_allowed_on k → ListRead (OfGroup g) xs Nil u (t.CloseParenthesis ∷ t.Keyword word.In ∷ t.Name a ∷ rest) false k → answer (BeforeOperand false false (InGroup g Nil ∷ k)) u ≡ answer (AfterOperand g (ListMembership xs a) k) rest
members_read Nil a g k u rest l h r = absurd (omega (arith, l))
members_read (Cons c Nil) a g k u rest l h r = absurd (omega (arith, l))
members_read (Cons c (Cons d ys)) a g k u rest l h r =
    r ∙ close_list g c d ys k (t.Keyword word.In ∷ t.Name a ∷ rest) ∙ ap (λ x. answer x (t.Name a ∷ rest)) (when_true _ _ (le-leb 12 (greatest_allowed_on k) h))

-- the word `getline`
getline_begins : (s g : Bool) (k : List Frame) (ts u : List Kind) → ts ≡ t.Keyword word.Getline ∷ u → 3 ≤ greatest_allowed_on k → answer (BeforeOperand s g k) ts ≡ answer (AfterGetline NoExpr g k) u
getline_begins s g k ts u p h = ap (answer (BeforeOperand s g k)) p ∙ ap (λ x. answer x u) (when_true _ _ (le-leb 3 (greatest_allowed_on k) h))

mutual
  pub complete : (e : Expr) (ts rest : List Kind) (s g : Bool) (k : List Frame) → KeepsPrecedence g e → Spells e ts rest → right_precedence e ≤ greatest_allowed_on k → Stops (next g rest) e → answer (BeforeOperand s g k) ts ≡ answer (AfterOperand g e k) rest
  complete (Number n) ts rest s g k l p h z = ap (answer (BeforeOperand s g k)) p
  complete (String b) ts rest s g k l p h z = ap (answer (BeforeOperand s g k)) p
  complete (Ere b) ts rest s g k l p h z = ap (answer (BeforeOperand s g k)) p
  complete (Name a) ts rest s g k l p h z = ap (answer (BeforeOperand s g k)) p ∙ name_alone a g k rest z
  complete Length ts rest s g k l p h z = ap (answer (BeforeOperand s g k)) p.0 ∙ length_alone g k rest p.1
  complete (Element a xs) ts rest s g k l p h z =
      ap (answer (BeforeOperand s g k)) p.1 ∙ element_read a xs g k p.0 rest l.0 (complete_list xs (OfElement a g) Nil p.0 (t.CloseBracket ∷ rest) false k l.1 p.2 refl)
  complete (Field e) ts rest s g k l p h z =
      ap (answer (BeforeOperand s g k)) p.1 ∙ complete e p.0 rest false g (InField ∷ k) l.1 p.2 (as_right e 2 l.0) z.1 ∙ reduced g InField k e rest refl refl z.0
  complete (Group e) ts rest s g k l p h z =
      ap (answer (BeforeOperand s g k)) p.1 ∙ complete e p.0 (t.CloseParenthesis ∷ rest) false false (InGroup g Nil ∷ k) l p.2 (precedence_most e) (stops_end false e l)
  complete (Call f xs) ts rest s g k l p h z =
      ap (answer (BeforeOperand s g k)) p.1 ∙ call_read f xs g k p.0 rest (complete_list xs (OfCall f g) Nil p.0 (t.CloseParenthesis ∷ rest) false k l p.2 refl)
  complete (BuiltIn f xs) ts rest s g k l p h z =
      ap (answer (BeforeOperand s g k)) p.1 ∙ built_in_begins f s g k p.0
      ∙ built_in_read f xs g k p.0 rest l.0 (complete_list xs (OfBuiltIn f g) Nil p.0 (t.CloseParenthesis ∷ rest) false k l.1 p.2 refl)
  complete (PreIncrement x e) ts rest s g k l p h z =
      let m = place_precedence e l.0 in
      ap (answer (BeforeOperand s g k)) p.1 ∙ ap (λ x. answer x p.0) (when_true _ _ (le-leb 2 (greatest_allowed_on k) h))
      ∙ complete e p.0 rest false g (InPreIncrement x ∷ k) l.1 p.2 m z.1 ∙ reduced g (InPreIncrement x) k e rest (ap not l.0) refl z.0
  complete (PostIncrement x e) ts rest s g k l p h z =
      let m = place_precedence e l.0 in
      let m' : right_precedence e ≤ greatest_allowed_on k = omega arith in
      complete e ts (t.Increment x ∷ rest) s g k l.1 p m' (tight_place (Increments x) g e refl l.1 l.0)
      ∙ ap (λ y. answer y rest) (shifted (t.Increment x) (Increments x) g e k refl refl (or_left _ _ (and_from _ _ l.0 (le-leb 3 (greatest_allowed_on k) h))) ∙ test_true (is_place e) _ _ l.0)
  complete (Getline NoExpr NoExpr) ts rest s g k l p h z =
      getline_begins s g k ts p.0 p.2 h ∙ ap (answer (AfterGetline NoExpr g k)) (p.3.0 ∙ p.4.0) ∙ getline_alone g k rest (ap begins_place (sym p.4.0) ∙ p.3.1) p.4.1
  complete (Getline (AnExpr e) NoExpr) ts rest s g k l p h z =
      getline_begins s g k ts p.0 p.2 h ∙ getline_place NoExpr g k e p.0 p.1 l.0.0 p.3
      ∙ complete e p.0 p.1 false g (InGetlinePlace NoExpr ∷ k) l.0.1 p.3 (place_precedence e l.0.0) (subst (λ x. Stops (next g x) e) (sym p.4.0) z.1)
      ∙ ap (answer (AfterOperand g e (InGetlinePlace NoExpr ∷ k))) p.4.0 ∙ reduced g (InGetlinePlace NoExpr) k e rest (ap not l.0.0) (no_file g rest p.4.1) z.0
  complete (Getline NoExpr (AnExpr e)) ts rest s g k l p h z =
      let q = p.4 in
      getline_begins s g k ts p.0 p.2 h ∙ ap (answer (AfterGetline NoExpr g k)) (p.3.0 ∙ q.1)
      ∙ complete e q.0 rest false g (InGetlineFile NoExpr ∷ k) l.1.1 q.2 (as_right e 1 l.1.0) z.1 ∙ reduced g (InGetlineFile NoExpr) k e rest refl refl z.0
  complete (Getline (AnExpr d) (AnExpr e)) ts rest s g k l p h z =
      let q = p.4 in
      getline_begins s g k ts p.0 p.2 h ∙ getline_place NoExpr g k d p.0 p.1 l.0.0 p.3
      ∙ complete d p.0 p.1 false g (InGetlinePlace NoExpr ∷ k) l.0.1 p.3 (place_precedence d l.0.0) (tight_place (next g p.1) g d (ap (λ x. subscripts (next g x)) q.1) l.0.1 l.0.0)
      ∙ ap (answer (AfterOperand g d (InGetlinePlace NoExpr ∷ k))) q.1 ∙ filed g d k q.0 l.0.0
      ∙ complete e q.0 rest false g (InGetlineFile (AnExpr d) ∷ k) l.1.1 q.2 (as_right e 1 l.1.0) z.1 ∙ reduced g (InGetlineFile (AnExpr d)) k e rest refl refl z.0
  complete (PipedGetline c to) ts rest s g k l p h z =
      let m : right_precedence c ≤ greatest_allowed_on k = omega (arith, as_right c 9 l.0) in
      complete c ts (t.Bar ∷ t.Keyword word.Getline ∷ p.0) s g k l.1 p.1 m (stops Pipes g c ts (t.Bar ∷ t.Keyword word.Getline ∷ p.0) refl refl refl l.1 p.1 l.0)
      ∙ bars g c k p.0 l.0 h ∙ complete_to c to p.0 rest g k l.2 p.2 z
  complete (Unary o e) ts rest s g k l p h z =
      ap (answer (BeforeOperand s g k)) p.1 ∙ unary_begins o s g k p.0 h
      ∙ complete e p.0 rest false g (InUnary o ∷ k) l.1 p.2 (as_right e 5 l.0) z.1 ∙ reduced g (InUnary o) k e rest refl refl z.0
  complete (Binary o a b) ts rest s g k l p h z =
      let m : right_precedence a ≤ greatest_allowed_on k = omega (arith, bounds o, as_right a (greatest_left o) l.0) in
      complete a ts p.0 s g k l.2 p.2 m (left_stops o g a b ts p.0 p.1 rest p.4 l.4 l.2 p.2 p.5 l.0)
      ∙ joins o g a b k ts p.0 p.1 rest p.4 p.2 p.3 p.5 l.4 l.0 h
      ∙ complete b p.1 rest (loose o) g (InBinary o a ∷ k) l.3 p.5 l.1 z.1 ∙ reduced g (InBinary o a) k b rest refl refl z.0
  complete (Membership e a) ts rest s g k l p h z =
      let m : right_precedence e ≤ greatest_allowed_on k = omega (arith, as_right e 12 l.0) in
      complete e ts (t.Keyword word.In ∷ t.Name a ∷ rest) s g k l.1 p m (stops TestsMembership g e ts (t.Keyword word.In ∷ t.Name a ∷ rest) refl refl refl l.1 p l.0)
      ∙ ap (λ y. answer y (t.Name a ∷ rest)) (shifted (t.Keyword word.In) TestsMembership g e k refl refl (and_from _ _ (le-leb (expr_precedence e) 12 l.0) (le-leb 12 (greatest_allowed_on k) h)))
  complete (ListMembership xs a) ts rest s g k l p h z =
      ap (answer (BeforeOperand s g k)) p.1
      ∙ members_read xs a g k p.0 rest l.0 h (complete_list xs (OfGroup g) Nil p.0 (t.CloseParenthesis ∷ t.Keyword word.In ∷ t.Name a ∷ rest) false k l.1 p.2 refl)
  complete (Conditional c a b) ts rest s g k l p h z =
      let m : right_precedence c ≤ greatest_allowed_on k = omega (arith, as_right c 14 l.0) in
      complete c ts (t.Question ∷ p.0) s g k l.1 p.2 m (stops Asks g c ts (t.Question ∷ p.0) refl refl refl l.1 p.2 l.0)
      ∙ ap (λ y. answer y p.0) (shifted t.Question Asks g c k refl refl (and_from _ _ (le-leb (expr_precedence c) 14 l.0) (le-leb 15 (greatest_allowed_on k) h)))
      ∙ complete a p.0 (t.Colon ∷ p.1) false g (InFirstChoice c ∷ k) l.2 p.3 (precedence_most a) (stops_end g a l.2)
      ∙ complete b p.1 rest false g (InSecondChoice c a ∷ k) l.3 p.4 (precedence_most b) z.1 ∙ reduced g (InSecondChoice c a) k b rest refl refl z.0
  complete (Assign o e x) ts rest s g k l p h z =
      let m = place_precedence e l.0 in
      let m' : right_precedence e ≤ greatest_allowed_on k = omega arith in
      complete e ts (t.Assign o ∷ p.0) s g k l.1 p.1 m' (tight_place (Assigns o) g e refl l.1 l.0)
      ∙ ap (λ y. answer y p.0) (shifted (t.Assign o) (Assigns o) g e k refl refl (and_from _ _ l.0 (le-leb 12 (greatest_allowed_on k) h)))
      ∙ complete x p.0 rest false g (InAssign o e ∷ k) l.2 p.2 (precedence_most x) z.1 ∙ reduced g (InAssign o e) k x rest refl refl z.0

  complete_to : (c : Expr) (to : OptionalExpr) (ts rest : List Kind) (g : Bool) (k : List Frame) → PlaceKeepsPrecedence g to → SpellsPlace to ts rest → StopsTo (next g rest) to → answer (AfterGetline (AnExpr c) g k) ts ≡ answer (AfterOperand g (PipedGetline c to) k) rest
  complete_to c NoExpr ts rest g k l p z = ap (answer (AfterGetline (AnExpr c) g k)) p.0 ∙ piped_alone c g k rest p.1
  complete_to c (AnExpr e) ts rest g k l p z =
      getline_place (AnExpr c) g k e ts rest l.0 p ∙ complete e ts rest false g (InGetlinePlace (AnExpr c) ∷ k) l.1 p (place_precedence e l.0) z.1 ∙ reduced g (InGetlinePlace (AnExpr c)) k e rest (ap not l.0) refl z.0

  -- a list in a frame, after which a token comes that ends it
  pub complete_list : (xs : Exprs) (q : ListFrame) (done : Exprs) (ts rest : List Kind) (s : Bool) (k : List Frame) → AllKeepPrecedence (flag q) xs → SpellsList xs ts rest → next (flag q) rest ≡ Ends → ListRead q xs done ts rest s k
  complete_list Nil q done ts rest s k l p n = p
  complete_list (Cons e xs) q done ts rest s k l p n =
      complete e ts p.0 s (flag q) (frame q done ∷ k) l.0 p.1 (room q done e) (subst (λ x. Stops x e) (sym (list_ends (flag q) xs p.0 rest p.2 n)) (stops_end (flag q) e l.0))
      ∙ complete_more xs q e done p.0 rest k l.1 p.2 n

  complete_more : (xs : Exprs) (q : ListFrame) (e : Expr) (done : Exprs) (u rest : List Kind) (k : List Frame) → AllKeepPrecedence (flag q) xs → SpellsMore xs u rest → next (flag q) rest ≡ Ends → answer (AfterOperand (flag q) e (frame q done ∷ k)) u ≡ answer (AfterOperand (flag q) (last e xs) (frame q (front done e xs) ∷ k)) rest
  complete_more Nil q e done u rest k l p n = ap (answer (AfterOperand (flag q) e (frame q done ∷ k))) p
  complete_more (Cons d xs) q e done u rest k l p n =
      ap (answer (AfterOperand (flag q) e (frame q done ∷ k))) p.3 ∙ comma q e done k (newlines p.0 p.1)
      ∙ over_newlines p.0 (flag q) (frame q (append done e) ∷ k) p.1
      ∙ complete d p.1 p.2 true (flag q) (frame q (append done e) ∷ k) l.0 p.4 (room q (append done e) d) (subst (λ x. Stops x d) (sym (list_ends (flag q) xs p.2 rest p.5 n)) (stops_end (flag q) d l.0))
      ∙ complete_more xs q d (append done e) p.2 rest k l.1 p.5 n
