-- Where the right edge of a tree ends.
use Rattle.std.proofs.Common.{◌≡◌, ℕ, ◌≤◌, ◌<◌, Bool, true, false, cond, ◌&&◌, ◌||◌, ◌⊎◌, inl, inr, List, [], ◌∷◌, refl, sym, ap, ◌∙◌, arith}
use Rattle.std.proofs.lemmas.Bool.{lt-leb, and_right, and_left}
use Rattle.awk_lex.specs.declared.token.Kind.{Kind}
use Rattle.awk_lex.specs.declared.token.Operator.{Operator}
use Rattle.awk_lex.specs.declared.token.IncrementOperator.{IncrementOperator}
use Rattle.awk_grammar.specs.declared.tree.BinaryOperator.{BinaryOperator}
use Rattle.awk_grammar.specs.declared.tree.BinaryOperator.TheVariants.{Concatenate, Infix}
use Rattle.awk_lex.specs.declared.token.Kind.TheVariants as t
use Rattle.awk_lex.specs.declared.token.Keyword.TheVariants as word
use Rattle.awk_lex.specs.declared.token.Operator.TheVariants as operator
use Rattle.awk_grammar.specs.definitions.Tree.{Expr, Name, Element, Field, PreIncrement, Getline, PipedGetline, Unary, Binary, Conditional, Assign, OptionalExpr, NoExpr, AnExpr}
use Rattle.awk_grammar.specs.definitions.Precedence.{operator_precedence, greatest_left, greatest_right, ends_in_assignment, right_precedence, expr_precedence}
use Rattle.awk_grammar.specs.definitions.Arguments.{is_place}
use Rattle.awk_grammar.specs.definitions.OperandsAllowed.{KeepsPrecedence, PlaceKeepsPrecedence}
use Rattle.awk_grammar.specs.definitions.SpellingOfExpressions.{begins_increment, begins_less, StandsAsOperand, Spells}
use Rattle.awk_grammar.specs.support.InfixRole.{InfixRole, Operates, Increments, Assigns, Starts, TestsMembership, Pipes, Asks, Subscripts, Ends, role, is_less, greatest_operand, least_allowed}
use Rattle.awk_grammar.specs.support.UnlimitedState.{continues}

-- behind a bar
abbrev pub pipes : List Kind → InfixRole
pipes (t.Keyword word.Getline ∷ ts) = Pipes
pipes ts = Ends

-- what the next token does, a bar seen with the token behind it
abbrev pub next : Bool → List Kind → InfixRole
next g [] = Ends
next g (t.Bar ∷ ts) = pipes ts
next g (y ∷ ts) = role g y

abbrev pub subscripts : InfixRole → Bool
subscripts Subscripts = true
subscripts r = false

-- no node at the right edge goes on with what follows
abbrev mutual
  pub Stops : InfixRole → Expr → Type 0
  Stops r (Name a) = subscripts r ≡ false
  Stops r (Field e) = (continues r e 2 ≡ false) × Stops r e
  Stops r (PreIncrement x e) = (continues r e 1 ≡ false) × Stops r e
  Stops r (Getline to NoExpr) = StopsTo r to
  Stops r (Getline to (AnExpr e)) = (continues r e 1 ≡ false) × Stops r e
  Stops r (PipedGetline c to) = StopsTo r to
  Stops r (Unary o e) = (continues r e 5 ≡ false) × Stops r e
  Stops r (Binary o a b) = (continues r b (greatest_right o) ≡ false) × Stops r b
  Stops r (Conditional c a b) = (continues r b 16 ≡ false) × Stops r b
  Stops r (Assign o p e) = (continues r e 16 ≡ false) × Stops r e
  Stops r e = Unit {0}

  pub StopsTo : InfixRole → OptionalExpr → Type 0
  StopsTo r NoExpr = Unit {0}
  StopsTo r (AnExpr p) = (continues r p 1 ≡ false) × Stops r p

record Plain (o : BinaryOperator) : Type 0 where
  precedence_least : 6 ≤ operator_precedence o
  left_least : 6 ≤ greatest_left o
  left_most : greatest_left o ≤ operator_precedence o
  right_most : greatest_right o < operator_precedence o
  precedence_most : operator_precedence o ≤ 14

record Tightest (o : BinaryOperator) : Type 0 where
  its_level : operator_precedence o ≡ 4
  its_left : greatest_left o ≡ 3
  its_right : greatest_right o ≡ 5

-- the table, seen as numbers
table_by : (o : Operator) → Plain (Infix o) ⊎ Tightest (Infix o)
table_by operator.Power = inr (record { its_level = refl; its_left = refl; its_right = refl })
table_by o = inl (record { precedence_least = omega arith; left_least = omega arith; left_most = omega arith; right_most = omega arith; precedence_most = omega arith })

table : (o : BinaryOperator) → Plain o ⊎ Tightest o
table Concatenate = inl (record { precedence_least = omega arith; left_least = omega arith; left_most = omega arith; right_most = omega arith; precedence_most = omega arith })
table (Infix o) = table_by o

pub bounds : (o : BinaryOperator) → (4 ≤ operator_precedence o) × (greatest_left o ≤ operator_precedence o) × (operator_precedence o ≤ 14) × (greatest_right o ≤ 13)
bounds o = elim (table o) [ inl p ↦ (omega arith, p.left_most, p.precedence_most, omega arith) | inr p ↦ (omega arith, omega arith, omega arith, omega arith) ]

pub right_precedence_most : (e : Expr) → right_precedence e ≤ 15
right_precedence_most (Binary o a b) = omega (arith, bounds o)
right_precedence_most e = omega arith

-- what binds tighter than a membership has no assignment at its end
right_low : (o : BinaryOperator) → operator_precedence o ≤ 11 → greatest_right o ≤ 11
right_low o l = elim (table o) [ inl p ↦ omega (arith, p.right_most) | inr p ↦ omega (arith, p.its_right) ]

tight_end : (g : Bool) (e : Expr) → KeepsPrecedence g e → right_precedence e ≤ 11 → ends_in_assignment e ≡ false
tight_end g (Binary o a b) l h = tight_end g b l.3 (omega (arith, l.1, right_low o h))
tight_end g (Conditional c a b) l h = absurd (omega arith)
tight_end g (Assign o p e) l h = absurd (omega arith)
tight_end g e l h = refl

pub precedence_most : (e : Expr) → right_precedence e ≤ 16
precedence_most e = omega (arith, right_precedence_most e)

-- an operand that may stand anywhere may stand right of an operator
pub right_by : (b : Bool) (n h : ℕ) → n ≤ 15 → cond b 16 n ≤ h → n ≤ h
right_by true n h l m = omega (arith, l, m)
right_by false n h l m = m

pub as_right : (e : Expr) (h : ℕ) → expr_precedence e ≤ h → right_precedence e ≤ h
as_right e h l = right_by (ends_in_assignment e) (right_precedence e) h (right_precedence_most e) l

-- what is tighter than an assignment ends in none
pub no_end : (b : Bool) (n h : ℕ) → cond b 16 n ≤ h → h ≤ 15 → (b ≡ false) × (n ≤ h)
no_end true n h l m = absurd (omega (arith, l, m))
no_end false n h l m = (refl, l)

without_end : (b : Bool) (n h : ℕ) → b ≡ false → n ≤ h → cond b 16 n ≤ h
without_end true n h e l = absurd (cc)
without_end false n h e l = l

pub as_any : (e : Expr) (h : ℕ) → ends_in_assignment e ≡ false → right_precedence e ≤ h → expr_precedence e ≤ h
as_any e h q l = without_end (ends_in_assignment e) (right_precedence e) h q l

pub as_tight : (g : Bool) (e : Expr) (h : ℕ) → h ≤ 11 → KeepsPrecedence g e → right_precedence e ≤ h → expr_precedence e ≤ h
as_tight g e h i l m = as_any e h (tight_end g e l (omega arith)) m

pub place_precedence : (e : Expr) → is_place e ≡ true → right_precedence e ≤ 1
place_precedence (Name a) h = omega arith
place_precedence (Element a xs) h = omega arith
place_precedence (Field e) h = omega arith
place_precedence e h = absurd (cc)

-- the tokens that go on with an operand
abbrev pub goes : InfixRole → Bool
goes (Assigns o) = false
goes Subscripts = false
goes Ends = false
goes r = true

record Wide (r : InfixRole) : Type 0 where
  least : 6 ≤ greatest_operand r
  above : greatest_operand r ≤ least_allowed r
  below : greatest_operand r ≤ 14

record Narrow (r : InfixRole) : Type 0 where
  its_most : greatest_operand r ≡ 3
  its_need : least_allowed r ≡ 4

wide_by : (o : Operator) → Wide (Operates o) ⊎ Narrow (Operates o)
wide_by operator.Power = inr (record { its_most = refl; its_need = refl })
wide_by o = inl (record { least = omega arith; above = omega arith; below = omega arith })

wide : (r : InfixRole) → goes r ≡ true → Wide r ⊎ Narrow r
wide (Operates o) h = wide_by o
wide (Assigns o) h = absurd (cc)
wide Subscripts h = absurd (cc)
wide Ends h = absurd (cc)
wide r h = inl (record { least = omega arith; above = omega arith; below = omega arith })

-- an operator that takes a tree as its left operand doesn't go on with the tree's right edge
clash : (r : InfixRole) (j : BinaryOperator) → goes r ≡ true → operator_precedence j ≤ greatest_operand r → (greatest_right j < least_allowed r) × (greatest_right j ≤ greatest_operand r)
clash r j g h = elim (wide r g) [
  | inl p ↦ elim (table j) [ inl q ↦ (omega arith, omega arith) | inr q ↦ (omega arith, omega arith) ]
  | inr p ↦ elim (table j) [ inl q ↦ absurd (omega arith) | inr q ↦ absurd (omega arith) ]
]

unary_clash : (r : InfixRole) → goes r ≡ true → 5 ≤ greatest_operand r → 5 < least_allowed r
unary_clash r g h = elim (wide r g) [ inl p ↦ omega arith | inr p ↦ absurd (omega arith) ]

most_below : (r : InfixRole) → goes r ≡ true → greatest_operand r ≤ 14
most_below r g = elim (wide r g) [ inl p ↦ p.below | inr p ↦ omega arith ]

pub neither : (x y : Bool) → x ≡ false → y ≡ false → (x || y) ≡ false
neither true y h i = absurd (cc)
neither false y h i = i

low : (r : InfixRole) (e : Expr) (h : ℕ) → h ≤ 2 → right_precedence e ≤ 2 → continues r e h ≡ false
low (Operates o) e h i l = and_right _ _ (lt-leb (operator_precedence (Infix o)) h (omega (arith, bounds (Infix o))))
low (Increments x) e h i l = neither _ _ (and_right _ _ (lt-leb 3 h (omega arith))) (and_right _ _ (lt-leb 8 h (omega arith)))
low (Assigns o) e h i l = and_right _ _ (lt-leb 12 h (omega arith))
low Starts e h i l = and_right _ _ (lt-leb 8 h (omega arith))
low TestsMembership e h i l = and_right _ _ (lt-leb 12 h (omega arith))
low Pipes e h i l = and_right _ _ (lt-leb 9 h (omega arith))
low Asks e h i l = and_right _ _ (lt-leb 15 h (omega arith))
low Subscripts e h i l = refl
low Ends e h i l = refl

pub tight : (r : InfixRole) (g : Bool) (e : Expr) → subscripts r ≡ false → KeepsPrecedence g e → right_precedence e ≤ 2 → Stops r e
tight r g (Name a) q l h = q
tight r g (Field e) q l h = let m = as_right e 2 l.0 in (low r e 2 (omega arith) m, tight r g e q l.1 m)
tight r g (PreIncrement x e) q l h = let n = place_precedence e l.0 in (low r e 1 (omega arith) (omega arith), tight r g e q l.1 (omega arith))
tight r g (Getline to file) q l h = absurd (omega arith)
tight r g (Unary o e) q l h = absurd (omega arith)
tight r g (Binary o a b) q l h = absurd (omega (arith, bounds o))
tight r g (PipedGetline c to) q l h = absurd (omega arith)
tight r g (Conditional c a b) q l h = absurd (omega arith)
tight r g (Assign o p e) q l h = absurd (omega arith)
tight r g e q l h = tt

pub tight_place : (r : InfixRole) (g : Bool) (e : Expr) → subscripts r ≡ false → KeepsPrecedence g e → is_place e ≡ true → Stops r e
tight_place r g e q l h = let n = place_precedence e h in tight r g e q l (omega arith)

pub to_stops : (r : InfixRole) (g : Bool) (to : OptionalExpr) → subscripts r ≡ false → PlaceKeepsPrecedence g to → StopsTo r to
to_stops r g NoExpr q l = tt
to_stops r g (AnExpr p) q l = let n = place_precedence p l.0 in (low r p 1 (omega arith) (omega arith), tight r g p q l.1 (omega arith))

pub stops_end : (g : Bool) (e : Expr) → KeepsPrecedence g e → Stops Ends e
stops_end g (Name a) l = refl
stops_end g (Field e) l = (refl, stops_end g e l.1)
stops_end g (PreIncrement x e) l = (refl, stops_end g e l.1)
stops_end g (Getline to NoExpr) l = to_stops Ends g to refl l.0
stops_end g (Getline to (AnExpr e)) l = (refl, stops_end g e l.1.1)
stops_end g (PipedGetline c to) l = to_stops Ends g to refl l.2
stops_end g (Unary o e) l = (refl, stops_end g e l.1)
stops_end g (Binary o a b) l = (refl, stops_end g b l.3)
stops_end g (Conditional c a b) l = (refl, stops_end g b l.3)
stops_end g (Assign o p e) l = (refl, stops_end g e l.2)
stops_end g e l = tt

-- what only `++` and `--` go on with
abbrev special : InfixRole → Expr → Bool
special (Increments x) e = is_place e
special r e = false

continues_not : (r : InfixRole) (e : Expr) (h : ℕ) → goes r ≡ true → special r e ≡ false → h < least_allowed r → continues r e h ≡ false
continues_not (Operates o) e h g s n = and_right _ _ (lt-leb (operator_precedence (Infix o)) h n)
continues_not (Increments x) e h g s n = neither _ _ (and_left _ _ s) (and_right _ _ (lt-leb 8 h n))
continues_not (Assigns o) e h g s n = absurd (cc)
continues_not Starts e h g s n = and_right _ _ (lt-leb 8 h n)
continues_not TestsMembership e h g s n = and_right _ _ (lt-leb 12 h n)
continues_not Pipes e h g s n = and_right _ _ (lt-leb 9 h n)
continues_not Asks e h g s n = and_right _ _ (lt-leb 15 h n)
continues_not Subscripts e h g s n = refl
continues_not Ends e h g s n = refl

less_by : (g : Bool) (o : Operator) (ts : List Kind) → role g (t.Operator o) ≡ Operates operator.Less → begins_less (t.Operator o ∷ ts) ≡ true
less_by g operator.Less ts h = refl
less_by true operator.Greater ts h = absurd (cc)
less_by false operator.Greater ts h = absurd (cc)
less_by g o ts h = absurd (cc)

pipes_or_ends : (ts : List Kind) → (pipes ts ≡ Pipes) ⊎ (pipes ts ≡ Ends)
pipes_or_ends [] = inr refl
pipes_or_ends (t.Keyword word.Getline ∷ ts) = inl refl
pipes_or_ends (y ∷ ts) = inr refl

less_next : (g : Bool) (ts : List Kind) → next g ts ≡ Operates operator.Less → begins_less ts ≡ true
less_next g [] h = absurd (cc)
less_next g (t.Operator o ∷ ts) h = less_by g o ts h
less_next g (t.Bar ∷ ts) h = elim (pipes_or_ends ts) [ inl q ↦ absurd (cc) | inr q ↦ absurd (cc) ]
less_next g (t.Keyword word.In ∷ ts) h = absurd (cc)
less_next g (y ∷ ts) h = absurd (cc)

step_by : (g : Bool) (o : Operator) (x : IncrementOperator) → role g (t.Operator o) ≡ Increments x → ⊥
step_by true operator.Greater x h = absurd (cc)
step_by false operator.Greater x h = absurd (cc)
step_by g o x h = absurd (cc)

pub step_next : (g : Bool) (x : IncrementOperator) (ts : List Kind) → next g ts ≡ Increments x → begins_increment ts ≡ true
step_next g x [] h = absurd (cc)
step_next g x (t.Increment y ∷ ts) h = refl
step_next g x (t.Operator o ∷ ts) h = absurd (step_by g o x h)
step_next g x (t.Bar ∷ ts) h = elim (pipes_or_ends ts) [ inl q ↦ absurd (cc) | inr q ↦ absurd (cc) ]
step_next g x (t.Keyword word.In ∷ ts) h = absurd (cc)
step_next g x (y ∷ ts) h = absurd (cc)

pub starts_role : (g : Bool) (y : Kind) (ts : List Kind) → next g (y ∷ ts) ≡ Starts → role g y ≡ Starts
starts_role g t.Bar ts h = elim (pipes_or_ends ts) [ inl q ↦ absurd (cc) | inr q ↦ absurd (cc) ]
starts_role g y ts h = h

pub steps_role : (g : Bool) (x : IncrementOperator) (y : Kind) (ts : List Kind) → next g (y ∷ ts) ≡ Increments x → role g y ≡ Increments x
steps_role g x t.Bar ts h = elim (pipes_or_ends ts) [ inl q ↦ absurd (cc) | inr q ↦ absurd (cc) ]
steps_role g x y ts h = h

less_role : (r : InfixRole) → is_less r ≡ true → r ≡ Operates operator.Less
less_role (Operates operator.Less) h = refl
less_role (Operates o) h = absurd (cc)
less_role r h = absurd (cc)

by_less : (x : Bool) (r : InfixRole) (ts : List Kind) → is_less r ≡ x → (r ≡ Operates operator.Less → begins_less ts ≡ true) → begins_less ts ≡ false → is_less r ≡ false
by_less true r ts q f l = let z = f (less_role r q) in absurd (cc)
by_less false r ts q f l = q

-- a getline without a file isn't followed by `<`
pub no_file : (g : Bool) (rest : List Kind) → begins_less rest ≡ false → is_less (next g rest) ≡ false
no_file g rest l = by_less (is_less (next g rest)) (next g rest) rest refl (less_next g rest) l

and_true : (x : Bool) → (x && true) ≡ false → x ≡ false
and_true true h = h
and_true false h = refl

pub no_place : (g : Bool) (x : IncrementOperator) (e : Expr) (rest : List Kind) → next g rest ≡ Increments x → StandsAsOperand e rest → is_place e ≡ false
no_place g x e rest h s = and_true (is_place e) (sym (ap (λ b. is_place e && b) (step_next g x rest h)) ∙ s)

ordinary : (r : InfixRole) (g : Bool) (e : Expr) (ts rest : List Kind) → next g rest ≡ r → Spells e ts rest → StandsAsOperand e rest → special r e ≡ false
ordinary (Increments x) g e ts rest h p s = no_place g x e rest h s
ordinary r g e ts rest h p s = refl

-- a left operand's right edge ends where the next token goes on with the whole
pub stops : (r : InfixRole) (g : Bool) (e : Expr) (ts rest : List Kind) → next g rest ≡ r → goes r ≡ true → subscripts r ≡ false → KeepsPrecedence g e → Spells e ts rest → expr_precedence e ≤ greatest_operand r → Stops r e
stops r g (Name a) ts rest n o q l p h = q
stops r g (Field e) ts rest n o q l p h = let m = as_right e 2 l.0 in (low r e 2 (omega arith) m, tight r g e q l.1 m)
stops r g (PreIncrement x e) ts rest n o q l p h = let m = place_precedence e l.0 in (low r e 1 (omega arith) (omega arith), tight r g e q l.1 (omega arith))
stops r g (Getline to NoExpr) ts rest n o q l p h = to_stops r g to q l.0
stops r g (Getline to (AnExpr e)) ts rest n o q l p h =
    let m = as_right e 1 l.1.0 in
    (low r e 1 (omega arith) (omega arith), tight r g e q l.1.1 (omega arith))
stops r g (PipedGetline c to) ts rest n o q l p h = to_stops r g to q l.2
stops r g (Unary x e) ts rest n o q l p h =
    (continues_not r e 5 o (ordinary r g e p.0 rest n p.2 p.3) (unary_clash r o h), stops r g e p.0 rest n o q l.1 p.2 (omega arith))
stops r g (Binary j a b) ts rest n o q l p h =
    let d = no_end (ends_in_assignment b) (operator_precedence j) (greatest_operand r) h (omega (arith, most_below r o)) in
    let c = clash r j o d.1 in
    (continues_not r b (greatest_right j) o (ordinary r g b p.1 rest n p.5 p.6) c.0, stops r g b p.1 rest n o q l.3 p.5 (as_any b (greatest_operand r) d.0 (omega (arith, c.1, l.1))))
stops r g (Conditional c a b) ts rest n o q l p h =
    let d = no_end (ends_in_assignment b) 15 (greatest_operand r) h (omega (arith, most_below r o)) in
    absurd (omega (arith, most_below r o, d.1))
stops r g (Assign x d e) ts rest n o q l p h = absurd (omega (arith, most_below r o))
stops r g e ts rest n o q l p h = tt
