-- One step of a reduction: it stops, or makes the node on top.
use Rattle.std.proofs.Common.{◌≡◌, Bool, true, false, not, ◌||◌, cond, List, [], ◌∷◌, Option, Some, None, refl, sym, ap, ◌∙◌}
use Rattle.awk_grammar.specs.definitions.Height.{max_height}
use Rattle.awk_grammar.specs.support.InfixRole as role
use Rattle.awk_grammar.specs.support.Parser as parser
use Rattle.awk_frames.specs.declared.frame.Frame.{Frame}
use Rattle.awk_frames.specs.declared.frame.Frame.TheVariants as frame
use Rattle.awk_frames.specs.declared.frame.NodeFrame.{NodeFrame}
use Rattle.awk_frames.specs.declared.frame.ListHead.{ListHead}
use Rattle.awk_frames.specs.declared.frame.ListHead.TheVariants as list
use Rattle.awk_frames.specs.declared.frame.ExpressionFrame.{ExpressionFrame}
use Rattle.awk_frames.specs.declared.frame.ExpressionFrame.TheVariants as expression
use Rattle.awk_frames.specs.declared.frame.BodyFrame.{BodyFrame}
use Rattle.awk_frames.specs.declared.frame.BodyFrame.TheVariants as body
use Rattle.awk_frames.specs.support.FrameView.{list_of, list_frame_of, expression_frame_of, body_frame_of, frame_of, stack_of, popped}
use Rattle.awk_frames.specs.support.Ended.{is_ended, is_top_ended, Ends}

cond_true : {A : Type 0} (b : Bool) (x y : A) → not b ≡ false → cond b x y ≡ x
cond_true true x y h = refl
cond_true false x y h = absurd (cc)

cond_false : {A : Type 0} (b : Bool) (x y : A) → not b ≡ true → cond b x y ≡ y
cond_false true x y h = absurd (cc)
cond_false false x y h = refl

stay_open : (b s c : Bool) → s ≡ true → false ≡ not (b || (s || c))
stay_open true s c h = refl
stay_open false true c h = refl
stay_open false false c h = absurd (cc)

-- a frame that stays open
stays : (r : role.InfixRole) (e : parser.Operand) (f : parser.Frame) → parser.stays_open f e ≡ true → false ≡ is_ended r e f
stays r e f h = stay_open (parser.continues r e (parser.greatest_allowed f)) (parser.stays_open f e) (parser.takes_file f r) h

list_stays : (r : role.InfixRole) (e : parser.Operand) (h : ListHead) (xs : parser.OperandList) → false ≡ is_ended r e (list_frame_of h xs)
list_stays r e (list.Group g) xs = stays r e (list_frame_of (list.Group g) xs) refl
list_stays r e (list.Call f g) xs = stays r e (list_frame_of (list.Call f g) xs) refl
list_stays r e (list.BuiltIn f g) xs = stays r e (list_frame_of (list.BuiltIn f g) xs) refl
list_stays r e (list.Element a g) xs = stays r e (list_frame_of (list.Element a g) xs) refl
list_stays r e (list.Print how) xs = stays r e (list_frame_of (list.Print how) xs) refl
list_stays r e (list.Delete a) xs = stays r e (list_frame_of (list.Delete a) xs) refl

expression_stays : (r : role.InfixRole) (e : parser.Operand) (f : ExpressionFrame) → false ≡ is_ended r e (expression_frame_of f)
expression_stays r e (expression.FirstChoice c) = stays r e (expression_frame_of (expression.FirstChoice c)) refl
expression_stays r e expression.Statement = stays r e (expression_frame_of expression.Statement) refl
expression_stays r e (expression.Group g) = stays r e (expression_frame_of (expression.Group g)) refl
expression_stays r e (expression.Output b) = stays r e (expression_frame_of (expression.Output b)) refl
expression_stays r e expression.Exit = stays r e (expression_frame_of expression.Exit) refl
expression_stays r e expression.Return = stays r e (expression_frame_of expression.Return) refl
expression_stays r e expression.IfCondition = stays r e (expression_frame_of expression.IfCondition) refl
expression_stays r e expression.WhileCondition = stays r e (expression_frame_of expression.WhileCondition) refl
expression_stays r e (expression.DoCondition x) = stays r e (expression_frame_of (expression.DoCondition x)) refl
expression_stays r e (expression.ForCondition p) = stays r e (expression_frame_of (expression.ForCondition p)) refl
expression_stays r e expression.Pattern = stays r e (expression_frame_of expression.Pattern) refl
expression_stays r e (expression.RangeEnd d) = stays r e (expression_frame_of (expression.RangeEnd d)) refl

body_stays : (r : role.InfixRole) (e : parser.Operand) (f : BodyFrame) → false ≡ is_ended r e (body_frame_of f)
body_stays r e (body.If c) = stays r e (body_frame_of (body.If c)) refl
body_stays r e (body.Else c x) = stays r e (body_frame_of (body.Else c x)) refl
body_stays r e (body.While c) = stays r e (body_frame_of (body.While c)) refl
body_stays r e body.Do = stays r e (body_frame_of body.Do) refl
body_stays r e (body.ForIn b a) = stays r e (body_frame_of (body.ForIn b a)) refl
body_stays r e (body.For b q) = stays r e (body_frame_of (body.For b q)) refl

pub open_frame : (r : role.InfixRole) (e : parser.Operand) (f : Frame) → ((n : NodeFrame) → f ≡ frame.Node n → ⊥) → false ≡ is_ended r e (frame_of f)
open_frame r e (frame.Node n) h = absurd (h n refl)
open_frame r e (frame.List b) h = list_stays r e b.value.head (list_of b.value.list)
open_frame r e (frame.Expression f) h = expression_stays r e f
open_frame r e frame.ForFirst h = stays r e (frame_of frame.ForFirst) refl
open_frame r e (frame.ForLast b) h = stays r e (frame_of (frame.ForLast b)) refl
open_frame r e (frame.Body b) h = body_stays r e b.value
open_frame r e (frame.Block None all) h = stays r e (frame_of (frame.Block None all)) refl
open_frame r e (frame.Block (Some b) all) h = stays r e (frame_of (frame.Block (Some b) all)) refl
open_frame r e (frame.Program items) h = stays r e (frame_of (frame.Program items)) refl

no : false ≡ true → ⊥
no h = absurd (cc)

-- the top that is taken off
pub pop_ends : (r : role.InfixRole) (e : parser.Operand) (old : List parser.Frame) (taken : Option Frame) (new : List Frame) → old ≡ popped taken new → is_top_ended r e old ≡ true → Ends r e old taken (stack_of new)
pop_ends r e old None new p h = absurd (no (sym (ap (is_top_ended r e) p) ∙ h))
pop_ends r e old (Some f) new p h = (h, p)

abbrev reduced_to : parser.Operand → List parser.Frame → parser.Reduced
reduced_to e k = record { operand = e; stack = k }

reduce_stops : (r : role.InfixRole) (e : parser.Operand) (k : List parser.Frame) → is_top_ended r e k ≡ false → parser.reduce max_height r e k ≡ reduced_to e k
reduce_stops r e [] h = refl
reduce_stops r e (f ∷ k) h = cond_true _ _ _ h

pub stops : (r : role.InfixRole) (e : parser.Operand) (old new : List parser.Frame) → (is_top_ended r e old ≡ false) × (new ≡ old) → record { operand = e; stack = new } ≡ parser.reduce max_height r e old
stops r e old new h = ap (reduced_to e) h.1 ∙ sym (reduce_stops r e old h.0)

reduce_makes : (r : role.InfixRole) (e : parser.Operand) (f : parser.Frame) (k : List parser.Frame) → is_top_ended r e (f ∷ k) ≡ true → parser.reduce max_height r e (f ∷ k) ≡ parser.reduce max_height r (parser.finish_node max_height f e) k
reduce_makes r e f k h = cond_false _ _ _ h

pub makes : (r : role.InfixRole) (e made : parser.Operand) (f : parser.Frame) (old new : List parser.Frame) → (is_top_ended r e old ≡ true) × (old ≡ f ∷ new) → made ≡ parser.finish_node max_height f e → parser.reduce max_height r made new ≡ parser.reduce max_height r e old
makes r e made f old new h p =
    ap (λ z. parser.reduce max_height r z new) p
    ∙ sym (reduce_makes r e f new (ap (is_top_ended r e) (sym h.1) ∙ h.0))
    ∙ ap (parser.reduce max_height r e) (sym h.1)
