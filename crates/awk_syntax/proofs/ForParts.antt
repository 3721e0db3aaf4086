-- What stands on top of the stack is a part of a `for`, or the statement before it is none.
use Rattle.std.proofs.Common.{◌≡◌, ◌<◌, ◌-◌, true, false, List, [], ◌∷◌, length, map, reverse, slice_get, get_or, Some, None, refl, sym, ap, subst, ◌∙◌, arith}
use Rattle.std.proofs.lemmas.List.{get_or-reverse, length-reverse}
use Rattle.std.proofs.lemmas.Option.{slice_get_within, get_or_from_slice_get}
use Rattle.awk_grammar.specs.support.Parser as parser
use Rattle.awk_frames.specs.declared.frame.Frame.{Frame}
use Rattle.awk_frames.specs.declared.frame.Frame.TheVariants as frame
use Rattle.awk_frames.specs.declared.frame.NodeFrame.{NodeFrame}
use Rattle.awk_frames.specs.declared.frame.NodeFrame.TheVariants as node
use Rattle.awk_frames.specs.declared.frame.ListHead.{ListHead}
use Rattle.awk_frames.specs.declared.frame.ListHead.TheVariants as list
use Rattle.awk_frames.specs.declared.frame.ExpressionFrame.{ExpressionFrame}
use Rattle.awk_frames.specs.declared.frame.ExpressionFrame.TheVariants as expression
use Rattle.awk_frames.specs.declared.frame.BodyFrame.{BodyFrame}
use Rattle.awk_frames.specs.declared.frame.BodyFrame.TheVariants as body
use Rattle.awk_frames.specs.support.FrameView.{node_frame_of, list_of, list_frame_of, expression_frame_of, body_frame_of, frame_of, stack_of}
use Rattle.awk_syntax.specs.support.PartFrames.{is_part, is_part_on}

no : false ≡ true → ⊥
no h = absurd (cc)

node_is_none : (f : NodeFrame) → false ≡ is_part (node_frame_of f)
node_is_none node.Field = refl
node_is_none (node.PreIncrement o) = refl
node_is_none (node.Unary o) = refl
node_is_none (node.Binary o a) = refl
node_is_none (node.Assign o p) = refl
node_is_none (node.SecondChoice b) = refl
node_is_none (node.GetlinePlace c) = refl
node_is_none (node.GetlineFile p) = refl

list_is_none : (h : ListHead) (xs : parser.OperandList) → false ≡ is_part (list_frame_of h xs)
list_is_none (list.Group g) xs = refl
list_is_none (list.Call f g) xs = refl
list_is_none (list.BuiltIn f g) xs = refl
list_is_none (list.Element a g) xs = refl
list_is_none (list.Print how) xs = refl
list_is_none (list.Delete a) xs = refl

expression_is_none : (f : ExpressionFrame) → false ≡ is_part (expression_frame_of f)
expression_is_none (expression.FirstChoice c) = refl
expression_is_none expression.Statement = refl
expression_is_none (expression.Group g) = refl
expression_is_none (expression.Output b) = refl
expression_is_none expression.Exit = refl
expression_is_none expression.Return = refl
expression_is_none expression.IfCondition = refl
expression_is_none expression.WhileCondition = refl
expression_is_none (expression.DoCondition x) = refl
expression_is_none (expression.ForCondition p) = refl
expression_is_none expression.Pattern = refl
expression_is_none (expression.RangeEnd d) = refl

body_is_none : (f : BodyFrame) → false ≡ is_part (body_frame_of f)
body_is_none (body.If c) = refl
body_is_none (body.Else c x) = refl
body_is_none (body.While c) = refl
body_is_none body.Do = refl
body_is_none (body.ForIn b a) = refl
body_is_none (body.For b q) = refl

pub is_none : (f : Frame) → (f ≡ frame.ForFirst → ⊥) → ((b : _) → f ≡ frame.ForLast b → ⊥) → false ≡ is_part (frame_of f)
is_none (frame.Node f) h i = node_is_none f
is_none (frame.List b) h i = list_is_none b.value.head (list_of b.value.list)
is_none (frame.Expression f) h i = expression_is_none f
is_none frame.ForFirst h i = absurd (h refl)
is_none (frame.ForLast b) h i = absurd (i b refl)
is_none (frame.Body b) h i = body_is_none b.value
is_none (frame.Block None all) h i = refl
is_none (frame.Block (Some b) all) h i = refl
is_none (frame.Program items) h i = refl

-- a part that is not the last one
pub is_first : (f : Frame) → is_part (frame_of f) ≡ true → ((b : _) → f ≡ frame.ForLast b → ⊥) → frame_of f ≡ parser.InForFirst
is_first (frame.Node f) p i = absurd (no (node_is_none f ∙ p))
is_first (frame.List b) p i = absurd (no (list_is_none b.value.head (list_of b.value.list) ∙ p))
is_first (frame.Expression f) p i = absurd (no (expression_is_none f ∙ p))
is_first frame.ForFirst p i = refl
is_first (frame.ForLast b) p i = absurd (i b refl)
is_first (frame.Body b) p i = absurd (no (body_is_none b.value ∙ p))
is_first (frame.Block None all) p i = absurd (no p)
is_first (frame.Block (Some b) all) p i = absurd (no p)
is_first (frame.Program items) p i = absurd (no p)

-- the last frame of the code's stack is the one on top
first_tells : (fs : List Frame) (f : Frame) → get_or fs 0 f ≡ f → 0 < length fs → is_part_on (map frame_of fs) ≡ is_part (frame_of f)
first_tells [] f is some = absurd (omega (arith, some))
first_tells (g ∷ fs) f is some = ap (λ h. is_part (frame_of h)) is

pub last_tells : (fs : List Frame) (f : Frame) → Some f ≡ slice_get fs (length fs - 1) → is_part_on (stack_of fs) ≡ is_part (frame_of f)
last_tells fs f is =
    let within = slice_get_within fs (length fs - 1) f (sym is) in
    let some : 0 < length fs = omega (arith, within) in
    let at : length fs - 1 - 0 ≡ length fs - 1 = omega arith in
    first_tells (reverse fs) f (get_or-reverse fs 0 f some ∙ (ap (λ k. get_or fs k f) at ∙ get_or_from_slice_get fs (length fs - 1) f f (sym is))) (subst (λ n. 0 < n) (sym (length-reverse fs)) some)
