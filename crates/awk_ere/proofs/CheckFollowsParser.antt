-- The check of a text follows the parser.
use Rattle.std.proofs.Common.{◌≡◌, ℕ, suc, ◌+◌, List, [], ◌∷◌, length, Option, Some, None, refl, sym, ap, subst, ◌∙◌, arith}
use Rattle.std.specs.Prelude.{max}
use Rattle.std.specs.Option.{option_map, is_some}
use Rattle.std.proofs.lemmas.Option.{same_Some, none-some}
use Rattle.std.proofs.lemmas.Bool.{ne_eqb}
use Rattle.awk_ere.specs.declared.check.Before.{Before}
use Rattle.awk_ere.specs.declared.check.Before.TheVariants as before_is
use Rattle.awk_ere.specs.declared.check.CheckState.{CheckState}
use Rattle.awk_ere.specs.definitions.Tokens.{ordinary, any, escape, bracket, Repeat, Token, atom, at_start, at_end, opening, closing, bar, again}
use Rattle.awk_ere.specs.definitions.Written.{Pattern, opened, branch_opened, piece_opened, Branch, Piece, the_start, the_end, part, Part, one, group, repeated}
use Rattle.awk_ere.specs.support.Parser.{Frame, fresh, row, ParserState, branch_of, pattern_of, add, closed, close, next_branch, repeat_last, take_in, ended}
use Rattle.awk_ere.specs.support.TokenValues.{seen_token}
use Rattle.awk_ere.specs.support.Checks.{place, close_behind, bar_behind, repeat_behind, place_behind, may_stop}

-- ---- where the check stands

abbrev pub before_of : Frame → Before
before_of (fresh d) = before_is.Nothing
before_of (row d b the_start) = before_is.Anchor
before_of (row d b the_end) = before_is.Anchor
before_of (row d b (part c)) = before_is.Part

abbrev pub place_of : ParserState → CheckState
place_of s = place (before_of s.now) (length s.outer)

behind_part : (f : Frame) (c : Part) → before_of (add f (part c)) ≡ before_is.Part
behind_part (fresh d) c = refl
behind_part (row d b y) c = refl

behind_start : (f : Frame) → before_of (add f the_start) ≡ before_is.Anchor
behind_start (fresh d) = refl
behind_start (row d b y) = refl

behind_end : (f : Frame) → before_of (add f the_end) ≡ before_is.Anchor
behind_end (fresh d) = refl
behind_end (row d b y) = refl

close_follows : (f : Frame) (fs : List Frame) → option_map place_of (close (closed f) fs) ≡ close_behind (before_of f) (length fs)
close_follows (fresh d) fs = refl
close_follows (row d b the_start) [] = refl
close_follows (row d b the_end) [] = refl
close_follows (row d b (part c)) [] = refl
close_follows (row d b the_start) (g ∷ fs) = ap (λ x. Some (place x (length fs))) (behind_part g _)
close_follows (row d b the_end) (g ∷ fs) = ap (λ x. Some (place x (length fs))) (behind_part g _)
close_follows (row d b (part c)) (g ∷ fs) = ap (λ x. Some (place x (length fs))) (behind_part g _)

bar_follows : (f : Frame) (fs : List Frame) → option_map place_of (next_branch (closed f) fs) ≡ bar_behind (before_of f) (length fs)
bar_follows (fresh d) fs = refl
bar_follows (row d b the_start) fs = refl
bar_follows (row d b the_end) fs = refl
bar_follows (row d b (part c)) fs = refl

repeat_follows : (r : Repeat) (f : Frame) (fs : List Frame) → option_map place_of (repeat_last r f fs) ≡ repeat_behind (before_of f) (length fs)
repeat_follows r (fresh d) fs = refl
repeat_follows r (row d b the_start) fs = refl
repeat_follows r (row d b the_end) fs = refl
repeat_follows r (row d b (part c)) fs = refl

pub follows : (w : Token) (s : ParserState) → option_map place_of (take_in w s) ≡ place_behind (seen_token w) (place_of s)
follows (atom (ordinary b)) s = ap (λ x. Some (place x (length s.outer))) (behind_part s.now _)
follows (atom any) s = ap (λ x. Some (place x (length s.outer))) (behind_part s.now _)
follows (atom (escape e)) s = ap (λ x. Some (place x (length s.outer))) (behind_part s.now _)
follows (atom (bracket k)) s = ap (λ x. Some (place x (length s.outer))) (behind_part s.now _)
follows at_start s = ap (λ x. Some (place x (length s.outer))) (behind_start s.now)
follows at_end s = ap (λ x. Some (place x (length s.outer))) (behind_end s.now)
follows opening s = ap (λ n. Some (place before_is.Nothing n)) (let e : suc (length s.outer) ≡ length s.outer + 1 = omega arith in e)
follows closing s = close_follows s.now s.outer
follows bar s = bar_follows s.now s.outer
follows (again r) s = repeat_follows r s.now s.outer

pub may_stop_follows : (f : Frame) (fs : List Frame) → may_stop (place (before_of f) (length fs)) ≡ is_some (ended f fs)
may_stop_follows (fresh d) [] = refl
may_stop_follows (fresh d) (g ∷ fs) = refl
may_stop_follows (row d b the_start) [] = refl
may_stop_follows (row d b the_end) [] = refl
may_stop_follows (row d b (part c)) [] = refl
may_stop_follows (row d b the_start) (g ∷ fs) = ne_eqb (suc (length fs)) 0 (λ e. omega (arith, e))
may_stop_follows (row d b the_end) (g ∷ fs) = ne_eqb (suc (length fs)) 0 (λ e. omega (arith, e))
may_stop_follows (row d b (part c)) (g ∷ fs) = ne_eqb (suc (length fs)) 0 (λ e. omega (arith, e))

-- ---- how many groups have been open at once

abbrev maybe_opened : Option Pattern → ℕ
maybe_opened None = 0
maybe_opened (Some p) = opened p

abbrev some_opened : Option Branch → ℕ
some_opened None = 0
some_opened (Some b) = branch_opened b

abbrev frame_opened : Frame → ℕ
frame_opened (fresh d) = maybe_opened d
frame_opened (row d b x) = max (maybe_opened d) (max (some_opened b) (piece_opened x))

abbrev pub state_opened : Frame → List Frame → ℕ
state_opened f [] = frame_opened f
state_opened f (g ∷ fs) = max (state_opened g fs) (suc (length fs) + frame_opened f)

branch_of_opened : (b : Option Branch) (x : Piece) → branch_opened (branch_of b x) ≡ max (some_opened b) (piece_opened x)
branch_of_opened None x = omega arith
branch_of_opened (Some b) x = refl

pattern_of_opened : (d : Option Pattern) (b : Branch) → opened (pattern_of d b) ≡ max (maybe_opened d) (branch_opened b)
pattern_of_opened None b = omega arith
pattern_of_opened (Some p) b = refl

pub closed_opened : (f : Frame) (p : Pattern) → closed f ≡ Some p → opened p ≡ frame_opened f
closed_opened (fresh d) p e = absurd (none-some p e)
closed_opened (row d b x) p e =
    ap opened (sym (same_Some (pattern_of d (branch_of b x)) p e)) ∙ pattern_of_opened d (branch_of b x) ∙ ap (max (maybe_opened d)) (branch_of_opened b x)

add_opened : (f : Frame) (x : Piece) → frame_opened (add f x) ≡ max (frame_opened f) (piece_opened x)
add_opened (fresh d) x = omega arith
add_opened (row d b y) x = ap (λ (n : ℕ). max (maybe_opened d) (max n (piece_opened x))) (branch_of_opened b y) ∙ (let m = some_opened b in let n = piece_opened y in let k = piece_opened x in let l = maybe_opened d in let e : max l (max (max m n) k) ≡ max (max l (max m n)) k = omega arith in e)

-- a frame that holds n more
deeper : (f g : Frame) (fs : List Frame) (n : ℕ) → frame_opened g ≡ max (frame_opened f) n → state_opened g fs ≡ max (state_opened f fs) (length fs + n)
deeper f g [] n e = e ∙ ap (max (frame_opened f)) (let h : n ≡ 0 + n = omega arith in h)
deeper f g (h ∷ fs) n e =
    ap (λ (m : ℕ). max (state_opened h fs) (suc (length fs) + m)) e
    ∙ (let a = state_opened h fs in let b = frame_opened f in let c = length fs in
    let r : max a (suc c + max b n) ≡ max (max a (suc c + b)) (suc c + n) = omega arith in r)

-- a frame that holds as many in place of another
kept : (f g : Frame) (fs : List Frame) → frame_opened g ≡ frame_opened f → max (state_opened f fs) (length fs) ≡ state_opened g fs
kept f g fs e =
    let n = frame_opened f in
    let more : n ≡ max n 0 = omega arith in
    let nothing : length fs ≡ length fs + 0 = omega arith in
    ap (max (state_opened f fs)) nothing ∙ sym (deeper f g fs 0 (e ∙ more))

added : (s u : ParserState) (x : Piece) → piece_opened x ≡ 0 → Some (record { now = add s.now x; outer = s.outer }) ≡ Some u → max (state_opened s.now s.outer) (length u.outer) ≡ state_opened u.now u.outer
added s u x none e =
    let more : max (frame_opened s.now) (piece_opened x) ≡ frame_opened s.now = omega (arith, none) in
    subst (λ (v : ParserState). max (state_opened s.now s.outer) (length v.outer) ≡ state_opened v.now v.outer) (same_Some _ u e)
    (kept s.now (add s.now x) s.outer (add_opened s.now x ∙ more))

close_opened : (f : Frame) (fs : List Frame) (u : ParserState) → close (closed f) fs ≡ Some u → max (state_opened f fs) (length u.outer) ≡ state_opened u.now u.outer
close_opened (fresh d) fs u e = absurd (none-some u e)
close_opened (row d b x) [] u e = absurd (none-some u e)
close_opened (row d b x) (g ∷ gs) u e =
    let f = row d b x in
    let p = pattern_of d (branch_of b x) in
    let group_opened : suc (opened p) ≡ suc (frame_opened f) = ap suc (closed_opened f p refl) in
    let outer = deeper g (add g (part (group p))) gs (suc (opened p)) (add_opened g (part (group p))) in
    let same : max (max (state_opened g gs) (suc (length gs) + frame_opened f)) (length gs) ≡ max (state_opened g gs) (length gs + suc (frame_opened f)) = omega arith in
    subst (λ (v : ParserState). max (state_opened f (g ∷ gs)) (length v.outer) ≡ state_opened v.now v.outer) (same_Some _ u e)
    (same ∙ ap (λ (n : ℕ). max (state_opened g gs) (length gs + n)) (sym group_opened) ∙ sym outer)

bar_opened : (f : Frame) (fs : List Frame) (u : ParserState) → next_branch (closed f) fs ≡ Some u → max (state_opened f fs) (length u.outer) ≡ state_opened u.now u.outer
bar_opened (fresh d) fs u e = absurd (none-some u e)
bar_opened (row d b x) fs u e =
    let p = pattern_of d (branch_of b x) in
    subst (λ (v : ParserState). max (state_opened (row d b x) fs) (length v.outer) ≡ state_opened v.now v.outer) (same_Some _ u e)
    (kept (row d b x) (fresh (Some p)) fs (closed_opened (row d b x) p refl))

repeat_opened : (r : Repeat) (f : Frame) (fs : List Frame) (u : ParserState) → repeat_last r f fs ≡ Some u → max (state_opened f fs) (length u.outer) ≡ state_opened u.now u.outer
repeat_opened r (fresh d) fs u e = absurd (none-some u e)
repeat_opened r (row d b the_start) fs u e = absurd (none-some u e)
repeat_opened r (row d b the_end) fs u e = absurd (none-some u e)
repeat_opened r (row d b (part c)) fs u e =
    subst (λ (v : ParserState). max (state_opened (row d b (part c)) fs) (length v.outer) ≡ state_opened v.now v.outer) (same_Some _ u e)
    (kept (row d b (part c)) (row d b (part (repeated c r))) fs refl)

-- a token adds at most the groups that are open behind it
pub step_opened : (w : Token) (s u : ParserState) → take_in w s ≡ Some u → max (state_opened s.now s.outer) (length u.outer) ≡ state_opened u.now u.outer
step_opened (atom a) s u e = added s u (part (one a)) refl e
step_opened at_start s u e = added s u the_start refl e
step_opened at_end s u e = added s u the_end refl e
step_opened opening s u e =
    subst (λ (v : ParserState). max (state_opened s.now s.outer) (length v.outer) ≡ state_opened v.now v.outer) (same_Some _ u e)
    (ap (max (state_opened s.now s.outer)) (let h : suc (length s.outer) ≡ suc (length s.outer) + 0 = omega arith in h))
step_opened closing s u e = close_opened s.now s.outer u e
step_opened bar s u e = bar_opened s.now s.outer u e
step_opened (again r) s u e = repeat_opened r s.now s.outer u e
