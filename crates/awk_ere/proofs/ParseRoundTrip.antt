-- What is read is what was written.
use Rattle.std.proofs.Common.{◌≡◌, List, [], ◌∷◌, ◌++◌, Option, Some, None, refl, sym, ap, ◌∙◌, append_assoc}
use Rattle.std.proofs.lemmas.Option.{same_Some, none-some}
use Rattle.awk_ere.specs.definitions.Tokens.{Repeat, Token, atom, at_start, at_end, opening, closing, bar, again}
use Rattle.awk_ere.specs.definitions.Written.{Pattern, only, either, Branch, single, then, Piece, the_start, the_end, part, Part, one, group, repeated, tokens, branch_tokens, piece_tokens, part_tokens}
use Rattle.awk_ere.specs.support.Parser.{Frame, fresh, row, ParserState, branch_of, pattern_of, add, closed, close, next_branch, repeat_last, take_in, ended, and_then, run, begun, parse}

abbrev state : Frame → List Frame → ParserState
state f fs = record { now = f; outer = fs }

-- the frame that a pattern leaves
abbrev row_frame : Option Pattern → Branch → Frame
row_frame d (single x) = row d None x
row_frame d (then b x) = row d (Some b) x

abbrev frame_of : Pattern → Frame
frame_of (only b) = row_frame None b
frame_of (either p b) = row_frame (Some p) b

add-row_frame : (d : Option Pattern) (b : Branch) (x : Piece) → add (row_frame d b) x ≡ row d (Some b) x
add-row_frame d (single y) x = refl
add-row_frame d (then b y) x = refl

closed-row_frame : (d : Option Pattern) (b : Branch) → closed (row_frame d b) ≡ Some (pattern_of d b)
closed-row_frame d (single y) = refl
closed-row_frame d (then b y) = refl

closed-frame_of : (p : Pattern) → closed (frame_of p) ≡ Some p
closed-frame_of (only b) = closed-row_frame None b
closed-frame_of (either p b) = closed-row_frame (Some p) b

repeat_added : (r : Repeat) (f : Frame) (c : Part) (fs : List Frame) → repeat_last r (add f (part c)) fs ≡ Some (state (add f (part (repeated c r))) fs)
repeat_added r (fresh d) c fs = refl
repeat_added r (row d b y) c fs = refl

mutual
  pub run_pattern : (p : Pattern) (ws : List Token) (fs : List Frame) → run (tokens p ++ ws) (state (fresh None) fs) ≡ run ws (state (frame_of p) fs)
  run_pattern (only b) ws fs = run_branch b None ws fs
  run_pattern (either p b) ws fs =
      ap (λ l. run l (state (fresh None) fs)) (append_assoc (tokens p) (bar ∷ branch_tokens b) ws)
      ∙ run_pattern p (bar ∷ (branch_tokens b ++ ws)) fs
      ∙ ap (λ o. and_then (next_branch o fs) (run (branch_tokens b ++ ws))) (closed-frame_of p)
      ∙ run_branch b (Some p) ws fs

  run_branch : (b : Branch) (d : Option Pattern) (ws : List Token) (fs : List Frame) → run (branch_tokens b ++ ws) (state (fresh d) fs) ≡ run ws (state (row_frame d b) fs)
  run_branch (single x) d ws fs = run_piece x (fresh d) ws fs
  run_branch (then b x) d ws fs =
      ap (λ l. run l (state (fresh d) fs)) (append_assoc (branch_tokens b) (piece_tokens x) ws)
      ∙ run_branch b d (piece_tokens x ++ ws) fs
      ∙ run_piece x (row_frame d b) ws fs
      ∙ ap (λ f. run ws (state f fs)) (add-row_frame d b x)

  run_piece : (x : Piece) (f : Frame) (ws : List Token) (fs : List Frame) → run (piece_tokens x ++ ws) (state f fs) ≡ run ws (state (add f x) fs)
  run_piece the_start f ws fs = refl
  run_piece the_end f ws fs = refl
  run_piece (part c) f ws fs = run_part c f ws fs

  run_part : (c : Part) (f : Frame) (ws : List Token) (fs : List Frame) → run (part_tokens c ++ ws) (state f fs) ≡ run ws (state (add f (part c)) fs)
  run_part (one a) f ws fs = refl
  run_part (group p) f ws fs =
      ap (λ l. run l (state (fresh None) (f ∷ fs))) (append_assoc (tokens p) (closing ∷ []) ws)
      ∙ run_pattern p (closing ∷ ws) (f ∷ fs)
      ∙ ap (λ o. and_then (close o (f ∷ fs)) (run ws)) (closed-frame_of p)
  run_part (repeated c r) f ws fs =
      ap (λ l. run l (state f fs)) (append_assoc (part_tokens c) (again r ∷ []) ws)
      ∙ run_part c f (again r ∷ ws) fs
      ∙ ap (λ o. and_then o (run ws)) (repeat_added r f c fs)

append_nil : {A : Type 0} (xs : List A) → xs ++ [] ≡ xs
append_nil [] = refl
append_nil (x ∷ xs) = ap (λ l. x ∷ l) (append_nil xs)

-- what is written is read
pub parse_tokens : (p : Pattern) → parse (tokens p) ≡ Some p
parse_tokens p =
    ap (λ l. run l begun) (sym (append_nil (tokens p))) ∙ run_pattern p [] [] ∙ closed-frame_of p

-- so tokens are written by one pattern
pub one_pattern : (p q : Pattern) → tokens p ≡ tokens q → p ≡ q
one_pattern p q e = same_Some p q (sym (parse_tokens p) ∙ ap parse e ∙ parse_tokens q)

-- the tokens that a state stands for
abbrev pub done_tokens : Option Pattern → List Token
done_tokens None = []
done_tokens (Some p) = tokens p ++ bar ∷ []

abbrev pub before_tokens : Option Branch → List Token
before_tokens None = []
before_tokens (Some b) = branch_tokens b

abbrev pub frame_tokens : Frame → List Token
frame_tokens (fresh d) = done_tokens d
frame_tokens (row d b x) = done_tokens d ++ (before_tokens b ++ piece_tokens x)

abbrev pub state_tokens : Frame → List Frame → List Token
state_tokens f [] = frame_tokens f
state_tokens f (g ∷ fs) = state_tokens g fs ++ opening ∷ frame_tokens f

branch-tokens : (b : Option Branch) (x : Piece) → branch_tokens (branch_of b x) ≡ before_tokens b ++ piece_tokens x
branch-tokens None x = refl
branch-tokens (Some b) x = refl

pattern-tokens : (d : Option Pattern) (b : Branch) → tokens (pattern_of d b) ≡ done_tokens d ++ branch_tokens b
pattern-tokens None b = refl
pattern-tokens (Some p) b = sym (append_assoc (tokens p) (bar ∷ []) (branch_tokens b))

closed-tokens : (f : Frame) (p : Pattern) → closed f ≡ Some p → tokens p ≡ frame_tokens f
closed-tokens (fresh d) p e = absurd (none-some p e)
closed-tokens (row d b x) p e =
    ap tokens (sym (same_Some (pattern_of d (branch_of b x)) p e)) ∙ pattern-tokens d (branch_of b x) ∙ ap (λ l. done_tokens d ++ l) (branch-tokens b x)

add-tokens : (f : Frame) (x : Piece) → frame_tokens (add f x) ≡ frame_tokens f ++ piece_tokens x
add-tokens (fresh d) x = refl
add-tokens (row d b y) x =
    ap (λ l. done_tokens d ++ (l ++ piece_tokens x)) (branch-tokens b y)
    ∙ sym (append_assoc (done_tokens d) (before_tokens b ++ piece_tokens y) (piece_tokens x))

-- a frame's end is the state's end
outer-tokens : (f g : Frame) (fs : List Frame) (l : List Token) → frame_tokens g ≡ frame_tokens f ++ l → state_tokens g fs ≡ state_tokens f fs ++ l
outer-tokens f g [] l e = e
outer-tokens f g (h ∷ fs) l e =
    ap (λ m. state_tokens h fs ++ opening ∷ m) e ∙ sym (append_assoc (state_tokens h fs) (opening ∷ frame_tokens f) l)

close-tokens : (f : Frame) (fs : List Frame) (s : ParserState) → close (closed f) fs ≡ Some s → state_tokens s.now s.outer ≡ state_tokens f fs ++ closing ∷ []
close-tokens (fresh d) fs s e = absurd (none-some s e)
close-tokens (row d b x) [] s e = absurd (none-some s e)
close-tokens (row d b x) (g ∷ gs) s e =
    let p = pattern_of d (branch_of b x) in
    ap (λ u. state_tokens u.now u.outer) (sym (same_Some (state (add g (part (group p))) gs) s e))
    ∙ outer-tokens g (add g (part (group p))) gs (opening ∷ (tokens p ++ closing ∷ [])) (add-tokens g (part (group p)))
    ∙ ap (λ l. state_tokens g gs ++ opening ∷ (l ++ closing ∷ [])) (closed-tokens (row d b x) p refl)
    ∙ sym (append_assoc (state_tokens g gs) (opening ∷ frame_tokens (row d b x)) (closing ∷ []))

bar-tokens : (f : Frame) (fs : List Frame) (s : ParserState) → next_branch (closed f) fs ≡ Some s → state_tokens s.now s.outer ≡ state_tokens f fs ++ bar ∷ []
bar-tokens (fresh d) fs s e = absurd (none-some s e)
bar-tokens (row d b x) fs s e =
    let p = pattern_of d (branch_of b x) in
    ap (λ u. state_tokens u.now u.outer) (sym (same_Some (state (fresh (Some p)) fs) s e))
    ∙ outer-tokens (row d b x) (fresh (Some p)) fs (bar ∷ []) (ap (λ l. l ++ bar ∷ []) (closed-tokens (row d b x) p refl))

repeat-tokens : (r : Repeat) (f : Frame) (fs : List Frame) (s : ParserState) → repeat_last r f fs ≡ Some s → state_tokens s.now s.outer ≡ state_tokens f fs ++ again r ∷ []
repeat-tokens r (fresh d) fs s e = absurd (none-some s e)
repeat-tokens r (row d b the_start) fs s e = absurd (none-some s e)
repeat-tokens r (row d b the_end) fs s e = absurd (none-some s e)
repeat-tokens r (row d b (part c)) fs s e =
    ap (λ u. state_tokens u.now u.outer) (sym (same_Some (state (row d b (part (repeated c r))) fs) s e))
    ∙ outer-tokens (row d b (part c)) (row d b (part (repeated c r))) fs (again r ∷ [])
    (ap (λ l. done_tokens d ++ l) (sym (append_assoc (before_tokens b) (part_tokens c) (again r ∷ [])))
    ∙ sym (append_assoc (done_tokens d) (before_tokens b ++ part_tokens c) (again r ∷ [])))

added-tokens : (x : Piece) (s u : ParserState) → Some (state (add s.now x) s.outer) ≡ Some u → state_tokens u.now u.outer ≡ state_tokens s.now s.outer ++ piece_tokens x
added-tokens x s u e =
    ap (λ v. state_tokens v.now v.outer) (sym (same_Some (state (add s.now x) s.outer) u e))
    ∙ outer-tokens s.now (add s.now x) s.outer (piece_tokens x) (add-tokens s.now x)

pub step-tokens : (w : Token) (s u : ParserState) → take_in w s ≡ Some u → state_tokens u.now u.outer ≡ state_tokens s.now s.outer ++ w ∷ []
step-tokens (atom a) s u e = added-tokens (part (one a)) s u e
step-tokens at_start s u e = added-tokens the_start s u e
step-tokens at_end s u e = added-tokens the_end s u e
step-tokens opening s u e = ap (λ v. state_tokens v.now v.outer) (sym (same_Some (state (fresh None) (s.now ∷ s.outer)) u e))
step-tokens closing s u e = close-tokens s.now s.outer u e
step-tokens bar s u e = bar-tokens s.now s.outer u e
step-tokens (again r) s u e = repeat-tokens r s.now s.outer u e

ended-tokens : (f : Frame) (fs : List Frame) (p : Pattern) → ended f fs ≡ Some p → tokens p ≡ state_tokens f fs
ended-tokens f [] p e = closed-tokens f p e
ended-tokens f (g ∷ fs) p e = absurd (none-some p e)

pub bind_some : (o : Option ParserState) (f : ParserState → Option Pattern) (p : Pattern) → and_then o f ≡ Some p → (s : ParserState) × (o ≡ Some s) × (f s ≡ Some p)
bind_some None f p e = absurd (none-some p e)
bind_some (Some s) f p e = (s, refl, e)

-- the rest of the tokens ends the pattern
pub run_tokens : (ws : List Token) (s : ParserState) (p : Pattern) → run ws s ≡ Some p → tokens p ≡ state_tokens s.now s.outer ++ ws
run_tokens [] s p e = ended-tokens s.now s.outer p e ∙ sym (append_nil (state_tokens s.now s.outer))
run_tokens (w ∷ ws) s p e =
    let h = bind_some (take_in w s) (run ws) p e in
    run_tokens ws h.0 p h.2
    ∙ ap (λ l. l ++ ws) (step-tokens w s h.0 h.1)
    ∙ append_assoc (state_tokens s.now s.outer) (w ∷ []) ws

-- what is read is written so
pub tokens_parse : (ws : List Token) (p : Pattern) → parse ws ≡ Some p → tokens p ≡ ws
tokens_parse ws p e = run_tokens ws begun p e
