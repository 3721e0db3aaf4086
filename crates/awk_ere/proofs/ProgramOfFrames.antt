-- The program and the size of what was read so far: of branches that are complete, of pieces, and of open groups.
use Rattle.std.proofs.Common.{◌≡◌, ◌≤◌, ℕ, suc, ◌+◌, List, [], ◌∷◌, ◌++◌, replicate, Option, Some, None, refl, sym, ap, ◌∙◌, append_assoc, arith}
use Rattle.std.proofs.lemmas.List.{append-nil}
use Rattle.awk_ere.specs.definitions.Tree.{Tree, Row, none, next, size, pieces_size, branches_size}
use Rattle.awk_ere.specs.definitions.Desugared.{desugar, desugar_all, desugar_one}
use Rattle.awk_ere.specs.definitions.Program.{ResolvedInstruction, fork, swap, join, code}
use Rattle.awk_ere.specs.definitions.Written.{Pattern, only, either, Branch, single, then, Piece, pattern_tree, branch_tree, piece_tree}
use Rattle.awk_ere.specs.support.Parser.{Frame, fresh, row, branch_of, pattern_of, add}
use Rattle.awk_ere.proofs.RepeatProgram.{code_append}

abbrev pub Code : Type 0
Code = List ResolvedInstruction

abbrev pub tree_code : Tree → Code
tree_code t = code (desugar t) []

abbrev pub branch_code : Branch → Code
branch_code b = tree_code (branch_tree b none)

abbrev pub branch_size : Branch → ℕ
branch_size b = size (branch_tree b none)

abbrev pub pattern_size : Pattern → ℕ
pattern_size p = size (pattern_tree p none)

-- a branch with a bar behind it
abbrev pub barred : Branch → Code
barred b = fork ∷ (branch_code b ++ swap ∷ [])

-- branches with a bar behind each
abbrev pub barred_all : Pattern → Code
barred_all (only b) = barred b
barred_all (either p b) = barred_all p ++ barred b

abbrev pub bars : Pattern → ℕ
bars (only b) = 1
bars (either p b) = suc (bars p)

abbrev pub done_code : Option Pattern → Code
done_code None = []
done_code (Some p) = barred_all p

abbrev pub done_bars : Option Pattern → ℕ
done_bars None = 0
done_bars (Some p) = bars p

abbrev pub done_size : Option Pattern → ℕ
done_size None = 0
done_size (Some p) = pattern_size p + 1

abbrev pub pieces_code : Option Branch → Code
pieces_code None = []
pieces_code (Some b) = branch_code b

abbrev pub pieces_size_of : Option Branch → ℕ
pieces_size_of None = 0
pieces_size_of (Some b) = branch_size b

abbrev pub done_of : Frame → Option Pattern
done_of (fresh d) = d
done_of (row d b x) = d

-- all but the last piece
abbrev pub settled_code : Frame → Code
settled_code (fresh d) = done_code d
settled_code (row d b x) = done_code d ++ pieces_code b

abbrev pub settled_size : Frame → ℕ
settled_size (fresh d) = done_size d
settled_size (row d b x) = done_size d + pieces_size_of b

abbrev pub frame_code : Frame → Code
frame_code (fresh d) = done_code d
frame_code (row d b x) = done_code d ++ (pieces_code b ++ tree_code (piece_tree x))

abbrev pub frame_size : Frame → ℕ
frame_size (fresh d) = done_size d
frame_size (row d b x) = done_size d + (pieces_size_of b + size (piece_tree x))

abbrev pub all_code : List Frame → Code
all_code [] = []
all_code (f ∷ fs) = all_code fs ++ frame_code f

abbrev pub all_size : List Frame → ℕ
all_size [] = 0
all_size (f ∷ fs) = all_size fs + frame_size f

-- ---- one more piece

code_single : (x : Piece) (r : Row) → tree_code (branch_tree (single x) r) ≡ tree_code (piece_tree x) ++ code (desugar_all r) []
code_single x none = sym (append-nil (tree_code (piece_tree x)))
code_single x (next u r) = code_append (desugar (piece_tree x)) (code (desugar_all (next u r)) [])

code_then : (b : Branch) (r : Row) → tree_code (branch_tree b r) ≡ branch_code b ++ code (desugar_all r) []
code_then (single x) r = code_single x r
code_then (then b x) r =
    let u = piece_tree x in
    let one = code_then b (next u none) in
    let all = code_then b (next u r) in
    let more = code_append (desugar u) (code (desugar_all r) []) in
    all ∙ ap (λ (l : Code). branch_code b ++ l) more
    ∙ sym (append_assoc (branch_code b) (tree_code u) (code (desugar_all r) []))
    ∙ ap (λ (l : Code). l ++ code (desugar_all r) []) (sym one)

size_single : (x : Piece) (r : Row) → size (branch_tree (single x) r) ≡ size (piece_tree x) + pieces_size r
size_single x none = omega arith
size_single x (next u r) = refl

size_then : (b : Branch) (r : Row) → size (branch_tree b r) ≡ branch_size b + pieces_size r
size_then (single x) r = size_single x r
size_then (then b x) r =
    let one = size_then b (next (piece_tree x) none) in
    let all = size_then b (next (piece_tree x) r) in
    omega arith

pub more_pieces : (b : Option Branch) (x : Piece) → branch_code (branch_of b x) ≡ pieces_code b ++ tree_code (piece_tree x)
more_pieces None x = refl
more_pieces (Some b) x = code_then b (next (piece_tree x) none)

pub more_size : (b : Option Branch) (x : Piece) → branch_size (branch_of b x) ≡ pieces_size_of b + size (piece_tree x)
more_size None x = omega arith
more_size (Some b) x = let e = size_then b (next (piece_tree x) none) in omega arith

-- ---- one more branch

pub code_next : (p : Pattern) (t : Tree) (r : Row) → tree_code (pattern_tree p (next t r)) ≡ barred_all p ++ (code (desugar_one (desugar t) r) [] ++ replicate (bars p) join)
code_next (only b) t r =
    let rest = desugar_one (desugar t) r in
    let second = code_append rest (join ∷ []) in
    ap (λ (l : Code). fork ∷ l)
    (code_append (desugar (branch_tree b none)) (swap ∷ code rest (join ∷ []))
    ∙ ap (λ (l : Code). branch_code b ++ swap ∷ l) second
    ∙ sym (append_assoc (branch_code b) (swap ∷ []) (code rest [] ++ join ∷ [])))
code_next (either p b) t r =
    let t' = branch_tree b none in
    let rest = desugar_one (desugar t) r in
    let joins = replicate (bars p) join in
    let second = code_append rest (join ∷ []) in
    let first : code (desugar_one (desugar t') (next t r)) [] ≡ barred b ++ (code rest [] ++ join ∷ []) =
    ap (λ (l : Code). fork ∷ l)
    (code_append (desugar t') (swap ∷ code rest (join ∷ []))
    ∙ ap (λ (l : Code). branch_code b ++ swap ∷ l) second
    ∙ sym (append_assoc (branch_code b) (swap ∷ []) (code rest [] ++ join ∷ []))) in
    code_next p t' (next t r)
    ∙ ap (λ (l : Code). barred_all p ++ (l ++ joins)) first
    ∙ ap (λ (l : Code). barred_all p ++ l)
    (append_assoc (barred b) (code rest [] ++ join ∷ []) joins
    ∙ ap (λ (l : Code). barred b ++ l) (append_assoc (code rest []) (join ∷ []) joins))
    ∙ sym (append_assoc (barred_all p) (barred b) (code rest [] ++ join ∷ joins))

pub size_next : (p : Pattern) (t : Tree) (r : Row) → size (pattern_tree p (next t r)) ≡ pattern_size p + branches_size (next t r)
size_next (only b) t r = refl
size_next (either p b) t r =
    let one = size_next p (branch_tree b none) none in
    let all = size_next p (branch_tree b none) (next t r) in
    omega arith

-- a group that is closed
pub whole_code : (d : Option Pattern) (b : Branch) → tree_code (pattern_tree (pattern_of d b) none) ≡ done_code d ++ (branch_code b ++ replicate (done_bars d) join)
whole_code None b = sym (append-nil (branch_code b))
whole_code (Some p) b = code_next p (branch_tree b none) none

pub whole_size : (d : Option Pattern) (b : Branch) → pattern_size (pattern_of d b) ≡ done_size d + branch_size b
whole_size None b = omega arith
whole_size (Some p) b = let e = size_next p (branch_tree b none) none in omega arith

-- a branch that is complete
pub more_done : (d : Option Pattern) (b : Branch) → done_code (Some (pattern_of d b)) ≡ done_code d ++ barred b
more_done None b = refl
more_done (Some p) b = refl

pub more_bars : (d : Option Pattern) (b : Branch) → done_bars (Some (pattern_of d b)) ≡ suc (done_bars d)
more_bars None b = refl
more_bars (Some p) b = refl

-- ---- frames

pub code_added : (f : Frame) (x : Piece) → frame_code (add f x) ≡ frame_code f ++ tree_code (piece_tree x)
code_added (fresh d) x = refl
code_added (row d b y) x =
    ap (λ (l : Code). done_code d ++ (l ++ tree_code (piece_tree x))) (more_pieces b y)
    ∙ sym (append_assoc (done_code d) (pieces_code b ++ tree_code (piece_tree y)) (tree_code (piece_tree x)))

pub size_added : (f : Frame) (x : Piece) → frame_size (add f x) ≡ frame_size f + size (piece_tree x)
size_added (fresh d) x = omega arith
size_added (row d b y) x = let e = more_size b y in omega arith

pub settled_code_added : (f : Frame) (x : Piece) → settled_code (add f x) ≡ frame_code f
settled_code_added (fresh d) x = append-nil (done_code d)
settled_code_added (row d b y) x = ap (λ (l : Code). done_code d ++ l) (more_pieces b y)

pub settled_size_added : (f : Frame) (x : Piece) → settled_size (add f x) ≡ frame_size f
settled_size_added (fresh d) x = omega arith
settled_size_added (row d b y) x = let e = more_size b y in omega arith

pub done_added : (f : Frame) (x : Piece) → done_of (add f x) ≡ done_of f
done_added (fresh d) x = refl
done_added (row d b y) x = refl

-- ---- the program is at most six times as long as the size

bars_size : (p : Pattern) → bars p ≤ pattern_size p + 1
bars_size (only b) = omega arith
bars_size (either p b) = let h = bars_size p in let e = size_next p (branch_tree b none) none in omega arith

pub few_bars : (d : Option Pattern) → done_bars d ≤ done_size d
few_bars None = omega arith
few_bars (Some p) = bars_size p
