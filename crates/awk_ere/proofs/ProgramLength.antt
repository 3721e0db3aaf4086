-- A program is at most six times as long as its pattern is large.
use Rattle.std.proofs.Common.{◌≡◌, ◌≤◌, ℕ, zero, suc, ◌+◌, ◌-◌, ◌*◌, false, List, [], ◌∷◌, ◌++◌, length, replicate, Option, Some, None, ap, arith}
use Rattle.std.proofs.lemmas.List.{length-append, length-replicate}
use Rattle.awk_ere.specs.definitions.Tree.{Count, star, some, option, exactly, at_least, between, Tree, empty, class, start, end, pieces, branches, repeat, Row, none, next, repeated_size, size, pieces_size, branches_size}
use Rattle.awk_ere.specs.definitions.Desugared.{Re, copies, up_to, repeated, IsCount, IsOrdered, AreOrdered, desugar, desugar_all, desugar_one}
use Rattle.awk_ere.specs.definitions.Program.{at_start, join, code_size}
use Rattle.awk_ere.specs.definitions.Tokens.{opening, bar}
use Rattle.awk_ere.specs.definitions.Limits.{any_bad}
use Rattle.awk_ere.specs.definitions.Written.{Pattern, only, either, Branch, tokens, piece_tokens, branch_tree, piece_tree, pattern_tree}
use Rattle.awk_ere.specs.support.Parser.{Frame, fresh, row}
use Rattle.awk_ere.proofs.RepeatProgram.{length-code}
use Rattle.awk_ere.proofs.CountsOrdered.{no_bad, ordered_pattern, ordered_branch, ordered_piece}
use Rattle.awk_ere.proofs.ParseRoundTrip.{done_tokens, before_tokens, frame_tokens, state_tokens}
use Rattle.awk_ere.proofs.ProgramOfFrames.{Code, tree_code, barred_all, bars, pattern_size, done_code, done_size, pieces_code, pieces_size_of, frame_code, frame_size, all_code, all_size, code_next, size_next}

copies_size : (m : ℕ) (a : Re) → code_size (copies m a) ≡ m * code_size a
copies_size zero a = omega arith
copies_size (suc m) a = let h = copies_size m a in omega arith

up_to_size : (m : ℕ) (a : Re) → code_size (up_to m a) ≡ m * code_size a + 3 * m
up_to_size zero a = omega arith
up_to_size (suc m) a = let h = up_to_size m a in omega arith

-- m times as much
times_le : (m c n : ℕ) → c + 5 ≤ 6 * n → m * c + 5 * m ≤ 6 * (m * n)
times_le zero c n h = omega arith
times_le (suc m) c n h = let k = times_le m c n h in omega arith

-- a product of a difference
split_times : (m k c : ℕ) → m ≤ k → m * c + (k - m) * c ≡ k * c
split_times zero k c h = let d : k - 0 ≡ k = omega arith in rw d (omega arith)
split_times (suc m) zero c h = absurd (omega arith)
split_times (suc m) (suc k) c h = let e = split_times m k c (omega arith) in let d : suc k - suc m ≡ k - m = omega arith in rw d (omega arith)

repeated_length : (c : Count) (a : Re) (n : ℕ) → IsCount c → code_size a + 5 ≤ 6 * n → code_size (repeated c a) + 5 ≤ 6 * repeated_size c n
repeated_length star a n o h = omega arith
repeated_length some a n o h = omega arith
repeated_length option a n o h = omega arith
repeated_length (exactly m) a n o h = let e = copies_size m a in let k = times_le m (code_size a) n h in omega arith
repeated_length (at_least m) a n o h = let e = copies_size m a in let k = times_le m (code_size a) n h in omega arith
repeated_length (between m k) a n o h =
    let e = copies_size m a in
    let f = up_to_size (k - m) a in
    let s = split_times m k (code_size a) o in
    let l = times_le k (code_size a) n h in
    omega arith

mutual
  pub tree_length : (t : Tree) → IsOrdered t → code_size (desugar t) + 5 ≤ 6 * size t
  tree_length empty o = omega arith
  tree_length (class c) o = omega arith
  tree_length start o = omega arith
  tree_length end o = omega arith
  tree_length (pieces t r) o = let h = tree_length t o.0 in let k = pieces_length r o.1 in omega arith
  tree_length (branches t r) o = let h = tree_length t o.0 in let k = branches_length (desugar t) r o.1 in omega arith
  tree_length (repeat t c) o = repeated_length c (desugar t) (size t) o.1 (tree_length t o.0)

  pieces_length : (r : Row) → AreOrdered r → code_size (desugar_all r) ≤ 6 * pieces_size r
  pieces_length none o = omega arith
  pieces_length (next t r) o = let h = tree_length t o.0 in let k = pieces_length r o.1 in omega arith

  branches_length : (a : Re) (r : Row) → AreOrdered r → code_size (desugar_one a r) ≤ code_size a + 6 * branches_size r
  branches_length a none o = omega arith
  branches_length a (next t r) o = let h = tree_length t o.0 in let k = branches_length (desugar t) r o.1 in omega arith

code_length : (t : Tree) → IsOrdered t → length (tree_code t) + 5 ≤ 6 * size t
code_length t o = let h = tree_length t o in omega (arith, h, length-code (desugar t))

-- ---- of what was read so far

one_bar : (p : Pattern) → 1 ≤ bars p
one_bar (only b) = omega arith
one_bar (either p b) = omega arith

barred_length : (p : Pattern) → any_bad (tokens p) ≡ false → length (barred_all p) ≤ 6 * (pattern_size p + 1)
barred_length p e =
    let joins : Code = replicate (bars p) join in
    let whole = code_length (pattern_tree p (next start none)) (ordered_pattern p (next start none) e (tt, tt)) in
    let parts = ap length (code_next p start none) in
    let count = length-append (barred_all p) (at_start ∷ joins) in
    omega (arith, whole, parts, count, length-replicate (bars p) join, one_bar p, size_next p start none)

done_length : (d : Option Pattern) → any_bad (done_tokens d) ≡ false → length (done_code d) ≤ 6 * done_size d
done_length None e = omega arith
done_length (Some p) e = barred_length p (no_bad (tokens p) (bar ∷ []) e).0

before_length : (b : Option Branch) → any_bad (before_tokens b) ≡ false → length (pieces_code b) ≤ 6 * pieces_size_of b
before_length None e = omega arith
before_length (Some b) e = let h = code_length (branch_tree b none) (ordered_branch b none e tt) in omega arith

frame_length : (f : Frame) → any_bad (frame_tokens f) ≡ false → length (frame_code f) ≤ 6 * frame_size f
frame_length (fresh d) e = done_length d e
frame_length (row d b x) e =
    let parts = no_bad (done_tokens d) (before_tokens b ++ piece_tokens x) e in
    let last = no_bad (before_tokens b) (piece_tokens x) parts.1 in
    let done = done_length d parts.0 in
    let before = before_length b last.0 in
    let piece = code_length (piece_tree x) (ordered_piece x last.1) in
    omega (arith, done, before, piece, length-append (done_code d) (pieces_code b ++ tree_code (piece_tree x)), length-append (pieces_code b) (tree_code (piece_tree x)))

pub all_length : (f : Frame) (fs : List Frame) → any_bad (state_tokens f fs) ≡ false → length (all_code (f ∷ fs)) ≤ 6 * all_size (f ∷ fs)
all_length f [] e = let h = frame_length f e in omega arith
all_length f (g ∷ fs) e =
    let parts = no_bad (state_tokens g fs) (opening ∷ frame_tokens f) e in
    let outer = all_length g fs parts.0 in
    let inner = frame_length f parts.1 in
    omega (arith, outer, inner, length-append (all_code (g ∷ fs)) (frame_code f))
