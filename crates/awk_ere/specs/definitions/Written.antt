-- A pattern as it is written: its tokens and its tree (XBD 9.4.8).
use Rattle.std.specs.Prelude.{◌≡◌, ℕ, suc, max, List, [], ◌∷◌, ◌++◌}
use Rattle.awk_ere.specs.definitions.Tree.{Tree, empty, class, start, end, pieces, branches, repeat, Row, none, next}
use Rattle.awk_ere.specs.definitions.Tokens.{Atom, atom_class, Repeat, count_of, Token, atom, at_start, at_end, opening, closing, bar, again, AreSpelt}

-- branches, of pieces, of atoms and groups with repeats. No repeat stands directly behind an anchor.
mutual
  pub data Pattern : Type 0 where
    only : Branch → Pattern
    either : Pattern → Branch → Pattern

  pub data Branch : Type 0 where
    single : Piece → Branch
    then : Branch → Piece → Branch

  pub data Piece : Type 0 where
    the_start : Piece
    the_end : Piece
    part : Part → Piece

  pub data Part : Type 0 where
    one : Atom → Part
    group : Pattern → Part
    repeated : Part → Repeat → Part

-- its tokens
abbrev mutual
  pub tokens : Pattern → List Token
  tokens (only b) = branch_tokens b
  tokens (either p b) = tokens p ++ bar ∷ branch_tokens b

  pub branch_tokens : Branch → List Token
  branch_tokens (single x) = piece_tokens x
  branch_tokens (then b x) = branch_tokens b ++ piece_tokens x

  pub piece_tokens : Piece → List Token
  piece_tokens the_start = at_start ∷ []
  piece_tokens the_end = at_end ∷ []
  piece_tokens (part c) = part_tokens c

  pub part_tokens : Part → List Token
  part_tokens (one a) = atom a ∷ []
  part_tokens (group p) = opening ∷ (tokens p ++ closing ∷ [])
  part_tokens (repeated c r) = part_tokens c ++ again r ∷ []

-- one piece or one branch is its own list
abbrev pub pieces_of : Tree → Row → Tree
pieces_of t none = t
pieces_of t (next u row) = pieces t (next u row)

abbrev pub branches_of : Tree → Row → Tree
branches_of t none = t
branches_of t (next u row) = branches t (next u row)

-- its tree, with what stands behind it
abbrev mutual
  pub pattern_tree : Pattern → Row → Tree
  pattern_tree (only b) row = branches_of (branch_tree b none) row
  pattern_tree (either p b) row = pattern_tree p (next (branch_tree b none) row)

  pub branch_tree : Branch → Row → Tree
  branch_tree (single x) row = pieces_of (piece_tree x) row
  branch_tree (then b x) row = branch_tree b (next (piece_tree x) row)

  pub piece_tree : Piece → Tree
  piece_tree the_start = start
  piece_tree the_end = end
  piece_tree (part c) = part_tree c

  pub part_tree : Part → Tree
  part_tree (one a) = class (atom_class a)
  part_tree (group p) = pattern_tree p none
  part_tree (repeated c r) = repeat (part_tree c) (count_of r)

-- how many of its parentheses are open at once
abbrev mutual
  pub opened : Pattern → ℕ
  opened (only b) = branch_opened b
  opened (either p b) = max (opened p) (branch_opened b)

  pub branch_opened : Branch → ℕ
  branch_opened (single x) = piece_opened x
  branch_opened (then b x) = max (branch_opened b) (piece_opened x)

  pub piece_opened : Piece → ℕ
  piece_opened the_start = 0
  piece_opened the_end = 0
  piece_opened (part c) = part_opened c

  pub part_opened : Part → ℕ
  part_opened (one a) = 0
  part_opened (group p) = suc (opened p)
  part_opened (repeated c r) = part_opened c

-- a whole text: nothing, or a pattern
pub data Whole : Type 0 where
  nothing : Whole
  whole : Pattern → Whole

abbrev pub whole_tokens : Whole → List Token
whole_tokens nothing = []
whole_tokens (whole p) = tokens p

abbrev pub tree_of : Whole → Tree
tree_of nothing = empty
tree_of (whole p) = pattern_tree p none

abbrev pub whole_opened : Whole → ℕ
whole_opened nothing = 0
whole_opened (whole p) = opened p

-- the text is written so
abbrev pub IsWritten : Whole → List ℕ → Type 0
IsWritten w text = AreSpelt (whole_tokens w) text

-- the text spells the pattern, whatever its counts, ranges and size are
abbrev pub Spells : Tree → List ℕ → Type 0
Spells t text = (w : Whole) × IsWritten w text × (tree_of w ≡ t)
