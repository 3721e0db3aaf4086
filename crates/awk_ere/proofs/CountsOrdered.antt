-- Where no token is bad, no least count is above the greatest one.
use Rattle.std.proofs.Common.{◌≡◌, false, ◌||◌, nat_le, List, [], ◌∷◌, ◌++◌, refl, sym, ap, ◌∙◌}
use Rattle.std.proofs.lemmas.Bool.{or_parts, not-false, leb-true}
use Rattle.std.proofs.Math.Bool.{or_assoc}
use Rattle.awk_ere.specs.definitions.Tree.{Tree, Row, none, next}
use Rattle.awk_ere.specs.definitions.Desugared.{IsCount, IsOrdered, AreOrdered}
use Rattle.awk_ere.specs.definitions.Tokens.{Repeat, star, plus, option, exactly, at_least, between, number, count_of, Token, bar, again, closing}
use Rattle.awk_ere.specs.definitions.Limits.{repeat_is_bad, token_is_bad, any_bad}
use Rattle.awk_ere.specs.definitions.Written.{Pattern, only, either, Branch, single, then, Piece, the_start, the_end, part, Part, one, group, repeated, tokens, branch_tokens, piece_tokens, part_tokens, pieces_of, branches_of, pattern_tree, branch_tree, piece_tree, part_tree}

pub any_bad_append : (ws vs : List Token) → any_bad (ws ++ vs) ≡ (any_bad ws || any_bad vs)
any_bad_append [] vs = refl
any_bad_append (w ∷ ws) vs = ap (λ b. token_is_bad w || b) (any_bad_append ws vs) ∙ sym (or_assoc (token_is_bad w) (any_bad ws) (any_bad vs))

pub no_bad : (ws vs : List Token) → any_bad (ws ++ vs) ≡ false → (any_bad ws ≡ false) × (any_bad vs ≡ false)
no_bad ws vs e = or_parts (any_bad ws) (any_bad vs) (sym (any_bad_append ws vs) ∙ e)

pub count_ordered : (r : Repeat) → repeat_is_bad r ≡ false → IsCount (count_of r)
count_ordered star e = tt
count_ordered plus e = tt
count_ordered option e = tt
count_ordered (exactly ds) e = tt
count_ordered (at_least ds) e = tt
count_ordered (between ds es) e =
    leb-true (number 0 ds) (number 0 es) (not-false (nat_le (number 0 ds) (number 0 es)) (or_parts _ _ e).1)

in_pieces : (t : Tree) (r : Row) → IsOrdered t → AreOrdered r → IsOrdered (pieces_of t r)
in_pieces t none h k = h
in_pieces t (next u r) h k = (h, k)

in_branches : (t : Tree) (r : Row) → IsOrdered t → AreOrdered r → IsOrdered (branches_of t r)
in_branches t none h k = h
in_branches t (next u r) h k = (h, k)

mutual
  pub ordered_pattern : (p : Pattern) (r : Row) → any_bad (tokens p) ≡ false → AreOrdered r → IsOrdered (pattern_tree p r)
  ordered_pattern (only b) r e h = in_branches (branch_tree b none) r (ordered_branch b none e tt) h
  ordered_pattern (either p b) r e h =
      let parts = no_bad (tokens p) (bar ∷ branch_tokens b) e in
      ordered_pattern p (next (branch_tree b none) r) parts.0 (ordered_branch b none parts.1 tt, h)

  pub ordered_branch : (b : Branch) (r : Row) → any_bad (branch_tokens b) ≡ false → AreOrdered r → IsOrdered (branch_tree b r)
  ordered_branch (single x) r e h = in_pieces (piece_tree x) r (ordered_piece x e) h
  ordered_branch (then b x) r e h =
      let parts = no_bad (branch_tokens b) (piece_tokens x) e in
      ordered_branch b (next (piece_tree x) r) parts.0 (ordered_piece x parts.1, h)

  pub ordered_piece : (x : Piece) → any_bad (piece_tokens x) ≡ false → IsOrdered (piece_tree x)
  ordered_piece the_start e = tt
  ordered_piece the_end e = tt
  ordered_piece (part c) e = ordered_part c e

  pub ordered_part : (c : Part) → any_bad (part_tokens c) ≡ false → IsOrdered (part_tree c)
  ordered_part (one a) e = tt
  ordered_part (group p) e = ordered_pattern p none (no_bad (tokens p) (closing ∷ []) e).0 tt
  ordered_part (repeated c r) e =
      let parts = no_bad (part_tokens c) (again r ∷ []) e in
      (ordered_part c parts.0, count_ordered r (or_parts (repeat_is_bad r) false parts.1).0)
