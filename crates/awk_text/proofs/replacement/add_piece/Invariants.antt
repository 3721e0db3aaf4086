use Rattle.std.proofs.Common.{◌≡◌, ◌++◌, take}
use Rattle.awk_text.proofs.replacement.add_piece.Given as goal

-- so many bytes of the piece are written
abbrev pub invariant-loop-i : goal.invariant-loop-i
invariant-loop-i l = l.out.items ≡ l.fn.out.items ++ take l.i l.piece
