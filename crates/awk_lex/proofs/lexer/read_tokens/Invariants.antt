use Rattle.std.proofs.Common.{length, ◌+◌, ◌-◌, ◌≤◌, ◌≡◌}
use Rattle.std.specs.Prelude.{All}
use Rattle.awk_lex.specs.definitions.Told.{kinds_of, line_at, StandsAt, InTurn}
use Rattle.awk_lex.proofs.Progress.{IsRead}
use Rattle.awk_lex.proofs.lexer.read_tokens.Given as goal

abbrev pub invariant-loop-at : goal.invariant-loop-at
invariant-loop-at l = record {
  within : l.at ≤ length l.text;
  few : l.line ≤ l.at + 1;
  line : l.line ≡ line_at l.text l.at;
  read : IsRead (kinds_of l.tokens.items) l.divides l.text l.at;
  placed : All (StandsAt l.text) l.tokens.items;
  in_turn : InTurn l.text 0 l.tokens.items l.at;
  stretches : All (λ token. (token.start ≤ token.end) × (token.end ≤ length l.text)) l.tokens.items;
}

abbrev pub decreases-loop-at : goal.decreases-loop-at
decreases-loop-at l = length l.text - l.at
