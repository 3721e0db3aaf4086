use Rattle.std.proofs.Common.{length, ◌-◌, ◌≡◌, ◌≤◌, ◌++◌, drop}
use Rattle.std.specs.Option.{option_map}
use Rattle.awk_lex.specs.definitions.Escapes.{unescaped}
use Rattle.awk_lex.proofs.escapes.unescape.Given as goal

-- the bytes so far and what is left of the text are the whole
abbrev pub invariant-loop-place : goal.invariant-loop-place
invariant-loop-place l = record {
  within : l.place ≤ length l.text;
  whole : option_map (λ bytes. l.into.items ++ bytes) (unescaped (drop l.place l.text)) ≡ option_map (λ bytes. l.fn.into.items ++ bytes) (unescaped l.text);
}

abbrev pub decreases-loop-place : goal.decreases-loop-place
decreases-loop-place l = length l.text - l.place
