-- A text spells the pattern that it is said to spell, whose counts are in order.
use Rattle.awk_ere.proofs.PatternDecided.{pattern_sound, pattern_complete, pattern_ordered}
use Rattle.awk_ere.proofs.spelling_laws.pattern_law.Goals as goal

pub returns : goal.returns
returns c = record {
  decided = λ text t. (pattern_sound text t, pattern_complete text t);
  ordered = pattern_ordered;
}
