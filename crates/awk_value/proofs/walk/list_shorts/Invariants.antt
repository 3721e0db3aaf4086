use Rattle.std.proofs.Common.{◌≡◌, ◌++◌, map}
use Rattle.awk_value.specs.support.Texts.{short_text}
use Rattle.awk_value.proofs.walk.list_shorts.Given as goal

abbrev pub invariant-loop-key : goal.invariant-loop-key
invariant-loop-key l = l.rows ≡ l.initial.rows ++ map (λ k. (k.1.now.stamp, short_text k.0.now)) l.yielded
