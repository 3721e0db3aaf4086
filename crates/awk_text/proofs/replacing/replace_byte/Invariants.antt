use Rattle.std.proofs.Common.{◌<◌, ◌≤◌, ◌-◌, ◌⊎◌, length, drop}
use Rattle.std.specs.Prelude.{IsSome}
use Rattle.memchr.specs.Find.{IsFirstByte, is_byte}
use Rattle.awk_ere.specs.definitions.Tree.{Tree}
use Rattle.awk_ere.specs.support.Found.{IsOneByte}
use Rattle.awk_text.proofs.ExchangedSoFar.{Exchanged}
use Rattle.awk_text.proofs.replacing.replace_byte.Given as goal

-- whatever matches are chosen from here, what is written and theirs are the whole
abbrev pub invariant-loop-next : goal.invariant-loop-next
invariant-loop-next l = record {
  inside : l.place ≤ length l.text;
  found : IsFirstByte (is_byte l.byte) (drop l.place l.text) l.next;
  some : (0 < l.count) ⊎ IsSome l.next;
  few : l.count ≤ l.place;
  exchanged : (t : Tree) → IsOneByte t l.byte → Exchanged t l.replacement l.text l.out.items l.count l.place;
}

abbrev pub decreases-loop-next : goal.decreases-loop-next
decreases-loop-next l = length l.text - l.place
