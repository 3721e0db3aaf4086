use Rattle.std.proofs.Common.{◌-◌, ◌≤◌, length, get_or}
use Rattle.std.specs.Slice.Scan.{HoldsNowhere}
use Rattle.memchr.specs.Find.{is_byte}
use Rattle.awk_record.proofs.lanes.first_behind.Given as goal

abbrev pub invariant-lanes : goal.invariant-lanes
invariant-lanes l = record {
  within : l.at ≤ length l.bytes;
  none : HoldsNowhere (λ k. is_byte l.byte (get_or l.bytes k 0)) 0 l.at;
}

abbrev pub decreases-lanes : goal.decreases-lanes
decreases-lanes l = length l.bytes - l.at
