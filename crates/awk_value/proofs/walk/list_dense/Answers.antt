use Rattle.std.proofs.Common.{arith}
use Rattle.std.specs.Fmt.{signed_decimal}
use Rattle.awk_value.proofs.Places.{one-listed}
use Rattle.awk_value.proofs.walk.list_dense.Goals as goal

pub loop-number-preserved : goal.loop-number-preserved
loop-number-preserved c =
    let es = c.args.entries.now in
    let n = c.loop-number.number in
    record {
      within = omega (arith, c.loop-number-test.true);
      listed = one-listed (λ e. (e.1.stamp, signed_decimal e.0)) es n c.index-entries-number.result c.list_place.new.rows c.loop-number.rows c.args.rows.now
          c.loop-number-test.true c.index-entries-number.is c.loop-number.invariant.listed c.in_ok-list_place.ensures;
    }
