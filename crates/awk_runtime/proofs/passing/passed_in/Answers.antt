use Rattle.awk_runtime.proofs.PassedLines.{passed}
use Rattle.awk_runtime.proofs.passing.passed_in.Goals as goal

pub returns-clause-passed : goal.returns-clause-passed
returns-clause-passed c = passed c.args.separator c.args.bytes.now c.args.place c.in_ok-end.end c.count_of-records.result c.requires.short c.in_ok-end.ensures.end c.in_ok-end.ensures.before c.in_ok-end.ensures.whole c.count_of-records.ensures
