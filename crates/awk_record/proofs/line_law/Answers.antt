use Rattle.awk_record.proofs.CutOfLine.{cut_of-line, cut_of-last_line, cut_of-broken_line}
use Rattle.awk_record.proofs.line_law.Goals as goal

pub returns : goal.returns
returns c = record {
  line = cut_of-line;
  last = cut_of-last_line;
  broken = cut_of-broken_line;
}
