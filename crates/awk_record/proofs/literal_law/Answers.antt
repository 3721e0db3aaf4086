use Rattle.awk_record.proofs.CutOfLiteral.{cut_of-literal, cut_of-last, cut_of-broken}
use Rattle.awk_record.proofs.literal_law.Goals as goal

pub returns : goal.returns
returns c = record {
  literal = cut_of-literal;
  last = cut_of-last;
  broken = cut_of-broken;
}
