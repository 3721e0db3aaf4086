use Rattle.awk_record.proofs.CutOfParagraph.{cut_of-paragraph, cut_of-last_paragraph, cut_of-ended_paragraph, cut_of-newlines, cut_of-broken_paragraph}
use Rattle.awk_record.proofs.paragraph_law.Goals as goal

pub returns : goal.returns
returns c = record {
  paragraph = cut_of-paragraph;
  last = cut_of-last_paragraph;
  ended = cut_of-ended_paragraph;
  none = cut_of-newlines;
  broken = cut_of-broken_paragraph;
}
