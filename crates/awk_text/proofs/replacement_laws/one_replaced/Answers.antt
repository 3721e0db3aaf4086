use Rattle.awk_text.proofs.OneReplaced.{one_result}
use Rattle.awk_text.proofs.replacement_laws.one_replaced.Goals as goal

pub returns : goal.returns
returns c t r s all m n one other a b = one_result t s r all m n one other a b
