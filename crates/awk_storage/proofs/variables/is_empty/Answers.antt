use Rattle.awk_storage.proofs.Digits.{signed_decimal_not_empty}
use Rattle.awk_storage.proofs.variables.is_empty.Goals as goal

pub returns-in-Number : goal.returns-in-Number
returns-in-Number c = rw c.in-Number.is (signed_decimal_not_empty _)
