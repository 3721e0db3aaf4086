use Rattle.awk_value.specs.Arithmetic.{product_of, sum_of, difference_of, quotient_of, remainder_of, power_of}
use Rattle.awk_functions.proofs.OfNumbers.{arithmetic_by, where_some}
use Rattle.awk_functions.proofs.short.compute_in_short.Goals as goal

pub returns-in-Plus-clause-of_numbers : goal.returns-in-Plus-clause-of_numbers
returns-in-Plus-clause-of_numbers c = rw c.in-Plus.is (where_some _ (arithmetic_by sum_of))

pub returns-in-Minus-clause-of_numbers : goal.returns-in-Minus-clause-of_numbers
returns-in-Minus-clause-of_numbers c = rw c.in-Minus.is (where_some _ (arithmetic_by difference_of))

pub returns-in-Times-clause-of_numbers : goal.returns-in-Times-clause-of_numbers
returns-in-Times-clause-of_numbers c = rw c.in-Times.is (where_some _ (arithmetic_by product_of))

pub returns-in-Divide-clause-of_numbers : goal.returns-in-Divide-clause-of_numbers
returns-in-Divide-clause-of_numbers c = rw c.in-Divide.is (where_some _ (arithmetic_by quotient_of))

pub returns-in-Remainder-clause-of_numbers : goal.returns-in-Remainder-clause-of_numbers
returns-in-Remainder-clause-of_numbers c = rw c.in-Remainder.is (where_some _ (arithmetic_by remainder_of))

pub returns-in-Power-clause-of_numbers : goal.returns-in-Power-clause-of_numbers
returns-in-Power-clause-of_numbers c = rw c.in-Power.is (where_some _ (arithmetic_by power_of))
