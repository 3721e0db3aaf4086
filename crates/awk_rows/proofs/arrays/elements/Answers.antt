use Rattle.std.proofs.Common.{codes, refl}
use Rattle.awk_rows.proofs.Computing.{computed, gives}
use Rattle.awk_rows.proofs.arrays.elements.Goals as goal

pub returns-clause-a_walk_keeps_the_order_of_insertion : goal.returns-clause-a_walk_keeps_the_order_of_insertion
unfolding computed
returns-clause-a_walk_keeps_the_order_of_insertion c = gives {bytes = codes "y\nz\nx\n"} refl (λ outside. refl)

pub returns-clause-a_walk_goes_over_the_keys_of_its_start : goal.returns-clause-a_walk_goes_over_the_keys_of_its_start
unfolding computed
returns-clause-a_walk_goes_over_the_keys_of_its_start c = gives {bytes = codes "1\n2\n"} refl (λ outside. refl)

pub returns-clause-an_array_has_a_length_and_is_deleted_whole : goal.returns-clause-an_array_has_a_length_and_is_deleted_whole
unfolding computed
returns-clause-an_array_has_a_length_and_is_deleted_whole c = gives {bytes = codes "2\n0\n"} refl (λ outside. refl)
