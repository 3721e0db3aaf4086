use Rattle.awk_resolve.proofs.Planning.{body_added}
use Rattle.awk_resolve.proofs.builder.Builder.lower_function.Goals as goal

pub returns : goal.returns
returns c =
    let body = body_added c.requires c.in_ok-body.ensures in
    record {
      grows = body.grows;
      is = λ name. record { body = body.holds; height = c.in_ok-block_height.ensures; arrays = c.in_ok-are_arrays.ensures };
    }
