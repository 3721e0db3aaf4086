use Rattle.std.proofs.Common.{◌≡◌, to_z, of_z, arith}
use Rattle.std.proofs.lemmas.Int.{ints}
use Rattle.std.proofs.lemmas.Result.{err_from_is_err_and}
use mir.Syntax.{w128}
use Rattle.awk_runtime.proofs.TextChanges.{note_ends, note_ends_later, note_gives}
use Rattle.awk_runtime.proofs.runtime.Runtime.note_match.Goals as goal

pub returns-in_err-put_special : goal.returns-in_err-put_special
returns-in_err-put_special c =
    let p = err_from_is_err_and c.from_residual.result c.from_residual.ensures.1 in
    let passed : to_z w128 (of_z w128 c.start_of-start.result) ≡ c.start_of-start.result = omega (arith, ints) in
    rw (p.1, p.2) (note_ends c.args.found (rw (passed, c.start_of-start.ensures) at c.in_err-put_special.ensures))

pub returns-in_err-put_special-2 : goal.returns-in_err-put_special-2
returns-in_err-put_special-2 c =
    let p = err_from_is_err_and c.from_residual-in_err-put_special-2.result c.from_residual-in_err-put_special-2.ensures.1 in
    let passed : to_z w128 (of_z w128 c.start_of-start.result) ≡ c.start_of-start.result = omega (arith, ints) in
    let long : to_z w128 (of_z w128 c.length_of.result) ≡ c.length_of.result = omega (arith, ints) in
    rw (p.1, p.2) (note_ends_later c.args.found (rw (passed, c.start_of-start.ensures) at c.in_ok-put_special.ensures) (rw (long, c.length_of.ensures) at c.in_err-put_special-2.ensures))

pub returns : goal.returns
returns c =
    let passed : to_z w128 (of_z w128 c.start_of-start.result) ≡ c.start_of-start.result = omega (arith, ints) in
    let long : to_z w128 (of_z w128 c.length_of.result) ≡ c.length_of.result = omega (arith, ints) in
    rw (passed, c.start_of-start.ensures) (note_gives c.args.found (rw (passed, c.start_of-start.ensures) at c.in_ok-put_special.ensures) (rw (long, c.length_of.ensures) at c.in_ok-put_special-2.ensures))
