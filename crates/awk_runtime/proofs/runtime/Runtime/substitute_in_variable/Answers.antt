use Rattle.std.proofs.Common.{◌≡◌, pos, to_z, refl, arith}
use Rattle.std.proofs.lemmas.Int.{ints}
use Rattle.std.proofs.lemmas.Result.{err_from_is_err_and}
use mir.Syntax.{w128}
use Rattle.awk_value.specs.declared.value.Value.TheVariants.{Nothing}
use Rattle.awk_value.specs.Values.{str_of}
use Rattle.awk_storage.specs.declared.position.Place.TheVariants.{Variable}
use Rattle.awk_storage.specs.Positions.{read_variable}
use Rattle.awk_runtime.specs.support.Naming.{ere_at}
use Rattle.awk_runtime.proofs.TextChanges.{in_read, substitute_ends, substitute_nothing, substitute_ends_later, substitute_gives}
use Rattle.awk_runtime.proofs.runtime.Runtime.substitute_in_variable.Goals as goal

pub returns-in_err-exchange_in_variable : goal.returns-in_err-exchange_in_variable
returns-in_err-exchange_in_variable c =
    let p = err_from_is_err_and c.from_residual.result c.from_residual.ensures.1 in
    let a = c.args in
    let names = a.self.now.names in
    rw (p.1, p.2) (substitute_ends names.scalars (Variable a.variable) Nothing (in_read names.scalars (Variable a.variable) Nothing a.all (str_of a.replacement.now) (read_variable names.scalars a.variable) (ere_at names a.ere)) c.in_err-exchange_in_variable.ensures)

pub returns-in-None : goal.returns-in-None
returns-in-None c =
    let a = c.args in
    let names = a.self.now.names in
    substitute_nothing names.scalars (Variable a.variable) Nothing (in_read names.scalars (Variable a.variable) Nothing a.all (str_of a.replacement.now) (read_variable names.scalars a.variable) (ere_at names a.ere)) (rw c.in-None.is at c.in_ok-exchange_in_variable.ensures)

pub returns-in_err-put_variable-in-Some : goal.returns-in_err-put_variable-in-Some
returns-in_err-put_variable-in-Some c =
    let p = err_from_is_err_and c.from_residual-in_err-put_variable-in-Some.result c.from_residual-in_err-put_variable-in-Some.ensures.1 in
    let a = c.args in
    let names = a.self.now.names in
    rw (p.1, p.2) (substitute_ends_later names.scalars (Variable a.variable) Nothing (in_read names.scalars (Variable a.variable) Nothing a.all (str_of a.replacement.now) (read_variable names.scalars a.variable) (ere_at names a.ere)) refl (rw c.in-Some.is at c.in_ok-exchange_in_variable.ensures) c.in_err-put_variable-in-Some.ensures)

pub returns-in_ok-put_variable-in-Some : goal.returns-in_ok-put_variable-in-Some
returns-in_ok-put_variable-in-Some c =
    let a = c.args in
    let names = a.self.now.names in
    let count : to_z w128 c.in-Some.exchanged.count ≡ pos c.in-Some.exchanged.count = omega (arith, ints) in
    rw count (substitute_gives names.scalars (Variable a.variable) Nothing (in_read names.scalars (Variable a.variable) Nothing a.all (str_of a.replacement.now) (read_variable names.scalars a.variable) (ere_at names a.ere)) refl (rw c.in-Some.is at c.in_ok-exchange_in_variable.ensures) c.in_ok-put_variable-in-Some.ensures)
