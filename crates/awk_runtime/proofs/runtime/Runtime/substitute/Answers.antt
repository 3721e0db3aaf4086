use Rattle.std.proofs.Common.{◌≡◌, pos, to_z, refl, arith}
use Rattle.std.proofs.lemmas.Int.{ints}
use Rattle.std.proofs.lemmas.Result.{err_from_is_err_and}
use mir.Syntax.{w128}
use Rattle.awk_value.specs.Values.{str_of}
use Rattle.awk_runtime.specs.support.Spelled.{spelled}
use Rattle.awk_runtime.proofs.TextChanges.{in_value, substitute_ends, substitute_nothing, substitute_ends_later, substitute_gives}
use Rattle.awk_runtime.proofs.runtime.Runtime.substitute.Goals as goal

pub returns-in_err-exchange : goal.returns-in_err-exchange
returns-in_err-exchange c =
    let p = err_from_is_err_and c.from_residual.result c.from_residual.ensures.1 in
    let a = c.args in
    rw (p.1, p.2) (substitute_ends a.self.now.names.scalars a.place a.operand.now (in_value a.self.now.names.scalars a.place a.operand.now a.all (str_of a.replacement.now) a.old.now (spelled a.self.now.names a.pattern)) c.in_err-exchange.ensures)

pub returns-in-None : goal.returns-in-None
returns-in-None c =
    let a = c.args in
    substitute_nothing a.self.now.names.scalars a.place a.operand.now (in_value a.self.now.names.scalars a.place a.operand.now a.all (str_of a.replacement.now) a.old.now (spelled a.self.now.names a.pattern)) (rw c.in-None.is at c.in_ok-exchange.ensures)

pub returns-in_err-store_at-in-Some : goal.returns-in_err-store_at-in-Some
returns-in_err-store_at-in-Some c =
    let p = err_from_is_err_and c.from_residual-in_err-store_at-in-Some.result c.from_residual-in_err-store_at-in-Some.ensures.1 in
    let a = c.args in
    rw (p.1, p.2) (substitute_ends_later a.self.now.names.scalars a.place a.operand.now (in_value a.self.now.names.scalars a.place a.operand.now a.all (str_of a.replacement.now) a.old.now (spelled a.self.now.names a.pattern)) refl (rw c.in-Some.is at c.in_ok-exchange.ensures) c.in_err-store_at-in-Some.ensures)

pub returns-in_ok-store_at-in-Some : goal.returns-in_ok-store_at-in-Some
returns-in_ok-store_at-in-Some c =
    let a = c.args in
    let count : to_z w128 c.in-Some.exchanged.count ≡ pos c.in-Some.exchanged.count = omega (arith, ints) in
    rw count (substitute_gives a.self.now.names.scalars a.place a.operand.now (in_value a.self.now.names.scalars a.place a.operand.now a.all (str_of a.replacement.now) a.old.now (spelled a.self.now.names a.pattern)) refl (rw c.in-Some.is at c.in_ok-exchange.ensures) c.in_ok-store_at-in-Some.ensures)
