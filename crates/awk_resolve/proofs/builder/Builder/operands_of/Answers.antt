use Rattle.std.proofs.Common.{◌≡◌, suc, ◌+◌, [], ◌∷◌, sym, arith, append_assoc, append-nil}
use Rattle.awk_resolve.proofs.Building.{extends, same}
use Rattle.awk_resolve.proofs.InPlaceForms.{still_operand}
use Rattle.awk_resolve.proofs.ListForms.{exprs_at, exprs_over}
use Rattle.awk_resolve.proofs.builder.Builder.operands_of.Goals as goal

pub loop-e-init : goal.loop-e-init
loop-e-init c = (same, λ later more g are. rw c.new-operands.ensures.items are)

pub loop-e-preserved : goal.loop-e-preserved
loop-e-preserved c =
    let next : c.loop-e.e-index + 1 ≡ suc c.loop-e.e-index = omega arith in
    let found = rw c.in-Some.is at c.in_ok-operand.ensures in (
      extends c.loop-e.invariant.0 found.extends,
      λ later more g are.
          rw (c.in_ok-push.ensures.items, append_assoc)
          (c.loop-e.invariant.1 later (c.in-Some.operand ∷ more) (extends found.extends g) (rw (exprs_at c.args.list.now c.loop-e.e-index c.e-item.result (omega arith) (sym c.e-item.is)) (still_operand g found.is, rw next at are))),
    )

pub returns-in_default : goal.returns-in_default
returns-in_default c = rw (rw c.in_default.is at c.in_ok-operand.ensures) c.loop-e.invariant.0

pub returns : goal.returns
returns c = record { extends = c.loop-e.invariant.0; are = rw append-nil at (c.loop-e.invariant.1 c.loop-e.self [] same (rw (exprs_over c.args.list.now c.loop-e.e-index (omega arith)) tt)) }
