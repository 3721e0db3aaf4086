use Rattle.std.proofs.Common.{◌+◌, ◌<◌, length, sym, subst, arith, get_or}
use Rattle.awk_ere.specs.support.Layout.{byte_count, stride}
use Rattle.awk_ere.specs.support.Table.{IsEntry}
use Rattle.awk_ere.proofs.CursorKept.{entry_of, entry_within}
use Rattle.awk_ere.proofs.pattern.Pattern.entry.Goals as goal

pub bounds-transitions-state : goal.bounds-transitions-state
bounds-transitions-state c =
    let tb = c.args.scratch.now.table in
    let x = c.args.byte in
    let byte : x < stride = omega arith in
    subst (λ l. c.args.state + x < length l) (sym c.transitions.ensures)
    (entry_within c.args.self.now tb c.args.entering c.requires.same.table c.args.state x c.requires.known byte)

pub returns-then-known-ne-UNKNOWN-clause-entry : goal.returns-then-known-ne-UNKNOWN-clause-entry
returns-then-known-ne-UNKNOWN-clause-entry c = λ st cs h.
    let p = c.args.self.now in
    let tb = c.args.scratch.now.table in
    let x = c.args.byte in
    let byte : x < byte_count = omega arith in
    subst (λ l. IsEntry p tb st c.args.entering cs x (get_or l (c.args.state + x) 0)) (sym c.transitions.ensures)
    (entry_of p tb c.args.entering c.requires.same.table c.args.state st cs h x byte)
