use Rattle.std.proofs.Common.{List, ℕ, None, Some, sym, subst}
use Rattle.std.proofs.lemmas.List.{take_rest}
use Rattle.memchr.specs.Find.{IsFirstByte, is_byte}
use Rattle.awk_record.proofs.FirstByLanes.{none_behind, some_behind}
use Rattle.awk_record.proofs.lanes.first_behind.Goals as goal

pub returns-in_err-len : goal.returns-in_err-len
returns-in_err-len c =
    let bytes = c.args.bytes.now in
    let byte = c.args.byte in
    let found = subst (λ (s : List ℕ). IsFirstByte (is_byte byte) s None) (take_rest bytes c.lanes.at) c.in_err-len.ensures in
    subst (IsFirstByte (is_byte byte) bytes) (sym c.from_residual.ensures) (none_behind byte bytes c.lanes.at c.lanes.invariant.within c.lanes.invariant.none found)

pub returns : goal.returns
returns c =
    let bytes = c.args.bytes.now in
    let byte = c.args.byte in
    let found = subst (λ (s : List ℕ). IsFirstByte (is_byte byte) s (Some c.in_ok-len.len)) (take_rest bytes c.lanes.at) c.in_ok-len.ensures in
    some_behind byte bytes c.lanes.at c.in_ok-len.len c.lanes.invariant.within c.lanes.invariant.none found
