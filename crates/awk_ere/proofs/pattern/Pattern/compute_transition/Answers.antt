use Rattle.std.proofs.Common.{◌*◌, ◌≤◌, ◌∙◌, Bool, List, length, sym, ap, subst, arith}
use Rattle.awk_ere.specs.support.Table.{IsState, IsEntry, Grows}
use Rattle.awk_ere.proofs.TableKept.{grown, learn_entry, learn_table, begun_entry, begun_table}
use Rattle.awk_ere.proofs.pattern.Pattern.compute_transition.Goals as goal

pub returns-in-Some-clause-entry : goal.returns-in-Some-clause-entry
returns-in-Some-clause-entry c =
    let p = c.args.self.now in
    let old = c.args.scratch.now.table in
    let new = c.find_or_add.new.self in
    let hit = c.step_from-hit in
    let positions = c.as_slice-positions.result.now in
    let positions_is = λ (st : Bool) (cs : List Bool) (h : IsState p old c.args.state st cs). c.as_slice-positions.ensures.value ∙ hit.ensures.positions st cs h in
    let len = ap length c.as_slice-positions.ensures.value ∙ hit.ensures.same.position_set.positions in
    let grows = subst (λ a. Grows p a new) hit.ensures.table (c.find_or_add.ensures.grows p len) in
    let on = c.find_or_add.ensures.unanchored ∙ ap (λ a. a.unanchored.items) hit.ensures.table in
    let off = c.find_or_add.ensures.anchored ∙ ap (λ a. a.anchored.items) hit.ensures.table in
    learn_entry p old c.requires.same.table c.args.state c.args.byte c.args.entering hit.result positions hit.ensures.leaves positions_is
    c.in-Some.number c.in-Some.ensures.known.0 new c.set.new.self grows on off c.in-Some.ensures.known.1 (c.in-Some.ensures.positions p len)
    c.entry_to-entry.result c.entry_to-entry.ensures c.set.ensures.rows c.set.ensures.count c.set.ensures.limit

pub returns-in-Some-clause-same : goal.returns-in-Some-clause-same
returns-in-Some-clause-same c =
    let p = c.args.self.now in
    let old = c.args.scratch.now.table in
    let new = c.find_or_add.new.self in
    let hit = c.step_from-hit in
    let positions = c.as_slice-positions.result.now in
    let positions_is = λ (st : Bool) (cs : List Bool) (h : IsState p old c.args.state st cs). c.as_slice-positions.ensures.value ∙ hit.ensures.positions st cs h in
    let len = ap length c.as_slice-positions.ensures.value ∙ hit.ensures.same.position_set.positions in
    let grows = subst (λ a. Grows p a new) hit.ensures.table (c.find_or_add.ensures.grows p len) in
    let on = c.find_or_add.ensures.unanchored ∙ ap (λ a. a.unanchored.items) hit.ensures.table in
    let off = c.find_or_add.ensures.anchored ∙ ap (λ a. a.anchored.items) hit.ensures.table in
    record {
      position_set = hit.ensures.same.position_set;
      table = learn_table p old c.requires.same.table c.args.state c.args.byte c.args.entering hit.result positions hit.ensures.leaves positions_is
          c.in-Some.number c.in-Some.ensures.known.0 new c.set.new.self grows on off c.in-Some.ensures.known.1 (c.in-Some.ensures.positions p len)
          c.entry_to-entry.result c.entry_to-entry.ensures c.set.ensures.rows c.set.ensures.count c.set.ensures.limit c.requires.known (omega arith) c.set.ensures.unanchored c.set.ensures.anchored;
      anchored_at_start = hit.ensures.same.anchored_at_start;
      begins_at_start = hit.ensures.same.begins_at_start;
      literal = hit.ensures.same.literal;
      first_bytes = hit.ensures.same.first_bytes;
      required = hit.ensures.same.required;
    }

pub returns-in-None-clause-entry : goal.returns-in-None-clause-entry
returns-in-None-clause-entry c =
    let p = c.args.self.now in
    let old = c.args.scratch.now.table in
    let new = c.find_or_add.new.self in
    let hit = c.step_from-hit in
    let positions = c.as_slice-positions.result.now in
    let positions_is = λ (st : Bool) (cs : List Bool) (h : IsState p old c.args.state st cs). c.as_slice-positions.ensures.value ∙ hit.ensures.positions st cs h in
    let len = ap length c.as_slice-positions.ensures.value ∙ hit.ensures.same.position_set.positions in
    let grows = subst (λ a. Grows p a new) hit.ensures.table (c.find_or_add.ensures.grows p len) in
    let on = c.find_or_add.ensures.unanchored ∙ ap (λ a. a.unanchored.items) hit.ensures.table in
    let off = c.find_or_add.ensures.anchored ∙ ap (λ a. a.anchored.items) hit.ensures.table in
    let there = grown p old c.requires.same.table c.args.state c.args.byte c.args.entering hit.result positions hit.ensures.leaves positions_is
    1 (omega arith) new c.make_room.new.self grows on off in
    let room = c.make_room.ensures.table p len there in
    λ st cs h.
    subst (IsEntry p c.add.new.self st c.args.entering cs c.args.byte) (sym c.entry_to.ensures)
    (begun_entry p old c.requires.same.table c.args.state c.args.byte c.args.entering hit.result positions hit.ensures.leaves positions_is
    c.add.result (omega (arith, c.add.ensures.number, room.least)) new c.make_room.new.self grows on off
    c.add.new.self room (c.add.ensures.grows p len) c.add.ensures.unanchored c.add.ensures.anchored
    (omega (arith, c.add.ensures.number, c.add.ensures.count)) (c.add.ensures.positions p len) st cs h)

pub returns-in-None-clause-same : goal.returns-in-None-clause-same
returns-in-None-clause-same c =
    let p = c.args.self.now in
    let old = c.args.scratch.now.table in
    let new = c.find_or_add.new.self in
    let hit = c.step_from-hit in
    let positions = c.as_slice-positions.result.now in
    let positions_is = λ (st : Bool) (cs : List Bool) (h : IsState p old c.args.state st cs). c.as_slice-positions.ensures.value ∙ hit.ensures.positions st cs h in
    let len = ap length c.as_slice-positions.ensures.value ∙ hit.ensures.same.position_set.positions in
    let grows = subst (λ a. Grows p a new) hit.ensures.table (c.find_or_add.ensures.grows p len) in
    let on = c.find_or_add.ensures.unanchored ∙ ap (λ a. a.unanchored.items) hit.ensures.table in
    let off = c.find_or_add.ensures.anchored ∙ ap (λ a. a.anchored.items) hit.ensures.table in
    let there = grown p old c.requires.same.table c.args.state c.args.byte c.args.entering hit.result positions hit.ensures.leaves positions_is
    1 (omega arith) new c.make_room.new.self grows on off in
    let room = c.make_room.ensures.table p len there in
    record {
      position_set = hit.ensures.same.position_set;
      table = begun_table p old c.requires.same.table c.args.state c.args.byte c.args.entering hit.result positions hit.ensures.leaves positions_is
          c.add.result (omega (arith, c.add.ensures.number, room.least)) new c.make_room.new.self grows on off
          c.add.new.self room (c.add.ensures.grows p len) c.add.ensures.unanchored c.add.ensures.anchored;
      anchored_at_start = hit.ensures.same.anchored_at_start;
      begins_at_start = hit.ensures.same.begins_at_start;
      literal = hit.ensures.same.literal;
      first_bytes = hit.ensures.same.first_bytes;
      required = hit.ensures.same.required;
    }

pub add-requires-clause-rows : goal.add-requires-clause-rows
add-requires-clause-rows c =
    let p = c.args.self.now in
    let old = c.args.scratch.now.table in
    let new = c.find_or_add.new.self in
    let hit = c.step_from-hit in
    let positions = c.as_slice-positions.result.now in
    let positions_is = λ (st : Bool) (cs : List Bool) (h : IsState p old c.args.state st cs). c.as_slice-positions.ensures.value ∙ hit.ensures.positions st cs h in
    let len = ap length c.as_slice-positions.ensures.value ∙ hit.ensures.same.position_set.positions in
    let grows = subst (λ a. Grows p a new) hit.ensures.table (c.find_or_add.ensures.grows p len) in
    let on = c.find_or_add.ensures.unanchored ∙ ap (λ a. a.unanchored.items) hit.ensures.table in
    let off = c.find_or_add.ensures.anchored ∙ ap (λ a. a.anchored.items) hit.ensures.table in
    let there = grown p old c.requires.same.table c.args.state c.args.byte c.args.entering hit.result positions hit.ensures.leaves positions_is
    1 (omega arith) new c.make_room.new.self grows on off in
    let room = c.make_room.ensures.table p len there in
    subst (λ n. c.make_room.new.self.limit * n ≤ length c.make_room.new.self.rows.items) (sym len) room.rows
