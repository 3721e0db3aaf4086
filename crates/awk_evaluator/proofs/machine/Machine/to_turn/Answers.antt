use Rattle.std.proofs.Common.{refl, sym, ◌∙◌}
use Rattle.awk_evaluator.proofs.NodeMoves.{led_here, node_turned, node_led, node_before, node_below, end_turned}
use Rattle.awk_evaluator.proofs.machine.Machine.to_turn.Goals as goal

pub returns-in_default-clause-turns : goal.returns-in_default-clause-turns
returns-in_default-clause-turns g c =
    let none = rw c.in_default.is at c.node_at.ensures in
    end_turned led_here c.give_nothing.result refl none c.give_nothing.ensures

pub returns-in_default-make_move : goal.returns-in_default-make_move
returns-in_default-make_move g c = record {
  ready = c.make_move.ensures.ready;
  turns = node_turned c.moves.invariant.leads c.requires.sound c.moves.invariant.here c.make_move.result c.in_default-make_move.not-On c.moves.invariant.calls c.make_move.ensures.moves;
}

pub moves-smaller : goal.moves-smaller
moves-smaller g c =
    let to = rw c.in-On.is at c.make_move.ensures.moves in
    node_before c.moves.invariant.leads c.requires.sound c.moves.invariant.here to

pub moves-preserved : goal.moves-preserved
moves-preserved g c =
    let to = rw c.in-On.is at c.make_move.ensures.moves in
    record {
      ready = c.make_move.ensures.ready;
      leads = node_led c.moves.invariant.leads c.requires.sound c.moves.invariant.here to;
      calls = to.moves.calls ∙ c.moves.invariant.calls;
      here = sym c.node_within-node.ensures;
    }

pub node_within-node-requires : goal.node_within-node-requires
node_within-node-requires g c =
    let to = rw c.in-On.is at c.make_move.ensures.moves in
    node_below c.moves.invariant.leads c.requires.sound c.moves.invariant.here to
