use Rattle.std.proofs.Common.{sym, subst}
use Rattle.awk_streams.specs.Streams.{StreamsView, AreSound}
use Rattle.awk_streams.specs.Commands.{Finishes}
use Rattle.awk_runtime.proofs.StartRelation.{start_open}
use Rattle.awk_run.proofs.plan_run.end_without_streams.Goals as goal

pub finish-requires : goal.finish-requires
finish-requires g c = record {
  «open» = start_open (g.W.World.state c.args.world.now) c.new.result c.new.ensures;
  sound = λ t. subst (λ (s : StreamsView). AreSound (g.W.World.state c.args.world.now) s) (sym c.new.ensures) (c.requires.sound t);
}

pub returns-clause-orderly : goal.returns-clause-orderly
returns-clause-orderly g c = λ t. (c.finish.ensures.sound t).order.orderly

pub returns-clause-told : goal.returns-clause-told
returns-clause-told g c = λ t. record {
  last = c.finish.new.self;
  finishes = subst (λ (s : StreamsView). Finishes (g.W.World.state c.args.world.now) s c.finish.result (g.W.World.state c.finish.new.world) c.finish.new.self) c.new.ensures (c.finish.ensures.told t);
}
