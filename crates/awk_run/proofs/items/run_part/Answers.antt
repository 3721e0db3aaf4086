use Rattle.awk_evaluator.proofs.SoundPlans.{plans_are_sound}
use Rattle.awk_run.proofs.PlaceRuns.{set_done, part_follows}
use Rattle.awk_run.proofs.items.run_part.Goals as goal

pub execute-requires : goal.execute-requires
execute-requires g c = record {
  sound = plans_are_sound _ _ c.requires.set.planned.is;
  idle = record { operands = c.requires.idle.operands; calls = c.requires.idle.calls };
  ready = record { are_open = c.requires.set.ready.are_open; are_sound = c.requires.set.ready.are_sound };
}

pub returns-clause-set : goal.returns-clause-set
returns-clause-set g c = set_done c.execute.result c.requires.set c.execute.ensures.executes c.execute.ensures.ready

pub returns-clause-follows : goal.returns-clause-follows
returns-clause-follows g c = part_follows c.execute.result c.requires.set c.execute.ensures.executes
