use Rattle.awk_system.proofs.system_world.SysWorldWorld.open_output.Goals as goal

pub returns-in_ok-file-in-File-clause-fresh : goal.returns-in_ok-file-in-File-clause-fresh
returns-in_ok-file-in-File-clause-fresh g c = c.keep.ensures.fresh

pub returns-in_ok-file-in-File-clause-opens : goal.returns-in_ok-file-in-File-clause-opens
returns-in_ok-file-in-File-clause-opens g c = c.keep.ensures.opens
