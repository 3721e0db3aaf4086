use Rattle.awk_run.proofs.program.run_over_log.Given as goal

abbrev pub ghosts-run_logged : goal.ghosts-run_logged
ghosts-run_logged g a = record { state = g.W.World.state a.world.now; place = a.world.ghost_name }
