use Rattle.awk_streams.proofs.output.print_error.Goals as goal

pub returns-clause-told : goal.returns-clause-told
returns-clause-told g c = c.write_all.ensures.told
