use Rattle.awk_storage.proofs.FrameLemmas.{last-count, no-newest}
use Rattle.awk_storage.proofs.frames.newest_count.Goals as goal

pub returns-in-Some : goal.returns-in-Some
returns-in-Some c = last-count c.args.control.now.entries c.args.control.now.heights c.in-Some.newest.now c.requires.many c.in-Some.ensures

pub returns-in-None : goal.returns-in-None
returns-in-None c = no-newest c.args.control.now.entries c.args.control.now.heights c.in-None.ensures
