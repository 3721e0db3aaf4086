use Rattle.awk_ere.proofs.pattern.Pattern.find_from.Goals as goal

pub find_further-requires-clause-failures : goal.find_further-requires-clause-failures
find_further-requires-clause-failures c = c.for_one_search-failures.ensures c.args.text.now
