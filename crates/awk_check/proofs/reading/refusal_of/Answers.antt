use Rattle.awk_check.proofs.reading.refusal_of.Goals as goal

pub returns-in_ok-refused_finding-in_default-code : goal.returns-in_ok-refused_finding-in_default-code
returns-in_ok-refused_finding-in_default-code c = λ items accepted. c.in-Err.ensures.refused c.in_default-code.not-OutOfMemory items accepted
