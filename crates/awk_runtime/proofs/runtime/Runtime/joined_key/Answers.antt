use Rattle.awk_runtime.proofs.ArgumentWords.{key_joined}
use Rattle.awk_runtime.proofs.runtime.Runtime.joined_key.Goals as goal

pub returns : goal.returns
returns c = key_joined c.args.self.now c.args.values.now c.special.result.now c.joined_key.result c.special.ensures c.joined_key.ensures.text c.joined_key.ensures.fault
