use Rattle.awk_value.proofs.KeptKeys.{kept_keys}
use Rattle.awk_value.proofs.entry.take_secret.Goals as goal

pub returns : goal.returns
returns g c = kept_keys g.met.K.Eq.laws c.in_ok-hashed.hashed.entries c.args.entries.now.entries c.append.new.self.entries c.in_ok-hashed.ensures.empty c.len.ensures.unique c.in_ok-append.ensures.entries
