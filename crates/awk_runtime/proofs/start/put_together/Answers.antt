use Rattle.std.proofs.Common.{refl}
use Rattle.awk_runtime.proofs.start.put_together.Goals as goal

pub returns : goal.returns
returns c = record {
  names = refl;
  current = refl;
  specials = refl;
  globals = refl;
  arrays = refl;
  frames = c.new.ensures;
  streams = refl;
  next = refl;
  input_seen = refl;
  inside = c.new-2.ensures.items;
  status = refl;
  steps = refl;
}
