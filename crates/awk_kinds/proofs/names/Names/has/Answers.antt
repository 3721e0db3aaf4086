use Rattle.std.proofs.Common.{ℕ, bytes_eq, sym, ap, ◌∙◌}
use Rattle.std.specs.Global.{Vec}
use Rattle.awk_kinds.specs.definitions.Names.{has_name}
use Rattle.awk_kinds.proofs.Told.{any_map}
use Rattle.awk_kinds.proofs.names.Names.has.Goals as goal

pub returns : goal.returns
returns c = c.contains.ensures ∙ sym (any_map (λ (l : Vec ℕ). l.items) (bytes_eq c.args.name.now) c.self.inside.names.keys) ∙ ap (λ names. has_name names c.args.name.now) c.self.view_is
