use Rattle.std.proofs.Common.{refl, ◌∙◌}
use Rattle.awk_kinds.proofs.Graphs.{key_grows, key_at}
use Rattle.awk_kinds.proofs.graph.Graph.number_of.Goals as goal

pub returns : goal.returns
returns c =
    let keys = c.in_ok-number.ensures.keys in
    let grown = key_grows c.args.self.now.variables.keys c.in_ok-clone.field-0 in
    let stored = c.in_ok-number.ensures.stored in
    record {
      grows = (grown.0, keys ∙ grown.1);
      first = refl;
      edges = refl;
      low = c.in_ok-number.ensures.within;
      is = key_at c.insert_full.new.self.keys c.in_ok-number.number c.in_ok-clone.field-0 stored.0 stored.1 stored.2 ∙ c.in_ok-clone.ensures.cases;
    }
