use Rattle.std.proofs.Common.{◌≡◌, drop}
use Rattle.std.specs.Prelude.{Ok}
use Rattle.awk_text.specs.support.Begun.{IsBegun}
use Rattle.awk_text.specs.definitions.Formatted.{joined, written}
use Rattle.awk_text.proofs.write.add_parts.Given as goal

-- what is written and the parts that are left are the whole
abbrev pub invariant-loop-part : goal.invariant-loop-part
invariant-loop-part l = record {
  text : joined (Ok l.out.items) (written (drop l.part-index l.parts) l.left) ≡ joined (Ok l.fn.out.items) (written l.parts l.values);
  begun : IsBegun l.fn.out.items l.out.items;
}
