-- What a run is started with.
use Rattle.std.specs.Prelude.{◌≡◌, [], map}
use Rattle.awk_run.specs.declared.start.Start.{Start}
use Rattle.awk_semantics.specs.Meaning.{StartValues}
pub use Rattle.awk_runtime.specs.Beginning.{pair_of}

abbrev pub start_values : Start → StartValues
start_values s = record { pre = map pair_of s.pre.items; operands = map (λ text. text.items) s.operands.items; environ = map pair_of s.environ.items }

-- with no assignment, no operand and no environment
pub record IsPlain (s : Start) : Type 0 where
  pub pre : s.pre.items ≡ []
  pub operands : s.operands.items ≡ []
  pub environ : s.environ.items ≡ []
