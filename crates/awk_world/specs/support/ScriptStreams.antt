-- Which streams of a world in memory are open, and how many.
use Rattle.std.specs.Prelude.{◌≡◌, ℕ, Bool, true, false, ◌<◌, ◌≤◌, ◌+◌, ◌^◌, IfSome, length, List, Option, Some, None, slice_get, sum_by, if◌then◌else◌, ◌-◌, nat_lt, ◌||◌}
use Rattle.std.proofs.Common.{ap}
use Rattle.std.proofs.lemmas.Bool.{lt-ltb}
use Rattle.awk_world.specs.declared.script_stream.ScriptStream.{ScriptStream}

abbrev pub open_at : Option ScriptStream → Bool
open_at (Some s) = s.open
open_at None = false

-- the standard outputs, and the streams that were opened and not closed
abbrev pub is_open_in : List ScriptStream → ℕ → Bool
is_open_in streams id = nat_lt id 2 || open_at (slice_get streams (id - 2))

abbrev pub open_count : List ScriptStream → ℕ
open_count streams = sum_by (λ s. if s.open then 1 else 0) streams

pub standard_outputs_open : (streams : List ScriptStream) (id : ℕ) → id < 2 → is_open_in streams id ≡ true
standard_outputs_open streams id below = ap (λ b. b || open_at (slice_get streams (id - 2))) (lt-ltb id 2 below)

-- so many more bytes of the stream of this number can be counted
pub record CanAdvance (streams : List ScriptStream) (id n : ℕ) : Type 0 where
  pub named : 2 ≤ id
  pub within : id - 2 < length streams
  pub fits : IfSome (slice_get streams (id - 2)) (λ (s : ScriptStream). s.at + n < 2 ^ 64)
