-- Where a named stream stands among those that are open.
use Rattle.std.specs.Prelude.{ℕ, Bool, false, ◌&&◌, List, bytes_eq}
use Rattle.awk_world.specs.declared.world.InputKind.{InputKind}
use Rattle.awk_world.specs.declared.world.OutputKind.{OutputKind}
use Rattle.awk_world.specs.definitions.Oracle.{same_input_kind, same_output_kind}
use Rattle.awk_streams.specs.declared.named.NamedStream.{NamedStream}
use Rattle.awk_streams.specs.declared.named.NamedStream.TheVariants.{Input, Output}

abbrev pub is_named_input : InputKind → List ℕ → NamedStream → Bool
is_named_input kind name (Input k n input) = same_input_kind k kind && bytes_eq n name
is_named_input kind name (Output k n output) = false

abbrev pub is_named_output : OutputKind → List ℕ → NamedStream → Bool
is_named_output kind name (Input k n input) = false
is_named_output kind name (Output k n output) = same_output_kind k kind && bytes_eq n name
