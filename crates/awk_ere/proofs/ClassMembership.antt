-- A class of the bytes that pass has the bytes that pass.
use Rattle.std.proofs.Common.{◌≡◌, ℕ, ◌<◌, Bool, false, arith}
use Rattle.std.proofs.lemmas.List.FromFn.{get_or-map-range_with_len}
use Rattle.awk_ere.specs.definitions.Tree.{has, class_of}
use Rattle.awk_ere.specs.support.Layout.{byte_count}

pub has-class_of : (p : ℕ → Bool) (b : ℕ) → b < byte_count → has (class_of p) b ≡ p b
has-class_of p b lt = get_or-map-range_with_len p 0 byte_count b b false lt (omega arith)
