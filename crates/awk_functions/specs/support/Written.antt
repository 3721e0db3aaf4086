-- What a call that writes into a buffer has written.
use Rattle.std.specs.Prelude.{◌≡◌, Result, Ok, Err}
use Rattle.awk_semantics.specs.declared.halt.Halt.{Halt}
use Rattle.awk_semantics.specs.support.Results.{sort_of, YieldsBy}

-- what was written is what the definitions give, or the fault is theirs, unless memory was refused
abbrev pub Writes : {A B : Type 0} → Result A Halt → (written : B) → Result B Halt → Type 0
Writes (Ok a) written r = r ≡ Ok written
Writes (Err h) written r = YieldsBy (sort_of h) r
