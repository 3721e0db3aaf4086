-- How the code's results stand for those of the definitions.
use Rattle.std.specs.Prelude.{◌≡◌, Result, Ok, Err}
use Rattle.awk_semantics.specs.declared.halt.Halt.{Halt}
use Rattle.awk_semantics.specs.declared.halt.Halt.TheVariants as halt
use Rattle.awk_semantics.specs.declared.fault.Fault.TheVariants.{OutOfMemory, WriteFailed}

-- what the language knows of a halt
pub data Sort : Type 0 where
  WantOfMemory : Sort
  FailedWrite : Sort
  OfLanguage : (reason : Halt) → Sort

abbrev pub sort_of : Halt → Sort
sort_of (halt.Fault OutOfMemory) = WantOfMemory
sort_of (halt.Fault WriteFailed) = FailedWrite
sort_of (halt.Fault f) = OfLanguage (halt.Fault f)
sort_of halt.OutOfSteps = OfLanguage halt.OutOfSteps
sort_of halt.Next = OfLanguage halt.Next
sort_of halt.Exit = OfLanguage halt.Exit

-- the code's result is the one of the definitions, unless memory was refused
abbrev pub YieldsBy : {A : Type 0} → Sort → Result A Halt → Type 0
YieldsBy WantOfMemory r = Unit {0}
YieldsBy FailedWrite r = ⊥
YieldsBy (OfLanguage reason) r = r ≡ Err reason

abbrev pub Yields : {A : Type 0} → Result A Halt → Result A Halt → Type 0
Yields (Ok a) r = r ≡ Ok a
Yields (Err h) r = YieldsBy (sort_of h) r

-- memory was refused
abbrev pub IsWantOfMemory : Halt → Type 0
IsWantOfMemory h = h ≡ halt.Fault OutOfMemory
