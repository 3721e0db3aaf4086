-- Which pattern a compiled pattern stands for, what reading a text answers, and whether a text has a match.
use Rattle.std.specs.Prelude.{◌≡◌, ℕ, suc, ◌+◌, ◌≤◌, Bool, true, false, ◌||◌, nat_eq, List, [], ◌∷◌, ◌++◌, length, Option, Some, None, Result, Ok, Err}
use Rattle.awk_ere.specs.definitions.Tree.{Tree}
use Rattle.awk_ere.specs.declared.fault.PatternFault.{PatternFault}
use Rattle.awk_ere.specs.declared.fault.PatternFault.TheVariants.{Memory}
use Rattle.awk_ere.specs.definitions.Desugared.{desugar}
use Rattle.awk_ere.specs.definitions.Program.{Compiles}
use Rattle.awk_ere.specs.support.Marked.{Marked, flow, step, fresh}
use Rattle.awk_ere.specs.declared.pattern.Pattern.{Pattern}
pub use Rattle.awk_ere.specs.definitions.Limits.{Refused}
pub use Rattle.awk_ere.specs.support.PatternOf.{pattern_of}

-- the compiled pattern's program is that of the tree
abbrev pub Means : Tree → Pattern → Type 0
Means t p = Compiles t p.program

-- the pattern that a text spells within the limits is read, unless memory is refused, and else the text is refused
abbrev pub ReadsAs : Result Pattern PatternFault → Option Tree → Type 0
ReadsAs (Ok p) None = ⊥
ReadsAs (Ok p) (Some t) = Means t p
ReadsAs (Err fault) None = Unit {0}
ReadsAs (Err fault) (Some t) = fault ≡ Memory

-- Whether a text has a match, as a function; what it decides is told by a law, `Occurs`. Here: whether a match ends at or
-- behind a place, which the rest of the text follows, where the marks stand for the matches that began before it.
abbrev pub occurs_from : Marked → ℕ → List ℕ → Bool
occurs_from p k [] = flow (nat_eq k 0) true true p
occurs_from p k (x ∷ xs) = flow (nat_eq k 0) false true p || occurs_from (step (nat_eq k 0) false x true false p) (suc k) xs

-- whether a pattern matches somewhere in a text
unfoldable pub occurs : Tree → List ℕ → Bool
occurs t s = occurs_from (fresh (desugar t)) 0 s

-- no part of the text that ends at or before a place has a match
abbrev pub HasNoneUpTo : Tree → List ℕ → ℕ → Type 0
HasNoneUpTo t s place =
    (before part after : List ℕ) → s ≡ before ++ (part ++ after) → length before + length part ≤ place → occurs t part ≡ false
