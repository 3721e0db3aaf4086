-- How a record is counted.
use Rattle.awk_kinds.specs.declared.special.Special.TheVariants.{Fnr, Nr}
use Rattle.awk_semantics.specs.State.{Run, ◌>>=◌}
use Rattle.awk_semantics.specs.Primitives.{count_in}

-- in NR and in FNR
abbrev pub count_both : Run (Unit {0})
count_both = count_in Nr >>= λ _. count_in Fnr
