use Rattle.std.proofs.Common.{◌≡◌, ℕ, ◌+◌, ◌<◌, List, ◌++◌, map, length, drop, get_or, add-one, append_assoc, drop-cons, arith, ◌∙◌}
use Rattle.std.specs.List.{concat}
use Rattle.awk_value.specs.declared.value.Value.{Value}
use Rattle.awk_value.specs.Values.{str_of}
use Rattle.awk_functions.proofs.line.append_values.Goals as goal

-- a value's text is the first of those that are left
next : (text behind : List ℕ) (values : List Value) (i : ℕ) (value : Value) → i < length values → value ≡ get_or values i value → behind ≡ text ++ str_of value
    → behind ++ concat (map str_of (drop (i + 1) values)) ≡ text ++ concat (map str_of (drop i values))
next text behind values i value below is e = rw (e, drop-cons values i value, ← is, add-one) (simp append_assoc)

pub loop-value-preserved : goal.loop-value-preserved
loop-value-preserved c =
    next c.loop-value.text _ c.args.values.now c.loop-value.value-index c.value-item.result (omega arith) c.value-item.is c.in_ok-append_value.ensures.text ∙ c.loop-value.invariant
