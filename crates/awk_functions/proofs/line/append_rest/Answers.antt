use Rattle.std.proofs.Common.{◌≡◌, ℕ, ◌+◌, ◌<◌, List, ◌++◌, map, length, drop, get_or, add-one, append_assoc, drop-cons, arith, ◌∙◌}
use Rattle.awk_value.specs.declared.value.Value.{Value}
use Rattle.awk_value.specs.Values.{str_of}
use Rattle.awk_semantics.specs.Operators.{join_rest}
use Rattle.awk_functions.proofs.line.append_rest.Goals as goal

-- a value's text behind the separator is the first of those that are left
next : (line separator between behind : List ℕ) (values : List Value) (i : ℕ) (value : Value) → i < length values → value ≡ get_or values i value → between ≡ line ++ separator → behind ≡ between ++ str_of value
    → behind ++ join_rest separator (map str_of (drop (i + 1) values)) ≡ line ++ join_rest separator (map str_of (drop i values))
next line separator between behind values i value below is e f =
    rw (f, e, drop-cons values i value, ← is, add-one) (simp append_assoc)

pub loop-value-preserved : goal.loop-value-preserved
loop-value-preserved c =
    next c.loop-value.line.items _ _ _ c.args.values.now c.loop-value.value-index c.value-item.result (omega arith) c.value-item.is c.in_ok-append_text.ensures.text c.in_ok-append_text-2.ensures.text ∙ c.loop-value.invariant
