use Rattle.std.proofs.Common.{refl, sym, ◌∙◌}
use Rattle.awk_runtime.proofs.VariableWords.{special_outside, unknown_put}
use Rattle.awk_runtime.proofs.NameWords.{absent_name, no_special}
use Rattle.awk_runtime.proofs.runtime.Runtime.put_outside.Goals as goal

pub returns-in-Some : goal.returns-in-Some
returns-in-Some c = rw ((c.in-Some.ensures.names c.in-Some.special).0 refl) (special_outside c.in-Some.special _ c.put_special.ensures)

pub returns-in-None : goal.returns-in-None
returns-in-None c = unknown_put c.args.name.now c.args.value (sym c.is_field_count.ensures ∙ c.if-is_field_count.false) (no_special c.args.name.now _ c.named.ensures.names (c.in_default.not-Some)) (absent_name _ c.args.name.now c.in-None.ensures.none)
