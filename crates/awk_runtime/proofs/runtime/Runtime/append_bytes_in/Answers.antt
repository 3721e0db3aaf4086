use Rattle.std.proofs.Common.{refl, arith}
use Rattle.std.proofs.lemmas.Result.{err_from_is_err_and}
use Rattle.awk_runtime.specs.support.Keys.{key_value}
use Rattle.awk_runtime.proofs.Composition.{memory_changes}
use Rattle.awk_runtime.proofs.ElementWords.{element_appended}
use Rattle.awk_runtime.proofs.runtime.Runtime.append_bytes_in.Goals as goal

pub returns-in_err-append_bytes-clause-refused : goal.returns-in_err-append_bytes-clause-refused
returns-in_err-append_bytes-clause-refused c =
    let p = err_from_is_err_and c.from_residual.result c.from_residual.ensures.1 in
    rw (p.1, p.2, (c.in_err-append_bytes.ensures {u = tt}).fault) (λ run. memory_changes run refl refl refl (omega arith))

pub returns-clause-appends : goal.returns-clause-appends
returns-clause-appends c = λ _. rw (c.in_ok-append_bytes.ensures {u = tt}).text (rw (c.in-Some.ensures {u = tt}) (element_appended c.args.self.now c.args.array (key_value c.args.self.now.current.text c.args.key) c.number_at-number.result c.number_at-number.ensures c.in-Some-value_mut.text.now c.args.bytes.now (rw (c.in-Some.ensures {u = tt}) at c.in-Some-value_mut.ensures.value) refl))
