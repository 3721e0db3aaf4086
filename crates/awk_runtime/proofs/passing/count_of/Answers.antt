use Rattle.std.proofs.Common.{rules, ◌+◌, ◌≡◌, count_by, sym, subst}
use Rattle.std.proofs.lemmas.List.{take_rest}
use Rattle.memchr.specs.Find.{is_byte}
use Rattle.awk_runtime.proofs.PassedLines.{counted_on, counted_low}
use Rattle.awk_runtime.proofs.passing.count_of.Goals as goal

pub overflow_add-count : goal.overflow_add-count
overflow_add-count c =
    let low = counted_low c.args.byte 64 c.loop-rest.count _ c.loop-rest.rest.now c.args.text.now c.count_among_many-count.ensures c.loop-rest.invariant in
    search rules

pub loop-rest-preserved : goal.loop-rest-preserved
loop-rest-preserved c =
    let byte = c.args.byte in
    let rest = c.loop-rest.rest.now in
    subst (λ l. (c.loop-rest.count + c.count_among_many-count.result) + count_by (is_byte byte) l ≡ count_by (is_byte byte) c.args.text.now) (sym (take_rest rest 64))
    (counted_on byte 64 c.loop-rest.count _ rest c.args.text.now c.count_among_many-count.ensures c.loop-rest.invariant)
