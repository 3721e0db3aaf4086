use Rattle.std.proofs.Common.{◌∙◌, ◌+◌, arith}
use Rattle.awk_value.proofs.Calls.{keeps, few, len-is, keys-differ}
use Rattle.awk_value.proofs.table.Table.len.Goals as goal

pub len-requires : goal.len-requires
len-requires c =
    let b = c.self.inside in
    let now = keeps b.next b.numbers b.shorts.entries b.longs.entries _ c.self.invariant c.self.view_is in
    let small = few now in
    omega arith

pub overflow_add-result : goal.overflow_add-result
overflow_add-result c =
    let b = c.self.inside in
    let now = keeps b.next b.numbers b.shorts.entries b.longs.entries _ c.self.invariant c.self.view_is in
    let small = few now in
    let numbers = c.len.ensures in
    let shorts = c.len-2.ensures.len in
    omega arith

pub overflow_add-result-2 : goal.overflow_add-result-2
overflow_add-result-2 c =
    let b = c.self.inside in
    let now = keeps b.next b.numbers b.shorts.entries b.longs.entries _ c.self.invariant c.self.view_is in
    let small = few now in
    let numbers = c.len.ensures in
    let shorts = c.len-2.ensures.len in
    let longs = c.len-3.ensures.len in
    omega arith

pub returns-clause-len : goal.returns-clause-len
returns-clause-len c =
    let b = c.self.inside in
    let now = keeps b.next b.numbers b.shorts.entries b.longs.entries _ c.self.invariant c.self.view_is in
    (λ j. c.len.ensures j + c.len-2.ensures.len j + c.len-3.ensures.len j) ∙ len-is now

pub returns-clause-distinct : goal.returns-clause-distinct
returns-clause-distinct c =
    let b = c.self.inside in
    let now = keeps b.next b.numbers b.shorts.entries b.longs.entries _ c.self.invariant c.self.view_is in
    keys-differ now
