use Rattle.std.proofs.Common.{◌≡◌, ◌∙◌, ap}
use Rattle.awk_storage.specs.support.Frames.{FramesView}
use Rattle.awk_evaluator.specs.declared.machine.Machine.{Machine}
use Rattle.awk_evaluator.proofs.ReadFields.{stretches_matched, unless_some}
use Rattle.awk_evaluator.proofs.machine.Machine.match_field.Goals as goal

pub returns-clause-some : goal.returns-clause-some
returns-clause-some c =
    let same = c.span_of.ensures.same in
    let matched = c.stretch_has_match.ensures.matched in
    let alike = c.stretch_has_match.ensures.alike in
    stretches_matched c.args.ere _ c.stretch_has_match.result c.in_ok-span.ensures.field (rw same at alike) (ap (λ (x : Machine). x.operands) same) (ap (λ (f : FramesView). f.callers) alike.beside.frames ∙ ap (λ (x : Machine). x.runtime.frames.callers) same) (rw same at matched)

pub returns-clause-none : goal.returns-clause-none
returns-clause-none c =
    let same = c.span_of.ensures.same in
    let alike = c.stretch_has_match.ensures.alike in
    unless_some c.stretch_has_match.result (record { operands = ap (λ (x : Machine). x.operands) same; calls = ap (λ (f : FramesView). f.callers) alike.beside.frames ∙ ap (λ (x : Machine). x.runtime.frames.callers) same; runtime = rw same at alike })
