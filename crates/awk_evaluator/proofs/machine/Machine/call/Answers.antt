use Rattle.std.proofs.Common.{◌≡◌, ◌≤◌, ◌+◌, List, rules, refl, sym, ap, ◌∙◌, subst}
use Rattle.std.proofs.lemmas.Result.{err_from_is_err_and}
use Rattle.awk_storage.specs.Control.{highest_sum}
use Rattle.awk_storage.specs.support.Frames.{FrameView, FramesView, heights_of}
use Rattle.awk_runtime.specs.declared.runtime.Runtime.{Runtime}
use Rattle.awk_evaluator.proofs.CallBegins.{check_ends, spend_ends, give_ends, enter_ends, begins_call}
use Rattle.awk_evaluator.proofs.machine.Machine.call.Goals as goal

pub returns-in_err-check_height : goal.returns-in_err-check_height
returns-in_err-check_height c =
    let p = err_from_is_err_and c.from_residual.result c.from_residual.ensures.1 in
    rw (p.1, p.2) (check_ends _ _ _ _ c.in_err-check_height.ensures.changes)

pub returns-in_err-spend : goal.returns-in_err-spend
returns-in_err-spend c =
    let p = err_from_is_err_and c.from_residual-in_err-spend.result c.from_residual-in_err-spend.ensures.1 in
    rw (p.1, p.2) (spend_ends _ _ _ _ c.in_ok-check_height.ensures.changes c.in_err-spend.ensures)

pub returns-in_err-give_arguments : goal.returns-in_err-give_arguments
returns-in_err-give_arguments c =
    let p = err_from_is_err_and c.from_residual-in_err-give_arguments.result c.from_residual-in_err-give_arguments.ensures.1 in
    rw (p.1, p.2) (give_ends _ _ _ _ c.in_ok-check_height.ensures.changes c.in_ok-spend.ensures refl c.in_err-give_arguments.ensures)

pub enter_call-requires : goal.enter_call-requires
enter_call-requires c =
    let checked = ap (λ (x : Runtime). x.frames.frames) c.in_ok-check_height.ensures.same in
    let spent = ap (λ (x : FramesView). x.frames) c.in_ok-spend.ensures.frames in
    let given = ap (λ (x : Runtime). x.frames.frames) c.in_ok-give_arguments.ensures.given in
    record { high = c.requires; low = subst (λ (fs : List FrameView). heights_of fs + c.args.function.now.height ≤ highest_sum) (sym (given ∙ spent ∙ checked)) c.in_ok-check_height.ensures.low }

pub returns-in_err-enter_call : goal.returns-in_err-enter_call
returns-in_err-enter_call c =
    let p = err_from_is_err_and c.from_residual-in_err-enter_call.result c.from_residual-in_err-enter_call.ensures.1 in
    rw (p.1, p.2) (let kinds : c.as_slice.result.now ≡ c.args.function.now.arrays.items = search rules in enter_ends _ _ _ _ c.in_ok-check_height.ensures.changes c.in_ok-spend.ensures refl c.in_ok-give_arguments.ensures kinds c.in_err-enter_call.ensures)

pub returns : goal.returns
returns c =
    let kinds : c.as_slice.result.now ≡ c.args.function.now.arrays.items = search rules in
    begins_call _ _ _ _ c.in_ok-check_height.ensures.changes c.in_ok-spend.ensures refl c.in_ok-give_arguments.ensures kinds refl c.base.ensures c.in_ok-enter_call.ensures c.enter.ensures
