use Rattle.std.proofs.Common.{ap, ◌∙◌, List, [], ◌∷◌, ◌++◌, arith}
use Rattle.awk_semantics.specs.declared.local.Local.{Local}
use Rattle.awk_storage.specs.support.Frames.{FramesView, saved_of, frames_from, callers_in, with_callers}
use Rattle.awk_storage.proofs.FrameLemmas.{frames-append}
use Rattle.awk_storage.proofs.frames.Frames.stage.Goals as goal

pub returns-clause-staged : goal.returns-clause-staged
returns-clause-staged c =
    let b = c.self.inside in
    ap (λ (l : List Local). with_callers (callers_in b.control.entries) (frames_from [] l (saved_of b.control.entries b.control.heights))) c.in_ok-push.ensures.pushed
    ∙ (ap (with_callers (callers_in b.control.entries)) (frames-append [] b.locals.items (c.args.local ∷ []) (saved_of b.control.entries b.control.heights) (omega (arith, c.self.invariant.0.end, c.self.invariant.0.within)))
    ∙ ap (λ (v : FramesView). record v { staged = v.staged ++ c.args.local ∷ [] }) c.self.view_is)
