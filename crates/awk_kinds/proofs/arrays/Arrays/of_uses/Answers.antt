use Rattle.std.proofs.Common.{◌≡◌, ◌<◌, ◌++◌, length, sym, subst}
use Rattle.std.specs.List.{Contains}
use Rattle.awk_kinds.specs.support.Graph.{special_uses}
use Rattle.awk_kinds.specs.support.Reach.{MarksReached}
use Rattle.awk_kinds.proofs.Marks.{marks_uses}
use Rattle.awk_kinds.proofs.arrays.Arrays.of_uses.Goals as goal

pub reached-requires : goal.reached-requires
reached-requires c =
    let count : c.len.result ≡ length c.in_ok-graph.graph.variables.keys = c.len.ensures.len in
    record {
      first = λ v h. subst (λ n. v < n) (sym count) (c.in_ok-graph.ensures.numbers.first v (subst (λ xs. Contains xs v) c.deref.ensures.value h));
      edges = record { within = λ v w h. subst (λ n. (v < n) × (w < n)) (sym count) (c.in_ok-graph.ensures.numbers.edges v w (subst (λ xs. Contains xs (v, w)) c.deref-2.ensures.value h)) };
    }

pub returns : goal.returns
returns c =
    let count : c.len.result ≡ length c.in_ok-graph.graph.variables.keys = c.len.ensures.len in
    let g = c.in_ok-graph.graph in
    marks_uses c.args.functions.now (special_uses ++ c.args.uses.now) g c.in_ok-marks.marks c.len.ensures.unique c.in_ok-graph.ensures
    (subst (λ n. MarksReached n g.first.items g.edges.items c.in_ok-marks.marks.items) count
    (subst (λ es. MarksReached c.len.result g.first.items es c.in_ok-marks.marks.items) c.deref-2.ensures.value
    (subst (λ ns. MarksReached c.len.result ns c.deref-2.result.now c.in_ok-marks.marks.items) c.deref.ensures.value c.in_ok-marks.ensures)))
