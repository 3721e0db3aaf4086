use Rattle.std.proofs.Common.{[], ap, ◌∙◌, List, length, ◌<◌, ◌≡◌, set, take, get_or, arith}
use Rattle.std.proofs.lemmas.List.{get_or_read}
use Rattle.awk_text.specs.Pieces.{stretches_at}
use Rattle.awk_value.specs.Arrays.{Array}
use Rattle.awk_semantics.specs.definitions.Primitives.{elements_from}
use Rattle.awk_storage.proofs.TableLemmas.{changed}
use Rattle.awk_storage.proofs.arrays.Arrays.fill_stretches.Goals as goal

pub returns-clause-filled : goal.returns-clause-filled
returns-clause-filled c =
    let b = c.self.inside in
    let tables : List Array = b.tables.items in
    let old : Array = c.index_mut-table.result.now in
    let made : Array = elements_from 1 (stretches_at c.args.text.now c.args.spans.now) in
    let f = λ (array : Array). made in
    let within : c.args.number < length tables = omega (arith, c.if-number-self.false, c.self.invariant.0) in
    let at : old ≡ get_or tables c.args.number [] = get_or_read tables c.args.number old within c.index_mut-table.ensures.value [] in
    ap (λ (array : Array). take b.live (set tables c.args.number array)) c.in_ok-fill_stretches.ensures.filled
    ∙ (changed tables b.live c.args.number old f c.if-number-self.false at
    ∙ ap (λ (arrays : List Array). set arrays c.args.number made) c.self.view_is)
