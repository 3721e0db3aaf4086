use Rattle.std.proofs.Common.{[], ap, ◌∙◌, List, length, ◌<◌, ◌≡◌, set, take, get_or, arith}
use Rattle.std.proofs.lemmas.List.{get_or_read}
use Rattle.awk_value.specs.Arrays.{Array, with_key}
use Rattle.awk_storage.specs.support.Subscripts.{key_of}
use Rattle.awk_storage.specs.support.Tables.{array_of}
use Rattle.awk_storage.proofs.TableLemmas.{changed}
use Rattle.awk_storage.proofs.arrays.Arrays.get_or_make.Goals as goal

pub returns-clause-made : goal.returns-clause-made
returns-clause-made c =
    let b = c.self.inside in
    let tables : List Array = b.tables.items in
    let old : Array = c.index_mut.result.now in
    let f = λ (array : Array). with_key array (key_of c.args.key) in
    let within : c.args.number < length tables = omega (arith, c.if-number-self.false, c.self.invariant.0) in
    let at : old ≡ get_or tables c.args.number [] = get_or_read tables c.args.number old within c.index_mut.ensures.value [] in
    ap (λ (array : Array). take b.live (set tables c.args.number array)) c.in_ok-value.ensures.made
    ∙ (changed tables b.live c.args.number old f c.if-number-self.false at
    ∙ ap (λ (arrays : List Array). set arrays c.args.number (f (array_of arrays c.args.number))) c.self.view_is)
