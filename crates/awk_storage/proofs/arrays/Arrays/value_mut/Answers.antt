use Rattle.std.proofs.Common.{◌≡◌, ◌∙◌, ◌<◌, [], List, length, set, get_or, ap, inr, arith}
use Rattle.std.proofs.lemmas.List.{get_or_read}
use Rattle.awk_storage.specs.support.Subscripts.{key_of}
use Rattle.awk_value.specs.declared.value.Value.{Value}
use Rattle.awk_value.specs.Arrays.{Array, value_at, with_pair}
use Rattle.awk_storage.specs.support.Tables.{array_of}
use Rattle.awk_storage.proofs.Lent.{lent_as}
use Rattle.awk_storage.proofs.TableLemmas.{changed, there, unchanged}
use Rattle.awk_storage.proofs.arrays.Arrays.value_mut.Goals as goal

pub returns-in-Some : goal.returns-in-Some
returns-in-Some c =
    let b = c.self.inside in
    let tables : List Array = b.tables.items in
    let old : Array = c.index_mut.result.now in
    let within : c.args.number < length tables = omega (arith, c.if-number-self.false, c.self.invariant.0) in
    let at : old ≡ get_or tables c.args.number [] = get_or_read tables c.args.number old within c.index_mut.ensures.value [] in
    let put = λ (w : Value). changed tables b.live c.args.number old (λ (array : Array). with_pair array (key_of c.args.key) w) c.if-number-self.false at
    ∙ ap (λ (arrays : List Array). set arrays c.args.number (with_pair (array_of arrays c.args.number) (key_of c.args.key) w)) c.self.view_is in (
      lent_as _ _ _ put,
      record { writes_back = tt; value = c.in-Some.ensures.value ∙ ap (λ (array : Array). value_at array (key_of c.args.key)) (there tables b.live c.args.number old c.if-number-self.false at ∙ ap (λ (arrays : List Array). array_of arrays c.args.number) c.self.view_is) },
    )

pub returns-in-None : goal.returns-in-None
returns-in-None c =
    let b = c.self.inside in
    let tables : List Array = b.tables.items in
    let old : Array = c.index_mut.result.now in
    let within : c.args.number < length tables = omega (arith, c.if-number-self.false, c.self.invariant.0) in
    let at : old ≡ get_or tables c.args.number [] = get_or_read tables c.args.number old within c.index_mut.ensures.value [] in (
      ap inr (unchanged tables b.live c.args.number old at ∙ c.self.view_is),
      record { writes_back = tt; value = c.in-None.ensures.value ∙ ap (λ (array : Array). value_at array (key_of c.args.key)) (there tables b.live c.args.number old c.if-number-self.false at ∙ ap (λ (arrays : List Array). array_of arrays c.args.number) c.self.view_is) },
    )
