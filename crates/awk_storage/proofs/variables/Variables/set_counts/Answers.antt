use Rattle.std.proofs.Common.{◌≡◌, ap, ◌∙◌, rules, length, set}
use Rattle.awk_value.specs.declared.value.Value.TheVariants.{Number}
use Rattle.awk_kinds.specs.definitions.Variables.{value_of, with_value, name_of, Pairs}
use Rattle.awk_kinds.specs.declared.special.Special.TheVariants.{Nr, Fnr}
use Rattle.awk_storage.specs.support.SpecialValues.{special_pairs}
use Rattle.awk_storage.proofs.SpecialLemmas.{value_of-set_counts}
use Rattle.awk_storage.proofs.variables.Variables.set_counts.Goals as goal

pub returns : goal.returns
returns c = λ x.
    let inside = c.self.inside in
    let m = Number c.args.all in
    let n = Number c.args.in_file in
    let len : length inside.specials ≡ 13 = search rules in
    let nr : c.set_number.new.place ≡ m = search rules in
    let fnr : c.set_number-2.new.place ≡ n = search rules in
    (λ j. value_of (special_pairs (set (set inside.specials (c.index.ensures j) (nr j)) (c.index-2.ensures j) (fnr j))) x)
    ∙ value_of-set_counts inside.specials m n len x
    ∙ ap (λ (p : Pairs). with_value (with_value (value_of p) (name_of Nr) m) (name_of Fnr) n x) c.self.view_is
