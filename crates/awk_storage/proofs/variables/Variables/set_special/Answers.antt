use Rattle.std.proofs.Common.{◌≡◌, ap, ◌∙◌, rules, length, set}
use Rattle.awk_kinds.specs.definitions.Variables.{value_of, with_value, name_of, Pairs}
use Rattle.awk_storage.specs.support.SpecialValues.{special_pairs}
use Rattle.awk_storage.proofs.SpecialLemmas.{value_of-set_special}
use Rattle.awk_storage.proofs.variables.Variables.set_special.Goals as goal
use Rattle.awk_storage.proofs.variables.Variables.set_special.Goals.{in-Fs+in_ok-text-in-Fs, in-Rs, in_default}

pub returns-clause-set : goal.returns-clause-set
returns-clause-set c = λ x.
    let s = c.args.special in
    let v = c.args.value in
    let old = c.self.inside in
    let new = c.match-special.self-inside in
    let specials : new.specials ≡ old.specials = elim c.match-special.branch [ in-Fs+in_ok-text-in-Fs w ↦ ap (λ i. i.specials) w.self-inside-is | in-Rs w ↦ ap (λ i. i.specials) w.self-inside-is | in_default w ↦ ap (λ i. i.specials) w.self-inside-is ] in
    let len : length old.specials ≡ 13 = search rules in
    (λ j. value_of (special_pairs (set (specials j) (c.index.ensures j) (c.replace-2.ensures.after j))) x)
    ∙ value_of-set_special old.specials s v len x
    ∙ ap (λ (p : Pairs). with_value (value_of p) (name_of s) v x) c.self.view_is

pub invariant_of-self : goal.invariant_of-self
invariant_of-self c = search rules
