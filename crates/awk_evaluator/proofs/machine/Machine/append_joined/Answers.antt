use Rattle.std.proofs.Common.{List, ℕ, ap, subst}
use Rattle.awk_value.specs.declared.value.Value.TheVariants.{Nothing}
use Rattle.awk_storage.specs.declared.position.Place.TheVariants as place
use Rattle.awk_runtime.specs.support.Appends.{AppendsAt}
use Rattle.awk_evaluator.specs.declared.machine.Machine.{Machine}
use Rattle.awk_evaluator.specs.Appending.{AppendsBytes, Joins}
use Rattle.awk_evaluator.proofs.Appending.{variable_appended, element_appended, refused_leaves}
use Rattle.awk_evaluator.proofs.machine.Machine.append_joined.Goals as goal

pub returns-in-Variable-clause-appended : goal.returns-in-Variable-clause-appended
returns-in-Variable-clause-appended c = λ done.
    let same = c.join_at_hand.ensures.same in
    let joins = subst (λ (l : List ℕ). Joins c.args.parts.now c.args.self.now l c.join_at_hand.new.text.items) c.requires (c.join_at_hand.ensures.joined c.if-not-join_at_hand.false) in
    let text = subst (λ (l : List ℕ). AppendsAt (place.Variable c.in-Variable.variable) Nothing l c.join_at_hand.new.self.runtime c.append_bytes_to.new.self) c.deref.ensures.value (c.append_bytes_to.ensures.appends done Nothing) in
    let appends = subst (λ (x : Machine). AppendsAt (place.Variable c.in-Variable.variable) Nothing c.join_at_hand.new.text.items x.runtime c.append_bytes_to.new.self) same text in
    rw c.in-Variable.is (variable_appended c.args.parts.now joins c.in-Variable.variable appends (ap (λ (x : Machine). x.operands) same) appends.appends.callers)

pub returns-in-Variable-clause-refused : goal.returns-in-Variable-clause-refused
returns-in-Variable-clause-refused c = refused_leaves _ _ c.append_bytes_to.result c.join_at_hand.ensures.same c.append_bytes_to.ensures.refused

pub returns-in-Element-clause-appended : goal.returns-in-Element-clause-appended
returns-in-Element-clause-appended c = λ done.
    let same = c.join_at_hand.ensures.same in
    let joins = subst (λ (l : List ℕ). Joins c.args.parts.now c.args.self.now l c.join_at_hand.new.text.items) c.requires (c.join_at_hand.ensures.joined c.if-not-join_at_hand.false) in
    let text = subst (λ (l : List ℕ). AppendsBytes c.in-Element.array c.in-Element.key l c.join_at_hand.new.self c.append_in.new.self) c.deref-in-Element.ensures.value (c.append_in.ensures.appended done) in
    let appends = subst (λ (x : Machine). AppendsBytes c.in-Element.array c.in-Element.key c.join_at_hand.new.text.items x c.append_in.new.self) same text in
    rw c.in-Element.is (element_appended c.args.parts.now joins c.in-Element.array c.in-Element.key appends)

pub returns-in-Element-clause-refused : goal.returns-in-Element-clause-refused
returns-in-Element-clause-refused c = refused_leaves _ _ c.append_in.result c.join_at_hand.ensures.same c.append_in.ensures.refused
