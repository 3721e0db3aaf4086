-- Numbers that are changed in their place.
use Rattle.std.proofs.Common.{◌≡◌, ℕ, ℤ, pos, set, slice_get, Option, Some, None, ap, ◌∙◌}
use Rattle.std.proofs.lemmas.Option.{slice_get_within}
use Rattle.awk_value.specs.declared.value.Value.{Value}
use Rattle.awk_value.specs.declared.value.Value.TheVariants as value
use Rattle.awk_lex.specs.declared.token.IncrementOperator.{IncrementOperator}
use Rattle.awk_lex.specs.declared.token.Operator.{Operator}
use Rattle.awk_kinds.specs.Names.{AreDistinct}
use Rattle.awk_semantics.specs.Operators.{by_one}
use Rattle.awk_storage.specs.declared.position.Variable.TheVariants as variable
use Rattle.awk_storage.specs.declared.position.Place.TheVariants as place
use Rattle.awk_storage.specs.Positions.{assign_by_at, post_increment_at}
use Rattle.awk_runtime.specs.declared.runtime.Runtime.{Runtime}
use Rattle.awk_runtime.specs.support.Naming.{AreOwn}
use Rattle.awk_runtime.specs.support.Updates.{GivesNumber, ChangesValue}
use Rattle.awk_runtime.proofs.VariableWords.{SameButVariables}
use Rattle.awk_runtime.proofs.PlaceWords.{slot_updated, slot_numbered, plainly_numbered, by_numbered, post_numbered}

module _ (i : ℕ) {before after : Value} {old new : Runtime} (at : slice_get old.globals.items i ≡ Some before) (own : AreOwn old.names.scalars) (distinct : AreDistinct old.names.scalars)
    (put : new.globals.items ≡ set old.globals.items i after) (specials : new.specials ≡ old.specials) (same : SameButVariables old new) where
  pub slot_changed : (o : Option Operator) (n : ℤ) → ChangesValue o n before after → GivesNumber (assign_by_at old.names.scalars o (place.Variable (variable.Global i)) value.Nothing (value.Number n)) old new
  slot_changed None n c = record {
    number = n;
    changes = plainly_numbered (variable.Global i) n (slot_numbered i n (slice_get_within old.globals.items i before at) own distinct (put ∙ ap (λ v. set old.globals.items i v) c.changes) specials same);
  }
  slot_changed (Some o) n c = record {
    number = c.changes.1;
    changes = by_numbered o (variable.Global i) n (slot_updated o i n c.changes.0 c.changes.1 (at ∙ ap Some c.changes.2) c.changes.4 own distinct (put ∙ ap (λ v. set old.globals.items i v) c.changes.3) specials same);
  }

  pub slot_raised : (o : IncrementOperator) → ChangesValue (Some (by_one o)) (pos 1) before after → GivesNumber (post_increment_at old.names.scalars o (place.Variable (variable.Global i)) value.Nothing) old new
  slot_raised o c = record {
    number = c.changes.0;
    changes = post_numbered o (variable.Global i) (slot_updated (by_one o) i (pos 1) c.changes.0 c.changes.1 (at ∙ ap Some c.changes.2) c.changes.4 own distinct (put ∙ ap (λ v. set old.globals.items i v) c.changes.3) specials same);
  }
