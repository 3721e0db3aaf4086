use Rattle.std.proofs.Common.{◌≡◌, Some, None, refl, sym, ◌∙◌, true≢false}
use Rattle.std.proofs.lemmas.Slice.Eq.{bytes_eq-Decides}
use Rattle.awk_resolve.proofs.Building.{same}
use Rattle.awk_resolve.proofs.Variables.{is_local, is_special, is_count, finds_global}
use Rattle.awk_resolve.proofs.builder.Builder.variable_of.Goals as goal

pub returns-in-Some : goal.returns-in-Some
returns-in-Some c = record { extends = same; is = is_local c.args.name.now c.args.self.now c.in-Some.place (sym c.in-Some.ensures) }

pub returns-then-eq : goal.returns-then-eq
returns-then-eq c = record {
  extends = same;
  is = is_count c.args.name.now c.args.self.now (sym c.in_default.ensures) ((bytes_eq-Decides c.args.name.now c.as_slice.result.now).0 (sym c.eq.ensures ∙ c.if-eq.true) ∙ c.as_slice.ensures);
}

pub returns-in-Some-named : goal.returns-in-Some-named
returns-in-Some-named c = record {
  extends = same;
  is = is_special c.args.name.now c.args.self.now (sym c.in_default.ensures) c.in-Some-named.special ((c.in-Some-named.ensures.names c.in-Some-named.special).0 refl);
}

pub returns : goal.returns
returns c = finds_global c.in_ok-slot_of.ensures (sym c.in_default.ensures) (record {
  not_special = λ special e. let h : None ≡ Some special = (c.in_default-named.ensures.names special).1 e in cc;
  not_count = λ e. true≢false (sym ((bytes_eq-Decides c.args.name.now c.as_slice.result.now).1 (e ∙ sym c.as_slice.ensures)) ∙ sym c.eq.ensures ∙ c.if-eq.false);
})
