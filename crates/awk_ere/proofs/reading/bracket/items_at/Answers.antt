use Rattle.std.proofs.Common.{ℕ, List, Bool, Some, sym, ap, subst, ◌∙◌}
use Rattle.std.specs.Prelude.{◌||◌, not, false}
use Rattle.std.specs.Option.{option_map}
use Rattle.std.proofs.lemmas.Option.{same_Some, none-some}
use Rattle.awk_ere.specs.declared.token.Token.TheVariants as tokens
use Rattle.awk_ere.specs.definitions.Brackets.{BracketItem, any_has}
use Rattle.awk_ere.specs.support.TokenValues.{seen_items}
use Rattle.awk_ere.proofs.BracketValue.{Stand, stand_first, stand_next, stand_closed, stand_stuck, item_shortens}
use Rattle.awk_ere.proofs.reading.bracket.items_at.Goals as goal

pub loop-behind-init : goal.loop-behind-init
loop-behind-init c = stand_first _ _ c.requires

pub returns-in-Some-clause-found : goal.returns-in-Some-clause-found
returns-in-Some-clause-found c =
    let h = c.loop-behind.invariant in
    ap (λ (b : Bool). Some (tokens.Bracket (not b), c.in-Some.behind.now)) h.order
    ∙ sym (ap (option_map seen_items) (stand_closed _ _ _ _ _ h c.in-Some.behind.now (sym c.in-Some.ensures)))

pub returns-in-Some-clause-set : goal.returns-in-Some-clause-set
returns-in-Some-clause-set c =
    let h = c.loop-behind.invariant in
    λ r e b lt. h.has b lt
    ∙ ap (λ (x : List BracketItem × List ℕ). any_has x.0 b) (same_Some _ r (sym (stand_closed _ _ _ _ _ h c.in-Some.behind.now (sym c.in-Some.ensures)) ∙ e))

pub returns-in_err-item-clause-found : goal.returns-in_err-item-clause-found
returns-in_err-item-clause-found c =
    rw c.from_residual.ensures
    (sym (ap (option_map seen_items) (stand_stuck _ _ _ _ _ c.loop-behind.invariant (sym c.in_default.ensures) (sym c.in_err-item.ensures))))

pub returns-in_err-item-clause-set : goal.returns-in_err-item-clause-set
returns-in_err-item-clause-set c =
    λ r e b lt. absurd (none-some r (sym (stand_stuck _ _ _ _ _ c.loop-behind.invariant (sym c.in_default.ensures) (sym c.in_err-item.ensures)) ∙ e))

pub loop-behind-smaller : goal.loop-behind-smaller
loop-behind-smaller c = item_shortens c.loop-behind.first c.loop-behind.rest.now c.in_ok-item.behind.now c.in_ok-item.item (sym c.in_ok-item.ensures)

pub loop-behind-preserved : goal.loop-behind-preserved
loop-behind-preserved c =
    let text = c.args.bytes.now in
    let s = stand_next text c.loop-behind.rest.now c.in_ok-item.behind.now c.loop-behind.first c.loop-behind.descends c.loop-behind.set c.add_to.new.set c.in_ok-item.item c.loop-behind.invariant (sym c.in_default.ensures) (sym c.in_ok-item.ensures) c.add_to.ensures in
    subst (λ (b : Bool). Stand text c.in_ok-item.behind.now false b c.add_to.new.set) (ap (λ (d : Bool). c.loop-behind.descends || d) (sym c.descends-descends.ensures)) s
