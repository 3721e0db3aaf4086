-- A premise that is met.
use Rattle.std.proofs.Common.{Result, Ok, Err, IfOk}

-- what holds of a run where its world is logged and was fresh holds of one over a world that is
pub witnessed : {T E I : Type 0} (accepts : I → Type 0) (fresh : Type 0) (runs : I → T → Type 0) (r : Result T E) → IfOk r (λ o. (i : I) × accepts i × (Unit {0} → fresh → runs i o)) → fresh →
    IfOk r (λ o. (i : I) × accepts i × runs i o)
witnessed accepts fresh runs (Ok o) h met = (h.0, h.1, h.2 tt met)
witnessed accepts fresh runs (Err e) h met = tt
