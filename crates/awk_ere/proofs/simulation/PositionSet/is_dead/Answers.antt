use Rattle.std.proofs.Common.{◌≡◌, Bool, true, false, List, [], ◌∷◌, length, replicate, refl, sym, ap, ◌∙◌}
use Rattle.std.specs.List.{list_any}
use Rattle.std.proofs.Math.Bool.{beq, not}
use Rattle.awk_ere.proofs.simulation.PositionSet.is_dead.Goals as goal

none_true : (cs : List Bool) → not (list_any (λ c. beq c true) cs) ≡ true → cs ≡ replicate (length cs) false
none_true [] e = refl
none_true (true ∷ cs) e = cc
none_true (false ∷ cs) e = ap (λ l. false ∷ l) (none_true cs e)

pub returns : goal.returns
returns c = λ e. none_true c.args.self.now.positions.items (ap (λ l. not (list_any (λ x. beq x true) l)) (sym c.as_slice.ensures.value) ∙ ap not (sym c.contains.ensures.value) ∙ e)
