use Rattle.std.proofs.Common.{◌≡◌, ℕ, zero, suc, Bool, List, [], ◌∷◌, ◌++◌, map, take, slice_get, Some, add-one, sym, ap, ◌∙◌}
use Rattle.std.specs.Option.{option_map}
use Rattle.awk_kinds.specs.definitions.Kinds.{FormalParameter}
use Rattle.awk_resolve.proofs.program.are_arrays.Goals as goal

abbrev flags : List FormalParameter → List Bool
flags ps = map (λ (p : FormalParameter). p.is_array) ps

one_more : (ps : List FormalParameter) (i : ℕ) (b : Bool) → Some b ≡ option_map (λ (p : FormalParameter). p.is_array) (slice_get ps i) → flags (take (suc i) ps) ≡ flags (take i ps) ++ b ∷ []
one_more [] i b e = cc
one_more (p ∷ ps) zero b e = let z : b ≡ p.is_array = cc in ap (λ c. c ∷ []) (sym z)
one_more (p ∷ ps) (suc i) b e = ap (λ l. p.is_array ∷ l) (one_more ps i b e)

pub loop-place-preserved : goal.loop-place-preserved
loop-place-preserved c =
    c.in_ok-push.ensures.items ∙ ap (λ l. l ++ c.in-Some.is_array ∷ []) c.loop-place.invariant ∙ sym (rw (add-one) (one_more c.args.parameters.now c.loop-place.place c.in-Some.is_array c.in-Some.ensures))
