use Rattle.std.proofs.Common.{◌≡◌, ℕ, zero, suc, Bool, List, [], ◌∷◌, ◌++◌, map, take, slice_get, Some, add-one, refl, sym, ap, ◌∙◌}
use Rattle.std.specs.Option.{option_map}
use Rattle.std.specs.Global.{Vec}
use Rattle.awk_kinds.specs.definitions.Kinds.{FormalParameter}
use Rattle.awk_kinds.specs.definitions.Signatures.{Signature}
use Rattle.awk_resolve.specs.support.Builds.{arrays_among}
use Rattle.awk_resolve.proofs.program.array_parameters.Goals as goal

abbrev flags : List Signature → List (List Bool)
flags fs = map (λ (f : Signature). arrays_among f.parameters) fs

one_more : (fs : List Signature) (i : ℕ) (ps : List FormalParameter) → Some ps ≡ option_map (λ (f : Signature). f.parameters) (slice_get fs i) → flags (take (suc i) fs) ≡ flags (take i fs) ++ arrays_among ps ∷ []
one_more [] i ps e = cc
one_more (f ∷ fs) zero ps e = let z : ps ≡ f.parameters = cc in ap (λ qs. arrays_among qs ∷ []) (sym z)
one_more (f ∷ fs) (suc i) ps e = ap (λ l. arrays_among f.parameters ∷ l) (one_more fs i ps e)

abbrev items_of : List (Vec Bool) → List (List Bool)
items_of vs = map (λ (v : Vec Bool). v.items) vs

one_behind : (vs : List (Vec Bool)) (w : Vec Bool) → items_of (vs ++ w ∷ []) ≡ items_of vs ++ w.items ∷ []
one_behind [] w = refl
one_behind (v ∷ vs) w = ap (λ l. v.items ∷ l) (one_behind vs w)

pub loop-number-preserved : goal.loop-number-preserved
loop-number-preserved c =
    let made = c.in_ok-are_arrays.field-0 in
    let before = flags (take c.loop-number.number c.args.kinds.now.functions) in
    ap items_of c.in_ok-push.ensures.items
    ∙ one_behind c.loop-number.all.items made
    ∙ ap (λ l. l ++ made.items ∷ []) c.loop-number.invariant
    ∙ ap (λ l. before ++ l ∷ []) c.in_ok-are_arrays.ensures
    ∙ sym (rw (add-one) (one_more c.args.kinds.now.functions c.loop-number.number c.in-Some.parameters.now c.in-Some.ensures))
