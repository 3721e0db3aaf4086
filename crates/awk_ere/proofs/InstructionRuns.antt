-- What is left to run behind one instruction.
use Rattle.std.proofs.Common.{◌≡◌, ℕ, zero, suc, ◌+◌, ◌<◌, List, [], ◌∷◌, ◌++◌, Bool, map, length, take, drop, get_or, set, refl, sym, ap, ◌∙◌, append_assoc, arith}
use Rattle.std.proofs.lemmas.List.{drop-set-lt}
use Rattle.std.proofs.Math.Seq.{drop-cons, take-suc-set}
use Rattle.awk_ere.specs.declared.program.Instruction.{Instruction}
use Rattle.awk_ere.specs.definitions.Program.{ResolvedInstruction}
use Rattle.awk_ere.specs.support.Simulation.{Registers, rest_of, act, exec}

rest_drop : (i : ℕ) (cs : List Bool) → rest_of (drop i cs) ≡ drop (suc i) cs
rest_drop zero [] = refl
rest_drop zero (c ∷ cs) = refl
rest_drop (suc i) [] = refl
rest_drop (suc i) (c ∷ cs) = rest_drop i cs

-- at the place i, where ps are the positions and r the registers
module _ (st en : Bool) (x : ℕ) (f : Instruction → ResolvedInstruction) (l : List Instruction) (i : ℕ) (d : Instruction) (ps : List Bool) (r : Registers) (lt : i < length l) where
  abbrev done : Registers × Bool
  done = act st en x (f (get_or l i d)) (drop i ps) r

  ran : exec st en x (map f (drop i l)) (drop i ps) r ≡ ((exec st en x (map f (drop (suc i) l)) (drop (suc i) ps) done.0).0, done.1 ∷ (exec st en x (map f (drop (suc i) l)) (drop (suc i) ps) done.0).1)
  ran =
      ap (λ k. exec st en x (map f k) (drop i ps) r) (drop-cons l i d lt)
      ∙ ap (λ k. ((exec st en x (map f (drop (suc i) l)) k done.0).0, done.1 ∷ (exec st en x (map f (drop (suc i) l)) k done.0).1)) (rest_drop i ps)

  module _ (ps' : List Bool) (r' : Registers) (same : length ps ≡ length l) (registers : r' ≡ done.0) (positions : ps' ≡ set ps i done.1) where
    behind : exec st en x (map f (drop (suc i) l)) (drop (suc i) ps') r' ≡ exec st en x (map f (drop (suc i) l)) (drop (suc i) ps) done.0
    behind =
        ap (λ k. exec st en x (map f (drop (suc i) l)) k r') (ap (drop (suc i)) positions ∙ drop-set-lt (suc i) ps i done.1 (omega arith))
        ∙ ap (exec st en x (map f (drop (suc i) l)) (drop (suc i) ps)) registers

    pub registers_next : {all : Registers} → (exec st en x (map f (drop i l)) (drop i ps) r).0 ≡ all → (exec st en x (map f (drop (i + 1) l)) (drop (i + 1) ps') r').0 ≡ all
    registers_next h =
        let next : i + 1 ≡ suc i = omega arith in
        ap (λ k. (exec st en x (map f (drop k l)) (drop k ps') r').0) next ∙ ap (λ e. e.0) behind ∙ sym (ap (λ e. e.0) ran) ∙ h

    pub positions_next : {all : List Bool} → take i ps ++ (exec st en x (map f (drop i l)) (drop i ps) r).1 ≡ all → take (i + 1) ps' ++ (exec st en x (map f (drop (i + 1) l)) (drop (i + 1) ps') r').1 ≡ all
    positions_next h =
        let next : i + 1 ≡ suc i = omega arith in
        let left = (exec st en x (map f (drop (suc i) l)) (drop (suc i) ps) done.0).1 in
        ap (λ k. take k ps' ++ (exec st en x (map f (drop k l)) (drop k ps') r').1) next
        ∙ ap (λ e. take (suc i) ps' ++ e.1) behind
        ∙ ap (λ k. k ++ left) (ap (take (suc i)) positions ∙ take-suc-set ps i done.1 (omega (arith, lt, same)))
        ∙ append_assoc (take i ps) (done.1 ∷ []) left
        ∙ sym (ap (λ e. take i ps ++ e.1) ran) ∙ h
