-- The program of a pattern with one more branch.
use Rattle.std.proofs.Common.{◌≡◌, suc, List, [], ◌∷◌, ◌++◌, map, refl, ap, ◌∙◌}
use Rattle.std.specs.Prelude.{◌==◌}
use Rattle.std.proofs.lemmas.List.{map-append}
use Rattle.awk_ere.specs.definitions.Tree.{Class, class_of, Tree, class, branches, none, next}
use Rattle.awk_ere.specs.definitions.Desugared.{Re, eps, one, first, last, cat, alt, plus, desugar}
use Rattle.awk_ere.specs.definitions.Program.{ResolvedInstruction, read, fork, swap, join, enter, leave, resolve, code_size, code}
use Rattle.awk_ere.specs.declared.program.Instruction.{Instruction}
use Rattle.awk_ere.specs.declared.program.Instruction.TheVariants as instructions

code_behind : (r : Re) (a b : List ResolvedInstruction) → code r a ++ b ≡ code r (a ++ b)
code_behind eps a b = refl
code_behind (one c) a b = refl
code_behind first a b = refl
code_behind last a b = refl
code_behind (cat x y) a b = code_behind x (code y a) b ∙ ap (code x) (code_behind y a b)
code_behind (alt x y) a b =
    ap (λ l. fork ∷ l) (code_behind x (swap ∷ code y (join ∷ a)) b ∙ ap (λ l. code x (swap ∷ l)) (code_behind y (join ∷ a) b))
code_behind (plus x) a b = ap (λ l. enter (suc (code_size x)) ∷ l) (code_behind x (leave ∷ a) b)

pub newline_code : (t : Tree) (classes : List Class) (old new : List Instruction) → map (resolve classes) old ≡ code (desugar t) [] → new ≡ instructions.Fork ∷ (old ++ instructions.Swap ∷ instructions.Byte 10 ∷ instructions.Join ∷ []) → map (resolve classes) new ≡ code (desugar (branches t (next (class (class_of (λ x. x == 10))) none))) []
newline_code t classes old new is_code is_new =
    let rest = swap ∷ read (class_of (λ x. x == 10)) ∷ join ∷ [] in
    ap (map (resolve classes)) is_new
    ∙ ap (λ l. fork ∷ l) (map-append (resolve classes) old (instructions.Swap ∷ instructions.Byte 10 ∷ instructions.Join ∷ []) ∙ ap (λ l. l ++ rest) is_code ∙ code_behind (desugar t) [] rest)
