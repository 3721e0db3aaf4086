-- The program of a pattern by parts, and that of a repeat as rounds of its body.
use Rattle.std.proofs.Common.{◌≡◌, ℕ, zero, suc, ◌+◌, List, [], ◌∷◌, ◌++◌, length, map, refl, sym, ap, ◌∙◌, append_assoc, arith}
use Rattle.std.proofs.lemmas.List.{length-append, length-map, map-append}
use Rattle.awk_ere.specs.definitions.Tree.{Class}
use Rattle.awk_ere.specs.declared.program.Instruction.{Instruction}
use Rattle.awk_ere.specs.declared.program.Instruction.TheVariants as instruction
use Rattle.awk_ere.specs.definitions.Desugared.{Re, eps, one, first, last, cat, alt, plus, copies, up_to}
use Rattle.awk_ere.specs.definitions.Program.{ResolvedInstruction, fork, swap, join, enter, leave, resolve, code, code_size}
use Rattle.awk_ere.specs.support.RepeatInstructions.{rounds, some_rounds, any_rounds, forks, joins, up_to_rounds}

-- what follows comes behind
pub code_append : (r : Re) (instructions : List ResolvedInstruction) → code r instructions ≡ code r [] ++ instructions
code_append eps instructions = refl
code_append (one c) instructions = refl
code_append first instructions = refl
code_append last instructions = refl
code_append (cat a b) instructions =
    code_append a (code b instructions) ∙ ap (λ (l : List ResolvedInstruction). code a [] ++ l) (code_append b instructions)
    ∙ sym (append_assoc (code a []) (code b []) instructions) ∙ ap (λ (l : List ResolvedInstruction). l ++ instructions) (sym (code_append a (code b [])))
code_append (alt a b) instructions =
    let inner = code_append b (join ∷ instructions) ∙ sym (append_assoc (code b []) (join ∷ []) instructions) ∙ ap (λ (l : List ResolvedInstruction). l ++ instructions) (sym (code_append b (join ∷ []))) in
    ap (λ (l : List ResolvedInstruction). fork ∷ l)
    (code_append a (swap ∷ code b (join ∷ instructions)) ∙ ap (λ (l : List ResolvedInstruction). code a [] ++ swap ∷ l) inner
    ∙ sym (append_assoc (code a []) (swap ∷ code b (join ∷ [])) instructions) ∙ ap (λ (l : List ResolvedInstruction). l ++ instructions) (sym (code_append a (swap ∷ code b (join ∷ [])))))
code_append (plus a) instructions =
    ap (λ (l : List ResolvedInstruction). enter (suc (code_size a)) ∷ l)
    (code_append a (leave ∷ instructions) ∙ sym (append_assoc (code a []) (leave ∷ []) instructions) ∙ ap (λ (l : List ResolvedInstruction). l ++ instructions) (sym (code_append a (leave ∷ []))))

pub length-code : (r : Re) → length (code r []) ≡ code_size r
length-code eps = refl
length-code (one c) = refl
length-code first = refl
length-code last = refl
length-code (cat a b) =
    ap length (code_append a (code b [])) ∙ (let p = length-code a in let q = length-code b in omega (arith, p, q, length-append (code a []) (code b [])))
length-code (alt a b) =
    let p = length-code a in
    let q = length-code b in
    let second : length (code b (join ∷ [])) ≡ code_size b + 1 = ap length (code_append b (join ∷ [])) ∙ omega (arith, q, length-append (code b []) (join ∷ [])) in
    let whole : length (code a (swap ∷ code b (join ∷ []))) ≡ code_size a + suc (code_size b + 1) = ap length (code_append a (swap ∷ code b (join ∷ []))) ∙ omega (arith, p, second, length-append (code a []) (swap ∷ code b (join ∷ []))) in
    omega (arith, whole)
length-code (plus a) =
    let p = length-code a in
    let whole : length (code a (leave ∷ [])) ≡ code_size a + 1 = ap length (code_append a (leave ∷ [])) ∙ omega (arith, p, length-append (code a []) (leave ∷ [])) in
    omega (arith, whole)

-- the pattern's instructions, where these classes stand
abbrev SeesRe : List Class → List Instruction → Re → Type 0
SeesRe cs body a = map (resolve cs) body ≡ code a []

pub see_rounds : (cs : List Class) (n : ℕ) (body : List Instruction) (a : Re) → SeesRe cs body a → SeesRe cs (rounds n body) (copies n a)
see_rounds cs zero body a h = refl
see_rounds cs (suc n) body a h =
    map-append (resolve cs) body (rounds n body)
    ∙ ap (λ (l : List ResolvedInstruction). l ++ map (resolve cs) (rounds n body)) h
    ∙ ap (λ (l : List ResolvedInstruction). code a [] ++ l) (see_rounds cs n body a h)
    ∙ sym (code_append a (code (copies n a) []))

-- the instructions before, and then a single list of others
pub behind : (cs : List Class) (body rest : List Instruction) (a : Re) → SeesRe cs body a → map (resolve cs) (body ++ rest) ≡ code a (map (resolve cs) rest)
behind cs body rest a h =
    map-append (resolve cs) body rest ∙ ap (λ (l : List ResolvedInstruction). l ++ map (resolve cs) rest) h ∙ sym (code_append a (map (resolve cs) rest))

pub see_some : (cs : List Class) (body : List Instruction) (a : Re) → SeesRe cs body a → SeesRe cs (some_rounds body) (plus a)
see_some cs body a h =
    let e : length body + 1 ≡ suc (code_size a) = omega (arith, length-map body (resolve cs), ap length h, length-code a) in
    ap (λ n. enter n ∷ map (resolve cs) (body ++ instruction.Leave ∷ [])) e
    ∙ ap (λ (l : List ResolvedInstruction). enter (suc (code_size a)) ∷ l) (behind cs body (instruction.Leave ∷ []) a h)

pub see_any : (cs : List Class) (body : List Instruction) (a : Re) → SeesRe cs body a → SeesRe cs (any_rounds body) (alt (plus a) eps)
see_any cs body a h =
    ap (λ (l : List ResolvedInstruction). fork ∷ l) (behind cs (some_rounds body) (instruction.Swap ∷ instruction.Join ∷ []) (plus a) (see_some cs body a h))

-- one more swap and join behind is one more in front
joins_behind : (n : ℕ) → joins n ++ instruction.Swap ∷ instruction.Join ∷ [] ≡ instruction.Swap ∷ instruction.Join ∷ joins n
joins_behind zero = refl
joins_behind (suc n) = ap (λ (l : List Instruction). instruction.Swap ∷ instruction.Join ∷ l) (joins_behind n)

nested : (n : ℕ) (body : List Instruction) → up_to_rounds (suc n) body ≡ instruction.Fork ∷ (body ++ (up_to_rounds n body ++ instruction.Swap ∷ instruction.Join ∷ []))
nested n body =
    ap (λ (l : List Instruction). instruction.Fork ∷ l)
    (append_assoc body (forks n body) (joins (suc n))
    ∙ ap (λ (l : List Instruction). body ++ l)
    (ap (λ (l : List Instruction). forks n body ++ l) (sym (joins_behind n)) ∙ sym (append_assoc (forks n body) (joins n) (instruction.Swap ∷ instruction.Join ∷ []))))

pub see_up_to : (cs : List Class) (n : ℕ) (body : List Instruction) (a : Re) → SeesRe cs body a → SeesRe cs (up_to_rounds n body) (up_to n a)
see_up_to cs zero body a h = refl
see_up_to cs (suc n) body a h =
    let tail = instruction.Swap ∷ instruction.Join ∷ [] in
    ap (map (resolve cs)) (nested n body)
    ∙ ap (λ (l : List ResolvedInstruction). fork ∷ l)
    (behind cs body (up_to_rounds n body ++ tail) a h
    ∙ ap (code a) (behind cs (up_to_rounds n body) tail (up_to n a) (see_up_to cs n body a h)))
