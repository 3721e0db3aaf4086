-- Rounds of a body, one after another.
use Rattle.std.proofs.Common.{◌≡◌, ℕ, suc, ◌+◌, ◌-◌, ◌<◌, List, [], ◌∷◌, ◌++◌, sym, ap, ◌∙◌, append_assoc, arith}
use Rattle.awk_ere.specs.declared.program.Instruction.{Instruction}
use Rattle.awk_ere.specs.declared.program.Instruction.TheVariants.{Fork, Swap, Join}
use Rattle.awk_ere.specs.support.RepeatInstructions.{rounds, forks, joins}

-- what is appended now, and what is appended later, of a whole
appended : (instructions new part rest more all : List Instruction) → new ≡ instructions ++ part → more ≡ part ++ rest → instructions ++ more ≡ all → new ++ rest ≡ all
appended instructions new part rest more all e f h =
    ap (λ l. l ++ rest) e ∙ append_assoc instructions part rest ∙ ap (λ l. instructions ++ l) (sym f) ∙ h

-- the next of n rounds, of which i are done
pub next_round : (n i : ℕ) (body instructions new all : List Instruction) → i < n → new ≡ instructions ++ body → instructions ++ rounds (n - i) body ≡ all → new ++ rounds (n - (i + 1)) body ≡ all
next_round n i body instructions new all h e rest =
    let next : n - i ≡ suc (n - (i + 1)) = omega arith in
    appended instructions new body (rounds (n - (i + 1)) body) (rounds (n - i) body) all e (ap (λ k. rounds k body) next) rest

pub next_fork : (n i : ℕ) (body instructions new all : List Instruction) → i < n → new ≡ instructions ++ Fork ∷ body → instructions ++ forks (n - i) body ≡ all → new ++ forks (n - (i + 1)) body ≡ all
next_fork n i body instructions new all h e rest =
    let next : n - i ≡ suc (n - (i + 1)) = omega arith in
    appended instructions new (Fork ∷ body) (forks (n - (i + 1)) body) (forks (n - i) body) all e (ap (λ k. forks k body) next) rest

pub next_join : (n i : ℕ) (instructions new all : List Instruction) → i < n → new ≡ instructions ++ Swap ∷ Join ∷ [] → instructions ++ joins (n - i) ≡ all → new ++ joins (n - (i + 1)) ≡ all
next_join n i instructions new all h e rest =
    let next : n - i ≡ suc (n - (i + 1)) = omega arith in
    appended instructions new (Swap ∷ Join ∷ []) (joins (n - (i + 1))) (joins (n - i)) all e (ap joins next) rest
