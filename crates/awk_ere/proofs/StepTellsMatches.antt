-- What a step tells of the matches.
use Rattle.std.proofs.Common.{◌≡◌, ℕ, zero, suc, ◌+◌, ◌<◌, ◌≤◌, List, [], ◌∷◌, length, Bool, true, false, Some, refl, sym, ap, ◌∙◌, subst, ⊎_elim, arith, get_or}
use Rattle.std.specs.Prelude.{slice_get, nat_eq}
use Rattle.std.proofs.Math.ListN.{replicate}
use Rattle.std.proofs.lemmas.Option.{slice_get-get_or, slice_get_within}
use Rattle.std.proofs.lemmas.Bool.{false≢true, eqb-true, eq-eqb}
use Rattle.std.proofs.lemmas.List.{length-map}
use Rattle.awk_ere.specs.definitions.Tree.{Tree, Times, Matches}
use Rattle.awk_ere.specs.definitions.Desugared.{Re, eps, one, first, last, cat, alt, plus, MatchesRe, desugar}
use Rattle.awk_ere.specs.definitions.Program.{ResolvedInstruction, resolve, swap, join, leave, code_size, code}
use Rattle.awk_ere.specs.definitions.Means.{Means}
use Rattle.awk_ere.specs.support.Marked.{bare, flow, step, fresh}
use Rattle.awk_ere.specs.support.Simulation.{registers, exec, positions}
use Rattle.awk_ere.specs.support.SimulationStep.{program, leaves, behind, dead_positions, IsStill}
use Rattle.awk_ere.specs.support.CursorState.{Starts, Runs}
use Rattle.awk_ere.specs.declared.pattern.Pattern.{Pattern}
use Rattle.awk_ere.proofs.DesugaredMatches.{desugar_to, desugar_from}
use Rattle.awk_ere.proofs.MarkedStep.{matches_le, flow_fresh, bare_fresh, flagged_fresh, step_fresh}
use Rattle.awk_ere.proofs.ProgramSimulatesMarks.{exec_code}
use Rattle.awk_ere.proofs.MarksTrackMatches.{tracks_fresh, leaves_sound, leaves_complete, tracks_step}

-- a match stays within the text
times_within : (n : ℕ) (R : ℕ → ℕ → Type 0) → ((i j : ℕ) → R i j → i ≤ n → j ≤ n) → (m i j : ℕ) → Times R m i j → i ≤ n → j ≤ n
times_within n R h zero i j e le = omega (arith, e, le)
times_within n R h (suc m) i j t le = times_within n R h m t.0 j t.2 (h i t.0 t.1 le)

re_within : (s : List ℕ) (r : Re) (i j : ℕ) → MatchesRe s r i j → i ≤ length s → j ≤ length s
re_within s eps i j m le = omega (arith, m, le)
re_within s (one c) i j m le = let lt = slice_get_within s i m.0 m.1 in omega (arith, lt, m.3)
re_within s first i j m le = omega (arith, m.1)
re_within s last i j m le = omega (arith, m.1)
re_within s (cat a b) i j m le = re_within s b m.0 j m.2 (re_within s a i m.0 m.1 le)
re_within s (alt a b) i j m le = ⊎_elim (λ x. re_within s a i j x le) (λ x. re_within s b i j x le) m
re_within s (plus a) i j m le =
    times_within (length s) (MatchesRe s a) (re_within s a) m.2.0 m.0 j m.2.1 (re_within s a i m.0 m.1 le)

pub match_within : (s : List ℕ) (t : Tree) (i j : ℕ) → Matches s t i j → i ≤ length s → j ≤ length s
match_within s t i j m le = re_within s (desugar t) i j (desugar_to s t i j m) le

-- it doesn't go back
pub match_le : (s : List ℕ) (t : Tree) (i j : ℕ) → Matches s t i j → i ≤ j
match_le s t i j m = matches_le s (desugar t) i j (desugar_to s t i j m)

-- before the first place all positions are false
positions_fresh : (r : Re) (n : ℕ) → positions (fresh r) (replicate n false) ≡ replicate (code_size r + n) false
positions_fresh eps n = ap (λ k. replicate k false) (let e : n ≡ 0 + n = omega arith in e)
positions_fresh (one c) n = ap (λ k. replicate k false) (let e : suc n ≡ 1 + n = omega arith in e)
positions_fresh first n = ap (λ k. replicate k false) (let e : suc n ≡ 1 + n = omega arith in e)
positions_fresh last n = ap (λ k. replicate k false) (let e : suc n ≡ 1 + n = omega arith in e)
positions_fresh (cat a b) n =
    ap (positions (fresh a)) (positions_fresh b n) ∙ positions_fresh a (code_size b + n)
    ∙ ap (λ k. replicate k false) (let e : code_size a + (code_size b + n) ≡ code_size a + code_size b + n = omega arith in e)
positions_fresh (alt a b) n =
    ap (λ l. false ∷ positions (fresh a) (false ∷ l)) (positions_fresh b (suc n))
    ∙ ap (λ l. false ∷ l) (positions_fresh a (suc (code_size b + suc n)))
    ∙ ap (λ k. replicate k false) (let e : suc (code_size a + suc (code_size b + suc n)) ≡ suc (code_size a + suc (code_size b + 1)) + n = omega arith in e)
positions_fresh (plus a) n =
    ap (λ l. false ∷ l) (positions_fresh a (suc n))
    ∙ ap (λ k. replicate k false) (let e : suc (code_size a + suc n) ≡ suc (code_size a + 1) + n = omega arith in e)

length_code : (r : Re) (instructions : List ResolvedInstruction) → length (code r instructions) ≡ code_size r + length instructions
length_code eps instructions = omega arith
length_code (one c) instructions = omega arith
length_code first instructions = omega arith
length_code last instructions = omega arith
length_code (cat a b) instructions = omega (arith, length_code a (code b instructions), length_code b instructions)
length_code (alt a b) instructions = omega (arith, length_code a (swap ∷ code b (join ∷ instructions)), length_code b (join ∷ instructions))
length_code (plus a) instructions = omega (arith, length_code a (leave ∷ instructions))

pub idle_fresh : (t : Tree) (p : Pattern) → Means t p → dead_positions p ≡ positions (fresh (desugar t)) []
idle_fresh t p means =
    let n : length p.program.instructions.items ≡ code_size (desugar t) + 0 =
    sym (length-map p.program.instructions.items (resolve p.program.classes.items)) ∙ ap length means.1 ∙ length_code (desugar t) [] in
    ap (λ m. replicate m false) n ∙ sym (positions_fresh (desugar t) 0)

-- where no match may begin, none does
pub still_off : (t : Tree) (p : Pattern) → Means t p → IsStill p false
still_off t p means x _ =
    let r = desugar t in
    let all =
    ap (λ is. exec false false x is (dead_positions p) (registers false false [])) means.1
    ∙ ap (λ q. exec false false x (code q []) (dead_positions p) (registers false false [])) (sym (bare_fresh r))
    ∙ ap (λ a. exec false false x (code (bare (fresh r)) []) a (registers false false [])) (idle_fresh t p means)
    ∙ exec_code false false x (fresh r) false false false [] [] [] (λ e. e) (flagged_fresh false r) in
    (ap (λ e. e.0.now.before) all ∙ flow_fresh false false r, ap (λ e. e.1) all ∙ ap (λ q. positions q []) (step_fresh false false x r) ∙ sym (idle_fresh t p means))

pub at_start : (k : ℕ) → Starts (nat_eq k 0) k
at_start k = (eqb-true k 0, eq-eqb k 0)

module _ (s : List ℕ) (t : Tree) (p : Pattern) (means : Means t p) (from : ℕ → Bool) (k : ℕ) (cs : List Bool) where
  pub runs_fresh : cs ≡ dead_positions p → ((i : ℕ) → from i ≡ true → i < k → ⊥) → Runs s t from k cs
  runs_fresh h none =
      (fresh (desugar t), tracks_fresh s (desugar t) from k none, h ∙ idle_fresh t p means)

  module _ (runs : Runs s t from k cs) (st m : Bool) (starts : Starts st k) (enters : m ≡ from k) where
    passed : (en : Bool) (x : ℕ) → exec st en x (program p) cs (registers m false []) ≡ (registers (flow st en m runs.0) (flow false false false (step st en x m false runs.0)) [], positions (step st en x m false runs.0) [])
    passed en x =
        ap (λ is. exec st en x is cs (registers m false [])) means.1
        ∙ ap (λ r. exec st en x (code r []) cs (registers m false [])) (sym runs.1.same)
        ∙ ap (λ a. exec st en x (code (bare runs.0) []) a (registers m false [])) runs.2
        ∙ exec_code st en x runs.0 false m false [] [] [] (λ e. absurd (false≢true e)) (runs.1.flagged st starts)

    left : (en : Bool) (x : ℕ) → leaves p cs st m en x ≡ flow st en (from k) runs.0
    left en x = ap (λ e. e.0.now.before) (passed en x) ∙ ap (λ b. flow st en b runs.0) enters

    -- a flow that leaves stands for a match that ends here
    pub hit : (en : Bool) (x : ℕ) → (en ≡ true → k ≡ length s) → leaves p cs st m en x ≡ true → (i : ℕ) × (from i ≡ true) × (i ≤ k) × Matches s t i k
    hit en x h f =
        let a = leaves_sound s (desugar t) from k runs.0 runs.1 st starts en h (sym (left en x) ∙ f) in
        (a.0, a.1, a.2, desugar_from s t a.0 k means.0 a.3)

    -- where no flow leaves, no match ends
    pub miss : (en : Bool) (x : ℕ) → (k ≡ length s → en ≡ true) → leaves p cs st m en x ≡ false → (i : ℕ) → from i ≡ true → i ≤ k → Matches s t i k → ⊥
    miss en x h f i fi le mt =
        false≢true (sym f ∙ left en x ∙ leaves_complete s (desugar t) from k runs.0 runs.1 st starts en h i fi le (desugar_to s t i k mt))

    -- the positions behind the byte stand for the matches that began up to it
    pub next : (x : ℕ) → x ≡ get_or s k 0 → k < length s → Runs s t from (k + 1) (behind p cs st m false x)
    next x ex lt =
        let here : slice_get s k ≡ Some x = slice_get-get_or s k 0 lt ∙ ap Some (sym ex) in
        let one : suc k ≡ k + 1 = omega arith in
        subst (λ n. Runs s t from n (behind p cs st m false x)) one
        (subst (λ a. Runs s t from (suc k) a) (sym (ap (λ e. e.1) (passed false x)))
        (subst (λ b. Runs s t from (suc k) (positions (step st false x b false runs.0) [])) (sym enters)
        (step st false x (from k) false runs.0, tracks_step s (desugar t) from k runs.0 runs.1 st starts x here lt, refl)))
