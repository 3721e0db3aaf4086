-- Running the program makes the step of the marked expression.
use Rattle.std.proofs.Common.{◌≡◌, ℕ, suc, ◌+◌, List, [], ◌∷◌, Bool, true, false, ◌||◌, refl, sym, ap, ◌∙◌, arith, get_or}
use Rattle.std.proofs.lemmas.Bool.{or_left, false≢true}
use Rattle.std.proofs.Math.Bool.{or-false}
use Rattle.awk_ere.specs.support.Marked.{Marked, meps, mone, mfirst, mlast, mcat, malt, mplus, bare, flow, step, IsFlagged}
use Rattle.awk_ere.specs.definitions.Program.{ResolvedInstruction, swap, join, leave, code_size, code}
use Rattle.awk_ere.specs.support.Simulation.{registers, signal, exec, positions}
use Rattle.awk_ere.specs.declared.simulation.Signal.{Signal}
use Rattle.awk_ere.proofs.MarkedStep.{flow_mono}

pub position_at : (p : Marked) (n : ℕ) (cs : List Bool) → get_or (positions p cs) (code_size (bare p) + n) false ≡ get_or cs n false
position_at meps n cs = ap (λ k. get_or cs k false) (omega arith)
position_at (mone b c) n cs = ap (λ k. get_or (b ∷ cs) k false) (let e : 1 + n ≡ suc n = omega arith in e)
position_at mfirst n cs = ap (λ k. get_or (false ∷ cs) k false) (let e : 1 + n ≡ suc n = omega arith in e)
position_at mlast n cs = ap (λ k. get_or (false ∷ cs) k false) (let e : 1 + n ≡ suc n = omega arith in e)
position_at (mcat p q) n cs =
    ap (λ k. get_or (positions p (positions q cs)) k false) (let e : code_size (bare p) + code_size (bare q) + n ≡ code_size (bare p) + (code_size (bare q) + n) = omega arith in e)
    ∙ position_at p (code_size (bare q) + n) (positions q cs) ∙ position_at q n cs
position_at (malt p q) n cs =
    ap (λ k. get_or (positions (malt p q) cs) k false) (let e : suc (code_size (bare p) + suc (code_size (bare q) + 1)) + n ≡ suc (code_size (bare p) + suc (code_size (bare q) + suc n)) = omega arith in e)
    ∙ position_at p (suc (code_size (bare q) + suc n)) (false ∷ positions q (false ∷ cs)) ∙ position_at q (suc n) (false ∷ cs)
position_at (mplus d p) n cs =
    ap (λ k. get_or (positions (mplus d p) cs) k false) (let e : suc (code_size (bare p) + 1) + n ≡ suc (code_size (bare p) + suc n) = omega arith in e)
    ∙ position_at p (suc n) (d ∷ cs)

position_at0 : (p : Marked) (d : Bool) (cs : List Bool) → get_or (positions p (d ∷ cs)) (code_size (bare p)) false ≡ d
position_at0 p d cs = ap (λ k. get_or (positions p (d ∷ cs)) k false) (let e : code_size (bare p) ≡ code_size (bare p) + 0 = omega arith in e) ∙ position_at p 0 (d ∷ cs)

absorb : (st en m d : Bool) (p : Marked) → (d ≡ true → flow st en m p ≡ true) → flow st en (m || d) p ≡ flow st en m p
absorb st en m false p h = ap (λ b. flow st en b p) (or-false m)
absorb st en m true p h = flow_mono [] st en en (λ e. e) m (m || true) (λ e. or_left m true e) p (h refl) ∙ sym (h refl)

module _ (st en : Bool) (x : ℕ) where
  pub exec_code : (p : Marked) (u m g : Bool) (kept : List Signal) (instructions : List ResolvedInstruction) (cs : List Bool) → (u ≡ true → m ≡ true) → IsFlagged st u p → exec st en x (code (bare p) instructions) (positions p cs) (registers m g kept) ≡ (let b = exec st en x instructions cs (registers (flow st en m p) (flow false false g (step st en x m g p)) kept) in (b.0, positions (step st en x m g p) b.1))
  exec_code meps u m g kept instructions cs le ok = refl
  exec_code (mone b c) u m g kept instructions cs le ok = refl
  exec_code mfirst u m g kept instructions cs le ok = refl
  exec_code mlast u m g kept instructions cs le ok = refl
  exec_code (mcat p q) u m g kept instructions cs le ok =
      let p' = step st en x m g p in
      exec_code p u m g kept (code (bare q) instructions) (positions q cs) le ok.0
      ∙ ap (λ b. (b.0, positions p' b.1))
      (exec_code q (flow st false u p) (flow st en m p) (flow false false g p') kept instructions cs
      (flow_mono [] st false en (λ e. absurd (false≢true e)) u m le p) ok.1)
  exec_code (malt p q) u m g kept instructions cs le ok =
      let p' = step st en x m g p in
      ap (λ b. (b.0, false ∷ b.1))
      (exec_code p u m g (signal m g ∷ kept) (swap ∷ code (bare q) (join ∷ instructions)) (false ∷ positions q (false ∷ cs)) le ok.0
      ∙ ap (λ b. (b.0, positions p' (false ∷ b.1)))
      (exec_code q u m g (signal (flow st en m p) (flow false false g p') ∷ kept) (join ∷ instructions) (false ∷ cs) le ok.1))
  exec_code (mplus d p) u m g kept instructions cs le ok =
      let p' = step st en x (m || d) g p in
      let full : d ≡ true → flow st en m p ≡ true = λ e. flow_mono [] st false en (λ e. absurd (false≢true e)) u m le p (sym ok.0 ∙ e) in
      ap (λ b. let r = exec st en x (code (bare p) (leave ∷ instructions)) (positions p (d ∷ cs)) (registers (m || b) g kept) in (r.0, false ∷ r.1))
      (position_at0 p d cs)
      ∙ ap (λ b. (b.0, false ∷ b.1))
      (exec_code p u (m || d) g kept (leave ∷ instructions) (d ∷ cs) (λ e. or_left m d (le e)) ok.1)
      ∙ ap (λ f. let r = exec st en x instructions cs (registers f (flow false false g p') kept) in (r.0, false ∷ positions p' (flow false false g p' ∷ r.1)))
      (absorb st en m d p full)
