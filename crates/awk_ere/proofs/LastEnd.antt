-- How a search follows the last end of a match.
use Rattle.std.proofs.Common.{◌≡◌, ℕ, suc, ◌+◌, ◌<◌, ◌≤◌, List, [], ◌∷◌, length, Bool, true, false, Option, Some, None, ◌&&◌, min, sym, ap, ◌∙◌, subst, ⊎_elim, arith, get_or}
use Rattle.std.specs.Prelude.{nat_eq, nat_le}
use Rattle.std.proofs.lemmas.Bool.{cases_lt, cases_eq, cases_Bool, false≢true, leb-true, le-leb, eq-eqb, ne_eqb, and_parts, and_from}
use Rattle.awk_ere.specs.definitions.Tree.{Tree, Matches}
use Rattle.awk_ere.specs.definitions.Means.{Means}
use Rattle.awk_ere.specs.support.Marked.{Marked, meps, mone, mfirst, mlast, mcat, malt, mplus, bare, Rest}
use Rattle.awk_ere.specs.definitions.Program.{code_size}
use Rattle.awk_ere.specs.support.Simulation.{positions}
use Rattle.awk_ere.specs.support.SimulationStep.{leaves}
use Rattle.awk_ere.specs.support.CursorState.{Starts, Runs, Enters}
use Rattle.awk_ere.specs.support.Found.{Longest, EndsAt, EndsBetween, EndsWithin, between, LastEnd}
use Rattle.awk_ere.specs.declared.pattern.Pattern.{Pattern}
use Rattle.awk_ere.proofs.DesugaredMatches.{desugar_to}
use Rattle.awk_ere.proofs.ProgramSimulatesMarks.{position_at}
use Rattle.awk_ere.proofs.StepTellsMatches.{match_le, match_within, hit, miss}

-- where all positions are false, nothing that began goes on
abbrev pub Idle : List Bool → Type 0
Idle cs = (n : ℕ) → get_or cs n false ≡ false

idle_rest : (s : List ℕ) (p : Marked) (cs : List Bool) (k j : ℕ) → Idle (positions p cs) → Rest s p k j → ⊥
idle_rest s meps cs k j h r = r
idle_rest s (mone b c) cs k j h r = false≢true (sym (h 0) ∙ r.0)
idle_rest s mfirst cs k j h r = r
idle_rest s mlast cs k j h r = r
idle_rest s (mcat p q) cs k j h r =
    ⊎_elim (λ a. idle_rest s p (positions q cs) k a.0 h a.1)
    (idle_rest s q cs k j (λ n. sym (position_at p n (positions q cs)) ∙ h (code_size (bare p) + n))) r
idle_rest s (malt p q) cs k j h r =
    let rest = false ∷ positions q (false ∷ cs) in
    ⊎_elim (idle_rest s p rest k j (λ n. h (suc n)))
    (idle_rest s q (false ∷ cs) k j (λ n. sym (position_at p (suc n) rest) ∙ h (suc (code_size (bare p) + suc n)))) r
idle_rest s (mplus d p) cs k j h r = idle_rest s p (d ∷ cs) k r.0 (λ n. h (suc n)) r.1

module _ (s : List ℕ) (t : Tree) (p : Pattern) (means : Means t p) (from : ℕ → Bool) (k : ℕ) (cs : List Bool) (runs : Runs s t from k cs) where
  pub idle_none : Idle cs → (i j : ℕ) → from i ≡ true → i < k → k ≤ j → Matches s t i j → ⊥
  idle_none h i j f lt le m =
      idle_rest s runs.0 [] k j (subst Idle runs.2 h) (runs.1.complete i j f lt le (desugar_to s t i j m))

  -- nothing more is found
  pub last_idle : (n : ℕ) (b : Option ℕ) → Idle cs → ((i : ℕ) → from i ≡ true → i < k) → LastEnd t s from k b → LastEnd t s from n b
  last_idle n None h begun l = λ i j f lt m. ⊎_elim (λ below. l i j f below m) (λ ge. idle_none h i j f (begun i f) ge m) (cases_lt j k)
  last_idle n (Some e) h begun l = (l.0, λ i j f lt m. ⊎_elim (λ below. l.1 i j f below m) (λ ge. absurd (idle_none h i j f (begun i f) ge m)) (cases_lt j k))

  module _ (st m : Bool) (starts : Starts st k) (enters : m ≡ from k) (en : Bool) (x : ℕ) where
    pub last_hit : (en ≡ true → k ≡ length s) → leaves p cs st m en x ≡ true → LastEnd t s from (k + 1) (Some k)
    last_hit h f =
        let a = hit s t p means from k cs runs st m starts enters en x h f in
        ((a.0, a.1, a.3), λ i j _ lt _. omega (arith, lt))

    pub last_miss : (b : Option ℕ) → (k ≡ length s → en ≡ true) → leaves p cs st m en x ≡ false → LastEnd t s from k b → LastEnd t s from (k + 1) b
    last_miss b h f l = also b l
      where
        none : (i j : ℕ) → from i ≡ true → k ≤ j → j < k + 1 → Matches s t i j → ⊥
        none i j fi ge lt mt =
            let same : j ≡ k = omega (arith, ge, lt) in
            let le = match_le s t i j mt in
            miss s t p means from k cs runs st m starts enters en x h f i fi (omega (arith, le, same)) (subst (Matches s t i) same mt)

        also : (b : Option ℕ) → LastEnd t s from k b → LastEnd t s from (k + 1) b
        also None l = λ i j fi lt mt. ⊎_elim (λ below. l i j fi below mt) (λ ge. none i j fi ge lt mt) (cases_lt j k)
        also (Some e) l = (l.0, λ i j fi lt mt. ⊎_elim (λ below. l.1 i j fi below mt) (λ ge. absurd (none i j fi ge lt mt)) (cases_lt j k))

-- where matches may begin in both parts of a scan, and at the text's end
le_false : (a b : ℕ) → b < a → nat_le a b ≡ false
le_false a b lt = ⊎_elim (λ y. absurd (let le = leb-true a b y in omega (arith, le, lt))) (λ n. n) (cases_Bool (nat_le a b))

pub between_in : (low high k : ℕ) → low ≤ k → k ≤ high → true ≡ between low high k
between_in low high k a b = sym (and_from _ _ (le-leb low k a) (le-leb k high b))

pub between_past : (low high k : ℕ) → low ≤ k → high < k → false ≡ between low high k
between_past low high k a b = sym (ap (λ c. c && nat_le k high) (le-leb low k a) ∙ le_false k high b)

-- matches begin at one place alone
pub enters_once : (low k : ℕ) → low ≤ k → nat_eq k low ≡ between low low k
enters_once low k le =
    ⊎_elim
    (λ same. eq-eqb k low same ∙ between_in low low k le (omega (arith, same)))
    (λ other. ne_eqb k low other ∙ between_past low low k le (omega (arith, le, other)))
    (cases_eq k low)

pub enters_on : (low high len : ℕ) → Enters (between low high) true low (min len (high + 1))
enters_on low high len = λ k a b. between_in low high k a (omega (arith, b))

pub enters_end : (low high k len : ℕ) → low ≤ high → high ≤ len → min len (high + 1) ≤ k → k ≤ len → nat_eq high len ≡ between low high k
enters_end low high k len lh hl ge le =
    ⊎_elim
    (λ same. eq-eqb high len same ∙ between_in low high k (omega (arith, lh, same, ge)) (omega (arith, le, same)))
    (λ other. ne_eqb high len other ∙ between_past low high k (omega (arith, lh, ge, hl, other)) (omega (arith, ge, hl, other)))
    (cases_eq high len)

-- an end that lies up to a place lies up to one further on
pub ends_within : (low a b : ℕ) (e : Option ℕ) → a ≤ b → EndsWithin low a e → EndsWithin low b e
ends_within low a b None le h = h
ends_within low a b (Some e) le h = (h.0, omega (arith, le, h.1))

-- what an end tells where the text is read
pub ends_longest : (t : Tree) (s : List ℕ) (i : ℕ) (b : Option ℕ) → i ≤ length s → EndsBetween false t s i i b → Longest t s i b
ends_longest t s i b le h = longest b h.0 h.1 (⊎_elim (λ lt. lt) (λ ge. absurd (false≢true (h.2 ge).0)) (cases_lt (length s) h.0))
  where
    here : between i i i ≡ true
    here = and_from _ _ (le-leb i i (omega arith)) (le-leb i i (omega arith))

    longest : (b : Option ℕ) (n : ℕ) → LastEnd t s (between i i) n b → length s < n → Longest t s i b
    longest None n l lt = λ j m. let w = match_within s t i j m le in l i j here (omega (arith, w, lt)) m
    longest (Some e) n l lt =
        let p = and_parts _ _ l.0.1 in
        let same : l.0.0 ≡ i = omega (arith, leb-true i l.0.0 p.0, leb-true l.0.0 i p.1) in
        (subst (λ a. Matches s t a e) same l.0.2, λ j h. let w = match_within s t i j h le in l.1 i j here (omega (arith, w, lt)) h)

pub ends_at : (first : Bool) (t : Tree) (s : List ℕ) (low high : ℕ) (b : Option ℕ) → high ≤ length s → EndsBetween first t s low high b → EndsAt t s low high b
ends_at first t s low high None le h = λ o.
    let w = match_within s t o.0 o.1 o.4 (omega (arith, o.3, le)) in
    ⊎_elim (λ lt. h.1 o.0 o.1 (and_from _ _ (le-leb low o.0 o.2) (le-leb o.0 high o.3)) (omega (arith, w, lt)) o.4) (λ ge. false≢true (h.2 ge).1) (cases_lt (length s) h.0)
ends_at first t s low high (Some e) le h =
    let p = and_parts _ _ h.1.0.1 in
    (h.1.0.0, leb-true low h.1.0.0 p.0, leb-true h.1.0.0 high p.1, h.1.0.2)
