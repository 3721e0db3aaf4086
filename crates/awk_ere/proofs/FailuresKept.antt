-- What is kept of searches that read in vain tells of the matches of other searches.
use Rattle.std.proofs.Common.{◌≡◌, ℕ, suc, length, refl, Option, Some, None, ◌+◌, ◌*◌, ◌<◌, ◌≤◌, List, [], ◌∷◌, Bool, true, false, ◌⊎◌, inl, inr, sym, ap, ◌∙◌, subst, ⊎_elim, arith, get_or}
use Rattle.std.proofs.lemmas.Bool.{cases_lt, leb-true, and_parts}
use Rattle.awk_ere.specs.definitions.Tree.{Class, Tree, Matches}
use Rattle.awk_ere.specs.definitions.Desugared.{Re, eps, one, first, last, cat, alt, plus, Many, desugar, MatchesRe, IsOrdered}
use Rattle.awk_ere.specs.definitions.Program.{code_size}
use Rattle.awk_ere.specs.support.Marked.{Marked, meps, mone, mfirst, mlast, mcat, malt, mplus, bare, Rest}
use Rattle.awk_ere.specs.support.Simulation.{positions}
use Rattle.awk_ere.specs.support.CursorState.{Runs}
use Rattle.awk_ere.specs.support.Failures.{GoesOn, NoneGoesOn, NoneEndsBehind}
use Rattle.awk_ere.specs.support.Found.{Longest, OccursBetween, EndsBetween, LastEnd, between}
use Rattle.awk_ere.proofs.DesugaredMatches.{desugar_to, desugar_from}
use Rattle.awk_ere.proofs.MarkedStep.{rest_le}
use Rattle.awk_ere.proofs.ProgramSimulatesMarks.{position_at}

abbrev tag : Re → ℕ
tag eps = 0
tag (one c) = 1
tag first = 2
tag last = 3
tag (cat a b) = 4
tag (alt a b) = 5
tag (plus a) = 6

-- the parts of a pattern
abbrev front_of : Re → Re
front_of eps = eps
front_of (one c) = eps
front_of first = eps
front_of last = eps
front_of (cat a b) = a
front_of (alt a b) = a
front_of (plus a) = a

abbrev behind_of : Re → Re
behind_of eps = eps
behind_of (one c) = eps
behind_of first = eps
behind_of last = eps
behind_of (cat a b) = b
behind_of (alt a b) = b
behind_of (plus a) = eps

-- a match that goes on does so from one of the positions
pub record From (s : List ℕ) (p : Marked) (cs : List Bool) (k j : ℕ) : Type 0 where
  pub n : ℕ
  pub within : n < code_size (bare p)
  pub set : get_or (positions p cs) n false ≡ true
  pub goes : (q : Marked) (ds : List Bool) → bare q ≡ bare p → get_or (positions q ds) n false ≡ true → Rest s q k j

from_one : (s : List ℕ) (b : Bool) (c : Class) (cs : List Bool) (k j : ℕ) → b ≡ true → k ≡ j → From s (mone b c) cs k j
from_one s b c cs k j set here = record { n = 0; within = omega arith; set = set; goes = goes }
  where
    goes : (x : Marked) (ds : List Bool) → bare x ≡ one c → get_or (positions x ds) 0 false ≡ true → Rest s x k j
    goes meps ds e set = absurd (let n : 0 ≡ 1 = ap tag e in omega (arith, n))
    goes mfirst ds e set = absurd (let n : 2 ≡ 1 = ap tag e in omega (arith, n))
    goes mlast ds e set = absurd (let n : 3 ≡ 1 = ap tag e in omega (arith, n))
    goes (mcat p0 q0) ds e set = absurd (let n : 4 ≡ 1 = ap tag e in omega (arith, n))
    goes (malt p0 q0) ds e set = absurd (let n : 5 ≡ 1 = ap tag e in omega (arith, n))
    goes (mplus d0 p0) ds e set = absurd (let n : 6 ≡ 1 = ap tag e in omega (arith, n))
    goes (mone b' c') ds e f = (f, here)

from_front : (s : List ℕ) (p q : Marked) (cs : List Bool) (k l j : ℕ) → From s p (positions q cs) k l → MatchesRe s (bare q) l j → From s (mcat p q) cs k j
from_front s p q cs k l j f m = record { n = f.n; within = omega (arith, f.within); set = f.set; goes = goes }
  where
    goes : (x : Marked) (ds : List Bool) → bare x ≡ cat (bare p) (bare q) → get_or (positions x ds) f.n false ≡ true → Rest s x k j
    goes meps ds e set = absurd (let n : 0 ≡ 4 = ap tag e in omega (arith, n))
    goes (mone b0 c0) ds e set = absurd (let n : 1 ≡ 4 = ap tag e in omega (arith, n))
    goes mfirst ds e set = absurd (let n : 2 ≡ 4 = ap tag e in omega (arith, n))
    goes mlast ds e set = absurd (let n : 3 ≡ 4 = ap tag e in omega (arith, n))
    goes (malt p0 q0) ds e set = absurd (let n : 5 ≡ 4 = ap tag e in omega (arith, n))
    goes (mplus d0 p0) ds e set = absurd (let n : 6 ≡ 4 = ap tag e in omega (arith, n))
    goes (mcat p' q') ds e set =
        inl (l, f.goes p' (positions q' ds) (ap front_of e) set, subst (λ r. MatchesRe s r l j) (sym (ap behind_of e)) m)

from_behind : (s : List ℕ) (p q : Marked) (cs : List Bool) (k j : ℕ) → From s q cs k j → From s (mcat p q) cs k j
from_behind s p q cs k j f = record {
  n = code_size (bare p) + f.n;
  within = omega (arith, f.within);
  set = position_at p f.n (positions q cs) ∙ f.set;
  goes = goes;
}
  where
    goes : (x : Marked) (ds : List Bool) → bare x ≡ cat (bare p) (bare q) → get_or (positions x ds) (code_size (bare p) + f.n) false ≡ true → Rest s x k j
    goes meps ds e set = absurd (let n : 0 ≡ 4 = ap tag e in omega (arith, n))
    goes (mone b0 c0) ds e set = absurd (let n : 1 ≡ 4 = ap tag e in omega (arith, n))
    goes mfirst ds e set = absurd (let n : 2 ≡ 4 = ap tag e in omega (arith, n))
    goes mlast ds e set = absurd (let n : 3 ≡ 4 = ap tag e in omega (arith, n))
    goes (malt p0 q0) ds e set = absurd (let n : 5 ≡ 4 = ap tag e in omega (arith, n))
    goes (mplus d0 p0) ds e set = absurd (let n : 6 ≡ 4 = ap tag e in omega (arith, n))
    goes (mcat p' q') ds e set =
        let size = ap code_size (ap front_of e) in
        inr (f.goes q' ds (ap behind_of e)
        (sym (position_at p' f.n (positions q' ds)) ∙ ap (λ i. get_or (positions p' (positions q' ds)) (i + f.n) false) size ∙ set))

from_first : (s : List ℕ) (p q : Marked) (cs : List Bool) (k j : ℕ) → From s p (false ∷ positions q (false ∷ cs)) k j → From s (malt p q) cs k j
from_first s p q cs k j f = record { n = suc f.n; within = omega (arith, f.within); set = f.set; goes = goes }
  where
    goes : (x : Marked) (ds : List Bool) → bare x ≡ alt (bare p) (bare q) → get_or (positions x ds) (suc f.n) false ≡ true → Rest s x k j
    goes meps ds e set = absurd (let n : 0 ≡ 5 = ap tag e in omega (arith, n))
    goes (mone b0 c0) ds e set = absurd (let n : 1 ≡ 5 = ap tag e in omega (arith, n))
    goes mfirst ds e set = absurd (let n : 2 ≡ 5 = ap tag e in omega (arith, n))
    goes mlast ds e set = absurd (let n : 3 ≡ 5 = ap tag e in omega (arith, n))
    goes (mcat p0 q0) ds e set = absurd (let n : 4 ≡ 5 = ap tag e in omega (arith, n))
    goes (mplus d0 p0) ds e set = absurd (let n : 6 ≡ 5 = ap tag e in omega (arith, n))
    goes (malt p' q') ds e set = inl (f.goes p' (false ∷ positions q' (false ∷ ds)) (ap front_of e) set)

from_second : (s : List ℕ) (p q : Marked) (cs : List Bool) (k j : ℕ) → From s q (false ∷ cs) k j → From s (malt p q) cs k j
from_second s p q cs k j f = record {
  n = suc (code_size (bare p) + suc f.n);
  within = omega (arith, f.within);
  set = position_at p (suc f.n) (false ∷ positions q (false ∷ cs)) ∙ f.set;
  goes = goes;
}
  where
    goes : (x : Marked) (ds : List Bool) → bare x ≡ alt (bare p) (bare q) → get_or (positions x ds) (suc (code_size (bare p) + suc f.n)) false ≡ true → Rest s x k j
    goes meps ds e set = absurd (let n : 0 ≡ 5 = ap tag e in omega (arith, n))
    goes (mone b0 c0) ds e set = absurd (let n : 1 ≡ 5 = ap tag e in omega (arith, n))
    goes mfirst ds e set = absurd (let n : 2 ≡ 5 = ap tag e in omega (arith, n))
    goes mlast ds e set = absurd (let n : 3 ≡ 5 = ap tag e in omega (arith, n))
    goes (mcat p0 q0) ds e set = absurd (let n : 4 ≡ 5 = ap tag e in omega (arith, n))
    goes (mplus d0 p0) ds e set = absurd (let n : 6 ≡ 5 = ap tag e in omega (arith, n))
    goes (malt p' q') ds e set =
        let size = ap code_size (ap front_of e) in
        let rest = false ∷ positions q' (false ∷ ds) in
        inr (f.goes q' (false ∷ ds) (ap behind_of e)
        (sym (position_at p' (suc f.n) rest) ∙ ap (λ i. get_or (positions p' rest) (i + suc f.n) false) size ∙ set))

from_body : (s : List ℕ) (d : Bool) (p : Marked) (cs : List Bool) (k l j : ℕ) → From s p (d ∷ cs) k l → Many (MatchesRe s (bare p)) l j → From s (mplus d p) cs k j
from_body s d p cs k l j f m = record { n = suc f.n; within = omega (arith, f.within); set = f.set; goes = goes }
  where
    goes : (x : Marked) (ds : List Bool) → bare x ≡ plus (bare p) → get_or (positions x ds) (suc f.n) false ≡ true → Rest s x k j
    goes meps ds e set = absurd (let n : 0 ≡ 6 = ap tag e in omega (arith, n))
    goes (mone b0 c0) ds e set = absurd (let n : 1 ≡ 6 = ap tag e in omega (arith, n))
    goes mfirst ds e set = absurd (let n : 2 ≡ 6 = ap tag e in omega (arith, n))
    goes mlast ds e set = absurd (let n : 3 ≡ 6 = ap tag e in omega (arith, n))
    goes (mcat p0 q0) ds e set = absurd (let n : 4 ≡ 6 = ap tag e in omega (arith, n))
    goes (malt p0 q0) ds e set = absurd (let n : 5 ≡ 6 = ap tag e in omega (arith, n))
    goes (mplus d' p') ds e set =
        (l, f.goes p' (d' ∷ ds) (ap front_of e) set, subst (λ r. Many (MatchesRe s r) l j) (sym (ap front_of e)) m)

pub rest_from : (s : List ℕ) (p : Marked) (cs : List Bool) (k j : ℕ) → Rest s p k j → From s p cs k j
rest_from s meps cs k j h = absurd h
rest_from s (mone b c) cs k j h = from_one s b c cs k j h.0 h.1
rest_from s mfirst cs k j h = absurd h
rest_from s mlast cs k j h = absurd h
rest_from s (mcat p q) cs k j (inl h) = from_front s p q cs k h.0 j (rest_from s p (positions q cs) k h.0 h.1) h.2
rest_from s (mcat p q) cs k j (inr h) = from_behind s p q cs k j (rest_from s q cs k j h)
rest_from s (malt p q) cs k j (inl h) = from_first s p q cs k j (rest_from s p (false ∷ positions q (false ∷ cs)) k j h)
rest_from s (malt p q) cs k j (inr h) = from_second s p q cs k j (rest_from s q (false ∷ cs) k j h)
rest_from s (mplus d p) cs k j h = from_body s d p cs k h.0 j (rest_from s p (d ∷ cs) k h.0 h.1) h.2

module _ (s : List ℕ) (t : Tree) (from : ℕ → Bool) (k : ℕ) (cs : List Bool) (runs : Runs s t from k cs) where
  -- what doesn't go on from any position doesn't go on
  pub failed : ((n j : ℕ) → get_or cs n false ≡ true → GoesOn s t k n j → ⊥) → NoneGoesOn s t from k
  failed none i j f lt le m =
      let here = rest_from s runs.0 [] k j (runs.1.complete i j f lt le (desugar_to s t i j m)) in
      none here.n j (subst (λ l. get_or l here.n false ≡ true) (sym runs.2) here.set) (λ q e set. here.goes q [] (e ∙ sym runs.1.same) set)

  -- behind the last end nothing goes on from any position
  pub fails : IsOrdered t → (end : ℕ) → NoneEndsBehind t s from end → end < k → (n j : ℕ) → get_or cs n false ≡ true → GoesOn s t k n j → ⊥
  fails ordered end none past n j set goes =
      let rest = goes runs.0 runs.1.same (subst (λ l. get_or l n false ≡ true) runs.2 set) in
      let m = runs.1.sound j rest in
      omega (arith, past, rest_le s runs.0 k j rest, none m.0 j m.1 (desugar_from s t m.0 j ordered m.3))

-- where none goes on, nothing more is found
last_failed : (t : Tree) (s : List ℕ) (from : ℕ → Bool) (k n : ℕ) (b : Option ℕ) → ((i : ℕ) → from i ≡ true → i < k) → NoneGoesOn s t from k → LastEnd t s from k b → LastEnd t s from n b
last_failed t s from k n None begun none l = λ i j f lt m. ⊎_elim (λ below. l i j f below m) (λ ge. none i j f (begun i f) ge m) (cases_lt j k)
last_failed t s from k n (Some e) begun none l =
    (l.0, λ i j f lt m. ⊎_elim (λ below. l.1 i j f below m) (λ ge. absurd (none i j f (begun i f) ge m)) (cases_lt j k))

pub end_failed : (early : Bool) (t : Tree) (s : List ℕ) (low high k : ℕ) (b : Option ℕ) → high < k → NoneGoesOn s t (between low high) k → LastEnd t s (between low high) k b → EndsBetween early t s low high b
end_failed early t s low high k b past none l = (
  length s + 1,
  last_failed t s (between low high) k (length s + 1) b (λ i f. let le = leb-true i high (and_parts _ _ f).1 in omega (arith, le, past)) none l,
  λ le. absurd (omega (arith, le)),
)

-- the longest match that begins at a place ends last
pub longest_last : (t : Tree) (s : List ℕ) (from end : ℕ) (b : Option ℕ) → ((e : ℕ) → b ≡ Some e → e ≤ end) → Longest t s from b → NoneEndsBehind t s (between from from) end
longest_last t s from end None le h i j f m =
    let p = and_parts _ _ f in
    let same : i ≡ from = omega (arith, leb-true from i p.0, leb-true i from p.1) in
    absurd (h j (subst (λ a. Matches s t a j) same m))
longest_last t s from end (Some e) le h i j f m =
    let p = and_parts _ _ f in
    let same : i ≡ from = omega (arith, leb-true from i p.0, leb-true i from p.1) in
    omega (arith, h.1 j (subst (λ a. Matches s t a j) same m), le e refl)

-- where none begins, none ends
pub none_last : (t : Tree) (s : List ℕ) (low high end : ℕ) → (OccursBetween t s low high → ⊥) → NoneEndsBehind t s (between low high) end
none_last t s low high end none i j f m =
    let p = and_parts _ _ f in
    absurd (none (i, j, leb-true low i p.0, leb-true i high p.1, m))
