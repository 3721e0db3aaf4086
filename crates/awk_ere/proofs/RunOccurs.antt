-- The matches of a pattern that is a run of bytes of a class.
use Rattle.std.proofs.Common.{◌≡◌, ℕ, zero, suc, ◌+◌, ◌-◌, ◌<◌, ◌≤◌, List, length, Bool, true, false, Option, Some, None, refl, sym, ap, ◌∙◌, subst, ⊎_elim, arith, get_or}
use Rattle.std.specs.Prelude.{nat_eq, unwrap_or}
use Rattle.std.proofs.lemmas.Bool.{cases_lt, cases_Bool, false≢true, leb-true, le-leb, eqb-true, eq-eqb, and_parts, and_from}
use Rattle.std.proofs.lemmas.Option.{slice_get-get_or, slice_get_within}
use Rattle.awk_ere.specs.definitions.Tree.{Tree, class, repeat, some, Class, has, Matches, Times, Finds}
use Rattle.awk_ere.specs.definitions.Means.{Means}
use Rattle.awk_ere.specs.support.SimulationStep.{leaves, behind, dead_positions}
use Rattle.awk_ere.specs.support.CursorState.{Runs}
use Rattle.awk_ere.specs.support.Found.{between}
use Rattle.awk_ere.specs.support.Run.{IsRunOf, IsFirstRun}
use Rattle.awk_ere.specs.declared.pattern.Pattern.{Pattern}
use Rattle.awk_ere.proofs.StepTellsMatches.{match_le, match_within, at_start, runs_fresh, hit, miss, next}

-- two patterns of one program have the same matches
module _ (s : List ℕ) (p : Pattern) (t u : Tree) (mt : Means t p) (mu : Means u p) where
  both : (i n : ℕ) → i + n ≤ length s → (cs : List Bool) × Runs s t (between i i) (i + n) cs × Runs s u (between i i) (i + n) cs
  both i zero le =
      let none = λ (k : ℕ) (f : between i i k ≡ true) (lt : k < i + 0). let ge = leb-true i k (and_parts _ _ f).0 in absurd (omega (arith, ge, lt)) in
      (dead_positions p, runs_fresh s t p mt (between i i) (i + 0) (dead_positions p) refl none, runs_fresh s u p mu (between i i) (i + 0) (dead_positions p) refl none)
  both i (suc n) le =
      let b = both i n (omega (arith, le)) in
      let k = i + n in
      let x = get_or s k 0 in
      let cs = behind p b.0 (nat_eq k 0) (between i i k) false x in
      let further : k + 1 ≡ i + suc n = omega arith in
      let lt : k < length s = omega (arith, le) in (
        cs,
        subst (λ m. Runs s t (between i i) m cs) further (next s t p mt (between i i) k b.0 b.1 (nat_eq k 0) (between i i k) (at_start k) refl x refl lt),
        subst (λ m. Runs s u (between i i) m cs) further (next s u p mu (between i i) k b.0 b.2 (nat_eq k 0) (between i i k) (at_start k) refl x refl lt),
      )

  same_matches : (i j : ℕ) → i ≤ length s → Matches s t i j → Matches s u i j
  same_matches i j le m =
      let up = match_le s t i j m in
      let within = match_within s t i j m le in
      let b = both i (j - i) (omega (arith, up, within)) in
      let here : i + (j - i) ≡ j = omega (arith, up) in
      let rt = subst (λ k. Runs s t (between i i) k b.0) here b.1 in
      let ru = subst (λ k. Runs s u (between i i) k b.0) here b.2 in
      let en = nat_eq j (length s) in
      let begins : between i i i ≡ true = and_from _ _ (le-leb i i (omega arith)) (le-leb i i (omega arith)) in
      ⊎_elim
      (λ yes.
      let h = hit s u p mu (between i i) j b.0 ru (nat_eq j 0) (between i i j) (at_start j) refl en 0 (eqb-true j (length s)) yes in
      let parts = and_parts _ _ h.1 in
      let same : h.0 ≡ i = omega (arith, leb-true i h.0 parts.0, leb-true h.0 i parts.1) in
      subst (λ a. Matches s u a j) same h.3)
      (λ no. absurd (miss s t p mt (between i i) j b.0 rt (nat_eq j 0) (between i i j) (at_start j) refl en 0 (eq-eqb j (length s)) no i begins up m))
      (cases_Bool (leaves p b.0 (nat_eq j 0) (between i i j) en 0))

-- so many bytes of a class, one behind another
module _ (s : List ℕ) (c : Class) where
  abbrev Inside : ℕ → ℕ → Type 0
  Inside i j = (k : ℕ) → i ≤ k → k < j → (k < length s) × (has c (get_or s k 0) ≡ true)

  times_to : (n i j : ℕ) → Times (Matches s (class c)) n i j → (j ≡ i + n) × Inside i j
  times_to zero i j e = (omega (arith, e), λ k a b. absurd (omega (arith, a, b, e)))
  times_to (suc n) i j m =
      let rest = times_to n m.0 j m.2 in
      let one = m.1 in
      let lt = slice_get_within s i one.0 one.1 in (
        omega (arith, rest.0, one.3),
        λ k a b.
            ⊎_elim (λ past. rest.1 k (omega (arith, past, one.3)) b)
            (λ le.
            let at : i ≡ k = omega (arith, a, le) in
            let byte = ap (λ o. unwrap_or o 0) (sym (slice_get-get_or s i 0 lt) ∙ one.1) in
            (omega (arith, lt, at), subst (λ x. has c (get_or s x 0) ≡ true) at (ap (has c) byte ∙ one.2)))
            (cases_lt i k),
      )

  times_from : (n i : ℕ) → Inside i (i + n) → Times (Matches s (class c)) n i (i + n)
  times_from zero i h = omega arith
  times_from (suc n) i h =
      let first = h i (omega arith) (omega arith) in
      let further : suc i + n ≡ i + suc n = omega arith in
      (suc i, (get_or s i 0, slice_get-get_or s i 0 first.0, first.1, refl), subst (λ j. Times (Matches s (class c)) n (suc i) j) further (times_from n (suc i) (λ k a b. h k (omega (arith, a)) (omega (arith, b)))))

-- a search for the run finds the leftmost match, and of those the longest
module _ (t : Tree) (p : Pattern) (l : Class) (means : Means t p) (run : IsRunOf l p) (s : List ℕ) where
  abbrev whole : Tree
  whole = repeat (class l) some

  whole_means : Means whole p
  whole_means = ((tt, tt), run)

  inside : (i j : ℕ) → i ≤ length s → Matches s t i j → (i < j) × ((k : ℕ) → i ≤ k → k < j → (k < length s) × (has l (get_or s k 0) ≡ true))
  inside i j le m =
      let w = same_matches s p t whole means whole_means i j le m in
      let all = times_to s l w.0 i j w.2 in
      (omega (arith, w.1, all.0), all.1)

  matches : (i j : ℕ) → i < j → j ≤ length s → ((k : ℕ) → i ≤ k → k < j → has l (get_or s k 0) ≡ true) → Matches s t i j
  matches i j lt le h =
      let n = j - i in
      let end : i + n ≡ j = omega (arith, lt) in
      let times = times_from s l n i (λ k a b. (omega (arith, b, end, le), h k a (omega (arith, b, end)))) in
      same_matches s p whole t whole_means means i j (omega (arith, lt, le)) (n, omega (arith, lt), subst (λ e. Times (Matches s (class l)) n i e) end times)

  pub run_finds : (from : ℕ) (r : Option (ℕ × ℕ)) → IsFirstRun l s from r → Finds t s from r
  run_finds from None none = λ i j ge le m.
      let h = inside i j le m in
      let first = h.1 i (omega arith) h.0 in
      false≢true (sym (none i ge first.0) ∙ first.1)
  run_finds from (Some m) r =
      let starts : m.0 ≤ length s = omega (arith, r.1, r.2) in (
        r.0,
        starts,
        (λ i j ge lt mt.
            let h = inside i j (omega (arith, lt, starts)) mt in
            false≢true (sym (r.3 i ge lt) ∙ (h.1 i (omega arith) h.0).1)),
        matches m.0 m.1 r.1 r.2 r.4,
        (λ j mt.
            ⊎_elim
            (λ past. let h = (inside m.0 j starts mt).1 m.1 (omega (arith, r.1)) past in absurd (false≢true (sym (r.5 h.0) ∙ h.1)))
            (λ le. le)
            (cases_lt m.1 j)),
      )
