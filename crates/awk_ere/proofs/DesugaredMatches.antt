-- The pattern without counts matches what the tree matches.
use Rattle.std.proofs.Common.{◌≡◌, ℕ, zero, suc, ◌+◌, ◌-◌, ◌≤◌, ◌⊎◌, List, refl, sym, subst, inl, inr, ⊎_elim, arith}
use Rattle.awk_ere.specs.definitions.Tree.{Count, star, some, option, exactly, at_least, between, Tree, empty, class, start, end, pieces, branches, repeat, Row, none, next, Allowed, Times, Matches, MatchesAll, MatchesOne}
use Rattle.awk_ere.specs.definitions.Desugared.{Re, eps, alt, plus, Many, MatchesRe, copies, up_to, repeated, desugar, desugar_all, desugar_one, IsCount, IsOrdered, AreOrdered}

times_map : (R Q : ℕ → ℕ → Type 0) → ((i j : ℕ) → R i j → Q i j) → (n i j : ℕ) → Times R n i j → Times Q n i j
times_map R Q f zero i j e = e
times_map R Q f (suc n) i j t = (t.0, f i t.0 t.1, times_map R Q f n t.0 j t.2)

times_join : (R : ℕ → ℕ → Type 0) (m n i k j : ℕ) → Times R m i k → Times R n k j → Times R (m + n) i j
times_join R zero n i k j e t =
    let z : n ≡ 0 + n = omega arith in subst (λ l. Times R l i j) z (subst (λ a. Times R n a j) (sym e) t)
times_join R (suc m) n i k j h t =
    let z : suc (m + n) ≡ suc m + n = omega arith in
    subst (λ l. Times R l i j) z (h.0, h.1, times_join R m n h.0 k j h.2 t)

times_split : (R : ℕ → ℕ → Type 0) (m n i j : ℕ) → Times R (m + n) i j → (k : ℕ) × Times R m i k × Times R n k j
times_split R zero n i j t = let z : 0 + n ≡ n = omega arith in (i, refl, subst (λ l. Times R l i j) z t)
times_split R (suc m) n i j t =
    let z : suc m + n ≡ suc (m + n) = omega arith in
    let u = subst (λ l. Times R l i j) z t in
    let v = times_split R m n u.0 j u.2 in
    (v.0, (u.0, u.1, v.1), v.2)

module _ (s : List ℕ) (a : Re) where
  R : ℕ → ℕ → Type 0
  R = MatchesRe s a

  copies_to : (n i j : ℕ) → Times (MatchesRe s a) n i j → MatchesRe s (copies n a) i j
  copies_to zero i j e = e
  copies_to (suc n) i j t = (t.0, t.1, copies_to n t.0 j t.2)

  copies_from : (n i j : ℕ) → MatchesRe s (copies n a) i j → Times (MatchesRe s a) n i j
  copies_from zero i j e = e
  copies_from (suc n) i j t = (t.0, t.1, copies_from n t.0 j t.2)

  up_to_to : (k n i j : ℕ) → n ≤ k → Times (MatchesRe s a) n i j → MatchesRe s (up_to k a) i j
  up_to_to zero zero i j le e = e
  up_to_to zero (suc n) i j le t = absurd (omega (arith, le))
  up_to_to (suc k) zero i j le e = inr e
  up_to_to (suc k) (suc n) i j le t = inl (t.0, t.1, up_to_to k n t.0 j (omega (arith, le)) t.2)

  up_to_from : (k i j : ℕ) → MatchesRe s (up_to k a) i j → (n : ℕ) × (n ≤ k) × Times (MatchesRe s a) n i j
  up_to_from zero i j e = (0, omega arith, e)
  up_to_from (suc k) i j h =
      ⊎_elim (λ t. let u = up_to_from k t.0 j t.2 in (suc u.0, omega (arith, u.1), (t.0, t.1, u.2))) (λ e. (0, omega arith, e)) h

  star_to : (n i j : ℕ) → Times (MatchesRe s a) n i j → MatchesRe s (alt (plus a) eps) i j
  star_to zero i j e = inr e
  star_to (suc n) i j t = inl (t.0, t.1, (n, t.2))

  star_from : (i j : ℕ) → MatchesRe s (alt (plus a) eps) i j → Many (MatchesRe s a) i j
  star_from i j h = ⊎_elim (λ t. (suc t.2.0, (t.0, t.1, t.2.1))) (λ e. (0, e)) h

  repeated_to : (c : Count) (n i j : ℕ) → Allowed c n → Times (MatchesRe s a) n i j → MatchesRe s (repeated c a) i j
  repeated_to star n i j h t = star_to n i j t
  repeated_to some zero i j h t = absurd (omega (arith, h))
  repeated_to some (suc n) i j h t = (t.0, t.1, (n, t.2))
  repeated_to option zero i j h t = inr t
  repeated_to option (suc n) i j h t =
      let z : n ≡ 0 = omega (arith, h) in
      let e : t.0 ≡ j = subst (λ m. Times (MatchesRe s a) m t.0 j) z t.2 in
      inl (subst (λ k. MatchesRe s a i k) e t.1)
  repeated_to (exactly m) n i j h t = copies_to m i j (subst (λ k. Times (MatchesRe s a) k i j) h t)
  repeated_to (at_least m) n i j h t =
      let z : n ≡ m + (n - m) = omega (arith, h) in
      let u = times_split (MatchesRe s a) m (n - m) i j (subst (λ k. Times (MatchesRe s a) k i j) z t) in
      (u.0, copies_to m i u.0 u.1, star_to (n - m) u.0 j u.2)
  repeated_to (between m k) n i j h t =
      let z : n ≡ m + (n - m) = omega (arith, h.0) in
      let le : n - m ≤ k - m = omega (arith, h.0, h.1) in
      let u = times_split (MatchesRe s a) m (n - m) i j (subst (λ l. Times (MatchesRe s a) l i j) z t) in
      (u.0, copies_to m i u.0 u.1, up_to_to (k - m) (n - m) u.0 j le u.2)

  repeated_from : (c : Count) (i j : ℕ) → IsCount c → MatchesRe s (repeated c a) i j → (n : ℕ) × Allowed c n × Times (MatchesRe s a) n i j
  repeated_from star i j h m = let t = star_from i j m in (t.0, tt, t.1)
  repeated_from some i j h m = (suc m.2.0, omega arith, (m.0, m.1, m.2.1))
  repeated_from option i j h m = ⊎_elim (λ x. (1, omega arith, (j, x, refl))) (λ e. (0, omega arith, e)) m
  repeated_from (exactly n) i j h m = (n, refl, copies_from n i j m)
  repeated_from (at_least n) i j h m =
      let t = star_from m.0 j m.2 in
      (n + t.0, omega arith, times_join (MatchesRe s a) n t.0 i m.0 j (copies_from n i m.0 m.1) t.1)
  repeated_from (between n k) i j h m =
      let t = up_to_from (k - n) m.0 j m.2 in
      (n + t.0, (omega arith, omega (arith, h, t.1)), times_join (MatchesRe s a) n t.0 i m.0 j (copies_from n i m.0 m.1) t.2)

mutual
  pub desugar_to : (s : List ℕ) (t : Tree) (i j : ℕ) → Matches s t i j → MatchesRe s (desugar t) i j
  desugar_to s empty i j m = m
  desugar_to s (class c) i j m = m
  desugar_to s start i j m = m
  desugar_to s end i j m = m
  desugar_to s (pieces t row) i j m = (m.0, desugar_to s t i m.0 m.1, all_to s row m.0 j m.2)
  desugar_to s (branches t row) i j m =
      one_to s row (desugar t) i j (⊎_elim (λ x. inl (desugar_to s t i j x)) (λ x. inr x) m)
  desugar_to s (repeat t c) i j m =
      repeated_to s (desugar t) c m.0 i j m.1 (times_map (Matches s t) (MatchesRe s (desugar t)) (desugar_to s t) m.0 i j m.2)

  all_to : (s : List ℕ) (row : Row) (i j : ℕ) → MatchesAll s row i j → MatchesRe s (desugar_all row) i j
  all_to s none i j m = m
  all_to s (next t row) i j m = (m.0, desugar_to s t i m.0 m.1, all_to s row m.0 j m.2)

  one_to : (s : List ℕ) (row : Row) (a : Re) (i j : ℕ) → MatchesRe s a i j ⊎ MatchesOne s row i j → MatchesRe s (desugar_one a row) i j
  one_to s none a i j m = ⊎_elim (λ x. x) (λ x. absurd x) m
  one_to s (next t row) a i j m =
      ⊎_elim (λ x. inl x) (λ x. inr (one_to s row (desugar t) i j (⊎_elim (λ y. inl (desugar_to s t i j y)) (λ y. inr y) x))) m

mutual
  pub desugar_from : (s : List ℕ) (t : Tree) (i j : ℕ) → IsOrdered t → MatchesRe s (desugar t) i j → Matches s t i j
  desugar_from s empty i j o m = m
  desugar_from s (class c) i j o m = m
  desugar_from s start i j o m = m
  desugar_from s end i j o m = m
  desugar_from s (pieces t row) i j o m = (m.0, desugar_from s t i m.0 o.0 m.1, all_from s row m.0 j o.1 m.2)
  desugar_from s (branches t row) i j o m =
      ⊎_elim (λ x. inl (desugar_from s t i j o.0 x)) (λ x. inr x) (one_from s row (desugar t) i j o.1 m)
  desugar_from s (repeat t c) i j o m =
      let u = repeated_from s (desugar t) c i j o.1 m in
      (u.0, u.1, times_map (MatchesRe s (desugar t)) (Matches s t) (λ a b. desugar_from s t a b o.0) u.0 i j u.2)

  all_from : (s : List ℕ) (row : Row) (i j : ℕ) → AreOrdered row → MatchesRe s (desugar_all row) i j → MatchesAll s row i j
  all_from s none i j o m = m
  all_from s (next t row) i j o m = (m.0, desugar_from s t i m.0 o.0 m.1, all_from s row m.0 j o.1 m.2)

  one_from : (s : List ℕ) (row : Row) (a : Re) (i j : ℕ) → AreOrdered row → MatchesRe s (desugar_one a row) i j → MatchesRe s a i j ⊎ MatchesOne s row i j
  one_from s none a i j o m = inl m
  one_from s (next t row) a i j o m =
      ⊎_elim (λ x. inl x) (λ x. inr (⊎_elim (λ y. inl (desugar_from s t i j o.0 y)) (λ y. inr y) (one_from s row (desugar t) i j o.1 x))) m
