-- What a step does, in terms of matches.
use Rattle.std.proofs.Common.{◌≡◌, ℕ, zero, suc, ◌<◌, ◌≤◌, List, length, Some, Bool, true, false, ◌||◌, ◌⊎◌, refl, sym, ap, ◌∙◌, subst, inl, inr, ⊎_elim, arith}
use Rattle.std.specs.Prelude.{slice_get}
use Rattle.std.proofs.lemmas.Option.{same_Some}
use Rattle.std.proofs.lemmas.Bool.{cases_lt, and_parts, and_from, or_cases, or_left, or_right, false≢true}
use Rattle.awk_ere.specs.definitions.Tree.{has, Times}
use Rattle.awk_ere.specs.definitions.Desugared.{Re, eps, one, first, last, cat, alt, plus, Many, MatchesRe}
use Rattle.awk_ere.specs.support.Marked.{Marked, meps, mone, mfirst, mlast, mcat, malt, mplus, bare, flow, step, fresh, IsFlagged, Rest}

-- a match doesn't go back
times_le : (R : ℕ → ℕ → Type 0) → ((i j : ℕ) → R i j → i ≤ j) → (n i j : ℕ) → Times R n i j → i ≤ j
times_le R h zero i j e = omega (arith, e)
times_le R h (suc n) i j t = let a = h i t.0 t.1 in let b = times_le R h n t.0 j t.2 in omega (arith, a, b)

pub matches_le : (s : List ℕ) (r : Re) (i j : ℕ) → MatchesRe s r i j → i ≤ j
matches_le s eps i j e = omega (arith, e)
matches_le s (one c) i j m = omega (arith, m.3)
matches_le s first i j m = omega (arith, m.0, m.1)
matches_le s last i j m = omega (arith, m.0, m.1)
matches_le s (cat a b) i j m =
    let x = matches_le s a i m.0 m.1 in let y = matches_le s b m.0 j m.2 in omega (arith, x, y)
matches_le s (alt a b) i j m = ⊎_elim (matches_le s a i j) (matches_le s b i j) m
matches_le s (plus a) i j m =
    let x = matches_le s a i m.0 m.1 in let y = times_le (MatchesRe s a) (matches_le s a) m.2.0 m.0 j m.2.1 in omega (arith, x, y)

many_le : (s : List ℕ) (r : Re) (i j : ℕ) → Many (MatchesRe s r) i j → i ≤ j
many_le s r i j m = times_le (MatchesRe s r) (matches_le s r) m.0 i j m.1

pub rest_le : (s : List ℕ) (p : Marked) (k j : ℕ) → Rest s p k j → k ≤ j
rest_le s meps k j r = absurd r
rest_le s (mone b c) k j r = omega (arith, r.1)
rest_le s mfirst k j r = absurd r
rest_le s mlast k j r = absurd r
rest_le s (mcat p q) k j r =
    ⊎_elim (λ h. let x = rest_le s p k h.0 h.1 in let y = matches_le s (bare q) h.0 j h.2 in omega (arith, x, y)) (rest_le s q k j) r
rest_le s (malt p q) k j r = ⊎_elim (rest_le s p k j) (rest_le s q k j) r
rest_le s (mplus d p) k j r =
    let x = rest_le s p k r.0 r.1 in let y = many_le s (bare p) r.0 j r.2 in omega (arith, x, y)

-- the first round that reads a byte
progress : (R : ℕ → ℕ → Type 0) → ((i j : ℕ) → R i j → i ≤ j) → (n i j : ℕ) → Times R n i j → i < j → (l : ℕ) × R i l × (i < l) × Many R l j
progress R h zero i j e lt = absurd (omega (arith, e, lt))
progress R h (suc n) i j t lt =
    ⊎_elim
    (λ far. (t.0, t.1, far, (n, t.2)))
    (λ near. let le = h i t.0 t.1 in let e : t.0 ≡ i = omega arith in progress R h n i j (subst (λ a. Times R n a j) e t.2) lt)
    (cases_lt i t.0)

-- no round, or only such as read nothing
stay : (R : ℕ → ℕ → Type 0) → (i : ℕ) → Many R i i
stay R i = (0, refl)

more : (R : ℕ → ℕ → Type 0) → (i k j : ℕ) → R i k → Many R k j → Many R i j
more R i k j r m = (suc m.0, (k, r, m.1))

module _ (s : List ℕ) where
  pub bare_step : (st en : Bool) (x : ℕ) (m g : Bool) (p : Marked) → bare (step st en x m g p) ≡ bare p
  bare_step st en x m g meps = refl
  bare_step st en x m g (mone b c) = refl
  bare_step st en x m g mfirst = refl
  bare_step st en x m g mlast = refl
  bare_step st en x m g (mcat p q) =
      ap (λ a. cat a (bare (step st en x (flow st en m p) (flow false false g (step st en x m g p)) q))) (bare_step st en x m g p)
      ∙ ap (cat (bare p)) (bare_step st en x (flow st en m p) (flow false false g (step st en x m g p)) q)
  bare_step st en x m g (malt p q) =
      ap (λ a. alt a (bare (step st en x m g q))) (bare_step st en x m g p)
      ∙ ap (alt (bare p)) (bare_step st en x m g q)
  bare_step st en x m g (mplus d p) = ap plus (bare_step st en x (m || d) g p)

  -- what flow says
  pub flow_sound : (st en m : Bool) (k : ℕ) → (st ≡ true → k ≡ 0) → (en ≡ true → k ≡ length s) → (p : Marked) → flow st en m p ≡ true → Rest s p k k ⊎ ((m ≡ true) × MatchesRe s (bare p) k k)
  flow_sound st en m k h1 h2 meps f = inr (f, refl)
  flow_sound st en m k h1 h2 (mone b c) f = inl (f, refl)
  flow_sound st en m k h1 h2 mfirst f = let a = and_parts m st f in inr (a.0, (h1 a.1, h1 a.1))
  flow_sound st en m k h1 h2 mlast f = let a = and_parts m en f in inr (a.0, (h2 a.1, h2 a.1))
  flow_sound st en m k h1 h2 (mcat p q) f =
      ⊎_elim (λ r. inl (inr r))
      (λ h. ⊎_elim (λ r. inl (inl (k, r, h.1))) (λ h'. inr (h'.0, (k, h'.1, h.1))) (flow_sound st en m k h1 h2 p h.0))
      (flow_sound st en (flow st en m p) k h1 h2 q f)
  flow_sound st en m k h1 h2 (malt p q) f =
      ⊎_elim
      (λ fp. ⊎_elim (λ r. inl (inl r)) (λ h. inr (h.0, inl h.1)) (flow_sound st en m k h1 h2 p fp))
      (λ fq. ⊎_elim (λ r. inl (inr r)) (λ h. inr (h.0, inr h.1)) (flow_sound st en m k h1 h2 q fq))
      (or_cases (flow st en m p) (flow st en m q) f)
  flow_sound st en m k h1 h2 (mplus d p) f =
      ⊎_elim (λ r. inl (k, r, stay (MatchesRe s (bare p)) k)) (λ h. inr (h.0, (k, h.1, stay (MatchesRe s (bare p)) k))) (flow_sound st en m k h1 h2 p f)

  -- flow finds what stands here
  pub flow_enters : (st en : Bool) (k : ℕ) → (k ≡ 0 → st ≡ true) → (k ≡ length s → en ≡ true) → (m : Bool) (p : Marked) → m ≡ true → MatchesRe s (bare p) k k → flow st en m p ≡ true
  flow_enters st en k h1 h2 m meps e h = e
  flow_enters st en k h1 h2 m (mone b c) e h = absurd (omega (arith, h.3))
  flow_enters st en k h1 h2 m mfirst e h = and_from m st e (h1 h.0)
  flow_enters st en k h1 h2 m mlast e h = and_from m en e (h2 h.0)
  flow_enters st en k h1 h2 m (mcat p q) e h =
      let le1 = matches_le s (bare p) k h.0 h.1 in
      let le2 = matches_le s (bare q) h.0 k h.2 in
      let same : h.0 ≡ k = omega arith in
      flow_enters st en k h1 h2 (flow st en m p) q
      (flow_enters st en k h1 h2 m p e (subst (λ l. MatchesRe s (bare p) k l) same h.1))
      (subst (λ l. MatchesRe s (bare q) l k) same h.2)
  flow_enters st en k h1 h2 m (malt p q) e h =
      ⊎_elim (λ a. or_left (flow st en m p) (flow st en m q) (flow_enters st en k h1 h2 m p e a))
      (λ a. or_right (flow st en m p) (flow st en m q) (flow_enters st en k h1 h2 m q e a)) h
  flow_enters st en k h1 h2 m (mplus d p) e h =
      let le1 = matches_le s (bare p) k h.0 h.1 in
      let le2 = many_le s (bare p) h.0 k h.2 in
      let same : h.0 ≡ k = omega arith in
      flow_enters st en k h1 h2 m p e (subst (λ l. MatchesRe s (bare p) k l) same h.1)

  pub flow_position_set : (st en : Bool) (k : ℕ) → (k ≡ 0 → st ≡ true) → (k ≡ length s → en ≡ true) → (m : Bool) (p : Marked) → Rest s p k k → flow st en m p ≡ true
  flow_position_set st en k h1 h2 m meps r = absurd r
  flow_position_set st en k h1 h2 m (mone b c) r = r.0
  flow_position_set st en k h1 h2 m mfirst r = absurd r
  flow_position_set st en k h1 h2 m mlast r = absurd r
  flow_position_set st en k h1 h2 m (mcat p q) r =
      ⊎_elim
      (λ h.
      let le1 = rest_le s p k h.0 h.1 in
      let le2 = matches_le s (bare q) h.0 k h.2 in
      let same : h.0 ≡ k = omega arith in
      flow_enters st en k h1 h2 (flow st en m p) q
      (flow_position_set st en k h1 h2 m p (subst (λ l. Rest s p k l) same h.1))
      (subst (λ l. MatchesRe s (bare q) l k) same h.2))
      (flow_position_set st en k h1 h2 (flow st en m p) q) r
  flow_position_set st en k h1 h2 m (malt p q) r =
      ⊎_elim (λ a. or_left (flow st en m p) (flow st en m q) (flow_position_set st en k h1 h2 m p a))
      (λ a. or_right (flow st en m p) (flow st en m q) (flow_position_set st en k h1 h2 m q a)) r
  flow_position_set st en k h1 h2 m (mplus d p) r =
      let le1 = rest_le s p k r.0 r.1 in
      let le2 = many_le s (bare p) r.0 k r.2 in
      let same : r.0 ≡ k = omega arith in
      flow_position_set st en k h1 h2 m p (subst (λ l. Rest s p k l) same r.1)

  pub flow_mono : (st en en' : Bool) → (en ≡ true → en' ≡ true) → (u m : Bool) → (u ≡ true → m ≡ true) → (p : Marked) → flow st en u p ≡ true → flow st en' m p ≡ true
  flow_mono st en en' ee u m le meps f = le f
  flow_mono st en en' ee u m le (mone b c) f = f
  flow_mono st en en' ee u m le mfirst f = let a = and_parts u st f in and_from m st (le a.0) a.1
  flow_mono st en en' ee u m le mlast f = let a = and_parts u en f in and_from m en' (le a.0) (ee a.1)
  flow_mono st en en' ee u m le (mcat p q) f =
      flow_mono st en en' ee (flow st en u p) (flow st en' m p) (flow_mono st en en' ee u m le p) q f
  flow_mono st en en' ee u m le (malt p q) f =
      ⊎_elim (λ a. or_left (flow st en' m p) (flow st en' m q) (flow_mono st en en' ee u m le p a))
      (λ a. or_right (flow st en' m p) (flow st en' m q) (flow_mono st en en' ee u m le q a))
      (or_cases (flow st en u p) (flow st en u q) f)
  flow_mono st en en' ee u m le (mplus d p) f = flow_mono st en en' ee u m le p f

  module _ (k x : ℕ) (st : Bool) (here : slice_get s k ≡ Some x) (within : k < length s) (at0 : k ≡ 0 → st ≡ true) (only0 : st ≡ true → k ≡ 0) where
    not_end : false ≡ true → k ≡ length s
    not_end e = absurd (false≢true e)

    at_end : k ≡ length s → false ≡ true
    at_end e = absurd (omega (arith, e, within))

    pub step_sound : (m g u : Bool) (p : Marked) → (u ≡ true → m ≡ true) → IsFlagged st u p → (j : ℕ) → Rest s (step st false x m g p) (suc k) j → Rest s p k j ⊎ ((m ≡ true) × MatchesRe s (bare p) k j)
    step_sound m g u meps le ok j r = absurd r
    step_sound m g u (mone b c) le ok j r = let a = and_parts m (has c x) r.0 in inr (a.0, (x, here, a.1, sym r.1))
    step_sound m g u mfirst le ok j r = absurd r
    step_sound m g u mlast le ok j r = absurd r
    step_sound m g u (mcat p q) le ok j r =
        let m' = flow st false m p in
        let g' = flow false false g (step st false x m g p) in
        ⊎_elim
        (λ h.
        let mq = subst (λ a. MatchesRe s a h.0 j) (bare_step st false x m' g' q) h.2 in
        ⊎_elim (λ a. inl (inl (h.0, a, mq))) (λ a. inr (a.0, (h.0, a.1, mq))) (step_sound m g u p le ok.0 h.0 h.1))
        (λ h.
        ⊎_elim (λ a. inl (inr a))
        (λ a. ⊎_elim (λ b. inl (inl (k, b, a.1))) (λ b. inr (b.0, (k, b.1, a.1))) (flow_sound st false m k only0 not_end p a.0))
        (step_sound m' g' (flow st false u p) q (flow_mono st false false (λ e. e) u m le p) ok.1 j h))
        r
    step_sound m g u (malt p q) le ok j r =
        ⊎_elim
        (λ h. ⊎_elim (λ a. inl (inl a)) (λ a. inr (a.0, inl a.1)) (step_sound m g u p le ok.0 j h))
        (λ h. ⊎_elim (λ a. inl (inr a)) (λ a. inr (a.0, inr a.1)) (step_sound m g u q le ok.1 j h))
        r
    step_sound m g u (mplus d p) le ok j r =
        let many = subst (λ a. Many (MatchesRe s a) r.0 j) (bare_step st false x (m || d) g p) r.2 in
        ⊎_elim (λ a. inl (r.0, a, many))
        (λ a.
        ⊎_elim (λ b. inr (b, (r.0, a.1, many)))
        (λ b.
        ⊎_elim (λ c. inl (k, c, more (MatchesRe s (bare p)) k r.0 j a.1 many)) (λ c. inr (le c.0, (r.0, a.1, many)))
        (flow_sound st false u k only0 not_end p (sym ok.0 ∙ b)))
        (or_cases m d a.0))
        (step_sound (m || d) g u p (λ e. or_left m d (le e)) ok.1 r.0 r.1)

    pub step_enters : (m g : Bool) (p : Marked) (j : ℕ) → m ≡ true → MatchesRe s (bare p) k j → k < j → Rest s (step st false x m g p) (suc k) j
    step_enters m g meps j e h lt = absurd (omega (arith, h, lt))
    step_enters m g (mone b c) j e h lt =
        let same : x ≡ h.0 = same_Some x h.0 (sym here ∙ h.1) in
        (and_from m (has c x) e (ap (has c) same ∙ h.2), sym h.3)
    step_enters m g mfirst j e h lt = absurd (omega (arith, h.1, lt))
    step_enters m g mlast j e h lt = absurd (omega (arith, h.0, h.1, lt))
    step_enters m g (mcat p q) j e h lt =
        let m' = flow st false m p in
        let g' = flow false false g (step st false x m g p) in
        let le = matches_le s (bare p) k h.0 h.1 in
        ⊎_elim
        (λ far. inl (h.0, step_enters m g p h.0 e h.1 far, subst (λ a. MatchesRe s a h.0 j) (sym (bare_step st false x m' g' q)) h.2))
        (λ near.
        let same : h.0 ≡ k = omega arith in
        inr (step_enters m' g' q j
        (flow_enters st false k at0 at_end m p e (subst (λ l. MatchesRe s (bare p) k l) same h.1))
        (subst (λ l. MatchesRe s (bare q) l j) same h.2) lt))
        (cases_lt k h.0)
    step_enters m g (malt p q) j e h lt =
        ⊎_elim (λ a. inl (step_enters m g p j e a lt)) (λ a. inr (step_enters m g q j e a lt)) h
    step_enters m g (mplus d p) j e h lt =
        let a = progress (MatchesRe s (bare p)) (matches_le s (bare p)) (suc h.2.0) k j (h.0, h.1, h.2.1) lt in
        (a.0, step_enters (m || d) g p a.0 (or_left m d e) a.1 a.2, subst (λ r. Many (MatchesRe s r) a.0 j) (sym (bare_step st false x (m || d) g p)) a.3)

    pub step_moves : (m g u : Bool) (p : Marked) (j : ℕ) → IsFlagged st u p → Rest s p k j → k < j → Rest s (step st false x m g p) (suc k) j
    step_moves m g u meps j ok r lt = absurd r
    step_moves m g u (mone b c) j ok r lt = absurd (omega (arith, r.1, lt))
    step_moves m g u mfirst j ok r lt = absurd r
    step_moves m g u mlast j ok r lt = absurd r
    step_moves m g u (mcat p q) j ok r lt =
        let m' = flow st false m p in
        let g' = flow false false g (step st false x m g p) in
        ⊎_elim
        (λ h.
        let le = rest_le s p k h.0 h.1 in
        ⊎_elim
        (λ far. inl (h.0, step_moves m g u p h.0 ok.0 h.1 far, subst (λ a. MatchesRe s a h.0 j) (sym (bare_step st false x m' g' q)) h.2))
        (λ near.
        let same : h.0 ≡ k = omega arith in
        inr (step_enters m' g' q j
        (flow_position_set st false k at0 at_end m p (subst (λ l. Rest s p k l) same h.1))
        (subst (λ l. MatchesRe s (bare q) l j) same h.2) lt))
        (cases_lt k h.0))
        (λ h. inr (step_moves m' g' (flow st false u p) q j ok.1 h lt))
        r
    step_moves m g u (malt p q) j ok r lt =
        ⊎_elim (λ a. inl (step_moves m g u p j ok.0 a lt)) (λ a. inr (step_moves m g u q j ok.1 a lt)) r
    step_moves m g u (mplus d p) j ok r lt =
        let le = rest_le s p k r.0 r.1 in
        let back = λ (l : ℕ). subst (λ a. Many (MatchesRe s a) l j) (sym (bare_step st false x (m || d) g p)) in
        ⊎_elim
        (λ far. (r.0, step_moves (m || d) g u p r.0 ok.1 r.1 far, back r.0 r.2))
        (λ near.
        let same : r.0 ≡ k = omega arith in
        let full = ok.0 ∙ flow_position_set st false k at0 at_end u p (subst (λ l. Rest s p k l) same r.1) in
        let a = progress (MatchesRe s (bare p)) (matches_le s (bare p)) r.2.0 k j (subst (λ l. Times (MatchesRe s (bare p)) r.2.0 l j) same r.2.1) lt in
        (a.0, step_enters (m || d) g p a.0 (or_right m d full) a.1 a.2, back a.0 a.3))
        (cases_lt k r.0)

-- a step keeps what each repeat knows
pub flagged_step : (st en : Bool) (x : ℕ) (m g : Bool) (p : Marked) → IsFlagged false g (step st en x m g p)
flagged_step st en x m g meps = tt
flagged_step st en x m g (mone b c) = tt
flagged_step st en x m g mfirst = tt
flagged_step st en x m g mlast = tt
flagged_step st en x m g (mcat p q) =
    (flagged_step st en x m g p, flagged_step st en x (flow st en m p) (flow false false g (step st en x m g p)) q)
flagged_step st en x m g (malt p q) = (flagged_step st en x m g p, flagged_step st en x m g q)
flagged_step st en x m g (mplus d p) = (refl, flagged_step st en x (m || d) g p)

pub flow_fresh : (st en : Bool) (r : Re) → flow st en false (fresh r) ≡ false
flow_fresh st en eps = refl
flow_fresh st en (one c) = refl
flow_fresh st en first = refl
flow_fresh st en last = refl
flow_fresh st en (cat a b) = ap (λ m. flow st en m (fresh b)) (flow_fresh st en a) ∙ flow_fresh st en b
flow_fresh st en (alt a b) = ap (λ m. m || flow st en false (fresh b)) (flow_fresh st en a) ∙ flow_fresh st en b
flow_fresh st en (plus a) = flow_fresh st en a

pub bare_fresh : (r : Re) → bare (fresh r) ≡ r
bare_fresh eps = refl
bare_fresh (one c) = refl
bare_fresh first = refl
bare_fresh last = refl
bare_fresh (cat a b) = ap (λ p. cat p (bare (fresh b))) (bare_fresh a) ∙ ap (cat a) (bare_fresh b)
bare_fresh (alt a b) = ap (λ p. alt p (bare (fresh b))) (bare_fresh a) ∙ ap (alt a) (bare_fresh b)
bare_fresh (plus a) = ap plus (bare_fresh a)

pub rest_fresh : (s : List ℕ) (r : Re) (k j : ℕ) → Rest s (fresh r) k j → ⊥
rest_fresh s eps k j h = h
rest_fresh s (one c) k j h = false≢true h.0
rest_fresh s first k j h = h
rest_fresh s last k j h = h
rest_fresh s (cat a b) k j h = ⊎_elim (λ l. rest_fresh s a k l.0 l.1) (rest_fresh s b k j) h
rest_fresh s (alt a b) k j h = ⊎_elim (rest_fresh s a k j) (rest_fresh s b k j) h
rest_fresh s (plus a) k j h = rest_fresh s a k h.0 h.1

pub flagged_fresh : (st : Bool) (r : Re) → IsFlagged st false (fresh r)
flagged_fresh st eps = tt
flagged_fresh st (one c) = tt
flagged_fresh st first = tt
flagged_fresh st last = tt
flagged_fresh st (cat a b) = (flagged_fresh st a, subst (λ u. IsFlagged st u (fresh b)) (sym (flow_fresh st false a)) (flagged_fresh st b))
flagged_fresh st (alt a b) = (flagged_fresh st a, flagged_fresh st b)
flagged_fresh st (plus a) = (sym (flow_fresh st false a), flagged_fresh st a)

-- where nothing enters, no mark is made
pub step_fresh : (st en : Bool) (x : ℕ) (r : Re) → step st en x false false (fresh r) ≡ fresh r
step_fresh st en x eps = refl
step_fresh st en x (one c) = refl
step_fresh st en x first = refl
step_fresh st en x last = refl
step_fresh st en x (cat a b) =
    ap (λ p. mcat p (step st en x (flow st en false (fresh a)) (flow false false false p) (fresh b))) (step_fresh st en x a)
    ∙ ap (λ m. mcat (fresh a) (step st en x m (flow false false false (fresh a)) (fresh b))) (flow_fresh st en a)
    ∙ ap (λ g. mcat (fresh a) (step st en x false g (fresh b))) (flow_fresh false false a)
    ∙ ap (mcat (fresh a)) (step_fresh st en x b)
step_fresh st en x (alt a b) =
    ap (λ p. malt p (step st en x false false (fresh b))) (step_fresh st en x a) ∙ ap (malt (fresh a)) (step_fresh st en x b)
step_fresh st en x (plus a) =
    ap (λ p. mplus (flow false false false p) p) (step_fresh st en x a) ∙ ap (λ d. mplus d (fresh a)) (flow_fresh false false a)
