-- The marks after k bytes stand for the matches that began before.
use Rattle.std.proofs.Common.{◌≡◌, ℕ, suc, ◌<◌, ◌≤◌, List, length, Bool, true, false, Some, refl, sym, ◌∙◌, subst, ⊎_elim, arith}
use Rattle.std.specs.Prelude.{slice_get}
use Rattle.std.proofs.lemmas.Bool.{cases_lt, false≢true}
use Rattle.awk_ere.specs.definitions.Desugared.{Re, MatchesRe}
use Rattle.awk_ere.specs.support.Marked.{Marked, flow, step, fresh, IsFlagged}
use Rattle.awk_ere.specs.support.CursorState.{Starts, Tracks}
use Rattle.awk_ere.proofs.MarkedStep.{bare_step, flow_sound, flow_enters, flow_position_set, step_sound, step_enters, step_moves, flagged_step, flagged_fresh, bare_fresh, rest_fresh}

pub tracks_fresh : (s : List ℕ) (r : Re) (from : ℕ → Bool) (k : ℕ) → ((i : ℕ) → from i ≡ true → i < k → ⊥) → Tracks s r from k (fresh r)
tracks_fresh s r from k none = record {
  same = bare_fresh r;
  flagged = λ st h. flagged_fresh st r;
  sound = λ j h. absurd (rest_fresh s r k j h);
  complete = λ i j f lt le m. absurd (none i f lt);
}

module _ (s : List ℕ) (r : Re) (from : ℕ → Bool) (k : ℕ) (p : Marked) (t : Tracks s r from k p) (st : Bool) (starts : Starts st k) where
  pub leaves_sound : (en : Bool) → (en ≡ true → k ≡ length s) → flow st en (from k) p ≡ true → (i : ℕ) × (from i ≡ true) × (i ≤ k) × MatchesRe s r i k
  leaves_sound en h f =
      ⊎_elim (λ a. let b = t.sound k a in (b.0, b.1, omega (arith, b.2), b.3))
      (λ a. (k, a.0, omega arith, subst (λ q. MatchesRe s q k k) t.same a.1))
      (flow_sound s st en (from k) k starts.0 h p f)

  pub leaves_complete : (en : Bool) → (k ≡ length s → en ≡ true) → (i : ℕ) → from i ≡ true → i ≤ k → MatchesRe s r i k → flow st en (from k) p ≡ true
  leaves_complete en h i f le m =
      ⊎_elim
      (λ far. flow_position_set s st en k starts.1 h (from k) p (t.complete i k f far (omega arith) m))
      (λ near.
      let same : i ≡ k = omega arith in
      flow_enters s st en k starts.1 h (from k) p (subst (λ a. from a ≡ true) same f)
      (subst (λ q. MatchesRe s q k k) (sym t.same) (subst (λ a. MatchesRe s r a k) same m)))
      (cases_lt i k)

  pub tracks_step : (x : ℕ) → slice_get s k ≡ Some x → k < length s → Tracks s r from (suc k) (step st false x (from k) false p)
  tracks_step x here within = record {
    same = bare_step s st false x (from k) false p ∙ t.same;
    flagged = λ st' h. subst (λ b. IsFlagged b false (step st false x (from k) false p)) (sym (later st' h)) (flagged_step st false x (from k) false p);
    sound = λ j a.
        ⊎_elim (λ b. let c = t.sound j b in (c.0, c.1, omega (arith, c.2), c.3))
        (λ b. (k, b.0, omega arith, subst (λ q. MatchesRe s q k j) t.same b.1))
        (step_sound s k x st here within starts.1 starts.0 (from k) false false p (λ e. absurd (false≢true e)) (t.flagged st starts) j a);
    complete = λ i j f lt le m.
        ⊎_elim
        (λ far. step_moves s k x st here within starts.1 starts.0 (from k) false false p j (t.flagged st starts) (t.complete i j f far (omega arith) m) (omega arith))
        (λ near.
        let same : i ≡ k = omega arith in
        step_enters s k x st here within starts.1 starts.0 (from k) false p j (subst (λ a. from a ≡ true) same f)
        (subst (λ q. MatchesRe s q k j) (sym t.same) (subst (λ a. MatchesRe s r a j) same m)) (omega arith))
        (cases_lt i k);
  }
    where
      later : (b : Bool) → Starts b (suc k) → b ≡ false
      later true h = let e = h.0 refl in absurd (omega (arith, e))
      later false h = refl
