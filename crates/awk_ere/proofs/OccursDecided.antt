-- Whether a pattern matches somewhere is decided.
use Rattle.std.proofs.Common.{◌≡◌, ℕ, suc, ◌+◌, ◌≤◌, Bool, true, false, List, [], ◌∷◌, ◌++◌, length, Option, Some, None, refl, sym, ap, subst, ◌∙◌, append_assoc, arith, inl, inr}
use Rattle.std.specs.Prelude.{◌↔◌, nat_eq, slice_get}
use Rattle.std.specs.Option.{is_some}
use Rattle.std.proofs.lemmas.List.{length-append}
use Rattle.std.proofs.lemmas.Bool.{or_cases, or_right, or_left, eqb-true, eq-eqb, cases_lt, false≢true}
use Rattle.awk_ere.specs.definitions.Tree.{Tree, Occurs}
use Rattle.awk_ere.specs.support.Found.{EndsAt}
use Rattle.awk_ere.specs.definitions.Desugared.{Re, MatchesRe, desugar, IsOrdered}
use Rattle.awk_ere.specs.support.Marked.{Marked, flow, step, fresh}
use Rattle.awk_ere.specs.support.CursorState.{Starts, Tracks}
use Rattle.awk_ere.specs.definitions.Means.{occurs_from, occurs}
use Rattle.awk_ere.proofs.DesugaredMatches.{desugar_to, desugar_from}
use Rattle.awk_ere.proofs.MarksTrackMatches.{tracks_fresh, leaves_sound, leaves_complete, tracks_step}
use Rattle.awk_ere.proofs.StepTellsMatches.{match_within, match_le}

abbrev every : ℕ → Bool
every a = true

starts : (k : ℕ) → Starts (nat_eq k 0) k
starts k = (λ e. eqb-true k 0 e, λ e. eq-eqb k 0 e)

get_at : (front : List ℕ) (x : ℕ) (rest : List ℕ) → slice_get (front ++ x ∷ rest) (length front) ≡ Some x
get_at [] x rest = refl
get_at (b ∷ front) x rest = get_at front x rest

-- where the rest stands behind k bytes
record At (s : List ℕ) (k : ℕ) (rest : List ℕ) : Type 0 where
  front : List ℕ
  is : s ≡ front ++ rest
  long : length front ≡ k

next_at : (s : List ℕ) (k x : ℕ) (rest : List ℕ) → At s k (x ∷ rest) → At s (suc k) rest
next_at s k x rest a = record {
  front = a.front ++ x ∷ [];
  is = a.is ∙ sym (append_assoc a.front (x ∷ []) rest);
  long = length-append a.front (x ∷ []) ∙ omega (arith, a.long);
}

here_at : (s : List ℕ) (k x : ℕ) (rest : List ℕ) → At s k (x ∷ rest) → slice_get s k ≡ Some x
here_at s k x rest a =
    subst (λ n. slice_get s n ≡ Some x) a.long (subst (λ l. slice_get l (length a.front) ≡ Some x) (sym a.is) (get_at a.front x rest))

long_at : (s : List ℕ) (k : ℕ) (rest : List ℕ) → At s k rest → length s ≡ k + length rest
long_at s k rest a = ap length a.is ∙ length-append a.front rest ∙ ap (λ n. n + length rest) a.long

module _ (s : List ℕ) (r : Re) where
  abbrev OccursRe : Type 0
  OccursRe = (i : ℕ) × (j : ℕ) × (i ≤ length s) × MatchesRe s r i j

  found : (p : Marked) (k : ℕ) (rest : List ℕ) → Tracks s r every k p → At s k rest → occurs_from p k rest ≡ true → OccursRe
  found p k [] t a e =
      let long = long_at s k [] a in
      let f = leaves_sound s r every k p t (nat_eq k 0) (starts k) true (λ _. omega (arith, long)) e in
      (f.0, k, omega (arith, f.2, long), f.3)
  found p k (x ∷ rest) t a e =
      let long = long_at s k (x ∷ rest) a in
      elim (or_cases (flow (nat_eq k 0) false true p) _ e) [
        | inl h ↦ let f = leaves_sound s r every k p t (nat_eq k 0) (starts k) false (λ c. absurd (false≢true c)) h in (f.0, k, omega (arith, f.2, long), f.3)
        | inr h ↦ found (step (nat_eq k 0) false x true false p) (suc k) rest
            (tracks_step s r every k p t (nat_eq k 0) (starts k) x (here_at s k x rest a) (omega (arith, long))) (next_at s k x rest a) h
      ]

  finds : (p : Marked) (k : ℕ) (rest : List ℕ) (i j : ℕ) → Tracks s r every k p → At s k rest → i ≤ j → k ≤ j → j ≤ length s → MatchesRe s r i j → occurs_from p k rest ≡ true
  finds p k [] i j t a order le within m =
      let long = long_at s k [] a in
      let same : j ≡ k = omega (arith, long, le, within) in
      leaves_complete s r every k p t (nat_eq k 0) (starts k) true (λ _. refl) i refl (omega (arith, order, same)) (subst (λ n. MatchesRe s r i n) same m)
  finds p k (x ∷ rest) i j t a order le within m =
      let long = long_at s k (x ∷ rest) a in
      elim (cases_lt k j) [
        | inl far ↦ or_right (flow (nat_eq k 0) false true p) _
            (finds (step (nat_eq k 0) false x true false p) (suc k) rest i j
            (tracks_step s r every k p t (nat_eq k 0) (starts k) x (here_at s k x rest a) (omega (arith, long))) (next_at s k x rest a) order (omega (arith, far)) within m)
        | inr near ↦
            let same : j ≡ k = omega (arith, le, near) in
            or_left (flow (nat_eq k 0) false true p) _
            (leaves_complete s r every k p t (nat_eq k 0) (starts k) false (λ end. absurd (omega (arith, end, long))) i refl (omega (arith, order, same)) (subst (λ n. MatchesRe s r i n) same m))
      ]

whole_at : (s : List ℕ) → At s 0 s
whole_at s = record { front = []; is = refl; long = refl }

begun : (s : List ℕ) (r : Re) → Tracks s r every 0 (fresh r)
begun s r = tracks_fresh s r every 0 (λ i f lt. omega (arith, lt))

pub occurs_sound : (t : Tree) (s : List ℕ) → IsOrdered t → occurs t s ≡ true → Occurs t s
unfolding occurs
occurs_sound t s ordered e =
    let f = found s (desugar t) (fresh (desugar t)) 0 s (begun s (desugar t)) (whole_at s) e in
    (f.0, f.1, f.2, desugar_from s t f.0 f.1 ordered f.3)

pub occurs_complete : (t : Tree) (s : List ℕ) → Occurs t s → occurs t s ≡ true
unfolding occurs
occurs_complete t s f =
    finds s (desugar t) (fresh (desugar t)) 0 s f.0 f.1 (begun s (desugar t)) (whole_at s) (match_le s t f.0 f.1 f.3) (omega arith)
    (match_within s t f.0 f.1 f.3 f.2) (desugar_to s t f.0 f.1 f.3)

same_truth : (a b : Bool) → (a ≡ true → b ≡ true) → (b ≡ true → a ≡ true) → a ≡ b
same_truth true b h k = sym (h refl)
same_truth false true h k = k refl
same_truth false false h k = refl

-- a search tells what is decided
pub tells_occurs : (t : Tree) (s : List ℕ) (b : Bool) → IsOrdered t → (b ≡ true) ↔ Occurs t s → b ≡ occurs t s
tells_occurs t s b ordered h =
    same_truth b (occurs t s) (λ e. occurs_complete t s (h.0 e)) (λ e. h.1 (occurs_sound t s ordered e))

-- whether a search for any end finds one tells it too
pub tells_ends : (t : Tree) (s : List ℕ) (r : Option ℕ) → IsOrdered t → EndsAt t s 0 (length s) r → is_some r ≡ occurs t s
tells_ends t s None ordered h =
    tells_occurs t s false ordered (λ e. absurd (false≢true e), λ f. absurd (h (f.0, f.1, omega arith, f.2, f.3)))
tells_ends t s (Some e) ordered h = tells_occurs t s true ordered (λ _. (h.0, e, h.2, h.3), λ _. refl)
