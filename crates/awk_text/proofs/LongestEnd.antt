-- The end of the longest match that begins at a place is decided.
use Rattle.std.proofs.Common.{◌≡◌, ℕ, suc, ◌+◌, ◌≤◌, Bool, true, false, List, [], ◌∷◌, ◌++◌, length, take, drop, Option, Some, None, refl, sym, ap, subst, ◌∙◌, append_assoc, arith, inl, inr}
use Rattle.std.specs.Prelude.{nat_eq, slice_get}
use Rattle.std.proofs.lemmas.List.{length-append, length-take-le, take-append-drop}
use Rattle.std.proofs.lemmas.Bool.{eqb-true, eq-eqb, cases_lt, false≢true}
use Rattle.awk_ere.specs.definitions.Tree.{Tree}
use Rattle.awk_ere.specs.definitions.Desugared.{Re, MatchesRe, desugar, IsOrdered}
use Rattle.awk_ere.specs.support.Found.{Longest}
use Rattle.awk_ere.specs.support.Marked.{Marked, flow, step, fresh}
use Rattle.awk_ere.specs.support.CursorState.{Starts, Tracks}
use Rattle.awk_ere.proofs.DesugaredMatches.{desugar_to, desugar_from}
use Rattle.awk_ere.proofs.MarksTrackMatches.{tracks_fresh, leaves_sound, leaves_complete, tracks_step}
use Rattle.awk_ere.proofs.StepTellsMatches.{match_within, match_le}
use Rattle.awk_text.specs.support.ChosenSeparators.{or_here, last_end, longest_end}

starts : (k : ℕ) → Starts (nat_eq k 0) k
starts k = (λ e. eqb-true k 0 e, λ e. eq-eqb k 0 e)

get_at : (front : List ℕ) (x : ℕ) (rest : List ℕ) → slice_get (front ++ x ∷ rest) (length front) ≡ Some x
get_at [] x rest = refl
get_at (b ∷ front) x rest = get_at front x rest

-- where the rest stands behind k bytes
record At (s : List ℕ) (k : ℕ) (rest : List ℕ) : Type 0 where
  front : List ℕ
  is : s ≡ front ++ rest
  long : length front ≡ k

next_at : (s : List ℕ) (k x : ℕ) (rest : List ℕ) → At s k (x ∷ rest) → At s (suc k) rest
next_at s k x rest a = record {
  front = a.front ++ x ∷ [];
  is = a.is ∙ sym (append_assoc a.front (x ∷ []) rest);
  long = length-append a.front (x ∷ []) ∙ omega (arith, a.long);
}

here_at : (s : List ℕ) (k x : ℕ) (rest : List ℕ) → At s k (x ∷ rest) → slice_get s k ≡ Some x
here_at s k x rest a =
    subst (λ n. slice_get s n ≡ Some x) a.long (subst (λ l. slice_get l (length a.front) ≡ Some x) (sym a.is) (get_at a.front x rest))

long_at : (s : List ℕ) (k : ℕ) (rest : List ℕ) → At s k rest → length s ≡ k + length rest
long_at s k rest a = ap length a.is ∙ length-append a.front rest ∙ ap (λ n. n + length rest) a.long

place_at : (s : List ℕ) (k : ℕ) → k ≤ length s → At s k (drop k s)
place_at s k le = record { front = take k s; is = sym (take-append-drop k s); long = length-take-le k s le }

module _ (s : List ℕ) (r : Re) (from : ℕ → Bool) where
  -- the last end at a place or behind it of a match that begins at a place that passes
  abbrev IsLast : ℕ → Option ℕ → Type 0
  IsLast k None = (i j : ℕ) → from i ≡ true → i ≤ j → k ≤ j → j ≤ length s → MatchesRe s r i j → ⊥
  IsLast k (Some e) =
      ((i : ℕ) × (from i ≡ true) × (i ≤ e) × MatchesRe s r i e)
      × ((i j : ℕ) → from i ≡ true → i ≤ j → j ≤ length s → MatchesRe s r i j → j ≤ e)
      × (k ≤ e)

  -- one place before, where a match ends or none does
  one_before : (k : ℕ) (here : Bool)
      → (here ≡ true → (i : ℕ) × (from i ≡ true) × (i ≤ k) × MatchesRe s r i k)
      → ((i : ℕ) → from i ≡ true → i ≤ k → MatchesRe s r i k → here ≡ true)
      → (later : Option ℕ) → IsLast (suc k) later → IsLast k (or_here here k later)
  one_before k here sound complete (Some e) last = (last.0, last.1, omega (arith, last.2))
  one_before k true sound complete None none = (
    sound refl,
    λ i j f order within m. elim (cases_lt k j) [
      | inl far ↦ absurd (none i j f order (omega arith) within m)
      | inr near ↦ near
    ],
    omega arith,
  )
  one_before k false sound complete None none = λ i j f order le within m. elim (cases_lt k j) [
    | inl far ↦ none i j f order (omega arith) within m
    | inr near ↦
        let same : j ≡ k = omega arith in
        absurd (false≢true (complete i f (omega arith) (subst (λ n. MatchesRe s r i n) same m)))
  ]

  last_is : (p : Marked) (k : ℕ) (rest : List ℕ) → Tracks s r from k p → At s k rest → IsLast k (last_end from p k rest)
  last_is p k [] t a =
      let long = long_at s k [] a in
      one_before k (flow (nat_eq k 0) true (from k) p)
      (λ h. leaves_sound s r from k p t (nat_eq k 0) (starts k) true (λ _. omega (arith, long)) h)
      (λ i f le m. leaves_complete s r from k p t (nat_eq k 0) (starts k) true (λ _. refl) i f le m)
      None (λ i j f order le within m. absurd (omega (arith, long)))
  last_is p k (x ∷ rest) t a =
      let long = long_at s k (x ∷ rest) a in
      one_before k (flow (nat_eq k 0) false (from k) p)
      (λ h. leaves_sound s r from k p t (nat_eq k 0) (starts k) false (λ c. absurd (false≢true c)) h)
      (λ i f le m. leaves_complete s r from k p t (nat_eq k 0) (starts k) false (λ end. absurd (omega (arith, end, long))) i f le m)
      (last_end from (step (nat_eq k 0) false x (from k) false p) (suc k) rest)
      (last_is (step (nat_eq k 0) false x (from k) false p) (suc k) rest
      (tracks_step s r from k p t (nat_eq k 0) (starts k) x (here_at s k x rest a) (omega (arith, long))) (next_at s k x rest a))

-- of the tree
longest_of : (t : Tree) (s : List ℕ) (place : ℕ) (end : Option ℕ) → IsOrdered t → place ≤ length s → IsLast s (desugar t) (λ k. nat_eq k place) place end → Longest t s place end
longest_of t s place None ordered le none = λ j m.
    none place j (eq-eqb place place refl) (match_le s t place j m) (match_le s t place j m) (match_within s t place j m le) (desugar_to s t place j m)
longest_of t s place (Some e) ordered le last =
    let begins : last.0.0 ≡ place = eqb-true last.0.0 place last.0.1 in (
      desugar_from s t place e ordered (subst (λ i. MatchesRe s (desugar t) i e) begins last.0.3),
      λ k m. last.1 place k (eq-eqb place place refl) (match_le s t place k m) (match_within s t place k m le) (desugar_to s t place k m),
    )

pub longest_is : (t : Tree) (s : List ℕ) (place : ℕ) → IsOrdered t → place ≤ length s → Longest t s place (longest_end t s place)
unfolding longest_end
longest_is t s place ordered le =
    let from : ℕ → Bool = λ k. nat_eq k place in
    longest_of t s place (last_end from (fresh (desugar t)) place (drop place s)) ordered le
    (last_is s (desugar t) from (fresh (desugar t)) place (drop place s)
    (tracks_fresh s (desugar t) from place (λ i f lt. let same = eqb-true i place f in omega (arith, same, lt))) (place_at s place le))
