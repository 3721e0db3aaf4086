-- The bytes in front of a text that pass a test.
use Rattle.std.proofs.Common.{◌≡◌, ℕ, suc, ◌+◌, ◌≤◌, Bool, true, false, cond, inl, inr, List, [], ◌∷◌, ◌++◌, length, take, drop, refl, sym, ap, ◌∙◌, arith}
use Rattle.std.specs.List.{list_all, prefix_len, take_while}
use Rattle.std.proofs.Math.Seq.{take-append_seam, drop-append_seam}
use Rattle.std.proofs.lemmas.Bool.{cases_Bool, and_parts, and_from}
use Rattle.std.proofs.lemmas.List.{take-append-drop}
use Rattle.std.proofs.lemmas.List.Folds.{length-prefix_len}

pub if_true : {A : Type 0} (b : Bool) (x y : A) → b ≡ true → cond b x y ≡ x
if_true true x y h = refl
if_true false x y h = absurd (cc)

pub if_false : {A : Type 0} (b : Bool) (x y : A) → b ≡ false → cond b x y ≡ y
if_false true x y h = absurd (cc)
if_false false x y h = refl

-- bytes that pass stand in front of the rest's own front
pub prefix_over : (p : ℕ → Bool) (w y : List ℕ) → list_all p w ≡ true → prefix_len p (w ++ y) ≡ length w + prefix_len p y
prefix_over p [] y h = omega arith
prefix_over p (b ∷ w) y h =
    let a = and_parts (p b) (list_all p w) h in
    let r = prefix_over p w y a.1 in
    if_true (p b) _ _ a.0 ∙ omega (arith, r)

-- the front passes
pub front_passes : (p : ℕ → Bool) (bs : List ℕ) → list_all p (take (prefix_len p bs) bs) ≡ true
front_passes p [] = refl
front_passes p (b ∷ bs) = elim (cases_Bool (p b)) [
  | inl passes ↦
      let n : prefix_len p (b ∷ bs) ≡ suc (prefix_len p bs) = if_true (p b) _ _ passes ∙ omega arith in
      ap (λ k. list_all p (take k (b ∷ bs))) n ∙ and_from _ _ passes (front_passes p bs)
  | inr fails ↦ ap (λ k. list_all p (take k (b ∷ bs))) (if_false (p b) _ _ fails)
]

-- where the first byte passes, the front is that byte and the front of the others
pub front_cons : (p : ℕ → Bool) (b : ℕ) (bs : List ℕ) → p b ≡ true → take (prefix_len p (b ∷ bs)) (b ∷ bs) ≡ b ∷ take (prefix_len p bs) bs
front_cons p b bs h =
    let n : prefix_len p (b ∷ bs) ≡ suc (prefix_len p bs) = if_true (p b) _ _ h ∙ omega arith in
    ap (λ k. take k (b ∷ bs)) n

-- what passes in front of a text is no longer than its front
pub front_longest : (p : ℕ → Bool) (w y : List ℕ) → list_all p w ≡ true → length w ≤ length (take_while p (w ++ y))
front_longest p w y h = omega (arith, prefix_over p w y h, length-prefix_len p (w ++ y))

pub front_same : (p : ℕ → Bool) (w y : List ℕ) → length w ≡ length (take_while p (w ++ y)) → take_while p (w ++ y) ≡ w
front_same p w y h =
    let n : prefix_len p (w ++ y) ≡ length w = sym (h ∙ length-prefix_len p (w ++ y)) in
    ap (λ k. take k (w ++ y)) n ∙ take-append_seam w y

pub front_rest : (p : ℕ → Bool) (w y : List ℕ) → length w ≡ length (take_while p (w ++ y)) → drop (prefix_len p (w ++ y)) (w ++ y) ≡ y
front_rest p w y h =
    let n : prefix_len p (w ++ y) ≡ length w = sym (h ∙ length-prefix_len p (w ++ y)) in
    ap (λ k. drop k (w ++ y)) n ∙ drop-append_seam w y

pub front_split : (p : ℕ → Bool) (bs : List ℕ) → bs ≡ take_while p bs ++ drop (prefix_len p bs) bs
front_split p bs = sym (take-append-drop (prefix_len p bs) bs)
