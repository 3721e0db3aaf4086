-- A replacement without an ampersand and a backslash stands for itself, and one with an ampersand alone for what stands
-- before and behind it, and the matched text between.
use Rattle.std.proofs.Common.{◌≡◌, ℕ, zero, suc, ◌+◌, ◌-◌, ◌<◌, Bool, true, false, cond, List, [], ◌∷◌, ◌++◌, length, Option, Some, None, refl, sym, ap, ◌∙◌, subst, take, drop, arith}
use Rattle.std.proofs.lemmas.Bool.{false≢true}
use Rattle.std.proofs.lemmas.List.{take_rest}
use Rattle.std.specs.Prelude.{◌||◌, ◌&&◌, ◌==◌, not, is_some, slice_index}
use Rattle.memchr.specs.Find.{IsFirstByte, is_byte2}
use Rattle.awk_text.specs.definitions.Replacement.{bytes_for, replacement_for}
use Rattle.awk_text.specs.support.Escapes.{escapes, IsPlain, IsAround}
use Rattle.awk_text.proofs.ReplacementInSteps.{at_byte}

neither : (a b : Bool) → ((a || b) ≡ true → ⊥) → (a ≡ false) × (b ≡ false)
neither true b h = absurd (h refl)
neither false true h = absurd (h refl)
neither false false h = (refl, refl)

-- no byte is one of the two
abbrev NoneSpecial : List ℕ → Type 0
NoneSpecial r = (k : ℕ) → k < length r → is_byte2 38 92 (slice_index r k) ≡ true → ⊥

plain_list : (r m : List ℕ) → NoneSpecial r → replacement_for r m ≡ r
plain_list [] m none = refl
plain_list (byte ∷ []) m none =
    let here = neither (byte == 38) (byte == 92) (none 0 (omega arith)) in
    ap (λ v. cond v m (byte ∷ [])) here.0
plain_list (byte ∷ next ∷ rest) m none =
    let here = neither (byte == 38) (byte == 92) (none 0 (omega arith)) in
    ap (λ v. cond (v && (next == 38 || next == 92)) (next ∷ replacement_for rest m) (bytes_for byte m ++ replacement_for (next ∷ rest) m)) here.1
    ∙ (ap (λ v. cond v m (byte ∷ []) ++ replacement_for (next ∷ rest) m) here.0
    ∙ ap (λ l. byte ∷ l) (plain_list (next ∷ rest) m (λ k lt. none (suc k) (omega arith))))

pub plain_where_missing : (r : List ℕ) (found : Option ℕ) (missing : Bool) → IsFirstByte (is_byte2 38 92) r found → is_some found ≡ not missing → missing ≡ true → IsPlain r
plain_where_missing r None missing none is holds m = plain_list r m (λ k lt passes. none k (omega arith) lt passes)
plain_where_missing r (Some k) missing first is holds m = absurd (false≢true (sym (is ∙ ap not holds)))

no_escape : (byte : ℕ) (rest : List ℕ) → (byte == 92) ≡ false → escapes (byte ∷ rest) ≡ false
no_escape byte [] h = refl
no_escape byte (next ∷ rest) h = ap (λ v. v && (next == 38 || next == 92)) h

around_list : (r m : List ℕ) (place : ℕ) → place < length r → ((k : ℕ) → k < place → is_byte2 38 92 (slice_index r k) ≡ true → ⊥) → slice_index r place ≡ 38 → replacement_for (drop (suc place) r) m ≡ drop (suc place) r → replacement_for r m ≡ take place r ++ (m ++ drop (suc place) r)
around_list [] m place lt none here rest = absurd (omega (arith, lt))
around_list (byte ∷ r) m zero lt none here rest =
    at_byte byte r m (no_escape byte r (ap (λ b. b == 92) here))
    ∙ (ap (λ b. cond (b == 38) m (byte ∷ []) ++ replacement_for r m) here ∙ ap (λ l. m ++ l) rest)
around_list (byte ∷ r) m (suc place) lt none here rest =
    let other = neither (byte == 38) (byte == 92) (none 0 (omega arith)) in
    at_byte byte r m (no_escape byte r other.1)
    ∙ (ap (λ v. cond v m (byte ∷ []) ++ replacement_for r m) other.0
    ∙ ap (λ l. byte ∷ l) (around_list r m place (omega (arith, lt)) (λ k below. none (suc k) (omega (arith, below))) here rest))

pub around_where_first : (r : List ℕ) (place : ℕ) → IsFirstByte (is_byte2 38 92) r (Some place) → slice_index r place ≡ 38 → IsPlain (take (length r - (place + 1)) (drop (place + 1) r)) → IsAround r place
around_where_first r place first here plain =
    let next : suc place ≡ place + 1 = omega arith in
    let back : place + 1 ≡ suc place = omega arith in
    let rest = subst (λ l. IsPlain l) (take_rest r (place + 1)) plain in
    record {
      within = first.0.high;
      each = λ m. subst (λ n. replacement_for r m ≡ take place r ++ (m ++ drop n r)) next
          (around_list r m place first.0.high (λ k lt. first.0.before k (omega arith) lt) here
          (subst (λ n. replacement_for (drop n r) m ≡ drop n r) back (rest m)));
    }

pub plain_where_none : (r : List ℕ) → IsFirstByte (is_byte2 38 92) r None → IsPlain r
plain_where_none r none m = plain_list r m (λ k lt passes. none k (omega arith) lt passes)
