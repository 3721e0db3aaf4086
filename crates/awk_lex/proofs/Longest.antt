-- What is found at a place is the longest spelling there, and the other way round.
use Rattle.std.proofs.Common.{◌≡◌, ℕ, ◌≤◌, Bool, List, [], ◌∷◌, ◌++◌, length, drop, Ok, refl, sym, ap, ◌∙◌, subst, arith, append_assoc, length-append}
use Rattle.std.proofs.Math.Seq.{drop-append_seam}
use Rattle.awk_lex.specs.definitions.Words.{Writes, Longest}
use Rattle.awk_lex.specs.definitions.Lexes.{Stands}
use Rattle.awk_lex.specs.support.Lexeme.{Found, found, token_at}
use Rattle.awk_lex.specs.declared.token.Kind.{Kind}
use Rattle.awk_lex.proofs.MaximalMunch.{ok_is, munch}
use Rattle.awk_lex.proofs.Spelled.{spelled}

none_left : (x : List ℕ) → length x ≤ 0 → x ≡ []
none_left [] h = refl
none_left (b ∷ x) h = absurd (omega arith)

-- what is found is the longest
is_longest : (d : Bool) (w rest : List ℕ) (f : Found) → token_at d (w ++ rest) ≡ Ok f → length w ≡ f.len → Longest d w rest
is_longest d w rest f h n = λ t x y e k.
    let m = munch d t (w ++ x) y k in
    let there : token_at d (w ++ rest) ≡ Ok m.token = ap (λ z. token_at d (w ++ z)) e ∙ ap (token_at d) (sym (append_assoc w x y)) ∙ m.is in
    let same : f ≡ m.token = ok_is _ _ _ h there in
    let len = ap (λ (g : Found). g.len) same in
    none_left x (omega (arith, length-append w x, m.longest))

-- two fronts of one list
fronts : (v y w z : List ℕ) → v ++ y ≡ w ++ z → length w ≤ length v → (x : List ℕ) × (v ≡ w ++ x) × (z ≡ x ++ y)
fronts v y [] z e n = (v, refl, sym e)
fronts [] y (b ∷ w) z e n = absurd (omega arith)
fronts (a ∷ v) y (b ∷ w) z e n =
    let h : a ≡ b = cc in
    let t : v ++ y ≡ w ++ z = cc in
    let r = fronts v y w z t (omega arith) in
    (r.0, cc, r.2)

-- a token that stands in front is found
pub is_found : (d : Bool) (t : Kind) (text after : List ℕ) (s : Stands d t text after) → token_at d text ≡ found t (length s.word)
is_found d t text after s =
    let m = munch d t s.word after s.writes in
    let f = spelled d (s.word ++ after) m.token m.is in
    let r = fronts f.word f.rest s.word after (sym f.is) (omega (arith, f.len, m.longest)) in
    let none = s.longest m.token.kind r.0 f.rest r.2 (subst (Writes d m.token.kind) r.1 f.writes) in
    let n : length s.word ≡ m.token.len = omega (arith, ap length r.1, length-append s.word r.0, f.len, ap length none) in
    ap (token_at d) s.is ∙ m.is ∙ ap (λ k. found k m.token.len) (m.same n s.suited) ∙ ap (found t) (sym n)

-- what is found stands in front
pub stands : (d : Bool) (text : List ℕ) (f : Found) → token_at d text ≡ Ok f → Stands d f.kind text (drop f.len text)
stands d text f h =
    let s = spelled d text f h in
    let rest : drop f.len text ≡ s.rest = ap (λ n. drop n text) (sym s.len) ∙ ap (drop (length s.word)) s.is ∙ drop-append_seam s.word s.rest in
    subst (Stands d f.kind text) (sym rest)
    (record {
      word = s.word;
      is = s.is;
      writes = s.writes;
      longest = is_longest d s.word s.rest f (ap (token_at d) (sym s.is) ∙ h) s.len;
      suited = s.suited;
    })
