-- The EREs of a program: which are readable, and why the leftmost other one is refused.
use Rattle.std.proofs.Common.{◌≡◌, ◌⊎◌, ℕ, zero, suc, ◌+◌, ◌<◌, inl, inr, List, [], ◌∷◌, ◌++◌, length, take, drop, get_or, add-one, refl, sym, ap, ◌∙◌, subst, arith}
use Rattle.awk_ere.specs.Tree.{Tree}
use Rattle.awk_ere.specs.Limits.{SpellsWithin}
use Rattle.awk_ere.specs.declared.fault.PatternFault.TheVariants.{IllFormed, BadCount, TooLarge}
use Rattle.awk_ere.proofs.RefusalsExclusive.{read_exactly}
use Rattle.awk_lex.specs.Told.{kinds_of}
use Rattle.awk_lex.specs.declared.token.Kind.{Kind}
use Rattle.awk_lex.specs.declared.token.Kind.TheVariants.{Ere}
use Rattle.awk_lex.specs.declared.token.Token.{Token}
use Rattle.awk_lex.specs.Refused.{IsOutOfMemory}
use Rattle.awk_lex.specs.declared.refusal.Refusal.{Refusal}
use Rattle.awk_lex.specs.declared.refusal.RefusalCode.{RefusalCode}
use Rattle.awk_lex.specs.declared.refusal.RefusalCode.TheVariants.{PatternIllFormed, PatternCountRefused, PatternTooLarge}
use Rattle.awk_syntax.specs.definitions.Patterns.{IsReadable, AreReadable, PatternFails, IsLeftmostRefused}

-- a text that spells a pattern within the limits isn't refused
readable_fails : (c : RefusalCode) (pattern : Tree) (text : List ℕ) → SpellsWithin pattern text → PatternFails c text → ⊥
readable_fails PatternIllFormed pattern text s f = let e = read_exactly pattern text IllFormed s f in absurd (cc)
readable_fails PatternCountRefused pattern text s f = let e = read_exactly pattern text BadCount s f in absurd (cc)
readable_fails PatternTooLarge pattern text s f = let e = read_exactly pattern text TooLarge s f in absurd (cc)
readable_fails c pattern text s f = f

readable_at : (before after : List Kind) (y : Kind) → AreReadable (before ++ y ∷ after) → IsReadable y
readable_at [] after y r = r.0
readable_at (z ∷ before) after y r = readable_at before after y r.1

-- where an ERE is refused, not all are readable
pub leftmost_unreadable : (c : RefusalCode) (line : ℕ) (tokens : List Token) → IsLeftmostRefused c line tokens → AreReadable (kinds_of tokens) → ⊥
leftmost_unreadable c line tokens l r =
    let a = subst AreReadable l.refuses.stand r in
    let p = readable_at l.refuses.before l.refuses.after (Ere l.refuses.ere) a in
    readable_fails c p.0 l.refuses.ere p.1 l.refuses.fails

readable_more : (tokens : List Token) (i : ℕ) (x : Token) → i < length tokens → x ≡ get_or tokens i x → AreReadable (kinds_of (take i tokens)) → IsReadable x.kind → AreReadable (kinds_of (take (suc i) tokens))
readable_more [] i x h e r k = absurd (omega arith)
readable_more (y ∷ tokens) zero x h e r k = (subst (λ z. IsReadable z.kind) e k, tt)
readable_more (y ∷ tokens) (suc i) x h e r k = (r.0, readable_more tokens i x (omega arith) e r.1 k)

-- one token more
pub readable_next : (tokens : List Token) (i : ℕ) (x : Token) → i < length tokens → x ≡ get_or tokens i x → AreReadable (kinds_of (take i tokens)) → IsReadable x.kind → AreReadable (kinds_of (take (i + 1) tokens))
readable_next tokens i x h e r k = rw add-one (readable_more tokens i x h e r k)

pub ere_readable : (k : Kind) (text read : List ℕ) → k ≡ Ere text → read ≡ text → (pattern : Tree) × SpellsWithin pattern read → IsReadable k
ere_readable k text read is e s = subst IsReadable (sym is) (subst (λ z. (pattern : Tree) × SpellsWithin pattern z) e s)

pub other_readable : (k : Kind) → ((text : List ℕ) → k ≡ Ere text → ⊥) → IsReadable k
other_readable (Ere text) n = absurd (n text refl)
other_readable k n = tt

-- the tokens before one, it, and those behind it
stand_so : (tokens : List Token) (i : ℕ) (x : Token) → i < length tokens → x ≡ get_or tokens i x → tokens ≡ take i tokens ++ x ∷ drop (suc i) tokens
stand_so [] i x h e = absurd (omega arith)
stand_so (y ∷ tokens) zero x h e = ap (λ z. z ∷ tokens) (sym e)
stand_so (y ∷ tokens) (suc i) x h e = ap (λ z. y ∷ z) (stand_so tokens i x (omega arith) e)

kinds_stand : (tokens : List Token) (i : ℕ) (x : Token) (text : List ℕ) → i < length tokens → x ≡ get_or tokens i x → x.kind ≡ Ere text → kinds_of tokens ≡ kinds_of (take i tokens) ++ Ere text ∷ kinds_of (drop (suc i) tokens)
kinds_stand [] i x text h e k = absurd (omega arith)
kinds_stand (y ∷ tokens) zero x text h e k = ap (λ (z : Kind). z ∷ kinds_of tokens) (ap (λ (z : Token). z.kind) (sym e) ∙ k)
kinds_stand (y ∷ tokens) (suc i) x text h e k = ap (λ (z : List Kind). y.kind ∷ z) (kinds_stand tokens i x text (omega arith) e k)

-- an ERE that is refused behind readable ones
pub first_refused : (r : Refusal) (tokens : List Token) (i : ℕ) (x : Token) (text : List ℕ) → i < length tokens → x ≡ get_or tokens i x → x.kind ≡ Ere text → AreReadable (kinds_of (take i tokens)) → IsOutOfMemory r ⊎ (PatternFails r.code text × (r.line ≡ x.line)) → IsOutOfMemory r ⊎ IsLeftmostRefused r.code r.line tokens
first_refused r tokens i x text h e k readable f = elim f [
  | inl m ↦ inl m
  | inr p ↦ inr (record {
    before = take i tokens;
    token = x;
    after = drop (suc i) tokens;
    stand = stand_so tokens i x h e;
    refuses = record { before = kinds_of (take i tokens); ere = text; after = kinds_of (drop (suc i) tokens); stand = kinds_stand tokens i x text h e k; readable = readable; fails = p.0 };
    there = refl;
    begins = p.1;
  })
]
