-- How far a text is read.
use Rattle.std.proofs.Common.{◌≡◌, ℕ, zero, suc, ◌+◌, ◌≤◌, ◌<◌, Bool, false, List, [], ◌∷◌, ◌++◌, length, drop, refl, sym, ap, ◌∙◌, subst, arith, drop-drop, length-drop, length-append}
use Rattle.awk_lex.specs.definitions.Words.{divides_after}
use Rattle.awk_lex.specs.definitions.Lexes.{Reads, Lexes, divides_behind, Fault}
use Rattle.awk_lex.specs.support.Lexeme.{lexeme_of}
use Rattle.awk_lex.specs.declared.token.Kind.{Kind}
use Rattle.awk_lex.specs.declared.refusal.RefusalCode.{RefusalCode}
use Rattle.awk_lex.specs.declared.lexeme.Lexeme.{Lexeme}
use Rattle.awk_lex.specs.declared.lexeme.Lexeme.TheVariants as lexeme
use Rattle.awk_lex.proofs.Spelled.{spelled}
use Rattle.awk_lex.proofs.Gaps.{part_of, skip_none}
use Rattle.awk_lex.proofs.Read.{token_is, gap_is, reads_gap, reads_token, divides_behind-append}
use Rattle.awk_lex.proofs.Faults.{fault_is}

-- the text is read up to a place, and a slash there divides or not
pub record IsRead (ts : List Kind) (d : Bool) (text : List ℕ) (at : ℕ) : Type 0 where
  pub reads : Reads false ts text (drop at text)
  pub divides : d ≡ divides_behind false ts

-- what stands in front takes a byte or more, and none behind the text
abbrev TakesOf : ℕ → Lexeme → Type 0
TakesOf size (lexeme.Gap n) = (1 ≤ n) × (n ≤ size)
TakesOf size (lexeme.Token k n) = (1 ≤ n) × (n ≤ size)
TakesOf size (lexeme.Fault c) = Unit {0}

takes : (d : Bool) (text : List ℕ) (s : Lexeme) → lexeme_of d text ≡ s → TakesOf (length text) s
takes d text (lexeme.Gap n) h =
    let g = gap_is d text n h in
    let p = part_of text g.before g.is in
    let size = ap length p.is in
    (omega (arith, g.len), omega (arith, g.len, p.len, size, length-append p.gap (drop (suc g.before) text), length-drop (suc g.before) text))
takes d text (lexeme.Token k n) h =
    let s = spelled d text (record { kind = k; len = n }) (token_is d text k n h).is in
    (s.some, omega (arith, s.len, ap length s.is, length-append s.word s.rest))
takes d text (lexeme.Fault c) h = tt

-- what is answered for the text from a place on
pub lexeme_there : (shared text : List ℕ) (at : ℕ) (d : Bool) (found s : Lexeme) → shared ≡ text → found ≡ lexeme_of d (drop at shared) → found ≡ s
    → lexeme_of d (drop at text) ≡ s
lexeme_there shared text at d found s same is_front is = ap (λ x. lexeme_of d (drop at x)) (sym same) ∙ sym is_front ∙ is

pub gap_takes : (d : Bool) (text : List ℕ) (at n : ℕ) → at < length text → lexeme_of d (drop at text) ≡ lexeme.Gap n → (1 ≤ n) × (at + n ≤ length text)
gap_takes d text at n inside h =
    let t = takes d (drop at text) (lexeme.Gap n) h in
    (t.0, omega (arith, t.1, length-drop at text))

pub token_takes : (d : Bool) (text : List ℕ) (at : ℕ) (k : Kind) (n : ℕ) → at < length text → lexeme_of d (drop at text) ≡ lexeme.Token k n
    → (1 ≤ n) × (at + n ≤ length text)
token_takes d text at k n inside h =
    let t = takes d (drop at text) (lexeme.Token k n) h in
    (t.0, omega (arith, t.1, length-drop at text))

pub none_read : (text : List ℕ) → IsRead [] false text 0
none_read text = record { reads = skip_none text; divides = refl }

pub after_gap : (ts : List Kind) (d : Bool) (text : List ℕ) (at n : ℕ) → IsRead ts d text at → lexeme_of d (drop at text) ≡ lexeme.Gap n
    → IsRead ts d text (at + n)
after_gap ts d text at n r h =
    let g = gap_is d (drop at text) n h in
    let further = reads_gap false ts text (drop at text) g.before r.reads g.is in
    let place : drop (suc g.before) (drop at text) ≡ drop (at + n) text =
    ap (λ m. drop m (drop at text)) (sym g.len) ∙ drop-drop n at text in
    record { reads = subst (Reads false ts text) place further; divides = r.divides }

pub after_token : (ts : List Kind) (d e : Bool) (text : List ℕ) (at n : ℕ) (k : Kind) → IsRead ts d text at → lexeme_of d (drop at text) ≡ lexeme.Token k n
    → e ≡ divides_after k → IsRead (ts ++ k ∷ []) e text (at + n)
after_token ts d e text at n k r h is =
    let here = ap (λ x. lexeme_of x (drop at text)) (sym r.divides) ∙ h in
    let further = reads_token false ts text (drop at text) k n r.reads (token_is (divides_behind false ts) (drop at text) k n here) in
    record {
      reads = subst (Reads false (ts ++ k ∷ []) text) (drop-drop n at text) further;
      divides = is ∙ sym (divides_behind-append false ts k);
    }

not_at_end : (text : List ℕ) (at : ℕ) → at < length text → drop at text ≡ [] → ⊥
not_at_end text at inside e = omega (arith, length-drop at text, ap length e)

-- the fault that stands where a text is read up to
pub fault_here : (ts : List Kind) (d : Bool) (text : List ℕ) (at : ℕ) (c : RefusalCode) → at < length text → IsRead ts d text at
    → lexeme_of d (drop at text) ≡ lexeme.Fault c → Fault (divides_behind false ts) c (drop at text)
fault_here ts d text at c inside r h =
    subst (λ x. Fault x c (drop at text)) r.divides (fault_is d (drop at text) c (not_at_end text at inside) h)

at_end : (text : List ℕ) (at : ℕ) → length text ≤ at → drop at text ≡ []
at_end [] zero h = refl
at_end [] (suc n) h = refl
at_end (x ∷ xs) zero h = absurd (omega arith)
at_end (x ∷ xs) (suc n) h = at_end xs n (omega arith)

pub all_read : (ts : List Kind) (d : Bool) (text : List ℕ) (at : ℕ) → length text ≤ at → IsRead ts d text at → Lexes ts text
all_read ts d text at h r = subst (Reads false ts text) (at_end text at h) r.reads
