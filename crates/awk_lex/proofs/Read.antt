-- Reading a text step by step.
use Rattle.std.proofs.Common.{◌≡◌, ℕ, zero, suc, Bool, true, inl, inr, List, [], ◌∷◌, ◌++◌, drop, Result, Ok, Err, refl, sym, ap, ◌∙◌}
use Rattle.std.proofs.lemmas.Bool.{cases_Bool}
use Rattle.awk_lex.specs.definitions.Words.{is_allowed, divides_after}
use Rattle.awk_lex.specs.definitions.Lexes.{Reads, divides_behind}
use Rattle.awk_lex.specs.support.Lexeme.{Found, found, gap_len, token_at, token_lexeme, gap_lexeme, lexeme_of}
use Rattle.awk_lex.specs.declared.token.Kind.{Kind}
use Rattle.awk_lex.specs.declared.refusal.RefusalCode.{RefusalCode}
use Rattle.awk_lex.specs.declared.refusal.RefusalCode.TheVariants.{UnexpectedByte, NumberRefused}
use Rattle.awk_lex.specs.declared.lexeme.Lexeme.TheVariants as lexeme
use Rattle.awk_lex.proofs.Prefixes.{if_true, if_false}
use Rattle.awk_lex.proofs.Longest.{stands}
use Rattle.awk_lex.proofs.Gaps.{skip_more, skip_none, no_token_in_gap}

-- a token in front, taken apart
pub record IsToken (d : Bool) (text : List ℕ) (k : Kind) (n : ℕ) : Type 0 where
  pub no_gap : gap_len text ≡ 0
  pub is : token_at d text ≡ found k n
  pub allowed : is_allowed k (drop n text) ≡ true

record IsAllowed (text : List ℕ) (o : Result Found RefusalCode) (k : Kind) (n : ℕ) : Type 0 where
  is : o ≡ found k n
  allowed : is_allowed k (drop n text) ≡ true

token_allowed : (text : List ℕ) (o : Result Found RefusalCode) (k : Kind) (n : ℕ) → token_lexeme text o ≡ lexeme.Token k n → IsAllowed text o k n
token_allowed text (Err c) k n h = absurd (cc)
token_allowed text (Ok f) k n h = elim (cases_Bool (is_allowed f.kind (drop f.len text))) [
  | inl allowed ↦
      let e : lexeme.Token f.kind f.len ≡ lexeme.Token k n = sym (if_true (is_allowed f.kind (drop f.len text)) _ _ allowed) ∙ h in
      let k_is : f.kind ≡ k = cc in
      let n_is : f.len ≡ n = cc in
      record {
        is = ap (λ x. found x f.len) k_is ∙ ap (found k) n_is;
        allowed = ap (λ x. is_allowed x (drop n text)) (sym k_is) ∙ ap (λ x. is_allowed f.kind (drop x text)) (sym n_is) ∙ allowed;
      }
  | inr refused ↦
      let e : lexeme.Fault NumberRefused ≡ lexeme.Token k n = sym (if_false (is_allowed f.kind (drop f.len text)) _ _ refused) ∙ h in
      absurd (cc)
]

token_here : (d : Bool) (text : List ℕ) (k : Kind) (n m : ℕ) → gap_len text ≡ m → gap_lexeme d text m ≡ lexeme.Token k n → IsToken d text k n
token_here d text k n zero g h =
    let a = token_allowed text (token_at d text) k n h in
    record { no_gap = g; is = a.is; allowed = a.allowed }
token_here d text k n (suc m) g h = absurd (cc)

pub token_is : (d : Bool) (text : List ℕ) (k : Kind) (n : ℕ) → lexeme_of d text ≡ lexeme.Token k n → IsToken d text k n
token_is d text k n h = token_here d text k n (gap_len text) refl h

-- a part of a gap in front, taken apart
pub record IsGap (text : List ℕ) (n : ℕ) : Type 0 where
  pub before : ℕ
  pub len : n ≡ suc before
  pub is : gap_len text ≡ suc before

no_gap_lexeme : (text : List ℕ) (n : ℕ) (o : Result Found RefusalCode) → token_lexeme text o ≡ lexeme.Gap n → ⊥
no_gap_lexeme text n (Err c) h = cc
no_gap_lexeme text n (Ok f) h = elim (cases_Bool (is_allowed f.kind (drop f.len text))) [
  | inl allowed ↦ let e : lexeme.Token f.kind f.len ≡ lexeme.Gap n = sym (if_true (is_allowed f.kind (drop f.len text)) _ _ allowed) ∙ h in cc
  | inr refused ↦ let e : lexeme.Fault NumberRefused ≡ lexeme.Gap n = sym (if_false (is_allowed f.kind (drop f.len text)) _ _ refused) ∙ h in cc
]

gap_here : (d : Bool) (text : List ℕ) (n m : ℕ) → gap_len text ≡ m → gap_lexeme d text m ≡ lexeme.Gap n → IsGap text n
gap_here d text n zero g h = absurd (no_gap_lexeme text n (token_at d text) h)
gap_here d text n (suc m) g h = record { before = m; len = cc; is = g }

pub gap_is : (d : Bool) (text : List ℕ) (n : ℕ) → lexeme_of d text ≡ lexeme.Gap n → IsGap text n
gap_is d text n h = gap_here d text n (gap_len text) refl h

-- a fault in front, taken apart
pub record IsFault (d : Bool) (text : List ℕ) (c : RefusalCode) : Type 0 where
  pub no_gap : gap_len text ≡ 0
  pub is : token_lexeme text (token_at d text) ≡ lexeme.Fault c

fault_here : (d : Bool) (text : List ℕ) (c : RefusalCode) (m : ℕ) → gap_len text ≡ m → gap_lexeme d text m ≡ lexeme.Fault c → IsFault d text c
fault_here d text c zero g h = record { no_gap = g; is = h }
fault_here d text c (suc m) g h = absurd (cc)

pub fault_in_front : (d : Bool) (text : List ℕ) (c : RefusalCode) → lexeme_of d text ≡ lexeme.Fault c → IsFault d text c
fault_in_front d text c h = fault_here d text c (gap_len text) refl h

-- a token in front is found, with no gap before it
pub token_gap : (d : Bool) (text : List ℕ) (f : Found) → token_at d text ≡ Ok f → gap_len text ≡ 0
token_gap d text f h = by_len (gap_len text) refl
  where
    by_len : (n : ℕ) → gap_len text ≡ n → gap_len text ≡ 0
    by_len zero e = e
    by_len (suc n) e = let no : Err UnexpectedByte ≡ Ok f = sym (no_token_in_gap d text n e) ∙ h in absurd (cc)

pub lexeme_without_gap : (d : Bool) (text : List ℕ) → gap_len text ≡ 0 → lexeme_of d text ≡ token_lexeme text (token_at d text)
lexeme_without_gap d text h = ap (gap_lexeme d text) h

-- the text is read up to the place: a part of a gap more, a token more
pub reads_gap : (d : Bool) (ts : List Kind) (text place : List ℕ) (n : ℕ) → Reads d ts text place → gap_len place ≡ suc n → Reads d ts text (drop (suc n) place)
reads_gap d [] text place n r h = skip_more text place n r h
reads_gap d (t ∷ ts) text place n r h = (r.0, r.1, r.2, r.3, r.4, reads_gap (divides_after t) ts r.1 place n r.5 h)

pub reads_token : (d : Bool) (ts : List Kind) (text place : List ℕ) (k : Kind) (n : ℕ) → Reads d ts text place → IsToken (divides_behind d ts) place k n
    → Reads d (ts ++ k ∷ []) text (drop n place)
reads_token d [] text place k n r s =
    (place, drop n place, r, stands d place (record { kind = k; len = n }) s.is, s.allowed, skip_none (drop n place))
reads_token d (t ∷ ts) text place k n r s = (r.0, r.1, r.2, r.3, r.4, reads_token (divides_after t) ts r.1 place k n r.5 s)

-- whether a slash divides behind one token more
pub divides_behind-append : (d : Bool) (ts : List Kind) (k : Kind) → divides_behind d (ts ++ k ∷ []) ≡ divides_after k
divides_behind-append d [] k = refl
divides_behind-append d (t ∷ ts) k = divides_behind-append (divides_after t) ts k
