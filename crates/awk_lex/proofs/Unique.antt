-- A text is read in one way.
use Rattle.std.proofs.Common.{◌≡◌, ℕ, zero, suc, ◌≤◌, Bool, true, false, List, [], ◌∷◌, ◌++◌, length, take, drop, None, Result, Ok, Err, refl, sym, ap, ◌∙◌, subst, arith, length-drop, length-append}
use Rattle.std.proofs.Math.Seq.{take-append_seam, drop-append_seam}
use Rattle.awk_lex.specs.definitions.Escapes.{unescaped}
use Rattle.awk_lex.specs.definitions.Words.{is_allowed, divides_after}
use Rattle.awk_lex.specs.definitions.Lexes.{Stands, Reads, Lexes, divides_behind, BeginsNothing, IsOpen, IsBadString, IsBadNumber, Fault, Breaks}
use Rattle.awk_lex.specs.support.Lexeme.{Found, gap_len, closed_string, found_string, found_ere, token_at, token_lexeme, gap_lexeme, lexeme_of}
use Rattle.awk_lex.specs.declared.token.Kind.{Kind}
use Rattle.awk_lex.specs.declared.token.Kind.TheVariants.{Number}
use Rattle.awk_lex.specs.declared.refusal.RefusalCode.{RefusalCode}
use Rattle.awk_lex.specs.declared.refusal.RefusalCode.TheVariants.{UnexpectedByte, OpenString, EscapeRefused, OpenPattern, NumberRefused}
use Rattle.awk_lex.specs.declared.lexeme.Lexeme.{Lexeme}
use Rattle.awk_lex.specs.declared.lexeme.Lexeme.TheVariants as lexeme
use Rattle.awk_lex.proofs.Prefixes.{if_true, if_false}
use Rattle.awk_lex.proofs.DelimitedBodies.{quote_is_delimiter, slash_is_delimiter, closed_len, open_len}
use Rattle.awk_lex.proofs.Spelled.{spelled}
use Rattle.awk_lex.proofs.Longest.{is_found}
use Rattle.awk_lex.proofs.Gaps.{part_of, no_skip, skip_less}
use Rattle.awk_lex.proofs.Read.{token_is, gap_is, token_gap, lexeme_without_gap}
use Rattle.awk_lex.proofs.Faults.{unexpected_only}

-- nothing leads on from here: a fault, or the end
pub record IsStuck (d : Bool) (text : List ℕ) : Type 0 where
  pub code : RefusalCode
  pub is : lexeme_of d text ≡ lexeme.Fault code

pub end_is_stuck : (d : Bool) → IsStuck d []
end_is_stuck d = record { code = UnexpectedByte; is = refl }

stuck_no_gap : (d : Bool) (text : List ℕ) → IsStuck d text → gap_len text ≡ 0
stuck_no_gap d text s = by_len (gap_len text) refl
  where
    by_len : (n : ℕ) → gap_len text ≡ n → gap_len text ≡ 0
    by_len zero e = e
    by_len (suc n) e = let no : lexeme.Gap (suc n) ≡ lexeme.Fault s.code = sym (ap (gap_lexeme d text) e) ∙ s.is in absurd (cc)

pub after_is : (d : Bool) (t : Kind) (text after : List ℕ) (s : Stands d t text after) → drop (length s.word) text ≡ after
after_is d t text after s = ap (drop (length s.word)) s.is ∙ drop-append_seam s.word after

-- a token that stands in front and is allowed is the front
stands_front : (d : Bool) (t : Kind) (text after : List ℕ) (s : Stands d t text after) → is_allowed t after ≡ true → lexeme_of d text ≡ lexeme.Token t (length s.word)
stands_front d t text after s h =
    let f = is_found d t text after s in
    let g = token_gap d text _ f in
    lexeme_without_gap d text g ∙ ap (token_lexeme text) f
    ∙ if_true (is_allowed t (drop (length s.word) text)) _ _ (ap (is_allowed t) (after_is d t text after s) ∙ h)

-- a fault is where nothing leads on
unexpected_found : (d : Bool) (text : List ℕ) → BeginsNothing d text → lexeme_of d text ≡ lexeme.Fault UnexpectedByte
unexpected_found d text b = lexeme_without_gap d text (by_gap (gap_len text) refl) ∙ by_token (token_at d text) refl
  where
    by_gap : (n : ℕ) → gap_len text ≡ n → gap_len text ≡ 0
    by_gap zero e = e
    by_gap (suc n) e =
        let p = part_of text n e in
        let empty = ap length (b.no_gap p.gap (drop (suc n) text) p.is p.is_gap) in
        absurd (omega (arith, p.len, empty))

    by_token : (o : Result Found RefusalCode) → token_at d text ≡ o → token_lexeme text (token_at d text) ≡ lexeme.Fault UnexpectedByte
    by_token (Err c) e = ap (token_lexeme text) (e ∙ ap (λ x. Err x) (sym (unexpected_only d text c b.no_string b.no_ere e)))
    by_token (Ok f) e = let s = spelled d text f e in absurd (b.no_token f.kind s.word s.rest s.is s.writes)

number_found : (d : Bool) (text : List ℕ) → IsBadNumber d text → lexeme_of d text ≡ lexeme.Fault NumberRefused
number_found d text b =
    let t : Kind = Number b.value in
    let f = is_found d t text b.after b.stands in
    lexeme_without_gap d text (token_gap d text _ f) ∙ ap (token_lexeme text) f
    ∙ if_false (is_allowed t (drop (length b.stands.word) text)) _ _ (ap (is_allowed t) (after_is d t text b.after b.stands) ∙ b.refused)

string_found : (d : Bool) (text : List ℕ) → IsOpen 34 text → lexeme_of d text ≡ lexeme.Fault OpenString
string_found d text s =
    let token : token_at d text ≡ Err OpenString =
    ap (token_at d) s.is ∙ ap (found_string (s.body ++ s.rest)) (open_len 34 s.body s.rest quote_is_delimiter s.is_body s.breaks_off) in
    lexeme_without_gap d text (ap gap_len s.is) ∙ ap (token_lexeme text) token

ere_found : (text : List ℕ) → IsOpen 47 text → lexeme_of false text ≡ lexeme.Fault OpenPattern
ere_found text s =
    let token : token_at false text ≡ Err OpenPattern =
    ap (token_at false) s.is ∙ ap (found_ere (s.body ++ s.rest)) (open_len 47 s.body s.rest slash_is_delimiter s.is_body s.breaks_off) in
    lexeme_without_gap false text (ap gap_len s.is) ∙ ap (token_lexeme text) token

escape_found : (d : Bool) (text : List ℕ) → IsBadString text → lexeme_of d text ≡ lexeme.Fault EscapeRefused
escape_found d text s =
    let behind = s.body ++ 34 ∷ s.rest in
    let value : unescaped (take (length s.body) behind) ≡ None = ap unescaped (take-append_seam s.body (34 ∷ s.rest)) ∙ s.refused in
    let token : token_at d text ≡ Err EscapeRefused =
    ap (token_at d) s.is ∙ ap (found_string behind) (closed_len 34 s.body s.rest quote_is_delimiter s.is_body) ∙ ap (closed_string (length s.body)) value in
    lexeme_without_gap d text (ap gap_len s.is) ∙ ap (token_lexeme text) token

pub fault_found : (d : Bool) (text : List ℕ) (c : RefusalCode) → Fault d c text → lexeme_of d text ≡ lexeme.Fault c
fault_found d text UnexpectedByte f = unexpected_found d text f
fault_found d text OpenString f = string_found d text f
fault_found d text EscapeRefused f = escape_found d text f
fault_found d text OpenPattern f = ap (λ x. lexeme_of x text) f.0 ∙ ere_found text f.1
fault_found d text NumberRefused f = number_found d text f
fault_found d text _ f = absurd f

-- what is read from where nothing leads on is nothing
stuck_stays : (d : Bool) (ts : List Kind) (place end : List ℕ) → IsStuck d place → Reads d ts place end → (ts ≡ []) × (end ≡ place)
stuck_stays d [] place end s r = (refl, no_skip place end (stuck_no_gap d place s) r)
stuck_stays d (t ∷ ts) place end s r =
    let here = no_skip place r.0 (stuck_no_gap d place s) r.2 in
    let no : lexeme.Fault s.code ≡ lexeme.Token t (length r.3.word) = sym s.is ∙ ap (lexeme_of d) (sym here) ∙ stands_front d t r.0 r.1 r.3 r.4 in
    absurd (cc)

past_gap : (d : Bool) (ts : List Kind) (text end : List ℕ) (n : ℕ) → gap_len text ≡ suc n → IsStuck (divides_behind d ts) end → Reads d ts text end
    → Reads d ts (drop (suc n) text) end
past_gap d [] text end n h s r = skip_less text end n r (stuck_no_gap d end s) h
past_gap d (t ∷ ts) text end n h s r =
    (r.0, r.1, skip_less text r.0 n r.2 (token_gap d r.0 _ (is_found d t r.0 r.1 r.3)) h, r.3, r.4, r.5)

record Goes (ts : List Kind) (k : Kind) (after end : List ℕ) : Type 0 where
  more : List Kind
  is : ts ≡ k ∷ more
  reads : Reads (divides_after k) more after end

past_token : (d : Bool) (ts : List Kind) (text end : List ℕ) (k : Kind) (n : ℕ) → lexeme_of d text ≡ lexeme.Token k n → IsStuck (divides_behind d ts) end
    → Reads d ts text end → Goes ts k (drop n text) end
past_token d [] text end k n h s r =
    let here = no_skip text end (token_is d text k n h).no_gap r in
    let no : lexeme.Fault s.code ≡ lexeme.Token k n = sym s.is ∙ ap (lexeme_of d) here ∙ h in
    absurd (cc)
past_token d (t ∷ ts) text end k n h s r =
    let here = no_skip text r.0 (token_is d text k n h).no_gap r.2 in
    let same : lexeme.Token t (length r.3.word) ≡ lexeme.Token k n = sym (stands_front d t r.0 r.1 r.3 r.4) ∙ ap (lexeme_of d) here ∙ h in
    let t_is : t ≡ k = cc in
    let len : length r.3.word ≡ n = cc in
    let after : r.1 ≡ drop n text = sym (after_is d t r.0 r.1 r.3) ∙ ap (λ m. drop m r.0) len ∙ ap (drop n) here in
    record {
      more = ts;
      is = ap (λ x. x ∷ ts) t_is;
      reads = subst (λ x. Reads (divides_after k) ts x end) after (subst (λ x. Reads (divides_after x) ts r.1 end) t_is r.5);
    }

record Same (ts us : List Kind) (e f : List ℕ) : Type 0 where
  tokens : ts ≡ us
  ends : e ≡ f

same_at_stuck : (d : Bool) (ts us : List Kind) (text e f : List ℕ) → IsStuck d text → Reads d ts text e → Reads d us text f → Same ts us e f
same_at_stuck d ts us text e f s r q =
    let a = stuck_stays d ts text e s r in
    let b = stuck_stays d us text f s q in
    record { tokens = a.0 ∙ sym b.0; ends = a.1 ∙ sym b.1 }

-- two readings of a text up to where nothing leads on are the same
abbrev ReadsAlike : Bool → List ℕ → Type 0
ReadsAlike d text =
    (ts us : List Kind) (e f : List ℕ) → IsStuck (divides_behind d ts) e → IsStuck (divides_behind d us) f → Reads d ts text e → Reads d us text f
    → Same ts us e f

alike_by_front : (m : ℕ) → ((d : Bool) (text : List ℕ) → length text ≤ m → ReadsAlike d text) → (d : Bool) (text : List ℕ) → length text ≤ suc m
    → (s : Lexeme) → lexeme_of d text ≡ s → ReadsAlike d text
alike_by_front m shorter d text short (lexeme.Fault c) h ts us e f se sf r q = same_at_stuck d ts us text e f (record { code = c; is = h }) r q
alike_by_front m shorter d text short (lexeme.Gap n) h ts us e f se sf r q =
    let g = gap_is d text n h in
    shorter d (drop (suc g.before) text) (omega (arith, length-drop (suc g.before) text)) ts us e f se sf
    (past_gap d ts text e g.before g.is se r) (past_gap d us text f g.before g.is sf q)
alike_by_front m shorter d text short (lexeme.Token k n) h ts us e f se sf r q =
    let a = past_token d ts text e k n h se r in
    let b = past_token d us text f k n h sf q in
    let some = (spelled d text (record { kind = k; len = n }) (token_is d text k n h).is).some in
    let same = shorter (divides_after k) (drop n text) (omega (arith, length-drop n text)) a.more b.more e f
    (subst (λ x. IsStuck (divides_behind d x) e) a.is se) (subst (λ x. IsStuck (divides_behind d x) f) b.is sf) a.reads b.reads in
    record { tokens = a.is ∙ ap (λ x. k ∷ x) same.tokens ∙ sym b.is; ends = same.ends }

alike : (m : ℕ) (d : Bool) (text : List ℕ) → length text ≤ m → ReadsAlike d text
alike zero d [] short ts us e f se sf r q = same_at_stuck d ts us [] e f (end_is_stuck d) r q
alike zero d (b ∷ text) short ts us e f se sf r q = absurd (omega arith)
alike (suc m) d text short ts us e f se sf r q = alike_by_front m (alike m) d text short (lexeme_of d text) refl ts us e f se sf r q

one_reading : (d : Bool) (text : List ℕ) → ReadsAlike d text
one_reading d text = alike (length text) d text (omega arith)

pub one_lexing : (ts us : List Kind) (text : List ℕ) → Lexes ts text → Lexes us text → ts ≡ us
one_lexing ts us text r q =
    (one_reading false text ts us [] [] (end_is_stuck (divides_behind false ts)) (end_is_stuck (divides_behind false us)) r q).tokens

fault_is_stuck : (d : Bool) (c : RefusalCode) (text : List ℕ) → Fault d c text → IsStuck d text
fault_is_stuck d c text f = record { code = c; is = fault_found d text c f }

no_fault_at_end : (d : Bool) (c : RefusalCode) → Fault d c [] → ⊥
no_fault_at_end d UnexpectedByte f = f.some refl
no_fault_at_end d OpenString f = let no = f.is in cc
no_fault_at_end d EscapeRefused f = let no = f.is in cc
no_fault_at_end d OpenPattern f = let no = f.1.is in cc
no_fault_at_end d NumberRefused f =
    let some = (spelled d [] _ (is_found d (Number f.value) [] f.after f.stands)).some in
    let n = ap length f.stands.is in
    omega (arith, some, length-append f.stands.word f.after)
no_fault_at_end d _ f = f

-- a text that is tokens does not break
pub no_break : (ts : List Kind) (c : RefusalCode) (text : List ℕ) → Lexes ts text → Breaks c text → ⊥
no_break ts c text r b =
    let d = divides_behind false b.tokens in
    let same = one_reading false text ts b.tokens [] b.place (end_is_stuck (divides_behind false ts)) (fault_is_stuck d c b.place b.fault) r b.reads in
    no_fault_at_end d c (subst (Fault d c) (sym same.ends) b.fault)

-- a text breaks with one code
pub one_break : (c e : RefusalCode) (text : List ℕ) → Breaks c text → Breaks e text → c ≡ e
one_break c e text b a =
    let d = divides_behind false b.tokens in
    let f = divides_behind false a.tokens in
    let same = one_reading false text b.tokens a.tokens b.place a.place (fault_is_stuck d c b.place b.fault) (fault_is_stuck f e a.place a.fault) b.reads a.reads in
    let codes : lexeme.Fault c ≡ lexeme.Fault e =
    sym (fault_found d b.place c b.fault) ∙ ap (λ ts. lexeme_of (divides_behind false ts) b.place) same.tokens ∙ ap (lexeme_of f) same.ends
    ∙ fault_found f a.place e a.fault in
    cc
