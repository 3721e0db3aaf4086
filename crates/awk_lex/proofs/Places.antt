-- Where tokens and faults stand.
use Rattle.std.proofs.Common.{◌≡◌, ℕ, ◌+◌, ◌<◌, Bool, false, List, [], ◌∷◌, ◌++◌, length, drop, sym, ap, ◌∙◌, subst, arith, drop-drop}
use Rattle.awk_lex.specs.definitions.Lexes.{Skips, Stands, divides_behind, Fault}
use Rattle.awk_lex.specs.support.Lexeme.{lexeme_of}
use Rattle.awk_lex.specs.definitions.Told.{line_at, StandsAt, GapBetween, InTurn, FaultStands}
use Rattle.awk_lex.specs.declared.token.Kind.{Kind}
use Rattle.awk_lex.specs.declared.token.Token.{Token}
use Rattle.awk_lex.specs.declared.refusal.RefusalCode.{RefusalCode}
use Rattle.awk_lex.specs.declared.refusal.Refusal.{Refusal}
use Rattle.awk_lex.specs.declared.lexeme.Lexeme.TheVariants as lexeme
use Rattle.awk_lex.proofs.Longest.{stands}
use Rattle.awk_lex.proofs.Gaps.{skip_more, skip_none}
use Rattle.awk_lex.proofs.Read.{token_is, gap_is}
use Rattle.awk_lex.proofs.Progress.{IsRead, fault_here}

-- the token in front stands on its stretch
pub stands_at : (d : Bool) (text : List ℕ) (at n line : ℕ) (k : Kind) → line ≡ line_at text at → lexeme_of d (drop at text) ≡ lexeme.Token k n
    → StandsAt text (record { kind = k; line = line; start = at; end = at + n })
stands_at d text at n line k line_is h =
    let found = stands d (drop at text) (record { kind = k; len = n }) (token_is d (drop at text) k n h).is in
    record { divides = d; stands = subst (Stands d k (drop at text)) (drop-drop n at text) found; line = line_is }

-- no byte stands between a place and itself
pub none_between : (text : List ℕ) (at : ℕ) → GapBetween text at at
none_between text at = record { ordered = omega arith; skips = skip_none (drop at text) }

-- a part more of a gap
gap_more : (d : Bool) (text : List ℕ) (from at n : ℕ) → GapBetween text from at → lexeme_of d (drop at text) ≡ lexeme.Gap n → GapBetween text from (at + n)
gap_more d text from at n g h =
    let part = gap_is d (drop at text) n h in
    let more = skip_more (drop from text) (drop at text) part.before g.skips part.is in
    let rest = ap (λ k. drop k (drop at text)) (sym part.len) ∙ drop-drop n at text in
    record { ordered = omega (arith, g.ordered); skips = subst (Skips (drop from text)) rest more }

-- behind the last token, a part more of a gap
pub further : (d : Bool) (text : List ℕ) (from : ℕ) (ts : List Token) (at n : ℕ) → InTurn text from ts at → lexeme_of d (drop at text) ≡ lexeme.Gap n
    → InTurn text from ts (at + n)
further d text from [] at n g h = gap_more d text from at n g h
further d text from (t ∷ ts) at n g h = (g.0, g.1, further d text t.end ts at n g.2 h)

-- one token more
pub one_more : (text : List ℕ) (from : ℕ) (ts : List Token) (t : Token) → InTurn text from ts t.start → t.start < t.end → InTurn text from (ts ++ t ∷ []) t.end
one_more text from [] t g some = (g, some, none_between text t.end)
one_more text from (u ∷ ts) t g some = (g.0, g.1, one_more text u.end ts t g.2 some)

pub fault_stands : (ts : List Kind) (d : Bool) (text : List ℕ) (at : ℕ) (refusal : Refusal) (c : RefusalCode) → at < length text → IsRead ts d text at
    → lexeme_of d (drop at text) ≡ lexeme.Fault c → refusal.code ≡ c → refusal.line ≡ line_at text at → FaultStands text refusal
fault_stands ts d text at refusal c inside r h code_is line_is =
    record {
      tokens = ts;
      place = at;
      reads = r.reads;
      fault = subst (λ x. Fault (divides_behind false ts) x (drop at text)) (sym code_is) (fault_here ts d text at c inside r h);
      line = line_is;
    }
