-- What reading answers, by the tokens that were read or by the fault that stands where it ended.
use Rattle.std.proofs.Common.{◌≡◌, ℕ, ◌<◌, ◌≤◌, ◌⊎◌, inl, inr, List, length, drop, Result, Ok, Err, refl, arith}
use Rattle.std.specs.Prelude.{All, IfOk, IfErr, OnOk}
use Rattle.std.specs.Global.{Vec}
use Rattle.awk_lex.specs.definitions.Lexes.{Lexes, Breaks}
use Rattle.awk_lex.specs.definitions.Refused.{IsOutOfMemory}
use Rattle.awk_lex.specs.definitions.Told.{kinds_of, StandsAt, InTurn, FaultStands, GivesOnly, Refuses, RefusesOnly}
use Rattle.awk_lex.specs.support.Reading.{AreTokens}
use Rattle.awk_lex.specs.declared.token.Kind.{Kind}
use Rattle.awk_lex.specs.declared.token.Token.{Token}
use Rattle.awk_lex.specs.declared.refusal.RefusalCode.{RefusalCode}
use Rattle.awk_lex.specs.declared.refusal.RefusalCode.TheVariants.{UnexpectedByte, OpenString, EscapeRefused, OpenPattern, NumberRefused, ProgramTooLong}
use Rattle.awk_lex.specs.declared.refusal.Refusal.{Refusal}
use Rattle.awk_lex.specs.declared.lexer.TheConstants.{LIMIT}
use Rattle.awk_lex.proofs.Unique.{one_lexing, no_break, one_break}

broken : (text : List ℕ) (refusal : Refusal) → FaultStands text refusal → Breaks refusal.code text
broken text refusal f = record { tokens = f.tokens; place = drop f.place text; reads = f.reads; fault = f.fault }

refuses : (c : RefusalCode) (text : List ℕ) → length text ≤ LIMIT → (b : Breaks c text) → Refuses c text
refuses UnexpectedByte text short b = (short, b)
refuses OpenString text short b = (short, b)
refuses EscapeRefused text short b = (short, b)
refuses OpenPattern text short b = (short, b)
refuses NumberRefused text short b = (short, b)
refuses _ text short b = absurd b.fault

-- a text that is not too long breaks where it is refused
breaks : (c : RefusalCode) (text : List ℕ) → length text ≤ LIMIT → Refuses c text → Breaks c text
breaks ProgramTooLong text short r = absurd (omega arith)
breaks _ text short r = r.1

pub too_long_only : (c : RefusalCode) (text : List ℕ) → LIMIT < length text → Refuses c text → ProgramTooLong ≡ c
too_long_only ProgramTooLong text long r = refl
too_long_only _ text long r = absurd (omega arith)

-- what is answered for a text that is not too long
pub record IsAnswer (text : List ℕ) (result : Result (Vec Token) Refusal) : Type 0 where
  pub found : IfOk result (λ tokens. Lexes (kinds_of tokens.items) text)
  pub short : OnOk result (length text ≤ LIMIT)
  pub in_turn : IfOk result (λ tokens. InTurn text 0 tokens.items (length text))
  pub within : IfOk result (λ tokens. All (λ token. (token.start ≤ token.end) × (token.end ≤ length text)) tokens.items)
  pub placed : IfOk result (λ tokens. All (StandsAt text) tokens.items)
  pub only : (ts : List Kind) → Lexes ts text → length text ≤ LIMIT → GivesOnly result ts
  pub refused : IfErr result (λ refusal. IsOutOfMemory refusal ⊎ Refuses refusal.code text)
  pub broken : (code : RefusalCode) → Refuses code text → RefusesOnly result code
  pub fault_line : length text ≤ LIMIT → IfErr result (λ refusal. IsOutOfMemory refusal ⊎ FaultStands text refusal)
  pub first_line : LIMIT < length text → IfErr result (λ refusal. refusal.line ≡ 1)

all_found : (text : List ℕ) (tokens : Vec Token) → length text ≤ LIMIT → AreTokens text tokens.items → IsAnswer text (Ok tokens)
all_found text tokens short a = record {
  found = a.lexes;
  short = short;
  in_turn = a.in_turn;
  within = a.within;
  placed = a.placed;
  only = λ ts lexes _. one_lexing (kinds_of tokens.items) ts text a.lexes lexes;
  refused = tt;
  broken = λ code refused. no_break (kinds_of tokens.items) code text a.lexes (breaks code text short refused);
  fault_line = λ _. tt;
  first_line = λ _. tt;
}

memory_refused : (text : List ℕ) (refusal : Refusal) → length text ≤ LIMIT → IsOutOfMemory refusal → IsAnswer text (Err refusal)
memory_refused text refusal short memory = record {
  found = tt;
  short = tt;
  in_turn = tt;
  within = tt;
  placed = tt;
  only = λ ts lexes _. memory;
  refused = inl memory;
  broken = λ code refused. inl memory;
  fault_line = λ _. inl memory;
  first_line = λ long. absurd (omega arith);
}

fault_found : (text : List ℕ) (refusal : Refusal) → length text ≤ LIMIT → FaultStands text refusal → IsAnswer text (Err refusal)
fault_found text refusal short fault =
    let b = broken text refusal fault in
    record {
      found = tt;
      short = tt;
      in_turn = tt;
      within = tt;
      placed = tt;
      only = λ ts lexes _. absurd (no_break ts refusal.code text lexes b);
      refused = inr (refuses refusal.code text short b);
      broken = λ code refused. inr (one_break refusal.code code text b (breaks code text short refused));
      fault_line = λ _. inr fault;
      first_line = λ long. absurd (omega arith);
    }

pub answer : (text : List ℕ) (result : Result (Vec Token) Refusal) → length text ≤ LIMIT → IfOk result (λ tokens. AreTokens text tokens.items)
    → IfErr result (λ refusal. IsOutOfMemory refusal ⊎ FaultStands text refusal) → IsAnswer text result
answer text (Ok tokens) short whole fault = all_found text tokens short whole
answer text (Err refusal) short whole (inl memory) = memory_refused text refusal short memory
answer text (Err refusal) short whole (inr fault) = fault_found text refusal short fault
