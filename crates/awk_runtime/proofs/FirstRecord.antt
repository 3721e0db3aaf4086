-- What reading records does where one is at hand: the record before it is of no account.
use Rattle.std.proofs.Common.{◌≡◌, ℕ, suc, List, [], ◌∷◌, ◌++◌, Option, Some, None, Result, Ok, Err, refl, sym, ap, ◌∙◌}
use Rattle.awk_record.specs.Record.{RecordPair}
use Rattle.awk_record.specs.Cut.{Cut, Found, NoMore, BrokenOff, TooLong, cut_of}
use Rattle.awk_streams.specs.declared.fault.StreamFault.{StreamFault}
use Rattle.awk_streams.specs.declared.fault.StreamFault.TheVariants.{InputNotReadable, RecordTooLong}
use Rattle.awk_streams.specs.Inputs.{NextTold}
use Rattle.awk_streams.specs.Oracle.{Source}
use Rattle.awk_kinds.specs.declared.special.Special.TheVariants.{Rs}
use Rattle.awk_semantics.specs.State.{Effect, Requested, RecordOfMain, State, Out, Run, go_on, ◌>>=◌, lift, gives}
use Rattle.awk_semantics.specs.Streams.{asking, with_rest, taken, taken_of, take_record}
use Rattle.awk_semantics.specs.Primitives.{text_in, spend_of, spend, set_record}
use Rattle.awk_semantics.specs.Inputs.{at_end, main_record, or_else, search_operands, next_record}
use Rattle.awk_semantics.specs.Items.{begin_record, on_record, each_record}

abbrev answered : List ℕ → Result (Option (List ℕ)) StreamFault
answered first = Ok (Some first)

-- the cut of what is left, where a record was answered
pub cut_found : (c : Cut) (first bytes left : List ℕ) → NextTold c (answered first) bytes left → c ≡ Found first left
cut_found (Found x rest) first bytes left told = let e : answered first ≡ answered x = told.0 in let f : left ≡ rest = told.1 in cc
cut_found NoMore first bytes left told = let e : answered first ≡ Ok None = told.0 in absurd (cc)
cut_found BrokenOff first bytes left told = let e : answered first ≡ Err InputNotReadable = told.0 in absurd (cc)
cut_found TooLong first bytes left told = let e : answered first ≡ Err RecordTooLong = told.0 in absurd (cc)

-- a part that went well, and then the rest
bound : {A B : Type 0} {a : A} (m : Run A) (f : A → Run B) (s t : State) (es : List Effect) → m s ≡ record { result = Ok a; state = t; effects = es } → (m >>= f) s ≡ record { result = (f a t).result; state = (f a t).state; effects = es ++ (f a t).effects }
unfolding ◌>>=◌ go_on
bound m f s t es e = ap (λ (o : Out _). go_on o.result o.state o.effects f) e

bound_same : {A B : Type 0} (m : Run A) (f : A → Run B) (s t : State) → m s ≡ m t → (m >>= f) s ≡ (m >>= f) t
unfolding ◌>>=◌
bound_same m f s t e = ap (λ (o : Out _). go_on o.result o.state o.effects f) e

begins_same : (text : List ℕ) (s : State) (current : RecordPair) → begin_record text (record s { current = current }) ≡ begin_record text s
unfolding begin_record set_record ◌>>=◌ go_on
begins_same text s current = refl

module _ (separator next left : List ℕ) (n j : ℕ) (action : Run (Unit {0})) (whole : Source) (cut : cut_of separator whole.bytes whole.ending ≡ Found next left) where
  -- what follows the reading
  abbrev behind : Run (Unit {0})
  behind = spend >>= λ _. begin_record next >>= λ _. action >>= λ _. each_record n action

  abbrev asked : Out (Unit {0}) → Out (Unit {0})
  asked o = record { result = o.result; state = o.state; effects = Requested (RecordOfMain separator whole.bytes) ∷ o.effects }

  first_taken : (s : State) → s.main ≡ Some whole → text_in s Rs ≡ separator → take_record s ≡ asking (RecordOfMain separator whole.bytes) (Some next) (with_rest s left whole.ending)
  unfolding take_record
  first_taken s main rs =
      ap (λ (o : Option Source). taken_of o (text_in s Rs) s) main ∙ (ap (λ l. taken_of (Some whole) l s) rs ∙ ap (λ (c : Cut). taken c separator whole s) cut)

  first_next : (s : State) → s.main ≡ Some whole → text_in s Rs ≡ separator → next_record s ≡ asking (RecordOfMain separator whole.bytes) (Some next) (with_rest s left whole.ending)
  unfolding next_record main_record lift
  first_next s main rs =
      bound main_record (λ found. or_else found search_operands) s (with_rest s left whole.ending) (Requested (RecordOfMain separator whole.bytes) ∷ [])
      (bound take_record at_end s (with_rest s left whole.ending) (Requested (RecordOfMain separator whole.bytes) ∷ []) (first_taken s main rs))

  each_first : (s : State) → s.main ≡ Some whole → text_in s Rs ≡ separator → each_record (suc n) action s ≡ asked (behind (with_rest s left whole.ending))
  unfolding each_record
  each_first s main rs =
      bound next_record (λ found. on_record found (λ text. spend >>= λ _. begin_record text >>= λ _. action >>= λ _. each_record n action)) s (with_rest s left whole.ending) (Requested (RecordOfMain separator whole.bytes) ∷ []) (first_next s main rs)

  spent : (s : State) → s.steps ≡ suc j → spend s ≡ gives tt (record s { steps = j })
  unfolding spend
  spent s steps = ap (λ i. spend_of i s) steps

  behind_is : (s : State) → s.steps ≡ suc j → behind s ≡ (begin_record next >>= λ _. action >>= λ _. each_record n action) (record s { steps = j })
  behind_is s steps = bound spend (λ _. begin_record next >>= λ _. action >>= λ _. each_record n action) s (record s { steps = j }) [] (spent s steps)

  behind_same : (s : State) (current : RecordPair) → s.steps ≡ suc j → behind (record s { current = current }) ≡ behind s
  behind_same s current steps =
      behind_is (record s { current = current }) steps
      ∙ (bound_same (begin_record next) (λ _. action >>= λ _. each_record n action) (record s { current = current; steps = j }) (record s { steps = j }) (begins_same next (record s { steps = j }) current)
      ∙ sym (behind_is s steps))

  -- the record before it is of no account
  pub each_same : (s : State) (current : RecordPair) → s.main ≡ Some whole → text_in s Rs ≡ separator → s.steps ≡ suc j → each_record (suc n) action (record s { current = current }) ≡ each_record (suc n) action s
  each_same s current main rs steps =
      each_first (record s { current = current }) main rs
      ∙ (ap asked (behind_same (with_rest s left whole.ending) current steps)
      ∙ sym (each_first s main rs))
