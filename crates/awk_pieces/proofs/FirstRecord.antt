-- The first record: standard input is opened, since there is no operand.
use Rattle.std.proofs.Common.{◌≡◌, ℕ, suc, false, List, [], ◌∷◌, ◌++◌, None, Result, Ok, Err, pos, refl, ap, codes, append_assoc}
use Rattle.awk_value.specs.declared.value.Value.TheVariants as value
use Rattle.awk_value.specs.Values.{str_of}
use Rattle.awk_record.specs.definitions.Cut.{AtEnd, Cut, Found, NoMore, BrokenOff, TooLong, cut_of}
use Rattle.awk_record.specs.definitions.Record.{RecordPair}
use Rattle.awk_kinds.specs.Variables.{with_value}
use Rattle.awk_world.specs.declared.world.InputKind.TheVariants as input
use Rattle.awk_streams.specs.Oracle.{Oracle}
use Rattle.awk_semantics.specs.declared.halt.Halt.{Halt}
use Rattle.awk_semantics.specs.definitions.State.{OpensMain, Effect, Requested, State, Run, go_on, ◌>>=◌, lift}
use Rattle.awk_semantics.specs.definitions.Primitives.{put_special, take_argument}
use Rattle.awk_semantics.specs.definitions.Streams.{one_more, open_main, begin_input, note_input, take_record, close_main, is_input_seen}
use Rattle.awk_semantics.specs.definitions.Inputs.{main_record, first_record, standard_record, search_operands_within, search_operands, next_record}
use Rattle.awk_semantics.specs.definitions.Items.{each_record}
use Rattle.awk_pieces.specs.definitions.LawOfPieces.{Gives}
use Rattle.awk_pieces.proofs.Alike.{Outer, Values, state_on, behind}
use Rattle.awk_pieces.proofs.LinesJoined.{newline}
use Rattle.awk_pieces.proofs.RecordsFound.{reading}

-- no input was opened
abbrev pub unread : Oracle → Outer
unread x = record { outside = x; main = None; seen = false }

abbrev pub with_opening : State → State
with_opening base = record base { openings = one_more input.Standard [] base.openings }

-- an input has no name, and its records are counted from 0
abbrev pub opened : Values → Values
opened v = with_value (with_value v (codes "FILENAME") (value.Input [])) (codes "FNR") (value.Number (pos 0))

abbrev opens : List Effect
opens = Requested (OpensMain input.Standard []) ∷ []

-- records are lines, and there are no operands
pub record OpensLines (base : State) (v : Values) : Type 0 where
  pub rs : str_of (v (codes "RS")) ≡ newline
  pub argc : v (codes "ARGC") ≡ value.Number (pos 1)
  pub first : base.openings input.Standard [] ≡ 0

module _ (base : State) (x : Oracle) (text : List ℕ) (given : Gives x text) (c : RecordPair) (v : Values) (lines : OpensLines base v) where
  first_by : (cut : Cut) (k : ℕ) → cut_of newline text AtEnd ≡ cut → next_record (state_on base (unread x) c v k) ≡ behind opens (next_record (state_on (with_opening base) (reading x text) c (opened v) k))
  unfolding next_record main_record first_record take_record close_main search_operands search_operands_within take_argument standard_record is_input_seen open_main begin_input note_input put_special ◌>>=◌ go_on lift
  first_by (Found first left) k cut = rw (lines.argc, lines.first, given, lines.rs, cut) refl
  first_by NoMore k cut = rw (lines.argc, lines.first, given, lines.rs, cut, lines.argc) refl
  first_by BrokenOff k cut = rw (lines.argc, lines.first, given, lines.rs, cut) refl
  first_by TooLong k cut = rw (lines.argc, lines.first, given, lines.rs, cut) refl

  goes_behind : {A B : Type 0} (effects : List Effect) (r : Result A Halt) (t : State) (es : List Effect) (f : A → Run B) → go_on r t (effects ++ es) f ≡ behind effects (go_on r t es f)
  unfolding go_on
  goes_behind effects (Ok a) t es f = ap (λ (l : List Effect). record { result = (f a t).result; state = (f a t).state; effects = l }) (append_assoc effects es (f a t).effects)
  goes_behind effects (Err h) t es f = refl

  pub first_opens : (n k : ℕ) (action : Run (Unit {0})) → each_record (suc n) action (state_on base (unread x) c v k) ≡ behind opens (each_record (suc n) action (state_on (with_opening base) (reading x text) c (opened v) k))
  unfolding each_record ◌>>=◌
  first_opens n k action = rw (first_by (cut_of newline text AtEnd) k refl) (goes_behind opens _ _ _ _)
