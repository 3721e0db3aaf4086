-- The law of merging.
use Rattle.std.proofs.Common.{◌≡◌, ◌≢◌, ◌⊎◌, inl, inr, ℕ, ◌+◌, ◌-◌, ◌≤◌, ◌<◌, ◌^◌, true, List, [], ◌∷◌, ◌++◌, length, Result, Ok, Err, refl, sym, ap, ap₂, ◌∙◌, subst, arith}
use Rattle.awk_record.specs.Record.{RecordPair}
use Rattle.awk_streams.specs.Oracle.{Oracle}
use Rattle.awk_streams.specs.Openings.{Opening}
use Rattle.awk_grammar.specs.Tree.{Item}
use Rattle.awk_semantics.specs.declared.halt.Halt.{Halt}
use Rattle.awk_semantics.specs.declared.halt.Halt.TheVariants as halt
use Rattle.awk_semantics.specs.declared.fault.Fault.TheVariants as fault
use Rattle.awk_semantics.specs.declared.outcome.Outcome.TheVariants.{Ended, Fault, Stopped}
use Rattle.awk_semantics.specs.definitions.State.{Effect, Printed, Requested, Ends, Stream, State, Out, go_on, ◌>>=◌, gives}
use Rattle.awk_semantics.specs.definitions.Semantics.{Functions}
use Rattle.awk_semantics.specs.definitions.Items.{until_exit, has_rule, begin_items, run_before_end, run_items}
use Rattle.awk_semantics.specs.definitions.Meaning.{StartValues, outcome_of, closings_of, run_program, with_bytes, outputs_asked, outputs_from, first_outputs, Meaning, meaning_of}
use Rattle.awk_semantics.proofs.LawOfLimits.{law_of_limits}
use Rattle.awk_pieces.specs.definitions.LawOfPieces.{Gives}
use Rattle.awk_pieces.proofs.Alike.{Values}
use Rattle.awk_pieces.proofs.RecordsPassed.{EndsWell}
use Rattle.awk_value.specs.declared.value.Value.TheVariants as value
use Rattle.awk_merging.specs.definitions.Sums.{Alone}
use Rattle.awk_merging.specs.definitions.LawOfDerived.{IsOneOf}
use Rattle.awk_merging.specs.definitions.LawOfAll.{state_begun}
use Rattle.awk_merging.specs.definitions.LawOfStates.{Cells, steps_of}
use Rattle.awk_merging.specs.definitions.Mergeable.{IsMergeable}
use Rattle.awk_merging.specs.definitions.Derived.{each_of, all_of}
use Rattle.awk_merging.specs.definitions.LawOfMerging.{HasLineNames, StartsApart, Piece, texts_of, states_of, AllButLastEndLine, IsPrinted, ArePrinted, SameEnd, LawOfMerging}
use Rattle.awk_merging.proofs.FirstStates.{ready}
use Rattle.awk_merging.proofs.MergedRuns.{EndSame, records, gathers, lost_whole, end_same}
use Rattle.awk_merging.proofs.PiecesGathered.{finish, records_of, StartsLines, IsReadyFor, PieceRun, Gathered, texts, states, steps_of_all, AllJoin}
use Rattle.awk_merging.proofs.Prepared.{own, own_proper, IsProgram, items_program, each_program, all_program, base, functions, run_of, Prepared, run_is, same_begun, BothPrepared, prepare}
use Rattle.awk_merging.proofs.Summing.{Lost}

-- the end of a run opens no output

closed : (os : List Opening) (streams : List Stream) → outputs_from os (closings_of streams) ≡ os
closed os [] = refl
closed os (x ∷ xs) = closed os xs

outputs_ended : (os : List Opening) (es : List Effect) (streams : List Stream) → outputs_from os (es ++ Requested Ends ∷ closings_of streams) ≡ outputs_from os es
outputs_ended os [] streams = closed os streams
outputs_ended os (Printed n bytes ∷ es) streams = outputs_ended (with_bytes n bytes os) es streams
outputs_ended os (Requested what ∷ es) streams = outputs_ended (outputs_asked what os) es streams

outcome_ends : (r : Result (Unit {0}) Halt) (status : ℕ) → outcome_of r status ≡ Ended 0 → EndsWell r
outcome_ends (Ok u) status e = tt
outcome_ends (Err halt.Exit) status e = tt
outcome_ends (Err halt.Next) status e = absurd (cc)
outcome_ends (Err halt.OutOfSteps) status e = absurd (cc)
outcome_ends (Err (halt.Fault f)) status e = absurd (cc)

finish_of : (f : Functions) (program : List Item) (s t : State) → begin_items f program s ≡ gives (tt {0}) t → has_rule program ≡ true → run_items f program s ≡ finish f program (records_of f program t)
unfolding run_items run_before_end until_exit ◌>>=◌ go_on
finish_of f program s t begun has = rw (begun, has) refl

steps_plus : (cells : Cells) (k : ℕ) → steps_of cells k ≡ steps_of cells 0 + k
steps_plus [] k = omega arith
steps_plus (x ∷ cells) k = let rest = steps_plus cells k in omega arith

abbrev pub total : List Piece → ℕ
total [] = 0
total (piece ∷ pieces) = piece.limit + total pieces

first_le : (piece : Piece) (pieces : List Piece) (limit : ℕ) → total (piece ∷ pieces) ≤ limit → piece.limit ≤ limit
first_le piece pieces limit le = omega arith

rest_le : (piece : Piece) (pieces : List Piece) (limit : ℕ) → total (piece ∷ pieces) ≤ limit → total pieces ≤ limit
rest_le piece pieces limit le = omega arith

filled : (n limit : ℕ) → n ≤ limit → n + (limit - n) ≡ limit
filled n limit le = omega arith

module _ (items : List Item) (mergeable : IsMergeable items) (named : HasLineNames items) (has : has_rule items ≡ true) (start : StartValues) (apart : StartsApart items start) where
  abbrev run : List Item → Oracle → ℕ → Out (Unit {0})
  run program o limit = run_of items mergeable has start apart program o limit

  outcome_is : (program : List Item) (o : Oracle) (limit : ℕ) → (meaning_of program start o limit).outcome ≡ outcome_of (run program o limit).result (run program o limit).state.status
  unfolding run_program
  outcome_is program o limit = refl

  outputs_are : (program : List Item) (o : Oracle) (limit : ℕ) → (meaning_of program start o limit).outputs ≡ outputs_from first_outputs (run program o limit).effects
  unfolding run_program
  outputs_are program o limit = outputs_ended first_outputs (run program o limit).effects (run program o limit).state.streams

  piece_well : (piece : Piece) → IsPrinted items start piece → EndsWell (run (each_of items) piece.outside piece.limit).result
  piece_well piece printed = outcome_ends _ (run (each_of items) piece.outside piece.limit).state.status (sym (outcome_is (each_of items) piece.outside piece.limit) ∙ printed.prints.ends)

  -- a run that is prepared
  run_finishes : (program : List Item) → IsProgram items mergeable has start apart program → (o : Oracle) (limit : ℕ) (pair : RecordPair) (values : Values) (left : ℕ) → Prepared items mergeable has start apart program o limit pair values left →
      run program o limit ≡ finish (functions items mergeable has start apart program limit) program (records_of (functions items mergeable has start apart program limit) program (state_begun (base items mergeable has start apart program o) pair values left))
  run_finishes program is o limit pair values left p =
      let f : Functions = functions items mergeable has start apart program limit in
      run_is items mergeable has start apart program o limit pair values left p
      ∙ finish_of f program p.mid (state_begun (base items mergeable has start apart program o) pair values left) (is.begins f p.mid ∙ p.begun) is.rules

  module _ (of_whole : Oracle) (limit : ℕ) (pair : RecordPair) (values : Values) (left : ℕ) (starts : StartsLines values) (unset : (x : List ℕ) → IsOneOf (Alone x) (own items mergeable has start apart) → values x ≡ value.Nothing)
      (whole : Prepared items mergeable has start apart items of_whole limit pair values left) where
    abbrev RunOn : Type 0
    RunOn = PieceRun items mergeable named pair values starts

    abbrev at : List Item → Oracle → State
    at program o = base items mergeable has start apart program o

    abbrev with_steps : List Item → ℕ → Functions
    with_steps program n = functions items mergeable has start apart program n

    ready_at : (program : List Item) → IsProgram items mergeable has start apart program → (o : Oracle) → IsReadyFor (own items mergeable has start apart) values (at program o)
    ready_at program is o = ready start (own items mergeable has start apart) (own_proper items mergeable has start apart) program is.plain o values unset

    module _ (piece : Piece) (printed : IsPrinted items start piece) (d : ℕ) (sum : piece.limit + d ≡ limit) where
      both : BothPrepared items mergeable has start apart (each_of items) items piece.outside of_whole piece.limit d
      both = prepare items mergeable has start apart (each_of items) items (each_program items mergeable has start apart) (items_program items mergeable has start apart) piece.outside of_whole piece.limit d (piece_well piece printed)

      same_whole : state_begun (at items of_whole) both.pair both.values (both.left + d) ≡ state_begun (at items of_whole) pair values left
      same_whole = same_begun items mergeable has start apart items of_whole limit both.pair pair both.values values (both.left + d) left
          (subst (λ (n : ℕ). Prepared items mergeable has start apart items of_whole n both.pair both.values (both.left + d)) sum both.theirs) whole

      same_piece : state_begun (at (each_of items) piece.outside) both.pair both.values both.left ≡ state_begun (at (each_of items) piece.outside) pair values both.left
      same_piece = ap₂ (λ (c : RecordPair) (v : Values). state_begun (at (each_of items) piece.outside) c v both.left) (ap (λ (s : State). s.current) same_whole) (ap (λ (s : State). s.variables) same_whole)

      abbrev piece_functions : Functions
      piece_functions = with_steps (each_of items) piece.limit

      piece_is : run (each_of items) piece.outside piece.limit ≡ finish piece_functions (each_of items) (records_of piece_functions (each_of items) (state_begun (at (each_of items) piece.outside) pair values both.left))
      piece_is =
          run_finishes (each_of items) (each_program items mergeable has start apart) piece.outside piece.limit both.pair both.values both.left both.mine
          ∙ ap (λ (s : State). finish piece_functions (each_of items) (records_of piece_functions (each_of items) s)) same_piece

      abbrev piece_run : RunOn
      piece_run = record {
        base = at (each_of items) piece.outside;
        functions = piece_functions;
        steps = both.left;
        text = piece.text;
        state = piece.state;
        ready = ready_at (each_of items) (each_program items mergeable has start apart) piece.outside;
        given = printed.given;
        short = printed.short;
        ended = sym (ap (λ (z : Out (Unit {0})). outcome_of z.result z.state.status) piece_is) ∙ sym (outcome_is (each_of items) piece.outside piece.limit) ∙ printed.prints.ends;
        prints = sym (ap (λ (z : Out (Unit {0})). outputs_from first_outputs z.effects) piece_is) ∙ sym (outputs_are (each_of items) piece.outside piece.limit) ∙ printed.prints.prints;
      }

    -- all pieces

    abbrev one_run : (piece : Piece) → IsPrinted items start piece → piece.limit ≤ limit → RunOn
    one_run piece printed le = piece_run piece printed (limit - piece.limit) (filled piece.limit limit le)

    abbrev all_runs : (pieces : List Piece) → ArePrinted items start pieces → total pieces ≤ limit → List RunOn
    all_runs [] printed le = []
    all_runs (piece ∷ pieces) printed le = one_run piece printed.0 (first_le piece pieces limit le) ∷ all_runs pieces printed.1 (rest_le piece pieces limit le)

    abbrev whole_functions : Functions
    whole_functions = with_steps items limit

    abbrev whole_ready : IsReadyFor (own items mergeable has start apart) values (at items of_whole)
    whole_ready = ready_at items (items_program items mergeable has start apart) of_whole

    texts_same : (pieces : List Piece) (printed : ArePrinted items start pieces) (le : total pieces ≤ limit) → texts items mergeable named pair values starts (at items of_whole) whole_functions whole_ready (all_runs pieces printed le) ≡ texts_of pieces
    texts_same [] printed le = refl
    texts_same (piece ∷ pieces) printed le = ap (λ (l : List ℕ). piece.text ++ l) (texts_same pieces printed.1 (rest_le piece pieces limit le))

    states_same : (pieces : List Piece) (printed : ArePrinted items start pieces) (le : total pieces ≤ limit) → states items mergeable named pair values starts (at items of_whole) whole_functions whole_ready (all_runs pieces printed le) ≡ states_of pieces
    states_same [] printed le = refl
    states_same (piece ∷ pieces) printed le = ap (λ (l : List ℕ). piece.state ++ l) (states_same pieces printed.1 (rest_le piece pieces limit le))

    few_steps : (pieces : List Piece) (printed : ArePrinted items start pieces) (le : total pieces ≤ limit) → steps_of_all items mergeable named pair values starts (at items of_whole) whole_functions whole_ready (all_runs pieces printed le) ≤ total pieces
    few_steps [] printed le = omega arith
    few_steps (piece ∷ pieces) printed le =
        let rest = few_steps pieces printed.1 (rest_le piece pieces limit le) in
        let first = (both piece printed.0 (limit - piece.limit) (filled piece.limit limit (first_le piece pieces limit le))).falls in
        omega (arith, rest, first)

    all_join : (piece : Piece) (pieces : List Piece) → AllButLastEndLine piece pieces → (printed : ArePrinted items start (piece ∷ pieces)) (le : total (piece ∷ pieces) ≤ limit) → AllJoin items mergeable named pair values starts (at items of_whole) whole_functions whole_ready (all_runs (piece ∷ pieces) printed le)
    all_join piece [] lines printed le = (inr refl, tt)
    all_join piece (next ∷ pieces) lines printed le = (inl lines.0, all_join next pieces lines.1 printed.1 (rest_le piece (next ∷ pieces) limit le))

    whole_is : run items of_whole limit ≡ finish whole_functions items (records_of whole_functions items (state_begun (at items of_whole) pair values left))
    whole_is = run_finishes items (items_program items mergeable has start apart) of_whole limit pair values left whole

-- the whole and what was printed of its pieces

module _ (items : List Item) (mergeable : IsMergeable items) (named : HasLineNames items) (has : has_rule items ≡ true) (start : StartValues) (apart : StartsApart items start) (piece : Piece) (pieces : List Piece) (lines : AllButLastEndLine piece pieces)
    (printed : ArePrinted items start (piece ∷ pieces)) (fits : length (texts_of (piece ∷ pieces)) < 2 ^ 127) (few : length (states_of (piece ∷ pieces)) < 2 ^ 127) (of_states of_whole : Oracle) (gives_states : Gives of_states (states_of (piece ∷ pieces)))
    (gives_texts : Gives of_whole (texts_of (piece ∷ pieces))) (m n : ℕ) (enough : (meaning_of (all_of items) start of_states m).outcome ≢ Stopped) (enough' : (meaning_of items start of_whole n).outcome ≢ Stopped) where
  abbrev all : List Piece
  all = piece ∷ pieces

  -- so many steps for the whole
  abbrev limit : ℕ
  limit = n + (piece.limit + total all)

  abbrev more : ℕ
  more = n + total all

  first_limit : piece.limit + more ≡ limit
  first_limit = omega arith

  le : total all ≤ limit
  le = omega arith

  well : EndsWell (run items mergeable named has start apart (each_of items) piece.outside piece.limit).result
  well = piece_well items mergeable named has start apart piece printed.0

  first : BothPrepared items mergeable has start apart (each_of items) items piece.outside of_whole piece.limit more
  first = prepare items mergeable has start apart (each_of items) items (each_program items mergeable has start apart) (items_program items mergeable has start apart) piece.outside of_whole piece.limit more well

  whole : Prepared items mergeable has start apart items of_whole limit first.pair first.values (first.left + more)
  whole = subst (λ (l : ℕ). Prepared items mergeable has start apart items of_whole l first.pair first.values (first.left + more)) first_limit first.theirs

  whole_limit : meaning_of items start of_whole limit ≡ meaning_of items start of_whole n
  whole_limit = (law_of_limits items start of_whole n (piece.limit + total all)).settled enough'

  abbrev steps : ℕ
  steps = first.left + more

  abbrev runs : List (PieceRun items mergeable named first.pair first.values first.starts)
  runs = all_runs items mergeable named has start apart of_whole limit first.pair first.values steps first.starts first.unset whole all printed le

  abbrev whole_base : State
  whole_base = base items mergeable has start apart items of_whole

  abbrev f : Functions
  f = functions items mergeable has start apart items limit

  is_ready : (program : List Item) → IsProgram items mergeable has start apart program → (o : Oracle) → IsReadyFor (own items mergeable has start apart) first.values (base items mergeable has start apart program o)
  is_ready program is o = ready start (own items mergeable has start apart) (own_proper items mergeable has start apart) program is.plain o first.values first.unset

  abbrev unopened : IsReadyFor (own items mergeable has start apart) first.values whole_base
  unopened = whole_ready items mergeable named has start apart of_whole limit first.pair first.values steps first.starts first.unset whole

  same_texts : texts items mergeable named first.pair first.values first.starts whole_base f unopened runs ≡ texts_of all
  same_texts = texts_same items mergeable named has start apart of_whole limit first.pair first.values steps first.starts first.unset whole all printed le

  same_states : states items mergeable named first.pair first.values first.starts whole_base f unopened runs ≡ states_of all
  same_states = states_same items mergeable named has start apart of_whole limit first.pair first.values steps first.starts first.unset whole all printed le

  abbrev out : Out (Unit {0})
  out = finish f items (records_of f items (state_begun whole_base first.pair first.values steps))

  out_is : run items mergeable named has start apart items of_whole limit ≡ out
  out_is = whole_is items mergeable named has start apart of_whole limit first.pair first.values steps first.starts first.unset whole

  given : Gives of_whole (texts items mergeable named first.pair first.values first.starts whole_base f unopened runs)
  given = subst (λ (l : List ℕ). Gives of_whole l) (sym same_texts) gives_texts

  joins : AllJoin items mergeable named first.pair first.values first.starts whole_base f unopened runs
  joins = all_join items mergeable named has start apart of_whole limit first.pair first.values steps first.starts first.unset whole piece pieces lines printed le

  steps_enough : steps_of_all items mergeable named first.pair first.values first.starts whole_base f unopened runs ≤ steps
  steps_enough =
      let own_steps = few_steps items mergeable named has start apart of_whole limit first.pair first.values steps first.starts first.unset whole all printed le in
      omega (arith, own_steps)

  fits_all : length (texts items mergeable named first.pair first.values first.starts whole_base f unopened runs) < 2 ^ 127
  fits_all = subst (λ (l : List ℕ). length l < 2 ^ 127) (sym same_texts) fits

  abbrev Gathers : Type 0
  Gathers = Gathered items mergeable named first.pair first.values first.starts whole_base f unopened (λ name. []) runs (records items mergeable named first.pair first.values first.starts whole_base f unopened runs steps given joins steps_enough fits_all)

  whole_outcome : (meaning_of items start of_whole n).outcome ≡ outcome_of out.result out.state.status
  whole_outcome = ap (λ (z : Meaning). z.outcome) (sym whole_limit) ∙ outcome_is items mergeable named has start apart items of_whole limit ∙ ap (λ (z : Out (Unit {0})). outcome_of z.result z.state.status) out_is

  whole_outputs : (meaning_of items start of_whole n).outputs ≡ outputs_from first_outputs out.effects
  whole_outputs = ap (λ (z : Meaning). z.outputs) (sym whole_limit) ∙ outputs_are items mergeable named has start apart items of_whole limit ∙ ap (λ (z : Out (Unit {0})). outputs_from first_outputs z.effects) out_is

  -- where a sum left the range
  lost : Lost out → (meaning_of items start of_whole n).outcome ≡ Fault fault.NumberOutOfRange
  lost is = whole_outcome ∙ ap (λ (r : Result (Unit {0}) Halt). outcome_of r out.state.status) is

  -- where none did
  module _ (g : Gathers) where
    abbrev needed : ℕ
    needed = steps_of g.cells 0

    abbrev all_limit : ℕ
    all_limit = piece.limit + (m + needed)

    all_limit_is : m + (piece.limit + needed) ≡ all_limit
    all_limit_is = omega arith

    all_same : meaning_of (all_of items) start of_states all_limit ≡ meaning_of (all_of items) start of_states m
    all_same = ap (meaning_of (all_of items) start of_states) (sym all_limit_is) ∙ (law_of_limits (all_of items) start of_states m (piece.limit + needed)).settled enough

    second : BothPrepared items mergeable has start apart (each_of items) (all_of items) piece.outside of_states piece.limit (m + needed)
    second = prepare items mergeable has start apart (each_of items) (all_of items) (each_program items mergeable has start apart) (all_program items mergeable has start apart) piece.outside of_states piece.limit (m + needed) well

    abbrev all_base : State
    all_base = base items mergeable has start apart (all_of items) of_states

    abbrev h : Functions
    h = functions items mergeable has start apart (all_of items) all_limit

    -- the same run of the first program comes before both
    same_first : state_begun (base items mergeable has start apart (each_of items) piece.outside) second.pair second.values second.left ≡ state_begun (base items mergeable has start apart (each_of items) piece.outside) first.pair first.values first.left
    same_first = same_begun items mergeable has start apart (each_of items) piece.outside piece.limit second.pair first.pair second.values first.values second.left first.left second.mine first.mine

    abbrev left : ℕ
    left = second.left + m

    left_is : second.left + (m + needed) ≡ steps_of g.cells left
    left_is = let e = steps_plus g.cells left in omega (arith, e)

    begins : begin_items h items second.theirs.mid ≡ gives (tt {0}) (state_begun all_base first.pair first.values (steps_of g.cells left))
    begins =
        second.theirs.begun
        ∙ ap₂ (λ (c : RecordPair) (v : Values). gives (tt {0}) (state_begun all_base c v (second.left + (m + needed)))) (ap (λ (s : State). s.current) same_first) (ap (λ (s : State). s.variables) same_first)
        ∙ ap (λ (k : ℕ). gives (tt {0}) (state_begun all_base first.pair first.values k)) left_is

    abbrev all_out : Out (Unit {0})
    all_out = run_items h (all_of items) second.theirs.mid

    all_out_is : run items mergeable named has start apart (all_of items) of_states all_limit ≡ all_out
    all_out_is = run_is items mergeable has start apart (all_of items) of_states all_limit second.pair second.values (second.left + (m + needed)) second.theirs

    all_outcome : (meaning_of (all_of items) start of_states m).outcome ≡ outcome_of all_out.result all_out.state.status
    all_outcome = ap (λ (z : Meaning). z.outcome) (sym all_same) ∙ outcome_is items mergeable named has start apart (all_of items) of_states all_limit ∙ ap (λ (z : Out (Unit {0})). outcome_of z.result z.state.status) all_out_is

    all_outputs : (meaning_of (all_of items) start of_states m).outputs ≡ outputs_from first_outputs all_out.effects
    all_outputs = ap (λ (z : Meaning). z.outputs) (sym all_same) ∙ outputs_are items mergeable named has start apart (all_of items) of_states all_limit ∙ ap (λ (z : Out (Unit {0})). outputs_from first_outputs z.effects) all_out_is

    same : EndSame out all_out
    same = end_same items mergeable named first.pair first.values first.starts whole_base f unopened runs steps given joins steps_enough fits_all g all_base h (is_ready (all_of items) (all_program items mergeable has start apart) of_states) left second.theirs.mid
        (subst (λ (l : List ℕ). Gives of_states l) (sym same_states) gives_states) (subst (λ (l : List ℕ). length l < 2 ^ 127) (sym same_states) few) begins
        (subst (λ (o : _). o ≢ Stopped) whole_outcome enough') (subst (λ (o : _). o ≢ Stopped) all_outcome enough)

    ends_same : SameEnd (meaning_of (all_of items) start of_states m) (meaning_of items start of_whole n)
    ends_same = record {
      outcome = all_outcome ∙ same.outcome ∙ sym whole_outcome;
      outputs = all_outputs ∙ same.outputs first_outputs ∙ sym whole_outputs;
    }

  merged : ((meaning_of items start of_whole n).outcome ≡ Fault fault.NumberOutOfRange) ⊎ SameEnd (meaning_of (all_of items) start of_states m) (meaning_of items start of_whole n)
  merged = elim (gathers items mergeable named first.pair first.values first.starts whole_base f unopened runs steps given joins steps_enough fits_all) [
    | inl g ↦ inr (ends_same g)
    | inr is ↦ inl (lost (lost_whole items mergeable named first.pair first.values first.starts whole_base f unopened runs steps given joins steps_enough fits_all is))
  ]

pub law_of_merging : LawOfMerging
law_of_merging items mergeable named has start apart piece pieces lines printed fits few of_states of_whole gives_states gives_texts m n enough enough' =
    merged items mergeable named has start apart piece pieces lines printed fits few of_states of_whole gives_states gives_texts m n enough enough'
