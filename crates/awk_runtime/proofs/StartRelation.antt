-- The state before a run stands for the one of the definitions.
use Rattle.std.proofs.Common.{◌≡◌, ℕ, suc, Bool, true, false, cond, List, [], ◌∷◌, length, Some, None, refl, sym, ap, ◌∙◌, subst, true≢false, arith}
use Rattle.std.specs.Prelude.{slice_get, unwrap_or, bytes_eq}
use Rattle.std.specs.Map.{lookup}
use Rattle.std.proofs.lemmas.Slice.Eq.{bytes_eq-Decides}
use Rattle.awk_value.specs.declared.value.Value.{Value}
use Rattle.awk_value.specs.declared.value.Value.TheVariants.{Nothing}
use Rattle.awk_streams.specs.WorldState.{WorldState}
use Rattle.awk_streams.specs.Log.{Event}
use Rattle.awk_streams.specs.Oracle.{Oracle, standing, how_many, opens_input, opens_output, closes_command, runs}
use Rattle.awk_streams.specs.Orderly.{IsInOrder}
use Rattle.awk_streams.specs.Openings.{openings, in_order, is_flushed}
use Rattle.awk_streams.specs.Streams.{StreamsView, AreOpen, AreSound, with_held}
use Rattle.awk_grammar.specs.Tree.{Item}
use Rattle.awk_kinds.specs.Kinds.{array_names_of, function_names_of}
use Rattle.awk_kinds.specs.declared.special.Special.{Special}
use Rattle.awk_kinds.specs.declared.special.Special.TheVariants.{Argc, Convfmt, Filename, Fnr, Fs, Nr, Ofmt, Ofs, Ors, Rlength, Rs, Rstart, Subsep}
use Rattle.awk_kinds.specs.Variables.{Pairs, value_of, name_of, initial_values, initial_value}
use Rattle.awk_semantics.specs.Meaning.{StartValues, first_arrays, start_state}
use Rattle.awk_runtime.specs.declared.runtime.Runtime.{Runtime}
use Rattle.awk_runtime.specs.support.Naming.{Naming}
use Rattle.awk_runtime.specs.support.Simulation.{OwnRelation, StreamsRelation, StateRelation}
use Rattle.awk_runtime.proofs.Composition.{frames_stay, staged_stay}
use Rattle.awk_runtime.specs.support.Beginning.{IsStart}

-- a variable of the program was never assigned

flipped : (a b : List ℕ) → bytes_eq a b ≡ false → bytes_eq b a ≡ false
flipped a b e = by (bytes_eq b a) refl
  where
    by : (t : Bool) → bytes_eq b a ≡ t → bytes_eq b a ≡ false
    by true is = absurd (true≢false (sym ((bytes_eq-Decides a b).1 (sym ((bytes_eq-Decides b a).0 is))) ∙ e))
    by false is = is

abbrev AreOthers : List ℕ → Pairs → Type 0
AreOthers x [] = Unit {0}
AreOthers x (p ∷ pairs) = (bytes_eq p.0 x ≡ false) × AreOthers x pairs

not_there : (x : List ℕ) (pairs : Pairs) → AreOthers x pairs → value_of pairs x ≡ Nothing
not_there x [] others = refl
not_there x (p ∷ pairs) others = ap (λ b. unwrap_or (cond b (Some p.1) (lookup (bytes_eq x) pairs)) Nothing) (flipped p.0 x others.0) ∙ not_there x pairs others.1

own_nothing : (arguments : ℕ) (x : List ℕ) → ((y : Special) → bytes_eq (name_of y) x ≡ false) → initial_value arguments x ≡ Nothing
own_nothing arguments x own = not_there x (initial_values arguments)
    (own Argc, (own Convfmt, (own Filename, (own Fnr, (own Fs, (own Nr, (own Ofmt, (own Ofs, (own Ors, (own Rlength, (own Rs, (own Rstart, (own Subsep, tt)))))))))))))

module _ (items : List Item) (naming : Naming) (start : StartValues) (oracle : Oracle) (limit : ℕ) (m : Runtime) (is : IsStart naming start limit m) where
  pub start_holds : naming.arrays ≡ array_names_of items → naming.functions ≡ function_names_of items → OwnRelation m (start_state items start oracle limit)
  start_holds arrays functions = record {
    current = ap (λ (t : List ℕ). record { text = t; fields = [] }) (sym is.text) ∙ ap (λ (fields : List Value). record { text = m.current.text; fields = fields }) (sym is.fields);
    specials = λ x. sym (is.specials x);
    globals = λ i x there.
        let at : slice_get naming.scalars i ≡ Some x = subst (λ (n : Naming). slice_get n.scalars i ≡ Some x) is.names there in
        own_nothing (suc (length start.operands)) x (is.own i x at).1 ∙ sym (is.globals i);
    slots = is.slots ∙ ap (λ (n : Naming). length n.scalars) (sym is.names);
    array_names = sym arrays ∙ ap (λ (n : Naming). n.arrays) (sym is.names);
    function_names = sym functions ∙ ap (λ (n : Naming). n.functions) (sym is.names);
    arrays = ap (first_arrays start) (sym arrays) ∙ sym is.arrays;
    frames = frames_stay is.frames;
    staged = staged_stay is.frames;
    next = sym is.next;
    input_seen = sym is.input_seen;
    inside = λ n. ap (λ (l : List Bool). unwrap_or (slice_get l n) false) (sym is.inside);
    status = sym is.status;
    steps = sym is.steps;
  }

-- the streams

abbrev no_streams : StreamsView
no_streams = record { main = None; output = []; error = []; named = [] }

module _ (items : List Item) (start : StartValues) (oracle : Oracle) (limit : ℕ) (k : WorldState) (empty : k.log ≡ []) where
  fresh_streams : StreamsRelation oracle no_streams k (start_state items start oracle limit) []
  fresh_streams = record {
    outside = refl;
    openings = λ kind name. ap (how_many (opens_input kind name)) (sym empty);
    output_openings = λ kind name. ap (how_many (opens_output kind name)) (sym empty);
    closings = ap (how_many closes_command) (sym empty);
    runs = ap (how_many runs) (sym empty);
    outputs = refl;
    are = record { main = tt; named = tt };
    printed = ap (λ (l : List Event). in_order (with_held ((0, []) ∷ (1, []) ∷ []) (openings l))) empty;
    turn = record { events = []; log = empty; between = refl; streams = refl };
  }

  pub start_streams : (streams : StreamsView) → streams ≡ no_streams → StreamsRelation oracle streams k (start_state items start oracle limit) []
  start_streams streams is = subst (λ (v : StreamsView). StreamsRelation oracle v k (start_state items start oracle limit) []) (sym is) fresh_streams

-- a run begins in a world without a past
pub start_stands : (items : List Item) (naming : Naming) (start : StartValues) (oracle : Oracle) (limit : ℕ) (m : Runtime) (k : WorldState) → IsStart naming start limit m → naming.arrays ≡ array_names_of items → naming.functions ≡ function_names_of items
    → k.log ≡ [] → k.failures ≡ [] → StateRelation oracle m k (start_state items start oracle limit) []
start_stands items naming start oracle limit m k is arrays functions empty clear = record {
  clear = clear;
  streams = start_streams items start oracle limit k empty m.streams is.streams;
  holds = start_holds items naming start oracle limit m is arrays functions;
}

-- no stream is open
pub start_open : (k : WorldState) (streams : StreamsView) → streams ≡ no_streams → AreOpen k streams
start_open k streams is = subst (λ (v : StreamsView). AreOpen k v) (sym is) record { main = tt; named = tt; apart = tt; apart_from_main = tt }

pub start_sound : (k : WorldState) (streams : StreamsView) → streams ≡ no_streams → k.log ≡ [] → IsInOrder k.is_open [] → AreSound k streams
start_sound k streams is empty order = subst (λ (v : StreamsView). AreSound k v) (sym is) record {
  order = subst (λ (l : List Event). IsInOrder k.is_open l) (sym empty) order;
  main = tt;
  named = tt;
  once = tt;
  few = omega arith;
  flushed = λ id none. ap (is_flushed id) empty;
  owned = λ id no_main no_named. ap (standing id) empty;
}
