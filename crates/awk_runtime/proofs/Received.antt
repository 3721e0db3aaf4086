-- What getline does with a record that was read.
use Rattle.std.proofs.Common.{◌∙◌, ◌≡◌, ℕ, pos, List, Option, Some, None, Result, Ok, Err, refl, subst}
use Rattle.awk_value.specs.declared.value.Value.{Value}
use Rattle.awk_value.specs.declared.value.Value.TheVariants as value
use Rattle.awk_world.specs.declared.world.InputKind.{InputKind}
use Rattle.awk_streams.specs.WorldState.{WorldState}
use Rattle.awk_semantics.specs.declared.halt.Halt.{Halt}
use Rattle.awk_semantics.specs.State.{Run}
use Rattle.awk_semantics.specs.Primitives.{count_in}
use Rattle.awk_semantics.specs.Places.{count_of}
use Rattle.awk_semantics.specs.Streams.{Answer, ARecord, next_of}
use Rattle.awk_semantics.specs.Inputs.{next_record}
use Rattle.awk_storage.specs.declared.position.Place.{Place}
use Rattle.awk_storage.specs.Forms.{receive_at, receive_main_at, main_getline_at, receive_named_at, named_getline_at}
use Rattle.awk_kinds.specs.declared.special.Special.TheVariants.{Nr, Fnr}
use Rattle.awk_runtime.specs.declared.runtime.Runtime.{Runtime}
use Rattle.awk_runtime.specs.support.Naming.{Naming}
use Rattle.awk_runtime.specs.support.Simulation.{Changes, Spends, Follows}
use Rattle.awk_runtime.proofs.Composition.{then_simulates, ends_simulates, lift_simulates, change_simulates, then_changes, ends_changes, lift_changes}

-- names that are the same
renamed : {A : Type 0} (run : List (List ℕ) → Run A) (m m1 : Runtime) {m2 : Runtime} {r : Result A Halt} → m1.names ≡ m.names → Changes (run m1.names.scalars) m1 m2 r → Changes (run m.names.scalars) m1 m2 r
renamed run m m1 {m2 = m2} {r = r} same h = subst (λ (n : Naming). Changes (run n.scalars) m1 m2 r) same h

-- a main record

pub main_unspent : (p : Option Place) (v : Value) (text : List ℕ) {m m1 : Runtime} {h : Halt} → Spends m m1 (Err h) → Changes (receive_main_at m.names.scalars p v (Some text)) m m1 (Err h)
main_unspent p v text x = ends_changes _ x.changes

pub main_unreceived : (p : Option Place) (v : Value) (text : List ℕ) {m m1 m2 : Runtime} {h : Halt} → Spends m m1 (Ok tt) → Changes (receive_at m1.names.scalars p v text) m1 m2 (Err h) → Changes (receive_main_at m.names.scalars p v (Some text)) m m2 (Err h)
main_unreceived p v text {m = m} {m1 = m1} x y = then_changes _ x.changes (ends_changes _ (renamed (λ names. receive_at names p v text) m m1 x.changes.names y))

pub main_uncounted : (p : Option Place) (v : Value) (text : List ℕ) {m m1 m2 m3 : Runtime} {h : Halt} → Spends m m1 (Ok tt) → Changes (receive_at m1.names.scalars p v text) m1 m2 (Ok tt) → Changes (count_in Nr) m2 m3 (Err h) → Changes (receive_main_at m.names.scalars p v (Some text)) m m3 (Err h)
main_uncounted p v text {m = m} {m1 = m1} x y z = then_changes _ x.changes (then_changes _ (renamed (λ names. receive_at names p v text) m m1 x.changes.names y) (ends_changes _ z))

pub main_half_counted : (p : Option Place) (v : Value) (text : List ℕ) {m m1 m2 m3 m4 : Runtime} {h : Halt} → Spends m m1 (Ok tt) → Changes (receive_at m1.names.scalars p v text) m1 m2 (Ok tt) → Changes (count_in Nr) m2 m3 (Ok tt) → Changes (count_in Fnr) m3 m4 (Err h) → Changes (receive_main_at m.names.scalars p v (Some text)) m m4 (Err h)
main_half_counted p v text {m = m} {m1 = m1} x y z w = then_changes _ x.changes (then_changes _ (renamed (λ names. receive_at names p v text) m m1 x.changes.names y) (then_changes _ z (ends_changes _ w)))

pub main_received : (p : Option Place) (v : Value) (text : List ℕ) {m m1 m2 m3 m4 : Runtime} → Spends m m1 (Ok tt) → Changes (receive_at m1.names.scalars p v text) m1 m2 (Ok tt) → Changes (count_in Nr) m2 m3 (Ok tt) → Changes (count_in Fnr) m3 m4 (Ok tt) → Changes (receive_main_at m.names.scalars p v (Some text)) m m4 (Ok (value.Number (pos 1)))
main_received p v text {m = m} {m1 = m1} {m4 = m4} x y z w = then_changes _ x.changes (then_changes _ (renamed (λ names. receive_at names p v text) m m1 x.changes.names y) (then_changes _ z (then_changes _ w (lift_changes _ m4 refl))))

pub main_fails : {is_logged : Type 0} (p : Option Place) (v : Value) {m m1 : Runtime} {k k1 : WorldState} {h : Halt} → Follows is_logged next_record m k m1 k1 (Err h) → Follows is_logged (main_getline_at m.names.scalars p v) m k m1 k1 (Err h)
unfolding main_getline_at
main_fails p v x = record { simulates = ends_simulates _ x.simulates; callers = x.callers }

pub main_gets : {is_logged : Type 0} (p : Option Place) (v : Value) (text : List ℕ) {m m1 m2 : Runtime} {k k1 : WorldState} {r : Result Value Halt} → Follows is_logged next_record m k m1 k1 (Ok (Some text)) → Changes (receive_main_at m1.names.scalars p v (Some text)) m1 m2 r → Follows is_logged (main_getline_at m.names.scalars p v) m k m2 k1 r
unfolding main_getline_at
main_gets p v text {m = m} {m1 = m1} x y = record { simulates = then_simulates _ x.simulates (change_simulates (renamed (λ names. receive_main_at names p v (Some text)) m m1 x.simulates.names y)); callers = y.callers ∙ x.callers }

pub main_gets_none : {is_logged : Type 0} (p : Option Place) (v : Value) {m m1 : Runtime} {k k1 : WorldState} → Follows is_logged next_record m k m1 k1 (Ok None) → Follows is_logged (main_getline_at m.names.scalars p v) m k m1 k1 (Ok (value.Number (pos 0)))
unfolding main_getline_at
main_gets_none p v {m1 = m1} {k1 = k1} x = record { simulates = then_simulates _ x.simulates (lift_simulates _ m1 k1 refl); callers = x.callers }

-- a record of a file or a command

pub named_unreceived : (kind : InputKind) (p : Option Place) (v : Value) (text : List ℕ) {m m1 : Runtime} {h : Halt} → Changes (receive_at m.names.scalars p v text) m m1 (Err h) → Changes (receive_named_at m.names.scalars kind p v (ARecord text)) m m1 (Err h)
named_unreceived kind p v text x = ends_changes _ x

pub named_uncounted : (kind : InputKind) (p : Option Place) (v : Value) (text : List ℕ) {m m1 m2 : Runtime} {h : Halt} → Changes (receive_at m.names.scalars p v text) m m1 (Ok tt) → Changes (count_of kind) m1 m2 (Err h) → Changes (receive_named_at m.names.scalars kind p v (ARecord text)) m m2 (Err h)
named_uncounted kind p v text x y = then_changes _ x (ends_changes _ y)

pub named_received : (kind : InputKind) (p : Option Place) (v : Value) (text : List ℕ) {m m1 m2 : Runtime} → Changes (receive_at m.names.scalars p v text) m m1 (Ok tt) → Changes (count_of kind) m1 m2 (Ok tt) → Changes (receive_named_at m.names.scalars kind p v (ARecord text)) m m2 (Ok (value.Number (pos 1)))
named_received kind p v text {m2 = m2} x y = then_changes _ x (then_changes _ y (lift_changes _ m2 refl))

pub named_fails : {is_logged : Type 0} (kind : InputKind) (name : List ℕ) (p : Option Place) (v : Value) {m m1 : Runtime} {k k1 : WorldState} {h : Halt} → Follows is_logged (next_of kind name) m k m1 k1 (Err h) → Follows is_logged (named_getline_at m.names.scalars kind name p v) m k m1 k1 (Err h)
unfolding named_getline_at
named_fails kind name p v x = record { simulates = ends_simulates _ x.simulates; callers = x.callers }

pub named_gets : {is_logged : Type 0} (kind : InputKind) (name : List ℕ) (p : Option Place) (v : Value) (found : Answer) {m m1 m2 : Runtime} {k k1 : WorldState} {r : Result Value Halt} → Follows is_logged (next_of kind name) m k m1 k1 (Ok found) → Changes (receive_named_at m1.names.scalars kind p v found) m1 m2 r
    → Follows is_logged (named_getline_at m.names.scalars kind name p v) m k m2 k1 r
unfolding named_getline_at
named_gets kind name p v found {m = m} {m1 = m1} x y = record { simulates = then_simulates _ x.simulates (change_simulates (renamed (λ names. receive_named_at names kind p v found) m m1 x.simulates.names y)); callers = y.callers ∙ x.callers }
