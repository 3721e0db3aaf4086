-- A value is given back to the newest caller.
use Rattle.std.proofs.Common.{◌≡◌, List, [], ◌∷◌, ◌++◌, length, drop, take, reverse, Some, refl, sym, ap, ◌∙◌, subst, arith}
use Rattle.awk_value.specs.declared.value.Value.{Value}
use Rattle.awk_value.specs.declared.value.Value.TheVariants as value
use Rattle.awk_resolve.specs.Nodes.{first}
use Rattle.awk_semantics.specs.declared.halt.Halt.TheVariants as halt
use Rattle.awk_semantics.specs.declared.fault.Fault.TheVariants.{OutOfMemory}
use Rattle.awk_runtime.specs.Calling.{LeavesCallBy}
use Rattle.awk_storage.specs.declared.entry.Caller.{Caller}
use Rattle.awk_evaluator.specs.declared.machine.Machine.{Machine}
use Rattle.awk_evaluator.specs.declared.machine.Move.{Move}
use Rattle.awk_evaluator.specs.declared.machine.Move.TheVariants as move
use Rattle.awk_evaluator.specs.Operands.{OperandsView}
use Rattle.awk_evaluator.specs.Rest.{seen}
use Rattle.awk_evaluator.specs.Moves.{seen_of, GivesBackBy, GivesBack}

pub newest_seen : (o : OperandsView) {callers more : List Caller} (c : Caller) → callers ≡ c ∷ more → seen_of o callers ≡ record { next = c.next; values = reverse (drop c.base o.below) } ∷ seen (take c.base o.below) more
newest_seen o c is = ap (seen o.below) is

pub given_back : {m m' : Machine} (c : Caller) {w : Value} → LeavesCallBy m.runtime (Some c) m'.runtime
    → m'.operands ≡ record { values = w ∷ reverse (drop c.base m.operands.below); below = take c.base m.operands.below } → GivesBack w m (move.Back c.next) m'
given_back {m = m} {m' = m'} c left operands = record {
  gives = (
    reverse (drop c.base m.operands.below),
    newest_seen m.operands c left.0 ∙ ap (λ (o : OperandsView). record { next = c.next; values = reverse (drop c.base m.operands.below) } ∷ seen_of o m'.runtime.frames.callers) (sym operands),
    ap (λ (o : OperandsView). o.values) operands,
    left.1,
    (let long = ap length left.0 in omega (arith, long)),
  );
}

pub not_given : {m m' : Machine} (c : Caller) {w : Value} → LeavesCallBy m.runtime (Some c) m'.runtime → m'.halt ≡ halt.Fault OutOfMemory → GivesBack w m move.Halted m'
not_given {m = m} {m' = m'} c left halted = record { gives = (record { next = c.next; values = reverse (drop c.base m.operands.below) }, seen (take c.base m.operands.below) m'.runtime.frames.callers, newest_seen m.operands c left.0, left.1, halted) }

-- where no call is active, and none has an operand, all is over
pub over_at_once : (m : Machine) → m.operands ≡ record { values = []; below = [] } → m.runtime.frames.callers ≡ [] → GivesBack value.Nothing m move.Over m
over_at_once m none over = record { gives = (ap (λ o. first o.values) none, over, over, refl) }

-- where the newest call has no operand, there is no value
pub nothing_given : (m : Machine) {m' : Machine} {o : OperandsView} (to : Move) → o ≡ record m.operands { values = [] } → GivesBack (first o.values) (record m { operands = o }) to m' → GivesBack value.Nothing m to m'
nothing_given m {m' = m'} {o = o} to is g = record { gives = by to (subst (λ (x : OperandsView). GivesBackBy (first x.values) (record m { operands = x }) to m') is g.gives) }
  where
    by : (q : Move) → GivesBackBy value.Nothing (record m { operands = record m.operands { values = [] } }) q m' → GivesBackBy value.Nothing m q m'
    by (move.On i) g = g
    by (move.Up i) g = g
    by (move.Back i) g = g
    by move.Over g = g
    by move.Halted g = g
