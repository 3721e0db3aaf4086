use Rattle.awk_runtime.proofs.Turns.{written}
use Rattle.awk_runtime.proofs.MainInput.{at_hand_taken, kept_at_hand}
use Rattle.awk_runtime.proofs.Seeks.{next_at_hand}
use Rattle.awk_runtime.proofs.runtime.Runtime.record_at_hand.Goals as goal

pub returns-clause-none : goal.returns-clause-none
returns-clause-none g c = kept_at_hand c.main_record_at_hand.result c.args.self.now _ c.main_record_at_hand.ensures.none

pub returns-clause-ready : goal.returns-clause-ready
returns-clause-ready g c = λ k ready. record {
  are_open = c.main_record_at_hand.ensures.open k ready.are_open;
  are_sound = λ t. c.main_record_at_hand.ensures.sound k (ready.are_sound t);
}

pub returns-clause-follows : goal.returns-clause-follows
returns-clause-follows g c = next_at_hand g.W.World.is_logged c.main_record_at_hand.result _ _
    (at_hand_taken g.W.World.is_logged c.in_ok-separator.separator _ c.in_ok-separator.ensures (written _ _ _ _) c.main_record_at_hand.ensures.main c.main_record_at_hand.ensures.same c.main_record_at_hand.ensures.told)
