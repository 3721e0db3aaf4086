use Rattle.awk_value.proofs.Rows.{on_ok_map}
use Rattle.awk_value.proofs.text_entry.add_text.Goals as goal

pub returns-clause-added : goal.returns-clause-added
returns-clause-added c =
    on_ok_map c.add_entry.result _ _ c.add_entry.ensures.added
    (λ h. record { copy = c.in_ok-copy.copy; same = c.in_ok-copy.ensures.items; added = h })
