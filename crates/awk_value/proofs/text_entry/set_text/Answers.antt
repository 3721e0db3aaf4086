use Rattle.std.proofs.Common.{sym}
use Rattle.awk_value.specs.declared.entry.Entry.{Entry}
use Rattle.awk_value.proofs.text_entry.set_text.Goals as goal

pub returns-in-Some-clause-set : goal.returns-in-Some-clause-set
returns-in-Some-clause-set c =
    let x = c.in-Some.entry.now in
    let w : Entry = record { stamp = x.stamp; value = c.args.value } in
    record { entry = x; there = sym c.in-Some.ensures.value; set = (c.get_mut.follows.holds w).0 }
