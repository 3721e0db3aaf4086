use Rattle.std.proofs.Common.{◌≡◌, ◌+◌, ◌-◌, length, arith}
use Rattle.awk_text.proofs.FieldLemmas.{padded_at, begun_five}
use Rattle.awk_text.proofs.field.add_padded.Goals as goal

pub returns-clause-text : goal.returns-clause-text
returns-clause-text c =
    let missing : c.saturating_sub-missing.result ≡ c.args.directive.now.width - (length c.args.prefix.now + c.args.lead + length c.args.body.now) = omega (arith, c.saturating_sub-missing.ensures) in
    padded_at c.args.directive.now.flags.minus c.args.zeros c.args.directive.now.width c.args.lead c.saturating_sub-missing.result c.args.prefix.now c.args.body.now
    c.args.out.now.items c.add_run.new.out.items c.add_bytes.new.out.items c.add_run-2.new.out.items c.add_bytes-2.new.out.items c.add_run-3.new.out.items c.place_padding-padding.result
    missing c.place_padding-padding.ensures c.in_ok-add_run.ensures.text c.in_ok-add_bytes.ensures.text c.in_ok-add_run-2.ensures.text c.in_ok-add_bytes-2.ensures.text c.in_ok-add_run-3.ensures.text

pub returns-clause-begun : goal.returns-clause-begun
returns-clause-begun c = begun_five _ _ _ _ _ _ c.add_run.ensures.begun c.add_bytes.ensures.begun c.add_run-2.ensures.begun c.add_bytes-2.ensures.begun c.add_run-3.ensures.begun
