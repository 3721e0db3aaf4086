-- The search is for the bytes that the pattern reads.
use Rattle.std.proofs.Common.{◌≡◌, Some, sym, ap, ◌∙◌}
use Rattle.std.specs.Option.{option_map}
use Rattle.std.proofs.lemmas.Option.{same_Some}
use Rattle.awk_ere.proofs.pattern.Pattern.literal_finder.Goals as goal

pub returns-in_ok-into_owned-in-Some-clause-literal : goal.returns-in_ok-into_owned-in-Some-clause-literal
returns-in_ok-into_owned-in-Some-clause-literal c bytes is =
    let searched : c.in-Some.bytes.items ≡ bytes = sym c.deref.ensures.value ∙ sym c.new.ensures ∙ sym c.in_ok-into_owned-in-Some.ensures ∙ same_Some _ _ is in
    c.in_ok-bytes.ensures.bytes bytes (ap (option_map (λ b. b.items)) c.in-Some.is ∙ ap Some searched)
