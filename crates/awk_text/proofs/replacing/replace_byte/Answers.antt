use Rattle.std.proofs.Common.{◌≡◌, ◌+◌, ◌-◌, ◌<◌, ℕ, List, Option, length, drop, refl, sym, subst, ◌∙◌, arith, inl, inr}
use Rattle.std.specs.Prelude.{IsSome}
use Rattle.std.proofs.lemmas.Bool.{false≢true}
use Rattle.std.proofs.lemmas.List.{length-drop, take_rest}
use Rattle.memchr.specs.Find.{IsFirstByte, is_byte}
use Rattle.awk_text.specs.declared.span.Span.{Span}
use Rattle.awk_text.proofs.ByteReplaced.{exchanged_nothing, next_byte, no_byte}
use Rattle.awk_text.proofs.ExchangedSoFar.{Exchanged, exchanged_more, exchanged_end}
use Rattle.awk_text.proofs.replacing.replace_byte.Goals as goal

pub loop-next-init : goal.loop-next-init
loop-next-init c =
    let s = c.args.text.now in
    let r = c.args.replacement.now in
    let empty = c.in_ok-reserve.ensures.items ∙ c.requires in
    record {
      inside = omega arith;
      found = c.in-Some.ensures;
      some = inr refl;
      few = omega arith;
      exchanged = λ t one. subst (λ o. Exchanged t r s o 0 0) (sym empty) (exchanged_nothing t c.args.byte one s r);
    }

pub loop-next-preserved : goal.loop-next-preserved
loop-next-preserved c =
    let s = c.args.text.now in
    let r = c.args.replacement.now in
    let loop = c.loop-next in
    let place = loop.place in
    let len = c.in-Some-next.len in
    let before = loop.invariant in
    let found = subst (λ (o : Option ℕ). IsFirstByte (is_byte c.args.byte) (drop place s) o) c.in-Some-next.is before.found in
    let within : len < length (drop place s) = found.0.high in
    let m : Span = record { start = place + len; end = place + len + 1 } in
    let size : length (drop place s) ≡ length s - place = length-drop place s in
    let few = before.few in
    record {
      inside = omega arith;
      found = subst (λ (text : List ℕ). IsFirstByte (is_byte c.args.byte) text c.memchr-next.result) (take_rest s (place + len + 1)) c.memchr-next.ensures;
      some = inl (omega arith);
      few = omega arith;
      exchanged = λ t one. exchanged_more t r s loop.out.items c.add_replaced.new.out.items loop.count place m
          (next_byte t c.args.byte one s place len before.inside found) c.in_ok-add_replaced.ensures.added (before.exchanged t one);
    }

pub returns-clause-replaced : goal.returns-clause-replaced
returns-clause-replaced c = λ t one.
    let s = c.args.text.now in
    let r = c.args.replacement.now in
    let loop = c.loop-next in
    let none = subst (λ (o : Option ℕ). IsFirstByte (is_byte c.args.byte) (drop loop.place s) o) c.in_default-next.is loop.invariant.found in
    let some : 0 < loop.count = elim loop.invariant.some [
      | inl lt ↦ lt
      | inr is ↦ absurd (false≢true (subst IsSome c.in_default-next.is is))
    ] in (
      some,
      exchanged_end t r s loop.out.items c.extend_from_slice.new.self.items loop.count loop.place
          (no_byte t c.args.byte one s loop.place loop.invariant.inside none) c.in_ok-extend_from_slice.ensures.items (loop.invariant.exchanged t one),
    )
