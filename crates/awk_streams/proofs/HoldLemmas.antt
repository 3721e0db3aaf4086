-- Printing by holding back alone: the world is as it was.
use Rattle.std.proofs.Common.{◌≡◌, List, ◌++◌, ℕ, Bool, true, if◌then◌else◌, Ok, refl, sym, ◌∙◌, ap, subst}
use Rattle.awk_world.specs.definitions.WorldState.{WorldState}
use Rattle.awk_streams.specs.declared.streams.Target.TheVariants as target
use Rattle.awk_streams.specs.definitions.Streams.{StreamsView, AreOpen, AreSound}
use Rattle.awk_streams.specs.definitions.NamedOutputs.{Prints}
use Rattle.awk_streams.proofs.BufferedLemmas.{holds_all}
use Rattle.awk_streams.proofs.PrintLemmas.{print_output}

-- of what standard output holds back nothing is known

pub output_open : (world : WorldState) (old s : StreamsView) (held : List ℕ) → s ≡ old → AreOpen world old → AreOpen world record s { output = held }
output_open world old s held is open' =
    let h = subst (λ (v : StreamsView). AreOpen world v) (sym is) open' in
    record { main = h.main; named = h.named; apart = h.apart; apart_from_main = h.apart_from_main }

pub output_sound : (world : WorldState) (old s : StreamsView) (held : List ℕ) → s ≡ old → AreSound world old → AreSound world record s { output = held }
output_sound world old s held is sound =
    let h = subst (λ (v : StreamsView). AreSound world v) (sym is) sound in
    record { order = h.order; main = h.main; named = h.named; once = h.once; few = h.few; flushed = h.flushed; owned = h.owned }

-- bytes that are held back behind what is held back are printed
pub output_told : (world : WorldState) (old s : StreamsView) (held bytes : List ℕ) → s ≡ old → held ≡ old.output ++ bytes → AreOpen world old → AreSound world old → Prints target.StandardOutput bytes world old (Ok tt) world record s { output = held }
output_told world old s held bytes is held_is open' sound =
    let more : held ≡ s.output ++ bytes = held_is ∙ ap (λ (v : StreamsView). v.output ++ bytes) (sym is) in
    (print_output (Unit {0}) world world old s held bytes (Ok tt) is open' (λ t. sound) (λ j. refl) tt (λ t. holds_all 0 s.output bytes held world tt more)).told tt

-- where they are held back at all
pub hold_told : (world : WorldState) (old s : StreamsView) (held bytes : List ℕ) (result : Bool) → s ≡ old → held ≡ (if result then s.output ++ bytes else s.output) → result ≡ true → AreOpen world old → AreSound world old → Prints target.StandardOutput bytes world old (Ok tt) world record s { output = held }
hold_told world old s held bytes result is held_is holds open' sound =
    let behind : held ≡ s.output ++ bytes = held_is ∙ ap (λ (b : Bool). if b then s.output ++ bytes else s.output) holds in
    output_told world old s held bytes is (behind ∙ ap (λ (v : StreamsView). v.output ++ bytes) is) open' sound
