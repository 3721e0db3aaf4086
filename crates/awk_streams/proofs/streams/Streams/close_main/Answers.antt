use Rattle.std.proofs.Common.{◌≡◌, Option, sym, subst, ap, ◌∙◌}
use Rattle.awk_streams.specs.declared.input.Input.{Input}
use Rattle.awk_streams.specs.definitions.Streams.{StreamsView, AreOpen, AreSound, ClosesMain}
use Rattle.awk_streams.specs.definitions.MainInput.{EndsMain, closed_main}
use Rattle.awk_streams.proofs.MainLemmas.{close_main_open, close_main_sound, close_main_told}
use Rattle.awk_streams.proofs.streams.Streams.close_main.Goals as goal

pub returns-clause-open : goal.returns-clause-open
returns-clause-open g c =
    let w = g.W.World in
    let s : StreamsView = record { main = c.self.inside.main; output = c.self.inside.output; error = c.self.inside.error; named = c.self.inside.named.items } in
    let taken : c.take-input.result ≡ c.args.self.now.main = c.take-input.ensures.value ∙ ap (λ (v : StreamsView). v.main) c.self.view_is in
    subst (λ (m : Option Input). AreOpen (w.state c.close.new.world) record s { main = m }) (sym c.take-input.ensures.after) (close_main_open (w.state c.args.world.now) (w.state c.close.new.world) c.args.self.now s c.self.view_is c.requires.open (subst (λ (m : Option Input). ClosesMain (w.state c.args.world.now) (w.state c.close.new.world) m) taken c.close.ensures.open))

pub returns-clause-closes : goal.returns-clause-closes
returns-clause-closes g c =
    let w = g.W.World in
    let s : StreamsView = record { main = c.self.inside.main; output = c.self.inside.output; error = c.self.inside.error; named = c.self.inside.named.items } in
    let taken : c.take-input.result ≡ c.args.self.now.main = c.take-input.ensures.value ∙ ap (λ (v : StreamsView). v.main) c.self.view_is in
    (subst (λ (m : Option Input). ClosesMain (w.state c.args.world.now) (w.state c.close.new.world) m) taken c.close.ensures.open)

pub returns-clause-sound : goal.returns-clause-sound
returns-clause-sound g c = λ t.
    let w = g.W.World in
    let s : StreamsView = record { main = c.self.inside.main; output = c.self.inside.output; error = c.self.inside.error; named = c.self.inside.named.items } in
    let taken : c.take-input.result ≡ c.args.self.now.main = c.take-input.ensures.value ∙ ap (λ (v : StreamsView). v.main) c.self.view_is in
    subst (λ (m : Option Input). AreSound (w.state c.close.new.world) record s { main = m }) (sym c.take-input.ensures.after)
    (close_main_sound (w.state c.args.world.now) (w.state c.close.new.world) c.args.self.now s (c.close.ensures.log t).0 c.self.view_is c.requires.open (c.requires.sound t) (subst (λ (m : Option Input). ClosesMain (w.state c.args.world.now) (w.state c.close.new.world) m) taken c.close.ensures.open) ((c.close.ensures.log t).1 ∙ ap (λ (m : Option Input). closed_main m (c.close.ensures.log t).0 (w.state c.args.world.now).log) taken))

pub returns-clause-told : goal.returns-clause-told
returns-clause-told g c = λ t.
    let w = g.W.World in
    let s : StreamsView = record { main = c.self.inside.main; output = c.self.inside.output; error = c.self.inside.error; named = c.self.inside.named.items } in
    let taken : c.take-input.result ≡ c.args.self.now.main = c.take-input.ensures.value ∙ ap (λ (v : StreamsView). v.main) c.self.view_is in
    subst (λ (m : Option Input). EndsMain (w.state c.args.world.now) c.args.self.now (w.state c.close.new.world) record s { main = m }) (sym c.take-input.ensures.after)
    (close_main_told (w.state c.args.world.now) (w.state c.close.new.world) c.args.self.now s (c.close.ensures.log t).0 c.self.view_is c.requires.open (c.requires.sound t) ((c.close.ensures.log t).1 ∙ ap (λ (m : Option Input). closed_main m (c.close.ensures.log t).0 (w.state c.args.world.now).log) taken) (c.close.ensures.no_failure t))
