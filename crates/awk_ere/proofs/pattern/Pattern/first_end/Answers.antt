use Rattle.std.proofs.Common.{◌≡◌, length, true, Some, refl, sym, ap, ◌∙◌, ⊎_elim, arith}
use Rattle.std.proofs.lemmas.Bool.{false≢true}
use Rattle.awk_ere.specs.support.Layout.{first_state}
use Rattle.awk_ere.specs.support.Found.{between}
use Rattle.awk_ere.proofs.LastEnd.{between_in, ends_at}
use Rattle.awk_ere.proofs.CursorKept.{known_first, stood_begin, end_first, end_hit, end_miss}
use Rattle.awk_ere.proofs.pattern.Pattern.first_end.Goals as goal

pub scan-cursor-requires-clause-known : goal.scan-cursor-requires-clause-known
scan-cursor-requires-clause-known c =
    known_first c.args.self.now c.args.scratch.now.table c.requires.table 0 c.begin.result.state c.begin.ensures.state

pub returns-then-is_some-clause-found : goal.returns-then-is_some-clause-found
returns-then-is_some-clause-found c = λ t means.
    let p = c.args.self.now in
    let s = c.args.text.now in
    let len = length s in
    let begun = stood_begin p c.args.scratch.now.table c.requires.table s t means (between 0 len) c.begin.result
    (λ i f. omega (arith, c.begin.ensures.place))
    (c.begin.ensures.state ∙ ap first_state (sym c.begin.ensures.place)) c.begin.ensures.end in
    let stood = c.scan-cursor.ensures.stood t (between 0 len) means (λ k a b. between_in 0 len k (omega arith) (omega (arith, b))) begun in
    ends_at true t s 0 len _ (omega arith)
    (end_first true p c.scan-cursor.new.scratch.table s t means 0 len c.scan-cursor.result stood refl (sym c.is_some.ensures ∙ c.if-is_some.true))

pub returns-then-leaves_at_end-clause-found : goal.returns-then-leaves_at_end-clause-found
returns-then-leaves_at_end-clause-found c = λ t means.
    let p = c.args.self.now in
    let s = c.args.text.now in
    let len = length s in
    let begun = stood_begin p c.args.scratch.now.table c.requires.table s t means (between 0 len) c.begin.result
    (λ i f. omega (arith, c.begin.ensures.place))
    (c.begin.ensures.state ∙ ap first_state (sym c.begin.ensures.place)) c.begin.ensures.end in
    let stood = c.scan-cursor.ensures.stood t (between 0 len) means (λ k a b. between_in 0 len k (omega arith) (omega (arith, b))) begun in
    let end : c.scan-cursor.result.place ≡ len =
    ⊎_elim (λ e. e) (λ some. absurd (false≢true (sym c.if-is_some.false ∙ c.is_some.ensures ∙ some))) c.scan-cursor.ensures.reached in
    let left = c.leaves_at_end.ensures.leaves stood.start stood.positions stood.state in
    ends_at true t s 0 len (Some len) (omega arith)
    (end_hit true p c.scan-cursor.new.scratch.table s t means 0 len c.scan-cursor.result stood end true c.leaves_at_end.result (between_in 0 len c.scan-cursor.result.place (omega arith) (omega (arith, end))) left c.if-leaves_at_end.true)

pub returns-clause-found : goal.returns-clause-found
returns-clause-found c = λ t means.
    let p = c.args.self.now in
    let s = c.args.text.now in
    let len = length s in
    let begun = stood_begin p c.args.scratch.now.table c.requires.table s t means (between 0 len) c.begin.result
    (λ i f. omega (arith, c.begin.ensures.place))
    (c.begin.ensures.state ∙ ap first_state (sym c.begin.ensures.place)) c.begin.ensures.end in
    let stood = c.scan-cursor.ensures.stood t (between 0 len) means (λ k a b. between_in 0 len k (omega arith) (omega (arith, b))) begun in
    let end : c.scan-cursor.result.place ≡ len =
    ⊎_elim (λ e. e) (λ some. absurd (false≢true (sym c.if-is_some.false ∙ c.is_some.ensures ∙ some))) c.scan-cursor.ensures.reached in
    let left = c.leaves_at_end.ensures.leaves stood.start stood.positions stood.state in
    ends_at true t s 0 len _ (omega arith)
    (end_miss true p c.scan-cursor.new.scratch.table s t means 0 len c.scan-cursor.result stood end true c.leaves_at_end.result (between_in 0 len c.scan-cursor.result.place (omega arith) (omega (arith, end))) left c.if-leaves_at_end.false)
