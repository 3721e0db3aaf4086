use Rattle.std.proofs.Common.{◌-◌, ◌≤◌, sym, subst, ⊎_elim, arith}
use Rattle.std.proofs.lemmas.Bool.{cases_lt}
use Rattle.awk_ere.specs.support.Layout.{match_flag}
use Rattle.awk_ere.specs.support.Table.{IsKnown}
use Rattle.awk_ere.specs.support.Found.{EndsWithin}
use Rattle.awk_ere.proofs.LastEnd.{ends_within}
use Rattle.awk_ere.proofs.TableKept.{state_of}
use Rattle.awk_ere.proofs.CursorKept.{known_of, stood_miss, stood_hit}
use Rattle.awk_ere.proofs.pattern.Pattern.advance.Goals as goal

pub returns-clause-known : goal.returns-clause-known
returns-clause-known c =
    let p = c.args.self.now in
    let tb = c.entry-entry.new.scratch.table in
    let v = c.entry-entry.result in
    let e = c.entry-entry.ensures.entry _ _ (state_of p c.args.scratch.now.table c.args.cursor.state c.requires.known) in
    ⊎_elim
    (λ small. subst (IsKnown tb) (sym (c.onto.ensures.miss small).0) (known_of p tb v _ _ (e.goes c.entry-entry.ensures.some small)))
    (λ large. subst (IsKnown tb) (sym (c.onto.ensures.hit large).0) (known_of p tb (v - match_flag) _ _ (e.leads large)))
    (cases_lt v match_flag)

pub returns-clause-stood : goal.returns-clause-stood
returns-clause-stood c = λ t from means enters h.
    let p = c.args.self.now in
    let old = c.args.scratch.now.table in
    let tb = c.entry-entry.new.scratch.table in
    let v = c.entry-entry.result in
    let e = c.entry-entry.ensures.entry h.start h.positions h.state in
    ⊎_elim
    (λ small.
    let n = c.onto.ensures.miss small in
    stood_miss p old tb c.args.text.now t means from c.args.cursor h c.args.entering enters c.requires.within v e c.onto.result c.onto.ensures.place c.entry-entry.ensures.some small n.0 n.1)
    (λ large.
    let n = c.onto.ensures.hit large in
    stood_hit p old tb c.args.text.now t means from c.args.cursor h c.args.entering enters c.requires.within v e c.onto.result c.onto.ensures.place large n.0 n.1)
    (cases_lt v match_flag)

pub returns-clause-end : goal.returns-clause-end
returns-clause-end c = λ low le h.
    let v = c.entry-entry.result in
    let place = c.args.cursor.place in
    let up : place ≤ c.onto.result.place = omega (arith, c.onto.ensures.place) in
    ⊎_elim
    (λ small. subst (EndsWithin low c.onto.result.place) (sym (c.onto.ensures.miss small).1) (ends_within low place c.onto.result.place c.args.cursor.end up h))
    (λ large. subst (EndsWithin low c.onto.result.place) (sym (c.onto.ensures.hit large).1) (le, up))
    (cases_lt v match_flag)
