use Rattle.std.proofs.Common.{◌≡◌, Some, sym, subst}
use Rattle.awk_ere.specs.definitions.Means.{HasNoneUpTo}
use Rattle.awk_ere.proofs.RequiredOccurs.{none_passed}
use Rattle.awk_ere.proofs.pattern.Pattern.skippable.Goals as goal

pub returns-clause-none : goal.returns-clause-none
returns-clause-none c = λ t means.
    let needle = c.in_ok-finder.finder.now in
    let known : c.args.scratch.now.required ≡ Some needle = sym c.in_ok-finder.ensures.value in
    subst (HasNoneUpTo t c.args.text.now) (sym c.unwrap_or.ensures)
    (none_passed needle c.args.self.now (c.requires.same.required needle known) t means c.args.text.now c.find.result c.find.ensures)
