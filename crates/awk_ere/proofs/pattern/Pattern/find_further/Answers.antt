use Rattle.std.proofs.Common.{◌≡◌, ◌+◌, length, Some, None, sym, subst, ◌∙◌, arith, rules}
use Rattle.awk_ere.specs.definitions.Tree.{Finds}
use Rattle.awk_ere.proofs.StandingText.{occurs_before, rest_finds}
use Rattle.awk_ere.proofs.LiteralOccurs.{literal_finds, literal_length}
use Rattle.awk_ere.proofs.RunOccurs.{run_finds}
use Rattle.awk_ere.proofs.pattern.Pattern.find_further.Goals as goal

pub returns-in_err-start-clause-found : goal.returns-in_err-start-clause-found
returns-in_err-start-clause-found c = λ t means.
    let s = c.args.text.now in
    let needle = c.in-Some.finder in
    subst (Finds t s c.args.from) (sym c.from_residual.ensures)
    (literal_finds t c.args.self.now s needle c.args.from means (c.requires.same.literal needle c.in-Some.is) None c.requires.within c.in_err-start.ensures)

pub returns-in-Some-clause-found : goal.returns-in-Some-clause-found
returns-in-Some-clause-found c = λ t means.
    let s = c.args.text.now in
    let start = c.args.from + c.in_ok-start.field-0 in
    let needle = c.in-Some.finder in
    let literal = c.requires.same.literal needle c.in-Some.is in
    let count : c.len.result ≡ length c.args.self.now.program.instructions.items = search rules in
    subst (λ n. Finds t s c.args.from (Some (start, start + n))) (sym (count ∙ literal_length needle c.args.self.now literal))
    (literal_finds t c.args.self.now s needle c.args.from means literal (Some c.in_ok-start.field-0) c.requires.within c.in_ok-start.ensures)

pub returns-in-Some-clause-within : goal.returns-in-Some-clause-within
returns-in-Some-clause-within c =
    let s = c.args.text.now in
    let k = c.in_ok-start.field-0 in
    let needle = c.in-Some.finder in
    let literal = c.requires.same.literal needle c.in-Some.is in
    let count : c.len.result ≡ length c.args.self.now.program.instructions.items = search rules in
    let o = occurs_before s needle c.args.from k c.requires.within (rest_finds s needle c.args.from (Some k) c.in_ok-start.ensures).1 in
    (omega arith, (omega arith, omega (arith, o.fits, count, literal_length needle c.args.self.now literal)))

pub returns-in-Some-run_class-clause-found : goal.returns-in-Some-run_class-clause-found
returns-in-Some-run_class-clause-found c = λ t means.
    let class = c.in-Some-run_class.class.now in
    run_finds t c.args.self.now class means c.in-Some-run_class.ensures c.args.text.now c.args.from c.first_run.result c.first_run.ensures
