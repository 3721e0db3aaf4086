use Rattle.std.proofs.Common.{sym, subst}
use Rattle.awk_ere.specs.support.CompilerState.{state_of}
use Rattle.awk_ere.proofs.CompilerMakesProgram.{Reaches, first, takes, next, none_refused, finished}
use Rattle.awk_ere.proofs.compile.compile_checked.Goals as goal

pub loop-token-init : goal.loop-token-init
loop-token-init c = subst (λ d. Reaches c.args.text.now c.args.text.now d) (sym c.new-compiler.ensures) (first c.args.text.now)

pub returns-then-not-branch : goal.returns-then-not-branch
returns-then-not-branch c =
    none_refused c.args.text.now c.loop-token.rest.now c.in-Some.behind.now c.in-Some.token c.token_at.new.set (state_of c.loop-token.compiler) (state_of c.take_in.new.self) c.in_ok-take_in.field-0
    c.in-Some.ensures.found c.in-Some.ensures.set c.in_ok-take_in.ensures c.if-not-branch.true c.loop-token.invariant

pub loop-token-smaller : goal.loop-token-smaller
loop-token-smaller c =
    (takes c.args.text.now c.loop-token.rest.now c.in-Some.behind.now c.in-Some.token c.token_at.new.set (state_of c.loop-token.compiler)
    c.in-Some.ensures.found c.in-Some.ensures.set c.loop-token.invariant c.requires.0 c.requires.1).1

pub loop-token-preserved : goal.loop-token-preserved
loop-token-preserved c =
    next c.args.text.now c.loop-token.rest.now c.in-Some.behind.now c.in-Some.token c.token_at.new.set (state_of c.loop-token.compiler) (state_of c.take_in.new.self) c.in_ok-take_in.field-0
    c.in-Some.ensures.found c.in-Some.ensures.set c.in_ok-take_in.ensures c.if-not-branch.false c.loop-token.invariant

pub returns : goal.returns
returns c =
    finished c.args.text.now c.loop-token.rest.now (state_of c.loop-token.compiler) c.finish.result
    c.in_default.ensures.found c.loop-token.invariant c.finish.ensures
