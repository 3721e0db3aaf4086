use Rattle.std.proofs.Common.{◌+◌, ◌≤◌, ◌<◌, ◌||◌, ℕ, Bool, length, sym, subst, arith}
use Rattle.awk_ere.specs.support.Checks.{is_bad}
use Rattle.awk_ere.proofs.CheckDecidesText.{Follows, follows_first, follows_next, no_token, no_step, may_end, cannot_end, has_bytes, shorter}
use Rattle.awk_ere.proofs.check.check.Goals as goal

pub loop-rest-init : goal.loop-rest-init
loop-rest-init c = record { follows = follows_first _; long = has_bytes _ c.if-is_empty.ensures; fits = omega arith }

pub returns-in_err-token : goal.returns-in_err-token
returns-in_err-token c =
    rw c.from_residual.ensures (no_token _ c.loop-rest.rest.now _ _ _ c.loop-rest.invariant.follows c.loop-rest.invariant.long (has_bytes _ c.loop-rest-test.ensures) c.in_err-token.ensures.found)

pub returns-in_err-place : goal.returns-in_err-place
returns-in_err-place c =
    rw c.from_residual-in_err-place.ensures
    (no_step _ c.loop-rest.rest.now c.in_ok-token.behind.now c.loop-rest.place _ _ c.in_ok-token.token c.loop-rest.invariant.follows c.loop-rest.invariant.long c.in_ok-token.ensures.found c.in_err-place.ensures.is)

pub loop-rest-preserved : goal.loop-rest-preserved
loop-rest-preserved c =
    let text = c.args.text.now in
    let rest = c.loop-rest.rest.now in
    let more = c.in_ok-token.behind.now in
    let next = c.in_ok-place.place in
    let found = c.in_ok-token.ensures.found in
    let s = follows_next text rest more c.loop-rest.place next c.loop-rest.bad c.loop-rest.opened c.in_ok-token.token c.loop-rest.invariant.follows found c.in_ok-place.ensures.is in
    let short : length more < length rest = shorter rest more c.in_ok-token.token found in
    let near : next.groups ≤ c.loop-rest.place.groups + 1 = c.in_ok-place.ensures.near in
    let fits : length rest + c.loop-rest.place.groups ≤ length text = c.loop-rest.invariant.fits in
    record {
      follows = subst (λ (b : Bool). Follows text more next (c.loop-rest.bad || b) c.max-opened.result) (sym c.is_bad-bad.ensures)
          (subst (λ (d : ℕ). Follows text more next (c.loop-rest.bad || is_bad c.in_ok-token.token) d) (sym c.max-opened.ensures) s);
      long = c.loop-rest.invariant.long;
      fits = omega (arith, short, near, fits);
    }

pub loop-rest-smaller : goal.loop-rest-smaller
loop-rest-smaller c = shorter c.loop-rest.rest.now c.in_ok-token.behind.now c.in_ok-token.token c.in_ok-token.ensures.found

pub returns-then-may_stop : goal.returns-then-may_stop
returns-then-may_stop c =
    may_end c.args.text.now c.loop-rest.rest.now c.loop-rest.place _ _ c.loop-rest.invariant.follows c.loop-rest-test.ensures (sym c.if-may_stop.ensures)

pub returns-else-may_stop : goal.returns-else-may_stop
returns-else-may_stop c =
    cannot_end c.args.text.now c.loop-rest.rest.now c.loop-rest.place _ _ c.loop-rest.invariant.follows c.loop-rest.invariant.long c.loop-rest-test.ensures (sym c.if-may_stop.ensures)
