use Rattle.std.proofs.Common.{◌≡◌, ℕ, ◌+◌, ◌<◌, length, refl, sym, ap, subst, arith, get_or}
use Rattle.awk_ere.specs.support.Layout.{byte_count, stride, match_flag}
use Rattle.awk_ere.specs.support.Table.{IsEntry}
use Rattle.awk_ere.specs.support.CursorState.{Stood}
use Rattle.awk_ere.specs.declared.dfa.cursor.Cursor.{Cursor}
use Rattle.awk_ere.proofs.TableKept.{state_of}
use Rattle.awk_ere.proofs.CursorKept.{entry_of, entry_within, known_of, stood_miss}
use Rattle.awk_ere.proofs.pattern.Pattern.fast_loop.Goals as goal

pub bounds-transitions-state : goal.bounds-transitions-state
bounds-transitions-state c =
    let x = get_or c.args.text.now c.loop-k.k 0 in
    let byte : x < stride = omega (arith, c.type_inv.text c.loop-k.k) in
    subst (λ l. c.loop-k.state + x < length l) (sym c.transitions-transitions.ensures)
    (entry_within c.args.self.now c.args.table.now c.args.entering c.requires.table c.loop-k.state x c.loop-k.invariant.known byte)

pub loop-k-preserved : goal.loop-k-preserved
loop-k-preserved c =
    let p = c.args.self.now in
    let tb = c.args.table.now in
    let s = c.args.text.now in
    let m = c.args.entering in
    let k = c.loop-k.k in
    let v = c.loop-k.state in
    let x = get_or s k 0 in
    let byte : x < byte_count = omega (arith, c.type_inv.text k) in
    let u = get_or c.transitions-transitions.result.now (v + x) 0 in
    let some : 0 < u = omega (arith, c.if-entry-floor.false) in
    let small : u < match_flag = omega (arith, c.if-entry-ge-MATCH_FLAG.false) in
    let same = ap (λ l. get_or l (v + x) 0) (sym c.transitions-transitions.ensures) in
    record {
      known =
          let h = state_of p tb v c.loop-k.invariant.known in
          known_of p tb u _ _ ((subst (IsEntry p tb _ m _ x) same (entry_of p tb m c.requires.table v _ _ h x byte)).goes some small);
      stood = λ t from means enters h0.
          let h = c.loop-k.invariant.stood t from means (λ i a b. enters i a (omega (arith, b))) h0 in
          let w : Cursor = record { place = k; state = v; end = c.args.cursor.end } in
          let w' : Cursor = record { place = k + 1; state = u; end = c.args.cursor.end } in
          stood_miss p tb tb s t means from w h m (enters k c.loop-k.auto.k (omega arith)) (omega (arith, c.loop-k-test.true, c.requires.within)) u
          (subst (IsEntry p tb h.start m h.positions x) same (entry_of p tb m c.requires.table v h.start h.positions h.state x byte)) w' refl some small refl refl;
    }

pub loop-k-init : goal.loop-k-init
loop-k-init c = record { known = c.requires.known; stood = λ _ _ _ _ h. h }

pub returns-then-entry-floor-clause-stood : goal.returns-then-entry-floor-clause-stood
returns-then-entry-floor-clause-stood c = c.loop-k.invariant.stood

pub returns-clause-known : goal.returns-clause-known
returns-clause-known c = c.loop-k.invariant.known

pub returns-clause-stood : goal.returns-clause-stood
returns-clause-stood c = λ t from means enters h.
    let end : c.loop-k.k ≡ c.args.to = omega (arith, c.loop-k-test.false, c.requires.order) in
    subst (λ (k : ℕ). Stood c.args.self.now c.args.table.now c.args.text.now t from (record { place = k; state = c.loop-k.state; end = c.args.cursor.end })) end
    (c.loop-k.invariant.stood t from means (λ i a b. enters i a (omega (arith, b, end))) h)
