use Rattle.std.proofs.Common.{◌+◌, ◌-◌, ◌<◌, length, false, refl, sym, ap, subst, arith, get_or}
use Rattle.awk_ere.specs.support.Layout.{byte_count, stride, match_flag}
use Rattle.awk_ere.specs.support.Table.{IsKnown, IsEntry}
use Rattle.awk_ere.specs.declared.dfa.cursor.Cursor.{Cursor}
use Rattle.awk_ere.specs.support.Found.{EndsWithin}
use Rattle.awk_ere.proofs.LastEnd.{ends_within}
use Rattle.awk_ere.proofs.TableKept.{state_of}
use Rattle.awk_ere.proofs.CursorKept.{entry_of, entry_within, known_of, stood_miss, stood_hit, stood_same}
use Rattle.awk_ere.proofs.pattern.Pattern.last_loop.Goals as goal
use Rattle.awk_ere.proofs.pattern.Pattern.last_loop.Goals.{then-entry-lt-MATCH_FLAG, else-entry-lt-MATCH_FLAG}

pub bounds-transitions-state : goal.bounds-transitions-state
bounds-transitions-state c =
    let x = get_or c.args.text.now c.loop-k.k 0 in
    let byte : x < stride = omega (arith, c.type_inv.text c.loop-k.k) in
    subst (λ l. c.loop-k.state + x < length l) (sym c.as_slice-transitions.ensures.value)
    (entry_within c.args.self.now c.args.table.now false c.requires.table c.loop-k.state x c.loop-k.invariant.known byte)

pub loop-k-preserved : goal.loop-k-preserved
loop-k-preserved c =
    let p = c.args.self.now in
    let tb = c.args.table.now in
    let s = c.args.text.now in
    let k = c.loop-k.k in
    let v = c.loop-k.state in
    let x = get_or s k 0 in
    let byte : x < byte_count = omega (arith, c.type_inv.text k) in
    let u = get_or c.as_slice-transitions.result.now (v + x) 0 in
    let some : 0 < u = omega (arith, c.if-entry-eq-UNKNOWN.false) in
    let same = ap (λ l. get_or l (v + x) 0) (sym c.as_slice-transitions.ensures.value) in
    let w : Cursor = record { place = k; state = v; end = c.loop-k.end } in
    let w' : Cursor = record { place = k + 1; state = c.if-entry-lt-MATCH_FLAG.state; end = c.if-entry-lt-MATCH_FLAG.end } in
    let h = state_of p tb v c.loop-k.invariant.known in
    let e = subst (IsEntry p tb _ false _ x) same (entry_of p tb false c.requires.table v _ _ h x byte) in
    elim c.if-entry-lt-MATCH_FLAG.branch [
      | then-entry-lt-MATCH_FLAG b ↦ record {
        known = subst (IsKnown tb) (sym b.state-is) (known_of p tb u _ _ (e.goes some b.if-entry-lt-MATCH_FLAG.true));
        end = λ low le h0. subst (EndsWithin low (k + 1)) (sym b.end-is) (ends_within low k (k + 1) c.loop-k.end (omega arith) (c.loop-k.invariant.end low le h0));
        stood = λ t from means enters h0.
            let h = c.loop-k.invariant.stood t from means enters h0 in
            stood_miss p tb tb s t means from w h false (enters k c.loop-k.auto.k c.loop-k-test.true) (omega (arith, c.loop-k-test.true, c.requires.within)) u
            (subst (IsEntry p tb h.start false h.positions x) same (entry_of p tb false c.requires.table v h.start h.positions h.state x byte)) w' refl some b.if-entry-lt-MATCH_FLAG.true b.state-is b.end-is;
      }
      | else-entry-lt-MATCH_FLAG b ↦ record {
        known = subst (IsKnown tb) (sym b.state-is) (known_of p tb (u - match_flag) _ _ (e.leads b.if-entry-lt-MATCH_FLAG.false));
        end = λ low le h0. subst (EndsWithin low (k + 1)) (sym b.end-is) (omega (arith, le, c.loop-k.auto.k), omega arith);
        stood = λ t from means enters h0.
            let h = c.loop-k.invariant.stood t from means enters h0 in
            stood_hit p tb tb s t means from w h false (enters k c.loop-k.auto.k c.loop-k-test.true) (omega (arith, c.loop-k-test.true, c.requires.within)) u
            (subst (IsEntry p tb h.start false h.positions x) same (entry_of p tb false c.requires.table v h.start h.positions h.state x byte)) w' refl b.if-entry-lt-MATCH_FLAG.false b.state-is b.end-is;
      }
    ]

pub loop-k-init : goal.loop-k-init
loop-k-init c = record { known = c.requires.known; end = λ _ _ h. h; stood = λ _ _ _ _ h. h }

pub returns-then-state-eq-DEAD-clause-stood : goal.returns-then-state-eq-DEAD-clause-stood
returns-then-state-eq-DEAD-clause-stood c = c.loop-k.invariant.stood

pub returns-then-state-eq-DEAD-clause-end : goal.returns-then-state-eq-DEAD-clause-end
returns-then-state-eq-DEAD-clause-end c = c.loop-k.invariant.end

pub returns-then-entry-eq-UNKNOWN-clause-stood : goal.returns-then-entry-eq-UNKNOWN-clause-stood
returns-then-entry-eq-UNKNOWN-clause-stood c = c.loop-k.invariant.stood

pub returns-then-entry-eq-UNKNOWN-clause-end : goal.returns-then-entry-eq-UNKNOWN-clause-end
returns-then-entry-eq-UNKNOWN-clause-end c = c.loop-k.invariant.end

pub returns-clause-end : goal.returns-clause-end
returns-clause-end c = λ low le h0.
    ends_within low c.loop-k.k c.args.to c.loop-k.end (omega (arith, c.loop-k.auto.k-end, c.requires.order)) (c.loop-k.invariant.end low le h0)

pub returns-clause-stood : goal.returns-clause-stood
returns-clause-stood c = λ t from means enters h0.
    let w : Cursor = record { place = c.loop-k.k; state = c.loop-k.state; end = c.loop-k.end } in
    let w' : Cursor = record { place = c.args.to; state = c.loop-k.state; end = c.loop-k.end } in
    stood_same c.args.self.now c.args.table.now c.args.text.now t from w w' (c.loop-k.invariant.stood t from means enters h0)
    (omega (arith, c.loop-k.auto.k-end, c.requires.order)) refl refl
