use Rattle.std.proofs.Common.{◌≡◌, ℕ, ◌+◌, ◌-◌, ◌<◌, ◌≤◌, length, drop, true, refl, sym, ap, ◌∙◌, subst, arith, get_or}
use Rattle.std.proofs.lemmas.List.{length-take, get_or-take, get_or-drop}
use Rattle.awk_ere.specs.support.Layout.{byte_count, stride, dead_state}
use Rattle.awk_ere.specs.support.SimulationStep.{IsStillAt, IsStill}
use Rattle.awk_ere.specs.support.Table.{IsEntry, is_first}
use Rattle.awk_ere.specs.support.CursorState.{Stood}
use Rattle.awk_ere.specs.declared.dfa.cursor.Cursor.{Cursor}
use Rattle.awk_ere.proofs.StepTellsMatches.{still_off}
use Rattle.awk_ere.proofs.CursorKept.{entry_of, entry_within, stood_miss, stood_idle, stood_still}
use Rattle.awk_ere.proofs.pattern.Pattern.skip.Goals as goal
use Rattle.awk_ere.proofs.pattern.Pattern.skip.Goals.{then-not-entering-via-then-not-entering, then-not-entering-via-else-not-entering+then-scratch}

pub returns-then-not-entering-clause-stood : goal.returns-then-not-entering-clause-stood
returns-then-not-entering-clause-stood c = λ t from means enters h.
    let p = c.args.self.now in
    let w = c.args.cursor in
    let idle = c.if-cursor-ne-DEAD.false in
    let still : IsStill p c.args.entering =
    elim c.then-not-entering.branch [
      | then-not-entering-via-then-not-entering w ↦ subst (IsStill p) (sym w.if-not-entering.true) (still_off t p means)
      | then-not-entering-via-else-not-entering+then-scratch w ↦ subst (IsStill p) (sym w.if-not-entering.false) (c.requires.same.anchored_at_start w.if-scratch.true)
    ] in
    stood_still p c.args.scratch.now.table c.requires.same.table c.args.text.now (λ k. omega (arith, c.type_inv.text k)) t means from c.args.entering still
    (c.args.to - w.place) w _ h idle idle refl (omega (arith, c.requires.order)) c.requires.within enters

pub loop-k-preserved : goal.loop-k-preserved
loop-k-preserved c = λ t from means enters h0.
    let p = c.args.self.now in
    let tb = c.args.scratch.now.table in
    let s = c.args.text.now in
    let k = c.loop-k.k in
    let v = c.args.cursor.state in
    let x = get_or s k 0 in
    let byte : x < byte_count = omega (arith, c.type_inv.text k) in
    let h = c.loop-k.invariant t from means enters h0 in
    let w : Cursor = record { place = k; state = v; end = c.args.cursor.end } in
    let w' : Cursor = record { place = k + 1; state = v; end = c.args.cursor.end } in
    let same = ap (λ u. get_or tb.unanchored.items (u + x) 0) c.if-cursor-ne-DEAD.false ∙ ap (λ l. get_or l (dead_state + x) 0) (sym c.as_slice-transitions.ensures.value) ∙ c.if-transitions-text-ne-DEAD.false in
    stood_miss p tb tb s t means from w h true (sym c.if-not-entering.false ∙ enters k c.loop-k.auto.k c.loop-k-test.true) (omega (arith, c.loop-k-test.true, c.requires.within)) dead_state
    (subst (IsEntry p tb h.start true h.positions x) same (entry_of p tb true c.requires.same.table v h.start h.positions h.state x byte)) w' refl (omega arith) (omega arith) c.if-cursor-ne-DEAD.false refl

pub bounds-transitions-text : goal.bounds-transitions-text
bounds-transitions-text c =
    let tb = c.args.scratch.now.table in
    let v = c.args.cursor.state in
    let x = get_or c.args.text.now c.loop-k.k 0 in
    let byte : x < stride = omega (arith, c.type_inv.text c.loop-k.k) in
    subst (λ l. dead_state + x < length l) (sym c.as_slice-transitions.ensures.value)
    (subst (λ u. u + x < length tb.unanchored.items) c.if-cursor-ne-DEAD.false (entry_within c.args.self.now tb true c.requires.same.table v x c.requires.known byte))

pub loop-k-init : goal.loop-k-init
loop-k-init c = λ _ _ _ _ h. h

pub returns-then-cursor-ne-DEAD-clause-stood : goal.returns-then-cursor-ne-DEAD-clause-stood
returns-then-cursor-ne-DEAD-clause-stood c = λ _ _ _ _ h. h

pub returns-then-transitions-text-ne-DEAD-clause-stood : goal.returns-then-transitions-text-ne-DEAD-clause-stood
returns-then-transitions-text-ne-DEAD-clause-stood c = c.loop-k.invariant

pub returns-clause-stood : goal.returns-clause-stood
returns-clause-stood c = λ t from means enters h.
    let p = c.args.self.now in
    let s = c.args.text.now in
    let w = c.args.cursor in
    let rest = drop w.place s in
    let first = c.args.scratch.now.first_bytes in
    let idle = c.if-cursor-ne-DEAD.false in
    let within : w.place + c.in-Some.skipped ≤ c.args.to = omega (arith, c.requires.order, c.in-Some.ensures.within, length-take (c.args.to - w.place) rest) in
    stood_idle p c.args.scratch.now.table c.requires.same.table s (λ k. omega (arith, c.type_inv.text k)) t means from c.args.entering
    c.in-Some.skipped w _ h idle idle refl refl (omega (arith, within, c.requires.within)) (λ k ge lt. enters k ge (omega (arith, lt, within)))
    (λ k ge lt.
    let here =
    get_or-take (c.args.to - w.place) rest (k - w.place) 0 (omega (arith, ge, lt, within))
    ∙ get_or-drop w.place s (k - w.place) 0
    ∙ ap (λ i. get_or s i 0) (let e : w.place + (k - w.place) ≡ k = omega (arith, ge) in e) in
    let none = sym (ap (is_first first) here) ∙ c.in-Some.ensures.none (k - w.place) (omega (arith, ge, lt)) in
    subst (λ m. IsStillAt p m (get_or s k 0)) (sym c.if-not-entering.false)
    (c.requires.same.first_bytes (get_or s k 0) (omega (arith, c.type_inv.text k)) none))

pub returns-2-clause-stood : goal.returns-2-clause-stood
returns-2-clause-stood c = λ t from means enters h.
    let end : c.loop-k.k ≡ c.args.to = omega (arith, c.loop-k-test.false, c.requires.order) in
    subst (λ (k : ℕ). Stood c.args.self.now c.args.scratch.now.table c.args.text.now t from (record { place = k; state = c.args.cursor.state; end = c.args.cursor.end })) end
    (c.loop-k.invariant t from means enters h)
