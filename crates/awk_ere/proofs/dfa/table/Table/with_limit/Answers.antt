use Rattle.std.proofs.Common.{◌≡◌, ℕ, ◌+◌, ◌-◌, ◌*◌, ◌≤◌, ◌++◌, List, length, false, refl, ap, ◌∙◌, subst, replicate, arith}
use Rattle.std.proofs.lemmas.List.{length-append, length-replicate}
use Rattle.awk_ere.specs.support.Layout.{stride}
use Rattle.awk_ere.proofs.TableKept.{table_longer}
use Rattle.awk_ere.proofs.dfa.table.Table.with_limit.Goals as goal

longer : {A : Type 0} (new old : List A) (k : ℕ) (x : A) → new ≡ old ++ replicate k x → length new ≡ length old + k
longer new old k x is = ap length is ∙ length-append old (replicate k x) ∙ ap (λ n. length old + n) (length-replicate k x)

pub returns-clause-table : goal.returns-clause-table
returns-clause-table c = λ p same t.
    let old = c.args.self.now in
    let len = c.in-Some.len in
    let entries_len = stride * (c.args.limit + 1) in
    let rows = c.in_ok-enlarged.ensures ∙ ap (λ l. l ++ replicate (len - length l) false) c.deref.ensures.value in
    let on = c.in_ok-enlarged-2.ensures ∙ ap (λ l. l ++ replicate (entries_len - length l) 0) c.deref-2.ensures.value in
    let off = c.in_ok-enlarged-3.ensures ∙ ap (λ l. l ++ replicate (entries_len - length l) 0) c.deref-3.ensures.value in
    let rows_len = longer _ old.rows.items (len - length old.rows.items) false rows in
    let on_len = longer _ old.unanchored.items (entries_len - length old.unanchored.items) 0 on in
    let off_len = longer _ old.anchored.items (entries_len - length old.anchored.items) 0 off in
    let rows_room : c.args.limit * c.args.count ≤ length c.in_ok-enlarged.field-0.items = omega (arith, rows_len, c.in-Some.ensures) in
    table_longer p old _ t _ _ _ refl rows on off c.requires.more c.requires.few
    (subst (λ n. c.args.limit * n ≤ length c.in_ok-enlarged.field-0.items) same rows_room) (omega (arith, on_len)) (omega (arith, off_len))
