use Rattle.std.proofs.Common.{◌≡◌, ◌+◌, ◌||◌, ◌∷◌, [], ◌++◌, true, false, take, drop, sym, ap, ◌∙◌}
use Rattle.std.proofs.lemmas.List.{take_more, take-append-drop}
use Rattle.std.proofs.Math.Bool.{or-true}
use Rattle.awk_kinds.specs.definitions.Names.{has_name}
use Rattle.awk_kinds.specs.definitions.Fits.{has_repeat}
use Rattle.awk_kinds.proofs.Known.{is_key, one_more}
use Rattle.awk_kinds.proofs.Defined.{has_repeat-left, has_repeat-push}
use Rattle.awk_kinds.proofs.functions.has_repeat.Goals as goal

pub returns-then-contains : goal.returns-then-contains
returns-then-contains c =
    let i = c.loop-name.name-index in
    let all = c.args.names.now in
    let x = c.name-item.result in
    let more : take (i + 1) all ≡ take i all ++ x ∷ [] = take_more all i x c.loop-name-test.true ∙ ap (λ y. take i all ++ y ∷ []) (sym c.name-item.is) in
    let there : has_name (take i all) x ≡ true =
    sym (c.loop-name.invariant.known x) ∙ ap (is_key c.loop-name.known.keys) (sym c.as_slice.ensures) ∙ sym c.contains.ensures ∙ c.if-contains.true in
    let twice : has_repeat (take (i + 1) all) ≡ true =
    ap has_repeat more ∙ has_repeat-push (take i all) x ∙ ap (λ b. has_repeat (take i all) || b) there ∙ or-true (has_repeat (take i all)) in
    sym (ap has_repeat (sym (take-append-drop (i + 1) all)) ∙ has_repeat-left (take (i + 1) all) (drop (i + 1) all) twice)

pub loop-name-preserved : goal.loop-name-preserved
loop-name-preserved c =
    let i = c.loop-name.name-index in
    let all = c.args.names.now in
    let x = c.name-item.result in
    let more : take (i + 1) all ≡ take i all ++ x ∷ [] = take_more all i x c.loop-name-test.true ∙ ap (λ y. take i all ++ y ∷ []) (sym c.name-item.is) in
    let absent : has_name (take i all) x ≡ false =
    sym (c.loop-name.invariant.known x) ∙ ap (is_key c.loop-name.known.keys) (sym c.as_slice.ensures) ∙ sym c.contains.ensures ∙ c.if-contains.false in
    record {
      known = λ y.
          ap (λ ks. is_key ks y) c.in_ok-insert.ensures.keys
          ∙ one_more c.loop-name.known.keys c.in_ok-from_slice.field-0 (take i all) x (c.in_ok-from_slice.ensures.items ∙ c.as_slice-in-loop-name.ensures) c.loop-name.invariant.known y
          ∙ ap (λ ps. has_name ps y) (sym more);
      once = ap has_repeat more ∙ has_repeat-push (take i all) x ∙ ap (λ b. b || has_name (take i all) x) c.loop-name.invariant.once ∙ absent;
    }
