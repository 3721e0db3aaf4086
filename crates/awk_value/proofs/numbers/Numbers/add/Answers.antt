use Rattle.std.proofs.Common.{◌≡◌, ◌∙◌, ◌++◌, ◌∷◌, [], ap, sym, subst, ℤ, List, None, pos}
use Rattle.std.specs.Map.{lookup}
use Rattle.std.specs.List.Sorted.{IsPermutation}
use Rattle.std.specs.Ordering.{int_eq}
use Rattle.indexmap.specs.IndexMap.{insert_entry}
use Rattle.indexmap.proofs.CallerLemmas.{insert_entry-new}
use Rattle.awk_value.specs.declared.entry.Entry.{Entry}
use Rattle.awk_value.specs.support.DenseKeys.{numbered}
use Rattle.awk_value.proofs.BothNumbers.{none-first, second-lookup, first-added, second-added}
use Rattle.awk_value.proofs.Int64.{passed}
use Rattle.awk_value.proofs.Rows.{on_ok_map}
use Rattle.awk_value.proofs.numbers.Numbers.add.Goals as goal

pub add-requires-clause-new : goal.add-requires-clause-new
add-requires-clause-new c =
    let b = c.self.inside in
    let ds = numbered 0 b.dense in
    let none : lookup (int_eq c.args.key) (ds ++ b.sparse.entries) ≡ None = ap (lookup (int_eq c.args.key)) c.self.view_is ∙ c.requires.new in
    ap (λ z. lookup (int_eq z) ds) (sym c.in-Some.ensures.0 ∙ passed c.args.key c.ranges.key) ∙ none-first (int_eq c.args.key) ds b.sparse.entries none

pub returns-in-Some-clause-added : goal.returns-in-Some-clause-added
returns-in-Some-clause-added c =
    let b = c.self.inside in
    let ds = numbered 0 b.dense in
    let key = sym c.in-Some.ensures.0 ∙ passed c.args.key c.ranges.key in
    on_ok_map c.add.result _ _ c.add.ensures.added
    (λ m. subst (λ (l : List (ℤ × Entry)). IsPermutation (l ++ (c.args.key, c.args.entry) ∷ []) (numbered 0 c.add.new.self ++ b.sparse.entries)) c.self.view_is
    (subst (λ z. IsPermutation ((ds ++ b.sparse.entries) ++ (z, c.args.entry) ∷ []) (numbered 0 c.add.new.self ++ b.sparse.entries)) key
    (first-added ds (numbered 0 c.add.new.self) b.sparse.entries (pos c.in-Some.place, c.args.entry) m)))

pub returns-in-None-clause-added : goal.returns-in-None-clause-added
returns-in-None-clause-added c =
    let b = c.self.inside in
    let ds = numbered 0 b.dense in
    let t = int_eq c.args.key in
    let none : lookup t (ds ++ b.sparse.entries) ≡ None = ap (lookup t) c.self.view_is ∙ c.requires.new in
    let rest : lookup t b.sparse.entries ≡ None = sym (second-lookup t ds b.sparse.entries (none-first t ds b.sparse.entries none)) ∙ none in
    on_ok_map c.add_entry.result _ _ c.add_entry.ensures.added
    (λ h. second-added ds b.sparse.entries c.add_entry.new.entries.entries c.args.self.now c.args.key c.args.entry c.self.view_is
    (h ∙ ap (λ k. insert_entry int_eq b.sparse.entries k c.args.entry) (passed c.args.key c.ranges.key) ∙ insert_entry-new int_eq b.sparse c.args.key c.args.entry rest))
