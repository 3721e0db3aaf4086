use Rattle.std.proofs.Common.{◌≡◌, ℕ, List, ◌+◌, ◌∷◌, [], ◌++◌, false, length, map, filter, take, drop, sym, ap, ◌∙◌}
use Rattle.std.proofs.lemmas.List.{take_all, append-nil}
use Rattle.awk_kinds.specs.definitions.Names.{has_name, with_name}
use Rattle.awk_grammar.specs.Tree.{Function}
use Rattle.awk_grammar.specs.View.{item_of, items_of, statements_of}
use Rattle.awk_kinds.specs.definitions.SpecialNames.{special_arrays}
use Rattle.awk_kinds.specs.definitions.Kinds.{in_array_use, globals_among, array_names_of, uses_in, is_member, arrays_of, definitions_of}
use Rattle.awk_kinds.specs.definitions.Signatures.{ProgramKinds, Signature, signature_by}
use Rattle.awk_kinds.specs.definitions.Fits.{has_repeat}
use Rattle.awk_kinds.specs.support.Functions.{names_defined}
use Rattle.awk_kinds.specs.support.Arrays.{is_marked}
use Rattle.awk_kinds.specs.support.Tables.{signatures}
use Rattle.awk_kinds.specs.support.Marked.{marked_formal, marked_parameters}
use Rattle.awk_kinds.proofs.Defined.{names_defined-append}
use Rattle.awk_kinds.proofs.Tabled.{put_last}
use Rattle.awk_kinds.proofs.KindsMade.{filter_same, items_around, items_to, parameters_differ, name_new, parameters-append, as_long, no_names, no_parameters, signatures_are}
use Rattle.awk_kinds.proofs.kinds.Kinds.of_items.Goals as goal
use Rattle.awk_kinds.proofs.kinds.Kinds.of_items.Goals.{in-Function+in_ok-add+in_ok-of+in_ok-push, in_default}

abbrev made : List (List ℕ) → List Signature → ProgramKinds
made a f = record { arrays = a; functions = f }

both : (a b : List (List ℕ)) (f g : List Signature) → a ≡ b → f ≡ g → made a f ≡ made b g
both a b f g p q = ap (λ x. made x f) p ∙ ap (λ y. made b y) q

pub of-requires : goal.of-requires
of-requires c =
    let i = c.loop-item.item-index in
    let all = c.args.items.now in
    let x = c.item-item.result in
    let f = c.in-Function.name in
    let ps = c.in-Function.all.items in
    let block = statements_of c.in-Function.field-2.items in
    let split : items_of all ≡ items_of (take i all) ++ (Function f ps block ∷ items_of (drop (i + 1) all)) =
    items_around all i x c.loop-item-test.true c.item-item.is ∙ ap (λ y. items_of (take i all) ++ (y ∷ items_of (drop (i + 1) all))) (ap item_of c.in-Function.is) in
    ap has_repeat c.deref.ensures.value ∙ parameters_differ (items_of all) (items_of (take i all)) (items_of (drop (i + 1) all)) f ps block split c.requires.fits

pub loop-item-preserved : goal.loop-item-preserved
loop-item-preserved c =
    let i = c.loop-item.item-index in
    let all = c.args.items.now in
    let x = c.item-item.result in
    let arrays = c.args.arrays.now in
    let before = items_of (take i all) in
    let to : items_of (take (i + 1) all) ≡ before ++ item_of x ∷ [] = items_to all i x c.loop-item-test.true c.item-item.is in
    let names : names_defined (items_of (take (i + 1) all)) ≡ names_defined before ++ names_defined (item_of x ∷ []) = ap names_defined to ∙ names_defined-append before (item_of x ∷ []) in
    let lists : marked_parameters arrays (items_of (take (i + 1) all)) ≡ marked_parameters arrays before ++ marked_parameters arrays (item_of x ∷ []) = ap (marked_parameters arrays) to ∙ parameters-append arrays before (item_of x ∷ []) in
    elim c.match-item.branch [
      | in-Function+in_ok-add+in_ok-of+in_ok-push w ↦
          let f = w.in-Function.name in
          let ps = w.in-Function.all.items in
          let block = statements_of w.in-Function.field-2.items in
          let is : item_of x ≡ Function f ps block = ap item_of w.in-Function.is in
          let split : items_of all ≡ before ++ (Function f ps block ∷ items_of (drop (i + 1) all)) =
          items_around all i x c.loop-item-test.true c.item-item.is ∙ ap (λ y. before ++ (y ∷ items_of (drop (i + 1) all))) is in
          let absent : has_name (names_defined before) f ≡ false = name_new (items_of all) before (items_of (drop (i + 1) all)) f ps block split c.requires.fits in
          record {
            functions = w.functions-is ∙ w.in_ok-add.ensures.names ∙ ap (λ ns. with_name ns w.as_slice.result.now) c.loop-item.invariant.functions ∙ ap (with_name (names_defined before)) w.as_slice.ensures
                ∙ put_last (names_defined before) f absent ∙ sym (names ∙ ap (λ y. names_defined before ++ names_defined (y ∷ [])) is);
            parameters = ap (λ v. v.items) w.parameters-is ∙ w.in_ok-push.ensures.items ∙ ap (λ ls. ls ++ w.in_ok-of.field-0 ∷ []) c.loop-item.invariant.parameters
                ∙ ap (λ l. marked_parameters arrays before ++ l ∷ []) (w.in_ok-of.ensures ∙ ap (map (marked_formal arrays f)) w.deref.ensures.value)
                ∙ sym (lists ∙ ap (λ y. marked_parameters arrays before ++ marked_parameters arrays (y ∷ [])) is);
          }
      | in_default w ↦ record {
        functions = w.functions-is ∙ c.loop-item.invariant.functions ∙ sym (names ∙ ap (λ l. names_defined before ++ l) (no_names x (λ f ps block e. w.in_default.not-Function f ps block e)) ∙ append-nil (names_defined before));
        parameters = ap (λ v. v.items) w.parameters-is ∙ c.loop-item.invariant.parameters ∙ sym (lists ∙ ap (λ l. marked_parameters arrays before ++ l) (no_parameters arrays x (λ f ps block e. w.in_default.not-Function f ps block e)) ∙ append-nil (marked_parameters arrays before));
      }
    ]

pub invariant_of-result : goal.invariant_of-result
invariant_of-result c =
    let items = items_of (take c.loop-item.item-index c.args.items.now) in
    ap length c.loop-item.invariant.functions ∙ as_long c.args.arrays.now items ∙ sym (ap length c.loop-item.invariant.parameters)

pub returns : goal.returns
returns c =
    let items = items_of c.args.items.now in
    let arrays = c.args.arrays.now in
    let whole : items_of (take c.loop-item.item-index c.args.items.now) ≡ items = ap items_of (take_all c.loop-item.item-index c.args.items.now c.loop-item-test.false) in
    let names : c.in_ok-names.names ≡ array_names_of items =
    c.in_ok-names.ensures ∙ ap (λ us. globals_among special_arrays (filter (is_marked arrays) (map in_array_use us))) c.requires.uses
    ∙ ap (globals_among special_arrays) (filter_same (is_marked arrays) (is_member (arrays_of items)) c.requires.arrays.marked (map in_array_use (uses_in items))) in
    let functions : signatures c.loop-item.functions c.loop-item.parameters.items ≡ map signature_by (definitions_of items) =
    ap (λ ns. signatures ns c.loop-item.parameters.items) (c.loop-item.invariant.functions ∙ ap names_defined whole) ∙ ap (signatures (names_defined items)) (c.loop-item.invariant.parameters ∙ ap (marked_parameters arrays) whole)
    ∙ signatures_are items arrays c.requires.arrays items in
    both c.in_ok-names.names (array_names_of items) (signatures c.loop-item.functions c.loop-item.parameters.items) (map signature_by (definitions_of items)) names functions
