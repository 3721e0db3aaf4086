use Rattle.std.proofs.Common.{◌≡◌, Bool, ◌||◌, Result, Ok, Err, IfOk, sym, ap, ◌∙◌}
use Rattle.std.specs.List.{list_any}
use Rattle.awk_grammar.specs.View.{items_of}
use Rattle.awk_kinds.specs.definitions.Kinds.{uses_in, function_names_of}
use Rattle.awk_kinds.specs.definitions.NameUses.{names_in}
use Rattle.awk_kinds.specs.definitions.Fits.{holds, has_repeat, is_special, is_variable_left_out, calls_left_out, item_names_left_out}
use Rattle.awk_kinds.specs.support.Misuses.{unknown_call, overfull_call, refused_item, function_variable, any_variable}
use Rattle.awk_kinds.specs.support.Mixed.{mixes}
use Rattle.awk_kinds.proofs.Told.{unknown_any, overfull_any, refused_any, repeat_is, special_any, function_names_any, variables_any, mixes_is}
use Rattle.awk_kinds.proofs.refusal.Known.holds.Goals as goal

answers_so : {E : Type 0} (r : Result Bool E) (b d : Bool) → IfOk r (λ answer. answer ≡ b) → b ≡ d → IfOk r (λ answer. answer ≡ d)
answers_so (Ok answer) b d h e = h ∙ e
answers_so (Err x) b d h e = h

pub returns-in-UnknownFunction : goal.returns-in-UnknownFunction
returns-in-UnknownFunction c =
    let items = items_of c.args.items.now in
    c.has_unknown_call.ensures ∙ ap (list_any (unknown_call c.args.self.now.functions)) (c.deref.ensures.value ∙ c.requires.uses.names)
    ∙ sym (unknown_any items c.args.self.now.functions c.requires.functions (names_in items)) ∙ ap (λ code. holds code items) (sym c.in-UnknownFunction.is)

pub returns-in-DefinedTwice : goal.returns-in-DefinedTwice
returns-in-DefinedTwice c =
    let items = items_of c.args.items.now in
    answers_so c.has_repeat.result (has_repeat c.deref-in-DefinedTwice.result.now) (holds c.args.code items) c.has_repeat.ensures
    (ap has_repeat c.deref-in-DefinedTwice.ensures.value ∙ sym (repeat_is items c.args.self.now.functions c.requires.functions) ∙ ap (λ code. holds code items) (sym c.in-DefinedTwice.is))

pub returns-in-TooManyArguments : goal.returns-in-TooManyArguments
returns-in-TooManyArguments c =
    let items = items_of c.args.items.now in
    c.has_overfull_call.ensures ∙ ap (list_any (overfull_call c.args.self.now.functions)) (c.deref-in-TooManyArguments.ensures.value ∙ c.requires.uses.names)
    ∙ sym (overfull_any items c.args.self.now.functions c.requires.functions (names_in items)) ∙ ap (λ code. holds code items) (sym c.in-TooManyArguments.is)

pub returns-in-ParameterRefused : goal.returns-in-ParameterRefused
returns-in-ParameterRefused c =
    let items = items_of c.args.items.now in
    answers_so c.has_refused_parameter.result (list_any (refused_item c.args.self.now.functions) items) (holds c.args.code items) c.has_refused_parameter.ensures
    (sym (refused_any items c.args.self.now.functions c.requires.functions items) ∙ ap (λ code. holds code items) (sym c.in-ParameterRefused.is))

pub returns-in-NameLeftOut : goal.returns-in-NameLeftOut
returns-in-NameLeftOut c =
    let items = items_of c.args.items.now in
    c.names_left_out.ensures
    ∙ ap (λ ns. list_any item_names_left_out items || (list_any calls_left_out ns || any_variable is_variable_left_out c.args.self.now.uses.arrays.items ns)) c.requires.uses.names
    ∙ ap (λ us. list_any item_names_left_out items || (list_any calls_left_out (names_in items) || any_variable is_variable_left_out us (names_in items))) c.requires.uses.arrays
    ∙ ap (λ b. list_any item_names_left_out items || (list_any calls_left_out (names_in items) || b)) (sym (variables_any is_variable_left_out (uses_in items) (names_in items)))
    ∙ ap (λ code. holds code items) (sym c.in-NameLeftOut.is)

pub returns-in-FunctionAsVariable : goal.returns-in-FunctionAsVariable
returns-in-FunctionAsVariable c =
    let items = items_of c.args.items.now in
    let functions = c.args.self.now.functions in
    c.has_function_variable.ensures
    ∙ ap (λ ns. list_any is_special functions.names.items || any_variable (function_variable functions) c.args.self.now.uses.arrays.items ns) c.requires.uses.names
    ∙ ap (λ us. list_any is_special functions.names.items || any_variable (function_variable functions) us (names_in items)) c.requires.uses.arrays
    ∙ ap (λ b. b || any_variable (function_variable functions) (uses_in items) (names_in items)) (sym (special_any items functions c.requires.functions))
    ∙ ap (λ b. list_any is_special (function_names_of items) || b) (sym (function_names_any items functions c.requires.functions (uses_in items) (names_in items)))
    ∙ ap (λ code. holds code items) (sym c.in-FunctionAsVariable.is)

pub returns-in-ArrayAndScalar : goal.returns-in-ArrayAndScalar
returns-in-ArrayAndScalar c =
    let items = items_of c.args.items.now in
    let functions = c.args.self.now.functions in
    let arrays = c.args.self.now.arrays in
    answers_so c.mixes_kinds.result (mixes functions arrays c.args.self.now.uses.arrays.items c.args.self.now.uses.names.items) (holds c.args.code items) c.mixes_kinds.ensures
    (ap (λ ns. mixes functions arrays c.args.self.now.uses.arrays.items ns) c.requires.uses.names ∙ ap (λ us. mixes functions arrays us (names_in items)) c.requires.uses.arrays
    ∙ sym (mixes_is items functions c.requires.functions arrays c.requires.arrays (uses_in items) (names_in items)) ∙ ap (λ code. holds code items) (sym c.in-ArrayAndScalar.is))
