-- What expressions are in the code's tree, and that the functions stay while one is lowered.
use Rattle.std.proofs.Common.{Option, ◌≡◌, ℕ, Bool, List, [], rules, Vec, get_or, sym, subst, ap, ◌∙◌}
use Rattle.awk_grammar.specs.declared.tree.Expr.{Expr as CodeExpr}
use Rattle.awk_grammar.specs.declared.tree.Expr.TheVariants as code
use Rattle.std.specs.Global.{Box, Global}
use Rattle.awk_value.specs.declared.bytes.Bytes.{Bytes}
use Rattle.awk_lex.specs.declared.token.BuiltIn.{BuiltIn as BuiltInName}
use Rattle.awk_grammar.specs.declared.tree.Expr.TheViews.{the_lemmas}
use Rattle.awk_grammar.specs.Tree as tree
use Rattle.awk_grammar.specs.View.{expr_of, exprs_of, optional_expr_of}
use Rattle.awk_kinds.proofs.Rows.{row_is_list}
use Rattle.awk_kinds.specs.definitions.Kinds.{FormalParameter}
use Rattle.awk_kinds.specs.definitions.Signatures.{ProgramKinds}
use Rattle.awk_resolve.specs.declared.builder.Builder.{Builder}
use Rattle.awk_resolve.specs.support.Builds.{Part, Builds}
use Rattle.awk_resolve.specs.support.Calls.{arrays_of, is_array_at}
use Rattle.awk_resolve.proofs.Building.{arrays_same}

pub element_is : (e : CodeExpr) (x : Bytes) (list : Vec CodeExpr Global) → e ≡ code.Element x list → expr_of e ≡ tree.Element x (exprs_of list.items)
element_is e x list is = search (rules, the_lemmas, row_is_list)

pub list_membership_is : (e : CodeExpr) (list : Vec CodeExpr Global) (x : Bytes) → e ≡ code.ListMembership list x → expr_of e ≡ tree.ListMembership (exprs_of list.items) x
list_membership_is e list x is = search (rules, the_lemmas, row_is_list)

pub call_is : (e : CodeExpr) (function : Bytes) (list : Vec CodeExpr Global) → e ≡ code.Call function list → expr_of e ≡ tree.Call function (exprs_of list.items)
call_is e function list is = search (rules, the_lemmas, row_is_list)

pub built_in_is : (e : CodeExpr) (function : BuiltInName) (list : Vec CodeExpr Global) → e ≡ code.BuiltIn function list → expr_of e ≡ tree.BuiltIn function (exprs_of list.items)
built_in_is e function list is = search (rules, the_lemmas, row_is_list)

pub getline_is : (e : CodeExpr) (place file : Option (Box CodeExpr)) → e ≡ code.Getline place file → expr_of e ≡ tree.Getline (optional_expr_of place) (optional_expr_of file)
getline_is e place file is = search (rules, the_lemmas)

pub piped_is : (e : CodeExpr) (command : Box CodeExpr) (place : Option (Box CodeExpr)) → e ≡ code.PipedGetline command place → expr_of e ≡ tree.PipedGetline (expr_of command.value) (optional_expr_of place)
piped_is e command place is = search (rules, the_lemmas)

-- the functions stay
pub same_arrays : {kinds : ProgramKinds} {parameters : List FormalParameter} {a b : Builder} {place : ℕ} {part : Part} (f : ℕ) → Builds kinds parameters a b place part → arrays_of b f ≡ arrays_of a f
same_arrays {a = a} {b = b} f q = ap (λ (l : List (List Bool)). get_or l f []) (arrays_same a b q.extends.grows.functions)

-- so does whether one takes an array at a place
pub takes_still : {kinds : ProgramKinds} {parameters : List FormalParameter} {a b : Builder} {place : ℕ} {part : Part} {takes known : Bool} (f i : ℕ) → Builds kinds parameters a b place part → takes ≡ is_array_at (arrays_of b f) i → takes ≡ known
    → is_array_at (arrays_of a f) i ≡ known
takes_still f i q is known = ap (λ (bs : List Bool). is_array_at bs i) (sym (same_arrays f q)) ∙ sym is ∙ known

-- what is built by a number is built by one that is the same
pub built_at : {kinds : ProgramKinds} {parameters : List FormalParameter} {a b : Builder} {place : ℕ} (part : ℕ → Part) (i j : ℕ) → i ≡ j → Builds kinds parameters a b place (part i) → Builds kinds parameters a b place (part j)
built_at {kinds = kinds} {parameters = parameters} {a = a} {b = b} {place = place} part i j e q = subst (λ k. Builds kinds parameters a b place (part k)) e q
