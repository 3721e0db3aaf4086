-- Rows: which programs are refused for their names and statements, and why.
use Rattle.std.specs.Prelude.{◌≡◌, refl, ℕ, List, [], ◌∷◌, codes, Option, Some, None}
use Rattle.awk_lex.specs.declared.token.BuiltIn.TheVariants as built_in
use Rattle.awk_lex.specs.declared.token.AssignmentOperator.TheVariants as assign
use Rattle.awk_lex.specs.declared.refusal.RefusalCode.{RefusalCode}
use Rattle.awk_lex.specs.declared.refusal.RefusalCode.TheVariants.{StatementOutOfPlace, NameLeftOut, FunctionAsVariable, ArrayAndScalar}
use Rattle.awk_grammar.specs.Tree as tree
use Rattle.awk_kinds.specs.definitions.Fits.{first_refusal}
use Rattle.awk_kinds.specs.definitions.Kinds.{array_names_of}

abbrev a : List ℕ
a = codes "a"

abbrev f : List ℕ
f = codes "f"

abbrev p : List ℕ
p = codes "p"

-- statements

abbrev block : List tree.SimpleStatement → tree.Statements
block [] = tree.NoMore
block (simple ∷ more) = tree.Then (tree.Simple simple) (block more)

abbrev begin : List tree.SimpleStatement → tree.Item
begin all = tree.Begin (block all)

abbrev only : tree.Expr → tree.Exprs
only e = tree.Cons e tree.Nil

-- length(x) for an expression x
abbrev measure : tree.Expr → tree.Expr
measure e = tree.BuiltIn built_in.Length (only e)

-- length(x), a[1], delete a and a = 1 as statements
abbrev length_of : tree.Expr → tree.SimpleStatement
length_of e = tree.Expression (measure e)

abbrev element : tree.SimpleStatement
element = tree.Expression (tree.Element a (only (tree.String a)))

abbrev assign_a : tree.SimpleStatement
assign_a = tree.Expression (tree.Assign assign.Plain (tree.Name a) (tree.String a))

abbrev Answers : List tree.Item → Option RefusalCode → Type 0
Answers items answer = first_refusal items ≡ answer

-- a[1]; length(a)
array_measured : Answers (begin (element ∷ length_of (tree.Name a) ∷ []) ∷ []) None
array_measured = refl

-- a = 1; length(a)
scalar_measured : Answers (begin (assign_a ∷ length_of (tree.Name a) ∷ []) ∷ []) None
scalar_measured = refl

-- length(a), and a is no array
measured_alone : Answers (begin (length_of (tree.Name a) ∷ []) ∷ []) None
measured_alone = refl

measured_names : array_names_of (begin (length_of (tree.Name a) ∷ []) ∷ []) ≡ codes "ARGV" ∷ codes "ENVIRON" ∷ []
measured_names = refl

-- a[1]; length((a))
group_measured : Answers (begin (element ∷ length_of (tree.Group (tree.Name a)) ∷ []) ∷ []) (Some ArrayAndScalar)
group_measured = refl

-- function f(p) { return length(p) } BEGIN { a[1]; f(a) }
parameter_measured : Answers (tree.Function f (p ∷ []) (block (tree.Return (tree.AnExpr (measure (tree.Name p))) ∷ [])) ∷ begin (element ∷ tree.Expression (tree.Call f (only (tree.Name a))) ∷ []) ∷ []) (Some ArrayAndScalar)
parameter_measured = refl

-- length(f) where f is a function, and length(sin)
function_measured : Answers (tree.Function f [] tree.NoMore ∷ begin (length_of (tree.Name f) ∷ []) ∷ []) (Some FunctionAsVariable)
function_measured = refl

left_out_measured : Answers (begin (length_of (tree.Name (codes "sin")) ∷ []) ∷ []) (Some NameLeftOut)
left_out_measured = refl

-- delete a; length(a), and delete a; a = 1
emptied : Answers (begin (tree.DeleteAll a ∷ length_of (tree.Name a) ∷ []) ∷ []) None
emptied = refl

emptied_names : array_names_of (begin (tree.DeleteAll a ∷ []) ∷ []) ≡ codes "ARGV" ∷ codes "ENVIRON" ∷ a ∷ []
emptied_names = refl

emptied_scalar : Answers (begin (tree.DeleteAll a ∷ assign_a ∷ []) ∷ []) (Some ArrayAndScalar)
emptied_scalar = refl

-- nextfile in a rule, in a function, in BEGIN and in END
next_file_in_a_rule : Answers (tree.Action (block (tree.NextFile ∷ [])) ∷ []) None
next_file_in_a_rule = refl

next_file_in_a_function : Answers (tree.Function f [] (block (tree.NextFile ∷ [])) ∷ []) None
next_file_in_a_function = refl

next_file_in_begin : Answers (begin (tree.NextFile ∷ []) ∷ []) (Some StatementOutOfPlace)
next_file_in_begin = refl

next_file_in_end : Answers (tree.End (block (tree.NextFile ∷ [])) ∷ []) (Some StatementOutOfPlace)
next_file_in_end = refl
