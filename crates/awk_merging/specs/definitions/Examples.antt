-- Which programs sum up, by examples: the definition of the class, tried; and what the derived programs print.
use Rattle.std.specs.Prelude.{◌≡◌, ℕ, pos, false, List, [], ◌∷◌, ◌++◌, Some, codes}
use Rattle.awk_lex.specs.declared.token.AssignmentOperator.TheVariants as assignment
use Rattle.awk_lex.specs.declared.token.IncrementOperator.TheVariants as increment
use Rattle.awk_lex.specs.declared.token.Operator.TheVariants as operator
use Rattle.awk_grammar.specs.declared.tree.BinaryOperator.TheVariants.{Infix}
use Rattle.awk_grammar.specs.declared.tree.PrintForm.TheVariants as form
use Rattle.awk_grammar.specs.Tree.{Expr, Number, String, Name, Element, Field, PostIncrement, Binary, Assign, Nil, Cons, Bare, Standard, AnExpr, Expression, Print, Delete, Exit, ASimple, Statement, Simple, If, ForIn, For, Statements, NoMore, Then, Single, Item, End, Action, PatternAction}
use Rattle.awk_record.specs.definitions.Cut.{AtEnd}
use Rattle.awk_streams.specs.Oracle.{Oracle}
use Rattle.awk_semantics.specs.definitions.Meaning.{StartValues, meaning_of}
use Rattle.awk_pieces.specs.definitions.LawOfPieces.{Prints}
use Rattle.awk_merging.specs.definitions.Derived.{each_of, all_of}
use Rattle.awk_merging.specs.definitions.Sums.{ByKey, Alone}
use Rattle.awk_merging.specs.definitions.Mergeable.{own_in, sums_of_program, are_mergeable, IsMergeable}

abbrev pub field : ℕ → Expr
field n = Field (Number (pos n))

abbrev pub one : Statement → Statements
one s = Then s NoMore

abbrev pub print : Expr → Statement
print e = Simple (Print form.Print (Bare (Cons e Nil)) Standard)

-- n[$1]++
abbrev pub count : Statement
count = Simple (Expression (PostIncrement increment.Increment (Element (codes "n") (Cons (field 1) Nil))))

-- s += $2
abbrev pub add : Statement
add = Simple (Expression (Assign assignment.Add (Name (codes "s")) (field 2)))

-- n[k]
abbrev pub at_k : Expr
at_k = Element (codes "n") (Cons (Name (codes "k")) Nil)

-- END { for (k in n) print n[k]; print s }
abbrev pub shows : Item
shows = End (Then (ForIn (codes "k") (codes "n") (print at_k)) (one (print (Name (codes "s")))))

-- $2 > 3 { n[$1]++; s += $2 } END { .. }
abbrev pub counts : List Item
counts = PatternAction (Single (Binary (Infix operator.Greater) (field 2) (Number (pos 3)))) (Then count (one add)) ∷ shows ∷ []

-- { n[$1]++; if (n[$1] == 3) s += $2 } END { .. }: a rule reads a sum
abbrev pub reads : List Item
reads = Action (Then count (one (If (Binary (Infix operator.Equal) (Element (codes "n") (Cons (field 1) Nil)) (Number (pos 3))) add))) ∷ shows ∷ []

-- { n[$1]++; s += NR } END { .. }: a rule reads where its record stands
abbrev pub numbers_records : List Item
numbers_records = Action (Then count (one (Simple (Expression (Assign assignment.Add (Name (codes "s")) (Name (codes "NR"))))))) ∷ shows ∷ []

-- { n[$1]++; print $1 } END { .. }: a rule prints
abbrev pub prints : List Item
prints = Action (Then count (one (print (field 1)))) ∷ shows ∷ []

-- { n[$1]++ } END { print $0 }: END reads a record
abbrev pub ends_with_record : List Item
ends_with_record = Action (one count) ∷ End (one (print (field 0))) ∷ []

-- { n[$1]++; n[$1] = 1 } END { .. }: a rule sets a sum
abbrev pub sets : List Item
sets = Action (Then count (one (Simple (Expression (Assign assignment.Plain (Element (codes "n") (Cons (field 1) Nil)) (Number (pos 1))))))) ∷ shows ∷ []

-- for (i = 1; CONDITION; i++) n[$i]++, a loop by a variable of the record
abbrev pub loop : Expr → Statement
loop condition =
    For (ASimple (Expression (Assign assignment.Plain (Name (codes "i")) (Number (pos 1))))) (AnExpr condition) (ASimple (Expression (PostIncrement increment.Increment (Name (codes "i")))))
    (Simple (Expression (PostIncrement increment.Increment (Element (codes "n") (Cons (Field (Name (codes "i"))) Nil)))))

-- END { for (i in n) print i }: the loop over keys sets the variable anew
abbrev pub shows_keys : Item
shows_keys = End (one (ForIn (codes "i") (codes "n") (print (Name (codes "i")))))

-- { for (i = 1; i <= NF; i++) n[$i]++ } END { .. }
abbrev pub loops : List Item
loops = Action (one (loop (Binary (Infix operator.LessEqual) (Name (codes "i")) (Name (codes "NF"))))) ∷ shows_keys ∷ []

-- { for (i = 1; n[$1] < 3; i++) n[$i]++ } END { .. }: a loop reads a sum
abbrev pub loops_by_sum : List Item
loops_by_sum = Action (one (loop (Binary (Infix operator.Less) (Element (codes "n") (Cons (field 1) Nil)) (Number (pos 3))))) ∷ shows_keys ∷ []

-- { for (i = 1; i <= NF; i++) n[$i]++ } END { print i }: END reads what the last record set
abbrev pub ends_with_variable : List Item
ends_with_variable = Action (one (loop (Binary (Infix operator.LessEqual) (Name (codes "i")) (Name (codes "NF"))))) ∷ End (one (print (Name (codes "i")))) ∷ []

-- END { for (i = 1; i < 3; i++) print n[i] }: END sets a variable that the rules set too, and counts by it
abbrev pub end_loop : Statement
end_loop =
    For (ASimple (Expression (Assign assignment.Plain (Name (codes "i")) (Number (pos 1))))) (AnExpr (Binary (Infix operator.Less) (Name (codes "i")) (Number (pos 3)))) (ASimple (Expression (PostIncrement increment.Increment (Name (codes "i")))))
    (print (Element (codes "n") (Cons (Name (codes "i")) Nil)))

abbrev pub ends_with_loop : List Item
ends_with_loop = Action (one (loop (Binary (Infix operator.LessEqual) (Name (codes "i")) (Name (codes "NF"))))) ∷ End (one end_loop) ∷ []

-- { n[$1]++; s += $2 } END { s /= 2; delete n["a"]; exit s }: END changes sums
abbrev pub ends_with_changes : List Item
ends_with_changes =
    Action (Then count (one add))
    ∷ End (Then (Simple (Expression (Assign assignment.Divide (Name (codes "s")) (Number (pos 2))))) (Then (Simple (Delete (codes "n") (Cons (String (codes "a")) Nil))) (one (Simple (Exit (AnExpr (Name (codes "s")))))))) ∷ []

-- { n[$1]++ } END { OFS = s }: END sets a variable of awk's own
abbrev pub ends_with_setting : List Item
ends_with_setting = Action (one count) ∷ End (one (Simple (Expression (Assign assignment.Plain (Name (codes "OFS")) (Name (codes "s")))))) ∷ []

pub record ExamplesOfClass : Type 0 where
  pub is_one : IsMergeable counts
  pub is_loop : IsMergeable loops
  pub is_end_loop : IsMergeable ends_with_loop
  pub is_changed : IsMergeable ends_with_changes
  pub loop_has_sum : sums_of_program loops ≡ ByKey (codes "n") ∷ []
  pub has_sums : sums_of_program counts ≡ ByKey (codes "n") ∷ Alone (codes "s") ∷ []
  pub not_reads : are_mergeable (own_in reads) (sums_of_program reads) reads ≡ false
  pub not_numbers : are_mergeable (own_in numbers_records) (sums_of_program numbers_records) numbers_records ≡ false
  pub not_prints : are_mergeable (own_in prints) (sums_of_program prints) prints ≡ false
  pub not_record : are_mergeable (own_in ends_with_record) (sums_of_program ends_with_record) ends_with_record ≡ false
  pub not_sets : are_mergeable (own_in sets) (sums_of_program sets) sets ≡ false
  pub not_loop : are_mergeable (own_in loops_by_sum) (sums_of_program loops_by_sum) loops_by_sum ≡ false
  pub not_variable : are_mergeable (own_in ends_with_variable) (sums_of_program ends_with_variable) ends_with_variable ≡ false
  pub not_setting : are_mergeable (own_in ends_with_setting) (sums_of_program ends_with_setting) ends_with_setting ≡ false

-- The two programs that are derived of one, run over two pieces, and the program over both.

abbrev pub plain : StartValues
plain = record { pre = []; operands = []; environ = [] }

-- standard input gives this, and nothing else is there
abbrev pub input_of : List ℕ → Oracle
input_of text = record { input = λ kind name count. Some (record { bytes = text; ending = AtEnd }); output = λ kind name count. false; closing = λ count. pos 0; running = λ count. pos 0 }

abbrev pub first_text : List ℕ
first_text = codes "a 5\nb 1\n"

abbrev pub second_text : List ℕ
second_text = codes "b 9\na 4\n"

abbrev pub first_state : List ℕ
first_state = codes "n\na\n1\ns\n\n5\n"

abbrev pub second_state : List ℕ
second_state = codes "n\nb\n1\nn\na\n1\ns\n\n13\n"

pub record ExamplesOfMerging : Type 0 where
  pub first : Prints (meaning_of (each_of counts) plain (input_of first_text) 100) first_state
  pub second : Prints (meaning_of (each_of counts) plain (input_of second_text) 100) second_state
  pub all : Prints (meaning_of (all_of counts) plain (input_of (first_state ++ second_state)) 100) (codes "2\n1\n18\n")
  pub whole : Prints (meaning_of counts plain (input_of (first_text ++ second_text)) 100) (codes "2\n1\n18\n")
