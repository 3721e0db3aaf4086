-- What is printed of the sums of a program.
use Rattle.std.proofs.Common.{◌≡◌, inl, inr, ℕ, suc, ◌+◌, ◌==◌, ◌<◌, ◌^◌, ℤ, pos, negsuc, true, false, List, [], ◌∷◌, ◌++◌, length, Option, Some, None, Ok, refl, sym, ap, ◌∙◌, subst, codes, bytes_eq, slice_set, append-nil, arith}
use Rattle.std.specs.Fmt.{decimal, signed_decimal}
use Rattle.std.proofs.Math.Nat.{zero-sub}
use Rattle.std.proofs.lemmas.Bool.{cases_Bool, cond-true, cond-false}
use Rattle.std.proofs.lemmas.Bool.Decides.{nat_tests}
use Rattle.std.proofs.lemmas.Fmt.{decimal_is_IsNumeral_wide}
use Rattle.std.proofs.lemmas.List.{set-get_or}
use Rattle.std.proofs.lemmas.Option.{unwrap_or-slice_get}
use Rattle.std.specs.Map.{keys_of}
use Rattle.awk_value.specs.declared.value.Value.{Value}
use Rattle.awk_value.specs.declared.value.Value.TheVariants as value
use Rattle.awk_value.specs.Arithmetic.{is_in_range}
use Rattle.awk_value.specs.Values.{str_of}
use Rattle.awk_value.specs.Arrays.{Array, value_at}
use Rattle.awk_kinds.specs.Variables.{with_value}
use Rattle.awk_lex.specs.declared.token.BuiltIn.TheVariants as builtin
use Rattle.awk_lex.specs.declared.token.Operator.TheVariants as operator
use Rattle.awk_grammar.specs.declared.tree.BinaryOperator.TheVariants.{Infix}
use Rattle.awk_grammar.specs.Tree.{Expr, String, Name, BuiltIn, Binary, Nil, Cons, Block, Statement, Then, NoMore}
use Rattle.awk_semantics.specs.declared.flow.Flow.TheVariants as flow
use Rattle.awk_semantics.specs.definitions.State.{Printed, State, go_on, ◌>>=◌, lift, gives}
use Rattle.awk_semantics.specs.definitions.Primitives.{set_status, number_in, array_in, put, put_outside, spend, read_name, read_element, read_element_at, joined_key, keys_in, keys_at, print_bytes}
use Rattle.awk_semantics.specs.definitions.BuiltIns.{apply_built_in}
use Rattle.awk_semantics.specs.definitions.Semantics.{Functions, eval, eval_all, key_of, take_arguments, tested, begin_test, exit_with, exec, exec_all, exec_simple, print, printed_values, target_of, turn, walk}
use Rattle.awk_merging.specs.definitions.Gathering.{Table, IsFree}
use Rattle.awk_merging.specs.definitions.Sums.{Sum, ByKey, Alone, name_of_sum, merge_key, cell_format, print_cell, refuse_newline, at_merge_key, print_sum, print_sums, numbers, number_or_none, alone, is_taken, Holds, cell_text}
use Rattle.awk_merging.specs.definitions.LawOfCells.{IsLine, IsOfLines, state_at, Held, sums_of, AreHeld, cells, all_cells, steps_of_cells, steps_of_sum, steps_of_sums, Shows, LawOfCells, LawOfNewlines}
use Rattle.awk_merging.proofs.Gathering.{same_key, own_key, not_both, apart_turned}
use Rattle.awk_merging.proofs.Decimals.{within}

-- what is in a table is in its array

abbrev pub AreIn : Array → Table ℤ → Type 0
AreIn array [] = Unit {0}
AreIn array (x ∷ xs) = (value_at array x.0 ≡ Some (value.Number x.1)) × AreIn array xs

pub in_behind : (x : List ℕ × ℤ) (xs ys : Table ℤ) → IsFree ys x.0 → AreIn (numbers xs) ys → AreIn (numbers (x ∷ xs)) ys
in_behind x xs [] free are = tt
in_behind x xs (y ∷ ys) free are = (cond-false _ _ _ (apart_turned x.0 y.0 free.0) ∙ are.0, in_behind x xs ys free.1 are.1)

pub all_in : (table : Table ℤ) → IsOfLines table → AreIn (numbers table) table
all_in [] lines = tt
all_in (x ∷ xs) lines = (cond-true _ _ _ (own_key x.0), in_behind x xs xs lines.2 (all_in xs lines.3))

abbrev pub keys : Table ℤ → List (List ℕ)
keys [] = []
keys (x ∷ xs) = x.0 ∷ keys xs

pub keys_are : (table : Table ℤ) → keys_of (numbers table) ≡ keys table
keys_are [] = refl
keys_are (x ∷ xs) = ap (λ (l : List (List ℕ)). x.0 ∷ l) (keys_are xs)

-- a name that no sum has is another than a sum's
pub apart_from_taken : (x y : List ℕ) → is_taken x ≡ false → is_taken y ≡ true → bytes_eq x y ≡ false
apart_from_taken x y proper taken = elim (cases_Bool (bytes_eq x y)) [
  | inl same ↦ absurd (not_both (is_taken x) (ap is_taken (same_key x y same) ∙ taken) proper)
  | inr other ↦ other
]

-- a number that is written has a first byte

pub split : (text : List ℕ) → 0 < length text → (c : ℕ) × (cs : List ℕ) × (text ≡ c ∷ cs)
split [] some = absurd (omega (arith, some))
split (c ∷ cs) some = (c, cs, refl)

pub has_digits : (n : ℤ) → is_in_range n ≡ true → (c : ℕ) × (cs : List ℕ) × (signed_decimal n ≡ c ∷ cs)
has_digits (pos n) is = let small : n < 10 ^ 64 = omega (arith, within n is) in split (decimal n) (decimal_is_IsNumeral_wide n small).0.0
has_digits (negsuc n) is = (45, decimal (suc n), refl)

module _ (functions : Functions) (base : State) where
  abbrev pub at : (List ℕ → Value) → ℕ → State
  at = state_at base

  -- the values as a key is walked
  abbrev pub now : (List ℕ → Value) → List ℕ → List ℕ → Value
  now v key = with_value v merge_key (value.Text key)

  pub put_is : (v : List ℕ → Value) (k : ℕ) (key : List ℕ) → put merge_key (value.Text key) (at v k) ≡ gives (tt {0}) (at (now v key) k)
  unfolding put put_outside
  put_is v k key = refl

  pub name_is : (v : List ℕ → Value) (k : ℕ) (key : List ℕ) → eval functions (Name merge_key) (at (now v key) k) ≡ gives (value.Text key) (at (now v key) k)
  unfolding eval read_name
  name_is v k key = refl

  pub string_is : (v : List ℕ → Value) (k : ℕ) (text : List ℕ) → eval functions (String text) (at v k) ≡ gives (value.Text text) (at v k)
  unfolding eval lift
  string_is v k text = refl

  pub index_is : (v : List ℕ → Value) (k : ℕ) (key : List ℕ) → IsLine key → eval functions (BuiltIn builtin.Index (Cons (Name merge_key) (Cons (String (10 ∷ [])) Nil))) (at (now v key) k) ≡ gives (value.Number (pos 0)) (at (now v key) k)
  unfolding eval take_arguments apply_built_in read_name lift ◌>>=◌ go_on
  index_is v k key line = rw line refl

  pub passes : (v : List ℕ → Value) (k : ℕ) (key : List ℕ) → IsLine key → exec functions refuse_newline (at (now v key) (suc k)) ≡ gives flow.Normal (at (now v key) k)
  unfolding exec begin_test spend tested lift ◌>>=◌ go_on
  passes v k key line = rw (index_is v k key line) refl

  -- a cell of these values
  pub prints : (name : List ℕ) (v : List ℕ → Value) (k : ℕ) (e f : Expr) (key w : Value) → eval functions e (at v k) ≡ gives key (at v k) → eval functions f (at v k) ≡ gives w (at v k) →
      exec functions (print_cell name e f) (at v (suc k)) ≡ record { result = Ok flow.Normal; state = at v k; effects = Printed 0 (name ++ (10 ∷ (str_of key ++ (10 ∷ (str_of w ++ (10 ∷ [])))))) ∷ [] }
  unfolding exec exec_simple print printed_values eval_all spend target_of print_bytes lift ◌>>=◌ go_on
  prints name v k e f key w is_key is_w =
      rw (string_is v k cell_format, string_is v k name, is_key, is_w, zero-sub (0 + length name), zero-sub (0 + length (str_of key)), zero-sub (0 + length (str_of w))) refl

  module _ (a : List ℕ) where
    abbrev pub here : ℕ
    here = number_in base.array_names a

    abbrev pub array : Array
    array = array_in base here

    pub stays : slice_set base.arrays here array ≡ base.arrays
    stays = ap (slice_set base.arrays here) (unwrap_or-slice_get base.arrays here []) ∙ set-get_or base.arrays here []

    pub read_is : (v : List ℕ → Value) (k : ℕ) (key : List ℕ) (w : Value) → value_at array key ≡ Some w → read_element a key (at v k) ≡ gives w (at v k)
    unfolding read_element read_element_at
    read_is v k key w is = rw (is, stays) refl

    pub key_is : (v : List ℕ → Value) (k : ℕ) (key : List ℕ) → key_of functions [] (Cons (Name merge_key) Nil) (at (now v key) k) ≡ gives key (at (now v key) k)
    unfolding key_of eval read_name joined_key ◌>>=◌ go_on
    key_is v k key = rw (append-nil key) refl

    pub element_is : (v : List ℕ → Value) (k : ℕ) (key : List ℕ) (w : Value) → value_at array key ≡ Some w → eval functions (at_merge_key a) (at (now v key) k) ≡ gives w (at (now v key) k)
    unfolding eval ◌>>=◌ go_on
    element_is v k key w is = rw (key_is v k key, read_is (now v key) k key w is) refl

    abbrev pub body : Statement
    body = Block (Then refuse_newline (Then (print_cell a (Name merge_key) (at_merge_key a)) NoMore))

    pub body_is : (v : List ℕ → Value) (k : ℕ) (key : List ℕ) (n : ℤ) → IsLine key → value_at array key ≡ Some (value.Number n) →
        exec functions body (at (now v key) (suc (suc k))) ≡ record { result = Ok flow.Normal; state = at (now v key) k; effects = Printed 0 (cell_text a key n) ∷ [] }
    unfolding exec exec_all lift ◌>>=◌ go_on
    body_is v k key n line is =
        rw (passes v (suc k) key line, prints a (now v key) k (Name merge_key) (at_merge_key a) (value.Text key) (value.Number n) (name_is v k key) (element_is v k key (value.Number n) is)) refl

    pub one_cell : (v : List ℕ → Value) (k : ℕ) (key : List ℕ) (n : ℤ) → IsLine key → value_at array key ≡ Some (value.Number n) →
        turn (put merge_key (value.Text key) >>= λ _. exec functions body) (at v (suc (suc (suc k)))) ≡ record { result = Ok None; state = at (now v key) k; effects = Printed 0 (cell_text a key n) ∷ [] }
    unfolding turn spend lift ◌>>=◌ go_on
    one_cell v k key n line is = rw (put_is v (suc (suc k)) key, body_is v k key n line is) refl

    all_of_walk : (xs : Table ℤ) → IsOfLines xs → AreIn array xs → (v : List ℕ → Value) (k : ℕ) → Shows base v k (cells a xs) (walk merge_key (keys xs) (exec functions body) (at v (steps_of_cells xs k)))
    unfolding walk ◌>>=◌ go_on lift
    all_of_walk [] lines are v k = record { values = v; keeps = λ x e. refl; is = refl }
    all_of_walk (x ∷ xs) lines are v k =
        let rest = all_of_walk xs lines.3 are.1 (now v x.0) k in
        rw (one_cell v (steps_of_cells xs k) x.0 x.1 lines.0 are.0, rest.is) (record { values = rest.values; keeps = λ z e. rest.keeps z e ∙ cond-false _ _ _ e; is = refl })

    pub by_key_shows : (table : Table ℤ) → array ≡ numbers table → IsOfLines table → (v : List ℕ → Value) (k : ℕ) → Shows base v k (cells a table) (exec functions (print_sum (ByKey a)) (at v (steps_of_sum (ByKey a) table k)))
    unfolding exec spend keys_in keys_at ◌>>=◌ go_on lift
    by_key_shows table holds lines v k =
        let shown = all_of_walk table lines (subst (λ (l : Array). AreIn l table) (sym holds) (all_in table lines)) v k in
        let walked : keys_of array ≡ keys table = ap keys_of holds ∙ keys_are table in
        rw (walked, shown.is) (record { values = shown.values; keeps = shown.keeps; is = refl })

  module _ (x : List ℕ) (proper : is_taken x ≡ false) where
    pub free : bytes_eq x (codes "NF") ≡ false
    free = apart_from_taken x (codes "NF") proper refl

    pub variable_is : (v : List ℕ → Value) (k : ℕ) (w : Value) → v x ≡ w → eval functions (Name x) (at v k) ≡ gives w (at v k)
    unfolding eval read_name
    variable_is v k w is = rw (free, is) refl

    abbrev pub test : Expr
    test = Binary (Infix operator.NotEqual) (Name x) (String [])

    pub none_fails : (v : List ℕ → Value) (k : ℕ) → v x ≡ value.Nothing → eval functions test (at v k) ≡ gives (value.Number (pos 0)) (at v k)
    unfolding eval read_name lift ◌>>=◌ go_on
    none_fails v k is = rw (free, is) refl

    pub some_holds : (v : List ℕ → Value) (k : ℕ) (n : ℤ) (c : ℕ) (cs : List ℕ) → signed_decimal n ≡ c ∷ cs → v x ≡ value.Number n → eval functions test (at v k) ≡ gives (value.Number (pos 1)) (at v k)
    unfolding eval read_name lift ◌>>=◌ go_on
    some_holds v k n c cs shape is = rw (free, is, shape) refl

    pub none_shows : (v : List ℕ → Value) (k : ℕ) → v x ≡ value.Nothing → exec functions (print_sum (Alone x)) (at v (suc k)) ≡ gives flow.Normal (at v k)
    unfolding exec begin_test spend tested lift ◌>>=◌ go_on
    none_shows v k is = rw (none_fails v k is) refl

    pub some_shows : (v : List ℕ → Value) (k : ℕ) (n : ℤ) (c : ℕ) (cs : List ℕ) → signed_decimal n ≡ c ∷ cs → v x ≡ value.Number n → exec functions (print_sum (Alone x)) (at v (suc (suc k))) ≡ record { result = Ok flow.Normal; state = at v k; effects = Printed 0 (cell_text x [] n) ∷ [] }
    unfolding exec begin_test spend tested lift ◌>>=◌ go_on
    some_shows v k n c cs shape is =
        rw (some_holds v (suc k) n c cs shape is, prints x v k (String []) (Name x) (value.Text []) (value.Number n) (string_is v k []) (variable_is v k (value.Number n) is)) refl

    pub alone_shows : (n : Option ℤ) (v : List ℕ → Value) (k : ℕ) → v x ≡ number_or_none n → IsOfLines (alone n) → Shows base v k (cells x (alone n)) (exec functions (print_sum (Alone x)) (at v (steps_of_sum (Alone x) (alone n) k)))
    alone_shows None v k is lines = record { values = v; keeps = λ z e. refl; is = none_shows v k is }
    alone_shows (Some n) v k is lines = let shape = has_digits n lines.1 in record { values = v; keeps = λ z e. refl; is = some_shows v k n shape.0 shape.1 shape.2 is }

  pub sum_shows : (x : Sum) (table : Table ℤ) (v : List ℕ → Value) (k l : ℕ) → is_taken (name_of_sum x) ≡ false → Holds (at v l) x table → IsOfLines table → Shows base v k (cells (name_of_sum x) table) (exec functions (print_sum x) (at v (steps_of_sum x table k)))
  sum_shows (ByKey a) table v k l proper holds lines = by_key_shows a table holds.2 lines v k
  sum_shows (Alone x) table v k l proper holds lines =
      subst (λ (t : Table ℤ). Shows base v k (cells x t) (exec functions (print_sum (Alone x)) (at v (steps_of_sum (Alone x) t k)))) (sym holds.2) (alone_shows x proper holds.0 v k holds.1 (subst IsOfLines holds.2 lines))

  -- sums are held whatever is in `merge_key`, and whatever steps are left
  pub holds_still : (v w : List ℕ → Value) (k l : ℕ) → ((z : List ℕ) → bytes_eq merge_key z ≡ false → w z ≡ v z) → (x : Sum) (table : Table ℤ) → is_taken (name_of_sum x) ≡ false → Holds (at v k) x table → Holds (at w l) x table
  holds_still v w k l keeps (ByKey a) table proper holds = holds
  holds_still v w k l keeps (Alone x) table proper holds = (holds.0, keeps x (apart_turned x merge_key (apart_from_taken x merge_key proper refl)) ∙ holds.1, holds.2)

  held_still : (v w : List ℕ → Value) (k l : ℕ) → ((z : List ℕ) → bytes_eq merge_key z ≡ false → w z ≡ v z) → (held : Held) → AreHeld (at v k) held → AreHeld (at w l) held
  held_still v w k l keeps [] are = tt
  held_still v w k l keeps (x ∷ xs) are = (are.0, holds_still v w k l keeps x.0 x.1 are.0 are.1, are.2, held_still v w k l keeps xs are.3)

  pub sums_show : (held : Held) (v : List ℕ → Value) (k l : ℕ) → AreHeld (at v l) held → Shows base v k (all_cells held) (exec_all functions (print_sums (sums_of held)) (at v (steps_of_sums held k)))
  unfolding exec_all lift ◌>>=◌ go_on
  sums_show [] v k l are = record { values = v; keeps = λ z e. refl; is = refl }
  sums_show (x ∷ xs) v k l are =
      let first = sum_shows x.0 x.1 v (steps_of_sums xs k) l are.0 are.1 are.2 in
      let rest = sums_show xs first.values k l (held_still v first.values l l first.keeps xs are.3) in
      rw (first.is, rest.is) (record { values = rest.values; keeps = λ z e. rest.keeps z e ∙ first.keeps z e; is = refl })

pub law_of_cells : LawOfCells
law_of_cells functions base v held k are = sums_show functions base held v k k are

-- a place is counted from 1
pub some_place : (i : ℕ) → (suc i == 0) ≡ false
some_place i = grind (arith, nat_tests)

pub law_of_newlines : LawOfNewlines
unfolding exec exec_simple exit_with begin_test tested spend set_status eval take_arguments apply_built_in read_name lift ◌>>=◌ go_on
law_of_newlines functions base v k i key found = rw (found, some_place i) refl
