-- Rules that treat each record for itself do alike on it.
use Rattle.std.proofs.Common.{◌≡◌, ℕ, suc, ◌+◌, Bool, true, List, [], ◌∷◌, ◌++◌, Option, Result, Ok, Err, refl, sym, ap, le_refl, subst, arith, codes}
use Rattle.awk_value.specs.declared.value.Value.{Value}
use Rattle.awk_value.specs.Values.{str_of}
use Rattle.awk_value.specs.Arrays.{Array}
use Rattle.awk_grammar.specs.declared.tree.PrintForm.{PrintForm}
use Rattle.awk_grammar.specs.declared.tree.PrintForm.TheVariants as form
use Rattle.awk_grammar.specs.Tree.{Expr, Exprs, Nil, Cons, PrintList, Bare, Parenthesized, Output, Standard, Redirected, SimpleStatement, Expression, Print, Delete, DeleteAll, Next, NextFile, Break, Continue, Exit, Return, Statement, Empty, Simple, Block, If, IfElse, While, Do, ForIn, For, Statements, NoMore, Then, Pattern, Single, Range, Item, Begin, End, Action, PatternAction, PatternOnly, Function, OptionalExpr, NoExpr, AnExpr, OptionalSimple, NoSimple, ASimple}
use Rattle.awk_semantics.specs.declared.flow.Flow.{Flow}
use Rattle.awk_semantics.specs.declared.flow.Flow.TheVariants as flow
use Rattle.awk_semantics.specs.declared.halt.Halt.{Halt}
use Rattle.awk_semantics.specs.declared.halt.Halt.TheVariants as halt
use Rattle.awk_semantics.specs.definitions.State.{Effect, Printed, State, Out, Run, go_on, ◌>>=◌, lift, ret}
use Rattle.awk_semantics.specs.definitions.Operators.{line_of}
use Rattle.awk_semantics.specs.definitions.Primitives.{print_bytes, print_line, format_values, outside_calls}
use Rattle.awk_semantics.specs.definitions.Semantics.{Functions, eval, eval_all, printed_values, target_of, print_by, print, begin_test, exec_simple, pass_on, exec, exec_all, goes_on, exec_part, turn, repeat_within, repeat}
use Rattle.awk_semantics.specs.definitions.Items.{run_action, selects, print_record, try_item, try_items, unless_next, until_next}
use Rattle.awk_pieces.specs.definitions.Pieceable.{is_filled, is_mine, array_filled_by, array_filled_first, array_behind, known_behind, known_within, keeps_to_record, all_keep_to_record, list_keeps_to_record, is_standard, is_simple_for_itself, is_for_itself, are_for_themselves, pattern_keeps_to_record, is_rule_for_itself, are_rules_for_themselves, may_keep_to_record, is_part_for_itself, name_set, name_set_by, name_set_first, also, name_behind, behind}
use Rattle.awk_pieces.proofs.Alike.{Outer, Names, OwnsSeparators, Sorts, Values, state_on, with_arrays, agrees_within, unmoved_arrays, ArePlain, AreShown, shown_none, Same, Covers, Alike, then_alike, SetsApart, IsWithin, same_within, alike_within}
use Rattle.awk_pieces.proofs.ReadsAlike.{left_true, right_true, unmoved, lift_alike, ret_alike, spend_alike, text_alike, tested_alike, choose_alike}
use Rattle.awk_pieces.proofs.KnownNames.{within_also}
use Rattle.awk_pieces.proofs.ArraysAlike.{delete_element_alike, clear_alike}
use Rattle.awk_pieces.proofs.ExpressionsAlike.{expression_alike, key_alike}
use Rattle.awk_pieces.proofs.LoopsAlike.{pass_alike, unless_alike, turn_alike, repeat_within_alike}
use Rattle.awk_pieces.proofs.SetsAlike.{owns_more, statement_alike}
use Rattle.awk_pieces.proofs.ValuesAndFaults.{format_faults}

-- what ends a record
abbrev as_ended : Out (Unit {0}) → Out (Unit {0})
as_ended x = record { result = unless_next x.result; state = outside_calls x.state; effects = x.effects }

ended_same : {sorts : Sorts} {base base' : State} {o p : Outer} {arrays arrays' : List Array} {v w : Values} {k d : ℕ} (x y : Out (Unit {0})) → Same sorts sorts.shared base base' o p arrays arrays' v w k d x y → Same sorts sorts.shared base base' o p arrays arrays' v w k d (as_ended x) (as_ended y)
ended_same x y c = record {
  pair = c.pair;
  left = c.left;
  arrays_here = c.arrays_here;
  arrays_there = c.arrays_there;
  here = c.here;
  there = c.there;
  agrees = c.agrees;
  keeps = c.keeps;
  keeps_there = c.keeps_there;
  moves = c.moves;
  moves_there = c.moves_there;
  falls = c.falls;
  is_here = ap outside_calls c.is_here;
  is_there = ap as_ended c.is_there;
  plain = c.plain;
}

ended_covers : (sorts : Sorts) (known : Names) (base base' : State) (o p : Outer) (arrays arrays' : List Array) (v w : Values) (k d : ℕ) (r : Result (Unit {0}) Halt) (t : State) (effects : List Effect) (y : Out (Unit {0})) → IsWithin sorts.shared known → Covers sorts known base base' o p arrays arrays' v w k d r (record { result = r; state = t; effects = effects }) y →
    Covers sorts sorts.shared base base' o p arrays arrays' v w k d (unless_next r) (as_ended (record { result = r; state = t; effects = effects })) (as_ended y)
ended_covers sorts known base base' o p arrays arrays' v w k d (Ok u) t effects y within c = ended_same _ y (same_within within c)
ended_covers sorts known base base' o p arrays arrays' v w k d (Err (halt.Fault f)) t effects y within c = tt
ended_covers sorts known base base' o p arrays arrays' v w k d (Err halt.OutOfSteps) t effects y within c = tt
ended_covers sorts known base base' o p arrays arrays' v w k d (Err halt.Next) t effects y within c = ended_same _ y c
ended_covers sorts known base base' o p arrays arrays' v w k d (Err halt.Exit) t effects y within c = absurd c

-- the names that are known: all that both sides share, and those by which a record is cut and made
pub record Knows (sorts : Sorts) (known : Names) : Type 0 where
  pub within : IsWithin sorts.shared known
  pub owns : OwnsSeparators known

pub knows_more : (sorts : Sorts) (known more : Names) → IsWithin known more → Knows sorts known → Knows sorts more
knows_more sorts known more grows knows = record {
  within = λ x is. grows x (knows.within x is);
  owns = owns_more grows knows.owns;
}

-- what is known before a statement is known behind it
pub grows : (own known : Names) (s : Statement) → IsWithin known (behind own s known)
grows own known s = within_also own known (name_behind s)

grows_also : (own known : Names) (name array : Option (List ℕ)) → IsWithin known (also own name (also own array known))
grows_also own known name array z is = within_also own (also own array known) name z (within_also own known array z is)

grows_behind : (own arrays known : Names) (s : Statement) → IsWithin known (known_behind own arrays s known)
grows_behind own arrays known s = grows_also (is_mine own arrays) known (name_behind s) (array_behind s)

grows_within : (own arrays known : Names) (first : OptionalSimple) → IsWithin known (known_within own arrays first known)
grows_within own arrays known first = grows_also (is_mine own arrays) known (name_set_first first) (array_filled_first first)

module _ (sorts : Sorts) (apart : SetsApart sorts) (prints : sorts.shows ≡ true) (base : State) (f g : Functions) where
  shown : (effects : List Effect) → ArePlain effects → AreShown sorts.shows effects
  shown effects plain = subst (λ (b : Bool). AreShown b effects) (sym prints) plain

  module _ (known : Names) (knows : Knows sorts known) where
    abbrev pub Does : {A : Type 0} → Run A → Run A → Type 0
    Does m n = Alike sorts known known base base m n

    abbrev reads : (e : Expr) → keeps_to_record sorts.own sorts.arrays known e ≡ true → Does (eval f e) (eval g e)
    reads e is = expression_alike sorts apart known base base knows.owns f g e is

    values_alike : (front : List Value) (es : Exprs) → all_keep_to_record sorts.own sorts.arrays known es ≡ true → Does (eval_all f front es) (eval_all g front es)
    unfolding eval_all
    values_alike front Nil is = ret_alike sorts known base base front
    values_alike front (Cons e es) is = then_alike _ _ (reads e (left_true (keeps_to_record sorts.own sorts.arrays known e) _ is)) (λ v. values_alike (front ++ v ∷ []) es (right_true (keeps_to_record sorts.own sorts.arrays known e) _ is))

    printed_alike : (list : PrintList) → list_keeps_to_record sorts.own sorts.arrays known list ≡ true → Does (printed_values f list) (printed_values g list)
    unfolding printed_values
    printed_alike (Bare es) is = values_alike [] es is
    printed_alike (Parenthesized es) is = values_alike [] es is

    line_alike : (vs : List Value) → Does (print_line 0 vs) (print_line 0 vs)
    unfolding print_line print_bytes
    line_alike vs = record { covers = λ o p c arrays arrays' v w k d agrees. rw (agrees.values (codes "OFS") knows.owns.ofs, agrees.values (codes "ORS") knows.owns.ors) (unmoved sorts known base base o p c arrays arrays' v w k d (Printed 0 (line_of (str_of (v (codes "OFS"))) (str_of (v (codes "ORS"))) vs) ∷ []) (Ok tt) tt (shown _ (tt, tt)) agrees) }

    bytes_alike : (bytes : List ℕ) → Does (print_bytes 0 bytes) (print_bytes 0 bytes)
    unfolding print_bytes
    bytes_alike bytes = record { covers = λ o p c arrays arrays' v w k d agrees. unmoved sorts known base base o p c arrays arrays' v w k d (Printed 0 bytes ∷ []) (Ok tt) tt (shown _ (tt, tt)) agrees }

    print_by_alike : (form : PrintForm) (vs : List Value) → Does (print_by f form 0 vs) (print_by g form 0 vs)
    print_by_alike form.Print [] = then_alike _ _ (text_alike sorts known base base) (λ v. line_alike (v ∷ []))
    print_by_alike form.Print (v ∷ vs) = line_alike (v ∷ vs)
    print_by_alike form.Printf vs = then_alike _ _ (lift_alike sorts known base base (format_values vs) (format_faults vs)) (λ text. bytes_alike text)

    -- what goes on from a result that is had
    pub from_result : {A B : Type 0} (a : A) (m n : A → Run B) → Does (m a) (n a) → Does (ret a >>= m) (ret a >>= n)
    unfolding lift ◌>>=◌ go_on
    from_result a m n h = record { covers = λ o p c arrays arrays' v w k d agrees. h.covers o p c arrays arrays' v w k d agrees }

    target_alike : (output : Output) (m n : ℕ → Run (Unit {0})) → is_standard output ≡ true → Does (m 0) (n 0) → Does (target_of f output >>= m) (target_of g output >>= n)
    unfolding target_of
    target_alike Standard m n is h = from_result 0 m n h
    target_alike (Redirected way target) m n is h = absurd (cc)

    print_alike : (form : PrintForm) (list : PrintList) (output : Output) → list_keeps_to_record sorts.own sorts.arrays known list ≡ true → is_standard output ≡ true → Does (print f form list output) (print g form list output)
    unfolding print
    print_alike form list output is standard = then_alike _ _ (spend_alike sorts known base base) (λ _. then_alike _ _ (printed_alike list is) (λ vs. target_alike output (λ n. print_by f form n vs) (λ n. print_by g form n vs) standard (print_by_alike form vs)))

    next_alike : Does {A = Flow} (lift (Err halt.Next)) (lift (Err halt.Next))
    unfolding lift
    next_alike = record { covers = λ o p c arrays arrays' v w k d agrees. record { pair = c; left = k; arrays_here = arrays; arrays_there = arrays'; here = v; there = w; agrees = agrees_within knows.within agrees; keeps = λ x e. refl; keeps_there = λ x e. refl; moves = unmoved_arrays sorts base arrays; moves_there = unmoved_arrays sorts base arrays'; falls = le_refl _; is_here = refl; is_there = refl; plain = shown_none sorts.shows } }

    test_alike : (e : Expr) → keeps_to_record sorts.own sorts.arrays known e ≡ true → Does (begin_test f e) (begin_test g e)
    unfolding begin_test
    test_alike e is = then_alike _ _ (spend_alike sorts known base base) (λ _. tested_alike sorts known base base (reads e is))

    goes_on_alike : (c : OptionalExpr) → may_keep_to_record sorts.own sorts.arrays known c ≡ true → Does (goes_on f c) (goes_on g c)
    unfolding goes_on
    goes_on_alike NoExpr is = ret_alike sorts known base base true
    goes_on_alike (AnExpr e) is = tested_alike sorts known base base (reads e is)

    -- loops

    abbrev DoesAt : (A : Type 0) → Run A → Run A → Type 0
    DoesAt A m n = Does m n

    returns : (A : Type 0) (a : A) → DoesAt A (ret a) (ret a)
    returns A a = ret_alike sorts known base base a

    next : (A B : Type 0) (m n : Run A) (h k : A → Run B) → DoesAt A m n → ((a : A) → DoesAt B (h a) (k a)) → DoesAt B (m >>= h) (n >>= k)
    next A B m n h k x y = then_alike h k x y

    turned : {m n : Run Flow} → Does m n → Does (turn m) (turn n)
    turned h = turn_alike DoesAt returns next (spend_alike sorts known base base) h

    starved : (n : Run Flow) → Does (lift (Err halt.OutOfSteps)) n
    unfolding lift
    starved n = record { covers = λ o p c arrays arrays' v w k d agrees. tt }

    repeat_alike : {c c' : Run Bool} {s s' : Run Flow} {last last' : Run (Unit {0})} → Does c c' → Does s s' → Does last last' → Does (repeat c s last) (repeat c' s' last')
    unfolding repeat
    repeat_alike {c = c} {c' = c'} {s = s} {s' = s'} {last = last} {last' = last'} condition body end = record {
      covers = λ o p pair arrays arrays' v w k d agrees.
          let more : suc k + d ≡ suc (k + d) = omega arith in
          (subst (λ (n : ℕ). Does (repeat_within (suc k) c s last) (repeat_within n c' s' last')) more (repeat_within_alike DoesAt returns next (spend_alike sorts known base base) starved (suc k) d condition body end)).covers o p pair arrays arrays' v w k d agrees;
    }

    abbrev mine : Names
    mine = is_mine sorts.own sorts.arrays

    -- what is known behind a simple statement
    abbrev simply : SimpleStatement → Names
    simply simple = also mine (name_set_by simple) (also mine (array_filled_by simple) known)

    simple_alike : (simple : SimpleStatement) → is_simple_for_itself sorts.own sorts.arrays known simple ≡ true → Alike sorts known (simply simple) base base (exec_simple f simple) (exec_simple g simple)
    unfolding exec_simple
    simple_alike (Expression e) is = then_alike _ _ (spend_alike sorts known base base) (λ _. then_alike _ _ (statement_alike sorts apart known base base knows.owns f g e is) (λ v. ret_alike sorts (simply (Expression e)) base base flow.Normal))
    simple_alike (Print form list output) is = then_alike _ _ (print_alike form list output (left_true (list_keeps_to_record sorts.own sorts.arrays known list) _ is) (right_true (list_keeps_to_record sorts.own sorts.arrays known list) _ is)) (λ _. ret_alike sorts known base base flow.Normal)
    simple_alike Next is = then_alike _ _ (spend_alike sorts known base base) (λ _. next_alike)
    simple_alike Break is = then_alike _ _ (spend_alike sorts known base base) (λ _. ret_alike sorts known base base flow.Break)
    simple_alike Continue is = then_alike _ _ (spend_alike sorts known base base) (λ _. ret_alike sorts known base base flow.Continue)
    simple_alike (Delete a es) is =
        let filled = left_true (is_filled sorts.own sorts.arrays known a) _ is in
        then_alike _ _ (spend_alike sorts known base base) (λ _. then_alike _ _ (key_alike sorts apart known base base knows.owns f g [] es (right_true (is_filled sorts.own sorts.arrays known a) _ is)) (λ key.
        then_alike _ _ (delete_element_alike sorts known base base a (left_true (sorts.arrays a) _ filled) (right_true (sorts.arrays a) _ filled) key) (λ _. ret_alike sorts known base base flow.Normal)))
    simple_alike (DeleteAll a) is = then_alike _ _ (spend_alike sorts known base base) (λ _. then_alike _ _ (clear_alike sorts known base base a is) (λ _. ret_alike sorts (simply (DeleteAll a)) base base flow.Normal))
    simple_alike NextFile is = absurd (cc)
    simple_alike (Exit e) is = absurd (cc)
    simple_alike (Return e) is = absurd (cc)

    part_alike : (first : OptionalSimple) → is_part_for_itself sorts.own sorts.arrays known first ≡ true → Alike sorts known (known_within sorts.own sorts.arrays first known) base base (exec_part f first) (exec_part g first)
    unfolding exec_part
    part_alike NoSimple is = ret_alike sorts known base base tt
    part_alike (ASimple simple) is = then_alike _ _ (simple_alike simple is) (λ c. ret_alike sorts (simply simple) base base tt)

    -- what follows a statement, where more was known behind that
    passed_on : (c : Flow) {more : Names} {m n : Run Flow} → IsWithin known more → Alike sorts more more base base m n → Alike sorts more known base base (pass_on c m) (pass_on c n)
    passed_on c {more = more} grows h = pass_alike (λ A m n. Alike sorts more known base base m n) (λ A a. alike_within grows (ret_alike sorts more base base a)) c (alike_within grows h)

  mutual
    unfolding exec

    pub exec_alike : (known : Names) (knows : Knows sorts known) (s : Statement) → is_for_itself sorts.own sorts.arrays known s ≡ true → Alike sorts known (known_behind sorts.own sorts.arrays s known) base base (exec f s) (exec g s)
    exec_alike known knows Empty is = ret_alike sorts known base base flow.Normal
    exec_alike known knows (Simple simple) is = simple_alike known knows simple is
    exec_alike known knows (Block all) is = exec_all_alike known knows all is
    exec_alike known knows (If c s) is =
        let body = alike_within (grows_behind sorts.own sorts.arrays known s) (exec_alike known knows s (right_true (keeps_to_record sorts.own sorts.arrays known c) _ is)) in
        then_alike _ _ (test_alike known knows c (left_true (keeps_to_record sorts.own sorts.arrays known c) _ is)) (λ x. choose_alike sorts known base base x body (ret_alike sorts known base base flow.Normal))
    exec_alike known knows (IfElse c s other) is =
        let both = right_true (keeps_to_record sorts.own sorts.arrays known c) _ is in
        let body = alike_within (grows_behind sorts.own sorts.arrays known s) (exec_alike known knows s (left_true (is_for_itself sorts.own sorts.arrays known s) _ both)) in
        let rest = alike_within (grows_behind sorts.own sorts.arrays known other) (exec_alike known knows other (right_true (is_for_itself sorts.own sorts.arrays known s) _ both)) in
        then_alike _ _ (test_alike known knows c (left_true (keeps_to_record sorts.own sorts.arrays known c) _ is)) (λ x. choose_alike sorts known base base x body rest)
    exec_alike known knows (While c s) is =
        let tested = tested_alike sorts known base base (reads known knows c (left_true (keeps_to_record sorts.own sorts.arrays known c) _ is)) in
        let body = alike_within (grows_behind sorts.own sorts.arrays known s) (exec_alike known knows s (right_true (keeps_to_record sorts.own sorts.arrays known c) _ is)) in
        then_alike _ _ (spend_alike sorts known base base) (λ _. repeat_alike known knows tested body (ret_alike sorts known base base tt))
    exec_alike known knows (Do s c) is =
        let tested = tested_alike sorts known base base (reads known knows c (left_true (keeps_to_record sorts.own sorts.arrays known c) _ is)) in
        let body = alike_within (grows_behind sorts.own sorts.arrays known s) (exec_alike known knows s (right_true (keeps_to_record sorts.own sorts.arrays known c) _ is)) in
        then_alike _ _ (spend_alike sorts known base base) (λ _. then_alike _ _ (turned known knows body) (λ ended. unless_alike (DoesAt known knows) (returns known knows) ended (repeat_alike known knows tested body (ret_alike sorts known base base tt))))
    exec_alike known knows (For first c last s) is =
        let more = known_within sorts.own sorts.arrays first known in
        let grown = knows_more sorts known more (grows_within sorts.own sorts.arrays known first) knows in
        let loop = right_true (is_part_for_itself sorts.own sorts.arrays known first) _ is in
        let parts = right_true (may_keep_to_record sorts.own sorts.arrays more c) _ loop in
        let tested = goes_on_alike more grown c (left_true (may_keep_to_record sorts.own sorts.arrays more c) _ loop) in
        let end = alike_within (grows_within sorts.own sorts.arrays more last) (part_alike more grown last (left_true (is_part_for_itself sorts.own sorts.arrays more last) _ parts)) in
        let body = alike_within (grows_behind sorts.own sorts.arrays more s) (exec_alike more grown s (right_true (is_part_for_itself sorts.own sorts.arrays more last) _ parts)) in
        then_alike _ _ (spend_alike sorts known base base) (λ _. then_alike _ _ (part_alike known knows first (left_true (is_part_for_itself sorts.own sorts.arrays known first) _ is)) (λ _. repeat_alike more grown tested body end))
    exec_alike known knows (ForIn x array s) is = absurd (cc)

    pub exec_all_alike : (known : Names) (knows : Knows sorts known) (all : Statements) → are_for_themselves sorts.own sorts.arrays known all ≡ true → Alike sorts known known base base (exec_all f all) (exec_all g all)
    exec_all_alike known knows NoMore is = ret_alike sorts known base base flow.Normal
    exec_all_alike known knows (Then s all) is =
        let more = known_behind sorts.own sorts.arrays s known in
        let rest = exec_all_alike more (knows_more sorts known more (grows_behind sorts.own sorts.arrays known s) knows) all (right_true (is_for_itself sorts.own sorts.arrays known s) _ is) in
        then_alike _ _ (exec_alike known knows s (left_true (is_for_itself sorts.own sorts.arrays known s) _ is)) (λ c. passed_on known knows c (grows_behind sorts.own sorts.arrays known s) rest)

  module _ (known : Names) (knows : Knows sorts known) where
    action_alike : (all : Statements) → are_for_themselves sorts.own sorts.arrays known all ≡ true → Does known knows (run_action f all) (run_action g all)
    unfolding run_action
    action_alike all is = then_alike _ _ (exec_all_alike known knows all is) (λ c. ret_alike sorts known base base tt)

    selects_alike : (n : ℕ) (p : Pattern) → pattern_keeps_to_record sorts.own sorts.arrays known p ≡ true → Does known knows (selects f n p) (selects g n p)
    unfolding selects
    selects_alike n (Single e) is = tested_alike sorts known base base (reads known knows e is)
    selects_alike n (Range from to) is = absurd (cc)

    print_record_alike : Does known knows (print_record f) (print_record g)
    unfolding print_record
    print_record_alike = print_alike known knows form.Print (Bare Nil) Standard refl refl

    item_alike : (n : ℕ) (x : Item) → is_rule_for_itself sorts.own sorts.arrays known x ≡ true → Does known knows (try_item f n x) (try_item g n x)
    unfolding try_item
    item_alike n (Action block) is = action_alike block is
    item_alike n (PatternAction p block) is = then_alike _ _ (selects_alike n p (left_true (pattern_keeps_to_record sorts.own sorts.arrays known p) _ is)) (λ x. choose_alike sorts known base base x (action_alike block (right_true (pattern_keeps_to_record sorts.own sorts.arrays known p) _ is)) (ret_alike sorts known base base tt))
    item_alike n (PatternOnly p) is = then_alike _ _ (selects_alike n p is) (λ x. choose_alike sorts known base base x print_record_alike (ret_alike sorts known base base tt))
    item_alike n (Begin block) is = ret_alike sorts known base base tt
    item_alike n (End block) is = absurd (cc)
    item_alike n (Function name parameters block) is = absurd (cc)

    pub items_alike : (n : ℕ) (xs : List Item) → are_rules_for_themselves sorts.own sorts.arrays known xs ≡ true → Does known knows (try_items f n xs) (try_items g n xs)
    unfolding try_items
    items_alike n [] is = ret_alike sorts known base base tt
    items_alike n (x ∷ xs) is = then_alike _ _ (item_alike n x (left_true (is_rule_for_itself sorts.own sorts.arrays known x) _ is)) (λ _. items_alike (suc n) xs (right_true (is_rule_for_itself sorts.own sorts.arrays known x) _ is))

  module _ (known : Names) (knows : Knows sorts known) where
    pub until_alike : {m n : Run (Unit {0})} → Does known knows m n → Alike sorts known sorts.shared base base (until_next m) (until_next n)
    unfolding until_next
    until_alike {m = m} {n = n} h = record { covers = λ o p c arrays arrays' v w k d agrees. ended_covers sorts known base base o p arrays arrays' v w k d (m (state_on (with_arrays base arrays) o c v k)).result (m (state_on (with_arrays base arrays) o c v k)).state (m (state_on (with_arrays base arrays) o c v k)).effects (n (state_on (with_arrays base arrays') p c w (k + d))) knows.within (h.covers o p c arrays arrays' v w k d agrees) }
