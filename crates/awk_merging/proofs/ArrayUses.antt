-- Which arrays a program that sums up uses, and the two that are derived of it: those of its sums.
use Rattle.std.proofs.Common.{◌≡◌, inl, inr, ℕ, Bool, true, ◌||◌, not, List, [], ◌∷◌, ◌++◌, Some, refl, sym, subst}
use Rattle.std.proofs.lemmas.Bool.{or_cases}
use Rattle.awk_lex.specs.declared.token.BuiltIn.{BuiltIn as BuiltInName}
use Rattle.awk_lex.specs.declared.token.BuiltIn.TheVariants as builtin
use Rattle.awk_kinds.specs.declared.variable.Variable.{Variable}
use Rattle.awk_kinds.specs.declared.variable.Variable.TheVariants.{Global, Parameter}
use Rattle.awk_kinds.specs.declared.uses.ArrayUse.{ArrayUse}
use Rattle.awk_kinds.specs.declared.uses.ArrayUse.TheVariants.{Used, Passed}
use Rattle.awk_kinds.specs.definitions.Kinds.{Scope, split_into, uses_in_expr, uses_in_list, uses_in_print_list, uses_in_output, uses_in_simple, uses_in_optional_expr, uses_in_optional_simple, uses_in_statement, uses_in_block, uses_in_pattern, outside_functions, uses_in_item, uses_in}
use Rattle.awk_grammar.specs.declared.tree.BinaryOperator.{BinaryOperator}
use Rattle.awk_grammar.specs.Tree.{Expr, Number, String, Ere, Name, Element, Field, Group, Call, BuiltIn, Length, PreIncrement, PostIncrement, Getline, PipedGetline, Unary, Binary, Membership, ListMembership, Conditional, Assign, Exprs, Nil, Cons, PrintList, Bare, Parenthesized, Output, Standard, Redirected, SimpleStatement, Expression, Print, Delete, DeleteAll, Next, NextFile, Break, Continue, Exit, Return, OptionalExpr, NoExpr, AnExpr, OptionalSimple, NoSimple, ASimple, Statement, Empty, Simple, Block, If, IfElse, While, Do, ForIn, For, Statements, NoMore, Then, Pattern, Single, Range, Item, Begin, End, Action, PatternAction, PatternOnly, Function}
use Rattle.awk_pieces.specs.definitions.Pieceable.{no_own, second_is_array, may_be_called, fills_array, arguments_keep_to_record, keeps_to_record, all_keep_to_record, may_keep_to_record, is_of_record, is_own_place, sets_own, name_set_first, also, behind, is_plain, may_be_set, is_setting, is_simple_setting, only_sets, all_only_set, pattern_keeps_to_record}
use Rattle.awk_pieces.proofs.ReadsAlike.{left_true, right_true}
use Rattle.awk_pieces.proofs.CallsAlike.{none_filled}
use Rattle.awk_merging.specs.definitions.Sums.{Sum, is_taken}
use Rattle.awk_merging.specs.definitions.Mergeable.{is_plus, is_plus_one, is_array_sum, knows, makes_value, is_standard, is_sum, is_sum_place, is_addition, is_simple_summing, is_part_summing, only_sums, all_only_sum, shows, is_free, is_changeable, is_pattern, reads_sums, all_read_sums, may_read_sums, are_printed, is_printed, sets_free, is_simple_of_end, is_part_of_end, only_prints, all_only_print, is_mergeable_item, are_mergeable}

abbrev plain : Scope
plain = outside_functions

-- an array of a sum
abbrev IsSummed : List Sum → Variable → Type 0
IsSummed xs (Global a) = is_array_sum xs a ≡ true
IsSummed xs (Parameter f x) = ⊥

abbrev pub AreSummed : List Sum → List ArrayUse → Type 0
AreSummed xs [] = Unit {0}
AreSummed xs (Used v ∷ us) = IsSummed xs v × AreSummed xs us
AreSummed xs (Passed v f n ∷ us) = ⊥

pub first_of : (xs : List Sum) (us vs : List ArrayUse) → AreSummed xs (us ++ vs) → AreSummed xs us
first_of xs [] vs all = tt
first_of xs (Used v ∷ us) vs all = (all.0, first_of xs us vs all.1)
first_of xs (Passed v f n ∷ us) vs all = absurd all

pub rest_of : (xs : List Sum) (us vs : List ArrayUse) → AreSummed xs (us ++ vs) → AreSummed xs vs
rest_of xs [] vs all = all
rest_of xs (Used v ∷ us) vs all = rest_of xs us vs all.1
rest_of xs (Passed v f n ∷ us) vs all = absurd all

pub summed_append : (xs : List Sum) (us vs : List ArrayUse) → AreSummed xs us → AreSummed xs vs → AreSummed xs (us ++ vs)
summed_append xs [] vs a b = b
summed_append xs (Used v ∷ us) vs a b = (a.0, summed_append xs us vs a.1 b)
summed_append xs (Passed v f n ∷ us) vs a b = absurd a

no_array : (own : List ℕ → Bool) (es : Exprs) → second_is_array own no_own es ≡ true → ⊥
no_array own (Cons text (Cons (Name a) es)) is = cc
no_array own es is = cc

no_filled_array : (own known : List ℕ → Bool) (f : BuiltInName) (es : Exprs) → may_be_called own no_own f es ≡ true → arguments_keep_to_record own no_own known (fills_array f) es ≡ true → all_keep_to_record own no_own known es ≡ true
no_filled_array own known builtin.Split es may is = absurd (no_array own es may)
no_filled_array own known f es may is = none_filled own no_own known es is

no_split : (own : List ℕ → Bool) (f : BuiltInName) (es : Exprs) → may_be_called own no_own f es ≡ true → split_into plain f es ≡ []
no_split own builtin.Length es may = refl
no_split own builtin.Substr es may = refl
no_split own builtin.Index es may = refl
no_split own builtin.Sprintf es may = refl
no_split own builtin.ToLower es may = refl
no_split own builtin.ToUpper es may = refl
no_split own builtin.Int es may = refl
no_split own builtin.Sub es may = refl
no_split own builtin.Gsub es may = refl
no_split own builtin.Split es may = absurd (no_array own es may)
no_split own builtin.Match es may = absurd (cc)
no_split own builtin.System es may = absurd (cc)
no_split own builtin.Close es may = absurd (cc)
no_split own builtin.Fflush es may = absurd (cc)

no_split_of_values : (f : BuiltInName) (es : Exprs) → makes_value f es ≡ true → split_into plain f es ≡ []
no_split_of_values builtin.Length es may = refl
no_split_of_values builtin.Substr es may = refl
no_split_of_values builtin.Index es may = refl
no_split_of_values builtin.Sprintf es may = refl
no_split_of_values builtin.ToLower es may = refl
no_split_of_values builtin.ToUpper es may = refl
no_split_of_values builtin.Int es may = refl
no_split_of_values builtin.Sub es may = absurd (cc)
no_split_of_values builtin.Gsub es may = absurd (cc)
no_split_of_values builtin.Split es may = absurd (cc)
no_split_of_values builtin.Match es may = absurd (cc)
no_split_of_values builtin.System es may = absurd (cc)
no_split_of_values builtin.Close es may = absurd (cc)
no_split_of_values builtin.Fflush es may = absurd (cc)

module _ (own : List ℕ → Bool) (xs : List Sum) where
  abbrev Fine : List ArrayUse → Type 0
  Fine us = AreSummed xs us

  both : (us vs : List ArrayUse) → Fine us → Fine vs → Fine (us ++ vs)
  both us vs a b = summed_append xs us vs a b

  split_and : (us vs : List ArrayUse) → us ≡ [] → Fine vs → Fine (us ++ vs)
  split_and us vs none a = subst (λ (l : List ArrayUse). Fine (l ++ vs)) (sym none) a

  module _ (mine known : List ℕ → Bool) where
    mutual
      kept : (e : Expr) → keeps_to_record mine no_own known e ≡ true → Fine (uses_in_expr plain e)
      kept (Number n) is = tt
      kept (String bytes) is = tt
      kept (Ere text) is = tt
      kept (Name x) is = tt
      kept Length is = tt
      kept (Field e) is = kept e is
      kept (Group e) is = kept e is
      kept (Unary o e) is = kept e is
      kept (Binary o a b) is = both (uses_in_expr plain a) (uses_in_expr plain b) (kept a (left_true (keeps_to_record mine no_own known a) _ is)) (kept b (right_true (keeps_to_record mine no_own known a) _ is))
      kept (Conditional c a b) is =
          let rest = right_true (keeps_to_record mine no_own known c) _ is in
          both (uses_in_expr plain c) (uses_in_expr plain a ++ uses_in_expr plain b) (kept c (left_true (keeps_to_record mine no_own known c) _ is))
          (both (uses_in_expr plain a) (uses_in_expr plain b) (kept a (left_true (keeps_to_record mine no_own known a) _ rest)) (kept b (right_true (keeps_to_record mine no_own known a) _ rest)))
      kept (BuiltIn f es) is = split_and (split_into plain f es) (uses_in_list plain es) (no_split mine f es (left_true (may_be_called mine no_own f es) _ is)) (all_kept es (no_filled_array mine known f es (left_true (may_be_called mine no_own f es) _ is) (right_true (may_be_called mine no_own f es) _ is)))
      kept (PreIncrement o p) is = kept p (right_true (is_of_record mine no_own p) _ is)
      kept (PostIncrement o p) is = kept p (right_true (is_of_record mine no_own p) _ is)
      kept (Assign o p e) is =
          let rest = right_true (is_of_record mine no_own p) _ is in
          both (uses_in_expr plain p) (uses_in_expr plain e) (kept p (left_true (keeps_to_record mine no_own known p) _ rest)) (kept e (right_true (keeps_to_record mine no_own known p) _ rest))
      kept (Element x es) is = absurd (cc)
      kept (Call c es) is = absurd (cc)
      kept (Getline p file) is = absurd (cc)
      kept (PipedGetline c p) is = absurd (cc)
      kept (Membership a x) is = absurd (cc)
      kept (ListMembership es x) is = absurd (cc)

      all_kept : (es : Exprs) → all_keep_to_record mine no_own known es ≡ true → Fine (uses_in_list plain es)
      all_kept Nil is = tt
      all_kept (Cons e es) is = both (uses_in_expr plain e) (uses_in_list plain es) (kept e (left_true (keeps_to_record mine no_own known e) _ is)) (all_kept es (right_true (keeps_to_record mine no_own known e) _ is))

  -- rules

  module _ (known : List ℕ → Bool) where
    placed : (place : Expr) → is_sum_place own xs known place ≡ true → Fine (uses_in_expr plain place)
    placed (Element a es) is = (left_true (is_array_sum xs a) _ is, all_kept own known es (right_true (is_array_sum xs a) _ is))
    placed (Name x) is = tt
    placed (Number n) is = absurd (cc)
    placed (String bytes) is = absurd (cc)
    placed (Ere text) is = absurd (cc)
    placed Length is = absurd (cc)
    placed (Field e) is = absurd (cc)
    placed (Group e) is = absurd (cc)
    placed (Unary o e) is = absurd (cc)
    placed (Binary o a b) is = absurd (cc)
    placed (Conditional c a b) is = absurd (cc)
    placed (BuiltIn f es) is = absurd (cc)
    placed (PreIncrement o p) is = absurd (cc)
    placed (PostIncrement o p) is = absurd (cc)
    placed (Assign o p e) is = absurd (cc)
    placed (Call c es) is = absurd (cc)
    placed (Getline p file) is = absurd (cc)
    placed (PipedGetline c p) is = absurd (cc)
    placed (Membership a x) is = absurd (cc)
    placed (ListMembership es x) is = absurd (cc)

    added : (e : Expr) → is_addition own xs known e ≡ true → Fine (uses_in_expr plain e)
    added (Assign o p e) is =
        let rest = right_true (is_plus o) _ is in
        both (uses_in_expr plain p) (uses_in_expr plain e) (placed p (left_true (is_sum_place own xs known p) _ rest)) (kept own known e (right_true (is_sum_place own xs known p) _ rest))
    added (PreIncrement o p) is = placed p (right_true (is_plus_one o) _ is)
    added (PostIncrement o p) is = placed p (right_true (is_plus_one o) _ is)
    added (Number n) is = absurd (cc)
    added (String bytes) is = absurd (cc)
    added (Ere text) is = absurd (cc)
    added (Name x) is = absurd (cc)
    added (Element x es) is = absurd (cc)
    added Length is = absurd (cc)
    added (Field e) is = absurd (cc)
    added (Group e) is = absurd (cc)
    added (Unary o e) is = absurd (cc)
    added (Binary o a b) is = absurd (cc)
    added (Conditional c a b) is = absurd (cc)
    added (BuiltIn f es) is = absurd (cc)
    added (Call c es) is = absurd (cc)
    added (Getline p file) is = absurd (cc)
    added (PipedGetline c p) is = absurd (cc)
    added (Membership a x) is = absurd (cc)
    added (ListMembership es x) is = absurd (cc)

    own_placed : (place : Expr) → is_own_place own no_own place ≡ true → Fine (uses_in_expr plain place)
    own_placed (Name x) is = tt
    own_placed place is = absurd (cc)

    set : (e : Expr) → sets_own own no_own known e ≡ true → Fine (uses_in_expr plain e)
    set (Assign o p e) is =
        let rest = right_true (is_plain o) _ is in
        both (uses_in_expr plain p) (uses_in_expr plain e) (own_placed p (left_true (is_own_place own no_own p) _ rest)) (kept own known e (right_true (is_own_place own no_own p) _ rest))
    set e is = absurd (cc)

    expression : (e : Expr) → (is_addition own xs known e || (sets_own own no_own known e || keeps_to_record own no_own known e)) ≡ true → Fine (uses_in_expr plain e)
    expression e is = elim (or_cases (is_addition own xs known e) (sets_own own no_own known e || keeps_to_record own no_own known e) is) [
      | inl adds ↦ added e adds
      | inr other ↦ elim (or_cases (sets_own own no_own known e) (keeps_to_record own no_own known e) other) [ inl sets ↦ set e sets | inr keeps ↦ kept own known e keeps ]
    ]

    simple_sums : (simple : SimpleStatement) → is_simple_summing own xs known simple ≡ true → Fine (uses_in_simple plain simple)
    simple_sums (Expression e) is = expression e is
    simple_sums Next is = tt
    simple_sums Break is = tt
    simple_sums Continue is = tt
    simple_sums (Print form list output) is = absurd (cc)
    simple_sums (Delete x es) is = absurd (cc)
    simple_sums (DeleteAll x) is = absurd (cc)
    simple_sums NextFile is = absurd (cc)
    simple_sums (Exit e) is = absurd (cc)
    simple_sums (Return e) is = absurd (cc)

    part_sums : (part : OptionalSimple) → is_part_summing own xs known part ≡ true → Fine (uses_in_optional_simple plain part)
    part_sums NoSimple is = tt
    part_sums (ASimple simple) is = simple_sums simple is

    condition : (c : OptionalExpr) → may_keep_to_record own no_own known c ≡ true → Fine (uses_in_optional_expr plain c)
    condition NoExpr is = tt
    condition (AnExpr e) is = kept own known e is

  mutual
    rule : (known : List ℕ → Bool) (s : Statement) → only_sums own xs known s ≡ true → Fine (uses_in_statement plain s)
    rule known Empty is = tt
    rule known (Simple simple) is = simple_sums known simple is
    rule known (Block all) is = rules known all is
    rule known (If c s) is = both (uses_in_expr plain c) (uses_in_statement plain s) (kept own known c (left_true (keeps_to_record own no_own known c) _ is)) (rule known s (right_true (keeps_to_record own no_own known c) _ is))
    rule known (IfElse c s other) is =
        let rest = right_true (keeps_to_record own no_own known c) _ is in
        both (uses_in_expr plain c) (uses_in_statement plain s ++ uses_in_statement plain other) (kept own known c (left_true (keeps_to_record own no_own known c) _ is))
        (both (uses_in_statement plain s) (uses_in_statement plain other) (rule known s (left_true (only_sums own xs known s) _ rest)) (rule known other (right_true (only_sums own xs known s) _ rest)))
    rule known (While c s) is = both (uses_in_expr plain c) (uses_in_statement plain s) (kept own known c (left_true (keeps_to_record own no_own known c) _ is)) (rule known s (right_true (keeps_to_record own no_own known c) _ is))
    rule known (Do s c) is = both (uses_in_statement plain s) (uses_in_expr plain c) (rule known s (right_true (keeps_to_record own no_own known c) _ is)) (kept own known c (left_true (keeps_to_record own no_own known c) _ is))
    rule known (For first c last s) is =
        let more = also own (name_set_first first) known in
        let loop = right_true (is_part_summing own xs known first) _ is in
        let parts = right_true (may_keep_to_record own no_own more c) _ loop in
        let body = uses_in_statement plain s in
        both (uses_in_optional_simple plain first) (uses_in_optional_expr plain c ++ (uses_in_optional_simple plain last ++ body)) (part_sums known first (left_true (is_part_summing own xs known first) _ is))
        (both (uses_in_optional_expr plain c) (uses_in_optional_simple plain last ++ body) (condition more c (left_true (may_keep_to_record own no_own more c) _ loop))
        (both (uses_in_optional_simple plain last) body (part_sums more last (left_true (is_part_summing own xs more last) _ parts)) (rule more s (right_true (is_part_summing own xs more last) _ parts))))
    rule known (ForIn x array s) is = absurd (cc)

    rules : (known : List ℕ → Bool) (all : Statements) → all_only_sum own xs known all ≡ true → Fine (uses_in_block plain all)
    rules known NoMore is = tt
    rules known (Then s all) is = both (uses_in_statement plain s) (uses_in_block plain all) (rule known s (left_true (only_sums own xs known s) _ is)) (rules (behind own s known) all (right_true (only_sums own xs known s) _ is))

  -- BEGIN

  set_place : (place : Expr) → may_be_set place ≡ true → Fine (uses_in_expr plain place)
  set_place (Name x) is = tt
  set_place (Element x es) is = absurd (cc)
  set_place (Number n) is = absurd (cc)
  set_place (String bytes) is = absurd (cc)
  set_place (Ere text) is = absurd (cc)
  set_place Length is = absurd (cc)
  set_place (Field e) is = absurd (cc)
  set_place (Group e) is = absurd (cc)
  set_place (Unary o e) is = absurd (cc)
  set_place (Binary o a b) is = absurd (cc)
  set_place (Conditional c a b) is = absurd (cc)
  set_place (BuiltIn f es) is = absurd (cc)
  set_place (PreIncrement o p) is = absurd (cc)
  set_place (PostIncrement o p) is = absurd (cc)
  set_place (Assign o p e) is = absurd (cc)
  set_place (Call c es) is = absurd (cc)
  set_place (Getline p file) is = absurd (cc)
  set_place (PipedGetline c p) is = absurd (cc)
  set_place (Membership a x) is = absurd (cc)
  set_place (ListMembership es x) is = absurd (cc)

  setting : (e : Expr) → is_setting e ≡ true → Fine (uses_in_expr plain e)
  setting (Assign o p e) is =
      let rest = right_true (is_plain o) _ is in
      both (uses_in_expr plain p) (uses_in_expr plain e) (set_place p (left_true (may_be_set p) _ rest)) (kept no_own (λ x. true) e (right_true (may_be_set p) _ rest))
  setting (Number n) is = absurd (cc)
  setting (String bytes) is = absurd (cc)
  setting (Ere text) is = absurd (cc)
  setting (Name x) is = absurd (cc)
  setting (Element x es) is = absurd (cc)
  setting Length is = absurd (cc)
  setting (Field e) is = absurd (cc)
  setting (Group e) is = absurd (cc)
  setting (Unary o e) is = absurd (cc)
  setting (Binary o a b) is = absurd (cc)
  setting (Conditional c a b) is = absurd (cc)
  setting (BuiltIn f es) is = absurd (cc)
  setting (PreIncrement o p) is = absurd (cc)
  setting (PostIncrement o p) is = absurd (cc)
  setting (Call c es) is = absurd (cc)
  setting (Getline p file) is = absurd (cc)
  setting (PipedGetline c p) is = absurd (cc)
  setting (Membership a x) is = absurd (cc)
  setting (ListMembership es x) is = absurd (cc)

  simple_sets : (simple : SimpleStatement) → is_simple_setting simple ≡ true → Fine (uses_in_simple plain simple)
  simple_sets (Expression e) is = setting e is
  simple_sets Next is = absurd (cc)
  simple_sets (Print form list output) is = absurd (cc)
  simple_sets (Delete x es) is = absurd (cc)
  simple_sets (DeleteAll x) is = absurd (cc)
  simple_sets NextFile is = absurd (cc)
  simple_sets Break is = absurd (cc)
  simple_sets Continue is = absurd (cc)
  simple_sets (Exit e) is = absurd (cc)
  simple_sets (Return e) is = absurd (cc)

  begin : (s : Statement) → only_sets s ≡ true → Fine (uses_in_statement plain s)
  begin Empty is = tt
  begin (Simple simple) is = simple_sets simple is
  begin (Block all) is = absurd (cc)
  begin (If c s) is = absurd (cc)
  begin (IfElse c s other) is = absurd (cc)
  begin (While c s) is = absurd (cc)
  begin (Do s c) is = absurd (cc)
  begin (ForIn x array s) is = absurd (cc)
  begin (For first c last s) is = absurd (cc)

  begins : (all : Statements) → all_only_set all ≡ true → Fine (uses_in_block plain all)
  begins NoMore is = tt
  begins (Then s all) is = both (uses_in_statement plain s) (uses_in_block plain all) (begin s (left_true (only_sets s) _ is)) (begins all (right_true (only_sets s) _ is))

  -- END

  pattern_shown : (o : BinaryOperator) (e : Expr) → is_pattern o e ≡ true → Fine (uses_in_expr plain e)
  pattern_shown o (Ere text) is = tt
  pattern_shown o e is = absurd (cc)

  module _ (visible : List ℕ → Bool) where
    mutual
      shown : (e : Expr) → reads_sums xs visible e ≡ true → Fine (uses_in_expr plain e)
      shown (Number n) is = tt
      shown (String bytes) is = tt
      shown (Name x) is = tt
      shown (Element a es) is = (left_true (is_array_sum xs a) _ is, all_shown es (right_true (is_array_sum xs a) _ is))
      shown (Group e) is = shown e is
      shown (Unary o e) is = shown e is
      shown (Binary o a b) is =
          let right : Fine (uses_in_expr plain b)
          = elim (or_cases (is_pattern o b) (reads_sums xs visible b) (right_true (reads_sums xs visible a) _ is)) [ inl pattern ↦ pattern_shown o b pattern | inr reads ↦ shown b reads ] in
          both (uses_in_expr plain a) (uses_in_expr plain b) (shown a (left_true (reads_sums xs visible a) _ is)) right
      shown (Conditional c a b) is =
          let rest = right_true (reads_sums xs visible c) _ is in
          both (uses_in_expr plain c) (uses_in_expr plain a ++ uses_in_expr plain b) (shown c (left_true (reads_sums xs visible c) _ is))
          (both (uses_in_expr plain a) (uses_in_expr plain b) (shown a (left_true (reads_sums xs visible a) _ rest)) (shown b (right_true (reads_sums xs visible a) _ rest)))
      shown (BuiltIn f es) is = split_and (split_into plain f es) (uses_in_list plain es) (no_split_of_values f es (left_true (makes_value f es) _ is)) (all_shown es (right_true (makes_value f es) _ is))
      shown (Membership e a) is = both (uses_in_expr plain e) (Used (Global a) ∷ []) (shown e (right_true (is_array_sum xs a) _ is)) (left_true (is_array_sum xs a) _ is, tt)
      shown (ListMembership es a) is = both (uses_in_list plain es) (Used (Global a) ∷ []) (all_shown es (right_true (is_array_sum xs a) _ is)) (left_true (is_array_sum xs a) _ is, tt)
      shown (PreIncrement o p) is = shown p (right_true (is_changeable p) _ is)
      shown (PostIncrement o p) is = shown p (right_true (is_changeable p) _ is)
      shown (Assign o p e) is =
          let rest = right_true (is_changeable p) _ is in
          both (uses_in_expr plain p) (uses_in_expr plain e) (shown p (left_true (reads_sums xs visible p) _ rest)) (shown e (right_true (reads_sums xs visible p) _ rest))
      shown (Ere text) is = absurd (cc)
      shown Length is = absurd (cc)
      shown (Field e) is = absurd (cc)
      shown (Call c es) is = absurd (cc)
      shown (Getline p file) is = absurd (cc)
      shown (PipedGetline c p) is = absurd (cc)

      all_shown : (es : Exprs) → all_read_sums xs visible es ≡ true → Fine (uses_in_list plain es)
      all_shown Nil is = tt
      all_shown (Cons e es) is = both (uses_in_expr plain e) (uses_in_list plain es) (shown e (left_true (reads_sums xs visible e) _ is)) (all_shown es (right_true (reads_sums xs visible e) _ is))

    printed : (es : Exprs) → are_printed xs visible es ≡ true → Fine (uses_in_list plain es)
    printed Nil is = tt
    printed (Cons e es) is = both (uses_in_expr plain e) (uses_in_list plain es) (shown e (left_true (reads_sums xs visible e) _ is)) (all_shown es (right_true (reads_sums xs visible e) _ is))

    listed : (list : PrintList) → is_printed xs visible list ≡ true → Fine (uses_in_print_list plain list)
    listed (Bare es) is = printed es is
    listed (Parenthesized es) is = printed es is

    standard : (output : Output) → is_standard output ≡ true → Fine (uses_in_output plain output)
    standard Standard is = tt
    standard (Redirected way e) is = absurd (cc)

    optional_shown : (e : OptionalExpr) → may_read_sums xs visible e ≡ true → Fine (uses_in_optional_expr plain e)
    optional_shown NoExpr is = tt
    optional_shown (AnExpr e) is = shown e is

    free_placed : (place : Expr) → is_free place ≡ true → Fine (uses_in_expr plain place)
    free_placed (Name x) is = tt
    free_placed place is = absurd (cc)

    free_set : (e : Expr) → sets_free xs visible e ≡ true → Fine (uses_in_expr plain e)
    free_set (Assign o p e) is =
        let rest = right_true (is_plain o) _ is in
        both (uses_in_expr plain p) (uses_in_expr plain e) (free_placed p (left_true (is_free p) _ rest)) (shown e (right_true (is_free p) _ rest))
    free_set e is = absurd (cc)

    simple_ends : (simple : SimpleStatement) → is_simple_of_end xs visible simple ≡ true → Fine (uses_in_simple plain simple)
    simple_ends (Expression e) is = elim (or_cases (sets_free xs visible e) (reads_sums xs visible e) is) [ inl sets ↦ free_set e sets | inr reads ↦ shown e reads ]
    simple_ends (Print form list output) is = both (uses_in_print_list plain list) (uses_in_output plain output) (listed list (left_true (is_printed xs visible list) _ is)) (standard output (right_true (is_printed xs visible list) _ is))
    simple_ends (Delete a es) is = (left_true (is_array_sum xs a) _ is, all_shown es (right_true (is_array_sum xs a) _ is))
    simple_ends (DeleteAll a) is = (is, tt)
    simple_ends (Exit e) is = optional_shown e is
    simple_ends Break is = tt
    simple_ends Continue is = tt
    simple_ends Next is = absurd (cc)
    simple_ends NextFile is = absurd (cc)
    simple_ends (Return e) is = absurd (cc)

    part_ends : (part : OptionalSimple) → is_part_of_end xs visible part ≡ true → Fine (uses_in_optional_simple plain part)
    part_ends NoSimple is = tt
    part_ends (ASimple simple) is = simple_ends simple is

  mutual
    end : (visible : List ℕ → Bool) (s : Statement) → only_prints own xs visible s ≡ true → Fine (uses_in_statement plain s)
    end visible Empty is = tt
    end visible (Simple simple) is = simple_ends visible simple is
    end visible (Block all) is = ends visible all is
    end visible (If c s) is = both (uses_in_expr plain c) (uses_in_statement plain s) (shown visible c (left_true (reads_sums xs visible c) _ is)) (end visible s (right_true (reads_sums xs visible c) _ is))
    end visible (IfElse c s other) is =
        let rest = right_true (reads_sums xs visible c) _ is in
        both (uses_in_expr plain c) (uses_in_statement plain s ++ uses_in_statement plain other) (shown visible c (left_true (reads_sums xs visible c) _ is))
        (both (uses_in_statement plain s) (uses_in_statement plain other) (end visible s (left_true (only_prints own xs visible s) _ rest)) (end visible other (right_true (only_prints own xs visible s) _ rest)))
    end visible (ForIn x a s) is =
        let rest = right_true (not (is_taken x || is_sum xs x)) _ is in
        (left_true (is_array_sum xs a) _ rest, end (also own (Some x) visible) s (right_true (is_array_sum xs a) _ rest))
    end visible (While c s) is = both (uses_in_expr plain c) (uses_in_statement plain s) (shown visible c (left_true (reads_sums xs visible c) _ is)) (end visible s (right_true (reads_sums xs visible c) _ is))
    end visible (Do s c) is = both (uses_in_statement plain s) (uses_in_expr plain c) (end visible s (right_true (reads_sums xs visible c) _ is)) (shown visible c (left_true (reads_sums xs visible c) _ is))
    end visible (For first c last s) is =
        let more = also own (name_set_first first) visible in
        let loop = right_true (is_part_of_end xs visible first) _ is in
        let parts = right_true (may_read_sums xs more c) _ loop in
        let body = uses_in_statement plain s in
        both (uses_in_optional_simple plain first) (uses_in_optional_expr plain c ++ (uses_in_optional_simple plain last ++ body)) (part_ends visible first (left_true (is_part_of_end xs visible first) _ is))
        (both (uses_in_optional_expr plain c) (uses_in_optional_simple plain last ++ body) (optional_shown more c (left_true (may_read_sums xs more c) _ loop))
        (both (uses_in_optional_simple plain last) body (part_ends more last (left_true (is_part_of_end xs more last) _ parts)) (end more s (right_true (is_part_of_end xs more last) _ parts))))

    ends : (visible : List ℕ → Bool) (all : Statements) → all_only_print own xs visible all ≡ true → Fine (uses_in_block plain all)
    ends visible NoMore is = tt
    ends visible (Then s all) is = both (uses_in_statement plain s) (uses_in_block plain all) (end visible s (left_true (only_prints own xs visible s) _ is)) (ends (behind own s visible) all (right_true (only_prints own xs visible s) _ is))

  -- items

  selected : (p : Pattern) → pattern_keeps_to_record own no_own (knows own xs) p ≡ true → Fine (uses_in_pattern plain p)
  selected (Single e) is = kept own (knows own xs) e is
  selected (Range from to) is = absurd (cc)

  item : (x : Item) → is_mergeable_item own xs x ≡ true → Fine (uses_in_item x)
  item (Begin block) is = begins block (left_true (all_only_set block) _ is)
  item (Action block) is = rules (knows own xs) block is
  item (PatternAction p block) is = both (uses_in_pattern plain p) (uses_in_block plain block) (selected p (left_true (pattern_keeps_to_record own no_own (knows own xs) p) _ is)) (rules (knows own xs) block (right_true (pattern_keeps_to_record own no_own (knows own xs) p) _ is))
  item (End block) is = ends (shows own) block is
  item (PatternOnly p) is = absurd (cc)
  item (Function f parameters block) is = absurd (cc)

  pub items_summed : (items : List Item) → are_mergeable own xs items ≡ true → Fine (uses_in items)
  items_summed [] is = tt
  items_summed (x ∷ items) is = both (uses_in_item x) (uses_in items) (item x (left_true (is_mergeable_item own xs x) _ is)) (items_summed items (right_true (is_mergeable_item own xs x) _ is))

  -- the derived programs

  pub uses_joined : (ys zs : List Item) → Fine (uses_in ys) → Fine (uses_in zs) → Fine (uses_in (ys ++ zs))
  uses_joined [] zs a b = b
  uses_joined (y ∷ ys) zs a b = both (uses_in_item y) (uses_in (ys ++ zs)) (first_of xs (uses_in_item y) (uses_in ys) a) (uses_joined ys zs (rest_of xs (uses_in_item y) (uses_in ys) a) b)
