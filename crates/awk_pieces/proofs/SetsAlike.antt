-- Statements that set a variable of the record do alike, and it is known behind them.
use Rattle.std.proofs.Common.{◌≡◌, ℕ, Bool, true, false, ◌||◌, if◌then◌else◌, List, Option, Some, None, refl, subst, bytes_eq, codes, inl, inr}
use Rattle.std.proofs.lemmas.Bool.{cases_Bool}
use Rattle.std.proofs.lemmas.Slice.Eq.{bytes_eq-Decides}
use Rattle.awk_value.specs.declared.value.Value.{Value}
use Rattle.awk_lex.specs.declared.token.AssignmentOperator.{AssignmentOperator}
use Rattle.awk_lex.specs.declared.token.AssignmentOperator.TheVariants as assignment
use Rattle.awk_lex.specs.declared.token.BuiltIn.{BuiltIn as BuiltInName}
use Rattle.awk_lex.specs.declared.token.BuiltIn.TheVariants as built_in
use Rattle.awk_grammar.specs.Tree.{Expr, Number, String, Ere, Name, Element, Field, Group, Call, BuiltIn, Length, PreIncrement, PostIncrement, Getline, PipedGetline, Unary, Binary, Membership, ListMembership, Conditional, Assign, Exprs}
use Rattle.awk_semantics.specs.definitions.State.{State, go_on, ◌>>=◌, lift}
use Rattle.awk_semantics.specs.definitions.Primitives.{read_name}
use Rattle.awk_semantics.specs.definitions.Operators.{operator_of}
use Rattle.awk_semantics.specs.definitions.Places.{Place, AName, AnElement, AField, read_place, store, assign, assign_by}
use Rattle.awk_semantics.specs.definitions.Semantics.{Functions, eval}
use Rattle.awk_pieces.specs.definitions.Pieceable.{keeps_to_record, is_plain, is_of_record, is_own_place, second_is_array, sets_own, name_set, array_filled_by_call, array_filled_alone, array_filled, is_mine, also}
use Rattle.awk_pieces.proofs.Alike.{Names, OwnsSeparators, Sorts, SetsApart, IsWithin, Alike, alike_within, then_alike, then_where}
use Rattle.awk_pieces.proofs.ReadsAlike.{left_true, right_true, name_alike}
use Rattle.awk_pieces.proofs.KnownNames.{or_else, known_before, within_also}
use Rattle.awk_pieces.proofs.PlacesAlike.{IsOfRecord, assign_by_alike, put_own}
use Rattle.awk_pieces.proofs.ExpressionsAlike.{expression_alike, place_alike, split_alike}

held_itself : (x : List ℕ) → bytes_eq x x ≡ true
held_itself x = (bytes_eq-Decides x x).1 refl

mine_own : (a b : Bool) → b ≡ true → (a || b) ≡ true
mine_own true b e = refl
mine_own false b e = e

-- a name that was known already
known_already : (own known : Names) (plain : Bool) (x : List ℕ) → known x ≡ true → IsWithin (also own (if plain then Some x else None) known) known
known_already own known false x is z known' = known'
known_already own known true x is z known' = elim (cases_Bool (bytes_eq x z)) [
  | inl same ↦ subst (λ (y : List ℕ). known y ≡ true) ((bytes_eq-Decides x z).0 same) is
  | inr other ↦ known_before (own x) (bytes_eq x z) (known z) other known'
]

none_set : (own known : Names) (plain : Bool) → IsWithin (also own (if plain then None else None) known) known
none_set own known false z is = is
none_set own known true z is = is

-- where so much is known before it, and more behind the value
place_kept : (own arrays known more : Names) (c : AssignmentOperator) (p e : Expr) → IsWithin known more → keeps_to_record own arrays known p ≡ true → IsWithin (also (is_mine own arrays) (name_set (Assign c p e)) more) more
place_kept own arrays known more c (Name x) e grows is = known_already (is_mine own arrays) more (is_plain c) x (grows x is)
place_kept own arrays known more c p e grows is = none_set (is_mine own arrays) more (is_plain c)

-- an expression that keeps to the record sets no name that isn't known
names_kept : (own arrays known more : Names) (e : Expr) → IsWithin known more → keeps_to_record own arrays known e ≡ true → IsWithin (also (is_mine own arrays) (name_set e) more) more
names_kept own arrays known more (Assign c p e) grows is = place_kept own arrays known more c p e grows (left_true (keeps_to_record own arrays known p) _ (right_true (is_of_record own arrays p) _ is))
names_kept own arrays known more e grows is = λ z k. k

-- what is of the record is known where more is
record_more : (sorts : Sorts) (known more : Names) (q : Place) → IsWithin known more → IsOfRecord sorts known q → IsOfRecord sorts more q
record_more sorts known more (AField n) grows is = tt
record_more sorts known more (AName x) grows is = (is.0, grows x is.1)
record_more sorts known more (AnElement a key) grows is = (is.0, grows a is.1)

pub owns_more : {known more : Names} → IsWithin known more → OwnsSeparators known → OwnsSeparators more
owns_more grows owns = record { fs = grows (codes "FS") owns.fs; rs = grows (codes "RS") owns.rs; ofs = grows (codes "OFS") owns.ofs; ors = grows (codes "ORS") owns.ors; subsep = grows (codes "SUBSEP") owns.subsep }

module _ (sorts : Sorts) (apart : SetsApart sorts) (known : Names) (base base' : State) (owns : OwnsSeparators known) (f g : Functions) where
  abbrev mine : Names
  mine = is_mine sorts.own sorts.arrays

  abbrev filled : Option (List ℕ) → Names
  filled name = also mine name known

  fills_more : (name : Option (List ℕ)) → IsWithin known (filled name)
  fills_more name = within_also mine known name

  abbrev reads : (e : Expr) → keeps_to_record sorts.own sorts.arrays known e ≡ true → Alike sorts known known base base' (eval f e) (eval g e)
  reads e is = expression_alike sorts apart known base base' owns f g e is

  -- what a call of `split` fills is known behind it
  call_fills : (c : BuiltInName) (es : Exprs) → keeps_to_record sorts.own sorts.arrays known (BuiltIn c es) ≡ true → Alike sorts known (filled (array_filled_by_call c es)) base base' (eval f (BuiltIn c es)) (eval g (BuiltIn c es))
  call_fills built_in.Split es is = split_alike sorts apart known base base' owns f g es (left_true (second_is_array sorts.own sorts.arrays es) _ is) (right_true (second_is_array sorts.own sorts.arrays es) _ is)
  call_fills c es is = reads (BuiltIn c es) is

  alone_fills : (e : Expr) → keeps_to_record sorts.own sorts.arrays known e ≡ true → Alike sorts known (filled (array_filled_alone e)) base base' (eval f e) (eval g e)
  alone_fills (BuiltIn c es) is = call_fills c es is
  alone_fills e is = reads e is

  assigned_fills : (c : AssignmentOperator) (p e : Expr) → keeps_to_record sorts.own sorts.arrays known (Assign c p e) ≡ true → Alike sorts known (filled (array_filled_alone e)) base base' (eval f (Assign c p e)) (eval g (Assign c p e))
  unfolding eval
  assigned_fills c p e is =
      let both = right_true (is_of_record sorts.own sorts.arrays p) _ is in
      let more = filled (array_filled_alone e) in
      let grows = fills_more (array_filled_alone e) in
      then_where _ _ (place_alike sorts apart known base base' owns f g p (left_true (is_of_record sorts.own sorts.arrays p) _ is) (left_true (keeps_to_record sorts.own sorts.arrays known p) _ both)) (λ q held.
      then_alike _ _ (alone_fills e (right_true (keeps_to_record sorts.own sorts.arrays known p) _ both)) (λ a. assign_by_alike sorts apart more base base' (owns_more grows owns) (operator_of c) q a (record_more sorts known more q grows held)))

  -- an array that an expression fills is known behind it
  expression_fills : (e : Expr) → keeps_to_record sorts.own sorts.arrays known e ≡ true → Alike sorts known (filled (array_filled e)) base base' (eval f e) (eval g e)
  expression_fills (Assign c p e) is = assigned_fills c p e is
  expression_fills (BuiltIn c es) is = call_fills c es is
  expression_fills e is = reads e is

  -- what is known behind an expression statement
  abbrev pub stated : Expr → Names
  stated e = also mine (name_set e) (filled (array_filled e))

  set_alike : (x : List ℕ) (e : Expr) → sorts.own x ≡ true → keeps_to_record sorts.own sorts.arrays known e ≡ true → Alike sorts known (stated (Assign assignment.Plain (Name x) e)) base base' (eval f (Assign assignment.Plain (Name x) e)) (eval g (Assign assignment.Plain (Name x) e))
  unfolding eval assign_by assign store read_place lift ◌>>=◌ go_on
  set_alike x e own is =
      let more = filled (array_filled_alone e) in
      let behind_it = also mine (Some x) more in
      let held : behind_it x ≡ true = rw (mine_own (sorts.arrays x) (sorts.own x) own, held_itself x) refl in
      let put_it = λ (a : Value). then_alike (λ _. read_name x) (λ _. read_name x) (put_own sorts apart more base base' x a own) (λ _. name_alike sorts behind_it base base' x held) in
      record { covers = λ o p c arrays arrays' v w k d agrees. (then_alike _ _ (alone_fills e is) put_it).covers o p c arrays arrays' v w k d agrees }

  plain_set_alike : (c : AssignmentOperator) (x : List ℕ) (e : Expr) → is_plain c ≡ true → sorts.own x ≡ true → keeps_to_record sorts.own sorts.arrays known e ≡ true → Alike sorts known (stated (Assign c (Name x) e)) base base' (eval f (Assign c (Name x) e)) (eval g (Assign c (Name x) e))
  plain_set_alike assignment.Plain x e plain own keeps = set_alike x e own keeps
  plain_set_alike assignment.Add x e plain own keeps = absurd (cc)
  plain_set_alike assignment.Subtract x e plain own keeps = absurd (cc)
  plain_set_alike assignment.Multiply x e plain own keeps = absurd (cc)
  plain_set_alike assignment.Divide x e plain own keeps = absurd (cc)
  plain_set_alike assignment.Remainder x e plain own keeps = absurd (cc)
  plain_set_alike assignment.Power x e plain own keeps = absurd (cc)

  place_set_alike : (c : AssignmentOperator) (place e : Expr) → is_plain c ≡ true → is_own_place sorts.own sorts.arrays place ≡ true → keeps_to_record sorts.own sorts.arrays known e ≡ true → Alike sorts known (stated (Assign c place e)) base base' (eval f (Assign c place e)) (eval g (Assign c place e))
  place_set_alike c (Name x) e plain own keeps = plain_set_alike c x e plain own keeps
  place_set_alike c place e plain own keeps = absurd (cc)

  own_set_alike : (e : Expr) → sets_own sorts.own sorts.arrays known e ≡ true → Alike sorts known (stated e) base base' (eval f e) (eval g e)
  own_set_alike (Assign c place e) is =
      let both = right_true (is_plain c) _ is in
      place_set_alike c place e (left_true (is_plain c) _ is) (left_true (is_own_place sorts.own sorts.arrays place) _ both) (right_true (is_own_place sorts.own sorts.arrays place) _ both)
  own_set_alike e is = absurd (cc)

  pub statement_alike : (e : Expr) → (sets_own sorts.own sorts.arrays known e || keeps_to_record sorts.own sorts.arrays known e) ≡ true → Alike sorts known (stated e) base base' (eval f e) (eval g e)
  statement_alike e is = elim (cases_Bool (sets_own sorts.own sorts.arrays known e)) [
    | inl sets ↦ own_set_alike e sets
    | inr other ↦ let keeps = or_else _ _ is other in alike_within (names_kept sorts.own sorts.arrays known (filled (array_filled e)) e (fills_more (array_filled e)) keeps) (expression_fills e keeps)
  ]
