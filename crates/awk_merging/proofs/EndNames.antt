-- Which variables END may read behind what it has done.
use Rattle.std.proofs.Common.{◌≡◌, inl, inr, ℕ, Bool, true, false, ◌||◌, not, if◌then◌else◌, List, Some, None, refl, sym, ap, ◌∙◌, subst, bytes_eq}
use Rattle.std.proofs.lemmas.Bool.{cases_Bool, or_cases}
use Rattle.std.proofs.lemmas.Slice.Eq.{bytes_eq-Decides}
use Rattle.awk_lex.specs.declared.token.AssignmentOperator.{AssignmentOperator}
use Rattle.awk_grammar.specs.Tree.{Expr, Name, Assign, SimpleStatement, Expression, OptionalSimple, NoSimple, ASimple, Statement, Simple, For}
use Rattle.awk_pieces.specs.definitions.Pieceable.{is_plain, name_set, name_set_by, name_set_first, also, behind}
use Rattle.awk_pieces.proofs.Alike.{Names, IsWithin}
use Rattle.awk_pieces.proofs.PlacesAlike.{known_before}
use Rattle.awk_pieces.proofs.ReadsAlike.{left_true, right_true}
use Rattle.awk_merging.specs.definitions.Sums.{Sum, is_taken}
use Rattle.awk_merging.specs.definitions.Mergeable.{is_free, is_changeable, reads_sums, sets_free, is_simple_of_end, is_part_of_end, only_prints}
use Rattle.awk_merging.proofs.OwnVariables.{not_true}
use Rattle.awk_merging.proofs.Showing.{Shows, shows_also}

pub no_left : (a b : Bool) → not (a || b) ≡ true → a ≡ false
no_left true b e = cc
no_left false b e = refl

known_already : (own known : Names) (plain : Bool) (x : List ℕ) → known x ≡ true → IsWithin (also own (if plain then Some x else None) known) known
known_already own known false x is z known' = known'
known_already own known true x is z known' = elim (cases_Bool (bytes_eq x z)) [
  | inl same ↦ subst (λ (y : List ℕ). known y ≡ true) ((bytes_eq-Decides x z).0 same) is
  | inr other ↦ known_before (own x) (bytes_eq x z) (known z) other known'
]

none_set : (own known : Names) (plain : Bool) → IsWithin (also own (if plain then None else None) known) known
none_set own known false z is = is
none_set own known true z is = is

-- what a statement sets may be read behind it, unless it was before

names_of_place : (own shown : Names) (xs : List Sum) (c : AssignmentOperator) (p e : Expr) → reads_sums xs shown p ≡ true → IsWithin (also own (name_set (Assign c p e)) shown) shown
names_of_place own shown xs c (Name x) e is = known_already own shown (is_plain c) x is
names_of_place own shown xs c p e is = none_set own shown (is_plain c)

pub names_kept : (own shown : Names) (xs : List Sum) (e : Expr) → reads_sums xs shown e ≡ true → IsWithin (also own (name_set e) shown) shown
names_kept own shown xs (Assign c p e) is = names_of_place own shown xs c p e (left_true (reads_sums xs shown p) _ (right_true (is_changeable p) _ is))
names_kept own shown xs e is = λ z k. k

shows_name : (own shown : Names) (plain : Bool) (x : List ℕ) → is_taken x ≡ false → Shows shown → Shows (also own (if plain then Some x else None) shown)
shows_name own shown true x free may = shows_also own shown x free may
shows_name own shown false x free may = may

shows_none : (own shown : Names) (plain : Bool) → Shows shown → Shows (also own (if plain then None else None) shown)
shows_none own shown true may = may
shows_none own shown false may = may

shows_place : (own shown : Names) (c : AssignmentOperator) (p e : Expr) → ((x : List ℕ) → p ≡ Name x → is_taken x ≡ false) → Shows shown → Shows (also own (name_set (Assign c p e)) shown)
shows_place own shown c (Name x) e free may = shows_name own shown (is_plain c) x (free x refl) may
shows_place own shown c p e free may = shows_none own shown (is_plain c) may

free_place : (p : Expr) → is_free p ≡ true → (x : List ℕ) → p ≡ Name x → is_taken x ≡ false
free_place p is x named = not_true (is_taken x) (ap is_free (sym named) ∙ is)

changeable_place : (p : Expr) → is_changeable p ≡ true → (x : List ℕ) → p ≡ Name x → is_taken x ≡ false
changeable_place p is x named = not_true (is_taken x) (ap is_changeable (sym named) ∙ is)

shows_set : (own shown : Names) (xs : List Sum) (e : Expr) → (sets_free xs shown e || reads_sums xs shown e) ≡ true → Shows shown → Shows (also own (name_set e) shown)
shows_set own shown xs (Assign c p e) is may = elim (or_cases (sets_free xs shown (Assign c p e)) (reads_sums xs shown (Assign c p e)) is) [
  | inl sets ↦ shows_place own shown c p e (free_place p (left_true (is_free p) _ (right_true (is_plain c) _ sets))) may
  | inr reads ↦ shows_place own shown c p e (changeable_place p (left_true (is_changeable p) _ reads)) may
]
shows_set own shown xs e is may = may

shows_simple : (own shown : Names) (xs : List Sum) (simple : SimpleStatement) → is_simple_of_end xs shown simple ≡ true → Shows shown → Shows (also own (name_set_by simple) shown)
shows_simple own shown xs (Expression e) is may = shows_set own shown xs e is may
shows_simple own shown xs simple is may = may

pub shows_part : (own shown : Names) (xs : List Sum) (first : OptionalSimple) → is_part_of_end xs shown first ≡ true → Shows shown → Shows (also own (name_set_first first) shown)
shows_part own shown xs NoSimple is may = may
shows_part own shown xs (ASimple simple) is may = shows_simple own shown xs simple is may

pub shows_behind : (own shown : Names) (xs : List Sum) (s : Statement) → only_prints own xs shown s ≡ true → Shows shown → Shows (behind own s shown)
shows_behind own shown xs (Simple simple) is may = shows_simple own shown xs simple is may
shows_behind own shown xs (For first c last s) is may = shows_part own shown xs first (left_true (is_part_of_end xs shown first) _ is) may
shows_behind own shown xs s is may = may
