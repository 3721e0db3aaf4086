-- What is reached in the graph is the least closed set of variables.
use Rattle.std.proofs.Common.{◌≡◌, ℕ, ◌<◌, Bool, true, false, List, [], length, get_or, Option, Some, None, cond, nat_lt, position, refl, sym, ap, ◌∙◌, arith}
use Rattle.std.specs.Global.{Vec}
use Rattle.std.specs.List.{Contains, IsDistinct, position_or_len}
use Rattle.std.proofs.lemmas.Bool.{lt-ltb}
use Rattle.std.proofs.lemmas.List.Quantifiers.{position-Some}
use Rattle.std.proofs.lemmas.List.Sums.{position_or_len_is}
use Rattle.std.proofs.lemmas.Map.Keys.{apart_from_distinct}
use Rattle.awk_kinds.specs.declared.variable.Variable.{Variable}
use Rattle.awk_kinds.specs.declared.variable.Variable.TheVariants.{Global}
use Rattle.awk_kinds.specs.declared.uses.ArrayUse.{ArrayUse}
use Rattle.awk_kinds.specs.declared.functions.Functions.{Functions}
use Rattle.awk_kinds.specs.declared.graph.Graph.{Graph}
use Rattle.awk_kinds.specs.definitions.Kinds.{same_variable}
use Rattle.awk_kinds.specs.support.SameVariable.{same_is, same_self, same_variable_equiv}
use Rattle.awk_kinds.specs.support.Graph.{variable_at, IsClosedAlong, FollowsUses}
use Rattle.awk_kinds.specs.support.Reach.{Reaches, First, Along, MarksReached}
use Rattle.awk_kinds.specs.support.Arrays.{mark_at, MarksLeast}

-- a variable has one number
position_at : (ks : List Variable) (i : ℕ) → IsDistinct same_variable ks → i < length ks → position (same_variable (variable_at ks i)) ks ≡ Some i
position_at ks i distinct low =
    let first : position_or_len (same_variable (variable_at ks i)) ks ≡ i =
    position_or_len_is (same_variable (variable_at ks i)) ks i (Global []) (omega (arith, low))
    (λ k h. same_variable_equiv.symm (variable_at ks i) (variable_at ks k) ∙ apart_from_distinct same_variable ks k i (Global []) distinct h low)
    (λ h. same_self (variable_at ks i)) in
    ap (λ n. cond (nat_lt n (length ks)) (Some n) None) first ∙ ap (λ b. cond b (Some i) None) (lt-ltb i (length ks) low)

module _ (ks : List Variable) (marks : List Bool) (ns : List ℕ) (es : List (ℕ × ℕ)) (distinct : IsDistinct same_variable ks) (reached : MarksReached (length ks) ns es marks)
    (low : (v : ℕ) → Contains ns v → v < length ks) (within : (v w : ℕ) → Contains es (v, w) → (v < length ks) × (w < length ks)) where
  abbrev marked : Variable → Bool
  marked v = mark_at marks (position (same_variable v) ks)

  marked_at : (k : ℕ) → k < length ks → marked (variable_at ks k) ≡ get_or marks k false
  marked_at k h = ap (mark_at marks) (position_at ks k distinct h)

  pub marks_closed : IsClosedAlong marked ks ns es
  marks_closed = record {
    first = λ v c. marked_at v (low v c) ∙ reached.complete v (First v c);
    along = λ v w c e. marked_at v (within v w c).0 ∙ reached.complete v (Along v w c (reached.sound w (sym (marked_at w (within v w c).1) ∙ e)));
  }

  module _ (P : Variable → Bool) (closed : IsClosedAlong P ks ns es) where
    reached_passes : (v : ℕ) → Reaches ns es v → P (variable_at ks v) ≡ true
    reached_passes v (First v' c) = closed.first v c
    reached_passes v (Along v' w c r) = closed.along v w c (reached_passes w r)

    pub marks_least : (v : Variable) → marked v ≡ true → P v ≡ true
    marks_least v e = by (position (same_variable v) ks) refl e
      where
        by : (r : Option ℕ) → position (same_variable v) ks ≡ r → mark_at marks r ≡ true → P v ≡ true
        by None p m = let bad : false ≡ true = m in cc
        by (Some i) p m = ap P (same_is v (variable_at ks i) (position-Some (same_variable v) ks i (Global []) p).1) ∙ reached_passes i (reached.sound i m)

pub marks_uses : (functions : Functions) (us : List ArrayUse) (g : Graph) (marks : Vec Bool) → IsDistinct same_variable g.variables.keys → FollowsUses functions us g → MarksReached (length g.variables.keys) g.first.items g.edges.items marks.items → MarksLeast functions us (record { variables = g.variables; marks = marks })
marks_uses functions us g marks distinct follows reached =
    let ks = g.variables.keys in
    record {
      closed = follows.to (λ v. mark_at marks.items (position (same_variable v) ks)) (marks_closed ks marks.items g.first.items g.edges.items distinct reached follows.numbers.first follows.numbers.edges);
      least = λ P closed. marks_least ks marks.items g.first.items g.edges.items distinct reached follows.numbers.first follows.numbers.edges P (follows.from P closed);
    }
