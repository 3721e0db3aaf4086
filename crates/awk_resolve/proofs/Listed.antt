-- The continuation at a place is made of those that its node names.
use Rattle.std.proofs.Common.{◌≡◌, ℕ, zero, suc, ◌+◌, ◌-◌, ◌<◌, ◌≤◌, List, [], ◌∷◌, ◌++◌, Some, slice_get, get_or, length, drop, pos, refl, sym, subst, ap, ◌∙◌, arith}
use Rattle.awk_value.specs.declared.value.Value.TheVariants as value
use Rattle.awk_value.specs.Values.{truth_of}
use Rattle.awk_semantics.specs.definitions.State.{◌>>=◌}
use Rattle.awk_semantics.specs.definitions.Primitives.{spend}
use Rattle.awk_semantics.specs.definitions.Semantics.{Functions, choose}
use Rattle.awk_storage.specs.support.Positions.{put_variable}
use Rattle.awk_storage.specs.support.Forms.{keys_of_array}
use Rattle.awk_resolve.specs.declared.node.ValueNode.TheVariants as v
use Rattle.awk_resolve.specs.declared.node.Node.{Node}
use Rattle.awk_resolve.specs.declared.node.Node.TheVariants as n
use Rattle.awk_resolve.specs.support.Nodes.{operated_with, operated_on, append_to, append_by_step, print_by_step, asked, asked_operands, update, increment, Tables, Cont, nothing, first, second, taken, value_of, popped, effect_of, dropped, walk_values, keys_left, next_key_by, made as made_with, conts as conts_with, level, cont_at as cont_with, AreBelow, IsOrdered}

abbrev at_place : List Cont → ℕ → Cont
at_place done i = get_or done i nothing

front_kept : (xs : List Cont) (y : Cont) (i : ℕ) → i < length xs → at_place (xs ++ y ∷ []) i ≡ at_place xs i
front_kept [] y i h = absurd (omega (arith, h))
front_kept (x ∷ xs) y zero h = refl
front_kept (x ∷ xs) y (suc i) h = front_kept xs y i (omega (arith, h))

last_at : (xs : List Cont) (y : Cont) → at_place (xs ++ y ∷ []) (length xs) ≡ y
last_at [] y = refl
last_at (x ∷ xs) y = last_at xs y

longer : (xs : List Cont) (y : Cont) → length (xs ++ y ∷ []) ≡ suc (length xs)
longer [] y = refl
longer (x ∷ xs) y = ap suc (longer xs y)

past_end : (xs : List Cont) (i : ℕ) → length xs ≤ i → at_place xs i ≡ nothing
past_end [] i h = refl
past_end (x ∷ xs) zero h = absurd (omega (arith, h))
past_end (x ∷ xs) (suc i) h = past_end xs i (omega (arith, h))

module _ (tables : Tables) (functions : Functions) (again : ℕ → Cont) where
  abbrev made : (ℕ → Cont) → Node → Cont
  made = made_with tables functions again

  abbrev conts : List Cont → List Node → List Cont
  conts = conts_with tables functions again

  made_alike : (f g : ℕ → Cont) (k : ℕ) → ((i : ℕ) → i < k → f i ≡ g i) → (node : Node) → AreBelow k node → made f node ≡ made g node
  made_alike f g k same (n.Value x i) h = λ j vs. value_of tables functions x vs >>= λ w. same i h j (w ∷ drop (popped x) vs)
  made_alike f g k same (n.Effect x i) h = λ j vs. effect_of tables functions x vs >>= λ _. same i h j (drop (dropped x) vs)
  made_alike f g k same (n.Spend i) h = λ j vs. spend >>= λ _. same i h j vs
  made_alike f g k same (n.Test x here other) h = λ j vs. asked tables x vs >>= λ holds. choose holds (same here h.0 j (drop (asked_operands x) vs)) (same other h.1 j (drop (asked_operands x) vs))
  made_alike f g k same (n.CompareWith o b here other) h = λ j vs. operated_with tables.names o (first vs) b >>= λ x. choose (truth_of x) (same here h.0 j (drop 1 vs)) (same other h.1 j (drop 1 vs))
  made_alike f g k same (n.Compare o a b here other) h = λ j vs. operated_on tables.names o a b >>= λ x. choose (truth_of x) (same here h.0 j vs) (same other h.1 j vs)
  made_alike f g k same (n.Match a i here other) h = λ j vs. value_of tables functions (v.Matches a i) vs >>= λ x. choose (truth_of x) (same here h.0 j vs) (same other h.1 j vs)
  made_alike f g k same (n.Assign o p i) h = λ j vs. value_of tables functions (v.Assign o p) vs >>= λ _. same i h j (drop (popped (v.Assign o p)) vs)
  made_alike f g k same (n.Raise o p i) h = λ j vs. value_of tables functions (v.PostIncrement o p) vs >>= λ _. same i h j (drop (popped (v.PostIncrement o p)) vs)
  made_alike f g k same (n.Update o t a i) h = λ j vs. update tables.names o t a >>= λ _. same i h j vs
  made_alike f g k same (n.Increment o t i) h = λ j vs. increment tables.names o t >>= λ _. same i h j vs
  made_alike f g k same (n.AppendTo x count i) h = λ j vs. append_to tables.names x (taken count vs) >>= λ _. same i h j (drop count vs)
  made_alike f g k same (n.AppendOperands t list i) h = λ j vs. append_by_step tables.names t list.items >>= λ _. same i h j vs
  made_alike f g k same (n.Print list i) h = λ j vs. print_by_step tables.names list.items >>= λ _. same i h j vs
  made_alike f g k same (n.Again i) h = refl
  made_alike f g k same (n.Walk a i) h = λ j vs. keys_of_array a >>= λ keys. same i h j (walk_values keys ++ vs)
  made_alike f g k same (n.NextKey i exit) h = λ j vs. next_key_by (keys_left (first vs)) (again i vs) (same exit h j (drop 1 vs))
  made_alike f g k same (n.TakeKey x i) h = λ j vs. put_variable tables.names x (second vs) >>= λ _. same i h j (value.Number (pos (keys_left (first vs) - 1)) ∷ drop 2 vs)
  made_alike f g k same (n.LeaveWalk i) h = λ j vs. same i h j (drop (suc (keys_left (first vs))) vs)
  made_alike f g k same n.Return h = refl
  made_alike f g k same (n.Stop ending) h = refl
  made_alike f g k same n.End h = refl

  kept : (done : List Cont) (nodes : List Node) (i : ℕ) → i < length done → at_place (conts done nodes) i ≡ at_place done i
  kept done [] i h = refl
  kept done (x ∷ xs) i h =
      let y = made (at_place done) x in
      let l = longer done y in
      kept (done ++ y ∷ []) xs i (omega (arith, h, l)) ∙ front_kept done y i h

  length-conts : (done : List Cont) (nodes : List Node) → length (conts done nodes) ≡ length done + length nodes
  length-conts done [] = omega arith
  length-conts done (x ∷ xs) =
      let y = made (at_place done) x in
      omega (arith, length-conts (done ++ y ∷ []) xs, longer done y)

  made_at : (done : List Cont) (front : List Node) (x : Node) (more : List Node) → AreBelow (length done + length front) x → at_place (conts done (front ++ x ∷ more)) (length done + length front) ≡ made (at_place (conts done (front ++ x ∷ more))) x
  made_at done [] x more b =
      let y : Cont = made (at_place done) x in
      let l : length (done ++ y ∷ []) ≡ suc (length done) = longer done y in
      let z : length done + 0 ≡ length done = omega arith in
      let b' : AreBelow (length done) x = subst (λ k. AreBelow k x) z b in
      subst (λ k. at_place (conts (done ++ y ∷ []) more) k ≡ made (at_place (conts (done ++ y ∷ []) more)) x) (sym z)
      (kept (done ++ y ∷ []) more (length done) (omega (arith, l)) ∙ last_at done y
      ∙ made_alike (at_place done) (at_place (conts (done ++ y ∷ []) more)) (length done) (λ i h. sym (kept (done ++ y ∷ []) more i (omega (arith, h, l)) ∙ front_kept done y i h)) x b')
  made_at done (m ∷ front) x more b =
      let y : Cont = made (at_place done) m in
      let l : length (done ++ y ∷ []) ≡ suc (length done) = longer done y in
      let z : length (done ++ y ∷ []) + length front ≡ length done + suc (length front) = omega (arith, l) in
      subst (λ k. at_place (conts (done ++ y ∷ []) (front ++ x ∷ more)) k ≡ made (at_place (conts (done ++ y ∷ []) (front ++ x ∷ more))) x) z
      (made_at (done ++ y ∷ []) front x more (subst (λ k. AreBelow k x) (sym z) b))

  node_behind : (nodes front : List Node) (x : Node) (more : List Node) → nodes ≡ front ++ x ∷ more → AreBelow (length front) x → at_place (conts [] nodes) (length front) ≡ made (at_place (conts [] nodes)) x
  node_behind nodes front x more is b =
      let z : 0 + length front ≡ length front = omega arith in
      subst (λ ns. at_place (conts [] ns) (length front) ≡ made (at_place (conts [] ns)) x) (sym is)
      (subst (λ k. at_place (conts [] (front ++ x ∷ more)) k ≡ made (at_place (conts [] (front ++ x ∷ more))) x) z
      (made_at [] front x more (subst (λ k. AreBelow k x) (sym z) b)))

module _ (tables : Tables) (functions : Functions) (heads : List ℕ) (nodes : List Node) (n : ℕ) where
  abbrev at : ℕ → Cont
  at = cont_with tables functions heads nodes n

  pub placed_behind : (front : List Node) (x : Node) (more : List Node) → nodes ≡ front ++ x ∷ more → AreBelow (length front) x → at (length front) ≡ made_with tables functions (level tables functions heads nodes n) at x
  placed_behind front x more is b = node_behind tables functions (level tables functions heads nodes n) nodes front x more is b

  pub node_at : (place : ℕ) (x : Node) → IsOrdered nodes → slice_get nodes place ≡ Some x → at place ≡ made_with tables functions (level tables functions heads nodes n) at x
  node_at place x ordered is =
      let s = split_at nodes place x is in
      subst (λ k. at k ≡ made_with tables functions (level tables functions heads nodes n) at x) s.3 (placed_behind s.0 x s.1 s.2 (subst (λ k. AreBelow k x) (sym s.3) (ordered place x is)))
    where
      split_at : (xs : List Node) (i : ℕ) (y : Node) → slice_get xs i ≡ Some y → (front : List Node) × (more : List Node) × (xs ≡ front ++ y ∷ more) × (length front ≡ i)
      split_at [] i y h = cc
      split_at (z ∷ zs) zero y h = ([], zs, (let e : z ≡ y = cc in ap (λ w. w ∷ zs) e), refl)
      split_at (z ∷ zs) (suc i) y h = let s = split_at zs i y h in (z ∷ s.0, s.1, ap (λ l. z ∷ l) s.2, ap suc s.3)

  pub no_node_at : (place : ℕ) → length nodes ≤ place → at place ≡ nothing
  no_node_at place h = past_end (conts_with tables functions (level tables functions heads nodes n) [] nodes) place (omega (arith, h, length-conts tables functions (level tables functions heads nodes n) [] nodes))
