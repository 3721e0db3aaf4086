-- Levels that are not below the steps left agree: what a place does is told by the steps alone.
use Rattle.std.proofs.Common.{◌≡◌, ℕ, zero, suc, ◌-◌, ◌≤◌, Bool, true, false, List, [], ◌∷◌, ◌++◌, get_or, drop, pos, refl, arith}
use Rattle.awk_value.specs.declared.value.Value.{Value}
use Rattle.awk_value.specs.declared.value.Value.TheVariants as value
use Rattle.awk_value.specs.Values.{truth_of}
use Rattle.awk_semantics.specs.definitions.State.{State, Run, go_on, ◌>>=◌}
use Rattle.awk_semantics.specs.definitions.Primitives.{spend, spend_of}
use Rattle.awk_semantics.specs.definitions.Semantics.{Functions, choose}
use Rattle.awk_semantics.specs.support.Keeps.{scope_of, CallsKeep}
use Rattle.awk_semantics.proofs.KeepsForms.{keeps_spend}
use Rattle.awk_resolve.specs.declared.node.ValueNode.TheVariants as v
use Rattle.awk_resolve.specs.declared.node.Node.{Node}
use Rattle.awk_resolve.specs.declared.node.Node.TheVariants as node
use Rattle.awk_resolve.specs.support.Nodes.{Tables, Cont, nothing, first, second, taken, popped, dropped, asked_operands, walk_values, keys_left, next_key_by, made, conts, level, cont_at}
use Rattle.awk_resolve.proofs.Calculus.{later_falls}
use Rattle.awk_resolve.proofs.Falling.{Falls, value_falls, effect_falls, asked_falls, kept_falls, keys_falls, put_variable_falls, operated_with_falls, operated_on_falls, append_to_falls, append_by_step_falls, print_by_step_falls, update_falls, increment_falls}

abbrev Agree : ℕ → Cont → Cont → Type 0
Agree n f g = (vs : List Value) (s : State) → s.steps ≤ n → f vs s ≡ g vs s

chosen : (b : Bool) (x y u w : Run Value) (s : State) → x s ≡ u s → y s ≡ w s → choose b x y s ≡ choose b u w s
chosen true x y u w s p q = p
chosen false x y u w s p q = q

next_by : (k : ℕ) (x y u w : Run Value) (s : State) → x s ≡ u s → y s ≡ w s → next_key_by k x y s ≡ next_key_by k u w s
next_by zero x y u w s p q = q
next_by (suc k) x y u w s p q = p

-- what follows a part that falls is asked below the steps there are
later_low : {A B : Type 0} {m : Run A} (f g : A → Run B) (s : State) (n : ℕ) → Falls m → s.steps ≤ n → ((a : A) (u : State) → u.steps ≤ n → f a u ≡ g a u) → (m >>= f) s ≡ (m >>= g) s
later_low {m = m} f g s n d low e = later_falls m f g s (d.falls s) (λ a u h. e a u (omega (arith, low, h)))

-- behind a step that was spent
behind : {A : Type 0} (t : ℕ) (s : State) (f g : Unit {0} → Run A) → ((u : State) → suc u.steps ≡ t → scope_of u ≡ scope_of s → f tt u ≡ g tt u)
    → go_on (spend_of t s).result (spend_of t s).state (spend_of t s).effects f ≡ go_on (spend_of t s).result (spend_of t s).state (spend_of t s).effects g
unfolding go_on
behind zero s f g e = refl
behind (suc t) s f g e = e (record s { steps = t }) refl refl

pub spent_same : {A : Type 0} (f g : Unit {0} → Run A) (s : State) → ((t : State) → suc t.steps ≡ s.steps → scope_of t ≡ scope_of s → f tt t ≡ g tt t) → (spend >>= f) s ≡ (spend >>= g) s
unfolding ◌>>=◌ spend
spent_same f g s e = behind s.steps s f g e

module _ (tables : Tables) (functions : Functions) (calls : CallsKeep functions) where
  module _ (n : ℕ) (again again' : ℕ → Cont) (same : (i : ℕ) → Agree n (again i) (again' i)) where
    -- one line for each node
    made_agrees : (f g : ℕ → Cont) → ((i : ℕ) → Agree n (f i) (g i)) → (x : Node) → Agree n (made tables functions again f x) (made tables functions again' g x)
    made_agrees f g e (node.Value x k) vs s low = later_low _ _ s n (value_falls tables functions calls x vs) low (λ w t h. e k (w ∷ drop (popped x) vs) t h)
    made_agrees f g e (node.Effect x k) vs s low = later_low _ _ s n (effect_falls tables functions calls x vs) low (λ _ t h. e k (drop (dropped x) vs) t h)
    made_agrees f g e (node.Spend k) vs s low = later_low _ _ s n (kept_falls keeps_spend) low (λ _ t h. e k vs t h)
    made_agrees f g e (node.Test x here other) vs s low = later_low _ _ s n (asked_falls tables x vs) low (λ b t h. chosen b _ _ _ _ t (e here (drop (asked_operands x) vs) t h) (e other (drop (asked_operands x) vs) t h))
    made_agrees f g e (node.CompareWith o b here other) vs s low = later_low _ _ s n (operated_with_falls tables.names o (first vs) b) low (λ x t h. chosen (truth_of x) _ _ _ _ t (e here (drop 1 vs) t h) (e other (drop 1 vs) t h))
    made_agrees f g e (node.Compare o a b here other) vs s low = later_low _ _ s n (operated_on_falls tables.names o a b) low (λ x t h. chosen (truth_of x) _ _ _ _ t (e here vs t h) (e other vs t h))
    made_agrees f g e (node.Match a i here other) vs s low = later_low _ _ s n (value_falls tables functions calls (v.Matches a i) vs) low (λ x t h. chosen (truth_of x) _ _ _ _ t (e here vs t h) (e other vs t h))
    made_agrees f g e (node.Assign o p k) vs s low = later_low _ _ s n (value_falls tables functions calls (v.Assign o p) vs) low (λ _ t h. e k (drop (popped (v.Assign o p)) vs) t h)
    made_agrees f g e (node.Raise o p k) vs s low = later_low _ _ s n (value_falls tables functions calls (v.PostIncrement o p) vs) low (λ _ t h. e k (drop (popped (v.PostIncrement o p)) vs) t h)
    made_agrees f g e (node.Update o r a k) vs s low = later_low _ _ s n (update_falls tables.names o r a) low (λ _ t h. e k vs t h)
    made_agrees f g e (node.Increment o r k) vs s low = later_low _ _ s n (increment_falls tables.names o r) low (λ _ t h. e k vs t h)
    made_agrees f g e (node.AppendTo x count k) vs s low = later_low _ _ s n (append_to_falls tables.names x (taken count vs)) low (λ _ t h. e k (drop count vs) t h)
    made_agrees f g e (node.AppendOperands x list k) vs s low = later_low _ _ s n (append_by_step_falls tables.names x list.items) low (λ _ t h. e k vs t h)
    made_agrees f g e (node.Print list k) vs s low = later_low _ _ s n (print_by_step_falls tables.names list.items) low (λ _ t h. e k vs t h)
    made_agrees f g e (node.Again i) vs s low = same i vs s low
    made_agrees f g e (node.Walk a k) vs s low = later_low _ _ s n (keys_falls a) low (λ keys t h. e k (walk_values keys ++ vs) t h)
    made_agrees f g e (node.NextKey i exit) vs s low = next_by (keys_left (first vs)) _ _ _ _ s (same i vs s low) (e exit (drop 1 vs) s low)
    made_agrees f g e (node.TakeKey x k) vs s low = later_low _ _ s n (put_variable_falls tables.names x (second vs)) low (λ _ t h. e k (value.Number (pos (keys_left (first vs) - 1)) ∷ drop 2 vs) t h)
    made_agrees f g e (node.LeaveWalk k) vs s low = e k _ s low
    made_agrees f g e node.Return vs s low = refl
    made_agrees f g e (node.Stop ending) vs s low = refl
    made_agrees f g e node.End vs s low = refl

    -- lists that agree place by place
    abbrev EachAgrees : List Cont → List Cont → Type 0
    EachAgrees [] [] = Unit {0}
    EachAgrees [] (y ∷ ys) = ⊥
    EachAgrees (x ∷ xs) [] = ⊥
    EachAgrees (x ∷ xs) (y ∷ ys) = Agree n x y × EachAgrees xs ys

    at_each : (xs ys : List Cont) → EachAgrees xs ys → (i : ℕ) → Agree n (get_or xs i nothing) (get_or ys i nothing)
    at_each [] [] e i vs s low = refl
    at_each [] (y ∷ ys) e i vs s low = absurd e
    at_each (x ∷ xs) [] e i vs s low = absurd e
    at_each (x ∷ xs) (y ∷ ys) e zero vs s low = e.0 vs s low
    at_each (x ∷ xs) (y ∷ ys) e (suc i) vs s low = at_each xs ys e.1 i vs s low

    pushed : (xs ys : List Cont) (x y : Cont) → EachAgrees xs ys → Agree n x y → EachAgrees (xs ++ x ∷ []) (ys ++ y ∷ [])
    pushed [] [] x y e p = (p, tt)
    pushed [] (z ∷ ys) x y e p = absurd e
    pushed (z ∷ xs) [] x y e p = absurd e
    pushed (z ∷ xs) (w ∷ ys) x y e p = (e.0, pushed xs ys x y e.1 p)

    conts_agree : (xs ys : List Cont) (nodes : List Node) → EachAgrees xs ys → EachAgrees (conts tables functions again xs nodes) (conts tables functions again' ys nodes)
    conts_agree xs ys [] e = e
    conts_agree xs ys (x ∷ nodes) e = conts_agree (xs ++ made tables functions again (λ i. get_or xs i nothing) x ∷ []) (ys ++ made tables functions again' (λ i. get_or ys i nothing) x ∷ []) nodes
        (pushed xs ys _ _ e (made_agrees (λ i. get_or xs i nothing) (λ i. get_or ys i nothing) (at_each xs ys e) x))

  module _ (heads : List ℕ) (nodes : List Node) where
    abbrev levels : ℕ → ℕ → Cont
    levels = level tables functions heads nodes

    levels_agree : (n m i : ℕ) (vs : List Value) (s : State) → s.steps ≤ n → s.steps ≤ m → levels n i vs s ≡ levels m i vs s
    levels_agree zero zero i vs s low high = refl
    levels_agree zero (suc m) i vs s low high = spent_same _ _ s (λ t h _. absurd (omega (arith, h, low)))
    levels_agree (suc n) zero i vs s low high = spent_same _ _ s (λ t h _. absurd (omega (arith, h, high)))
    levels_agree (suc n) (suc m) i vs s low high = spent_same _ _ s (λ t h _.
        let same : (j : ℕ) → Agree t.steps (levels n j) (levels m j) = λ j ws u k. levels_agree n m j ws u (omega (arith, low, h, k)) (omega (arith, high, h, k)) in
        at_each t.steps (levels n) (levels m) same (conts tables functions (levels n) [] nodes) (conts tables functions (levels m) [] nodes)
        (conts_agree t.steps (levels n) (levels m) same [] [] nodes tt)
        (get_or heads i 0) vs t (omega arith))

    -- a place does the same at each level that is not below the steps left
    pub places_agree : (n m place : ℕ) (vs : List Value) (s : State) → s.steps ≤ n → s.steps ≤ m → cont_at tables functions heads nodes n place vs s ≡ cont_at tables functions heads nodes m place vs s
    places_agree n m place vs s low high =
        let same : (j : ℕ) → Agree s.steps (levels n j) (levels m j) = λ j ws t h. levels_agree n m j ws t (omega (arith, low, h)) (omega (arith, high, h)) in
        at_each s.steps (levels n) (levels m) same (conts tables functions (levels n) [] nodes) (conts tables functions (levels m) [] nodes)
        (conts_agree s.steps (levels n) (levels m) same [] [] nodes tt) place vs s (omega arith)
