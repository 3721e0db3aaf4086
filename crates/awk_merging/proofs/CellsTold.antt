-- What the statements that print sums come to, whatever the keys and the steps: they print the cells, or the run ends with status
-- 1, or for want of steps.
use Rattle.std.proofs.Common.{◌≡◌, ◌⊎◌, inl, inr, ℕ, zero, suc, ℤ, pos, false, List, [], ◌∷◌, Option, Some, None, Err, refl, sym, ap, ◌∙◌, subst, bytes_eq}
use Rattle.std.specs.Map.{keys_of}
use Rattle.awk_value.specs.declared.value.Value.{Value}
use Rattle.awk_value.specs.declared.value.Value.TheVariants as value
use Rattle.std.specs.Fmt.{signed_decimal}
use Rattle.std.proofs.lemmas.Bool.{cond-true}
use Rattle.awk_value.specs.Arrays.{Array, value_at}
use Rattle.awk_record.specs.definitions.Cut.{first_at}
use Rattle.awk_lex.specs.declared.token.BuiltIn.TheVariants as builtin
use Rattle.awk_grammar.specs.Tree.{String, Name, BuiltIn, Nil, Cons}
use Rattle.awk_semantics.specs.declared.flow.Flow.{Flow}
use Rattle.awk_semantics.specs.declared.halt.Halt.TheVariants as halt
use Rattle.awk_semantics.specs.definitions.State.{State, Out, go_on, ◌>>=◌, lift, gives}
use Rattle.awk_semantics.specs.definitions.Primitives.{spend, read_name, keys_in, keys_at}
use Rattle.awk_semantics.specs.definitions.BuiltIns.{apply_built_in}
use Rattle.awk_semantics.specs.definitions.Semantics.{Functions, eval, take_arguments, tested, begin_test, exec, exec_all, exec_simple, print, turn, walk}
use Rattle.awk_merging.specs.definitions.Gathering.{Table}
use Rattle.awk_merging.specs.definitions.Sums.{Sum, ByKey, Alone, name_of_sum, merge_key, print_sum, print_sums, number_or_none, numbers, alone, is_taken, Holds}
use Rattle.awk_merging.specs.definitions.LawOfCells.{IsLine, IsOfLines, state_at, Held, sums_of, AreHeld, cells, all_cells, steps_of_cells, steps_of_sum, steps_of_sums, Shows}
use Rattle.awk_merging.specs.definitions.LawOfRules.{IsSound}
use Rattle.awk_merging.proofs.Gathering.{own_key}
use Rattle.awk_merging.proofs.Cells.{AreIn, in_behind, keys, keys_are, now, array, body, put_is, one_cell, passes, has_digits, some_holds, holds_still, sum_shows, sums_show, some_place, law_of_newlines}

-- the run ends with status 1, or for want of steps
abbrev pub Fails : {A : Type 0} → Out A → Type 0
Fails out = (out.result ≡ Err halt.OutOfSteps) ⊎ ((out.result ≡ Err halt.Exit) × (out.state.status ≡ 1))

abbrev pub AreLines : Table ℤ → Type 0
AreLines [] = Unit {0}
AreLines (x ∷ xs) = IsLine x.0 × AreLines xs

pub of_lines : (table : Table ℤ) → IsSound table → AreLines table → IsOfLines table
of_lines [] sound lines = tt
of_lines (x ∷ xs) sound lines = (lines.0, sound.0, sound.1, of_lines xs sound.2 lines.1)

-- what is in a table is in its array
sound_in : (table : Table ℤ) → IsSound table → AreIn (numbers table) table
sound_in [] sound = tt
sound_in (x ∷ xs) sound = (cond-true _ _ _ (own_key x.0), in_behind x xs xs sound.1 (sound_in xs sound.2))

-- steps are enough for cells, and their keys are lines
abbrev Suffices : (Table ℤ) → ℕ → Type 0
Suffices table steps = (k : ℕ) × (steps ≡ steps_of_cells table k) × AreLines table

module _ (functions : Functions) (base : State) where
  abbrev at : (List ℕ → Value) → ℕ → State
  at = state_at base

  module _ (a : List ℕ) where
    abbrev walks : (List ℕ → Value) → Table ℤ → ℕ → Out Flow
    walks v xs steps = walk merge_key (keys xs) (exec functions (body functions base a)) (at v steps)

    no_steps : (v : List ℕ → Value) (x : List ℕ × ℤ) (xs : Table ℤ) → Fails (walks v (x ∷ xs) 0)
    unfolding walk turn spend ◌>>=◌ go_on
    no_steps v x xs = inl refl

    one_step : (v : List ℕ → Value) (x : List ℕ × ℤ) (xs : Table ℤ) → Fails (walks v (x ∷ xs) 1)
    unfolding walk turn spend exec exec_all begin_test ◌>>=◌ go_on
    one_step v x xs = rw (put_is functions base v 0 x.0) (inl refl)

    -- a line is passed, and nothing is left to print its cell
    line_stops : (v : List ℕ → Value) (x : List ℕ × ℤ) (xs : Table ℤ) → IsLine x.0 → Fails (walks v (x ∷ xs) 2)
    unfolding walk turn exec exec_all exec_simple print spend begin_test ◌>>=◌ go_on lift
    line_stops v x xs line = rw (put_is functions base v 1 x.0, passes functions base v 0 x.0 line) (inl refl)

    -- a newline is found
    found_is : (v : List ℕ → Value) (k i : ℕ) (key : List ℕ) → first_at (10 ∷ []) key ≡ Some i → eval functions (BuiltIn builtin.Index (Cons (Name merge_key) (Cons (String (10 ∷ [])) Nil))) (at (now functions base v key) k) ≡ gives (value.Number (pos (suc i))) (at (now functions base v key) k)
    unfolding eval take_arguments apply_built_in read_name lift ◌>>=◌ go_on
    found_is v k i key found = rw found refl

    newline_stops : (v : List ℕ → Value) (x : List ℕ × ℤ) (xs : Table ℤ) (i : ℕ) → first_at (10 ∷ []) x.0 ≡ Some i → Fails (walks v (x ∷ xs) 2)
    unfolding walk turn exec exec_all exec_simple spend begin_test tested ◌>>=◌ go_on lift
    newline_stops v x xs i found = rw (put_is functions base v 1 x.0, found_is v 0 i x.0 found, some_place i) (inl refl)

    newline_exits : (v : List ℕ → Value) (x : List ℕ × ℤ) (xs : Table ℤ) (k i : ℕ) → first_at (10 ∷ []) x.0 ≡ Some i → Fails (walks v (x ∷ xs) (suc (suc (suc k))))
    unfolding walk turn exec exec_all spend ◌>>=◌ go_on
    newline_exits v x xs k i found = rw (put_is functions base v (suc (suc k)) x.0, law_of_newlines functions base v k i x.0 found) (inr (refl, refl))

    line_goes : (v : List ℕ → Value) (x : List ℕ × ℤ) (xs : Table ℤ) (k : ℕ) → IsLine x.0 → value_at (array functions base a) x.0 ≡ Some (value.Number x.1) → Fails (walks (now functions base v x.0) xs k) → Fails (walks v (x ∷ xs) (suc (suc (suc k))))
    unfolding walk ◌>>=◌ go_on
    line_goes v x xs k line is fails = rw (one_cell functions base a v k x.0 x.1 line is) fails

    by_newline : (o : Option ℕ) (v : List ℕ → Value) (x : List ℕ × ℤ) (xs : Table ℤ) (k : ℕ) → first_at (10 ∷ []) x.0 ≡ o → value_at (array functions base a) x.0 ≡ Some (value.Number x.1) →
        (Suffices xs k ⊎ Fails (walks (now functions base v x.0) xs k)) → Suffices (x ∷ xs) (suc (suc (suc k))) ⊎ Fails (walks v (x ∷ xs) (suc (suc (suc k))))
    by_newline (Some i) v x xs k found is rest = inr (newline_exits v x xs k i found)
    by_newline None v x xs k line is (inl enough) = inl (enough.0, ap (λ (n : ℕ). suc (suc (suc n))) enough.1, (line, enough.2))
    by_newline None v x xs k line is (inr fails) = inr (line_goes v x xs k line is fails)

    two_steps : (o : Option ℕ) (v : List ℕ → Value) (x : List ℕ × ℤ) (xs : Table ℤ) → first_at (10 ∷ []) x.0 ≡ o → Fails (walks v (x ∷ xs) 2)
    two_steps (Some i) v x xs found = newline_stops v x xs i found
    two_steps None v x xs line = line_stops v x xs line

    walk_told : (xs : Table ℤ) → AreIn (array functions base a) xs → (v : List ℕ → Value) (steps : ℕ) → Suffices xs steps ⊎ Fails (walks v xs steps)
    walk_told [] are v steps = inl (steps, refl, tt)
    walk_told (x ∷ xs) are v zero = inr (no_steps v x xs)
    walk_told (x ∷ xs) are v (suc zero) = inr (one_step v x xs)
    walk_told (x ∷ xs) are v (suc (suc zero)) = inr (two_steps (first_at (10 ∷ []) x.0) v x xs refl)
    walk_told (x ∷ xs) are v (suc (suc (suc k))) = by_newline (first_at (10 ∷ []) x.0) v x xs k refl are.0 (walk_told xs are.1 (now functions base v x.0) k)

    walked : (table : Table ℤ) → array functions base a ≡ numbers table → (v : List ℕ → Value) (k : ℕ) → Fails (walks v table k) → Fails (exec functions (print_sum (ByKey a)) (at v (suc k)))
    unfolding exec spend keys_in keys_at ◌>>=◌ go_on lift
    walked table holds v k fails = let same : keys_of (array functions base a) ≡ keys table = ap keys_of holds ∙ keys_are table in rw same fails

    unwalked : (v : List ℕ → Value) → Fails (exec functions (print_sum (ByKey a)) (at v 0))
    unfolding exec spend ◌>>=◌ go_on
    unwalked v = inl refl

    by_key_told : (table : Table ℤ) → array functions base a ≡ numbers table → IsSound table → (v : List ℕ → Value) (steps : ℕ) → ((k : ℕ) × (steps ≡ steps_of_sum (ByKey a) table k) × AreLines table) ⊎ Fails (exec functions (print_sum (ByKey a)) (at v steps))
    by_key_told table holds sound v zero = inr (unwalked v)
    by_key_told table holds sound v (suc steps) = elim (walk_told table (subst (λ (l : Array). AreIn l table) (sym holds) (sound_in table sound)) v steps) [
      | inl enough ↦ inl (enough.0, ap suc enough.1, enough.2)
      | inr fails ↦ inr (walked table holds v steps fails)
    ]

  module _ (x : List ℕ) (proper : is_taken x ≡ false) where
    untested : (v : List ℕ → Value) → Fails (exec functions (print_sum (Alone x)) (at v 0))
    unfolding exec begin_test spend ◌>>=◌ go_on
    untested v = inl refl

    unprinted : (v : List ℕ → Value) (n : ℤ) (c : ℕ) (cs : List ℕ) → signed_decimal n ≡ c ∷ cs → v x ≡ value.Number n → Fails (exec functions (print_sum (Alone x)) (at v 1))
    unfolding exec exec_simple print begin_test spend tested lift ◌>>=◌ go_on
    unprinted v n c cs shape is = rw (some_holds functions base x proper v 0 n c cs shape is) (inl refl)

    alone_told : (n : Option ℤ) (v : List ℕ → Value) (steps : ℕ) → v x ≡ number_or_none n → IsSound (alone n) → ((k : ℕ) × (steps ≡ steps_of_sum (Alone x) (alone n) k) × AreLines (alone n)) ⊎ Fails (exec functions (print_sum (Alone x)) (at v steps))
    alone_told n v zero is sound = inr (untested v)
    alone_told None v (suc k) is sound = inl (k, refl, tt)
    alone_told (Some n) v (suc zero) is sound = let shape = has_digits n sound.0 in inr (unprinted v n shape.0 shape.1 shape.2 is)
    alone_told (Some n) v (suc (suc k)) is sound = inl (k, refl, (refl, tt))

  sum_told : (x : Sum) (table : Table ℤ) (v : List ℕ → Value) (steps l : ℕ) → is_taken (name_of_sum x) ≡ false → Holds (at v l) x table → IsSound table → ((k : ℕ) × (steps ≡ steps_of_sum x table k) × AreLines table) ⊎ Fails (exec functions (print_sum x) (at v steps))
  sum_told (ByKey a) table v steps l proper holds sound = by_key_told a table holds.2 sound v steps
  sum_told (Alone x) table v steps l proper holds sound =
      subst (λ (t : Table ℤ). ((k : ℕ) × (steps ≡ steps_of_sum (Alone x) t k) × AreLines t) ⊎ Fails (exec functions (print_sum (Alone x)) (at v steps))) (sym holds.2)
      (alone_told x proper holds.0 v steps holds.1 (subst IsSound holds.2 sound))

  -- all of them

  abbrev pub AreSound : State → Held → Type 0
  AreSound s [] = Unit {0}
  AreSound s (x ∷ xs) = (is_taken (name_of_sum x.0) ≡ false) × Holds s x.0 x.1 × IsSound x.1 × AreSound s xs

  abbrev AllLines : Held → Type 0
  AllLines [] = Unit {0}
  AllLines (x ∷ xs) = AreLines x.1 × AllLines xs

  sound_still : (v w : List ℕ → Value) (k l : ℕ) → ((z : List ℕ) → bytes_eq merge_key z ≡ false → w z ≡ v z) → (held : Held) → AreSound (at v k) held → AreSound (at w l) held
  sound_still v w k l keeps [] are = tt
  sound_still v w k l keeps (x ∷ xs) are = (are.0, holds_still functions base v w k l keeps x.0 x.1 are.0 are.1, are.2, sound_still v w k l keeps xs are.3)

  first_fails : (x : Sum × Table ℤ) (xs : Held) (s : State) → Fails (exec functions (print_sum x.0) s) → Fails (exec_all functions (print_sums (sums_of (x ∷ xs))) s)
  unfolding exec_all ◌>>=◌ go_on
  first_fails x xs s (inl stopped) = rw stopped (inl refl)
  first_fails x xs s (inr exits) = rw exits.0 (inr (refl, exits.1))

  rest_fails : (x : Sum × Table ℤ) (xs : Held) (v : List ℕ → Value) (steps k : ℕ) (shown : Shows base v k (cells (name_of_sum x.0) x.1) (exec functions (print_sum x.0) (at v steps))) →
      Fails (exec_all functions (print_sums (sums_of xs)) (at shown.values k)) → Fails (exec_all functions (print_sums (sums_of (x ∷ xs))) (at v steps))
  unfolding exec_all ◌>>=◌ go_on
  rest_fails x xs v steps k shown fails = rw shown.is fails

  sums_told : (held : Held) (v : List ℕ → Value) (steps : ℕ) → AreSound (at v steps) held → ((k : ℕ) × (steps ≡ steps_of_sums held k) × AllLines held) ⊎ Fails (exec_all functions (print_sums (sums_of held)) (at v steps))
  sums_told [] v steps are = inl (steps, refl, tt)
  sums_told (x ∷ xs) v steps are = elim (sum_told x.0 x.1 v steps steps are.0 are.1 are.2) [
    | inr fails ↦ inr (first_fails x xs (at v steps) fails)
    | inl enough ↦
        let k : ℕ = enough.0 in
        let shown : Shows base v k (cells (name_of_sum x.0) x.1) (exec functions (print_sum x.0) (at v steps))
        = subst (λ (n : ℕ). Shows base v k (cells (name_of_sum x.0) x.1) (exec functions (print_sum x.0) (at v n))) (sym enough.1)
        (sum_shows functions base x.0 x.1 v k steps are.0 are.1 (of_lines x.1 are.2 enough.2)) in
        elim (sums_told xs shown.values k (sound_still v shown.values steps k shown.keeps xs are.3)) [
          | inr fails ↦ inr (rest_fails x xs v steps k shown fails)
          | inl more ↦ inl (more.0, enough.1 ∙ ap (λ (n : ℕ). steps_of_sum x.0 x.1 n) more.1, (enough.2, more.2))
        ]
  ]

  all_held : (held : Held) (v : List ℕ → Value) (k : ℕ) → AreSound (at v k) held → AllLines held → AreHeld (at v k) held
  all_held [] v k are lines = tt
  all_held (x ∷ xs) v k are lines = (are.0, are.1, of_lines x.1 are.2 lines.0, all_held xs v k are.3 lines.1)

  -- they print the cells, whose keys are lines, or fail
  pub record PrintsLines (v : List ℕ → Value) (held : Held) (steps : ℕ) : Type 0 where
    pub left : ℕ
    pub are : AreHeld (at v steps) held
    pub shows : Shows base v left (all_cells held) (exec_all functions (print_sums (sums_of held)) (at v steps))

  pub printed_or_failed : (held : Held) (v : List ℕ → Value) (steps : ℕ) → AreSound (at v steps) held → PrintsLines v held steps ⊎ Fails (exec_all functions (print_sums (sums_of held)) (at v steps))
  printed_or_failed held v steps are = elim (sums_told held v steps are) [
    | inr fails ↦ inr fails
    | inl enough ↦
        let held_all = all_held held v steps are enough.2 in
        inl (record {
          left = enough.0;
          are = held_all;
          shows = subst (λ (n : ℕ). Shows base v enough.0 (all_cells held) (exec_all functions (print_sums (sums_of held)) (at v n))) (sym enough.1) (sums_show functions base held v enough.0 steps held_all);
        })
  ]
