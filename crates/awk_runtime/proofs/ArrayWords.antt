-- What is done to arrays.
use Rattle.std.proofs.Common.{◌≡◌, ℕ, zero, suc, List, [], ◌∷◌, ◌++◌, length, map, slice_get, pos, Some, Ok, refl, sym, ap, ◌∙◌, subst, arith}
use Rattle.std.specs.Prelude.{if◌then◌else◌, slice_set, is_some, unwrap_or, Bool}
use Rattle.std.proofs.lemmas.List.{set-get_or}
use Rattle.std.proofs.lemmas.Option.{unwrap_or-slice_get}
use Rattle.std.specs.Map.{keys_of}
use Rattle.awk_value.specs.declared.value.Value.{Value}
use Rattle.awk_value.specs.declared.value.Value.TheVariants as value
use Rattle.awk_value.specs.Arrays.{Array as Elements, value_at, with_pair, with_key, without}
use Rattle.awk_semantics.specs.declared.local.Local.{Local}
use Rattle.awk_semantics.specs.declared.local.Local.TheVariants as local
use Rattle.awk_semantics.specs.State.{Frame, State, Run, ◌>>=◌, go_on, lift}
use Rattle.awk_semantics.specs.Primitives.{elements_from, read_element_at, store_element_at, has_element_at, delete_element_at, clear_array_at, array_length_at, keys_at, fill_array_at}
use Rattle.awk_storage.specs.declared.position.Array.{Array}
use Rattle.awk_storage.specs.declared.position.Array.TheVariants as array
use Rattle.awk_storage.specs.Positions.{newest_locals, number_of_local, number_at, read_element_of, store_element_of}
use Rattle.awk_storage.specs.Forms.{contains_at, delete_at, clear_at, count_elements_at, keys_of_array, fill_at}
use Rattle.awk_storage.specs.support.Frames.{FramesView, newest_of}
use Rattle.awk_storage.specs.support.Tables.{array_of}
use Rattle.awk_runtime.specs.declared.runtime.Runtime.{Runtime}
use Rattle.awk_runtime.specs.support.Simulation.{frame_view, OwnRelation, Changes}
use Rattle.awk_runtime.specs.support.Calling.{number_of_kept, kept_number}
use Rattle.awk_runtime.proofs.Composition.{own_changes}

-- the number of an array

kept_at : (locals : List (List ℕ × Local)) (i : ℕ) → number_of_kept (slice_get (map (λ (l : List ℕ × Local). l.1) locals) i) ≡ number_of_local (slice_get locals i)
kept_at [] i = refl
kept_at ((x, local.Value v) ∷ locals) zero = refl
kept_at ((x, local.Array n) ∷ locals) zero = refl
kept_at (l ∷ locals) (suc i) = kept_at locals i

kept_newest : (frames : List Frame) (i : ℕ) → number_of_kept (slice_get (newest_of (map frame_view frames)) i) ≡ number_of_local (slice_get (newest_locals frames) i)
kept_newest [] i = refl
kept_newest (frame ∷ frames) i = kept_at frame.locals i

-- it is the one of the definitions, whatever is given to a call that is about to be made
pub number-is : (a : Array) (calls : FramesView) (s : State) → calls.frames ≡ map frame_view s.frames → kept_number a calls ≡ number_at a s
number-is (array.Global n) calls s same = refl
number-is (array.Local i) calls s same = ap (λ fs. number_of_kept (slice_get (newest_of fs) i)) same ∙ kept_newest s.frames i

pub number_holds : (a : Array) {m : Runtime} {s : State} → OwnRelation m s → kept_number a m.frames ≡ number_at a s
number_holds a {m = m} {s = s} h = number-is a m.frames s h.frames

-- the arrays alone are others

pub arrays_hold : {m : Runtime} {s : State} (xs : List Elements) → OwnRelation m s → OwnRelation (record m { arrays = xs }) (record s { arrays = xs })
arrays_hold xs h = record {
  current = h.current;
  specials = h.specials;
  globals = h.globals;
  slots = h.slots;
  array_names = h.array_names;
  function_names = h.function_names;
  arrays = refl;
  frames = h.frames;
  staged = h.staged;
  next = h.next;
  input_seen = h.input_seen;
  inside = h.inside;
  status = h.status;
  steps = h.steps;
}

-- what a word gives, and what it makes of the arrays, by the number of one
array_changes : {A : Type 0} (m : Runtime) (run : Run A) (a : Array) (give : List Elements → ℕ → A) (change : List Elements → ℕ → List Elements) (n : ℕ) {r : A} {xs : List Elements}
    → ((s : State) → run s ≡ record { result = Ok (give s.arrays (number_at a s)); state = record s { arrays = change s.arrays (number_at a s) }; effects = [] })
    → n ≡ kept_number a m.frames → r ≡ give m.arrays n → xs ≡ change m.arrays n → Changes run m (record m { arrays = xs }) (Ok r)
array_changes m run a give change n {r = r} {xs = xs} is number given made = own_changes run refl refl refl (omega arith) (λ s h.
    let n_is : number_at a s ≡ n = sym (number_holds a h) ∙ sym number in
    record {
      result = Ok (give s.arrays (number_at a s));
      state = record s { arrays = change s.arrays (number_at a s) };
      is = is s;
      part = record { outside = refl; openings = refl; output_openings = refl; closings = refl; runs = refl; outputs = refl; main = refl; streams = refl };
      matches = ap (λ l. Ok (give l (number_at a s))) h.arrays ∙ (ap (λ k. Ok (give m.arrays k)) n_is ∙ ap (λ x. Ok x) (sym given));
      holds = subst (λ (l : List Elements). OwnRelation (record m { arrays = xs }) (record s { arrays = l }))
          (made ∙ (ap (λ k. change m.arrays k) (sym n_is) ∙ ap (λ l. change l (number_at a s)) (sym h.arrays))) (arrays_hold xs h);
    })

-- an array that is put where it stands
pub set_itself : (arrays : List Elements) (n : ℕ) → slice_set arrays n (array_of arrays n) ≡ arrays
set_itself arrays n = ap (slice_set arrays n) (unwrap_or-slice_get arrays n []) ∙ set-get_or arrays n []

-- an array with a key that is there
pub key_there : (array : Elements) (key : List ℕ) {v : Value} → Some v ≡ value_at array key → with_key array key ≡ array
key_there array key at = ap (λ o. if is_some o then array else array ++ (key, value.Nothing) ∷ []) (sym at)

module _ (m : Runtime) (a : Array) (key : List ℕ) (n : ℕ) (number : n ≡ kept_number a m.frames) where
  pub element_read : {v : Value} {xs : List Elements} → v ≡ unwrap_or (value_at (array_of m.arrays n) key) value.Nothing → xs ≡ slice_set m.arrays n (with_key (array_of m.arrays n) key) → Changes (read_element_of a key) m (record m { arrays = xs }) (Ok v)
  unfolding read_element_of read_element_at
  element_read given made = array_changes m (read_element_of a key) a (λ l k. unwrap_or (value_at (array_of l k) key) value.Nothing) (λ l k. slice_set l k (with_key (array_of l k) key)) n (λ s. refl) number given made

  -- an element that is there
  pub element_there : {v : Value} → Some v ≡ value_at (array_of m.arrays n) key → Changes (read_element_of a key) m m (Ok v)
  element_there at = element_read {xs = m.arrays} (ap (λ o. unwrap_or o value.Nothing) at) (sym (ap (slice_set m.arrays n) (key_there (array_of m.arrays n) key at) ∙ set_itself m.arrays n))

  pub element_stored : (v : Value) {xs : List Elements} → xs ≡ slice_set m.arrays n (with_pair (array_of m.arrays n) key v) → Changes (store_element_of a key v) m (record m { arrays = xs }) (Ok tt)
  unfolding store_element_of store_element_at
  element_stored v made = array_changes m (store_element_of a key v) a (λ l k. tt) (λ l k. slice_set l k (with_pair (array_of l k) key v)) n (λ s. refl) number refl made

  pub element_deleted : {xs : List Elements} → xs ≡ slice_set m.arrays n (without (array_of m.arrays n) key) → Changes (delete_at a key) m (record m { arrays = xs }) (Ok tt)
  unfolding delete_at delete_element_at
  element_deleted made = array_changes m (delete_at a key) a (λ l k. tt) (λ l k. slice_set l k (without (array_of l k) key)) n (λ s. refl) number refl made

  pub element_found : {b : Bool} → b ≡ is_some (value_at (array_of m.arrays n) key) → Changes (contains_at a key) m m (Ok b)
  unfolding contains_at has_element_at
  element_found given = array_changes m (contains_at a key) a (λ l k. is_some (value_at (array_of l k) key)) (λ l k. l) n (λ s. refl) number given refl

pub array_cleared : (m : Runtime) (a : Array) (n : ℕ) → n ≡ kept_number a m.frames → {xs : List Elements} → xs ≡ slice_set m.arrays n [] → Changes (clear_at a) m (record m { arrays = xs }) (Ok tt)
unfolding clear_at clear_array_at
array_cleared m a n number made = array_changes m (clear_at a) a (λ l k. tt) (λ l k. slice_set l k []) n (λ s. refl) number refl made

pub elements_counted : (m : Runtime) (a : Array) (n : ℕ) → n ≡ kept_number a m.frames → {v : Value} → v ≡ value.Number (pos (length (array_of m.arrays n))) → Changes (count_elements_at a) m m (Ok v)
unfolding count_elements_at array_length_at ◌>>=◌ go_on lift
elements_counted m a n number given = array_changes m (count_elements_at a) a (λ l k. value.Number (pos (length (array_of l k)))) (λ l k. l) n (λ s. refl) number given refl

pub keys_listed : (m : Runtime) (a : Array) (n : ℕ) → n ≡ kept_number a m.frames → {keys : List (List ℕ)} → keys ≡ keys_of (array_of m.arrays n) → Changes (keys_of_array a) m m (Ok keys)
unfolding keys_of_array keys_at
keys_listed m a n number given = array_changes m (keys_of_array a) a (λ l k. keys_of (array_of l k)) (λ l k. l) n (λ s. refl) number given refl

pub array_filled : (m : Runtime) (a : Array) (n : ℕ) → n ≡ kept_number a m.frames → (texts : List (List ℕ)) {xs : List Elements} → xs ≡ slice_set m.arrays n (elements_from 1 texts) → Changes (fill_at a texts) m (record m { arrays = xs }) (Ok tt)
unfolding fill_at fill_array_at
array_filled m a n number texts made = array_changes m (fill_at a texts) a (λ l k. tt) (λ l k. slice_set l k (elements_from 1 texts)) n (λ s. refl) number refl made
