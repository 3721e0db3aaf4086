-- What the functions over texts do to the state of a run.
use Rattle.std.proofs.Common.{◌≡◌, ◌+◌, ℕ, zero, suc, pos, Bool, false, not, true≢false, List, [], ◌++◌, append-nil, Option, Some, None, Result, Ok, Err, length, IfOk, IfErr, refl, sym, ap, ◌∙◌, subst, arith}
use Rattle.std.specs.Global.{Vec}
use Rattle.std.specs.Result.{is_err}
use Rattle.awk_value.specs.declared.value.Value.{Value}
use Rattle.awk_value.specs.declared.value.Value.TheVariants as value
use Rattle.awk_value.specs.Values.{str_of}
use Rattle.awk_ere.specs.Tree.{Tree}
use Rattle.awk_text.specs.declared.span.Span.{Span}
use Rattle.awk_text.specs.declared.fault.TextFault.{TextFault}
use Rattle.awk_text.specs.Separators.{Separator, separator_of, separator_made, separator_by}
use Rattle.awk_text.specs.Fields.{pieces_of}
use Rattle.awk_lex.specs.declared.token.Operator.TheVariants.{Matches, NotMatches}
use Rattle.awk_kinds.specs.declared.special.Special.TheVariants.{Fs, Rstart, Rlength}
use Rattle.awk_kinds.specs.Variables.{value_of, name_of}
use Rattle.awk_semantics.specs.declared.halt.Halt.{Halt}
use Rattle.awk_semantics.specs.declared.halt.Halt.TheVariants as halt
use Rattle.awk_semantics.specs.declared.fault.Fault.TheVariants.{OutOfMemory}
use Rattle.awk_semantics.specs.State.{Effect, State, Run, ◌>>=◌, go_on, lift, ret}
use Rattle.awk_semantics.specs.Results.{Sort, WantOfMemory, FailedWrite, OfLanguage, sort_of, YieldsBy, Yields, IsWantOfMemory}
use Rattle.awk_semantics.specs.Operators.{truth_value, of_match, applied, pattern_in}
use Rattle.awk_semantics.specs.Texts.{find_from, exchanged, of_separator, separator_in, start_of, length_of}
use Rattle.awk_semantics.specs.Primitives.{record_text, text_in, put_special, field_separator}
use Rattle.awk_semantics.specs.BuiltIns.{note_match, count_value}
use Rattle.awk_storage.specs.declared.position.Array.{Array}
use Rattle.awk_storage.specs.declared.position.Place.{Place}
use Rattle.awk_storage.specs.declared.position.Place.TheVariants as place
use Rattle.awk_storage.specs.Positions.{store_at}
use Rattle.awk_storage.specs.Forms.{match_in, split_at, split_with, fill_at, assign_exchange_at, substitute_at}
use Rattle.awk_functions.specs.declared.found.Exchanged.{Exchanged}
use Rattle.awk_functions.specs.declared.formats.Formats.{Formats}
use Rattle.awk_functions.specs.declared.patterns.Patterns.{Patterns}
use Rattle.awk_functions.specs.support.Matched.{matched, found, some_exchanged, exchanged_by, split_by}
use Rattle.awk_functions.specs.support.Written.{Writes}
use Rattle.awk_runtime.specs.declared.runtime.Runtime.{Runtime}
use Rattle.awk_runtime.specs.support.Simulation.{Changes, SameState}
use Rattle.awk_runtime.specs.support.Naming.{Naming}
use Rattle.awk_runtime.specs.support.Spelled.{record_tested, as_truth, exchange_read, pieces_by, with_pieces}
use Rattle.awk_runtime.proofs.Composition.{then_changes, ends_changes, lift_changes, memory_changes, callers_stay}
use Rattle.awk_runtime.proofs.Steps.{assoc_at, later_same, still, reads_changes, same_changes}

-- results

abbrev pub mapped : {A B : Type 0} → (A → B) → Result A Halt → Result B Halt
mapped f (Ok a) = Ok (f a)
mapped f (Err h) = Err h

mapped_by : {A B : Type 0} (f : A → B) (h : Sort) (r : Result A Halt) → YieldsBy h r → YieldsBy h (mapped f r)
mapped_by f WantOfMemory r e = tt
mapped_by f FailedWrite r e = absurd e
mapped_by f (OfLanguage reason) r e = ap (mapped f) e

pub mapped_yields : {A B : Type 0} (f : A → B) (c r : Result A Halt) → Yields c r → Yields (mapped f c) (mapped f r)
mapped_yields f (Ok a) r e = ap (mapped f) e
mapped_yields f (Err h) r e = mapped_by f (sort_of h) r e

-- what is had without a change of what the definitions know
pub lift_beside : {A : Type 0} {c : Result A Halt} {old new : Runtime} (r : Result A Halt) → SameState old new → Yields c r → Changes (lift r) old new c
unfolding lift
lift_beside r same e = reads_changes (lift r) (λ s. r) (λ s. refl) same (λ s h. e)

-- what is done behind a change that the definitions don't know
pub beside_then : {A : Type 0} (run : Run A) {old mid new : Runtime} {r : Result A Halt} → SameState old mid → Changes run mid new r → Changes run old new r
unfolding lift ◌>>=◌ go_on
beside_then run same q =
    let none : ℕ = 0 in
    let reads = lift_beside {A = ℕ} {c = Ok none} (Ok none) same refl in
    same_changes run (lift (Ok none) >>= λ _. run) (λ s h. refl) (then_changes (λ _. run) reads q)

-- want of memory where nothing changed that the definitions know
pub memory_beside : {A : Type 0} (run : Run A) {old new : Runtime} → SameState old new → Changes run old new (Err (halt.Fault OutOfMemory))
memory_beside run same = memory_changes run same.streams same.beside.names (callers_stay same.beside.frames) (omega (arith, same.beside.steps))

-- the room of the code, and what it keeps of patterns and formats, are nothing that the definitions know
pub room : (m : Runtime) (patterns : Patterns) (formats : Formats) (spans : Vec Span) → SameState m (record m { patterns = patterns; formats = formats; spans = spans })
room m patterns formats spans = record { beside = record { names = refl; current = refl; specials = refl; globals = refl; arrays = refl; frames = refl; next = refl; input_seen = refl; inside = refl; status = refl; steps = refl }; streams = refl }

-- the same where another term stands for the text that spells a pattern
pub lift_spelled : {A : Type 0} {c : Result A Halt} {old new : Runtime} (f : List ℕ → Result A Halt) {spelling pattern : List ℕ} → spelling ≡ pattern → SameState old new → Yields c (f spelling) → Changes (lift (f pattern)) old new c
lift_spelled {c = c} f {pattern = pattern} is same e = lift_beside (f pattern) same (subst (λ p. Yields c (f p)) is e)

-- a value, or want of memory
pub made_changes : {A : Type 0} {m : Runtime} (a : A) (c : Result A Halt) → IfOk c (λ x. x ≡ a) → IfErr c IsWantOfMemory → Changes (lift (Ok a)) m m c
made_changes {m = m} a (Ok x) is memory = lift_beside (Ok a) (still m) (ap Ok (sym is))
made_changes {m = m} a (Err h) is memory = rw memory (memory_beside (lift (Ok a)) (still m))

-- tests

tested : (f : Bool → Bool) (p : Result Tree Halt) (text : List ℕ) → of_match f text p ≡ mapped (λ b. truth_value (f b)) (matched p text)
tested f (Ok t) text = refl
tested f (Err h) text = refl

pub test_yields : (f : Bool → Bool) (p : Result Tree Halt) (text : List ℕ) (c : Result Bool Halt) → Yields c (matched p text) → Yields (mapped (λ b. truth_value (f b)) c) (of_match f text p)
test_yields f p text c e =
    subst (λ r. Yields (mapped (λ b. truth_value (f b)) c) r) (sym (tested f p text)) (mapped_yields (λ b. truth_value (f b)) c (matched p text) e)

pub text_read : {old new : Runtime} {text : List ℕ} → SameState old new → text ≡ old.current.text → Changes record_text old new (Ok (value.Input text))
unfolding record_text
text_read same e =
    reads_changes _ (λ s. Ok (value.Input s.current.text)) (λ s. refl) same (λ s h. ap (λ r. Ok (value.Input r.text)) h.current ∙ ap (λ t. Ok (value.Input t)) (sym e))

-- `~`, and with `not` `!~`
pub match_test : {old new : Runtime} (v : Value) {spelling ere : List ℕ} (c : Result Bool Halt) → spelling ≡ ere → SameState old new → Yields c (matched (pattern_in spelling) (str_of v)) → Changes (lift (applied Matches v (value.Text ere))) old new (mapped truth_value c)
match_test v c is same e = lift_spelled (λ p. applied Matches v (value.Text p)) is same (test_yields (λ b. b) _ (str_of v) c e)

-- whether it gives 1, and a fault
pub match_holds : {run : Run Value} {old new : Runtime} (c : Result Bool Halt) → Changes run old new (mapped truth_value c) → IfOk c (λ b. Changes run old new (Ok (truth_value b)))
match_holds (Ok b) h = h
match_holds (Err reason) h = tt

pub match_refused : {run : Run Value} {old new : Runtime} (c : Result Bool Halt) → Changes run old new (mapped truth_value c) → IfErr c (λ reason. Changes run old new (Err reason))
match_refused (Ok b) h = tt
match_refused (Err reason) h = h

pub mismatch_test : {old new : Runtime} (v : Value) {spelling ere : List ℕ} (c : Result Bool Halt) → spelling ≡ ere → SameState old new → Yields c (matched (pattern_in spelling) (str_of v)) → Changes (lift (applied NotMatches v (value.Text ere))) old new (mapped (λ b. truth_value (not b)) c)
mismatch_test v c is same e = lift_spelled (λ p. applied NotMatches v (value.Text p)) is same (test_yields not _ (str_of v) c e)

pub record_test : {old new : Runtime} {spelling ere text : List ℕ} (c : Result Bool Halt) → spelling ≡ ere → SameState old new → text ≡ old.current.text → Yields c (matched (pattern_in spelling) text) → Changes (record_tested ere) old new (mapped truth_value c)
record_test {old = old} {ere = ere} {text = text} c is same e yields =
    then_changes (λ x. lift (applied Matches x (value.Text ere))) (text_read (still old) e) (match_test (value.Input text) c is same yields)

pub record_tests : {old new : Runtime} {spelling ere text : List ℕ} (c : Result Bool Halt) → spelling ≡ ere → SameState old new → text ≡ old.current.text → Yields c (matched (pattern_in spelling) text) → Changes (record_tested ere) old new (as_truth c)
record_tests (Ok holds) is same e yields = record_test (Ok holds) is same e yields
record_tests (Err h) is same e yields = record_test (Err h) is same e yields

-- runs that are equal

bound_at : {A B C : Type 0} (r : Result A Halt) (g : A → B) (k : B → Run C) (s : State) → (lift r >>= λ a. k (g a)) s ≡ (lift (mapped g r) >>= k) s
unfolding lift ◌>>=◌ go_on
bound_at (Ok a) g k s = refl
bound_at (Err h) g k s = refl

lift_mapped : {A B : Type 0} (r : Result A Halt) (g : A → B) (s : State) → (lift r >>= λ a. ret (g a)) s ≡ lift (mapped g r) s
unfolding lift ◌>>=◌ go_on
lift_mapped (Ok a) g s = refl
lift_mapped (Err h) g s = refl

mapped_on : {A B C : Type 0} (r : Result A Halt) (t : State) (effects : List Effect) (g : A → B) (k : B → Run C)
    → go_on r t effects (λ a. k (g a)) ≡ go_on (go_on r t effects (λ a. ret (g a))).result (go_on r t effects (λ a. ret (g a))).state (go_on r t effects (λ a. ret (g a))).effects k
unfolding lift go_on
mapped_on (Ok a) t effects g k = ap (λ l. record { result = (k (g a) t).result; state = (k (g a) t).state; effects = l ++ (k (g a) t).effects }) (sym (append-nil effects))
mapped_on (Err h) t effects g k = refl

mapped_at : {A B C : Type 0} (m : Run A) (g : A → B) (k : B → Run C) (s : State) → (m >>= λ a. k (g a)) s ≡ ((m >>= λ a. ret (g a)) >>= k) s
unfolding ◌>>=◌
mapped_at m g k s = mapped_on (m s).result (m s).state (m s).effects g k

-- matches

found_mapped : (p : Result Tree Halt) (text : List ℕ) → found p text ≡ mapped (λ t. find_from t text 0) p
found_mapped (Ok t) text = refl
found_mapped (Err h) text = refl

match_at : (pattern text : List ℕ) (s : State) → match_in pattern text s ≡ (lift (found (pattern_in pattern) text) >>= note_match) s
match_at pattern text s =
    bound_at (pattern_in pattern) (λ t. find_from t text 0) note_match s ∙ ap (λ (r : Result (Option Span) Halt). (lift r >>= note_match) s) (sym (found_mapped (pattern_in pattern) text))

pub match_ends : (pattern text : List ℕ) {old new : Runtime} {h : Halt} → Changes (lift (found (pattern_in pattern) text)) old new (Err h) → Changes (match_in pattern text) old new (Err h)
match_ends pattern text p = same_changes _ _ (λ s h. match_at pattern text s) (ends_changes note_match p)

pub match_gives : (pattern text : List ℕ) {old mid new : Runtime} {m : Option Span} {r : Result Value Halt} → Changes (lift (found (pattern_in pattern) text)) old mid (Ok m) → Changes (note_match m) mid new r → Changes (match_in pattern text) old new r
match_gives pattern text p q = same_changes _ _ (λ s h. match_at pattern text s) (then_changes note_match p q)

-- a match is noted

pub note_ends : (m : Option Span) {old new : Runtime} {h : Halt} → Changes (put_special Rstart (value.Number (start_of m))) old new (Err h) → Changes (note_match m) old new (Err h)
unfolding note_match
note_ends m p = ends_changes _ p

pub note_ends_later : (m : Option Span) {old mid new : Runtime} {h : Halt} → Changes (put_special Rstart (value.Number (start_of m))) old mid (Ok tt) → Changes (put_special Rlength (value.Number (length_of m))) mid new (Err h) → Changes (note_match m) old new (Err h)
unfolding note_match
note_ends_later m p q = then_changes _ p (ends_changes _ q)

pub note_gives : (m : Option Span) {old mid new : Runtime} → Changes (put_special Rstart (value.Number (start_of m))) old mid (Ok tt) → Changes (put_special Rlength (value.Number (length_of m))) mid new (Ok tt) → Changes (note_match m) old new (Ok (value.Number (start_of m)))
unfolding note_match
note_gives m {new = new} p q = then_changes _ p (then_changes _ q (lift_changes _ new refl))

-- pieces

pub written_yields : {A : Type 0} (r : Result (Unit {0}) Halt) (pieces : A) (q : Result A Halt) → Writes r pieces q → Yields (with_pieces pieces r) q
written_yields (Ok u) pieces q e = e
written_yields (Err h) pieces q e = e

split_mapped : (q : Result Separator Halt) (text : List ℕ) → split_by q text ≡ mapped (λ separator. pieces_of separator false text) q
split_mapped (Ok separator) text = refl
split_mapped (Err h) text = refl

pub pieces_found : {old new : Runtime} {other : Result Separator Halt} (q : Result Separator Halt) (text : List ℕ) (pieces : List (List ℕ)) (r : Result (Unit {0}) Halt) → other ≡ q → SameState old new → Writes r pieces (split_by other text) → Changes (pieces_by (lift q) text) old new (with_pieces pieces r)
pieces_found q text pieces r is same e =
    let written : Writes r pieces (split_by q text) = subst (λ x. Writes r pieces (split_by x text)) is e in
    same_changes (pieces_by (lift q) text) (lift (split_by q text))
    (λ s h. lift_mapped q (λ separator. pieces_of separator false text) s ∙ ap (λ (x : Result (List (List ℕ)) Halt). lift x s) (sym (split_mapped q text)))
    (lift_beside (split_by q text) same (written_yields r pieces (split_by q text) written))

-- a text that is no fault is the separator that it makes
made_by : (q : Result Separator TextFault) → is_err q ≡ false → of_separator q ≡ Ok (separator_made q)
made_by (Ok s) e = refl
made_by (Err f) e = absurd (true≢false e)

abbrev pub field_pieces : (fs text : List ℕ) → List (List ℕ)
field_pieces fs text = pieces_of (separator_by (record { text = fs; newline_too = false })) false text

field_split : (fs text : List ℕ) → is_err (separator_of fs) ≡ false → split_by (separator_in fs) text ≡ Ok (field_pieces fs text)
field_split fs text e = ap (λ q. split_by q text) (made_by (separator_of fs) e)

fields_at : (text : List ℕ) (s : State) → pieces_by field_separator text s ≡ record { result = Ok (field_pieces (text_in s Fs) text); state = s; effects = [] }
unfolding field_separator lift ◌>>=◌ go_on
fields_at text s = refl

pub fields_found : {old new : Runtime} (fs text : List ℕ) (pieces : List (List ℕ)) (r : Result (Unit {0}) Halt) → SameState old new → fs ≡ str_of (value_of old.specials (name_of Fs)) → is_err (separator_of fs) ≡ false → Writes r pieces (split_by (separator_in fs) text)
    → Changes (pieces_by field_separator text) old new (with_pieces pieces r)
fields_found fs text pieces r same is accepted e =
    let yields : Yields (with_pieces pieces r) (Ok (field_pieces fs text)) =
    subst (λ q. Yields (with_pieces pieces r) q) (field_split fs text accepted) (written_yields r pieces (split_by (separator_in fs) text) e) in
    reads_changes (pieces_by field_separator text) (λ s. Ok (field_pieces (text_in s Fs) text)) (fields_at text) same
    (λ s h. subst (λ (x : List ℕ). Yields (with_pieces pieces r) (Ok (field_pieces x text))) (is ∙ ap str_of (sym (h.specials Fs))) yields)

split_found : (array : Array) (text : List ℕ) (m : Run Separator) (s : State) → split_with array text m s ≡ (pieces_by m text >>= split_at array) s
split_found array text m s = mapped_at m (λ separator. pieces_of separator false text) (split_at array) s

pub split_ends : (array : Array) (text : List ℕ) (m : Run Separator) {old new : Runtime} {h : Halt} → Changes (pieces_by m text) old new (Err h) → Changes (split_with array text m) old new (Err h)
split_ends array text m p = same_changes _ _ (λ s h. split_found array text m s) (ends_changes (split_at array) p)

pub split_ends_later : (array : Array) (text : List ℕ) (m : Run Separator) {old mid new : Runtime} {pieces : List (List ℕ)} {h : Halt} → Changes (pieces_by m text) old mid (Ok pieces) → Changes (fill_at array pieces) mid new (Err h) → Changes (split_with array text m) old new (Err h)
split_ends_later array text m p q = same_changes _ _ (λ s h. split_found array text m s) (then_changes (split_at array) p (ends_changes _ q))

pub split_gives : (array : Array) (text : List ℕ) (m : Run Separator) {old mid new : Runtime} {pieces : List (List ℕ)} → Changes (pieces_by m text) old mid (Ok pieces) → Changes (fill_at array pieces) mid new (Ok tt)
    → Changes (split_with array text m) old new (Ok (value.Number (pos (length pieces))))
split_gives array text m {new = new} p q = same_changes _ _ (λ s h. split_found array text m s) (then_changes (split_at array) p (then_changes _ q (lift_changes _ new refl)))

-- what is read, with matches exchanged

module _ {read : Run Value} (all : Bool) (replacement : List ℕ) where
  pub exchanged_there : {old mid new : Runtime} {v : Value} {c : Result (Option Exchanged) Halt} {spelling pattern : List ℕ} → Changes read old mid (Ok v) → spelling ≡ pattern → SameState mid new → Yields c (exchanged_by all (pattern_in spelling) replacement (str_of v)) → Changes (exchange_read read all pattern replacement) old new c
  exchanged_there {v = v} p is same e = then_changes _ p (lift_spelled (λ t. exchanged_by all (pattern_in t) replacement (str_of v)) is same e)

  pub exchanged_later : (pattern : Naming → List ℕ) (names : Naming) {old mid new : Runtime} {v : Value} {c : Result (Option Exchanged) Halt} → mid.names ≡ names → Changes read old mid (Ok v) → Changes (lift (exchanged_by all (pattern_in (pattern mid.names)) replacement (str_of v))) mid new c
      → Changes (exchange_read read all (pattern names) replacement) old new c
  exchanged_later pattern names {mid = mid} {new = new} {v = v} {c = c} same p q = then_changes _ p (subst (λ (n : Naming). Changes (lift (exchanged_by all (pattern_in (pattern n)) replacement (str_of v))) mid new c) same q)

  pub not_exchanged : (pattern : List ℕ) {old new : Runtime} {h : Halt} → Changes read old new (Err h) → Changes (exchange_read read all pattern replacement) old new (Err h)
  not_exchanged pattern p = ends_changes _ p

-- substitutions

module _ (names : List (List ℕ)) (at : Place) (operand : Value) where
  -- the text is assigned, if a match was exchanged
  abbrev pub assign_made : Option Exchanged → Run Value
  assign_made None = count_value 0
  assign_made (Some made) = store_at names at operand (value.Text made.text) >>= λ _. count_value made.count

  assigned_by : (count : ℕ) (text : List ℕ) → assign_exchange_at names at operand count text ≡ assign_made (some_exchanged count text)
  assigned_by zero text = refl
  assigned_by (suc n) text = refl

  module _ (all : Bool) (replacement : List ℕ) where
    exchanged_on : (old_value : Value) (p : Result Tree Halt) (s : State) → (lift p >>= λ t. assign_exchange_at names at operand (exchanged all t replacement (str_of old_value)).count (exchanged all t replacement (str_of old_value)).text) s ≡ (lift (exchanged_by all p replacement (str_of old_value)) >>= assign_made) s
    unfolding lift ◌>>=◌ go_on
    exchanged_on old_value (Ok t) s = ap (λ (run : Run Value). record { result = (run s).result; state = (run s).state; effects = [] ++ (run s).effects }) (assigned_by (exchanged all t replacement (str_of old_value)).count (exchanged all t replacement (str_of old_value)).text)
    exchanged_on old_value (Err h) s = refl

    -- in what was read, and in what is still to be read
    pub in_value : (old_value : Value) (pattern : List ℕ) (s : State) → substitute_at names all pattern replacement at operand old_value s ≡ (lift (exchanged_by all (pattern_in pattern) replacement (str_of old_value)) >>= assign_made) s
    in_value old_value pattern s = exchanged_on old_value (pattern_in pattern) s

    pub in_read : (read : Run Value) (pattern : List ℕ) (s : State) → (read >>= λ old. substitute_at names all pattern replacement at operand old) s ≡ (exchange_read read all pattern replacement >>= assign_made) s
    in_read read pattern s =
        later_same read _ _ s (λ old t. in_value old pattern t)
        ∙ sym (assoc_at read (λ old. lift (exchanged_by all (pattern_in pattern) replacement (str_of old))) assign_made s)

  module _ {run : Run (Option Exchanged)} {whole : Run Value} (is : (s : State) → whole s ≡ (run >>= assign_made) s) where
    pub substitute_ends : {old new : Runtime} {h : Halt} → Changes run old new (Err h) → Changes whole old new (Err h)
    substitute_ends p = same_changes _ _ (λ s h. is s) (ends_changes assign_made p)

    pub substitute_nothing : {old new : Runtime} → Changes run old new (Ok None) → Changes whole old new (Ok (value.Number (pos 0)))
    substitute_nothing {new = new} p = same_changes _ _ (λ s h. is s) (then_changes assign_made p (lift_changes _ new refl))

    named : {old mid new : Runtime} {c : Result (Option Exchanged) Halt} {r : Result (Unit {0}) Halt} (v : Value) → old.names.scalars ≡ names → Changes run old mid c → Changes (store_at mid.names.scalars at operand v) mid new r → Changes (store_at names at operand v) mid new r
    named {mid = mid} {new = new} {r = r} v is p q = subst (λ (l : List (List ℕ)). Changes (store_at l at operand v) mid new r) (ap (λ (n : Naming). n.scalars) p.names ∙ is) q

    pub substitute_ends_later : {old mid new : Runtime} {made : Exchanged} {h : Halt} → old.names.scalars ≡ names → Changes run old mid (Ok (Some made)) → Changes (store_at mid.names.scalars at operand (value.Text made.text)) mid new (Err h) → Changes whole old new (Err h)
    substitute_ends_later {made = made} same p q = same_changes _ _ (λ s h. is s) (then_changes assign_made p (ends_changes _ (named (value.Text made.text) same p q)))

    pub substitute_gives : {old mid new : Runtime} {made : Exchanged} → old.names.scalars ≡ names → Changes run old mid (Ok (Some made)) → Changes (store_at mid.names.scalars at operand (value.Text made.text)) mid new (Ok tt) → Changes whole old new (Ok (value.Number (pos made.count)))
    substitute_gives {new = new} {made = made} same p q = same_changes _ _ (λ s h. is s) (then_changes assign_made p (then_changes _ (named (value.Text made.text) same p q) (lift_changes _ new refl)))
