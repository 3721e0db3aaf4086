-- The compiler state that the code keeps is the program of what was read.
use Rattle.std.proofs.Common.{◌≡◌, ◌≤◌, ◌<◌, ℕ, ◌+◌, true, false, List, [], ◌∷◌, ◌++◌, length, take, drop, map, Option, Some, refl, sym, ap, subst, ◌∙◌, append_assoc, arith}
use Rattle.std.proofs.lemmas.List.{length-map, take-map, drop-map, take_at, drop_at}
use Rattle.std.proofs.lemmas.Bool.{leb-true, leb-false, or_from}
use Rattle.awk_ere.specs.definitions.Tree.{Class}
use Rattle.awk_ere.specs.declared.program.Instruction.{Instruction}
use Rattle.awk_ere.specs.declared.compiler.checkpoint.Checkpoint.{Checkpoint}
use Rattle.awk_ere.specs.declared.compiler.checkpoint.Group.{Group}
use Rattle.awk_ere.specs.declared.compiler.checkpoint.Last.{Last}
use Rattle.awk_ere.specs.declared.compiler.checkpoint.Last.TheVariants.{Nothing, Anchor, Part}
use Rattle.awk_ere.specs.definitions.Program.{resolve}
use Rattle.awk_ere.specs.definitions.Tokens.{Token}
use Rattle.awk_ere.specs.definitions.Limits.{greatest_size, token_is_bad, any_bad}
use Rattle.awk_ere.specs.definitions.Written.{Pattern, the_start, the_end, part}
use Rattle.awk_ere.specs.support.Parser.{Frame, fresh, row, ParserState, take_in}
use Rattle.awk_ere.specs.support.CompilerState.{most_instructions, CompilerState, limited, is_small, IsWithin, IsSound}
use Rattle.awk_ere.proofs.ParseRoundTrip.{state_tokens, step-tokens}
use Rattle.awk_ere.proofs.CountsOrdered.{any_bad_append}
use Rattle.awk_ere.proofs.ProgramOfFrames.{Code, done_code, done_bars, done_size, done_of, settled_code, settled_size, all_code, all_size}
use Rattle.awk_ere.proofs.ProgramLength.{all_length}

-- the instructions of the code, with these classes, whatever classes come behind them
abbrev pub Sees : List Class → List Instruction → Code → Type 0
Sees cs instructions k = (more : List Class) → map (resolve (cs ++ more)) instructions ≡ k

-- the program of something of this size, or what is too large
pub record IsProgram (m : ℕ) (instructions : List Instruction) (cs : List Class) (n : ℕ) (k : Code) : Type 0 where
  pub size : m ≡ limited n
  pub sees : n ≤ greatest_size → Sees cs instructions k
  pub few : n ≤ greatest_size → length cs ≤ n

-- a group behind the groups that are around it
pub record IsGroup (g : Group) (d : Option Pattern) (fs : List Frame) (instructions : List Instruction) (cs : List Class) : Type 0 where
  pub begin : IsProgram g.begin.size (take g.begin.instructions instructions) (take g.begin.classes cs) (all_size fs) (all_code fs)
  pub branch : all_size fs + done_size d ≤ greatest_size → g.branch ≡ length (all_code fs ++ done_code d)
  pub bars : all_size fs + done_size d ≤ greatest_size → g.bars ≡ done_bars d
  pub few_bars : g.bars ≤ greatest_size
  pub forward : g.begin.instructions ≤ g.branch
  pub in_instructions : g.branch ≤ length instructions
  pub in_classes : g.begin.classes ≤ length cs

-- the groups around, the innermost first
abbrev pub AreGroups : List Group → List Frame → List Instruction → List Class → Type 0
AreGroups [] [] instructions cs = Unit {0}
AreGroups [] (f ∷ fs) instructions cs = ⊥
AreGroups (g ∷ gs) [] instructions cs = ⊥
AreGroups (g ∷ gs) (f ∷ fs) instructions cs = IsGroup g (done_of f) fs instructions cs × AreGroups gs fs (take g.begin.instructions instructions) (take g.begin.classes cs)

-- the last piece begins there
pub record IsPart (p : Checkpoint) (f : Frame) (g : Group) (fs : List Frame) (instructions : List Instruction) (cs : List Class) : Type 0 where
  pub before : IsProgram p.size (take p.instructions instructions) (take p.classes cs) (all_size fs + settled_size f) (all_code fs ++ settled_code f)
  pub behind : g.branch ≤ p.instructions
  pub in_instructions : p.instructions ≤ length instructions
  pub classes_behind : g.begin.classes ≤ p.classes
  pub in_classes : p.classes ≤ length cs

abbrev pub IsLast : Last → Frame → Group → List Frame → List Instruction → List Class → Type 0
IsLast l (fresh d) g fs instructions cs = l ≡ Nothing
IsLast l (row d b the_start) g fs instructions cs = l ≡ Anchor
IsLast l (row d b the_end) g fs instructions cs = l ≡ Anchor
IsLast l (row d b (part c)) g fs instructions cs = (p : Checkpoint) × (l ≡ Part p) × IsPart p (row d b (part c)) g fs instructions cs

pub record Holds (d : CompilerState) (s : ParserState) : Type 0 where
  pub whole : IsProgram d.size d.instructions d.classes (all_size (s.now ∷ s.outer)) (all_code (s.now ∷ s.outer))
  pub group : IsGroup d.group (done_of s.now) s.outer d.instructions d.classes
  pub groups : AreGroups d.outer s.outer (take d.group.begin.instructions d.instructions) (take d.group.begin.classes d.classes)
  pub last : IsLast d.last s.now d.group s.outer d.instructions d.classes
  pub good : any_bad (state_tokens s.now s.outer) ≡ false
  pub short : length d.instructions ≤ most_instructions
  pub few : length d.classes ≤ greatest_size

-- ---- programs

pub same_program : (m : ℕ) (instructions : List Instruction) (cs : List Class) (n n' : ℕ) (k k' : Code) → n ≡ n' → k ≡ k' → IsProgram m instructions cs n k → IsProgram m instructions cs n' k'
same_program m instructions cs n n' k k' e f h =
    subst (λ j. IsProgram m instructions cs n' j) f (subst (λ i. IsProgram m instructions cs i k) e h)

pub sees_length : (cs : List Class) (instructions : List Instruction) (k : Code) → Sees cs instructions k → length instructions ≡ length k
sees_length cs instructions k h = sym (length-map instructions (resolve (cs ++ []))) ∙ ap length (h [])

-- what stands before a place and behind it
pub sees_front : (cs : List Class) (instructions : List Instruction) (j : ℕ) (a b : Code) → Sees cs instructions (a ++ b) → j ≡ length a → Sees cs (take j instructions) a
sees_front cs instructions j a b h e more =
    sym (take-map (resolve (cs ++ more)) j instructions) ∙ ap (take j) (h more) ∙ take_at a b j (sym e)

pub sees_back : (cs : List Class) (instructions : List Instruction) (j : ℕ) (a b : Code) → Sees cs instructions (a ++ b) → j ≡ length a → Sees cs (drop j instructions) b
sees_back cs instructions j a b h e more =
    sym (drop-map (resolve (cs ++ more)) j instructions) ∙ ap (drop j) (h more) ∙ drop_at a b j (sym e)

-- classes may come behind
pub sees_more : (cs ds : List Class) (instructions : List Instruction) (k : Code) → Sees cs instructions k → Sees (cs ++ ds) instructions k
sees_more cs ds instructions k h more = ap (λ l. map (resolve l) instructions) (append_assoc cs ds more) ∙ h (ds ++ more)

pub small_size : (m n : ℕ) → m ≡ limited n → is_small m ≡ true → n ≤ greatest_size
small_size m n e t = let h = leb-true m greatest_size t in omega arith

pub large_size : (m n : ℕ) → m ≡ limited n → is_small m ≡ false → greatest_size < n
large_size m n e t = let h = leb-false m greatest_size t in omega arith

-- a program that is small is short
pub short_program : (m : ℕ) (instructions : List Instruction) (cs : List Class) (f : Frame) (fs : List Frame) → IsProgram m instructions cs (all_size (f ∷ fs)) (all_code (f ∷ fs)) → any_bad (state_tokens f fs) ≡ false → is_small m ≡ true → (length instructions ≤ most_instructions) × (length cs ≤ greatest_size)
short_program m instructions cs f fs h good t =
    let n = small_size m (all_size (f ∷ fs)) h.size t in
    let l = sees_length cs instructions (all_code (f ∷ fs)) (h.sees n) in
    let b = all_length f fs good in
    let c = h.few n in
    (omega arith, omega arith)

-- ---- tokens that are not bad

pub good_next : (w : Token) (s u : ParserState) → take_in w s ≡ Some u → token_is_bad w ≡ false → any_bad (state_tokens s.now s.outer) ≡ false → any_bad (state_tokens u.now u.outer) ≡ false
good_next w s u e bad good =
    ap any_bad (step-tokens w s u e) ∙ any_bad_append (state_tokens s.now s.outer) (w ∷ []) ∙ or_from _ _ good (or_from _ _ bad refl)

-- ---- what stays where the end of a compiler state is made anew

pub record Stays (g : Group) (instructions instructions' : List Instruction) (cs cs' : List Class) : Type 0 where
  pub same_instructions : take g.begin.instructions instructions' ≡ take g.begin.instructions instructions
  pub same_classes : take g.begin.classes cs' ≡ take g.begin.classes cs
  pub in_instructions : g.branch ≤ length instructions'
  pub in_classes : g.begin.classes ≤ length cs'

pub group_stays : (g : Group) (d : Option Pattern) (fs : List Frame) (instructions instructions' : List Instruction) (cs cs' : List Class) → Stays g instructions instructions' cs cs' → IsGroup g d fs instructions cs → IsGroup g d fs instructions' cs'
group_stays g d fs instructions instructions' cs cs' s h = record {
  begin = subst (λ o. IsProgram g.begin.size o (take g.begin.classes cs') (all_size fs) (all_code fs)) (sym s.same_instructions)
      (subst (λ c. IsProgram g.begin.size (take g.begin.instructions instructions) c (all_size fs) (all_code fs)) (sym s.same_classes) h.begin);
  branch = h.branch;
  bars = h.bars;
  few_bars = h.few_bars;
  forward = h.forward;
  in_instructions = s.in_instructions;
  in_classes = s.in_classes;
}

pub groups_stay : (g : Group) (gs : List Group) (fs : List Frame) (instructions instructions' : List Instruction) (cs cs' : List Class) → Stays g instructions instructions' cs cs' → AreGroups gs fs (take g.begin.instructions instructions) (take g.begin.classes cs) → AreGroups gs fs (take g.begin.instructions instructions') (take g.begin.classes cs')
groups_stay g gs fs instructions instructions' cs cs' s h =
    subst (λ o. AreGroups gs fs o (take g.begin.classes cs')) (sym s.same_instructions)
    (subst (λ c. AreGroups gs fs (take g.begin.instructions instructions) c) (sym s.same_classes) h)

-- ---- the compiler state is sound

within : (l : Last) (d : CompilerState) (f : Frame) (fs : List Frame) → IsLast l f d.group fs d.instructions d.classes → d.size ≡ limited (all_size (f ∷ fs)) → IsWithin l d
within l d (fresh x) fs h e = subst (λ k. IsWithin k d) (sym h) tt
within l d (row x b the_start) fs h e = subst (λ k. IsWithin k d) (sym h) tt
within l d (row x b the_end) fs h e = subst (λ k. IsWithin k d) (sym h) tt
within l d (row x b (part c)) fs h e =
    let a = h.2.before.size in
    subst (λ k. IsWithin k d) (sym h.1) (h.2.in_instructions, omega arith)

pub sound : (d : CompilerState) (s : ParserState) → Holds d s → IsSound d
sound d s h =
    let e = h.whole.size in record {
      size = omega arith;
      few = h.few;
      short = h.short;
      branch = h.group.in_instructions;
      bars = h.group.few_bars;
      last = within d.last d s.now s.outer h.last e;
    }
