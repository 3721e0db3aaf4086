-- A repeat keeps the compiler state the program of what was read.
use Rattle.std.proofs.Common.{◌≡◌, ◌≤◌, ℕ, ◌+◌, ◌-◌, Bool, true, false, cond, List, ◌∷◌, ◌++◌, length, take, drop, map, Option, Some, refl, sym, ap, subst, ◌∙◌, append_assoc, arith}
use Rattle.std.proofs.lemmas.List.{length-append, length-take-le, map-append, append-nil, take-append-le, take-take}
use Rattle.std.proofs.lemmas.Option.{same_Some, none-some}
use Rattle.awk_ere.specs.definitions.Tree.{Class, size}
use Rattle.awk_ere.specs.definitions.Desugared.{desugar}
use Rattle.awk_ere.specs.declared.program.Instruction.{Instruction}
use Rattle.awk_ere.specs.declared.compiler.checkpoint.Checkpoint.{Checkpoint}
use Rattle.awk_ere.specs.declared.compiler.checkpoint.Last.{Last}
use Rattle.awk_ere.specs.declared.compiler.checkpoint.Last.TheVariants.{Part as part_at}
use Rattle.awk_ere.specs.definitions.Program.{resolve}
use Rattle.awk_ere.specs.definitions.Tokens.{Repeat}
use Rattle.awk_ere.specs.definitions.Limits.{greatest_size, repeat_is_bad, any_bad}
use Rattle.awk_ere.specs.definitions.Written.{Pattern, Branch, Part, the_start, the_end, part, repeated, part_tree}
use Rattle.awk_ere.specs.support.Parser.{Frame, fresh, row, ParserState, repeat_last as spec_repeat}
use Rattle.awk_ere.specs.support.TokenValues.{seen_repeat}
use Rattle.awk_ere.specs.support.RepeatInstructions.{repeat_instructions}
use Rattle.awk_ere.specs.support.CompilerState.{CompilerState, limited, is_small, seen_size, is_never, repeat_from, repeat_last}
use Rattle.awk_ere.proofs.ParseRoundTrip.{state_tokens}
use Rattle.awk_ere.proofs.ProgramOfFrames.{Code, tree_code, done_code, pieces_code, settled_code, settled_size, all_code, all_size}
use Rattle.awk_ere.proofs.RepeatSize.{size_seen, size_grows, see_repeat, no_instructions, no_code}
use Rattle.awk_ere.proofs.StateIsProgram.{Sees, IsProgram, IsPart, Holds, Stays, sees_length, sees_front, sees_back, small_size, large_size, short_program, group_stays, groups_stay}

-- the instructions and classes with a repeat of those from a place on
abbrev with_repeat : List Instruction → Checkpoint → Repeat → List Instruction
with_repeat instructions p r = take p.instructions instructions ++ repeat_instructions (seen_repeat r) (drop p.instructions instructions)

abbrev kept : List Class → Checkpoint → Bool → List Class
kept cs p never = cond never (take p.classes cs) cs

-- what stands before the place stays
instructions_stay : (instructions new : List Instruction) (n m : ℕ) → n ≤ m → m ≤ length instructions → take n (take m instructions ++ new) ≡ take n instructions
instructions_stay instructions new n m h k =
    take-append-le n (take m instructions) new (omega (arith, length-take-le m instructions k)) ∙ take-take n m instructions h

classes_stay : (cs : List Class) (n : ℕ) (p : Checkpoint) (never : Bool) → n ≤ p.classes → take n (kept cs p never) ≡ take n cs
classes_stay cs n p true h = take-take n p.classes cs h
classes_stay cs n p false h = refl

classes_length : (cs : List Class) (p : Checkpoint) (never : Bool) → p.classes ≤ length cs → p.classes ≤ length (kept cs p never)
classes_length cs p true h = omega (arith, length-take-le p.classes cs h)
classes_length cs p false h = h

-- the code of all up to a part with a repeat
code_repeat : (x : Option Pattern) (b : Option Branch) (fs : List Frame) (k : Code) → (all_code fs ++ (done_code x ++ pieces_code b)) ++ k ≡ all_code fs ++ (done_code x ++ (pieces_code b ++ k))
code_repeat x b fs k = simp append_assoc

program_repeat : (m : ℕ) (instructions : List Instruction) (cs : List Class) (p : Checkpoint) (x : Option Pattern) (b : Option Branch) (c : Part) (fs : List Frame) (r : Repeat) (never : Bool)
    → repeat_is_bad r ≡ false → is_never (seen_repeat r) ≡ never → p.instructions ≤ length instructions
    → IsProgram m instructions cs (all_size (row x b (part c) ∷ fs)) (all_code (row x b (part c) ∷ fs))
    → IsProgram p.size (take p.instructions instructions) (take p.classes cs) (all_size fs + settled_size (row x b (part c))) (all_code fs ++ settled_code (row x b (part c)))
    → all_size (row x b (part (repeated c r)) ∷ fs) ≤ greatest_size
    → Sees (kept cs p never) (with_repeat instructions p r) (all_code (row x b (part (repeated c r)) ∷ fs)) × (length (kept cs p never) ≤ all_size (row x b (part (repeated c r)) ∷ fs))
program_repeat m instructions cs p x b c fs r true bad e i h before small =
    let front = all_code fs ++ (done_code x ++ pieces_code b) in
    let few = before.few (omega arith) in
    let sees = before.sees (omega arith) in (
      (λ more.
          ap (λ l. map (resolve (take p.classes cs ++ more)) (take p.instructions instructions ++ l)) (no_instructions r (drop p.instructions instructions) bad e)
          ∙ ap (map (resolve (take p.classes cs ++ more))) (append-nil (take p.instructions instructions))
          ∙ sees more
          ∙ sym (append-nil front)
          ∙ ap (λ (l : Code). front ++ l) (sym (no_code r (desugar (part_tree c)) bad e))
          ∙ code_repeat x b fs (tree_code (part_tree (repeated c r)))),
      omega arith,
    )
program_repeat m instructions cs p x b c fs r false bad e i h before small =
    let front = all_code fs ++ (done_code x ++ pieces_code b) in
    let body = tree_code (part_tree c) in
    let grows = size_grows r (size (part_tree c)) bad e in
    let few = h.few (omega arith) in
    let sees : Sees cs instructions (front ++ body) = subst (λ k. Sees cs instructions k) (sym (code_repeat x b fs body)) (h.sees (omega arith)) in
    let length_front = sees_length (take p.classes cs) (take p.instructions instructions) front (before.sees (omega arith)) in
    let at : p.instructions ≡ length front = sym (length-take-le p.instructions instructions i) ∙ length_front in (
      (λ more.
          map-append (resolve (cs ++ more)) (take p.instructions instructions) (repeat_instructions (seen_repeat r) (drop p.instructions instructions))
          ∙ ap (λ (l : Code). l ++ map (resolve (cs ++ more)) (repeat_instructions (seen_repeat r) (drop p.instructions instructions))) (sees_front cs instructions p.instructions front body sees at more)
          ∙ ap (λ (l : Code). front ++ l) (see_repeat (cs ++ more) r (drop p.instructions instructions) (desugar (part_tree c)) bad (sees_back cs instructions p.instructions front body sees at more))
          ∙ code_repeat x b fs (tree_code (part_tree (repeated c r)))),
      omega arith,
    )

-- the compiler state with a repeat, and without one where it is too large
abbrev after_repeat : CompilerState → Checkpoint → Repeat → ℕ → Bool → CompilerState
after_repeat d p r n small =
    cond small
    (record d { instructions = with_repeat d.instructions p r; classes = kept d.classes p (is_never (seen_repeat r)); size = n })
    (record d { size = n })

size_repeat : (d : CompilerState) (p : Checkpoint) (x : Option Pattern) (b : Option Branch) (c : Part) (fs : List Frame) (r : Repeat) → repeat_is_bad r ≡ false
    → d.size ≡ limited (all_size (row x b (part c) ∷ fs)) → p.size ≡ limited (all_size fs + settled_size (row x b (part c)))
    → limited (p.size + seen_size (seen_repeat r) (d.size - p.size)) ≡ limited (all_size (row x b (part (repeated c r)) ∷ fs))
size_repeat d p x b c fs r bad e f =
    let a = all_size fs + settled_size (row x b (part c)) in
    let n = size (part_tree c) in
    let whole : d.size ≡ limited (a + n) = e ∙ ap limited (omega arith) in
    ap (λ k. limited (k + seen_size (seen_repeat r) (d.size - k))) f
    ∙ ap (λ k. limited (limited a + seen_size (seen_repeat r) (k - limited a))) whole
    ∙ size_seen r a n bad
    ∙ ap limited (omega arith)

repeated_holds : (d : CompilerState) (p : Checkpoint) (x : Option Pattern) (b : Option Branch) (c : Part) (fs : List Frame) (r : Repeat) (small : Bool)
    → is_small (limited (p.size + seen_size (seen_repeat r) (d.size - p.size))) ≡ small → repeat_is_bad r ≡ false
    → any_bad (state_tokens (row x b (part (repeated c r))) fs) ≡ false → d.last ≡ part_at p
    → Holds d (record { now = row x b (part c); outer = fs }) → IsPart p (row x b (part c)) d.group fs d.instructions d.classes
    → Holds (after_repeat d p r (limited (p.size + seen_size (seen_repeat r) (d.size - p.size))) small) (record { now = row x b (part (repeated c r)); outer = fs })
repeated_holds d p x b c fs r true e bad good l h k =
    let never = is_never (seen_repeat r) in
    let n = limited (p.size + seen_size (seen_repeat r) (d.size - p.size)) in
    let f = row x b (part (repeated c r)) in
    let instructions' = with_repeat d.instructions p r in
    let cs' = kept d.classes p never in
    let next = size_repeat d p x b c fs r bad h.whole.size k.before.size in
    let parts = program_repeat d.size d.instructions d.classes p x b c fs r never bad refl k.in_instructions h.whole k.before (small_size n (all_size (f ∷ fs)) next e) in
    let whole : IsProgram n instructions' cs' (all_size (f ∷ fs)) (all_code (f ∷ fs)) = record { size = next; sees = λ _. parts.0; few = λ _. parts.1 } in
    let forward = h.group.forward in
    let behind = k.behind in
    let classes_behind = k.classes_behind in
    let kept_length = classes_length d.classes p never k.in_classes in
    let front_length = length-append (take p.instructions d.instructions) (repeat_instructions (seen_repeat r) (drop p.instructions d.instructions)) in
    let at = length-take-le p.instructions d.instructions k.in_instructions in
    let stays : Stays d.group d.instructions instructions' d.classes cs' = record {
      same_instructions = instructions_stay d.instructions _ d.group.begin.instructions p.instructions (omega arith) k.in_instructions;
      same_classes = classes_stay d.classes d.group.begin.classes p never k.classes_behind;
      in_instructions = omega arith;
      in_classes = omega arith;
    } in
    let bound = short_program n instructions' cs' f fs whole good e in record {
      whole = whole;
      group = group_stays d.group x fs d.instructions instructions' d.classes cs' stays h.group;
      groups = groups_stay d.group d.outer fs d.instructions instructions' d.classes cs' stays h.groups;
      last = (
        p,
        l,
        record {
          before =
              subst (λ o. IsProgram p.size o (take p.classes cs') (all_size fs + settled_size f) (all_code fs ++ settled_code f)) (sym (instructions_stay d.instructions _ p.instructions p.instructions (omega arith) k.in_instructions))
              (subst (λ o. IsProgram p.size (take p.instructions d.instructions) o (all_size fs + settled_size f) (all_code fs ++ settled_code f)) (sym (classes_stay d.classes p.classes p never (omega arith))) k.before);
          behind = k.behind;
          in_instructions = omega arith;
          classes_behind = k.classes_behind;
          in_classes = kept_length;
        },
      );
      good = good;
      short = bound.0;
      few = bound.1;
    }
repeated_holds d p x b c fs r false e bad good l h k =
    let n = limited (p.size + seen_size (seen_repeat r) (d.size - p.size)) in
    let f = row x b (part (repeated c r)) in
    let next = size_repeat d p x b c fs r bad h.whole.size k.before.size in
    let large = large_size n (all_size (f ∷ fs)) next e in record {
      whole = record { size = next; sees = λ small. absurd (omega arith); few = λ small. absurd (omega arith) };
      group = h.group;
      groups = h.groups;
      last = (p, l, record { before = k.before; behind = k.behind; in_instructions = k.in_instructions; classes_behind = k.classes_behind; in_classes = k.in_classes });
      good = good;
      short = h.short;
      few = h.few;
    }

pub repeat_holds : (r : Repeat) (d : CompilerState) (now : Frame) (outer : List Frame) (u : ParserState) → spec_repeat r now outer ≡ Some u → repeat_is_bad r ≡ false → any_bad (state_tokens u.now u.outer) ≡ false → Holds d (record { now = now; outer = outer }) → (e : CompilerState) × (repeat_last (seen_repeat r) d.last d ≡ Some e) × Holds e u
repeat_holds r d (fresh x) outer u t bad good h = absurd (none-some u t)
repeat_holds r d (row x b the_start) outer u t bad good h = absurd (none-some u t)
repeat_holds r d (row x b the_end) outer u t bad good h = absurd (none-some u t)
repeat_holds r d (row x b (part c)) outer u t bad good h =
    let v : ParserState = record { now = row x b (part (repeated c r)); outer = outer } in
    let same = same_Some v u t in
    let p = h.last.0 in
    let n = limited (p.size + seen_size (seen_repeat r) (d.size - p.size)) in (
      repeat_from (seen_repeat r) p d,
      ap (λ (l : Last). repeat_last (seen_repeat r) l d) h.last.1,
      subst (λ w. Holds (repeat_from (seen_repeat r) p d) w) same
          (repeated_holds d p x b c outer r (is_small n) refl bad (ap (λ (w : ParserState). any_bad (state_tokens w.now w.outer)) same ∙ good) h.last.1 h h.last.2),
    )
