-- A piece of one instruction keeps the compiler state the program of what was read.
use Rattle.std.proofs.Common.{◌≡◌, ◌≤◌, ℕ, ◌+◌, Bool, true, false, cond, List, [], ◌∷◌, ◌++◌, length, take, slice_index_or, refl, sym, ap, subst, ◌∙◌, append_assoc, arith}
use Rattle.std.proofs.lemmas.List.{length-append, map-append, append-nil, take-append-le}
use Rattle.std.proofs.lemmas.Bool.{leb-true}
use Rattle.std.proofs.Math.Seq.{take-length, get_or-append_seam}
use Rattle.awk_ere.specs.definitions.Tree.{Class, size}
use Rattle.awk_ere.specs.declared.program.Instruction.{Instruction}
use Rattle.awk_ere.specs.declared.program.Instruction.TheVariants as instruction
use Rattle.awk_ere.specs.declared.compiler.checkpoint.Checkpoint.{Checkpoint}
use Rattle.awk_ere.specs.declared.compiler.checkpoint.Group.{Group}
use Rattle.awk_ere.specs.declared.compiler.checkpoint.Last.{Last}
use Rattle.awk_ere.specs.declared.compiler.checkpoint.Last.TheVariants.{Anchor, Part as part_at}
use Rattle.awk_ere.specs.definitions.Program.{ResolvedInstruction, read, at_start, at_end, resolve}
use Rattle.awk_ere.specs.definitions.Tokens.{Atom, atom_class}
use Rattle.awk_ere.specs.definitions.Limits.{greatest_size, any_bad}
use Rattle.awk_ere.specs.definitions.Written.{Piece, the_start, the_end, part, Part, one, piece_tree}
use Rattle.awk_ere.specs.support.Parser.{Frame, fresh, row, ParserState, add}
use Rattle.awk_ere.specs.support.CompilerState.{most_instructions, CompilerState, limited, is_small, checkpoint_of, push, push_class}
use Rattle.awk_ere.proofs.ParseRoundTrip.{state_tokens}
use Rattle.awk_ere.proofs.ProgramOfFrames.{Code, tree_code, done_of, settled_code, settled_size, frame_code, all_code, all_size, code_added, size_added, settled_code_added, settled_size_added, done_added}
use Rattle.awk_ere.proofs.StateIsProgram.{Sees, IsProgram, IsGroup, IsPart, IsLast, Holds, Stays, same_program, sees_more, large_size, short_program, group_stays, groups_stay}

-- an instruction and classes at the end
sees_push : (cs ds : List Class) (instructions : List Instruction) (o : Instruction) (k : Code) (i : ResolvedInstruction) → Sees cs instructions k → ((more : List Class) → resolve ((cs ++ ds) ++ more) o ≡ i) → Sees (cs ++ ds) (instructions ++ o ∷ []) (k ++ i ∷ [])
sees_push cs ds instructions o k i h is more =
    map-append (resolve ((cs ++ ds) ++ more)) instructions (o ∷ [])
    ∙ ap (λ (l : Code). l ++ resolve ((cs ++ ds) ++ more) o ∷ []) (sees_more cs ds instructions k h more)
    ∙ ap (λ (j : ResolvedInstruction). k ++ j ∷ []) (is more)

program_push : (m : ℕ) (instructions : List Instruction) (cs ds : List Class) (n : ℕ) (k : Code) (o : Instruction) (i : ResolvedInstruction) (b : Bool) → is_small (limited (m + 1)) ≡ b → length ds ≤ 1 → ((more : List Class) → resolve ((cs ++ ds) ++ more) o ≡ i) → IsProgram m instructions cs n k → IsProgram (limited (m + 1)) (cond b (instructions ++ o ∷ []) instructions) (cond b (cs ++ ds) cs) (n + 1) (k ++ i ∷ [])
program_push m instructions cs ds n k o i true e l is h =
    let s = h.size in
    let small : n ≤ greatest_size = let t = leb-true (limited (m + 1)) greatest_size e in omega arith in
    let f = h.few small in record {
      size = omega arith;
      sees = λ _. sees_push cs ds instructions o k i (h.sees small) is;
      few = λ _. omega (arith, length-append cs ds);
    }
program_push m instructions cs ds n k o i false e l is h =
    let s = h.size in
    let next : limited (m + 1) ≡ limited (n + 1) = omega arith in
    let large = large_size (limited (m + 1)) (n + 1) next e in record {
      size = next;
      sees = λ small. absurd (omega arith);
      few = λ small. absurd (omega arith);
    }

-- what stands in front stays
pub front : {A : Type 0} (b : Bool) (xs ys : List A) (n : ℕ) → n ≤ length xs → take n (cond b (xs ++ ys) xs) ≡ take n xs
front true xs ys n h = take-append-le n xs ys h
front false xs ys n h = refl

pub front_length : {A : Type 0} (b : Bool) (xs ys : List A) → length xs ≤ length (cond b (xs ++ ys) xs)
front_length true xs ys = omega (arith, length-append xs ys)
front_length false xs ys = omega arith

pub stays_behind : (g : Group) (b : Bool) (instructions more : List Instruction) (cs ds : List Class) → g.begin.instructions ≤ g.branch → g.branch ≤ length instructions → g.begin.classes ≤ length cs → Stays g instructions (cond b (instructions ++ more) instructions) cs (cond b (cs ++ ds) cs)
stays_behind g b instructions more cs ds f i c = record {
  same_instructions = front b instructions more g.begin.instructions (omega arith);
  same_classes = front b cs ds g.begin.classes c;
  in_instructions = omega (arith, front_length b instructions more);
  in_classes = omega (arith, front_length b cs ds);
}

-- the compiler state with a new piece
abbrev with_piece : CompilerState → Bool → Instruction → List Class → Last → CompilerState
with_piece d b o ds l = record {
  instructions = cond b (d.instructions ++ o ∷ []) d.instructions;
  classes = cond b (d.classes ++ ds) d.classes;
  outer = d.outer;
  group = d.group;
  last = l;
  size = limited (d.size + 1);
}

bounds : (d : CompilerState) (s : ParserState) (b : Bool) (o : Instruction) (ds : List Class) (f : Frame) → Holds d s → is_small (limited (d.size + 1)) ≡ b → IsProgram (limited (d.size + 1)) (cond b (d.instructions ++ o ∷ []) d.instructions) (cond b (d.classes ++ ds) d.classes) (all_size (f ∷ s.outer)) (all_code (f ∷ s.outer)) → any_bad (state_tokens f s.outer) ≡ false → (length (cond b (d.instructions ++ o ∷ []) d.instructions) ≤ most_instructions) × (length (cond b (d.classes ++ ds) d.classes) ≤ greatest_size)
bounds d s true o ds f h e w good = short_program (limited (d.size + 1)) (d.instructions ++ o ∷ []) (d.classes ++ ds) f s.outer w good e
bounds d s false o ds f h e w good = (h.short, h.few)

push_holds : (d : CompilerState) (s : ParserState) (x : Piece) (o : Instruction) (i : ResolvedInstruction) (ds : List Class) (l : Last) (b : Bool) → is_small (limited (d.size + 1)) ≡ b → length ds ≤ 1
    → ((more : List Class) → resolve ((d.classes ++ ds) ++ more) o ≡ i) → tree_code (piece_tree x) ≡ i ∷ [] → size (piece_tree x) ≡ 1
    → any_bad (state_tokens (add s.now x) s.outer) ≡ false → Holds d s
    → IsLast l (add s.now x) d.group s.outer (cond b (d.instructions ++ o ∷ []) d.instructions) (cond b (d.classes ++ ds) d.classes)
    → Holds (with_piece d b o ds l) (record { now = add s.now x; outer = s.outer })
push_holds d s x o i ds l b e few is code unit good h last =
    let f = s.now in
    let fs = s.outer in
    let instructions' = cond b (d.instructions ++ o ∷ []) d.instructions in
    let cs' = cond b (d.classes ++ ds) d.classes in
    let more : all_size (f ∷ fs) + 1 ≡ all_size (add f x ∷ fs) = let a = size_added f x in omega arith in
    let behind : all_code (f ∷ fs) ++ i ∷ [] ≡ all_code (add f x ∷ fs) =
    append_assoc (all_code fs) (frame_code f) (i ∷ [])
    ∙ ap (λ (k : Code). all_code fs ++ k) (ap (λ (k : Code). frame_code f ++ k) (sym code) ∙ sym (code_added f x)) in
    let whole = same_program (limited (d.size + 1)) instructions' cs' _ _ _ _ more behind
    (program_push d.size d.instructions d.classes ds (all_size (f ∷ fs)) (all_code (f ∷ fs)) o i b e few is h.whole) in
    let stays = stays_behind d.group b d.instructions (o ∷ []) d.classes ds h.group.forward h.group.in_instructions h.group.in_classes in
    let bound = bounds d s b o ds (add f x) h e whole good in record {
      whole = whole;
      group = subst (λ k. IsGroup d.group k fs instructions' cs') (sym (done_added f x)) (group_stays d.group (done_of f) fs d.instructions instructions' d.classes cs' stays h.group);
      groups = groups_stay d.group d.outer fs d.instructions instructions' d.classes cs' stays h.groups;
      last = last;
      good = good;
      short = bound.0;
      few = bound.1;
    }

-- ---- the last piece

last_start : (f : Frame) (g : Group) (fs : List Frame) (instructions : List Instruction) (cs : List Class) → IsLast Anchor (add f the_start) g fs instructions cs
last_start (fresh d) g fs instructions cs = refl
last_start (row d b y) g fs instructions cs = refl

last_end : (f : Frame) (g : Group) (fs : List Frame) (instructions : List Instruction) (cs : List Class) → IsLast Anchor (add f the_end) g fs instructions cs
last_end (fresh d) g fs instructions cs = refl
last_end (row d b y) g fs instructions cs = refl

pub last_part : (f : Frame) (c : Part) (p : Checkpoint) (g : Group) (fs : List Frame) (instructions : List Instruction) (cs : List Class) → IsPart p (add f (part c)) g fs instructions cs → IsLast (part_at p) (add f (part c)) g fs instructions cs
last_part (fresh d) c p g fs instructions cs h = (p, refl, h)
last_part (row d b y) c p g fs instructions cs h = (p, refl, h)

-- a part that begins where the compiler state ended
part_behind : (d : CompilerState) (s : ParserState) (c : Part) (o : Instruction) (ds : List Class) (b : Bool) → Holds d s → IsPart (checkpoint_of d) (add s.now (part c)) d.group s.outer (cond b (d.instructions ++ o ∷ []) d.instructions) (cond b (d.classes ++ ds) d.classes)
part_behind d s c o ds b h =
    let f = s.now in
    let fs = s.outer in
    let same : take (length d.instructions) (cond b (d.instructions ++ o ∷ []) d.instructions) ≡ d.instructions = front b d.instructions (o ∷ []) (length d.instructions) (omega arith) ∙ take-length d.instructions in
    let kinds : take (length d.classes) (cond b (d.classes ++ ds) d.classes) ≡ d.classes = front b d.classes ds (length d.classes) (omega arith) ∙ take-length d.classes in
    let settled = same_program d.size d.instructions d.classes _ _ _ _ (ap (λ n. all_size fs + n) (sym (settled_size_added f (part c)))) (ap (λ (k : Code). all_code fs ++ k) (sym (settled_code_added f (part c)))) h.whole in record {
      before = subst (λ k. IsProgram d.size k (take (length d.classes) (cond b (d.classes ++ ds) d.classes)) (all_size fs + settled_size (add f (part c))) (all_code fs ++ settled_code (add f (part c)))) (sym same)
          (subst (λ k. IsProgram d.size d.instructions k (all_size fs + settled_size (add f (part c))) (all_code fs ++ settled_code (add f (part c)))) (sym kinds) settled);
      behind = h.group.in_instructions;
      in_instructions = front_length b d.instructions (o ∷ []);
      classes_behind = h.group.in_classes;
      in_classes = front_length b d.classes ds;
    }

-- ---- anchors and atoms

no_class : (b : Bool) (cs : List Class) → cond b (cs ++ []) cs ≡ cs
no_class true cs = append-nil cs
no_class false cs = refl

no_classes : (d : CompilerState) (o : Instruction) (l : Last) → with_piece d (is_small (limited (d.size + 1))) o [] l ≡ push l o d
no_classes d o l =
    let b = is_small (limited (d.size + 1)) in
    ap {B = CompilerState} (λ (cs : List Class). record { instructions = cond b (d.instructions ++ o ∷ []) d.instructions; classes = cs; outer = d.outer; group = d.group; last = l; size = limited (d.size + 1) }) (no_class b d.classes)

pub start_holds : (d : CompilerState) (s : ParserState) → Holds d s → any_bad (state_tokens (add s.now the_start) s.outer) ≡ false → Holds (push Anchor instruction.Start d) (record { now = add s.now the_start; outer = s.outer })
start_holds d s h good =
    let b = is_small (limited (d.size + 1)) in
    subst (λ e. Holds e (record { now = add s.now the_start; outer = s.outer })) (no_classes d instruction.Start Anchor)
    (push_holds d s the_start instruction.Start at_start [] Anchor b refl (omega arith) (λ _. refl) refl refl good h
    (last_start s.now d.group s.outer (cond b (d.instructions ++ instruction.Start ∷ []) d.instructions) (cond b (d.classes ++ []) d.classes)))

pub end_holds : (d : CompilerState) (s : ParserState) → Holds d s → any_bad (state_tokens (add s.now the_end) s.outer) ≡ false → Holds (push Anchor instruction.End d) (record { now = add s.now the_end; outer = s.outer })
end_holds d s h good =
    let b = is_small (limited (d.size + 1)) in
    subst (λ e. Holds e (record { now = add s.now the_end; outer = s.outer })) (no_classes d instruction.End Anchor)
    (push_holds d s the_end instruction.End at_end [] Anchor b refl (omega arith) (λ _. refl) refl refl good h
    (last_end s.now d.group s.outer (cond b (d.instructions ++ instruction.End ∷ []) d.instructions) (cond b (d.classes ++ []) d.classes)))

-- an instruction that reads a byte of the atom
part_holds : (d : CompilerState) (s : ParserState) (a : Atom) (o : Instruction) (ds : List Class) → Holds d s → any_bad (state_tokens (add s.now (part (one a))) s.outer) ≡ false → length ds ≤ 1 → ((more : List Class) → resolve ((d.classes ++ ds) ++ more) o ≡ read (atom_class a)) → Holds (with_piece d (is_small (limited (d.size + 1))) o ds (part_at (checkpoint_of d))) (record { now = add s.now (part (one a)); outer = s.outer })
part_holds d s a o ds h good few is =
    let b = is_small (limited (d.size + 1)) in
    let instructions' = cond b (d.instructions ++ o ∷ []) d.instructions in
    let cs' = cond b (d.classes ++ ds) d.classes in
    push_holds d s (part (one a)) o (read (atom_class a)) ds (part_at (checkpoint_of d)) b refl few is refl refl good h
    (last_part s.now (one a) (checkpoint_of d) d.group s.outer instructions' cs' (part_behind d s (one a) o ds b h))

pub atom_holds : (d : CompilerState) (s : ParserState) (a : Atom) (o : Instruction) → Holds d s → any_bad (state_tokens (add s.now (part (one a))) s.outer) ≡ false → ((cs : List Class) → resolve cs o ≡ read (atom_class a)) → Holds (push (part_at (checkpoint_of d)) o d) (record { now = add s.now (part (one a)); outer = s.outer })
atom_holds d s a o h good is =
    subst (λ e. Holds e (record { now = add s.now (part (one a)); outer = s.outer })) (no_classes d o (part_at (checkpoint_of d)))
    (part_holds d s a o [] h good (omega arith) (λ more. is ((d.classes ++ []) ++ more)))

pub class_holds : (d : CompilerState) (s : ParserState) (a : Atom) (c : Class) → Holds d s → any_bad (state_tokens (add s.now (part (one a))) s.outer) ≡ false → c ≡ atom_class a → Holds (push_class c d) (record { now = add s.now (part (one a)); outer = s.outer })
class_holds d s a c h good is =
    part_holds d s a (instruction.Class (length d.classes)) (c ∷ []) h good (omega arith)
    (λ more. ap read (ap (λ (l : List Class). slice_index_or l (length d.classes) []) (append_assoc d.classes (c ∷ []) more) ∙ get_or-append_seam d.classes c more [] ∙ is))
