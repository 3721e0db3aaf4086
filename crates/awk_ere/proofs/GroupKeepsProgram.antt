-- A group that opens or ends keeps the compiler state the program of what was read.
use Rattle.std.proofs.Common.{◌≡◌, ◌≤◌, ℕ, zero, suc, ◌+◌, Bool, true, false, cond, List, [], ◌∷◌, ◌++◌, length, take, map, replicate, Option, Some, None, refl, sym, ap, subst, ◌∙◌, append_assoc, arith}
use Rattle.std.proofs.lemmas.List.{length-take, map-append, append-nil, take-take}
use Rattle.std.proofs.lemmas.Option.{same_Some, none-some}
use Rattle.std.proofs.Math.Seq.{take-length}
use Rattle.awk_ere.specs.definitions.Tree.{Class}
use Rattle.awk_ere.specs.declared.program.Instruction.{Instruction}
use Rattle.awk_ere.specs.declared.program.Instruction.TheVariants as instruction
use Rattle.awk_ere.specs.declared.compiler.checkpoint.Group.{Group}
use Rattle.awk_ere.specs.declared.compiler.checkpoint.Last.TheVariants.{Part as part_at}
use Rattle.awk_ere.specs.definitions.Program.{join, resolve}
use Rattle.awk_ere.specs.definitions.Limits.{greatest_size, any_bad}
use Rattle.awk_ere.specs.definitions.Written.{Pattern, Branch, Piece, part, group as group_of, piece_tree}
use Rattle.awk_ere.specs.support.Parser.{Frame, fresh, row, ParserState, branch_of, pattern_of, add, closed, close}
use Rattle.awk_ere.specs.support.CompilerState.{most_instructions, CompilerState, is_small, open_group, ended_instructions, close_into}
use Rattle.awk_ere.proofs.ParseRoundTrip.{state_tokens}
use Rattle.awk_ere.proofs.ProgramOfFrames.{Code, tree_code, done_code, done_bars, done_of, pieces_code, settled_code, settled_size, frame_code, all_code, all_size, more_pieces, more_size, whole_code, whole_size, code_added, size_added, settled_code_added, settled_size_added, done_added}
use Rattle.awk_ere.proofs.StateIsProgram.{IsProgram, IsGroup, AreGroups, IsPart, Holds, Stays, same_program, sees_length, large_size, short_program, group_stays, groups_stay}
use Rattle.awk_ere.proofs.PieceKeepsProgram.{front, front_length, last_part}

-- all of a compiler state stands before its end
all_before : (m : ℕ) (instructions : List Instruction) (cs : List Class) (n : ℕ) (k : Code) → IsProgram m instructions cs n k → IsProgram m (take (length instructions) instructions) (take (length cs) cs) n k
all_before m instructions cs n k h =
    subst (λ o. IsProgram m o (take (length cs) cs) n k) (sym (take-length instructions)) (subst (λ c. IsProgram m instructions c n k) (sym (take-length cs)) h)

pub open_holds : (d : CompilerState) (s : ParserState) → Holds d s → any_bad (state_tokens (fresh None) (s.now ∷ s.outer)) ≡ false → Holds (open_group d) (record { now = fresh None; outer = s.now ∷ s.outer })
open_holds d s h good =
    let fs = s.now ∷ s.outer in
    let n : all_size fs ≡ all_size (fresh None ∷ fs) = omega arith in
    let k : all_code fs ≡ all_code (fresh None ∷ fs) = sym (append-nil (all_code fs)) in
    let end : all_size fs + 0 ≤ greatest_size → length d.instructions ≡ length (all_code fs ++ []) = λ small.
    ap length (sym (take-length d.instructions)) ∙ (ap length (take-length d.instructions) ∙ sees_length d.classes d.instructions (all_code fs) (h.whole.sees (omega arith))) ∙ ap length k in record {
      whole = same_program d.size d.instructions d.classes _ _ _ _ n k h.whole;
      group = record {
        begin = all_before d.size d.instructions d.classes (all_size fs) (all_code fs) h.whole;
        branch = end;
        bars = λ _. refl;
        few_bars = omega arith;
        forward = omega arith;
        in_instructions = omega arith;
        in_classes = omega arith;
      };
      groups =
          subst (λ o. AreGroups (d.group ∷ d.outer) fs o (take (length d.classes) d.classes)) (sym (take-length d.instructions))
          (subst (λ c. AreGroups (d.group ∷ d.outer) fs d.instructions c) (sym (take-length d.classes)) (h.group, h.groups));
      last = refl;
      good = good;
      short = h.short;
      few = h.few;
    }

-- ---- the end of a group

see_joins : (cs : List Class) (n : ℕ) → map (resolve cs) (replicate n instruction.Join) ≡ replicate n join
see_joins cs zero = refl
see_joins cs (suc n) = ap (λ (l : Code). join ∷ l) (see_joins cs n)

-- the joins of the branches make of the open group a closed one
abbrev pub joined : ℕ → List Instruction → Bool → List Instruction
joined n instructions b = cond b (instructions ++ replicate n instruction.Join) instructions

pub program_end : (m : ℕ) (instructions : List Instruction) (cs : List Class) (n count : ℕ) (k : Code) (bars : ℕ) (b : Bool) → is_small m ≡ b → (n ≤ greatest_size → bars ≡ count) → IsProgram m instructions cs n k → IsProgram m (joined bars instructions b) cs n (k ++ replicate count join)
program_end m instructions cs n count k bars true e same h = record {
  size = h.size;
  sees = λ small more.
      map-append (resolve (cs ++ more)) instructions (replicate bars instruction.Join)
      ∙ ap (λ (l : Code). l ++ map (resolve (cs ++ more)) (replicate bars instruction.Join)) (h.sees small more)
      ∙ ap (λ (l : Code). k ++ l) (see_joins (cs ++ more) bars ∙ ap (λ i. replicate i join) (same small));
  few = h.few;
}
program_end m instructions cs n count k bars false e same h =
    let large = large_size m n h.size e in record {
      size = h.size;
      sees = λ small. absurd (omega arith);
      few = h.few;
    }

regroup : (a f d p j : Code) → ((a ++ f) ++ (d ++ p)) ++ j ≡ a ++ (f ++ (d ++ (p ++ j)))
regroup a f d p j = simp append_assoc

-- the code of a group that ends behind the pieces
code_close : (x : Option Pattern) (b : Option Branch) (y : Piece) (f : Frame) (fs : List Frame) → all_code (row x b y ∷ f ∷ fs) ++ replicate (done_bars x) join ≡ all_code (add f (part (group_of (pattern_of x (branch_of b y)))) ∷ fs)
code_close x b y f fs =
    let j = replicate (done_bars x) join in
    let p = pieces_code b ++ tree_code (piece_tree y) in
    let whole : tree_code (piece_tree (part (group_of (pattern_of x (branch_of b y))))) ≡ done_code x ++ (p ++ j) =
    whole_code x (branch_of b y) ∙ ap (λ (l : Code). done_code x ++ (l ++ j)) (more_pieces b y) in
    regroup (all_code fs) (frame_code f) (done_code x) p j
    ∙ ap (λ (l : Code). all_code fs ++ l) (ap (λ (l : Code). frame_code f ++ l) (sym whole) ∙ sym (code_added f (part (group_of (pattern_of x (branch_of b y))))))

size_close : (x : Option Pattern) (b : Option Branch) (y : Piece) (f : Frame) (fs : List Frame) → all_size (row x b y ∷ f ∷ fs) ≡ all_size (add f (part (group_of (pattern_of x (branch_of b y)))) ∷ fs)
size_close x b y f fs =
    let w = whole_size x (branch_of b y) in
    let m = more_size b y in
    let a = size_added f (part (group_of (pattern_of x (branch_of b y)))) in
    omega arith

closed_bounds : (d : CompilerState) (s : ParserState) (b : Bool) (f : Frame) (fs : List Frame) → Holds d s → is_small d.size ≡ b → IsProgram d.size (joined d.group.bars d.instructions b) d.classes (all_size (f ∷ fs)) (all_code (f ∷ fs)) → any_bad (state_tokens f fs) ≡ false → length (joined d.group.bars d.instructions b) ≤ most_instructions
closed_bounds d s true f fs h e w good = (short_program d.size (d.instructions ++ replicate d.group.bars instruction.Join) d.classes f fs w good e).0
closed_bounds d s false f fs h e w good = h.short

-- the group around goes on where the group inside it began
closed_stays : (d : CompilerState) (s : ParserState) (b : Bool) (g : Group) (x : Option Pattern) (fs : List Frame) → Holds d s → IsGroup g x fs (take d.group.begin.instructions d.instructions) (take d.group.begin.classes d.classes) → Stays g (take d.group.begin.instructions d.instructions) (joined d.group.bars d.instructions b) (take d.group.begin.classes d.classes) d.classes
closed_stays d s b g x fs h k =
    let before = length-take d.group.begin.instructions d.instructions in
    let classes = length-take d.group.begin.classes d.classes in
    let f = k.forward in
    let i = k.in_instructions in
    let c = k.in_classes in
    let more = front_length b d.instructions (replicate d.group.bars instruction.Join) in record {
      same_instructions = front b d.instructions (replicate d.group.bars instruction.Join) g.begin.instructions (omega arith) ∙ sym (take-take g.begin.instructions d.group.begin.instructions d.instructions (omega arith));
      same_classes = sym (take-take g.begin.classes d.group.begin.classes d.classes (omega arith));
      in_instructions = omega arith;
      in_classes = omega arith;
    }

closed_part : (d : CompilerState) (s : ParserState) (b : Bool) (g : Group) (x : Option Pattern) (c : Piece) (f : Frame) (fs : List Frame) → Holds d s → IsProgram d.group.begin.size (take d.group.begin.instructions d.instructions) (take d.group.begin.classes d.classes) (all_size (f ∷ fs)) (all_code (f ∷ fs)) → IsGroup g x fs (take d.group.begin.instructions d.instructions) (take d.group.begin.classes d.classes) → IsPart d.group.begin (add f c) g fs (joined d.group.bars d.instructions b) d.classes
closed_part d s b g x c f fs h begin k =
    let begin_instructions = length-take d.group.begin.instructions d.instructions in
    let begin_classes = length-take d.group.begin.classes d.classes in
    let i = k.in_instructions in
    let j = k.in_classes in
    let forward = h.group.forward in
    let in_instructions = h.group.in_instructions in
    let more = front_length b d.instructions (replicate d.group.bars instruction.Join) in record {
      before = subst (λ o. IsProgram d.group.begin.size o (take d.group.begin.classes d.classes) (all_size fs + settled_size (add f c)) (all_code fs ++ settled_code (add f c)))
          (sym (front b d.instructions (replicate d.group.bars instruction.Join) d.group.begin.instructions (omega arith)))
          (same_program d.group.begin.size _ _ _ _ _ _ (ap (λ n. all_size fs + n) (sym (settled_size_added f c))) (ap (λ (l : Code). all_code fs ++ l) (sym (settled_code_added f c))) begin);
      behind = omega arith;
      in_instructions = omega arith;
      classes_behind = omega arith;
      in_classes = h.group.in_classes;
    }

closed_holds : (d : CompilerState) (g : Group) (gs : List Group) (x : Option Pattern) (b : Option Branch) (y : Piece) (f : Frame) (fs : List Frame) → any_bad (state_tokens (add f (part (group_of (pattern_of x (branch_of b y))))) fs) ≡ false
    → AreGroups (g ∷ gs) (f ∷ fs) (take d.group.begin.instructions d.instructions) (take d.group.begin.classes d.classes) → Holds d (record { now = row x b y; outer = f ∷ fs })
    → Holds (record d { instructions = ended_instructions d; outer = gs; group = g; last = part_at d.group.begin }) (record { now = add f (part (group_of (pattern_of x (branch_of b y)))); outer = fs })
closed_holds d g gs x b y f fs good k h =
    let s : ParserState = record { now = row x b y; outer = f ∷ fs } in
    let c = part (group_of (pattern_of x (branch_of b y))) in
    let small = is_small d.size in
    let whole = same_program d.size (ended_instructions d) d.classes _ _ _ _ (size_close x b y f fs) (code_close x b y f fs)
    (program_end d.size d.instructions d.classes (all_size (row x b y ∷ f ∷ fs)) (done_bars x) (all_code (row x b y ∷ f ∷ fs)) d.group.bars small refl (λ n. h.group.bars (omega arith)) h.whole) in
    let stays = closed_stays d s small g (done_of f) fs h k.0 in record {
      whole = whole;
      group = subst (λ p. IsGroup g p fs (ended_instructions d) d.classes) (sym (done_added f c)) (group_stays g (done_of f) fs _ _ _ _ stays k.0);
      groups = groups_stay g gs fs _ _ _ _ stays k.1;
      last = last_part f (group_of (pattern_of x (branch_of b y))) d.group.begin g fs (ended_instructions d) d.classes (closed_part d s small g (done_of f) c f fs h h.group.begin k.0);
      good = good;
      short = closed_bounds d s small (add f c) fs h refl whole good;
      few = h.few;
    }

close_group : (d : CompilerState) (gs : List Group) (x : Option Pattern) (b : Option Branch) (y : Piece) (f : Frame) (fs : List Frame) → any_bad (state_tokens (add f (part (group_of (pattern_of x (branch_of b y))))) fs) ≡ false
    → AreGroups gs (f ∷ fs) (take d.group.begin.instructions d.instructions) (take d.group.begin.classes d.classes) → Holds d (record { now = row x b y; outer = f ∷ fs })
    → (e : CompilerState) × (close_into gs d ≡ Some e) × Holds e (record { now = add f (part (group_of (pattern_of x (branch_of b y)))); outer = fs })
close_group d [] x b y f fs good k h = absurd k
close_group d (g ∷ gs) x b y f fs good k h =
    (record d { instructions = ended_instructions d; outer = gs; group = g; last = part_at d.group.begin }, refl, closed_holds d g gs x b y f fs good k h)

pub close_holds : (d : CompilerState) (now : Frame) (outer : List Frame) (u : ParserState) → close (closed now) outer ≡ Some u → any_bad (state_tokens u.now u.outer) ≡ false → Holds d (record { now = now; outer = outer }) → (e : CompilerState) × (close_into d.outer d ≡ Some e) × Holds e u
close_holds d (fresh x) outer u t good h = absurd (none-some u t)
close_holds d (row x b y) [] u t good h = absurd (none-some u t)
close_holds d (row x b y) (f ∷ fs) u t good h =
    let v : ParserState = record { now = add f (part (group_of (pattern_of x (branch_of b y)))); outer = fs } in
    let same = same_Some v u t in
    let r = close_group d d.outer x b y f fs (ap (λ (w : ParserState). any_bad (state_tokens w.now w.outer)) same ∙ good) h.groups h in
    (r.0, r.1, subst (λ w. Holds r.0 w) same r.2)
