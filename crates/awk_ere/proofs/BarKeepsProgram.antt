-- A bar keeps the compiler state the program of what was read.
use Rattle.std.proofs.Common.{◌≡◌, ◌≤◌, ℕ, ◌+◌, Bool, true, false, cond, List, [], ◌∷◌, ◌++◌, length, take, drop, map, Option, Some, refl, sym, ap, subst, ◌∙◌, append_assoc, arith}
use Rattle.std.specs.Prelude.{insert}
use Rattle.std.proofs.lemmas.List.{length-append, length-take-le, map-append, take-append-le, take-take}
use Rattle.std.proofs.lemmas.List.Edits.{length-insert}
use Rattle.std.proofs.lemmas.Option.{same_Some, none-some}
use Rattle.awk_ere.specs.definitions.Tree.{Class}
use Rattle.awk_ere.specs.declared.program.Instruction.{Instruction}
use Rattle.awk_ere.specs.declared.program.Instruction.TheVariants as instruction
use Rattle.awk_ere.specs.declared.compiler.checkpoint.Last.TheVariants.{Nothing}
use Rattle.awk_ere.specs.definitions.Program.{fork, swap, resolve}
use Rattle.awk_ere.specs.definitions.Limits.{greatest_size, any_bad}
use Rattle.awk_ere.specs.definitions.Written.{Pattern, Branch, Piece, piece_tree}
use Rattle.awk_ere.specs.support.Parser.{Frame, fresh, row, ParserState, branch_of, pattern_of, closed, next_branch as spec_next}
use Rattle.awk_ere.specs.support.CompilerState.{CompilerState, limited, is_small, next_branch}
use Rattle.awk_ere.proofs.ParseRoundTrip.{state_tokens}
use Rattle.awk_ere.proofs.ProgramOfFrames.{Code, tree_code, done_code, done_size, pieces_code, all_code, all_size, more_pieces, more_size, whole_size, more_done, more_bars, few_bars}
use Rattle.awk_ere.proofs.StateIsProgram.{Sees, Holds, Stays, same_program, sees_length, sees_front, sees_back, small_size, large_size, short_program, group_stays, groups_stay}

-- the instructions with a bar behind their last branch, which begins at j
abbrev with_bar : List Instruction → ℕ → List Instruction
with_bar instructions j = insert instructions j instruction.Fork ++ instruction.Swap ∷ []

length-with_bar : (instructions : List Instruction) (j : ℕ) → j ≤ length instructions → length (with_bar instructions j) ≡ length instructions + 2
length-with_bar instructions j h =
    omega (arith, length-append (insert instructions j instruction.Fork) (instruction.Swap ∷ []), length-insert instructions j instruction.Fork h)

sees_bar : (cs : List Class) (instructions : List Instruction) (j : ℕ) (a b : Code) → Sees cs instructions (a ++ b) → j ≡ length a → Sees cs (with_bar instructions j) (a ++ fork ∷ (b ++ swap ∷ []))
sees_bar cs instructions j a b h e more =
    let see = resolve (cs ++ more) in
    map-append see (insert instructions j instruction.Fork) (instruction.Swap ∷ [])
    ∙ ap (λ (l : Code). l ++ swap ∷ []) (map-append see (take j instructions) (instruction.Fork ∷ drop j instructions))
    ∙ append_assoc (map see (take j instructions)) (fork ∷ map see (drop j instructions)) (swap ∷ [])
    ∙ ap (λ (l : Code). l ++ fork ∷ (map see (drop j instructions) ++ swap ∷ [])) (sees_front cs instructions j a b h e more)
    ∙ ap (λ (l : Code). a ++ fork ∷ (l ++ swap ∷ [])) (sees_back cs instructions j a b h e more)

-- the compiler state with a bar, and without one where it is too large
abbrev after_bar : CompilerState → Bool → CompilerState
after_bar d b =
    cond b
    (record d {
      instructions = with_bar d.instructions d.group.branch;
      group = record d.group { branch = length d.instructions + 2; bars = d.group.bars + 1 };
      last = Nothing;
      size = limited (d.size + 1);
    })
    (record d { last = Nothing; size = limited (d.size + 1) })

-- the size with a bar behind the branch
size_bar : (x : Option Pattern) (b : Option Branch) (y : Piece) (fs : List Frame) → all_size (row x b y ∷ fs) + 1 ≡ all_size (fresh (Some (pattern_of x (branch_of b y))) ∷ fs)
size_bar x b y fs = let w = whole_size x (branch_of b y) in let m = more_size b y in omega arith

code_bar : (x : Option Pattern) (b : Option Branch) (y : Piece) (fs : List Frame) → (all_code fs ++ done_code x) ++ fork ∷ ((pieces_code b ++ tree_code (piece_tree y)) ++ swap ∷ []) ≡ all_code (fresh (Some (pattern_of x (branch_of b y))) ∷ fs)
code_bar x b y fs =
    append_assoc (all_code fs) (done_code x) (fork ∷ ((pieces_code b ++ tree_code (piece_tree y)) ++ swap ∷ []))
    ∙ ap (λ (l : Code). all_code fs ++ l)
    (ap (λ (l : Code). done_code x ++ fork ∷ (l ++ swap ∷ [])) (sym (more_pieces b y)) ∙ sym (more_done x (branch_of b y)))

bar_stays : (d : CompilerState) (s : ParserState) → Holds d s → Stays d.group d.instructions (with_bar d.instructions d.group.branch) d.classes d.classes
bar_stays d s h =
    let forward = h.group.forward in
    let i = h.group.in_instructions in
    let l = length-with_bar d.instructions d.group.branch i in
    let t = length-take-le d.group.branch d.instructions i in record {
      same_instructions =
          ap (take d.group.begin.instructions) (append_assoc (take d.group.branch d.instructions) (instruction.Fork ∷ drop d.group.branch d.instructions) (instruction.Swap ∷ []))
          ∙ take-append-le d.group.begin.instructions (take d.group.branch d.instructions) _ (omega arith)
          ∙ take-take d.group.begin.instructions d.group.branch d.instructions forward;
      same_classes = refl;
      in_instructions = omega arith;
      in_classes = h.group.in_classes;
    }

barred_holds : (d : CompilerState) (x : Option Pattern) (b : Option Branch) (y : Piece) (fs : List Frame) (small : Bool) → is_small (limited (d.size + 1)) ≡ small → any_bad (state_tokens (fresh (Some (pattern_of x (branch_of b y)))) fs) ≡ false → Holds d (record { now = row x b y; outer = fs }) → Holds (after_bar d small) (record { now = fresh (Some (pattern_of x (branch_of b y))); outer = fs })
barred_holds d x b y fs true e good h =
    let p = pattern_of x (branch_of b y) in
    let n = all_size (row x b y ∷ fs) in
    let front = all_code fs ++ done_code x in
    let back = pieces_code b ++ tree_code (piece_tree y) in
    let instructions' = with_bar d.instructions d.group.branch in
    let size = h.whole.size in
    let next : limited (d.size + 1) ≡ limited (n + 1) = omega arith in
    let small = small_size (limited (d.size + 1)) (n + 1) next e in
    let before : all_size fs + done_size x ≤ greatest_size = omega arith in
    let parts = append_assoc (all_code fs) (done_code x) back in
    let sees : Sees d.classes instructions' (front ++ fork ∷ (back ++ swap ∷ [])) =
    sees_bar d.classes d.instructions d.group.branch front back (subst (λ k. Sees d.classes d.instructions k) (sym parts) (h.whole.sees (omega arith))) (h.group.branch before) in
    let few = h.whole.few (omega arith) in
    let whole = same_program (limited (d.size + 1)) instructions' d.classes (n + 1) _ _ _ (size_bar x b y fs) (code_bar x b y fs)
    (record { size = next; sees = λ _. sees; few = λ _. omega arith }) in
    let stays = bar_stays d (record { now = row x b y; outer = fs }) h in
    let same = group_stays d.group x fs d.instructions instructions' d.classes d.classes stays h.group in
    let count = h.group.bars before in
    let few_done = few_bars x in
    let bars = more_bars x (branch_of b y) in
    let forward = h.group.forward in
    let length_now = length-with_bar d.instructions d.group.branch h.group.in_instructions in
    let bound = short_program (limited (d.size + 1)) instructions' d.classes (fresh (Some p)) fs whole good e in record {
      whole = whole;
      group = record {
        begin = same.begin;
        branch = λ _. sym length_now ∙ sees_length d.classes instructions' (all_code (fresh (Some p) ∷ fs)) (whole.sees (let s = size_bar x b y fs in omega arith));
        bars = λ _. omega arith;
        few_bars = omega arith;
        forward = let i = h.group.in_instructions in omega arith;
        in_instructions = omega arith;
        in_classes = h.group.in_classes;
      };
      groups = groups_stay d.group d.outer fs d.instructions instructions' d.classes d.classes stays h.groups;
      last = refl;
      good = good;
      short = bound.0;
      few = bound.1;
    }
barred_holds d x b y fs false e good h =
    let p = pattern_of x (branch_of b y) in
    let n = all_size (row x b y ∷ fs) in
    let size = h.whole.size in
    let more = size_bar x b y fs in
    let next : limited (d.size + 1) ≡ limited (all_size (fresh (Some p) ∷ fs)) = omega arith in
    let large = large_size (limited (d.size + 1)) (all_size (fresh (Some p) ∷ fs)) next e in record {
      whole = record { size = next; sees = λ small. absurd (omega arith); few = λ small. absurd (omega arith) };
      group = record {
        begin = h.group.begin;
        branch = λ small. absurd (omega arith);
        bars = λ small. absurd (omega arith);
        few_bars = h.group.few_bars;
        forward = h.group.forward;
        in_instructions = h.group.in_instructions;
        in_classes = h.group.in_classes;
      };
      groups = h.groups;
      last = refl;
      good = good;
      short = h.short;
      few = h.few;
    }

pub bar_holds : (d : CompilerState) (now : Frame) (outer : List Frame) (u : ParserState) → spec_next (closed now) outer ≡ Some u → any_bad (state_tokens u.now u.outer) ≡ false → Holds d (record { now = now; outer = outer }) → Holds (next_branch d) u
bar_holds d (fresh x) outer u t good h = absurd (none-some u t)
bar_holds d (row x b y) outer u t good h =
    let v : ParserState = record { now = fresh (Some (pattern_of x (branch_of b y))); outer = outer } in
    let same = same_Some v u t in
    subst (λ w. Holds (next_branch d) w) same
    (barred_holds d x b y outer (is_small (limited (d.size + 1))) refl (ap (λ (w : ParserState). any_bad (state_tokens w.now w.outer)) same ∙ good) h)
