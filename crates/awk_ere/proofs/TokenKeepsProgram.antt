-- One token more keeps the compiler state the program of what was read, and at the end it is that of the pattern.
use Rattle.std.proofs.Common.{◌≡◌, ◌≤◌, false, List, [], ◌∷◌, ◌++◌, map, replicate, Option, Some, None, refl, sym, ap, subst, ◌∙◌, append_assoc, arith}
use Rattle.std.proofs.lemmas.List.{append-nil}
use Rattle.std.proofs.lemmas.Option.{same_Some, none-some}
use Rattle.awk_ere.specs.definitions.Tree.{Class, class_of, none}
use Rattle.awk_ere.specs.definitions.Brackets.{Bracket, bracket_has}
use Rattle.awk_ere.specs.declared.program.Instruction.TheVariants as instruction
use Rattle.awk_ere.specs.declared.compiler.checkpoint.Last.TheVariants.{Anchor, Part}
use Rattle.awk_ere.specs.definitions.Program.{resolve, join}
use Rattle.awk_ere.specs.definitions.Tokens.{Atom, ordinary, any, escape, bracket, Token, atom, at_start, at_end, opening, closing, bar, again}
use Rattle.awk_ere.specs.definitions.Limits.{greatest_size, token_is_bad, any_bad}
use Rattle.awk_ere.specs.definitions.Written.{Pattern, Branch, Piece, the_start, the_end, part, one, piece_tree, pattern_tree}
use Rattle.awk_ere.specs.support.Parser.{Frame, fresh, row, ParserState, branch_of, pattern_of, add, take_in, ended, begun}
use Rattle.awk_ere.specs.support.TokenValues.{seen_token}
use Rattle.awk_ere.specs.definitions.Escapes.{escape_value}
use Rattle.awk_ere.specs.support.CompilerState as compiler
use Rattle.awk_ere.specs.support.CompilerState.{CompilerState, limited, is_small, checkpoint_of, push, push_class, open_group, next_branch, ended_instructions}
use Rattle.awk_ere.proofs.ParseRoundTrip.{state_tokens}
use Rattle.awk_ere.proofs.ProgramOfFrames.{Code, tree_code, pattern_size, done_code, done_bars, pieces_code, all_code, all_size, more_pieces, more_size, whole_code, whole_size}
use Rattle.awk_ere.proofs.StateIsProgram.{IsProgram, Holds, same_program, good_next}
use Rattle.awk_ere.proofs.PieceKeepsProgram.{start_holds, end_holds, atom_holds, class_holds}
use Rattle.awk_ere.proofs.GroupKeepsProgram.{open_holds, close_holds, program_end}
use Rattle.awk_ere.proofs.BarKeepsProgram.{bar_holds}
use Rattle.awk_ere.proofs.RepeatKeepsProgram.{repeat_holds}

-- the class is that of the token, if it is a bracket
abbrev pub IsClassOf : Token → Class → Type 0
IsClassOf w c = (k : Bracket) → w ≡ atom (bracket k) → c ≡ class_of (bracket_has k)

abbrev pub Next : Token → Class → CompilerState → ParserState → Type 0
Next w c d u = (e : CompilerState) × (compiler.take_in (seen_token w) c d ≡ Some e) × Holds e u

pub first_holds : Holds compiler.begun begun
first_holds =
    let program : IsProgram 0 [] [] 0 [] = record { size = omega arith; sees = λ _ _. refl; few = λ _. omega arith } in record {
      whole = record { size = omega arith; sees = λ _ _. refl; few = λ _. omega arith };
      group = record {
        begin = program;
        branch = λ _. refl;
        bars = λ _. refl;
        few_bars = omega arith;
        forward = omega arith;
        in_instructions = omega arith;
        in_classes = omega arith;
      };
      groups = tt;
      last = refl;
      good = refl;
      short = omega arith;
      few = omega arith;
    }

next_atom : (a : Atom) (c : Class) (d : CompilerState) (s u : ParserState) → Some (record { now = add s.now (part (one a)); outer = s.outer }) ≡ Some u → any_bad (state_tokens u.now u.outer) ≡ false → IsClassOf (atom a) c → Holds d s → Next (atom a) c d u
next_atom (ordinary b) c d s u t good is h =
    let v : ParserState = record { now = add s.now (part (one (ordinary b))); outer = s.outer } in
    let same = same_Some v u t in (
      push (Part (checkpoint_of d)) (instruction.Byte b) d,
      refl,
      subst (λ w. Holds (push (Part (checkpoint_of d)) (instruction.Byte b) d) w) same
          (atom_holds d s (ordinary b) (instruction.Byte b) h (ap (λ (w : ParserState). any_bad (state_tokens w.now w.outer)) same ∙ good) (λ _. refl)),
    )
next_atom any c d s u t good is h =
    let v : ParserState = record { now = add s.now (part (one any)); outer = s.outer } in
    let same = same_Some v u t in (
      push (Part (checkpoint_of d)) instruction.Any d,
      refl,
      subst (λ w. Holds (push (Part (checkpoint_of d)) instruction.Any d) w) same
          (atom_holds d s any instruction.Any h (ap (λ (w : ParserState). any_bad (state_tokens w.now w.outer)) same ∙ good) (λ _. refl)),
    )
next_atom (escape e) c d s u t good is h =
    let v : ParserState = record { now = add s.now (part (one (escape e))); outer = s.outer } in
    let same = same_Some v u t in (
      push (Part (checkpoint_of d)) (instruction.Byte (escape_value e)) d,
      refl,
      subst (λ w. Holds (push (Part (checkpoint_of d)) (instruction.Byte (escape_value e)) d) w) same
          (atom_holds d s (escape e) (instruction.Byte (escape_value e)) h (ap (λ (w : ParserState). any_bad (state_tokens w.now w.outer)) same ∙ good) (λ _. refl)),
    )
next_atom (bracket k) c d s u t good is h =
    let v : ParserState = record { now = add s.now (part (one (bracket k))); outer = s.outer } in
    let same = same_Some v u t in (
      push_class c d,
      refl,
      subst (λ w. Holds (push_class c d) w) same
          (class_holds d s (bracket k) c h (ap (λ (w : ParserState). any_bad (state_tokens w.now w.outer)) same ∙ good) (is k refl)),
    )

next_token : (w : Token) (c : Class) (d : CompilerState) (s u : ParserState) → take_in w s ≡ Some u → token_is_bad w ≡ false → any_bad (state_tokens u.now u.outer) ≡ false → IsClassOf w c → Holds d s → Next w c d u
next_token (atom a) c d s u t bad good is h = next_atom a c d s u t good is h
next_token at_start c d s u t bad good is h =
    let v : ParserState = record { now = add s.now the_start; outer = s.outer } in
    let same = same_Some v u t in (
      push Anchor instruction.Start d,
      refl,
      subst (λ w. Holds (push Anchor instruction.Start d) w) same (start_holds d s h (ap (λ (w : ParserState). any_bad (state_tokens w.now w.outer)) same ∙ good)),
    )
next_token at_end c d s u t bad good is h =
    let v : ParserState = record { now = add s.now the_end; outer = s.outer } in
    let same = same_Some v u t in (
      push Anchor instruction.End d,
      refl,
      subst (λ w. Holds (push Anchor instruction.End d) w) same (end_holds d s h (ap (λ (w : ParserState). any_bad (state_tokens w.now w.outer)) same ∙ good)),
    )
next_token opening c d s u t bad good is h =
    let v : ParserState = record { now = fresh None; outer = s.now ∷ s.outer } in
    let same = same_Some v u t in (
      open_group d,
      refl,
      subst (λ w. Holds (open_group d) w) same (open_holds d s h (ap (λ (w : ParserState). any_bad (state_tokens w.now w.outer)) same ∙ good)),
    )
next_token closing c d s u t bad good is h = close_holds d s.now s.outer u t good h
next_token bar c d s u t bad good is h = (next_branch d, refl, bar_holds d s.now s.outer u t good h)
next_token (again r) c d s u t bad good is h = repeat_holds r d s.now s.outer u t bad good h

-- one token more
pub next_holds : (w : Token) (c : Class) (d : CompilerState) (s u : ParserState) → take_in w s ≡ Some u → token_is_bad w ≡ false → IsClassOf w c → Holds d s → Next w c d u
next_holds w c d s u t bad is h = next_token w c d s u t bad (good_next w s u t bad h.good) is h

-- ---- the end

end_size : (x : Option Pattern) (b : Option Branch) (y : Piece) → all_size (row x b y ∷ []) ≡ pattern_size (pattern_of x (branch_of b y))
end_size x b y =
    let w = whole_size x (branch_of b y) in
    let m = more_size b y in
    omega arith

end_code : (x : Option Pattern) (b : Option Branch) (y : Piece) → all_code (row x b y ∷ []) ++ replicate (done_bars x) join ≡ tree_code (pattern_tree (pattern_of x (branch_of b y)) none)
end_code x b y =
    let joins = replicate (done_bars x) join in
    let p = pieces_code b ++ tree_code (piece_tree y) in
    let parts : (done_code x ++ p) ++ joins ≡ done_code x ++ (p ++ joins) = append_assoc (done_code x) p joins in
    parts
    ∙ ap (λ (l : Code). done_code x ++ (l ++ joins)) (sym (more_pieces b y))
    ∙ sym (whole_code x (branch_of b y))

ended_program : (d : CompilerState) (now : Frame) (outer : List Frame) (p : Pattern) → ended now outer ≡ Some p → Holds d (record { now = now; outer = outer }) → IsProgram d.size (ended_instructions d) d.classes (pattern_size p) (tree_code (pattern_tree p none))
ended_program d (fresh x) [] p t h = absurd (none-some p t)
ended_program d (fresh x) (g ∷ gs) p t h = absurd (none-some p t)
ended_program d (row x b y) (g ∷ gs) p t h = absurd (none-some p t)
ended_program d (row x b y) [] p t h =
    let q = pattern_of x (branch_of b y) in
    subst (λ r. IsProgram d.size (ended_instructions d) d.classes (pattern_size r) (tree_code (pattern_tree r none))) (same_Some q p t)
    (same_program d.size (ended_instructions d) d.classes _ _ _ _ (end_size x b y) (end_code x b y)
    (program_end d.size d.instructions d.classes (all_size (row x b y ∷ [])) (done_bars x) (all_code (row x b y ∷ [])) d.group.bars (is_small d.size) refl (λ n. h.group.bars (omega arith)) h.whole))

-- the program of the whole pattern, and its size
pub made_size : (d : CompilerState) (s : ParserState) (p : Pattern) → ended s.now s.outer ≡ Some p → Holds d s → d.size ≡ limited (pattern_size p)
made_size d s p t h = (ended_program d s.now s.outer p t h).size

pub made_code : (d : CompilerState) (s : ParserState) (p : Pattern) → ended s.now s.outer ≡ Some p → Holds d s → pattern_size p ≤ greatest_size → map (resolve d.classes) (ended_instructions d) ≡ tree_code (pattern_tree p none)
made_code d s p t h small =
    ap (λ l. map (resolve l) (ended_instructions d)) (sym (append-nil d.classes)) ∙ (ended_program d s.now s.outer p t h).sees small []
