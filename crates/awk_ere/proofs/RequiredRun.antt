-- The longest run of bytes that a program reads stands in each match.
use Rattle.std.proofs.Common.{◌≡◌, ℕ, suc, ◌+◌, ◌-◌, ◌<◌, ◌≤◌, Bool, true, false, List, [], ◌∷◌, length, map, drop, get_or, Option, Some, None, refl, sym, ap, subst, ◌∙◌, arith}
use Rattle.std.specs.Prelude.{◌==◌, nat_lt, if◌then◌else◌}
use Rattle.std.proofs.lemmas.Bool.{false≢true, le-ltb}
use Rattle.std.proofs.lemmas.Option.{same_Some, none-some}
use Rattle.awk_ere.specs.definitions.Tree.{Class, class_of, has}
use Rattle.awk_ere.specs.declared.program.Instruction.{Instruction}
use Rattle.awk_ere.specs.declared.program.Instruction.TheVariants as instructions
use Rattle.awk_ere.specs.definitions.Desugared.{Re, eps, one, first, last, cat, alt, plus, MatchesRe, desugar}
use Rattle.awk_ere.specs.definitions.Program.{ResolvedInstruction, read, at_start, at_end, fork, swap, join, enter, leave, resolve, code, code_size}
use Rattle.awk_ere.specs.support.Required.{StandsInEach}
use Rattle.awk_ere.specs.support.RequiredRun.{depth_behind, byte_of, byte_at, longer, run_behind, longest_behind, longest_run}
use Rattle.awk_ere.specs.declared.pattern.Pattern.{Pattern}
use Rattle.awk_ere.proofs.StandingText.{Stands, stands_append, stands_occurs}
use Rattle.awk_ere.proofs.LiteralOccurs.{byte_read, has_byte}
use Rattle.awk_ere.proofs.DesugaredMatches.{desugar_to}
use Rattle.awk_ere.proofs.MarkedStep.{matches_le}
use Rattle.awk_ere.proofs.StepTellsMatches.{match_within}

-- ---- one instruction

-- how an instruction changes the depth
abbrev depth_at : ResolvedInstruction → ℕ → ℕ
depth_at (read c) d = d
depth_at at_start d = d
depth_at at_end d = d
depth_at fork d = d + 1
depth_at swap d = d
depth_at join d = d - 1
depth_at (enter n) d = d + 1
depth_at leave d = d - 1

abbrev class_of_read : ResolvedInstruction → Class
class_of_read (read c) = c
class_of_read o = []

abbrev reads_byte : ResolvedInstruction → Bool
reads_byte (read c) = true
reads_byte o = false

depth_is : (cs : List Class) (x : Instruction) (d : ℕ) → depth_behind x d ≡ depth_at (resolve cs x) d
depth_is cs (instructions.Byte b) d = refl
depth_is cs instructions.Any d = refl
depth_is cs (instructions.Class n) d = refl
depth_is cs instructions.Start d = refl
depth_is cs instructions.End d = refl
depth_is cs instructions.Fork d = refl
depth_is cs instructions.Swap d = refl
depth_is cs instructions.Join d = refl
depth_is cs (instructions.Enter n) d = refl
depth_is cs instructions.Leave d = refl

byte_is : (cs : List Class) (x : Instruction) (b : ℕ) → byte_of x ≡ Some b → resolve cs x ≡ byte_read b
byte_is cs (instructions.Byte b) c e = ap byte_read (same_Some b c e)
byte_is cs instructions.Any c e = absurd (none-some c e)
byte_is cs (instructions.Class n) c e = absurd (none-some c e)
byte_is cs instructions.Start c e = absurd (none-some c e)
byte_is cs instructions.End c e = absurd (none-some c e)
byte_is cs instructions.Fork c e = absurd (none-some c e)
byte_is cs instructions.Swap c e = absurd (none-some c e)
byte_is cs instructions.Join c e = absurd (none-some c e)
byte_is cs (instructions.Enter n) c e = absurd (none-some c e)
byte_is cs instructions.Leave c e = absurd (none-some c e)

-- the first of the instructions
record Front (cs : List Class) (is : List Instruction) (o : ResolvedInstruction) (rest : List ResolvedInstruction) : Type 0 where
  first : Instruction
  others : List Instruction
  all : is ≡ first ∷ others
  here : resolve cs first ≡ o
  left : map (resolve cs) others ≡ rest

abbrev none_left : List ResolvedInstruction → Bool
none_left [] = true
none_left (x ∷ rest) = false

front : (cs : List Class) (is : List Instruction) (o : ResolvedInstruction) (rest : List ResolvedInstruction) → map (resolve cs) is ≡ o ∷ rest → Front cs is o rest
front cs [] o rest e = absurd (false≢true (sym (ap none_left e)))
front cs (x ∷ is) o rest e = record { first = x; others = is; all = refl; here = ap (λ l. get_or l 0 o) e; left = ap (drop 1) e }

module _ (cs : List Class) (is : List Instruction) (o : ResolvedInstruction) (rest : List ResolvedInstruction) (f : Front cs is o rest) (d : ℕ) (run longest : List ℕ) where
  depth_here : depth_behind f.first d ≡ depth_at o d
  depth_here = depth_is cs f.first d ∙ ap (λ i. depth_at i d) f.here

  at_depth : (n : ℕ) → depth_at o d ≡ n → longest_run is d run longest ≡ longest_run f.others n (run_behind (byte_at n f.first) run) (longest_behind (byte_at n f.first) run longest)
  at_depth n e =
      ap (λ l. longest_run l d run longest) f.all
      ∙ ap (λ n. longest_run f.others n (run_behind (byte_at n f.first) run) (longest_behind (byte_at n f.first) run longest)) (depth_here ∙ e)

  -- into a branch or a body
  step_in : (n : ℕ) → depth_at o d ≡ suc n → longest_run is d run longest ≡ longest_run f.others (suc n) [] (longer run longest)
  step_in n e = at_depth (suc n) e

  -- out of them, or at an anchor
  step_out : depth_at o d ≡ 0 → reads_byte o ≡ false → longest_run is d run longest ≡ longest_run f.others 0 [] (longer run longest)
  step_out e none =
      at_depth 0 e
      ∙ ap (λ b. longest_run f.others 0 (run_behind b run) (longest_behind b run longest)) (no_byte (byte_of f.first) refl)
    where
      no_byte : (b : Option ℕ) → byte_of f.first ≡ b → b ≡ None
      no_byte None h = refl
      no_byte (Some b) h = absurd (false≢true (sym none ∙ sym (ap reads_byte (sym (byte_is cs f.first b h) ∙ f.here))))

-- ---- branches and bodies, in which no byte is kept

longer_nothing : (longest : List ℕ) → longer [] longest ≡ longest
longer_nothing longest = ap (λ b. if b then [] else longest) (le-ltb (length longest) 0 (omega arith))

record Crossed (cs : List Class) (rest : List ResolvedInstruction) (is : List Instruction) (d : ℕ) (longest : List ℕ) : Type 0 where
  others : List Instruction
  left : map (resolve cs) others ≡ rest
  same : longest_run is (suc d) [] longest ≡ longest_run others (suc d) [] longest

module _ (cs : List Class) (longest : List ℕ) where
  across : (o : ResolvedInstruction) (rest : List ResolvedInstruction) (is : List Instruction) (d n : ℕ) (f : Front cs is o rest) → depth_at o d ≡ suc n → longest_run is d [] longest ≡ longest_run f.others (suc n) [] longest
  across o rest is d n f e =
      step_in cs is o rest f d [] longest n e ∙ ap (longest_run f.others (suc n) []) (longer_nothing longest)

  crossed : (r : Re) (rest : List ResolvedInstruction) (is : List Instruction) (d : ℕ) → map (resolve cs) is ≡ code r rest → Crossed cs rest is d longest
  crossed eps rest is d e = record { others = is; left = e; same = refl }
  crossed (one c) rest is d e =
      let f = front cs is (read c) rest e in
      record { others = f.others; left = f.left; same = across (read c) rest is (suc d) d f refl }
  crossed first rest is d e =
      let f = front cs is at_start rest e in
      record { others = f.others; left = f.left; same = across at_start rest is (suc d) d f refl }
  crossed last rest is d e =
      let f = front cs is at_end rest e in
      record { others = f.others; left = f.left; same = across at_end rest is (suc d) d f refl }
  crossed (cat a b) rest is d e =
      let x = crossed a (code b rest) is d e in
      let y = crossed b rest x.others d x.left in
      record { others = y.others; left = y.left; same = x.same ∙ y.same }
  crossed (alt a b) rest is d e =
      let f = front cs is fork (code a (swap ∷ code b (join ∷ rest))) e in
      let x = crossed a (swap ∷ code b (join ∷ rest)) f.others (suc d) f.left in
      let g = front cs x.others swap (code b (join ∷ rest)) x.left in
      let y = crossed b (join ∷ rest) g.others (suc d) g.left in
      let h = front cs y.others join rest y.left in
      record {
        others = h.others;
        left = h.left;
        same =
            across fork _ is (suc d) (suc d) f (omega arith) ∙ x.same
            ∙ across swap _ x.others (suc (suc d)) (suc d) g refl ∙ y.same
            ∙ across join _ y.others (suc (suc d)) d h (omega arith);
      }
  crossed (plus a) rest is d e =
      let f = front cs is (enter (suc (code_size a))) (code a (leave ∷ rest)) e in
      let x = crossed a (leave ∷ rest) f.others (suc d) f.left in
      let h = front cs x.others leave rest x.left in
      record {
        others = h.others;
        left = h.left;
        same =
            across (enter (suc (code_size a))) _ is (suc d) (suc d) f (omega arith) ∙ x.same
            ∙ across leave _ x.others (suc (suc d)) d h (omega arith);
      }

-- ---- what the runs tell of a match from i up to k

record Held (s : List ℕ) (i k : ℕ) (run longest : List ℕ) : Type 0 where
  start : ℕ
  from : i ≤ start
  ends : start ≤ k
  run_stands : Stands s run start k
  low : ℕ
  high : ℕ
  after : i ≤ low
  order : low ≤ high
  before : high ≤ k
  longest_stands : Stands s longest low high

begun : (s : List ℕ) (i : ℕ) → Held s i i [] []
begun s i = record {
  start = i;
  from = omega arith;
  ends = omega arith;
  run_stands = refl;
  low = i;
  high = i;
  after = omega arith;
  order = omega arith;
  before = omega arith;
  longest_stands = refl;
}

-- the run is over
broken : (s : List ℕ) (i k j : ℕ) (run longest : List ℕ) → Held s i k run longest → k ≤ j → Held s i j [] (longer run longest)
broken s i k j run longest h le = by_test (nat_lt (length longest) (length run))
  where
    by_test : (b : Bool) → Held s i j [] (if b then run else longest)
    by_test true = record {
      start = j;
      from = omega (arith, h.from, h.ends);
      ends = omega arith;
      run_stands = refl;
      low = h.start;
      high = k;
      after = h.from;
      order = h.ends;
      before = le;
      longest_stands = h.run_stands;
    }
    by_test false = record {
      start = j;
      from = omega (arith, h.from, h.ends);
      ends = omega arith;
      run_stands = refl;
      low = h.low;
      high = h.high;
      after = h.after;
      order = h.order;
      before = omega (arith, h.before);
      longest_stands = h.longest_stands;
    }

record Passed (cs : List Class) (r : Re) (rest : List ResolvedInstruction) (is : List Instruction) (run longest : List ℕ) : Type 0 where
  others : List Instruction
  left : map (resolve cs) others ≡ rest
  run_then : List ℕ
  longest_then : List ℕ
  same : longest_run is 0 run longest ≡ longest_run others 0 run_then longest_then
  holds : (s : List ℕ) (i k j : ℕ) → Held s i k run longest → MatchesRe s r k j → Held s i j run_then longest_then

module _ (c : Class) (s : List ℕ) (i k j : ℕ) (run longest : List ℕ) where
  byte_held : (b : Option ℕ) → ((x : ℕ) → b ≡ Some x → read c ≡ byte_read x) → Held s i k run longest → MatchesRe s (one c) k j → Held s i j (run_behind b run) (longest_behind b run longest)
  byte_held None is h m = broken s i k j run longest h (omega (arith, m.3))
  byte_held (Some x) is h m =
      let same : c ≡ class_of (λ y. y == x) = ap class_of_read (is x refl) in
      let here = m.1 ∙ ap Some (has_byte x m.0 (subst (λ l. has l m.0 ≡ true) same m.2)) in
      record {
        start = h.start;
        from = h.from;
        ends = omega (arith, h.ends, m.3);
        run_stands = stands_append s run (x ∷ []) h.start k j h.run_stands (here, sym m.3);
        low = h.low;
        high = h.high;
        after = h.after;
        order = h.order;
        before = omega (arith, h.before, m.3);
        longest_stands = h.longest_stands;
      }

module _ (cs : List Class) where
  anchor_passed : (r : Re) (o : ResolvedInstruction) (rest : List ResolvedInstruction) (is : List Instruction) (run longest : List ℕ) (f : Front cs is o rest) → depth_at o 0 ≡ 0 → reads_byte o ≡ false → Passed cs r rest is run longest
  anchor_passed r o rest is run longest f e none = record {
    others = f.others;
    left = f.left;
    run_then = [];
    longest_then = longer run longest;
    same = step_out cs is o rest f 0 run longest e none;
    holds = λ s i k j h m. broken s i k j run longest h (matches_le s r k j m);
  }

  passed : (r : Re) (rest : List ResolvedInstruction) (is : List Instruction) (run longest : List ℕ) → map (resolve cs) is ≡ code r rest → Passed cs r rest is run longest
  passed eps rest is run longest e = record {
    others = is;
    left = e;
    run_then = run;
    longest_then = longest;
    same = refl;
    holds = λ s i k j h m. subst (λ n. Held s i n run longest) m h;
  }
  passed (one c) rest is run longest e =
      let f = front cs is (read c) rest e in
      record {
        others = f.others;
        left = f.left;
        run_then = run_behind (byte_of f.first) run;
        longest_then = longest_behind (byte_of f.first) run longest;
        same = at_depth cs is (read c) rest f 0 run longest 0 refl;
        holds = λ s i k j. byte_held c s i k j run longest (byte_of f.first) (λ x b. sym f.here ∙ byte_is cs f.first x b);
      }
  passed first rest is run longest e = anchor_passed first at_start rest is run longest (front cs is at_start rest e) refl refl
  passed last rest is run longest e = anchor_passed last at_end rest is run longest (front cs is at_end rest e) refl refl
  passed (cat a b) rest is run longest e =
      let x = passed a (code b rest) is run longest e in
      let y = passed b rest x.others x.run_then x.longest_then x.left in
      record {
        others = y.others;
        left = y.left;
        run_then = y.run_then;
        longest_then = y.longest_then;
        same = x.same ∙ y.same;
        holds = λ s i k j h m. y.holds s i m.0 j (x.holds s i k m.0 h m.1) m.2;
      }
  passed (alt a b) rest is run longest e =
      let more = longer run longest in
      let f = front cs is fork (code a (swap ∷ code b (join ∷ rest))) e in
      let x = crossed cs more a (swap ∷ code b (join ∷ rest)) f.others 0 f.left in
      let g = front cs x.others swap (code b (join ∷ rest)) x.left in
      let y = crossed cs more b (join ∷ rest) g.others 0 g.left in
      let h = front cs y.others join rest y.left in
      record {
        others = h.others;
        left = h.left;
        run_then = [];
        longest_then = more;
        same =
            step_in cs is fork _ f 0 run longest 0 (omega arith) ∙ x.same ∙ across cs more swap _ x.others 1 0 g refl ∙ y.same
            ∙ step_out cs y.others join rest h 1 [] more refl refl ∙ ap (longest_run h.others 0 []) (longer_nothing more);
        holds = λ s i k j held m. broken s i k j run longest held (matches_le s (alt a b) k j m);
      }
  passed (plus a) rest is run longest e =
      let more = longer run longest in
      let o = enter (suc (code_size a)) in
      let f = front cs is o (code a (leave ∷ rest)) e in
      let x = crossed cs more a (leave ∷ rest) f.others 0 f.left in
      let h = front cs x.others leave rest x.left in
      record {
        others = h.others;
        left = h.left;
        run_then = [];
        longest_then = more;
        same =
            step_in cs is o _ f 0 run longest 0 (omega arith) ∙ x.same
            ∙ step_out cs x.others leave rest h 1 [] more refl refl ∙ ap (longest_run h.others 0 []) (longer_nothing more);
        holds = λ s i k j held m. broken s i k j run longest held (matches_le s (plus a) k j m);
      }

-- ---- the pattern

nothing_left : (cs : List Class) (is : List Instruction) → map (resolve cs) is ≡ [] → is ≡ []
nothing_left cs [] e = refl
nothing_left cs (x ∷ is) e = absurd (false≢true (ap none_left e))

pub run_stands : (p : Pattern) (needle : List ℕ) → needle ≡ longest_run p.program.instructions.items 0 [] [] → 0 < length needle → StandsInEach needle p
run_stands p needle is some = record {
  some = some;
  stands = λ t means s i j within m.
      let x = passed p.program.classes.items (desugar t) [] p.program.instructions.items [] [] means.1 in
      let h = broken s i j j x.run_then x.longest_then (x.holds s i i j (begun s i) (desugar_to s t i j m)) (omega arith) in
      let same = is ∙ x.same ∙ ap (λ l. longest_run l 0 x.run_then x.longest_then) (nothing_left p.program.classes.items x.others x.left) in
      let end = match_within s t i j m within in
      let o = stands_occurs s needle h.low h.high (omega (arith, h.order, h.before, end)) (subst (λ l. Stands s l h.low h.high) (sym same) h.longest_stands) in
      ∣ record { place = h.low; low = h.after; high = omega (arith, o.1, h.before); occurs = o.0 } ∣₁;
}
