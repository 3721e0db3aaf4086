-- The size and the instructions of a repeat, as the code makes them.
use Rattle.std.proofs.Common.{◌≡◌, ◌≤◌, ◌<◌, ℕ, zero, suc, ◌+◌, ◌-◌, ◌*◌, true, false, nat_le, List, [], ◌++◌, map, ap, ◌∙◌, inl, inr, arith}
use Rattle.std.proofs.lemmas.Bool.{false≢true, or_parts, not-false, leb-true, leb-false}
use Rattle.std.proofs.lemmas.Bool.Decides.{leb_tells}
use Rattle.awk_ere.specs.definitions.Tree.{Class, repeated_size}
use Rattle.awk_ere.specs.definitions.Desugared.{Re, copies, up_to, repeated}
use Rattle.awk_ere.specs.definitions.Program.{resolve, code}
use Rattle.awk_ere.specs.definitions.Tokens.{Repeat, star, plus, option, exactly, at_least, between, number, count_of}
use Rattle.awk_ere.specs.definitions.Limits.{greatest_size, greatest_count, repeat_is_bad}
use Rattle.awk_ere.specs.declared.program.Instruction.{Instruction}
use Rattle.awk_ere.specs.support.TokenValues.{seen_count, seen_repeat}
use Rattle.awk_ere.specs.support.RepeatInstructions.{rounds, any_rounds, up_to_rounds, repeat_instructions}
use Rattle.awk_ere.specs.support.CompilerState.{limited, seen_size, is_never}
use Rattle.awk_ere.proofs.RepeatProgram.{see_rounds, see_some, see_any, see_up_to, behind}

-- a count that is not above 255 is itself
same_count : (ds : List ℕ) → number 0 ds ≤ greatest_count → seen_count ds ≡ number 0 ds
same_count ds h = omega arith

exact_count : (ds : List ℕ) → repeat_is_bad (exactly ds) ≡ false → seen_count ds ≡ number 0 ds
exact_count ds e = same_count ds (leb-true (number 0 ds) greatest_count (not-false (nat_le (number 0 ds) greatest_count) e))

least_count : (ds : List ℕ) → repeat_is_bad (at_least ds) ≡ false → seen_count ds ≡ number 0 ds
least_count ds e = same_count ds (leb-true (number 0 ds) greatest_count (not-false (nat_le (number 0 ds) greatest_count) e))

two_counts : (ds es : List ℕ) → repeat_is_bad (between ds es) ≡ false → (seen_count ds ≡ number 0 ds) × (seen_count es ≡ number 0 es) × (number 0 ds ≤ number 0 es)
two_counts ds es e =
    let parts = or_parts _ _ e in
    let most = leb-true (number 0 es) greatest_count (not-false (nat_le (number 0 es) greatest_count) parts.0) in
    let order = leb-true (number 0 ds) (number 0 es) (not-false (nat_le (number 0 ds) (number 0 es)) parts.1) in
    (same_count ds (omega arith), same_count es most, order)

-- ---- the size

-- m times something behind something
scaled : (m a n : ℕ) → limited (limited a + (m * (limited (a + n) - limited a) + 1)) ≡ limited (a + (m * n + 1))
scaled zero a n = omega arith
scaled (suc m) a n =
    elim (leb_tells (a + n) greatest_size) [
      | inl small ↦
          let l = small.1 in
          let e : limited (a + n) - limited a ≡ n = omega arith in
          let f : limited a ≡ a = omega arith in
          ap (λ k. limited (limited a + (suc m * k + 1))) e ∙ ap (λ k. limited (k + (suc m * n + 1))) f
      | inr large ↦
          let l = large.1 in
          let k = limited (a + n) - limited a in
          let e : suc greatest_size ≤ limited a + k = omega arith in
          let left : suc m * k ≡ m * k + k = omega arith in
          let right : suc m * n ≡ m * n + n = omega arith in
          omega arith
    ]

pub size_seen : (r : Repeat) (a n : ℕ) → repeat_is_bad r ≡ false → limited (limited a + seen_size (seen_repeat r) (limited (a + n) - limited a)) ≡ limited (a + repeated_size (count_of r) n)
size_seen star a n e = omega arith
size_seen plus a n e = omega arith
size_seen option a n e = omega arith
size_seen (exactly ds) a n e =
    ap (λ m. limited (limited a + (m * (limited (a + n) - limited a) + 1))) (exact_count ds e) ∙ scaled (number 0 ds) a n
size_seen (at_least ds) a n e =
    ap (λ m. limited (limited a + ((m + 1) * (limited (a + n) - limited a) + 1))) (least_count ds e) ∙ scaled (number 0 ds + 1) a n
size_seen (between ds es) a n e =
    ap (λ m. limited (limited a + (m * (limited (a + n) - limited a) + 1))) (two_counts ds es e).1 ∙ scaled (number 0 es) a n

once : (m n : ℕ) → 0 < m → n ≤ m * n
once zero n h = absurd (omega arith)
once (suc m) n h = omega arith

-- a repeat that allows a round is as large as its body
pub size_grows : (r : Repeat) (n : ℕ) → repeat_is_bad r ≡ false → is_never (seen_repeat r) ≡ false → n ≤ repeated_size (count_of r) n
size_grows star n e f = omega arith
size_grows plus n e f = omega arith
size_grows option n e f = omega arith
size_grows (exactly ds) n e f =
    let c = exact_count ds e in
    let l = leb-false (seen_count ds) 0 f in
    let o = once (number 0 ds) n (omega arith) in
    omega arith
size_grows (at_least ds) n e f = let o = once (number 0 ds + 1) n (omega arith) in omega arith
size_grows (between ds es) n e f =
    let c = (two_counts ds es e).1 in
    let l = leb-false (seen_count es) 0 f in
    let o = once (number 0 es) n (omega arith) in
    omega arith

-- ---- the instructions

pub see_repeat : (cs : List Class) (r : Repeat) (body : List Instruction) (a : Re) → repeat_is_bad r ≡ false → map (resolve cs) body ≡ code a [] → map (resolve cs) (repeat_instructions (seen_repeat r) body) ≡ code (repeated (count_of r) a) []
see_repeat cs star body a e h = see_any cs body a h
see_repeat cs plus body a e h = see_some cs body a h
see_repeat cs option body a e h = see_up_to cs 1 body a h
see_repeat cs (exactly ds) body a e h =
    ap (λ m. map (resolve cs) (rounds m body)) (exact_count ds e) ∙ see_rounds cs (number 0 ds) body a h
see_repeat cs (at_least ds) body a e h =
    let m = number 0 ds in
    ap (λ k. map (resolve cs) (rounds k body ++ any_rounds body)) (least_count ds e)
    ∙ behind cs (rounds m body) (any_rounds body) (copies m a) (see_rounds cs m body a h)
    ∙ ap (code (copies m a)) (see_any cs body a h)
see_repeat cs (between ds es) body a e h =
    let c = two_counts ds es e in
    let m = number 0 ds in
    let k = number 0 es in
    ap (λ i. map (resolve cs) (rounds i body ++ up_to_rounds (seen_count es - i) body)) c.0
    ∙ ap (λ j. map (resolve cs) (rounds m body ++ up_to_rounds (j - m) body)) c.1
    ∙ behind cs (rounds m body) (up_to_rounds (k - m) body) (copies m a) (see_rounds cs m body a h)
    ∙ ap (code (copies m a)) (see_up_to cs (k - m) body a h)

-- a repeat that allows no round has no instruction
pub no_instructions : (r : Repeat) (body : List Instruction) → repeat_is_bad r ≡ false → is_never (seen_repeat r) ≡ true → repeat_instructions (seen_repeat r) body ≡ []
no_instructions star body e t = absurd (false≢true t)
no_instructions plus body e t = absurd (false≢true t)
no_instructions option body e t = absurd (false≢true t)
no_instructions (exactly ds) body e t =
    let l = leb-true (seen_count ds) 0 t in
    let z : seen_count ds ≡ 0 = omega arith in
    ap (λ m. rounds m body) z
no_instructions (at_least ds) body e t = absurd (false≢true t)
no_instructions (between ds es) body e t =
    let c = two_counts ds es e in
    let l = leb-true (seen_count es) 0 t in
    let y : seen_count ds ≡ 0 = let a = c.0 in let b = c.1 in let o = c.2 in omega arith in
    let z : seen_count es - 0 ≡ 0 = omega arith in
    ap (λ i. rounds i body ++ up_to_rounds (seen_count es - i) body) y ∙ ap (λ i. up_to_rounds i body) z

pub no_code : (r : Repeat) (a : Re) → repeat_is_bad r ≡ false → is_never (seen_repeat r) ≡ true → code (repeated (count_of r) a) [] ≡ []
no_code star a e t = absurd (false≢true t)
no_code plus a e t = absurd (false≢true t)
no_code option a e t = absurd (false≢true t)
no_code (exactly ds) a e t =
    let l = leb-true (seen_count ds) 0 t in
    let c = exact_count ds e in
    let z : number 0 ds ≡ 0 = omega arith in
    ap (λ m. code (copies m a) []) z
no_code (at_least ds) a e t = absurd (false≢true t)
no_code (between ds es) a e t =
    let c = two_counts ds es e in
    let l = leb-true (seen_count es) 0 t in
    let y : number 0 ds ≡ 0 = let b = c.1 in let o = c.2 in omega arith in
    let z : number 0 es - 0 ≡ 0 = let b = c.1 in omega arith in
    ap (λ i. code (copies i a) (code (up_to (number 0 es - i) a) [])) y ∙ ap (λ i. code (up_to i a) []) z
