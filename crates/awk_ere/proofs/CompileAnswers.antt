-- What compiling a text answers.
use Rattle.std.proofs.Common.{◌≡◌, ◌≤◌, ◌<◌, ℕ, true, false, List, [], ◌∷◌, length, map, Some, Result, Ok, Err, refl, sym, ap, ◌∙◌, inr, arith}
use Rattle.std.specs.Prelude.{◌==◌, IfOk, IfErr}
use Rattle.std.proofs.lemmas.Bool.{false≢true, eqb-true}
use Rattle.awk_ere.specs.definitions.Tree.{Tree, empty, none}
use Rattle.awk_ere.specs.definitions.Program.{resolve, Compiles}
use Rattle.awk_ere.specs.definitions.Limits.{most_opened, any_bad, SpellsWithin, Refused}
use Rattle.awk_ere.specs.definitions.Written.{Pattern, Whole, nothing, whole, whole_tokens, whole_opened, pattern_tree, IsWritten}
use Rattle.awk_ere.specs.support.CompilerResult.{IsCleanText, Makes, Builds}
use Rattle.awk_ere.specs.support.Checks.{Checked}
use Rattle.awk_ere.specs.declared.check.Facts.{Facts}
use Rattle.awk_ere.specs.declared.program.Program.{Program}
use Rattle.awk_ere.specs.declared.fault.PatternFault.{PatternFault}
use Rattle.awk_ere.specs.declared.fault.PatternFault.TheVariants.{Memory, IllFormed, BadCount, TooLarge}

-- ---- what is read

abbrev pub IsRead : List ℕ → Program → Type 0
IsRead text p = (t : Tree) × SpellsWithin t text × Compiles t p

-- the text is written so, no token is bad, and few parentheses are open at once
pub record IsFine (w : Whole) (text : List ℕ) : Type 0 where
  pub written : IsWritten w text
  pub good : any_bad (whole_tokens w) ≡ false
  pub opened : whole_opened w ≤ most_opened

-- what the check tells of such a text
abbrev pub IsFineText : List ℕ → Type 0
IsFineText text = (w : Whole) × IsFine w text

pub fine_text : (text : List ℕ) (f : Facts) → Checked text (Some f) → f.bad ≡ false → f.opened ≤ most_opened → IsFineText text
fine_text text f c good few = (c.0, record { written = c.1; good = c.2 ∙ good; opened = let e = c.3 in omega arith })

clean : (w : Whole) (text : List ℕ) → 0 < length text → IsFine w text → IsCleanText text
clean nothing text l f = let e = ap length f.written.0 in absurd (omega arith)
clean (whole p) text l f = (p, (f.written, f.good))

pub clean_text : (text : List ℕ) → 0 < length text → IsFineText text → IsCleanText text
clean_text text l f = clean f.0 text l f.1

read_made : (p : Pattern) (text : List ℕ) (made : Program) → IsFine (whole p) text → Makes (pattern_tree p none) (Ok made) → IsRead text made
read_made p text made f m = (pattern_tree p none, (whole p, (f.written, f.good, f.opened, m.0), refl), m.1)

found_whole : (w : Whole) (text : List ℕ) (result : Result Program PatternFault) → 0 < length text → IsFine w text → Builds text result → IfOk result (IsRead text)
found_whole nothing text result l f b = let e = ap length f.written.0 in absurd (omega arith)
found_whole (whole p) text (Ok made) l f b = read_made p text made f (b p (f.written, f.good))
found_whole (whole p) text (Err e) l f b = tt

refused_whole : (w : Whole) (text : List ℕ) (result : Result Program PatternFault) → 0 < length text → IsFine w text → Builds text result → IfErr result (λ e. Refused e text)
refused_whole nothing text result l f b = let n = ap length f.written.0 in absurd (omega arith)
refused_whole (whole p) text (Ok made) l f b = tt
refused_whole (whole p) text (Err Memory) l f b = tt
refused_whole (whole p) text (Err IllFormed) l f b = absurd (b p (f.written, f.good))
refused_whole (whole p) text (Err BadCount) l f b = absurd (b p (f.written, f.good))
refused_whole (whole p) text (Err TooLarge) l f b = (whole p, f.written, f.good, inr (b p (f.written, f.good)))

pub found : (text : List ℕ) (result : Result Program PatternFault) → 0 < length text → IsFineText text → Builds text result → IfOk result (IsRead text)
found text result l f b = found_whole f.0 text result l f.1 b

pub refused : (text : List ℕ) (result : Result Program PatternFault) → 0 < length text → IsFineText text → Builds text result → IfErr result (λ e. Refused e text)
refused text result l f b = refused_whole f.0 text result l f.1 b

-- the empty text, and any other
pub found_empty : (text : List ℕ) (p : Program) → true ≡ (length text == 0) → p.instructions.items ≡ [] → IsRead text p
found_empty [] p e f = (empty, (nothing, ((refl, refl), refl, omega arith, omega arith), refl), (tt, ap (map (resolve p.classes.items)) f))
found_empty (b ∷ bs) p e f = let n = eqb-true (length (b ∷ bs)) 0 (sym e) in absurd (omega arith)

pub some_text : (text : List ℕ) → false ≡ (length text == 0) → 0 < length text
some_text [] e = absurd (false≢true e)
some_text (b ∷ bs) e = omega arith
