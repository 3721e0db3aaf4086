-- A pattern whose program begins with the start of the text matches there alone.
use Rattle.std.proofs.Common.{◌≡◌, ℕ, Bool, true, false, List, [], ◌∷◌, map, Option, Some, None, refl, sym, ap, ◌∙◌, ◌⊎◌, inl, inr, ⊎_elim}
use Rattle.std.specs.Prelude.{slice_get}
use Rattle.std.proofs.lemmas.Bool.{false≢true}
use Rattle.awk_ere.specs.definitions.Tree.{Class, Tree, Matches}
use Rattle.awk_ere.specs.definitions.Desugared.{Re, eps, one, first, last, cat, alt, plus, MatchesRe, desugar}
use Rattle.awk_ere.specs.definitions.Program.{ResolvedInstruction, at_start, resolve, code}
use Rattle.awk_ere.specs.definitions.Means.{Means}
use Rattle.awk_ere.specs.support.Table.{BeginsAtStart}
use Rattle.awk_ere.specs.declared.pattern.Pattern.{Pattern}
use Rattle.awk_ere.specs.declared.program.Instruction.{Instruction}
use Rattle.awk_ere.specs.declared.program.Instruction.TheVariants as instructions
use Rattle.awk_ere.proofs.DesugaredMatches.{desugar_to}

abbrev is_start : ResolvedInstruction → Bool
is_start at_start = true
is_start other = false

abbrev starts : List ResolvedInstruction → Bool
starts [] = false
starts (x ∷ rest) = is_start x

abbrev first_starts : List Class → Option Instruction → Bool
first_starts cs None = false
first_starts cs (Some x) = is_start (resolve cs x)

abbrev AtStart : Re → Type 0
AtStart r = (s : List ℕ) (i j : ℕ) → MatchesRe s r i j → i ≡ 0

abbrev Nothing : Re → Type 0
Nothing r = (s : List ℕ) (i j : ℕ) → MatchesRe s r i j → i ≡ j

-- where its instructions, before others, begin with the start, it matches there alone, or it has no instruction
begins : (r : Re) (rest : List ResolvedInstruction) → starts (code r rest) ≡ true → AtStart r ⊎ (Nothing r × (starts rest ≡ true))
begins eps rest e = inr (λ s i j m. m, e)
begins (one c) rest e = absurd (false≢true e)
begins first rest e = inl (λ s i j m. m.0)
begins last rest e = absurd (false≢true e)
begins (cat a b) rest e =
    ⊎_elim (λ front. inl (λ s i j m. front s i m.0 m.1))
    (λ none.
    ⊎_elim (λ front. inl (λ s i j m. none.0 s i m.0 m.1 ∙ front s m.0 j m.2))
    (λ both. inr (λ s i j m. none.0 s i m.0 m.1 ∙ both.0 s m.0 j m.2, both.1))
    (begins b rest none.1))
    (begins a (code b rest) e)
begins (alt a b) rest e = absurd (false≢true e)
begins (plus a) rest e = absurd (false≢true e)

first_seen : (cs : List Class) (l : List Instruction) → slice_get l 0 ≡ Some instructions.Start → starts (map (resolve cs) l) ≡ true
first_seen cs [] e = ap (first_starts cs) e
first_seen cs (x ∷ l) e = ap (first_starts cs) e

pub begins_at_start : (t : Tree) (p : Pattern) → Means t p → BeginsAtStart p → (s : List ℕ) (i j : ℕ) → Matches s t i j → i ≡ 0
begins_at_start t p means front s i j m =
    ⊎_elim (λ at. at s i j (desugar_to s t i j m)) (λ none. absurd (false≢true none.1))
    (begins (desugar t) [] (ap starts (sym means.1) ∙ first_seen p.program.classes.items p.program.instructions.items front))
