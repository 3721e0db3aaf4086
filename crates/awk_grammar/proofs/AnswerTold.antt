-- What the answer of the parser over kept trees tells, by the grammar alone.
use Rattle.std.proofs.Common.{◌≡◌, ℕ, ◌≤◌, ◌<◌, inl, inr, List, Option, Some, None, refl, sym, ap, ◌∙◌, subst}
use Rattle.std.proofs.lemmas.Bool.{cases_lt}
use Rattle.awk_lex.specs.declared.token.Kind.{Kind}
use Rattle.awk_grammar.specs.support.UnlimitedParser as unlimited
use Rattle.awk_grammar.specs.support.Parser as parser
use Rattle.awk_grammar.specs.definitions.Tree.{Item}
use Rattle.awk_grammar.specs.definitions.Height.{height_of_program}
use Rattle.awk_grammar.specs.definitions.Spelling.{IsProgram}
use Rattle.awk_grammar.specs.definitions.Answer.{Says}
use Rattle.awk_grammar.proofs.ProgramsComplete.{reads}
use Rattle.awk_grammar.proofs.ParserSound.{sound}
use Rattle.awk_grammar.proofs.PrunedNodes.{low, high, keep_items}
use Rattle.awk_grammar.proofs.PrunedSteps.{kept, read_kept}

-- a program of a height that is allowed
pub accepted : (m : ℕ) (ts : List Kind) (xs : List Item) → 3 ≤ m → IsProgram ts xs → height_of_program xs ≤ m → parser.read m ts ≡ Some (Some xs)
accepted m ts xs n p h = read_kept m ts n ∙ ap (kept m) (reads ts xs p) ∙ ap Some (low m (height_of_program xs) xs h)

-- a program that is too high
pub too_high : (m : ℕ) (ts : List Kind) (xs : List Item) → 3 ≤ m → IsProgram ts xs → m < height_of_program xs → parser.read m ts ≡ Some None
too_high m ts xs n p h = read_kept m ts n ∙ ap (kept m) (reads ts xs p) ∙ ap Some (high m (height_of_program xs) xs h)

says_kept : (m : ℕ) (ts : List Kind) (xs : List Item) → IsProgram ts xs → Says m ts (Some (keep_items m xs))
says_kept m ts xs p = elim (cases_lt m (height_of_program xs)) [
  | inl h ↦ subst (λ z. Says m ts (Some z)) (sym (high m (height_of_program xs) xs h)) (xs, p, h)
  | inr h ↦ subst (λ z. Says m ts (Some z)) (sym (low m (height_of_program xs) xs h)) (p, h)
]

says_by : (m : ℕ) (ts : List Kind) (r : Option (List Item)) → unlimited.read ts ≡ r → Says m ts (kept m r)
says_by m ts None e = λ xs p. (let q : None ≡ Some xs = sym e ∙ reads ts xs p in absurd (cc))
says_by m ts (Some xs) e = says_kept m ts xs (sound ts xs e)

-- each of the three answers tells what it should
pub says : (m : ℕ) (ts : List Kind) → 3 ≤ m → Says m ts (parser.read m ts)
says m ts n = subst (Says m ts) (sym (read_kept m ts n)) (says_by m ts (unlimited.read ts) refl)
