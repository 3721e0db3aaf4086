-- What the law of the parser says of an answer.
use Rattle.std.proofs.Common.{◌≡◌, ℕ, ◌≤◌, inl, inr, List, Option, Some, Result, Ok, Err, refl, sym, subst}
use Rattle.std.specs.Prelude.{◌⊎◌}
use Rattle.awk_lex.specs.Told.{kinds_of}
use Rattle.awk_lex.specs.Refused.{IsOutOfMemory}
use Rattle.awk_lex.specs.declared.token.Kind.{Kind}
use Rattle.awk_lex.specs.declared.token.Token.{Token}
use Rattle.awk_lex.specs.declared.refusal.Refusal.{Refusal}
use Rattle.awk_lex.specs.declared.refusal.RefusalCode.{RefusalCode}
use Rattle.awk_lex.specs.declared.refusal.RefusalCode.TheVariants.{NotAProgram, NestedTooDeep, PatternIllFormed, PatternCountRefused, PatternTooLarge, OutOfMemory}
use Rattle.awk_grammar.specs.Tree.{Item}
use Rattle.awk_grammar.specs.Height.{max_height, height_of_program}
use Rattle.awk_grammar.specs.Spelling.{IsProgram}
use Rattle.awk_grammar.specs.Answer.{Says}
use Rattle.awk_grammar.specs.View.{tree_of}
use Rattle.awk_grammar.specs.declared.tree.Tree.{Tree}
use Rattle.awk_syntax.specs.support.Answered.{Gives, Fails}
use Rattle.awk_syntax.specs.definitions.Patterns.{AreReadable, IsLeftmostRefused}
use Rattle.awk_syntax.specs.definitions.Outcome.{IsProgramWithinHeight, Reads, Justifies}
use Rattle.awk_syntax.proofs.LeftmostRefused.{leftmost_unreadable}

-- read: what the parser over lists answers

pub found : (ts : List Kind) (tree : Tree) (read : Option (Option (List Item))) → Gives (Ok tree) read → Says max_height ts read → IsProgramWithinHeight ts (tree_of tree)
found ts tree read g s = subst (Says max_height ts) g s

only_memory : (c : RefusalCode) (xs : List Item) → Fails c (Some (Some xs)) → c ≡ OutOfMemory
only_memory NotAProgram xs f = absurd (cc)
only_memory NestedTooDeep xs f = absurd (cc)
only_memory OutOfMemory xs f = refl
only_memory c xs f = absurd f

pub only : (ts : List Kind) (r : Result Tree Refusal) (read : Option (Option (List Item))) → Gives r read
    → ((xs : List Item) → IsProgram ts xs → height_of_program xs ≤ max_height → read ≡ Some (Some xs))
    → (xs : List Item) → IsProgramWithinHeight ts xs → Reads r xs
only ts (Ok tree) read g reads xs p = let e = reads xs p.0 p.1 in cc
only ts (Err refusal) read g reads xs p = only_memory refusal.code xs (subst (Fails refusal.code) (reads xs p.0 p.1) g)

pub refused : (c : RefusalCode) (line : ℕ) (tokens : List Token) (read : Option (Option (List Item))) → Fails c read → Says max_height (kinds_of tokens) read → Justifies c line tokens
refused NotAProgram line tokens read f s = subst (Says max_height (kinds_of tokens)) f s
refused NestedTooDeep line tokens read f s = subst (Says max_height (kinds_of tokens)) f s
refused OutOfMemory line tokens read f s = tt
refused c line tokens read f s = absurd f

-- a program that is not too high is refused for want of memory or for an ERE
pub pattern_only : (r : Refusal) (tokens : List Token) → IsOutOfMemory r ⊎ IsLeftmostRefused r.code r.line tokens → AreReadable (kinds_of tokens) → IsOutOfMemory r
pattern_only r tokens h readable = elim h [ inl m ↦ m | inr l ↦ absurd (leftmost_unreadable r.code r.line tokens l readable) ]

leftmost_refused : (c : RefusalCode) (line : ℕ) (tokens : List Token) (xs : List Item) → IsProgramWithinHeight (kinds_of tokens) xs → IsLeftmostRefused c line tokens → Justifies c line tokens
leftmost_refused PatternIllFormed line tokens xs p l = ((xs, p), l)
leftmost_refused PatternCountRefused line tokens xs p l = ((xs, p), l)
leftmost_refused PatternTooLarge line tokens xs p l = ((xs, p), l)
leftmost_refused c line tokens xs p l = absurd l.refuses.fails

pub pattern_refused : (r : Refusal) (tokens : List Token) (xs : List Item) → IsProgramWithinHeight (kinds_of tokens) xs → IsOutOfMemory r ⊎ IsLeftmostRefused r.code r.line tokens → Justifies r.code r.line tokens
pattern_refused r tokens xs p h = elim h [
  | inl m ↦ subst (λ c. Justifies c r.line tokens) (sym m) tt
  | inr l ↦ leftmost_refused r.code r.line tokens xs p l
]
