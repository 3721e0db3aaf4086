-- A text that is spelled within the limits is refused for want of memory alone.
use Rattle.std.proofs.Common.{◌≡◌, ℕ, false, List, refl, sym, ap, ◌∙◌, inl, inr, arith}
use Rattle.std.proofs.lemmas.Bool.{false≢true}
use Rattle.awk_ere.specs.definitions.Tree.{Tree, size}
use Rattle.awk_ere.specs.definitions.Limits.{any_bad, SpellsWithin, Refused}
use Rattle.awk_ere.specs.definitions.Written.{Whole, whole_tokens, tree_of, whole_opened, IsWritten}
use Rattle.awk_ere.specs.declared.fault.PatternFault.{PatternFault}
use Rattle.awk_ere.specs.declared.fault.PatternFault.TheVariants.{Memory, IllFormed, BadCount, TooLarge}
use Rattle.awk_ere.proofs.TokenRoundTrip.{one_spelling}
use Rattle.awk_ere.proofs.OneTree.{one_whole}

same_whole : (w v : Whole) (text : List ℕ) → IsWritten w text → IsWritten v text → w ≡ v
same_whole w v text h k = one_whole w v (one_spelling (whole_tokens w) (whole_tokens v) text h k)

-- what is spelled within the limits is refused for want of memory alone
pub read_exactly : (t : Tree) (text : List ℕ) (e : PatternFault) → SpellsWithin t text → Refused e text → e ≡ Memory
read_exactly t text Memory s r = refl
read_exactly t text IllFormed s r = absurd (r s.0 s.1.0)
read_exactly t text BadCount s r =
    let same = same_whole s.0 r.0 text s.1.0 r.1 in
    absurd (false≢true (sym s.1.1 ∙ ap (λ w. any_bad (whole_tokens w)) same ∙ r.2))
read_exactly t text TooLarge s r =
    let same = same_whole s.0 r.0 text s.1.0 r.1 in
    let opened = ap whole_opened same in
    let large = ap (λ w. size (tree_of w)) same in
    let a = s.1.2 in
    let b = s.1.3 in
    elim r.3 [ inl x ↦ absurd (omega arith) | inr x ↦ absurd (omega arith) ]
