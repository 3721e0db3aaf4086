use Rattle.std.proofs.Common.{sym, subst, List, ℕ}
use Rattle.awk_record.specs.support.Boundary.{IsSearched}
use Rattle.awk_record.proofs.ResumedSearches.{searched_more}
use Rattle.awk_record.proofs.buffer.RecordBuffer.feed.Goals as goal

pub invariant_of-self-2 : goal.invariant_of-self-2
invariant_of-self-2 c =
    let b = c.self-2.inside in
    subst (λ (bytes : List ℕ). IsSearched bytes b.search) (sym c.in_ok-extend_from_slice.ensures.bytes) (searched_more b.held c.args.piece.now b.search c.self-2.invariant)
