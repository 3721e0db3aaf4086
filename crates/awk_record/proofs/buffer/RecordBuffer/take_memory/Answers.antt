use Rattle.std.proofs.Common.{◌≡◌, ◌++◌, List, ℕ, length, sym, ◌∙◌, ap, subst}
use Rattle.std.specs.Prelude.{slice_range}
use Rattle.awk_record.specs.support.Boundary.{IsSearched}
use Rattle.awk_record.specs.definitions.Buffer.{Pending}
use Rattle.awk_record.proofs.RecordAtHand.{taken_back}
use Rattle.awk_record.proofs.ResumedSearches.{searched_more}
use Rattle.awk_record.proofs.buffer.RecordBuffer.take_memory.Goals as goal

pub invariant_of-self : goal.invariant_of-self
invariant_of-self c =
    let b = c.self.inside in
    let old = c.args.self.now.bytes in
    let items = c.args.memory.items in
    let held_is : c.replace.new.dest ≡ old ++ slice_range items (length old) c.args.end =
    c.replace.ensures.after ∙ (c.in_ok-held.ensures ∙ taken_back items old c.args.end c.requires.front c.requires.order) in
    let before : IsSearched old b.search = subst (λ (bytes : List ℕ). IsSearched bytes b.search) (ap (λ (p : Pending). p.bytes) c.self.view_is) c.self.invariant in
    subst (λ (bytes : List ℕ). IsSearched bytes b.search) (sym held_is) (searched_more old (slice_range items (length old) c.args.end) b.search before)

pub returns-clause-ok : goal.returns-clause-ok
returns-clause-ok c =
    c.replace.ensures.after ∙ (c.in_ok-held.ensures ∙ taken_back c.args.memory.items c.args.self.now.bytes c.args.end c.requires.front c.requires.order)
