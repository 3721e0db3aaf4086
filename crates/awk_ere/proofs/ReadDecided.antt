-- What reading a text answers is decided by the pattern that the text spells.
use Rattle.std.proofs.Common.{◌≡◌, ℕ, List, Option, Some, None, Result, Ok, Err, refl, sym, subst}
use Rattle.std.specs.Prelude.{IfOk, IfErr}
use Rattle.awk_ere.specs.definitions.Tree.{Tree}
use Rattle.awk_ere.specs.definitions.Limits.{Refused, SpellsWithin}
use Rattle.awk_ere.specs.support.PatternOf.{pattern_of}
use Rattle.awk_ere.specs.declared.fault.PatternFault.{PatternFault}
use Rattle.awk_ere.proofs.PatternDecided.{pattern_sound, pattern_complete}
use Rattle.awk_ere.proofs.RefusalsExclusive.{read_exactly}
use Rattle.awk_ere.specs.definitions.Means.{Means, ReadsAs}
use Rattle.awk_ere.specs.declared.pattern.Pattern.{Pattern}

not_read : (text : List ℕ) (fault : PatternFault) (o : Option Tree) → pattern_of text ≡ o → Refused fault text → ReadsAs (Err fault) o
not_read text fault None e r = tt
not_read text fault (Some t) e r = read_exactly t text fault (pattern_sound text t e) r

pub read_as : (text : List ℕ) (result : Result Pattern PatternFault) → IfOk result (λ p. (t : Tree) × SpellsWithin t text × Means t p) → IfErr result (λ fault. Refused fault text) → ReadsAs result (pattern_of text)
read_as text (Ok p) found refused = subst (ReadsAs (Ok p)) (sym (pattern_complete text found.0 found.1)) found.2
read_as text (Err fault) found refused = not_read text fault (pattern_of text) refl refused
