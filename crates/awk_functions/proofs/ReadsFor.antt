-- What reading the text of a pattern came to.
use Rattle.std.proofs.Common.{◌≡◌, ℕ, inl, inr, List, Option, Some, None, Result, Ok, Err, refl, ap, ◌∙◌}
use Rattle.awk_ere.specs.Tree.{Tree}
use Rattle.awk_ere.specs.Means.{pattern_of, ReadsAs}
use Rattle.awk_ere.specs.declared.pattern.Pattern.{Pattern}
use Rattle.awk_ere.specs.declared.fault.PatternFault.{PatternFault}
use Rattle.awk_ere.specs.declared.fault.PatternFault.TheVariants.{Memory, IllFormed, BadCount, TooLarge}
use Rattle.awk_semantics.specs.declared.halt.Halt.{Halt}
use Rattle.awk_semantics.specs.declared.halt.Halt.TheVariants as halt
use Rattle.awk_semantics.specs.PartFaults.{pattern_fault}
use Rattle.awk_functions.specs.support.Compiled.{MeansOf, ReadsFor}

pub means_of : (p : Pattern) (o : Option Tree) → ReadsAs (Ok p) o → MeansOf o p
means_of p None r = r
means_of p (Some t) r = r

abbrev not_read : PatternFault → Result Pattern PatternFault
not_read fault = Err fault

refused_as : {A : Type 0} (text : List ℕ) (text_of : A → List ℕ) (fault : PatternFault) (h : Halt) → pattern_of text ≡ None → h ≡ halt.Fault (pattern_fault fault) → ReadsFor text text_of (Err h)
refused_as text text_of Memory h none e = inl e
refused_as text text_of IllFormed h none e = inr (e, none)
refused_as text text_of BadCount h none e = inr (e, none)
refused_as text text_of TooLarge h none e = inr (e, none)

refused_by : {A : Type 0} (text : List ℕ) (text_of : A → List ℕ) (fault : PatternFault) (h : Halt) (o : Option Tree) → pattern_of text ≡ o → ReadsAs (not_read fault) o → h ≡ halt.Fault (pattern_fault fault) → ReadsFor text text_of (Err h)
refused_by text text_of fault h None is r e = refused_as text text_of fault h is e
refused_by text text_of fault h (Some t) is r e = inl (e ∙ ap (λ f. halt.Fault (pattern_fault f)) r)

pub refused_for : {A : Type 0} (text : List ℕ) (text_of : A → List ℕ) (fault : PatternFault) (h : Halt) → ReadsAs (not_read fault) (pattern_of text) → h ≡ halt.Fault (pattern_fault fault) → ReadsFor text text_of (Err h)
refused_for text text_of fault h r e = refused_by text text_of fault h (pattern_of text) refl r e
