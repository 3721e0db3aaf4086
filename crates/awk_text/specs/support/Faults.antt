-- The fault of a text for one of the pattern that it is read as.
use Rattle.awk_ere.specs.declared.fault.PatternFault.{PatternFault}
use Rattle.awk_ere.specs.declared.fault.PatternFault.TheVariants as patterns
use Rattle.awk_text.specs.declared.fault.TextFault.{TextFault}
use Rattle.awk_text.specs.declared.fault.TextFault.TheVariants.{Memory, Pattern}

abbrev pub text_fault : PatternFault → TextFault
text_fault patterns.Memory = Memory
text_fault patterns.IllFormed = Pattern
text_fault patterns.BadCount = Pattern
text_fault patterns.TooLarge = Pattern
