-- The faults of a run, from those of streams, of EREs and of texts, by which the code tells them.
use Rattle.awk_ere.specs.declared.fault.PatternFault.{PatternFault}
use Rattle.awk_ere.specs.declared.fault.PatternFault.TheVariants as patterns
use Rattle.awk_text.specs.declared.fault.TextFault.{TextFault}
use Rattle.awk_text.specs.declared.fault.TextFault.TheVariants as texts
use Rattle.awk_streams.specs.declared.fault.StreamFault.{StreamFault}
use Rattle.awk_streams.specs.declared.fault.StreamFault.TheVariants as streams
use Rattle.awk_semantics.specs.declared.fault.Fault.{Fault}
use Rattle.awk_semantics.specs.declared.fault.Fault.TheVariants as fault

abbrev pub stream_fault : StreamFault → Fault
stream_fault streams.Memory = fault.OutOfMemory
stream_fault streams.WriteFailed = fault.WriteFailed
stream_fault streams.InputNotReadable = fault.InputNotReadable
stream_fault streams.OutputNotOpened = fault.OutputNotOpened
stream_fault streams.TooManyStreams = fault.TooManyStreams
stream_fault streams.RecordTooLong = fault.RecordTooLong

abbrev pub pattern_fault : PatternFault → Fault
pattern_fault patterns.Memory = fault.OutOfMemory
pattern_fault patterns.IllFormed = fault.PatternRefused
pattern_fault patterns.BadCount = fault.PatternRefused
pattern_fault patterns.TooLarge = fault.PatternRefused

abbrev pub text_fault : TextFault → Fault
text_fault texts.Memory = fault.OutOfMemory
text_fault texts.Pattern = fault.PatternRefused
