-- Why a text is no program.
use Rattle.std.specs.Prelude.{◌≡◌, ℕ, List, ◌++◌, codes, decimal}
use Rattle.awk_lex.specs.declared.refusal.Refusal.{Refusal}
use Rattle.awk_lex.specs.declared.refusal.RefusalCode.{RefusalCode}
use Rattle.awk_lex.specs.declared.refusal.RefusalCode.TheVariants.{UnexpectedByte, OpenString, EscapeRefused, OpenPattern, NumberRefused, ProgramTooLong, NotAProgram, NestedTooDeep, PatternIllFormed, PatternCountRefused, PatternTooLarge, ArrayAndScalar, UnknownFunction, DefinedTwice, TooManyArguments, ParameterRefused, StatementOutOfPlace, NameLeftOut, FunctionAsVariable, OutOfMemory}

-- a refused request for memory
abbrev pub IsOutOfMemory : Refusal → Type 0
IsOutOfMemory r = r.code ≡ OutOfMemory

-- how a code is shown
abbrev pub code_text : RefusalCode → List ℕ
code_text UnexpectedByte = codes "L1: unexpected byte"
code_text OpenString = codes "L2: open string"
code_text EscapeRefused = codes "L3: escape refused"
code_text OpenPattern = codes "L4: open pattern"
code_text NumberRefused = codes "L5: number refused"
code_text ProgramTooLong = codes "L6: program too long"
code_text NotAProgram = codes "S1: not a program"
code_text NestedTooDeep = codes "S2: nested too deep"
code_text PatternIllFormed = codes "P1: pattern ill-formed"
code_text PatternCountRefused = codes "P2: interval or range refused"
code_text PatternTooLarge = codes "P3: pattern too large"
code_text ArrayAndScalar = codes "K1: array and scalar"
code_text UnknownFunction = codes "K2: unknown function"
code_text DefinedTwice = codes "K3: function defined twice"
code_text TooManyArguments = codes "K4: too many arguments"
code_text ParameterRefused = codes "K5: parameter refused"
code_text StatementOutOfPlace = codes "K6: statement out of place"
code_text NameLeftOut = codes "K7: name left out"
code_text FunctionAsVariable = codes "K8: function used as a variable"
code_text OutOfMemory = codes "M0: out of memory"

abbrev pub refusal_text : Refusal → List ℕ
refusal_text r = codes "line " ++ (decimal r.line ++ (codes ": refusal " ++ code_text r.code))
