-- The state before a run.
use Rattle.std.specs.Prelude.{◌≡◌, ℕ, suc, pos, false, List, [], length, map, get_or, None}
use Rattle.std.specs.Global.{Vec}
use Rattle.awk_value.specs.declared.value.Value.TheVariants.{Nothing}
use Rattle.awk_kinds.specs.declared.special.Special.{Special}
use Rattle.awk_kinds.specs.Variables.{value_of, name_of, initial_value}
use Rattle.awk_semantics.specs.Meaning.{StartValues, first_arrays}
use Rattle.awk_runtime.specs.declared.start.Assignment.{Assignment}
use Rattle.awk_runtime.specs.declared.start.Parts.{Parts}
use Rattle.awk_runtime.specs.declared.runtime.Runtime.{Runtime}
use Rattle.awk_runtime.specs.support.Naming.{Naming, AreOwn}

-- a name with its text
abbrev pub pair_of : Assignment → List ℕ × List ℕ
pair_of a = (a.name.items, a.text.items)

abbrev pub texts_of : List (Vec ℕ) → List (List ℕ)
texts_of words = map (λ word. word.items) words

-- the operands and the environment; assignments before a run come later
abbrev pub start_of : List (Vec ℕ) → List Assignment → StartValues
start_of operands environ = record { pre = []; operands = texts_of operands; environ = map pair_of environ }

-- the code's state before a run of a program with these names
pub record IsStart (naming : Naming) (start : StartValues) (limit : ℕ) (m : Runtime) : Type 0 where
  pub text : m.current.text ≡ []
  pub fields : m.current.fields ≡ []
  pub names : m.names ≡ naming
  pub own : AreOwn naming.scalars
  pub specials : (x : Special) → value_of m.specials (name_of x) ≡ initial_value (suc (length start.operands)) (name_of x)
  pub globals : (i : ℕ) → get_or m.globals.items i Nothing ≡ Nothing
  pub slots : length m.globals.items ≡ length naming.scalars
  pub arrays : m.arrays ≡ first_arrays start naming.arrays
  pub frames : m.frames ≡ record { frames = []; staged = []; callers = [] }
  pub streams : m.streams ≡ record { main = None; output = []; error = []; named = [] }
  pub next : m.next ≡ pos 1
  pub input_seen : m.input_seen ≡ false
  pub inside : m.inside.items ≡ []
  pub status : m.status ≡ 0
  pub steps : m.steps ≡ limit

-- the code's state of these parts, in which nothing was done
pub record IsPutTogether (naming : Naming) (parts : Parts) (limit : ℕ) (m : Runtime) : Type 0 where
  pub names : m.names ≡ naming
  pub current : m.current ≡ parts.readers.current
  pub specials : m.specials ≡ parts.specials
  pub globals : m.globals ≡ parts.globals
  pub arrays : m.arrays ≡ parts.arrays
  pub frames : m.frames ≡ record { frames = []; staged = []; callers = [] }
  pub streams : m.streams ≡ parts.readers.streams
  pub next : m.next ≡ pos 1
  pub input_seen : m.input_seen ≡ false
  pub inside : m.inside.items ≡ []
  pub status : m.status ≡ 0
  pub steps : m.steps ≡ limit
