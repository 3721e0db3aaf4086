-- What one step of the simulation does, instruction by instruction.
use Rattle.std.specs.Prelude.{ℕ, Bool, false, ◌&&◌, ◌||◌, List, [], ◌∷◌, slice_index_or, drop}
use Rattle.awk_ere.specs.definitions.Tree.{has}
use Rattle.awk_ere.specs.definitions.Program.{ResolvedInstruction, read, at_start, at_end, fork, swap, join, enter, leave}
use Rattle.awk_ere.specs.support.Marked.{Marked, meps, mone, mfirst, mlast, mcat, malt, mplus}
use Rattle.awk_ere.specs.declared.simulation.Signal.{Signal}
use Rattle.awk_ere.specs.declared.simulation.Flow.{Flow}

-- what flows before the byte and after it, and what the forks keep of it
pub record Registers : Type 0 where
  pub now : Signal
  pub kept : List Signal

abbrev pub signal : Bool → Bool → Signal
signal m g = record { before = m; after = g }

abbrev pub registers : Bool → Bool → List Signal → Registers
registers m g kept = record { now = signal m g; kept = kept }

-- the position of the instruction
abbrev pub position : List Bool → Bool
position cs = slice_index_or cs 0 false

-- the positions of those behind it
abbrev pub rest_of : List Bool → List Bool
rest_of [] = []
rest_of (c ∷ cs) = cs

abbrev pub swapped : Signal → List Signal → Registers
swapped s [] = record { now = s; kept = [] }
swapped s (t ∷ ts) = record { now = t; kept = s ∷ ts }

abbrev pub joined : Signal → List Signal → Registers
joined s [] = record { now = s; kept = [] }
joined s (t ∷ ts) = record { now = signal (t.before || s.before) (t.after || s.after); kept = ts }

-- at the start of the text, at its end, and where the byte is x
module _ (st en : Bool) (x : ℕ) where
  -- the registers and the position after one instruction
  abbrev pub act : ResolvedInstruction → List Bool → Registers → Registers × Bool
  act (read c) cs r =
      (record { now = signal (position cs) (r.now.before && has c x); kept = r.kept }, r.now.before && has c x)
  act at_start cs r = (record { now = signal (r.now.before && st) (r.now.after && false); kept = r.kept }, position cs)
  act at_end cs r = (record { now = signal (r.now.before && en) (r.now.after && false); kept = r.kept }, position cs)
  act fork cs r = (record { now = r.now; kept = r.now ∷ r.kept }, position cs)
  act swap cs r = (swapped r.now r.kept, position cs)
  act join cs r = (joined r.now r.kept, position cs)
  act (enter d) cs r =
      (record { now = signal (r.now.before || slice_index_or cs d false) r.now.after; kept = r.kept }, position cs)
  act leave cs r = (r, r.now.after)

  -- the registers and the positions after the instructions
  abbrev pub exec : List ResolvedInstruction → List Bool → Registers → Registers × List Bool
  exec [] cs r = (r, [])
  exec (i ∷ is) cs r =
      ((exec is (rest_of cs) (act i cs r).0).0, (act i cs r).1 ∷ (exec is (rest_of cs) (act i cs r).0).1)

-- the pattern's marks, one for each instruction, and then others
abbrev pub positions : Marked → List Bool → List Bool
positions meps cs = cs
positions (mone b c) cs = b ∷ cs
positions mfirst cs = false ∷ cs
positions mlast cs = false ∷ cs
positions (mcat p q) cs = positions p (positions q cs)
positions (malt p q) cs = false ∷ positions p (false ∷ positions q (false ∷ cs))
positions (mplus d p) cs = false ∷ positions p (d ∷ cs)

-- ---- The registers that a flow stands for.

abbrev pub read_off : Flow → List Signal → Registers
read_off f kept = record { now = f.now; kept = drop f.kept kept }
