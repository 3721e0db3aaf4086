-- The transition table: the states that are known, and where each byte leads from them. A state is a list of positions,
-- and is named by the place where its entries begin: one for each byte and one for the end of the text.
use Rattle.std.specs.Prelude.{◌≡◌, ℕ, suc, ◌*◌, ◌<◌, List, map, Option, Some, None, ◌+◌, ◌-◌, ◌/◌, ◌≤◌, Bool, true, false, nat_eq, length, take, drop, slice_index, slice_get}
use Rattle.awk_ere.specs.support.Layout.{byte_count, end_of_text, stride, match_flag, state_bound, fixed_states, least_limit}
use Rattle.awk_ere.specs.declared.dfa.table.Table.{Table}
use Rattle.std.specs.List.{All}
use Rattle.awk_ere.specs.declared.program.Instruction.TheVariants as instructions
use Rattle.awk_ere.specs.declared.pattern.Pattern.{Pattern}
use Rattle.awk_ere.specs.support.SimulationStep.{count_of, leaves, behind, dead_positions, IsStillAt, IsStill, AreFor}
use Rattle.awk_ere.specs.support.Required.{IsRequired}
use Rattle.awk_ere.specs.declared.scratch.Scratch.{Scratch}
use Rattle.awk_ere.specs.declared.first_bytes.FirstBytes.{FirstBytes}
use Rattle.awk_ere.specs.declared.first_bytes.FirstBytes.TheVariants as first
use Rattle.memchr.specs.Find.{is_byte, is_byte2, is_byte3}

-- ---- the literal prefilter: patterns that are a text and nothing else

-- the pattern reads these bytes one after another, and does nothing else
pub record ReadsBytes (bytes : List ℕ) (p : Pattern) : Type 0 where
  pub each : p.program.instructions.items ≡ map instructions.Byte bytes
  pub small : All (λ b. b < byte_count) bytes

-- the bytes are such, if there are any
abbrev pub IsLiteral : Option (List ℕ) → Pattern → Type 0
IsLiteral found p = (bytes : List ℕ) → found ≡ Some bytes → ReadsBytes bytes p

-- ---- states and entries

-- a state that is in the table
pub record IsKnown (tb : Table) (v : ℕ) : Type 0 where
  pub number : ℕ
  pub known : number < tb.count
  pub named : v ≡ stride * suc number

-- the positions of the state with this number
abbrev pub positions_at : Pattern → List Bool → ℕ → List Bool
positions_at p rows d = take (count_of p) (drop (d * count_of p) rows)

-- the number of the state with this name
abbrev pub state_number : ℕ → ℕ
state_number v = v / stride - 1

-- a state that is in the table. The first one is the start of the text.
pub record IsState (p : Pattern) (tb : Table) (v : ℕ) (st : Bool) (cs : List Bool) : Type 0 where
  pub known : state_number v < tb.count
  pub named : v ≡ stride * suc (state_number v)
  pub start : st ≡ nat_eq (state_number v) 0
  pub positions : positions_at p tb.rows.items (state_number v) ≡ cs

-- an entry: 0 is unknown, and else it is a state, with the match flag added where the flow leaves before the byte x
pub record IsEntry (p : Pattern) (tb : Table) (st m : Bool) (cs : List Bool) (x v : ℕ) : Type 0 where
  pub miss : 0 < v → v < match_flag → leaves p cs st m false x ≡ false
  pub goes : 0 < v → v < match_flag → IsState p tb v false (behind p cs st m false x)
  pub hit : match_flag ≤ v → leaves p cs st m false x ≡ true
  pub leads : match_flag ≤ v → IsState p tb (v - match_flag) false (behind p cs st m false x)

-- the entry for the end of the text
pub record IsEnding (p : Pattern) (st m : Bool) (cs : List Bool) (v : ℕ) : Type 0 where
  pub miss : 0 < v → v < match_flag → leaves p cs st m true 0 ≡ false
  pub hit : match_flag ≤ v → leaves p cs st m true 0 ≡ true

-- the entries of all states, where m enters
pub record AreTransitions (p : Pattern) (tb : Table) (m : Bool) (transitions : List ℕ) : Type 0 where
  pub room : stride * suc tb.limit ≤ length transitions
  pub entries : (d x : ℕ) → d < tb.count → x < byte_count → IsEntry p tb (nat_eq d 0) m (positions_at p tb.rows.items d) x (slice_index transitions (stride * suc d + x))
  pub endings : (d : ℕ) → d < tb.count → IsEnding p (nat_eq d 0) m (positions_at p tb.rows.items d) (slice_index transitions (stride * suc d + end_of_text))
  pub blank : (i : ℕ) → stride * suc tb.count ≤ i → slice_index transitions i ≡ 0

pub record IsTable (p : Pattern) (tb : Table) : Type 0 where
  pub least : fixed_states ≤ tb.count
  pub most : tb.count ≤ tb.limit
  pub room : least_limit ≤ tb.limit
  pub few : tb.limit < state_bound
  pub rows : tb.limit * count_of p ≤ length tb.rows.items
  pub start : positions_at p tb.rows.items 0 ≡ dead_positions p
  pub idle : positions_at p tb.rows.items 1 ≡ dead_positions p
  pub unanchored : AreTransitions p tb true tb.unanchored.items
  pub anchored : AreTransitions p tb false tb.anchored.items

-- the table keeps its states, and may have one more
pub record Grows (p : Pattern) (old new : Table) : Type 0 where
  pub up : old.count ≤ new.count
  pub one : new.count ≤ suc old.count
  pub most : old.count ≤ old.limit → new.count ≤ old.limit
  pub limit : new.limit ≡ old.limit
  pub rows : length new.rows.items ≡ length old.rows.items
  pub same : (d : ℕ) → d < old.count → positions_at p new.rows.items d ≡ positions_at p old.rows.items d

-- ---- the first bytes

-- whether a byte is one of them
abbrev pub is_first : FirstBytes → ℕ → Bool
is_first first.Any x = true
is_first first.Never x = false
is_first (first.One a) x = is_byte a x
is_first (first.Two a b) x = is_byte2 a b x
is_first (first.Three a b c) x = is_byte3 a b c x

-- behind the text's start, nothing begins with another one
abbrev pub AreFirst : FirstBytes → Pattern → Type 0
AreFirst f p = (x : ℕ) → x < byte_count → is_first f x ≡ false → IsStillAt p true x

-- the pattern's program begins with the start of the text
abbrev pub BeginsAtStart : Pattern → Type 0
BeginsAtStart p = slice_get p.program.instructions.items 0 ≡ Some instructions.Start

-- the memory of a search by the table serves the pattern
pub record Serves (s : Scratch) (p : Pattern) : Type 0 where
  pub position_set : AreFor s.position_set p
  pub table : IsTable p s.table
  pub anchored_at_start : s.anchored_at_start ≡ true → IsStill p true
  pub begins_at_start : s.anchored_at_start ≡ true → BeginsAtStart p
  pub literal : IsLiteral s.literal p
  pub first_bytes : AreFirst s.first_bytes p
  pub required : IsRequired s.required p

-- the memory of a search is for the pattern: it serves a search by the table, if the pattern isn't a text
pub record IsFor (s : Scratch) (p : Pattern) : Type 0 where
  pub literal : IsLiteral s.literal p
  pub required : IsRequired s.required p
  pub serves : s.literal ≡ None → Serves s p
