-- What is gathered by key, in the order in which the keys were made, and what becomes of it where it is gathered in parts.
use Rattle.std.specs.Prelude.{◌≡◌, ℕ, ℤ, ◌+ℤ◌, false, if◌then◌else◌, List, [], ◌∷◌, ◌++◌, bytes_eq, int_lt}

-- a way to gather: what a first update makes, what an update makes of what is there, and the update that stands for all
-- that made a value
pub record Way (V U : Type 0) : Type 0 where
  pub make : U → V
  pub act : V → U → V
  pub replay : V → U

-- what was gathered in this way can be replayed
pub record IsReplayable {V U : Type 0} (way : Way V U) : Type 0 where
  -- a value that is replayed where nothing is, is made again
  pub anew : (x : V) → way.make (way.replay x) ≡ x
  -- what a first update made is replayed as that update
  pub once : (x : V) (u : U) → way.act x (way.replay (way.make u)) ≡ way.act x u
  -- what one more update made of a value is replayed as the value, and then that update
  pub again : (x y : V) (u : U) → way.act x (way.replay (way.act y u)) ≡ way.act (way.act x (way.replay y)) u

-- values by key, in the order in which the keys were made
abbrev pub Table : Type 0 → Type 0
Table V = List (List ℕ × V)

-- the key isn't in the table
abbrev pub IsFree : {V : Type 0} → Table V → List ℕ → Type 0
IsFree [] key = Unit {0}
IsFree (x ∷ xs) key = (bytes_eq key x.0 ≡ false) × IsFree xs key

-- updates, each at a key
abbrev pub Updates : Type 0 → Type 0
Updates U = List (List ℕ × U)

module _ {V U : Type 0} (way : Way V U) where
  -- the table behind an update at a key: what is there is acted on, and a new key goes last
  abbrev pub updated : Table V → (key : List ℕ) → U → Table V
  updated [] key u = (key, way.make u) ∷ []
  updated (x ∷ xs) key u = if bytes_eq key x.0 then (x.0, way.act x.1 u) ∷ xs else x ∷ updated xs key u

  -- the table behind updates, one after the other
  abbrev pub gathered : Table V → Updates U → Table V
  gathered table [] = table
  gathered table (u ∷ us) = gathered (updated table u.0 u.1) us

  -- the table with another one replayed on it, in the order of the other's keys
  abbrev pub replayed : Table V → Table V → Table V
  replayed table [] = table
  replayed table (x ∷ xs) = replayed (updated table x.0 (way.replay x.1)) xs

  -- the updates of all parts, one part after the other
  abbrev pub of_parts : List (Updates U) → Updates U
  of_parts [] = []
  of_parts (us ∷ parts) = us ++ of_parts parts

  -- the table with replayed on it, in turn, what each part gathers by itself
  abbrev pub merged : Table V → List (Updates U) → Table V
  merged table [] = table
  merged table (us ∷ parts) = merged (replayed table (gathered [] us)) parts

-- what a table gathers of updates is the table, with replayed on it what they gather by themselves; and so for any parts
pub record LawOfGathering (V U : Type 0) : Type 0 where
  pub replays : (way : Way V U) → IsReplayable way → (table : Table V) (us : Updates U) → gathered way table us ≡ replayed way table (gathered way [] us)
  pub merges : (way : Way V U) → IsReplayable way → (parts : List (Updates U)) → gathered way [] (of_parts way parts) ≡ merged way [] parts

-- a way whose values are updates themselves: the first one is what it makes, and it is replayed as it is
abbrev pub gathering : {V : Type 0} → (V → V → V) → Way V V
gathering act = record { make = λ x. x; act = act; replay = λ x. x }

abbrev pub sums : Way ℤ ℤ
sums = gathering (λ m n. m +ℤ n)

abbrev pub last_values : (V : Type 0) → Way V V
last_values V = gathering (λ x y. y)

abbrev pub first_values : (V : Type 0) → Way V V
first_values V = gathering (λ x y. x)

-- texts behind one another
abbrev pub texts : Way (List ℕ) (List ℕ)
texts = gathering (λ s t. s ++ t)

-- the greater of two numbers
abbrev pub greater : ℤ → ℤ → ℤ
greater m n = if int_lt m n then n else m

abbrev pub greatest : Way ℤ ℤ
greatest = gathering greater

-- what each of these gathers can be replayed
pub record LawOfWays (V : Type 0) : Type 0 where
  pub of_sums : IsReplayable sums
  pub of_last : IsReplayable (last_values V)
  pub of_first : IsReplayable (first_values V)
  pub of_texts : IsReplayable texts
  pub of_greatest : IsReplayable greatest
