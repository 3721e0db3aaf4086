-- What outputs hold back, and how one of them changes.
use Rattle.std.specs.Prelude.{◌≡◌, ◌≢◌, ℕ, Bool, true, false, List, [], ◌∷◌, ◌++◌}
use Rattle.awk_streams.specs.declared.named.NamedStream.{NamedStream}
use Rattle.awk_streams.specs.declared.named.NamedStream.TheVariants as named
use Rattle.awk_streams.specs.definitions.Streams.{StreamsView}

-- none of these outputs has this number
abbrev pub AreOtherOutputs : ℕ → List (ℕ × List ℕ) → Type 0
AreOtherOutputs id [] = Unit {0}
AreOtherOutputs id (h ∷ hs) = (h.0 ≢ id) × AreOtherOutputs id hs

-- of these outputs the one of this number holds back other bytes
pub record ChangesHeld (id : ℕ) (held held' : List ℕ) (old new : List (ℕ × List ℕ)) : Type 0 where
  pub front : List (ℕ × List ℕ)
  pub back : List (ℕ × List ℕ)
  pub old_is : old ≡ front ++ (id, held) ∷ back
  pub new_is : new ≡ front ++ (id, held') ∷ back
  pub others_front : AreOtherOutputs id front
  pub others_back : AreOtherOutputs id back

-- nothing is held back
abbrev pub AreEmpty : List NamedStream → Type 0
AreEmpty [] = Unit {0}
AreEmpty (named.Input kind name input ∷ xs) = AreEmpty xs
AreEmpty (named.Output kind name output ∷ xs) = (output.held ≡ []) × AreEmpty xs

pub record HoldsNothing (streams : StreamsView) : Type 0 where
  pub output : streams.output ≡ []
  pub error : streams.error ≡ []
  pub named : AreEmpty streams.named

-- what a stream holds back
abbrev pub held_by : NamedStream → List ℕ
held_by (named.Input kind name input) = []
held_by (named.Output kind name output) = output.held

abbrev pub is_an_output : NamedStream → Bool
is_an_output (named.Input kind name input) = false
is_an_output (named.Output kind name output) = true
