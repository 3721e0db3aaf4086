-- What is gathered in parts is what is gathered of the whole.
use Rattle.std.proofs.Common.{◌≡◌, ◌⊎◌, inl, inr, ℕ, Bool, true, false, List, [], ◌∷◌, ◌++◌, refl, sym, ap, ◌∙◌, subst, bytes_eq}
use Rattle.std.proofs.lemmas.Bool.{cases_Bool, cond-true, cond-false}
use Rattle.std.proofs.lemmas.Slice.Eq.{bytes_eq-Decides}
use Rattle.awk_merging.specs.definitions.Gathering.{Way, IsReplayable, Table, IsFree, Updates, updated, gathered, replayed, of_parts, merged, LawOfGathering}

-- keys

pub same_key : (a b : List ℕ) → bytes_eq a b ≡ true → a ≡ b
same_key a b e = (bytes_eq-Decides a b).0 e

pub own_key : (a : List ℕ) → bytes_eq a a ≡ true
own_key a = (bytes_eq-Decides a a).1 refl

pub not_both : (b : Bool) → b ≡ true → b ≡ false → ⊥
not_both true e f = cc
not_both false e f = cc

pub apart_turned : (a b : List ℕ) → bytes_eq a b ≡ false → bytes_eq b a ≡ false
apart_turned a b apart = elim (cases_Bool (bytes_eq b a)) [
  | inl same ↦ absurd (not_both (bytes_eq a b) ((bytes_eq-Decides a b).1 (sym (same_key b a same))) apart)
  | inr turned ↦ turned
]

pub apart_from : (key other third : List ℕ) → bytes_eq key third ≡ true → bytes_eq other third ≡ true → bytes_eq key other ≡ false → ⊥
apart_from key other third same also apart = not_both (bytes_eq key other) ((bytes_eq-Decides key other).1 (same_key key third same ∙ sym (same_key other third also))) apart

-- the key is in the table
abbrev Has : {V : Type 0} → Table V → List ℕ → Type 0
Has [] key = ⊥
Has (x ∷ xs) key = (bytes_eq key x.0 ≡ true) ⊎ Has xs key

-- no key is in the table twice
abbrev pub IsOrderly : {V : Type 0} → Table V → Type 0
IsOrderly [] = Unit {0}
IsOrderly (x ∷ xs) = IsFree xs x.0 × IsOrderly xs

module _ {V U : Type 0} (way : Way V U) (can : IsReplayable way) where
  abbrev put : Table V → List ℕ → U → Table V
  put = updated way

  at_first : (x : List ℕ × V) (xs : Table V) (key : List ℕ) (u : U) → bytes_eq key x.0 ≡ true → put (x ∷ xs) key u ≡ (x.0, way.act x.1 u) ∷ xs
  at_first x xs key u is = cond-true _ _ _ is

  behind_first : (x : List ℕ × V) (xs : Table V) (key : List ℕ) (u : U) → bytes_eq key x.0 ≡ false → put (x ∷ xs) key u ≡ x ∷ put xs key u
  behind_first x xs key u not = cond-false _ _ _ not

  -- a value that is replayed, and an update at its key, are the updated value, replayed
  replay_updated : (xs : Table V) (key : List ℕ) (y : V) (u : U) → put (put xs key (way.replay y)) key u ≡ put xs key (way.replay (way.act y u))
  replay_updated [] key y u =
      at_first (key, way.make (way.replay y)) [] key u (own_key key)
      ∙ ap (λ (z : V). (key, z) ∷ []) (ap (λ (z : V). way.act z u) (can.anew y) ∙ sym (can.anew (way.act y u)))
  replay_updated (x ∷ xs) key y u = elim (cases_Bool (bytes_eq key x.0)) [
    | inl is ↦
        ap (λ (t : Table V). put t key u) (at_first x xs key (way.replay y) is)
        ∙ at_first (x.0, way.act x.1 (way.replay y)) xs key u is
        ∙ ap (λ (z : V). (x.0, z) ∷ xs) (sym (can.again x.1 y u))
        ∙ sym (at_first x xs key (way.replay (way.act y u)) is)
    | inr not ↦
        ap (λ (t : Table V). put t key u) (behind_first x xs key (way.replay y) not)
        ∙ behind_first x (put xs key (way.replay y)) key u not
        ∙ ap (λ (t : Table V). x ∷ t) (replay_updated xs key y u)
        ∙ sym (behind_first x xs key (way.replay (way.act y u)) not)
  ]

  -- a value that a first update made is replayed as that update
  replay_made : (xs : Table V) (key : List ℕ) (u : U) → put xs key (way.replay (way.make u)) ≡ put xs key u
  replay_made [] key u = ap (λ (z : V). (key, z) ∷ []) (can.anew (way.make u))
  replay_made (x ∷ xs) key u = elim (cases_Bool (bytes_eq key x.0)) [
    | inl is ↦
        at_first x xs key (way.replay (way.make u)) is
        ∙ ap (λ (z : V). (x.0, z) ∷ xs) (can.once x.1 u)
        ∙ sym (at_first x xs key u is)
    | inr not ↦
        behind_first x xs key (way.replay (way.make u)) not
        ∙ ap (λ (t : Table V). x ∷ t) (replay_made xs key u)
        ∙ sym (behind_first x xs key u not)
  ]

  -- a key that is there stays there
  keeps_key : (xs : Table V) (key other : List ℕ) (u : U) → Has xs key → Has (put xs other u) key
  keeps_key [] key other u has = absurd has
  keeps_key (x ∷ xs) key other u has = elim (cases_Bool (bytes_eq other x.0)) [
    | inl is ↦ subst (λ (t : Table V). Has t key) (sym (at_first x xs other u is)) has
    | inr not ↦ subst (λ (t : Table V). Has t key) (sym (behind_first x xs other u not)) (elim has [ inl h ↦ inl h | inr h ↦ inr (keeps_key xs key other u h) ])
  ]

  -- and one that is updated is there
  makes_key : (xs : Table V) (key : List ℕ) (u : U) → Has (put xs key u) key
  makes_key [] key u = inl (own_key key)
  makes_key (x ∷ xs) key u = elim (cases_Bool (bytes_eq key x.0)) [
    | inl is ↦ subst (λ (t : Table V). Has t key) (sym (at_first x xs key u is)) (inl is)
    | inr not ↦ subst (λ (t : Table V). Has t key) (sym (behind_first x xs key u not)) (inr (makes_key xs key u))
  ]

  -- an update at a key that is there may be made before one at another key
  swapped : (xs : Table V) (key other : List ℕ) (m u : U) → Has xs key → bytes_eq key other ≡ false → put (put xs other m) key u ≡ put (put xs key u) other m
  swapped [] key other m u has apart = absurd has
  swapped (x ∷ xs) key other m u has apart = elim (cases_Bool (bytes_eq other x.0)) [
    | inl o ↦ elim (cases_Bool (bytes_eq key x.0)) [
      | inl k ↦ absurd (apart_from key other x.0 k o apart)
      | inr k ↦
          ap (λ (t : Table V). put t key u) (at_first x xs other m o)
          ∙ behind_first (x.0, way.act x.1 m) xs key u k
          ∙ sym (at_first x (put xs key u) other m o)
          ∙ ap (λ (t : Table V). put t other m) (sym (behind_first x xs key u k))
    ]
    | inr o ↦ elim (cases_Bool (bytes_eq key x.0)) [
      | inl k ↦
          ap (λ (t : Table V). put t key u) (behind_first x xs other m o)
          ∙ at_first x (put xs other m) key u k
          ∙ sym (behind_first (x.0, way.act x.1 u) xs other m o)
          ∙ ap (λ (t : Table V). put t other m) (sym (at_first x xs key u k))
      | inr k ↦
          let inside : Has xs key = elim has [ inl h ↦ absurd (not_both (bytes_eq key x.0) h k) | inr h ↦ h ] in
          ap (λ (t : Table V). put t key u) (behind_first x xs other m o)
          ∙ behind_first x (put xs other m) key u k
          ∙ ap (λ (t : Table V). x ∷ t) (swapped xs key other m u inside apart)
          ∙ sym (behind_first x (put xs key u) other m o)
          ∙ ap (λ (t : Table V). put t other m) (sym (behind_first x xs key u k))
    ]
  ]

  -- and before a table without the key is replayed
  before_replay : (table xs : Table V) (key : List ℕ) (u : U) → Has table key → IsFree xs key → put (replayed way table xs) key u ≡ replayed way (put table key u) xs
  before_replay table [] key u has free = refl
  before_replay table (x ∷ xs) key u has free =
      before_replay (put table x.0 (way.replay x.1)) xs key u (keeps_key table key x.0 (way.replay x.1) has) free.1
      ∙ ap (λ (t : Table V). replayed way t xs) (swapped table key x.0 (way.replay x.1) u has free.0)

  -- to replay a table with one more update is to replay the table, and then to make the update
  pub replay_one_more : (table xs : Table V) (key : List ℕ) (u : U) → IsOrderly xs → replayed way table (put xs key u) ≡ put (replayed way table xs) key u
  replay_one_more table [] key u orderly = replay_made table key u
  replay_one_more table (x ∷ xs) key u orderly = elim (cases_Bool (bytes_eq key x.0)) [
    | inl is ↦
        let with_first : Table V = put table x.0 (way.replay x.1) in
        ap (λ (t : Table V). replayed way table t) (at_first x xs key u is)
        ∙ ap (λ (t : Table V). replayed way t xs) (sym (replay_updated table x.0 x.1 u))
        ∙ sym (before_replay with_first xs x.0 u (makes_key table x.0 (way.replay x.1)) orderly.0)
        ∙ ap (λ (k : List ℕ). put (replayed way with_first xs) k u) (sym (same_key key x.0 is))
    | inr not ↦ ap (λ (t : Table V). replayed way table t) (behind_first x xs key u not) ∙ replay_one_more (put table x.0 (way.replay x.1)) xs key u orderly.1
  ]

  -- a table stays orderly

  pub free_still : (xs : Table V) (key other : List ℕ) (u : U) → bytes_eq key other ≡ false → IsFree xs key → IsFree (put xs other u) key
  free_still [] key other u apart free = (apart, tt)
  free_still (x ∷ xs) key other u apart free = elim (cases_Bool (bytes_eq other x.0)) [
    | inl is ↦ subst (λ (t : Table V). IsFree t key) (sym (at_first x xs other u is)) free
    | inr not ↦ subst (λ (t : Table V). IsFree t key) (sym (behind_first x xs other u not)) (free.0, free_still xs key other u apart free.1)
  ]

  orderly_still : (xs : Table V) (key : List ℕ) (u : U) → IsOrderly xs → IsOrderly (put xs key u)
  orderly_still [] key u orderly = (tt, tt)
  orderly_still (x ∷ xs) key u orderly = elim (cases_Bool (bytes_eq key x.0)) [
    | inl is ↦ subst (λ (t : Table V). IsOrderly t) (sym (at_first x xs key u is)) orderly
    | inr not ↦ subst (λ (t : Table V). IsOrderly t) (sym (behind_first x xs key u not)) (free_still xs x.0 key u (apart_turned key x.0 not) orderly.0, orderly_still xs key u orderly.1)
  ]

  -- to replay what an orderly table gathers is to replay the table, and then to gather
  replay_gathered : (table xs : Table V) (us : Updates U) → IsOrderly xs → replayed way table (gathered way xs us) ≡ gathered way (replayed way table xs) us
  replay_gathered table xs [] orderly = refl
  replay_gathered table xs (u ∷ us) orderly =
      replay_gathered table (put xs u.0 u.1) us (orderly_still xs u.0 u.1 orderly)
      ∙ ap (λ (t : Table V). gathered way t us) (replay_one_more table xs u.0 u.1 orderly)

  replays : (table : Table V) (us : Updates U) → gathered way table us ≡ replayed way table (gathered way [] us)
  replays table us = sym (replay_gathered table [] us tt)

  -- updates in two parts are gathered in turn
  in_turn : (table : Table V) (us vs : Updates U) → gathered way table (us ++ vs) ≡ gathered way (gathered way table us) vs
  in_turn table [] vs = refl
  in_turn table (u ∷ us) vs = in_turn (put table u.0 u.1) us vs

  merges_onto : (table : Table V) (parts : List (Updates U)) → gathered way table (of_parts way parts) ≡ merged way table parts
  merges_onto table [] = refl
  merges_onto table (us ∷ parts) =
      in_turn table us (of_parts way parts)
      ∙ ap (λ (t : Table V). gathered way t (of_parts way parts)) (replays table us)
      ∙ merges_onto (replayed way table (gathered way [] us)) parts

pub law_of_gathering : (V U : Type 0) → LawOfGathering V U
law_of_gathering V U = record { replays = λ way can table us. replays way can table us; merges = λ way can parts. merges_onto way can [] parts }
