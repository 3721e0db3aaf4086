-- What outputs hold back, one of them changed, and the openings with it.
use Rattle.std.proofs.Common.{◌≡◌, ◌≢◌, inl, inr, ℕ, suc, List, [], ◌∷◌, ◌++◌, take, length, Some, refl, sym, ◌∙◌, ap, subst, append-nil}
use Rattle.std.specs.Prelude.{◌==◌, ◌||◌, if◌then◌else◌}
use Rattle.std.proofs.lemmas.Bool.{cond-true, cond-false, ne_eqb, eq-eqb, cases_eq}
use Rattle.awk_world.specs.definitions.Openings.{Opening, receives, in_order, Begins}
use Rattle.awk_streams.specs.definitions.Streams.{with_held, is_output_among, place_of}
use Rattle.awk_streams.specs.support.Held.{AreOtherOutputs, ChangesHeld}
use Rattle.awk_streams.proofs.OpeningsLemmas.{receives-more, begins_part}

-- bytes for two outputs come in any order

pub receives_here : (id : ℕ) (bytes : List ℕ) (i : ℕ) (o : Opening) (older : List (ℕ × Opening)) → i ≡ id → receives id bytes ((i, o) ∷ older) ≡ (i, record { output = o.output; bytes = o.bytes ++ bytes }) ∷ older
receives_here id bytes i o older same = cond-true _ _ _ (eq-eqb i id same)

pub receives_there : (id : ℕ) (bytes : List ℕ) (i : ℕ) (o : Opening) (older : List (ℕ × Opening)) → i ≢ id → receives id bytes ((i, o) ∷ older) ≡ (i, o) ∷ receives id bytes older
receives_there id bytes i o older differs = cond-false _ _ _ (ne_eqb i id differs)

pub receives-swap : (i j : ℕ) (xs ys : List ℕ) (os : List (ℕ × Opening)) → i ≢ j → receives i xs (receives j ys os) ≡ receives j ys (receives i xs os)
receives-swap i j xs ys [] differs = refl
receives-swap i j xs ys ((k, o) ∷ older) differs = elim (cases_eq k i) [
  | inl at_i ↦
      let not_j : k ≢ j = λ e. differs (sym at_i ∙ e) in
      ap (receives i xs) (receives_there j ys k o older not_j) ∙ (receives_here i xs k o (receives j ys older) at_i ∙ (sym (receives_there j ys k (record { output = o.output; bytes = o.bytes ++ xs }) older not_j) ∙ ap (receives j ys) (sym (receives_here i xs k o older at_i))))
  | inr not_i ↦ elim (cases_eq k j) [
    | inl at_j ↦
        ap (receives i xs) (receives_here j ys k o older at_j) ∙ (receives_there i xs k (record { output = o.output; bytes = o.bytes ++ ys }) older not_i ∙ (sym (receives_here j ys k o (receives i xs older) at_j) ∙ ap (receives j ys) (sym (receives_there i xs k o older not_i))))
    | inr not_j ↦
        ap (receives i xs) (receives_there j ys k o older not_j) ∙ (receives_there i xs k o (receives j ys older) not_i ∙ (ap (λ os. (k, o) ∷ os) (receives-swap i j xs ys older differs) ∙ (sym (receives_there j ys k o (receives i xs older) not_j) ∙ ap (receives j ys) (sym (receives_there i xs k o older not_i)))))
  ]
]

pub with_held-receives : (id : ℕ) (bytes : List ℕ) (hs : List (ℕ × List ℕ)) (os : List (ℕ × Opening)) → AreOtherOutputs id hs → with_held hs (receives id bytes os) ≡ receives id bytes (with_held hs os)
with_held-receives id bytes [] os others = refl
with_held-receives id bytes (h ∷ hs) os others =
    ap (with_held hs) (receives-swap h.0 id h.1 bytes os others.0) ∙ with_held-receives id bytes hs (receives h.0 h.1 os) others.1

pub with_held-append : (xs ys : List (ℕ × List ℕ)) (os : List (ℕ × Opening)) → with_held (xs ++ ys) os ≡ with_held ys (with_held xs os)
with_held-append [] ys os = refl
with_held-append (x ∷ xs) ys os = with_held-append xs ys (receives x.0 x.1 os)

-- what an output holds back, drawn out of all
drawn : (id : ℕ) (held : List ℕ) (front back : List (ℕ × List ℕ)) (os : List (ℕ × Opening)) → AreOtherOutputs id back → with_held (front ++ (id, held) ∷ back) os ≡ receives id held (with_held back (with_held front os))
drawn id held front back os others = with_held-append front ((id, held) ∷ back) os ∙ with_held-receives id held back (with_held front os) others

-- the openings without what this output holds back
unfoldable pub others_of : {id : ℕ} {held held' : List ℕ} {hs hs' : List (ℕ × List ℕ)} → ChangesHeld id held held' hs hs' → List (ℕ × Opening) → List (ℕ × Opening)
others_of c os = with_held c.back (with_held c.front os)

pub before_change : {id : ℕ} {held held' : List ℕ} {hs hs' : List (ℕ × List ℕ)} (c : ChangesHeld id held held' hs hs') (os : List (ℕ × Opening)) → with_held hs os ≡ receives id held (others_of c os)
unfolding others_of
before_change {id = id} {held = held} c os = ap (λ hs. with_held hs os) c.old_is ∙ drawn id held c.front c.back os c.others_back

pub after_change : {id : ℕ} {held held' : List ℕ} {hs hs' : List (ℕ × List ℕ)} (c : ChangesHeld id held held' hs hs') (written : List ℕ) (os : List (ℕ × Opening)) → with_held hs' (receives id written os) ≡ receives id (written ++ held') (others_of c os)
unfolding others_of
after_change {id = id} {held' = held'} c written os =
    ap (λ hs. with_held hs (receives id written os)) c.new_is ∙ (drawn id held' c.front c.back (receives id written os) c.others_back
    ∙ (ap (λ x. receives id held' (with_held c.back x)) (with_held-receives id written c.front os c.others_front)
    ∙ (ap (receives id held') (with_held-receives id written c.back (with_held c.front os) c.others_back) ∙ receives-more id written held' (with_held c.back (with_held c.front os)))))

-- bytes that were printed are received or held back, all of them
pub change_prints : {id : ℕ} {held held' : List ℕ} {hs hs' : List (ℕ × List ℕ)} (c : ChangesHeld id held held' hs hs') (written bytes : List ℕ) (os : List (ℕ × Opening)) → held ++ bytes ≡ written ++ held' → with_held hs' (receives id written os) ≡ receives id bytes (with_held hs os)
change_prints {id = id} {held = held} c written bytes os parts =
    after_change c written os ∙ (ap (λ b. receives id b (others_of c os)) (sym parts) ∙ (sym (receives-more id held bytes (others_of c os)) ∙ ap (receives id bytes) (sym (before_change c os))))

-- what is held back is received
pub change_brings : {id : ℕ} {held held' : List ℕ} {hs hs' : List (ℕ × List ℕ)} (c : ChangesHeld id held held' hs hs') (written : List ℕ) (os : List (ℕ × Opening)) → held ≡ written ++ held' → with_held hs' (receives id written os) ≡ with_held hs os
change_brings {id = id} {held = held} {hs = hs} c written os parts =
    after_change c written os ∙ (ap (λ b. receives id b (others_of c os)) (sym parts) ∙ sym (before_change c os))

-- a part of what was held back and printed is received, and nothing is held back
pub change_part : {id : ℕ} {held : List ℕ} {hs hs' : List (ℕ × List ℕ)} (c : ChangesHeld id held [] hs hs') (count : ℕ) (bytes : List ℕ) (os : List (ℕ × Opening)) → Begins (in_order (with_held hs' (receives id (take count (held ++ bytes)) os))) (in_order (receives id bytes (with_held hs os)))
change_part {id = id} {held = held} {hs = hs} c count bytes os =
    let some : List ℕ = take count (held ++ bytes) in
    let now = after_change c some os ∙ ap (λ b. receives id b (others_of c os)) (append-nil some) in
    let all = sym (receives-more id held bytes (others_of c os)) ∙ ap (receives id bytes) (sym (before_change c os)) in
    subst (λ l. Begins (in_order l) (in_order (receives id bytes (with_held hs os)))) (sym now) (subst (λ l. Begins (in_order (receives id some (others_of c os))) (in_order l)) all (begins_part id count (held ++ bytes) (others_of c os)))

-- the numbers are the same
among_changed : (j id : ℕ) (a b : List ℕ) (front back : List (ℕ × List ℕ)) → is_output_among j (front ++ (id, b) ∷ back) ≡ is_output_among j (front ++ (id, a) ∷ back)
among_changed j id a b [] back = refl
among_changed j id a b (x ∷ front) back = ap (λ t. x.0 == j || t) (among_changed j id a b front back)

pub change_numbers : {id : ℕ} {held held' : List ℕ} {hs hs' : List (ℕ × List ℕ)} (c : ChangesHeld id held held' hs hs') (j : ℕ) → is_output_among j hs' ≡ is_output_among j hs
change_numbers {id = id} {held = held} {held' = held'} c j = ap (is_output_among j) c.new_is ∙ (among_changed j id held held' c.front c.back ∙ ap (is_output_among j) (sym c.old_is))

-- the place of an opening among all

pub length-receives : (id : ℕ) (bytes : List ℕ) (os : List (ℕ × Opening)) → length (receives id bytes os) ≡ length os
length-receives id bytes [] = refl
length-receives id bytes ((i, o) ∷ older) = elim (cases_eq i id) [
  | inl same ↦ ap length (receives_here id bytes i o older same)
  | inr differs ↦ ap length (receives_there id bytes i o older differs) ∙ ap suc (length-receives id bytes older)
]

pub place-receives : (j id : ℕ) (bytes : List ℕ) (os : List (ℕ × Opening)) → place_of j (receives id bytes os) ≡ place_of j os
place-receives j id bytes [] = refl
place-receives j id bytes ((i, o) ∷ older) = elim (cases_eq i id) [
  | inl same ↦ ap (place_of j) (receives_here id bytes i o older same)
  | inr differs ↦ ap (place_of j) (receives_there id bytes i o older differs) ∙ (ap (λ n. if i == j then Some n else place_of j (receives id bytes older)) (length-receives id bytes older) ∙ ap (λ p. if i == j then Some (length older) else p) (place-receives j id bytes older))
]
