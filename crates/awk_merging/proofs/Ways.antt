-- What is gathered in these ways can be replayed.
use Rattle.std.proofs.Common.{◌≡◌, ℤ, ◌+ℤ◌, ◌++◌, refl, sym, arith, append_assoc}
use Rattle.std.proofs.Math.IntN.{+ℤ_assoc}
use Rattle.awk_merging.specs.definitions.Gathering.{IsReplayable, gathering, sums, greater, LawOfWays}

-- where of three values the first two may be put together first, or the last two
replayable : {V : Type 0} (act : V → V → V) → ((x y z : V) → act x (act y z) ≡ act (act x y) z) → IsReplayable (gathering act)
replayable act again = record { anew = λ x. refl; once = λ x u. refl; again = again }

greater_again : (m n k : ℤ) → greater m (greater n k) ≡ greater (greater m n) k
greater_again m n k = grind arith

pub sums_replay : IsReplayable sums
sums_replay = replayable (λ m n. m +ℤ n) (λ m n k. sym (+ℤ_assoc m n k))

pub law_of_ways : (V : Type 0) → LawOfWays V
law_of_ways V = record {
  of_sums = sums_replay;
  of_last = replayable (λ x y. y) (λ x y z. refl);
  of_first = replayable (λ x y. x) (λ x y z. refl);
  of_texts = replayable (λ s t. s ++ t) (λ s t u. sym (append_assoc s t u));
  of_greatest = replayable greater greater_again;
}
