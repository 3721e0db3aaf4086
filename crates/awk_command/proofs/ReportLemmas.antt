-- Lemmas on the lines that are written to standard error.
use Rattle.std.proofs.Common.{◌≡◌, ℕ, suc, ◌+◌, true, false, List, [], ◌∷◌, ◌++◌, length, take, Result, Ok, Err, refl, sym, ◌∙◌, ap, subst, arith, append_assoc, length-append}
use Rattle.std.specs.Result.{is_err}
use Rattle.std.proofs.lemmas.List.{take-append-le}
use Rattle.std.proofs.Math.Seq.{take-length, take-append-add}
use Rattle.awk_world.specs.declared.failure.Failure.{Failure}
use Rattle.awk_streams.specs.declared.fault.StreamFault.{StreamFault}
use Rattle.awk_streams.specs.Log.{Event, Wrote}
use Rattle.awk_streams.specs.Writes.{with_events, GoesOn, Writes}
use Rattle.awk_streams.specs.Outputs.{WritesAll}
use Rattle.awk_streams.specs.WorldState.{WorldState}
use Rattle.awk_command.specs.Report.{ReportsLine}

pub with_events-append : (es fs : List Event) (log : List Event) → with_events (es ++ fs) log ≡ with_events fs (with_events es log)
with_events-append [] fs log = refl
with_events-append (e ∷ es) fs log = with_events-append es fs (e ∷ log)

Writes-append : (id : ℕ) (xs ys : List ℕ) (es fs : List Event) → Writes id xs es → Writes id ys fs → Writes id (xs ++ ys) (es ++ fs)
Writes-append id xs ys [] fs none second = subst (λ (zs : List ℕ). Writes id zs fs) (ap (λ zs. zs ++ ys) (sym none)) second
Writes-append id xs ys (Wrote i bs ∷ es) fs (same, (rest, is, later)) second =
    (same, (rest ++ ys, ap (λ zs. zs ++ ys) is ∙ append_assoc bs rest ys, Writes-append id rest ys es fs later second))
Writes-append id xs ys (e ∷ es) fs h second = absurd h

GoesOn-append : (id : ℕ) (xs ys : List ℕ) (old mid new : List Event) → GoesOn (Writes id xs) old mid → GoesOn (Writes id ys) mid new → GoesOn (Writes id (xs ++ ys)) old new
GoesOn-append id xs ys old mid new first second = record {
  events = first.events ++ second.events;
  log = second.log ∙ (ap (λ l. with_events second.events l) first.log ∙ sym (with_events-append first.events second.events old));
  each = Writes-append id xs ys first.events second.events first.each second.each;
}

-- one failure more is another list
not_longer : {f : Failure} (older newer : List Failure) → newer ≡ f ∷ older → newer ≡ older → ⊥
not_longer older newer more same =
    let e : suc (length older) ≡ length older = sym (ap length more) ∙ ap length same in
    omega (arith, e)

all_unless_failed : (line : List ℕ) (k k' : WorldState) (r : Result (Unit {0}) StreamFault) (w : WritesAll 1 line k r k') → k'.failures ≡ k.failures → w.count ≡ length line
all_unless_failed line k k' (Ok u) w same = w.all
all_unless_failed line k k' (Err e) w same = absurd (not_longer k.failures k'.failures w.fails.2 same)

-- a line of which a part was written
pub says_part : (line : List ℕ) (k k' : WorldState) (r : Result (Unit {0}) StreamFault) → is_err r ≡ true → WritesAll 1 line k r k' → ReportsLine line k k'
says_part line k k' (Ok u) e w = absurd (cc)
says_part line k k' (Err fault) e w = record {
  count = w.count;
  writes = subst (λ (bs : List ℕ). GoesOn (Writes 1 bs) k.log k'.log) (sym (take-append-le w.count line (10 ∷ []) w.within)) w.writes;
  all = λ same. absurd (not_longer k.failures k'.failures w.fails.2 same);
}

-- a line that was written, and then its newline or not
pub says_all : (line : List ℕ) (k m k' : WorldState) (q r : Result (Unit {0}) StreamFault) → is_err q ≡ false → WritesAll 1 line k q m → WritesAll 1 (10 ∷ []) m r k' → ReportsLine line k k'
says_all line k m k' (Err fault) r e w v = absurd (cc)
says_all line k m k' (Ok u) r e w v =
    let front : take w.count line ≡ line = ap (λ n. take n line) w.all ∙ take-length line in
    let whole : take (length line + v.count) (line ++ 10 ∷ []) ≡ take w.count line ++ take v.count (10 ∷ []) = take-append-add line (10 ∷ []) v.count ∙ ap (λ bs. bs ++ take v.count (10 ∷ [])) (sym front) in
    record {
      count = length line + v.count;
      writes = subst (λ (bs : List ℕ). GoesOn (Writes 1 bs) k.log k'.log) (sym whole) (GoesOn-append 1 (take w.count line) (take v.count (10 ∷ [])) k.log m.log k'.log w.writes v.writes);
      all = λ same. ap (λ n. length line + n) (all_unless_failed (10 ∷ []) m k' r v (same ∙ sym w.no_failure)) ∙ sym (length-append line (10 ∷ []));
    }
