-- Needed reads take from the rest of the input, as the answers give it.
use Rattle.std.proofs.Common.{◌≡◌, ℕ, List, [], ◌∷◌, ◌++◌, true, Option, Some, sym, ◌∙◌, ap, subst, append_assoc, append-nil}
use Rattle.std.proofs.lemmas.Bool.{cond-true, eq-eqb}
use Rattle.std.proofs.lemmas.List.{append_cancel_left}
use Rattle.std.proofs.lemmas.Option.{none-some, same_Some}
use Rattle.awk_world.specs.definitions.Log.{Event, Read, Ended, Broke}
use Rattle.awk_record.specs.Cut.{Ending, AtEnd, AtBreak}
use Rattle.awk_world.specs.definitions.Writes.{with_events}
use Rattle.awk_streams.specs.definitions.Inputs.{NeededReads}
use Rattle.awk_streams.specs.definitions.Inputs.{Rest}
use Rattle.awk_world.proofs.ConsistencyLemmas.{consistent-before}
use Rattle.awk_world.specs.definitions.Oracle.{Oracle, Source, Reading, IsConsistent, Gives, EndsWith, reading_of, read_on, over}

-- nothing is left behind what is all
nothing_left : (b more : List ℕ) → b ≡ b ++ more → more ≡ []
nothing_left b more e = append_cancel_left b more [] (sym e ∙ sym (append-nil b))

gives_at : (a : Oracle) (o : Option Reading) (r : Reading) (bs : List ℕ) → o ≡ Some r → Gives a o bs → Gives a (Some r) bs
gives_at a o r bs e h = subst (λ (x : Option Reading). Gives a x bs) e h

ends_at : (a : Oracle) (o : Option Reading) (r : Reading) (ending : Ending) → o ≡ Some r → EndsWith a o ending → EndsWith a (Some r) ending
ends_at a o r ending e h = subst (λ (x : Option Reading). EndsWith a x ending) e h

after_read : (id i : ℕ) (bs : List ℕ) (log : List Event) (r : Reading) → i ≡ id → reading_of id log ≡ Some r →
    reading_of id (Read i bs ∷ log) ≡ Some record r { bytes = r.bytes ++ bs }
after_read id i bs log r same stands = cond-true _ _ _ (eq-eqb i id same) ∙ ap (read_on bs) stands

after_end : (id i : ℕ) (log : List Event) (r : Reading) → i ≡ id → reading_of id log ≡ Some r →
    reading_of id (Ended i ∷ log) ≡ Some record r { is_over = true }
after_end id i log r same stands = cond-true _ _ _ (eq-eqb i id same) ∙ ap over stands

after_break : (id i : ℕ) (log : List Event) (r : Reading) → i ≡ id → reading_of id log ≡ Some r →
    reading_of id (Broke i ∷ log) ≡ Some record r { is_over = true }
after_break id i log r same stands = cond-true _ _ _ (eq-eqb i id same) ∙ ap over stands

ended_rest : (id : ℕ) (b b' : List ℕ) (ending : Option Ending) (es : List Event) (a : Oracle) (log : List Event) (r : Reading) (s : Source) (more whole : List ℕ) (i : ℕ) →
    i ≡ id → es ≡ [] → b' ≡ b → ending ≡ Some AtEnd → IsConsistent a (with_events es (Ended i ∷ log)) → reading_of id log ≡ Some r → a.input r.kind r.name r.count ≡ Some s → s.bytes ≡ r.bytes ++ more → whole ≡ b ++ more →
    Rest a id (with_events es (Ended i ∷ log)) s whole b' ending
ended_rest id b b' ending (e ∷ es) a log r s more whole i same last bytes met consistent stands answer begins all = cc
ended_rest id b b' ending [] a log r s more whole i same last bytes met consistent stands answer begins all =
    let stands_i : reading_of i log ≡ Some r = ap (λ j. reading_of j log) same ∙ stands in
    let given = ends_at a (reading_of i log) r AtEnd stands_i consistent.0 in
    let same_source : given.0 ≡ s = same_Some given.0 s (sym given.1 ∙ answer) in
    let all_bytes : s.bytes ≡ r.bytes = ap (λ (x : Source). x.bytes) (sym same_source) ∙ given.2 in
    record {
      reading = record r { is_over = true };
      stands = after_end id i log r same stands;
      answer = answer;
      more = more;
      begins = begins;
      same = all ∙ ap (λ x. x ++ more) (sym bytes);
      over = λ e is. (nothing_left r.bytes more (sym all_bytes ∙ begins), ap (λ (x : Source). x.ending) (sym same_source) ∙ (given.3 ∙ same_Some AtEnd e (sym met ∙ is)));
    }

broken_rest : (id : ℕ) (b b' : List ℕ) (ending : Option Ending) (es : List Event) (a : Oracle) (log : List Event) (r : Reading) (s : Source) (more whole : List ℕ) (i : ℕ) →
    i ≡ id → es ≡ [] → b' ≡ b → ending ≡ Some AtBreak → IsConsistent a (with_events es (Broke i ∷ log)) → reading_of id log ≡ Some r → a.input r.kind r.name r.count ≡ Some s → s.bytes ≡ r.bytes ++ more → whole ≡ b ++ more →
    Rest a id (with_events es (Broke i ∷ log)) s whole b' ending
broken_rest id b b' ending (e ∷ es) a log r s more whole i same last bytes met consistent stands answer begins all = cc
broken_rest id b b' ending [] a log r s more whole i same last bytes met consistent stands answer begins all =
    let stands_i : reading_of i log ≡ Some r = ap (λ j. reading_of j log) same ∙ stands in
    let given = ends_at a (reading_of i log) r AtBreak stands_i consistent.0 in
    let same_source : given.0 ≡ s = same_Some given.0 s (sym given.1 ∙ answer) in
    let all_bytes : s.bytes ≡ r.bytes = ap (λ (x : Source). x.bytes) (sym same_source) ∙ given.2 in
    record {
      reading = record r { is_over = true };
      stands = after_break id i log r same stands;
      answer = answer;
      more = more;
      begins = begins;
      same = all ∙ ap (λ x. x ++ more) (sym bytes);
      over = λ e is. (nothing_left r.bytes more (sym all_bytes ∙ begins), ap (λ (x : Source). x.ending) (sym same_source) ∙ (given.3 ∙ same_Some AtBreak e (sym met ∙ is)));
    }

pub reads_rest : (id : ℕ) (separator b b' : List ℕ) (ending : Option Ending) (es : List Event) (a : Oracle) (log : List Event) (r : Reading) (s : Source) (more whole : List ℕ) →
    NeededReads id separator b b' ending es → IsConsistent a (with_events es log) → reading_of id log ≡ Some r → a.input r.kind r.name r.count ≡ Some s → s.bytes ≡ r.bytes ++ more → whole ≡ b ++ more →
    Rest a id (with_events es log) s whole b' ending
reads_rest id separator b b' ending [] a log r s more whole (same, none) consistent stands answer begins all = record {
  reading = r;
  stands = stands;
  answer = answer;
  more = more;
  begins = begins;
  same = all ∙ ap (λ x. x ++ more) (sym same);
  over = λ e is. absurd (none-some e (sym none ∙ is));
}
reads_rest id separator b b' ending (Read i bs ∷ es) a log r s more whole (same, undecided, later) consistent stands answer begins all =
    let here : Gives a (reading_of i log) bs = (consistent-before a es (Read i bs ∷ log) consistent).0 in
    let stands_i : reading_of i log ≡ Some r = ap (λ j. reading_of j log) same ∙ stands in
    let given = gives_at a (reading_of i log) r bs stands_i here in
    let same_source : given.0 ≡ s = same_Some given.0 s (sym given.1 ∙ answer) in
    let left = given.2.0 in
    let bytes : s.bytes ≡ (r.bytes ++ bs) ++ left = ap (λ (x : Source). x.bytes) (sym same_source) ∙ given.2.1 in
    let parts : more ≡ bs ++ left = append_cancel_left r.bytes more (bs ++ left) (sym begins ∙ (bytes ∙ append_assoc r.bytes bs left)) in
    reads_rest id separator (b ++ bs) b' ending es a (Read i bs ∷ log) record r { bytes = r.bytes ++ bs } s left whole
    later consistent (after_read id i bs log r same stands) answer bytes (all ∙ (ap (λ x. b ++ x) parts ∙ sym (append_assoc b bs left)))
reads_rest id separator b b' ending (Ended i ∷ es) a log r s more whole (same, undecided, last, bytes, met) consistent stands answer begins all = ended_rest id b b' ending es a log r s more whole i same last bytes met consistent stands answer begins all
reads_rest id separator b b' ending (Broke i ∷ es) a log r s more whole (same, undecided, last, bytes, met) consistent stands answer begins all = broken_rest id b b' ending es a log r s more whole i same last bytes met consistent stands answer begins all
reads_rest id separator b b' ending (e ∷ es) a log r s more whole h consistent stands answer begins all = absurd h
