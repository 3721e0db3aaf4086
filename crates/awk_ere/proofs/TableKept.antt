-- What the table keeps where an entry or a state is added.
use Rattle.std.proofs.Common.{◌≡◌, ℕ, suc, ◌+◌, ◌-◌, ◌*◌, ◌<◌, ◌≤◌, List, ◌++◌, length, take, drop, Bool, true, false, refl, sym, ap, ◌∙◌, subst, ⊎_elim, arith, get_or, set, replicate}
use Rattle.std.specs.Prelude.{nat_eq, if◌then◌else◌}
use Rattle.std.proofs.lemmas.List.{length-set, length-drop, take-replicate, drop-replicate, get_or-set_same, get_or-set_other, get_or-replicate, get_or-append_right, length-replicate, drop-append-le, take-append-le}
use Rattle.std.proofs.Math.Nat.{mul-le-mul_right}
use Rattle.std.proofs.Math.ListN.{get_or-eq_default, get_or-append}
use Rattle.std.proofs.Math.Seq.{take-append_seam}
use Rattle.std.proofs.lemmas.Bool.{cases_lt, cases_eq, ne_eqb}
use Rattle.awk_ere.specs.support.Layout.{byte_count, end_of_text, stride, dead_state, match_flag, state_bound, fixed_states, least_limit}
use Rattle.awk_ere.specs.support.SimulationStep.{count_of, leaves, behind, dead_positions}
use Rattle.awk_ere.specs.support.Table.{IsKnown, positions_at, state_number, IsState, IsEntry, IsEnding, AreTransitions, IsTable, Grows}
use Rattle.awk_ere.specs.declared.pattern.Pattern.{Pattern}
use Rattle.awk_ere.specs.declared.dfa.table.Table.{Table}

-- what a slice of a whole list leaves in it
pub written : {A : Type 0} (n : ℕ) (new old : List A) → length new ≡ n → take n (new ++ drop (length new) old) ≡ new
written n new old e = subst (λ k. take k (new ++ drop (length new) old) ≡ new) e (take-append_seam new (drop (length new) old))

-- a row lies within the rows
pub row_within : (d limit n : ℕ) → d < limit → d * n + n ≤ limit * n
row_within d limit n lt = let times : suc d * n ≤ limit * n = mul-le-mul_right n lt in omega (arith, times)

pub positions_blank : (p : Pattern) (limit d : ℕ) → d < limit → positions_at p (replicate (limit * count_of p) false) d ≡ dead_positions p
positions_blank p limit d lt =
    let n = count_of p in
    let w = row_within d limit n lt in
    ap (take n) (drop-replicate (d * n) (limit * n) false) ∙ take-replicate n (limit * n - d * n) false (omega (arith, w))

-- nothing is known
pub entry_zero : (p : Pattern) (tb : Table) (st m : Bool) (cs : List Bool) (x v : ℕ) → v ≡ 0 → IsEntry p tb st m cs x v
entry_zero p tb st m cs x v z = record {
  miss = λ a _. absurd (omega (arith, a, z));
  goes = λ a _. absurd (omega (arith, a, z));
  hit = λ a. absurd (omega (arith, a, z));
  leads = λ a. absurd (omega (arith, a, z));
}

pub ending_zero : (p : Pattern) (st m : Bool) (cs : List Bool) (v : ℕ) → v ≡ 0 → IsEnding p st m cs v
ending_zero p st m cs v z = record {
  miss = λ a _. absurd (omega (arith, a, z));
  hit = λ a. absurd (omega (arith, a, z));
}

pub steps_blank : (p : Pattern) (tb : Table) (m : Bool) (transitions : List ℕ) → stride * suc tb.limit ≤ length transitions → ((i : ℕ) → get_or transitions i 0 ≡ 0) → AreTransitions p tb m transitions
steps_blank p tb m transitions room zero = record {
  room = room;
  entries = λ d x _ _. entry_zero p tb (nat_eq d 0) m _ x _ (zero (stride * suc d + x));
  endings = λ d _. ending_zero p (nat_eq d 0) m _ _ (zero (stride * suc d + end_of_text));
  blank = λ i _. zero i;
}

-- one more entry
pub steps_set : (p : Pattern) (tb : Table) (m : Bool) (transitions : List ℕ) (d x v : ℕ) → AreTransitions p tb m transitions → tb.count ≤ tb.limit → d < tb.count → x < byte_count → IsEntry p tb (nat_eq d 0) m (positions_at p tb.rows.items d) x v → AreTransitions p tb m (set transitions (stride * suc d + x) v)
steps_set p tb m transitions d x v t most known byte h =
    let at = stride * suc d + x in
    let within : at < length transitions = omega (arith, t.room, known, byte, most) in
    record {
      room = subst (λ n. stride * suc tb.limit ≤ n) (sym (length-set transitions at v)) t.room;
      entries = λ e y el yl.
          ⊎_elim
          (λ same.
          let ed : d ≡ e = omega (arith, same, byte, yl) in
          let ey : x ≡ y = omega (arith, same, byte, yl) in
          subst (λ n. IsEntry p tb (nat_eq e 0) m (positions_at p tb.rows.items e) y n) (sym (get_or-set_same transitions at v 0 within) ∙ ap (λ i. get_or (set transitions at v) i 0) (sym same))
          (subst (λ n. IsEntry p tb (nat_eq e 0) m (positions_at p tb.rows.items e) n v) ey (subst (λ n. IsEntry p tb (nat_eq n 0) m (positions_at p tb.rows.items n) x v) ed h)))
          (λ other. subst (λ n. IsEntry p tb (nat_eq e 0) m (positions_at p tb.rows.items e) y n) (sym (get_or-set_other transitions at (stride * suc e + y) v 0 other)) (t.entries e y el yl))
          (cases_eq (stride * suc e + y) at);
      endings = λ e el.
          subst (λ n. IsEnding p (nat_eq e 0) m (positions_at p tb.rows.items e) n)
          (sym (get_or-set_other transitions at (stride * suc e + end_of_text) v 0 (λ same. absurd (omega (arith, same, byte))))) (t.endings e el);
      blank = λ i le. get_or-set_other transitions at i v 0 (λ same. absurd (omega (arith, same, le, byte, known))) ∙ t.blank i le;
    }

-- the answer at the text's end
pub steps_end : (p : Pattern) (tb : Table) (m : Bool) (transitions : List ℕ) (d v : ℕ) → AreTransitions p tb m transitions → tb.count ≤ tb.limit → d < tb.count → IsEnding p (nat_eq d 0) m (positions_at p tb.rows.items d) v → AreTransitions p tb m (set transitions (stride * suc d + end_of_text) v)
steps_end p tb m transitions d v t most known h =
    let at = stride * suc d + end_of_text in
    let within : at < length transitions = omega (arith, t.room, known, most) in
    record {
      room = subst (λ n. stride * suc tb.limit ≤ n) (sym (length-set transitions at v)) t.room;
      entries = λ e y el yl.
          subst (λ n. IsEntry p tb (nat_eq e 0) m (positions_at p tb.rows.items e) y n)
          (sym (get_or-set_other transitions at (stride * suc e + y) v 0 (λ same. absurd (omega (arith, same, yl))))) (t.entries e y el yl);
      endings = λ e el.
          ⊎_elim
          (λ same.
          let ed : d ≡ e = omega (arith, same) in
          subst (λ n. IsEnding p (nat_eq e 0) m (positions_at p tb.rows.items e) n) (sym (get_or-set_same transitions at v 0 within) ∙ ap (λ i. get_or (set transitions at v) i 0) (sym same))
          (subst (λ n. IsEnding p (nat_eq n 0) m (positions_at p tb.rows.items n) v) ed h))
          (λ other. subst (λ n. IsEnding p (nat_eq e 0) m (positions_at p tb.rows.items e) n) (sym (get_or-set_other transitions at (stride * suc e + end_of_text) v 0 other)) (t.endings e el))
          (cases_eq (stride * suc e + end_of_text) at);
      blank = λ i le. get_or-set_other transitions at i v 0 (λ same. absurd (omega (arith, same, le, known))) ∙ t.blank i le;
    }

-- the same states, and perhaps more
record Keeps (p : Pattern) (tb tb' : Table) : Type 0 where
  up : tb.count ≤ tb'.count
  same : (d : ℕ) → d < tb.count → positions_at p tb'.rows.items d ≡ positions_at p tb.rows.items d

module _ (p : Pattern) (tb tb' : Table) (g : Keeps p tb tb') where
  state_more : (v : ℕ) (st : Bool) (cs : List Bool) → IsState p tb v st cs → IsState p tb' v st cs
  state_more v st cs h = record {
    known = omega (arith, h.known, g.up);
    named = h.named;
    start = h.start;
    positions = g.same (state_number v) h.known ∙ h.positions;
  }

  entry_more : (st m : Bool) (cs : List Bool) (x v : ℕ) → IsEntry p tb st m cs x v → IsEntry p tb' st m cs x v
  entry_more st m cs x v h = record {
    miss = h.miss;
    goes = λ a b. state_more v false (behind p cs st m false x) (h.goes a b);
    hit = h.hit;
    leads = λ a. state_more (v - match_flag) false (behind p cs st m false x) (h.leads a);
  }

-- the same states, and perhaps one more
module _ (p : Pattern) (tb tb' : Table) (g : Grows p tb tb') where
  kept : Keeps p tb tb'
  kept = record { up = g.up; same = g.same }

  -- of one more state nothing is known
  steps_more : (m : Bool) (transitions : List ℕ) → AreTransitions p tb m transitions → AreTransitions p tb' m transitions
  steps_more m transitions t = record {
    room = subst (λ n. stride * suc n ≤ length transitions) (sym g.limit) t.room;
    entries = λ d x dl xl.
        ⊎_elim
        (λ old. subst (λ cs. IsEntry p tb' (nat_eq d 0) m cs x (get_or transitions (stride * suc d + x) 0)) (sym (g.same d old)) (entry_more p tb tb' kept (nat_eq d 0) m _ x _ (t.entries d x old xl)))
        (λ new. entry_zero p tb' (nat_eq d 0) m _ x _ (t.blank (stride * suc d + x) (omega (arith, new))))
        (cases_lt d tb.count);
    endings = λ d dl.
        ⊎_elim
        (λ old. subst (λ cs. IsEnding p (nat_eq d 0) m cs (get_or transitions (stride * suc d + end_of_text) 0)) (sym (g.same d old)) (t.endings d old))
        (λ new. ending_zero p (nat_eq d 0) m _ _ (t.blank (stride * suc d + end_of_text) (omega (arith, new))))
        (cases_lt d tb.count);
    blank = λ i le. t.blank i (omega (arith, le, g.up));
  }

  pub table_more : IsTable p tb → AreTransitions p tb true tb'.unanchored.items → AreTransitions p tb false tb'.anchored.items → IsTable p tb'
  table_more t on off = record {
    least = omega (arith, t.least, g.up);
    most = omega (arith, g.most t.most, g.limit);
    room = omega (arith, t.room, g.limit);
    few = omega (arith, t.few, g.limit);
    rows = subst (λ n. n * count_of p ≤ length tb'.rows.items) (sym g.limit) (subst (λ n. tb.limit * count_of p ≤ n) (sym g.rows) t.rows);
    start = g.same 0 (omega (arith, t.least)) ∙ t.start;
    idle = g.same 1 (omega (arith, t.least)) ∙ t.idle;
    unanchored = steps_more true tb'.unanchored.items on;
    anchored = steps_more false tb'.anchored.items off;
  }

-- a table of the first two states
pub table_first : (p : Pattern) (tb : Table) → tb.count ≡ fixed_states → least_limit ≤ tb.limit → tb.limit < state_bound → tb.limit * count_of p ≤ length tb.rows.items → positions_at p tb.rows.items 0 ≡ dead_positions p → positions_at p tb.rows.items 1 ≡ dead_positions p → stride * suc tb.limit ≤ length tb.unanchored.items → stride * suc tb.limit ≤ length tb.anchored.items → ((i : ℕ) → get_or tb.unanchored.items i 0 ≡ 0) → ((i : ℕ) → get_or tb.anchored.items i 0 ≡ 0) → IsTable p tb
table_first p tb two room few rows start idle on off on0 off0 = record {
  least = omega (arith, two);
  most = omega (arith, two, room);
  room = room;
  few = few;
  rows = rows;
  start = start;
  idle = idle;
  unanchored = steps_blank p tb true tb.unanchored.items on on0;
  anchored = steps_blank p tb false tb.anchored.items off off0;
}

zeros : (n i : ℕ) → ◌≡◌ {A = ℕ} (get_or (replicate n 0) i 0) 0
zeros n i =
    ⊎_elim (λ below. get_or-replicate n i 0 0 below)
    (λ ge. get_or-eq_default (replicate n 0) 0 {n = i} (subst (λ m. m ≤ i) (sym (length-replicate n 0)) ge))
    (cases_lt i n)

pub table_begun : (p : Pattern) (tb : Table) (n : ℕ) → n ≡ count_of p → tb.count ≡ fixed_states → tb.limit ≡ least_limit → tb.rows.items ≡ replicate (tb.limit * n) false → tb.unanchored.items ≡ replicate (stride * suc tb.limit) 0 → tb.anchored.items ≡ replicate (stride * suc tb.limit) 0 → IsTable p tb
table_begun p tb n e two limit rows on off =
    let room : least_limit ≤ tb.limit = omega (arith, limit) in
    let few : tb.limit < state_bound = omega (arith, limit) in
    let blank = rows ∙ ap (λ k. replicate (tb.limit * k) false) e in
    let rows_len = ap length blank ∙ length-replicate (tb.limit * count_of p) false in
    let unanchored_len = ap length on ∙ length-replicate (stride * suc tb.limit) 0 in
    let anchored_len = ap length off ∙ length-replicate (stride * suc tb.limit) 0 in
    table_first p tb two room few (omega (arith, rows_len))
    (ap (λ l. positions_at p l 0) blank ∙ positions_blank p tb.limit 0 (omega (arith, room)))
    (ap (λ l. positions_at p l 1) blank ∙ positions_blank p tb.limit 1 (omega (arith, room)))
    (omega (arith, unanchored_len)) (omega (arith, anchored_len))
    (λ i. ap (λ l. get_or l i 0) on ∙ zeros (stride * suc tb.limit) i)
    (λ i. ap (λ l. get_or l i 0) off ∙ zeros (stride * suc tb.limit) i)

-- room for more states
module _ (p : Pattern) (tb tb' : Table) (t : IsTable p tb) (a b c : ℕ) (count : tb'.count ≡ tb.count)
    (rows : tb'.rows.items ≡ tb.rows.items ++ replicate a false) (on : tb'.unanchored.items ≡ tb.unanchored.items ++ replicate b 0) (off : tb'.anchored.items ≡ tb.anchored.items ++ replicate c 0) where
  positions_longer : (d : ℕ) → d < tb.limit → positions_at p tb'.rows.items d ≡ positions_at p tb.rows.items d
  positions_longer d lt =
      let n = count_of p in
      let w = row_within d tb.limit n lt in
      let old = tb.rows.items in
      ap (λ l. positions_at p l d) rows
      ∙ ap (take n) (drop-append-le (d * n) old (replicate a false) (omega (arith, w, t.rows)))
      ∙ take-append-le n (drop (d * n) old) (replicate a false) (omega (arith, w, t.rows, length-drop (d * n) old))

  keeps : Keeps p tb tb'
  keeps = record { up = omega (arith, count); same = λ d lt. positions_longer d (omega (arith, lt, t.most)) }

  longer_reads : (l : List ℕ) (k i : ℕ) → get_or (l ++ replicate k 0) i 0 ≡ get_or l i 0
  longer_reads l k i =
      ⊎_elim (λ below. get_or-append l (replicate k 0) 0 i below)
      (λ ge. get_or-append_right l (replicate k 0) (length l) i 0 refl ge ∙ zeros k (i - length l) ∙ sym (get_or-eq_default l 0 {n = i} ge))
      (cases_lt i (length l))

  steps_longer : (m : Bool) (old new : List ℕ) (k : ℕ) → new ≡ old ++ replicate k 0 → stride * suc tb'.limit ≤ length new → AreTransitions p tb m old → AreTransitions p tb' m new
  steps_longer m old new k is room s =
      let reads = λ (i : ℕ). ap (λ l. get_or l i 0) is ∙ longer_reads old k i in
      record {
        room = room;
        entries = λ d x dl xl.
            let lt : d < tb.count = omega (arith, dl, count) in
            let i = stride * suc d + x in
            subst (λ v. IsEntry p tb' (nat_eq d 0) m (positions_at p tb'.rows.items d) x v) (sym (reads i))
            (subst (λ cs. IsEntry p tb' (nat_eq d 0) m cs x (get_or old i 0)) (sym (keeps.same d lt)) (entry_more p tb tb' keeps (nat_eq d 0) m _ x _ (s.entries d x lt xl)));
        endings = λ d dl.
            let lt : d < tb.count = omega (arith, dl, count) in
            let i = stride * suc d + end_of_text in
            subst (λ v. IsEnding p (nat_eq d 0) m (positions_at p tb'.rows.items d) v) (sym (reads i))
            (subst (λ cs. IsEnding p (nat_eq d 0) m cs (get_or old i 0)) (sym (keeps.same d lt)) (s.endings d lt));
        blank = λ i le. reads i ∙ s.blank i (omega (arith, le, count));
      }

  pub table_longer : tb.limit ≤ tb'.limit → tb'.limit < state_bound → tb'.limit * count_of p ≤ length tb'.rows.items → stride * suc tb'.limit ≤ length tb'.unanchored.items → stride * suc tb'.limit ≤ length tb'.anchored.items → IsTable p tb'
  table_longer up few rows_room on_room off_room = record {
    least = omega (arith, t.least, count);
    most = omega (arith, t.most, count, up);
    room = omega (arith, t.room, up);
    few = few;
    rows = rows_room;
    start = keeps.same 0 (omega (arith, t.least)) ∙ t.start;
    idle = keeps.same 1 (omega (arith, t.least)) ∙ t.idle;
    unanchored = steps_longer true tb.unanchored.items tb'.unanchored.items b on on_room t.unanchored;
    anchored = steps_longer false tb.anchored.items tb'.anchored.items c off off_room t.anchored;
  }

-- all states but the first two are forgotten
pub table_cleared : (p : Pattern) (tb tb' : Table) → IsTable p tb → tb'.rows.items ≡ tb.rows.items → tb'.count ≡ fixed_states → tb'.limit ≡ tb.limit → length tb'.unanchored.items ≡ length tb.unanchored.items → length tb'.anchored.items ≡ length tb.anchored.items → ((i : ℕ) → get_or tb'.unanchored.items i 0 ≡ 0) → ((i : ℕ) → get_or tb'.anchored.items i 0 ≡ 0) → IsTable p tb'
table_cleared p tb tb' t rows two limit unanchored_len anchored_len on0 off0 =
    table_first p tb' two (omega (arith, t.room, limit)) (omega (arith, t.few, limit))
    (subst (λ n. n * count_of p ≤ length tb'.rows.items) (sym limit) (subst (λ l. tb.limit * count_of p ≤ length l) (sym rows) t.rows))
    (ap (λ l. positions_at p l 0) rows ∙ t.start) (ap (λ l. positions_at p l 1) rows ∙ t.idle)
    (omega (arith, t.unanchored.room, limit, unanchored_len)) (omega (arith, t.anchored.room, limit, anchored_len)) on0 off0

-- a state by its number
pub state_at : (p : Pattern) (tb : Table) (v : ℕ) (st : Bool) (cs : List Bool) (d : ℕ) → d < tb.count → v ≡ stride * suc d → st ≡ nat_eq d 0 → positions_at p tb.rows.items d ≡ cs → IsState p tb v st cs
state_at p tb v st cs d known named start positions =
    let e : d ≡ state_number v = omega (arith, named) in
    record {
      known = omega (arith, e, known);
      named = omega (arith, e, named);
      start = start ∙ ap (λ n. nat_eq n 0) e;
      positions = ap (positions_at p tb.rows.items) (sym e) ∙ positions;
    }

-- a known state stands for positions
pub state_of : (p : Pattern) (tb : Table) (v : ℕ) (k : IsKnown tb v) → IsState p tb v (nat_eq k.number 0) (positions_at p tb.rows.items k.number)
state_of p tb v k = state_at p tb v _ _ k.number k.known k.named refl refl

-- a state, and an entry that leads to it
pub state_named : (p : Pattern) (tb : Table) (d : ℕ) (cs : List Bool) → 0 < d → d < tb.count → positions_at p tb.rows.items d ≡ cs → IsState p tb (stride * suc d) false cs
state_named p tb d cs pos lt e = state_at p tb (stride * suc d) false cs d lt refl (sym (ne_eqb d 0 (λ z. omega (arith, z, pos)))) e

pub entry_made : (p : Pattern) (tb : Table) (st m : Bool) (cs : List Bool) (x : ℕ) (left : Bool) (v : ℕ) → left ≡ leaves p cs st m false x → 0 < v → v < match_flag → IsState p tb v false (behind p cs st m false x) → IsEntry p tb st m cs x (v + (if left then match_flag else 0))
entry_made p tb st m cs x true v l some small s = record {
  miss = λ a b. absurd (omega (arith, b));
  goes = λ a b. absurd (omega (arith, b));
  hit = λ a. sym l;
  leads = λ a. let e : v ≡ v + match_flag - match_flag = omega arith in subst (λ n. IsState p tb n false (behind p cs st m false x)) e s;
}
entry_made p tb st m cs x false v l some small s = record {
  miss = λ a b. sym l;
  goes = λ a b. let e : v ≡ v + 0 = omega arith in subst (λ n. IsState p tb n false (behind p cs st m false x)) e s;
  hit = λ a. absurd (omega (arith, a, small));
  leads = λ a. absurd (omega (arith, a, small));
}

-- what is read of a state
module _ (p : Pattern) (tb : Table) (v : ℕ) (st : Bool) (cs : List Bool) (h : IsState p tb v st cs) where
  pub start_of : nat_eq (state_number v) 0 ≡ st
  start_of = sym h.start

  pub positions_of : (n : ℕ) → n ≡ count_of p → take n (drop (state_number v * n) tb.rows.items) ≡ cs
  positions_of n e = ap (λ k. take k (drop (state_number v * k) tb.rows.items)) e ∙ h.positions

-- an entry is written
grows_same : (p : Pattern) (tb tb' : Table) → tb'.rows.items ≡ tb.rows.items → tb'.count ≡ tb.count → tb'.limit ≡ tb.limit → Grows p tb tb'
grows_same p tb tb' rows count limit = record {
  up = omega (arith, count);
  one = omega (arith, count);
  most = λ le. omega (arith, le, count);
  limit = limit;
  rows = ap length rows;
  same = λ d _. ap (λ l. positions_at p l d) rows;
}

table_set : (p : Pattern) (tb tb' : Table) (m : Bool) (transitions : List ℕ → List ℕ) → IsTable p tb → tb'.rows.items ≡ tb.rows.items → tb'.count ≡ tb.count → tb'.limit ≡ tb.limit → tb'.unanchored.items ≡ (if m then transitions tb.unanchored.items else tb.unanchored.items) → tb'.anchored.items ≡ (if m then tb.anchored.items else transitions tb.anchored.items) → ((l : List ℕ) → AreTransitions p tb m l → AreTransitions p tb m (transitions l)) → IsTable p tb'
table_set p tb tb' true transitions t rows count limit on off h =
    table_more p tb tb' (grows_same p tb tb' rows count limit) t (subst (AreTransitions p tb true) (sym on) (h tb.unanchored.items t.unanchored)) (subst (AreTransitions p tb false) (sym off) t.anchored)
table_set p tb tb' false transitions t rows count limit on off h =
    table_more p tb tb' (grows_same p tb tb' rows count limit) t (subst (AreTransitions p tb true) (sym on) t.unanchored) (subst (AreTransitions p tb false) (sym off) (h tb.anchored.items t.anchored))

pub end_table : (p : Pattern) (tb tb' : Table) (state : ℕ) (m left : Bool) (at v : ℕ) → IsTable p tb → IsKnown tb state → ((st : Bool) (cs : List Bool) → IsState p tb state st cs → left ≡ leaves p cs st m true 0) → at ≡ state + end_of_text → v ≡ (if left then match_flag else dead_state) → tb'.rows.items ≡ tb.rows.items → tb'.count ≡ tb.count → tb'.limit ≡ tb.limit → tb'.unanchored.items ≡ (if m then set tb.unanchored.items at v else tb.unanchored.items) → tb'.anchored.items ≡ (if m then tb.anchored.items else set tb.anchored.items at v) → IsTable p tb'
end_table p tb tb' state m left at v t k left_is at_is v_is rows count limit on off =
    let same : at ≡ stride * suc k.number + end_of_text = omega (arith, at_is, k.named) in
    table_set p tb tb' m (λ l. set l at v) t rows count limit on off
    (λ l a. subst (λ i. AreTransitions p tb m (set l i v)) (sym same) (steps_end p tb m l k.number v a t.most k.known (ending left v v_is (left_is _ _ (state_of p tb state k)))))
  where
    ending : (left : Bool) (v : ℕ) → v ≡ (if left then match_flag else dead_state) → left ≡ leaves p (positions_at p tb.rows.items k.number) (nat_eq k.number 0) m true 0 → IsEnding p (nat_eq k.number 0) m (positions_at p tb.rows.items k.number) v
    ending true v e l = record { miss = λ _ b. absurd (omega (arith, b, e)); hit = λ _. sym l }
    ending false v e l = record { miss = λ _ _. sym l; hit = λ b. absurd (omega (arith, b, e)) }

-- what a step from a state has given
module _ (p : Pattern) (tb : Table) (t : IsTable p tb) (state x : ℕ) (m left : Bool) (positions : List Bool)
    (left_is : (st : Bool) (cs : List Bool) → IsState p tb state st cs → left ≡ leaves p cs st m false x)
    (positions_is : (st : Bool) (cs : List Bool) → IsState p tb state st cs → positions ≡ behind p cs st m false x)
    (number : ℕ) (pos : 0 < number) where
  -- leads to a state of a table
  made : (to : Table) → IsTable p to → number < to.count → positions_at p to.rows.items number ≡ positions → (st : Bool) (cs : List Bool) → IsState p tb state st cs → IsEntry p to st m cs x (stride * suc number + (if left then match_flag else 0))
  made to h lt e st cs s =
      entry_made p to st m cs x left (stride * suc number) (left_is st cs s) (omega arith) (omega (arith, lt, h.most, h.few))
      (subst (IsState p to (stride * suc number) false) (positions_is st cs s) (state_named p to number positions pos lt e))

  module _ (tb2 tb3 : Table) (g : Grows p tb tb2) (on2 : tb2.unanchored.items ≡ tb.unanchored.items) (off2 : tb2.anchored.items ≡ tb.anchored.items) where
    pub grown : IsTable p tb2
    grown = table_more p tb tb2 g t (subst (AreTransitions p tb true) (sym on2) t.unanchored) (subst (AreTransitions p tb false) (sym off2) t.anchored)

    -- that is there, or was added
    module _ (lt : number < tb2.count) (e : positions_at p tb2.rows.items number ≡ positions) (v : ℕ) (v_is : v ≡ stride * suc number + (if left then match_flag else 0))
        (rows : tb3.rows.items ≡ tb2.rows.items) (count : tb3.count ≡ tb2.count) (limit : tb3.limit ≡ tb2.limit) where
      pub learn_entry : (st : Bool) (cs : List Bool) → IsState p tb state st cs → IsEntry p tb3 st m cs x v
      learn_entry st cs s =
          entry_more p tb2 tb3 (kept p tb2 tb3 (grows_same p tb2 tb3 rows count limit)) st m cs x v
          (subst (IsEntry p tb2 st m cs x) (sym v_is) (made tb2 grown lt e st cs s))

      pub learn_table : IsKnown tb state → x < byte_count → tb3.unanchored.items ≡ (if m then set tb2.unanchored.items (state + x) v else tb2.unanchored.items) → tb3.anchored.items ≡ (if m then tb2.anchored.items else set tb2.anchored.items (state + x) v) → IsTable p tb3
      learn_table k byte on off =
          let here = subst (IsEntry p tb2 (nat_eq k.number 0) m (positions_at p tb.rows.items k.number) x) (sym v_is) (made tb2 grown lt e _ _ (state_of p tb state k)) in
          let entry = subst (λ l. IsEntry p tb2 (nat_eq k.number 0) m l x v) (sym (g.same k.number k.known)) here in
          table_set p tb2 tb3 m (λ l. set l (state + x) v) grown rows count limit on off
          (λ l a. subst (λ i. AreTransitions p tb2 m (set l (i + x) v)) (sym k.named) (steps_set p tb2 m l k.number x v a grown.most (omega (arith, k.known, g.up)) byte entry))

    -- that is added where room was made
    module _ (tb4 : Table) (room : IsTable p tb3) (g4 : Grows p tb3 tb4) (on4 : tb4.unanchored.items ≡ tb3.unanchored.items) (off4 : tb4.anchored.items ≡ tb3.anchored.items) where
      pub begun_table : IsTable p tb4
      begun_table = table_more p tb3 tb4 g4 room (subst (AreTransitions p tb3 true) (sym on4) room.unanchored) (subst (AreTransitions p tb3 false) (sym off4) room.anchored)

      pub begun_entry : number < tb4.count → positions_at p tb4.rows.items number ≡ positions → (st : Bool) (cs : List Bool) → IsState p tb state st cs → IsEntry p tb4 st m cs x (stride * suc number + (if left then match_flag else 0))
      begun_entry lt e st cs s = made tb4 begun_table lt e st cs s
