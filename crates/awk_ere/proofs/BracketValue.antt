-- What the code keeps of a bracket follows what is read.
use Rattle.std.proofs.Common.{◌≡◌, ℕ, zero, suc, ◌-◌, ◌≤◌, ◌<◌, Bool, true, false, cond, List, [], ◌∷◌, ◌++◌, length, take, drop, replicate, get_or, Option, Some, None, refl, sym, ap, subst, ◌∙◌, append_assoc, append-nil, arith}
use Rattle.std.specs.Prelude.{◌&&◌, ◌||◌, not, ◌==◌, slice_index_or}
use Rattle.std.specs.Option.{option_map}
use Rattle.std.proofs.Math.Bool.{and-false, or-false, or_assoc}
use Rattle.std.proofs.lemmas.List.{length-append, same_lists, take_all}
use Rattle.std.proofs.lemmas.List.FromFn.{length-map-range_with_len, get_or-map-range_with_len}
use Rattle.std.proofs.lemmas.Option.{none-some, same_Some, some_pair_parts, cond_some, slice_get-get_or}
use Rattle.std.proofs.lemmas.Bool.{false≢true, ne_eqb, cond-true, cond-false}
use Rattle.awk_ere.specs.declared.class_name.ClassName.{ClassName}
use Rattle.awk_ere.specs.declared.reading.bracket.BracketItem.{BracketItem as SeenItem}
use Rattle.awk_ere.specs.declared.reading.bracket.BracketItem.TheVariants as parts
use Rattle.awk_ere.specs.definitions.Tree.{class_of}
use Rattle.awk_ere.specs.definitions.Escapes.{starts}
use Rattle.awk_ere.specs.definitions.Brackets.{Mark, BracketItem, single, range, class, begins_range, is_barred, item_bytes, item_has, any_has, Bracket, these, others, bracket_has}
use Rattle.awk_ere.specs.definitions.Tokens.{atom, bracket}
use Rattle.awk_ere.specs.definitions.Limits.{any_descends}
use Rattle.awk_ere.specs.support.Lexer.{◌>>=◌, tail, mark_at, name_at, as_range, range_at, as_class, item_at, closes, with_item, items_at, as_these, as_others, bracket_at, as_bracket, bracket_token, token_at}
use Rattle.awk_ere.specs.support.TokenValues.{seen_mark, seen_item, part_of, holds, descends, range_to, range_seen, class_seen, mark_seen, item_seen, end_at, seen_items, seen_front}
use Rattle.awk_ere.proofs.Choices.{bind_some}
use Rattle.awk_ere.proofs.BracketRoundTrip.{item_takes, item_long}

-- ---- one item

end_follows : (m : Mark × List ℕ) (o : Option (Mark × List ℕ)) → option_map seen_item (o >>= as_range m.0) ≡ range_to (seen_mark m).0 (option_map seen_mark o)
end_follows m None = refl
end_follows m (Some y) = refl

mapped_cond : {A B : Type 0} (f : A → B) (b : Bool) (x y : Option A) (u v : Option B) → option_map f x ≡ u → option_map f y ≡ v → option_map f (cond b x y) ≡ cond b u v
mapped_cond f true x y u v p q = p
mapped_cond f false x y u v p q = q

range_follows : (m : Mark × List ℕ) → option_map seen_item (range_at m) ≡ range_seen (seen_mark m).0 m.1
range_follows m =
    mapped_cond seen_item (begins_range m.1) (mark_at (tail m.1) >>= as_range m.0) (Some (single m.0, m.1)) _ _ (end_follows m (mark_at (tail m.1))) refl

-- what goes on, as the code reads it
pub range_goes : (x : ℕ) (text : List ℕ) (o : Option (ℕ × List ℕ)) → 1 ≤ length text → begins_range text ≡ true → o ≡ option_map seen_mark (mark_at (take (length text - 1) (drop 1 text))) → range_to x o ≡ range_seen x text
range_goes x [] o le begins e = absurd (omega arith)
range_goes x (b ∷ bs) o le begins e =
    ap (range_to x) (e ∙ ap (λ (l : List ℕ). option_map seen_mark (mark_at l)) (take_all (length (b ∷ bs) - 1) bs (omega arith)))
    ∙ sym (cond-true (begins_range (b ∷ bs)) (range_to x (option_map seen_mark (mark_at bs))) (Some (parts.Single x, b ∷ bs)) begins)

marked_follows : (o : Option (Mark × List ℕ)) → option_map seen_item (o >>= range_at) ≡ mark_seen (option_map seen_mark o)
marked_follows None = refl
marked_follows (Some m) = range_follows m

class_follows : (o : Option (ClassName × List ℕ)) → option_map seen_item (o >>= as_class) ≡ class_seen o
class_follows None = refl
class_follows (Some n) = refl

pub item_follows : (first : Bool) (text : List ℕ) → option_map seen_item (item_at first text) ≡ item_seen first text
item_follows first [] = refl
item_follows first (b ∷ bs) =
    mapped_cond seen_item (b == 91 && starts (λ c. c == 58) bs) (name_at (tail bs) >>= as_class) _ _ _ (class_follows (name_at (tail bs)))
    (mapped_cond seen_item (is_barred first b bs) None (mark_at (b ∷ bs) >>= range_at) _ _ refl (marked_follows (mark_at (b ∷ bs))))

pub mapped_some : {A B : Type 0} (f : A → B) (o : Option (A × List ℕ)) (p : B) (rest : List ℕ) → option_map {U = B × List ℕ} (λ x. (f x.0, x.1)) o ≡ Some (p, rest) → (i : A) × (o ≡ Some (i, rest)) × (f i ≡ p)
mapped_some f None p rest e = absurd (none-some (p, rest) e)
mapped_some f (Some i) p rest e =
    let s = some_pair_parts (f i.0) p i.1 rest e in (i.0, ap (λ l. Some (i.0, l)) s.1, s.0)

pub mapped_none : {A B : Type 0} (f : A → B) (o : Option A) → option_map f o ≡ None → o ≡ None
mapped_none f None e = refl
mapped_none f (Some i) e = absurd (none-some (f i) (sym e))

seen_item_at : (first : Bool) (rest more : List ℕ) (p : SeenItem) → item_seen first rest ≡ Some (p, more) → (i : BracketItem) × (item_at first rest ≡ Some (i, more)) × (part_of i ≡ p)
seen_item_at first rest more p e = mapped_some part_of (item_at first rest) p more (item_follows first rest ∙ e)

pub item_shortens : (first : Bool) (rest more : List ℕ) (p : SeenItem) → item_seen first rest ≡ Some (p, more) → length more < length rest
item_shortens first rest more p e =
    let i = seen_item_at first rest more p e in
    let t = item_takes first rest (i.0, more) i.1 in
    omega (arith, item_long i.0, length-append (item_bytes i.0) more, ap length t.parts)

-- ---- the loop over the items

abbrev pub fronted : List BracketItem → Option (List BracketItem × List ℕ) → Option (List BracketItem × List ℕ)
fronted done None = None
fronted done (Some r) = Some (done ++ r.0, r.1)

fronted_nothing : (o : Option (List BracketItem × List ℕ)) → fronted [] o ≡ o
fronted_nothing None = refl
fronted_nothing (Some r) = refl

fronted_more : (done : List BracketItem) (i : BracketItem) (o : Option (List BracketItem × List ℕ)) → fronted done (o >>= with_item i) ≡ fronted (done ++ i ∷ []) o
fronted_more done i None = refl
fronted_more done i (Some r) = ap (λ (l : List BracketItem). Some (l, r.1)) (sym (append_assoc done (i ∷ []) r.0))

-- the items so far, and that reading goes on with the rest of the text
pub record Stand (text rest : List ℕ) (first falls : Bool) (set : List Bool) : Type 0 where
  pub done : List BracketItem
  pub left : ℕ
  pub enough : length rest ≤ left
  pub goes_on : items_at (length text) true text ≡ fronted done (items_at left first rest)
  pub order : falls ≡ any_descends done
  pub has : (b : ℕ) → b < 256 → slice_index_or set b false ≡ any_has done b

pub stand_first : (text : List ℕ) (set : List Bool) → ((b : ℕ) → b < 256 → slice_index_or set b false ≡ false) → Stand text text true false set
stand_first text set h =
    record { done = []; left = length text; enough = omega arith; goes_on = sym (fronted_nothing (items_at (length text) true text)); order = refl; has = h }

chosen_none : {A : Type 0} (b : Bool) (x : A) → cond b (Some x) None ≡ None → b ≡ false
chosen_none true x e = absurd (none-some x (sym e))
chosen_none false x e = refl

stays_open : (first : Bool) (rest : List ℕ) → end_at first rest ≡ None → closes first rest ≡ false
stays_open first rest e = chosen_none (closes first rest) (tail rest) e

-- the next item, where the bracket isn't closed
abbrev unrolled : ℕ → Bool → List ℕ → Option (List BracketItem × List ℕ)
unrolled n first rest = item_at first rest >>= λ i. items_at n false i.1 >>= with_item i.0

not_closed : (n : ℕ) (first : Bool) (rest : List ℕ) → closes first rest ≡ false → items_at (suc n) first rest ≡ unrolled n first rest
not_closed n first rest h = cond-false (closes first rest) (Some ([], tail rest)) (unrolled n first rest) h

some_left : (n : ℕ) → 1 ≤ n → (m : ℕ) × (n ≡ suc m)
some_left zero h = absurd (omega arith)
some_left (suc m) h = (m, refl)

falls_more : (done : List BracketItem) (i : BracketItem) → any_descends (done ++ i ∷ []) ≡ (any_descends done || descends (part_of i))
falls_more [] (single m) = refl
falls_more [] (range x y) = or-false (descends (part_of (range x y)))
falls_more [] (class n) = refl
falls_more (single m ∷ done) i = falls_more done i
falls_more (range x y ∷ done) i =
    ap (λ (b : Bool). descends (part_of (range x y)) || b) (falls_more done i) ∙ sym (or_assoc (descends (part_of (range x y))) (any_descends done) (descends (part_of i)))
falls_more (class n ∷ done) i = falls_more done i

has_more : (done : List BracketItem) (i : BracketItem) (b : ℕ) → any_has (done ++ i ∷ []) b ≡ (any_has done b || item_has i b)
has_more [] i b = or-false (item_has i b)
has_more (d ∷ done) i b = ap (λ (x : Bool). item_has d b || x) (has_more done i b) ∙ sym (or_assoc (item_has d b) (any_has done b) (item_has i b))

holds_item : (i : BracketItem) (b : ℕ) → holds (part_of i) b ≡ item_has i b
holds_item (single m) b = refl
holds_item (range x y) b = refl
holds_item (class n) b = refl

pub stand_next : (text rest more : List ℕ) (first falls : Bool) (set new : List Bool) (p : SeenItem) → Stand text rest first falls set → end_at first rest ≡ None → item_seen first rest ≡ Some (p, more) → ((b : ℕ) → b < 256 → slice_index_or new b false ≡ (slice_index_or set b false || holds p b)) → Stand text more false (falls || descends p) new
stand_next text rest more first falls set new p h free e add =
    let short : length more < length rest = item_shortens first rest more p e in
    let enough : length rest ≤ h.left = h.enough in
    let m = some_left h.left (omega (arith, short, enough)) in
    let i = seen_item_at first rest more p e in
    record {
      done = h.done ++ i.0 ∷ [];
      left = m.0;
      enough = omega (arith, short, enough, m.1);
      goes_on =
          h.goes_on
          ∙ ap (λ (l : ℕ). fronted h.done (items_at l first rest)) m.1
          ∙ ap (fronted h.done) (not_closed m.0 first rest (stays_open first rest free))
          ∙ ap (λ (o : Option (BracketItem × List ℕ)). fronted h.done (o >>= λ j. items_at m.0 false j.1 >>= with_item j.0)) i.1
          ∙ fronted_more h.done i.0 (items_at m.0 false more);
      order = ap (λ (b : Bool). b || descends p) h.order ∙ ap (λ (q : SeenItem). any_descends h.done || descends q) (sym i.2) ∙ sym (falls_more h.done i.0);
      has = λ b below.
          add b below ∙ ap (λ (x : Bool). x || holds p b) (h.has b below) ∙ ap (λ (q : SeenItem). any_has h.done b || holds q b) (sym i.2)
          ∙ ap (λ (x : Bool). any_has h.done b || x) (holds_item i.0 b) ∙ sym (has_more h.done i.0 b);
    }

closed_long : (first : Bool) (rest : List ℕ) → closes first rest ≡ true → 1 ≤ length rest
closed_long first [] e = absurd (false≢true (sym (and-false (not first)) ∙ e))
closed_long first (b ∷ bs) e = omega arith

pub stand_closed : (text rest : List ℕ) (first falls : Bool) (set : List Bool) (h : Stand text rest first falls set) → (behind : List ℕ) → end_at first rest ≡ Some behind → items_at (length text) true text ≡ Some (h.done, behind)
stand_closed text rest first falls set h behind f =
    let at_end = cond_some (closes first rest) (tail rest) behind f in
    let e = at_end.0 in
    let enough : length rest ≤ h.left = h.enough in
    let m = some_left h.left (omega (arith, enough, closed_long first rest e)) in
    h.goes_on
    ∙ ap (λ (l : ℕ). fronted h.done (items_at l first rest)) m.1
    ∙ ap (fronted h.done) (cond-true (closes first rest) (Some ([], tail rest)) (unrolled m.0 first rest) e)
    ∙ ap (λ (l : List BracketItem). Some (l, tail rest)) (append-nil h.done)
    ∙ ap (λ (l : List ℕ). Some (h.done, l)) at_end.1

nothing_left : (n : ℕ) (first : Bool) (rest : List ℕ) → closes first rest ≡ false → item_at first rest ≡ None → items_at n first rest ≡ None
nothing_left zero first rest free e = refl
nothing_left (suc n) first rest free e =
    not_closed n first rest free ∙ ap (λ (o : Option (BracketItem × List ℕ)). o >>= λ j. items_at n false j.1 >>= with_item j.0) e

pub stand_stuck : (text rest : List ℕ) (first falls : Bool) (set : List Bool) → Stand text rest first falls set → end_at first rest ≡ None → item_seen first rest ≡ None → items_at (length text) true text ≡ None
stand_stuck text rest first falls set h free e =
    h.goes_on ∙ ap (fronted h.done) (nothing_left h.left first rest (stays_open first rest free) (mapped_none seen_item (item_at first rest) (item_follows first rest ∙ e)))

-- ---- the whole bracket

-- without a ^ in front
these_at : (text : List ℕ) → ((rest : List ℕ) → text ≡ 94 ∷ rest → ⊥) → bracket_at text ≡ (items_at (length text) true text >>= as_these)
these_at [] h = refl
these_at (b ∷ bs) h =
    cond-false (b == 94) (items_at (length bs) true bs >>= as_others) (items_at (length (b ∷ bs)) true (b ∷ bs) >>= as_these)
    (ne_eqb b 94 (λ e. h bs (ap (λ (c : ℕ). c ∷ bs) e)))

these_seen : (o : Option (List BracketItem × List ℕ)) → option_map seen_items o ≡ option_map seen_front ((o >>= as_these) >>= as_bracket)
these_seen None = refl
these_seen (Some r) = refl

others_seen : (o : Option (List BracketItem × List ℕ)) → option_map seen_items o ≡ option_map seen_front ((o >>= as_others) >>= as_bracket)
others_seen None = refl
others_seen (Some r) = refl

pub these_found : (text : List ℕ) → ((rest : List ℕ) → text ≡ 94 ∷ rest → ⊥) → option_map seen_items (items_at (length text) true text) ≡ option_map seen_front (bracket_token text)
these_found text h = these_seen (items_at (length text) true text) ∙ ap (λ (o : Option (Bracket × List ℕ)). option_map seen_front (o >>= as_bracket)) (sym (these_at text h))

pub none_set : (n b : ℕ) → get_or (replicate n false) b false ≡ false
none_set zero b = refl
none_set (suc n) zero = refl
none_set (suc n) (suc b) = none_set n b

-- the flags are those of the items
abbrev pub Filled : List ℕ → List Bool → Type 0
Filled text set = (r : List BracketItem × List ℕ) → items_at (length text) true text ≡ Some r → (b : ℕ) → b < 256 → slice_index_or set b false ≡ any_has r.0 b

flags_class : (set : List Bool) (p : ℕ → Bool) → length set ≡ 256 → ((b : ℕ) → b < 256 → slice_index_or set b false ≡ p b) → set ≡ class_of p
flags_class set p long h =
    same_lists set (class_of p) (long ∙ sym (length-map-range_with_len p 0 256))
    (λ k d lt.
    let below : k < 256 = omega (arith, lt, long) in
    let read = same_Some (get_or set k d) (get_or set k false) (sym (slice_get-get_or set k d lt) ∙ slice_get-get_or set k false lt) in
    read ∙ h k below ∙ sym (get_or-map-range_with_len p 0 256 k k d below (omega arith)))

bracket_read : (o : Option (Bracket × List ℕ)) (k : Bracket) (rest : List ℕ) → (o >>= as_bracket) ≡ Some (atom (bracket k), rest) → o ≡ Some (k, rest)
bracket_read None k rest e = absurd (none-some (atom (bracket k), rest) e)
bracket_read (Some y) k rest e =
    let s = some_pair_parts (atom (bracket y.0)) (atom (bracket k)) y.1 rest e in
    let first : atom (bracket y.0) ≡ atom (bracket k) = s.0 in
    let p : y.0 ≡ k = cc in
    ap (λ (x : Bracket). Some (x, y.1)) p ∙ ap (λ (l : List ℕ). Some (k, l)) s.1

pub these_set : (text : List ℕ) (set : List Bool) → length set ≡ 256 → ((rest : List ℕ) → text ≡ 94 ∷ rest → ⊥) → Filled text set → (k : Bracket) (rest : List ℕ) → bracket_token text ≡ Some (atom (bracket k), rest) → set ≡ class_of (bracket_has k)
these_set text set long plain filled k rest h =
    let y = bind_some (items_at (length text) true text) as_these (k, rest) (sym (these_at text plain) ∙ bracket_read (bracket_at text) k rest h) in
    let same = some_pair_parts (these y.0.0) k y.0.1 rest y.2 in
    subst (λ (j : Bracket). set ≡ class_of (bracket_has j)) same.0 (flags_class set (any_has y.0.0) long (filled y.0 y.1))

pub others_set : (text behind : List ℕ) (set new : List Bool) → length new ≡ 256 → text ≡ 94 ∷ behind → Filled behind set → ((b : ℕ) → b < 256 → slice_index_or new b false ≡ not (slice_index_or set b false)) → (k : Bracket) (rest : List ℕ) → bracket_token text ≡ Some (atom (bracket k), rest) → new ≡ class_of (bracket_has k)
others_set text behind set new long e filled flipped k rest h =
    let y = bind_some (items_at (length behind) true behind) as_others (k, rest) (ap bracket_at (sym e) ∙ bracket_read (bracket_at text) k rest h) in
    let same = some_pair_parts (others y.0.0) k y.0.1 rest y.2 in
    subst (λ (j : Bracket). new ≡ class_of (bracket_has j)) same.0
    (flags_class new (λ b. not (any_has y.0.0 b)) long (λ b lt. flipped b lt ∙ ap not (filled y.0 y.1 b lt)))

-- a token that begins with a [
pub token_bracket : (bytes : List ℕ) → 1 ≤ length bytes → get_or bytes 0 0 ≡ 91 → token_at bytes ≡ bracket_token (take (length bytes - 1) (drop 1 bytes))
token_bracket [] le e = absurd (omega arith)
token_bracket (b ∷ bs) le e = ap (λ (x : ℕ). token_at (x ∷ bs)) e ∙ ap bracket_token (sym (take_all (length (b ∷ bs) - 1) bs (omega arith)))
