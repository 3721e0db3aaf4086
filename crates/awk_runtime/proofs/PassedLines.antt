-- Records in front of bytes, which are passed over together.
use Rattle.std.proofs.Common.{◌≡◌, ◌≢◌, ℕ, zero, suc, ◌%◌, ◌^◌, map, count_ones, length-append, ◌+◌, ◌-◌, ◌<◌, ◌≤◌, Bool, true, false, cond, List, [], ◌∷◌, ◌++◌, length, take, drop, get_or, count_by, Some, All, refl, sym, ap, ◌∙◌, length-take, length-drop, ⊎_elim, arith}
use Rattle.std.proofs.Math.Path.{fun_ext}
use Rattle.std.proofs.lemmas.Bool.{cases_Bool, both_ways}
use Rattle.std.proofs.lemmas.List.Sums.{sum_by-cons, sum_by-take-drop, count_by-le-length}
use Rattle.std.proofs.lemmas.Bool.Decides.{Decides-eqb}
use Rattle.std.proofs.lemmas.List.{get_or-drop, get_or-take, take_more}
use Rattle.std.proofs.lemmas.List.Elements.{All-nil, All-cons}
use Rattle.std.proofs.lemmas.Simd.{map-map, mask_l-mod, ones-mask_l}
use Rattle.std.proofs.lemmas.List.{length-map}
use lib.Lanes.{mask_l, top}
use Rattle.memchr.specs.Find.{IsLastByte, is_byte}
use Rattle.awk_record.specs.Cut.{longest}
use Rattle.awk_streams.specs.MainInput.{IsLineOf, lines_of}
use Rattle.awk_runtime.specs.support.Passing.{IsPassed, IsAt, IsEndOfLine, BeginsWithLine}

-- a record in front of bytes, and what stands behind its separator
record Line (c : ℕ) (bytes : List ℕ) : Type 0 where
  line : List ℕ
  rest : List ℕ
  plain : All (λ b. b ≢ c) line
  whole : bytes ≡ line ++ c ∷ rest

first_line : (c : ℕ) (bytes : List ℕ) → BeginsWithLine c bytes → Line c bytes
first_line c [] at = absurd (omega (arith, at.1.within))
first_line c (b ∷ bytes) at =
    ⊎_elim
    (λ (is : is_byte c b ≡ true). record {
      line = [];
      rest = bytes;
      plain = All-nil (λ b. b ≢ c);
      whole = ap (λ x. x ∷ bytes) ((Decides-eqb b c).0 is);
    })
    (λ (is : is_byte c b ≡ false).
    let later = first_line c bytes (behind at.0 at.1 is) in
    record {
      line = b ∷ later.line;
      rest = later.rest;
      plain = All-cons (λ b. b ≢ c) b later.line (λ same. both_ways (is_byte c b) is ((Decides-eqb b c).1 same)) later.plain;
      whole = ap (λ l. b ∷ l) later.whole;
    })
    (cases_Bool (is_byte c b))
  where
    behind : (place : ℕ) → IsAt c (b ∷ bytes) place → is_byte c b ≡ false → BeginsWithLine c bytes
    behind zero is other = absurd (both_ways (is_byte c b) other ((Decides-eqb b c).1 is.there))
    behind (suc place) is other = (place, record { within = omega (arith, is.within); there = is.there })

one_more : (n : ℕ) → 1 + n ≡ suc n
one_more n = omega arith

none_more : (n : ℕ) → 0 + n ≡ n
none_more n = omega arith

-- a text that ends with a separator is so many records
record AreLines (c : ℕ) (front : List ℕ) : Type 0 where
  first : List ℕ
  more : List (List ℕ)
  plain : All (λ b. b ≢ c) first
  short : length first ≤ length front
  are : All (IsLineOf c) more
  count : count_by (is_byte c) (front ++ c ∷ []) ≡ suc (length more)
  whole : front ++ c ∷ [] ≡ lines_of c (first ∷ more)

lines_before : (c : ℕ) (front : List ℕ) → length front < longest → AreLines c front
lines_before c [] short = record {
  first = [];
  more = [];
  plain = All-nil (λ b. b ≢ c);
  short = omega arith;
  are = All-nil (IsLineOf c);
  count = ap (λ t. 0 + cond t 1 0) ((Decides-eqb c c).1 refl);
  whole = refl;
}
lines_before c (b ∷ front) short =
    let later = lines_before c front (omega (arith, short)) in
    ⊎_elim
    (λ (is : is_byte c b ≡ true).
    let same : b ≡ c = (Decides-eqb b c).0 is in
    record {
      first = [];
      more = later.first ∷ later.more;
      plain = All-nil (λ b. b ≢ c);
      short = omega arith;
      are = All-cons (IsLineOf c) later.first later.more (record { plain = later.plain; short = omega (arith, short, later.short) }) later.are;
      count = sum_by-cons (λ x. cond (is_byte c x) 1 0) b (front ++ c ∷ []) ∙ (ap (λ t. cond t 1 0 + count_by (is_byte c) (front ++ c ∷ [])) is ∙ (ap (λ n. 1 + n) later.count ∙ one_more _));
      whole = ap (λ x. x ∷ (front ++ c ∷ [])) same ∙ ap (λ l. c ∷ l) later.whole;
    })
    (λ (is : is_byte c b ≡ false). record {
      first = b ∷ later.first;
      more = later.more;
      plain = All-cons (λ b. b ≢ c) b later.first (λ same. both_ways (is_byte c b) is ((Decides-eqb b c).1 same)) later.plain;
      short = omega (arith, later.short);
      are = later.are;
      count = sum_by-cons (λ x. cond (is_byte c x) 1 0) b (front ++ c ∷ []) ∙ (ap (λ t. cond t 1 0 + count_by (is_byte c) (front ++ c ∷ [])) is ∙ (none_more _ ∙ later.count));
      whole = ap (λ l. b ∷ l) later.whole;
    })
    (cases_Bool (is_byte c b))

-- what is passed over, by where its last record ends and how many separators stand before that
pub passed : (c : ℕ) (bytes : List ℕ) (place end records : ℕ) → length bytes < longest → IsEndOfLine c bytes end → end ≤ suc place
    → BeginsWithLine c (drop end bytes) → records ≡ count_by (is_byte c) (take end bytes) → IsPassed c bytes place (record { records = records; bytes = end })
passed c bytes place end records short at before next counted =
    let line = first_line c (drop end bytes) next in
    let is_next : IsLineOf c line.line = record {
      plain = line.plain;
      short = omega (arith, short, length-drop end bytes, ap length line.whole, length-append line.line (c ∷ line.rest));
    } in
    ⊎_elim
    (λ (front : end ≡ 0). record {
      lines = [];
      count = counted ∙ ap (λ n. count_by (is_byte c) (take n bytes)) front;
      within = omega (arith, front);
      before = before;
      taken = ap (λ n. take n bytes) front;
      are = All-nil (IsLineOf c);
      next = line.line;
      is_next = is_next;
      rest = line.rest;
      left = line.whole;
    })
    (λ (behind : (last : ℕ) × (end ≡ last + 1) × IsAt c bytes last).
    let last = behind.0 in
    let is = behind.2 in
    let lines = lines_before c (take last bytes) (omega (arith, short, length-take last bytes)) in
    let ends : take end bytes ≡ take last bytes ++ c ∷ [] = ap (λ n. take n bytes) behind.1 ∙ (take_more bytes last 0 is.within ∙ ap (λ x. take last bytes ++ x ∷ []) is.there) in
    record {
      lines = lines.first ∷ lines.more;
      count = counted ∙ (ap (count_by (is_byte c)) ends ∙ lines.count);
      within = omega (arith, is.within, behind.1);
      before = before;
      taken = ends ∙ lines.whole;
      are = All-cons (IsLineOf c) lines.first lines.more (record { plain = lines.plain; short = omega (arith, short, lines.short, length-take last bytes) }) lines.are;
      next = line.line;
      is_next = is_next;
      rest = line.rest;
      left = line.whole;
    })
    at

pub one_of : (p : Bool) → top 7 (cond p 255 0) ≡ p
one_of true = refl
one_of false = refl

-- how often a byte stands among bytes that were compared together
pub counted_lanes : (c n : ℕ) (v : List ℕ) (m : ℕ) (z : List ℕ) (f : ℕ → ℕ) → length v ≡ n → n ≤ 64 → m ≡ count_ones (mask_l (map (top 7) z) % 2 ^ 64) → z ≡ map f v → ((x : ℕ) → top 7 (f x) ≡ is_byte c x)
    → m ≡ count_by (is_byte c) v
counted_lanes c n v m z f long few is lanes tells =
    let kinds : map (top 7) z ≡ map (is_byte c) v = ap (map (top 7)) lanes ∙ (map-map (top 7) f v ∙ ap (λ g. map g v) (fun_ext tells)) in
    is ∙ (ap (λ l. count_ones (mask_l l % 2 ^ 64)) kinds ∙ (ap count_ones (mask_l-mod (map (is_byte c) v) 64 (omega (arith, length-map v (is_byte c)))) ∙ ones-mask_l (is_byte c) v))

-- what is counted in a part and behind it is counted in all
pub counted_on : (c n count few : ℕ) (rest text : List ℕ) → few ≡ count_by (is_byte c) (take n rest) → count + count_by (is_byte c) rest ≡ count_by (is_byte c) text
    → (count + few) + count_by (is_byte c) (drop n rest) ≡ count_by (is_byte c) text
counted_on c n count few rest text is before =
    let split : count_by (is_byte c) (take n rest) + count_by (is_byte c) (drop n rest) ≡ count_by (is_byte c) rest = sum_by-take-drop (λ x. cond (is_byte c x) 1 0) rest n in
    omega (arith, is, before, split)

pub counted_low : (c n count few : ℕ) (rest text : List ℕ) → few ≡ count_by (is_byte c) (take n rest) → count + count_by (is_byte c) rest ≡ count_by (is_byte c) text → count + few ≤ length text
counted_low c n count few rest text is before = omega (arith, counted_on c n count few rest text is before, count_by-le-length (is_byte c) text)

-- a place found in a front of bytes
place_in_front : (c front : ℕ) (bytes : List ℕ) (last : ℕ) → IsLastByte (is_byte c) (take front bytes) (Some last) → (last < front) × IsAt c bytes last
place_in_front c front bytes last at =
    let low : last < front = omega (arith, length-take front bytes, at.0.high) in (
      low,
      record {
        within = omega (arith, length-take front bytes, at.0.high);
        there = sym (get_or-take front bytes last 0 low) ∙ (Decides-eqb (get_or (take front bytes) last 0) c).0 at.1;
      },
    )

-- behind the last but one separator stands a whole record
pub line_behind : (c front : ℕ) (bytes : List ℕ) (before last : ℕ) → IsLastByte (is_byte c) (take front bytes) (Some last) → IsLastByte (is_byte c) (take last bytes) (Some before)
    → BeginsWithLine c (drop (before + 1) bytes)
line_behind c front bytes before last at at_before =
    let is = (place_in_front c front bytes last at).1 in
    let low = (place_in_front c last bytes before at_before).0 in (
      last - (before + 1),
      record {
        within = omega (arith, low, is.within, length-drop (before + 1) bytes);
        there = get_or-drop (before + 1) bytes (last - (before + 1)) 0 ∙ (ap (λ k. get_or bytes k 0) (omega (arith, low)) ∙ is.there);
      },
    )
