-- A pattern that is a text matches where the text stands.
use Rattle.std.proofs.Common.{◌≡◌, ℕ, suc, ◌+◌, ◌-◌, ◌<◌, ◌≤◌, Bool, true, false, List, [], ◌∷◌, ◌++◌, length, map, take, drop, get_or, Option, Some, None, refl, sym, ap, subst, ◌∙◌, append_assoc, append-nil, ⊎_elim, arith}
use Rattle.std.specs.Prelude.{◌==◌}
use Rattle.std.specs.List.{All}
use Rattle.std.specs.Option.{is_some, option_map}
use Rattle.std.proofs.lemmas.Bool.{false≢true, eq-eqb, eqb-true, cases_lt}
use Rattle.std.proofs.lemmas.List.{get_or_past, length-append, length-drop, length-map, map-append}
use Rattle.std.proofs.Math.ListN.{get_or-append}
use Rattle.std.proofs.Math.Seq.{take-suc, get_or-append_seam}
use Rattle.std.proofs.lemmas.List.FromFn.{length-map-range_with_len}
use Rattle.memchr.specs.Find.{OccursAt, FindsNeedle, Nowhere}
use Rattle.awk_ere.specs.definitions.Tree.{Class, has, class_of, Tree, Matches, Finds}
use Rattle.awk_ere.specs.definitions.Desugared.{Re, eps, one, first, last, cat, alt, plus, MatchesRe, desugar}
use Rattle.awk_ere.specs.definitions.Program.{ResolvedInstruction, read, resolve, code}
use Rattle.awk_ere.specs.support.Layout.{byte_count}
use Rattle.awk_ere.specs.support.Found.{EndsAt, IsOneByte}
use Rattle.awk_ere.specs.definitions.Means.{Means, occurs}
use Rattle.awk_ere.specs.support.Table.{ReadsBytes}
use Rattle.awk_ere.specs.declared.pattern.Pattern.{Pattern}
use Rattle.awk_ere.specs.declared.program.Instruction.{Instruction}
use Rattle.awk_ere.specs.declared.program.Instruction.TheVariants as instructions
use Rattle.awk_ere.proofs.ClassMembership.{has-class_of}
use Rattle.awk_ere.proofs.StandingText.{Stands, stands_append, stands_split, Small, small_bytes, small_left, small_right, stands_occurs, occurs_stands, occurs_behind, occurs_before, rest_finds}
use Rattle.awk_ere.proofs.OccursDecided.{tells_ends}
use Rattle.awk_ere.proofs.DesugaredMatches.{desugar_to, desugar_from}

-- ---- the instructions that read bytes

abbrev pub byte_read : ℕ → ResolvedInstruction
byte_read b = read (class_of (λ x. x == b))

seen_bytes : (cs : List Class) (l : List ℕ) → map (resolve cs) (map instructions.Byte l) ≡ map byte_read l
seen_bytes cs [] = refl
seen_bytes cs (b ∷ l) = ap (λ r. byte_read b ∷ r) (seen_bytes cs l)

abbrev none_left : List ResolvedInstruction → Bool
none_left [] = true
none_left (x ∷ rest) = false

abbrev reads_one : List ResolvedInstruction → Bool
reads_one (read c ∷ rest) = true
reads_one rest = false

abbrev class_read : List ResolvedInstruction → Class
class_read (read c ∷ rest) = c
class_read rest = []

pub has_byte : (b x : ℕ) → has (class_of (λ y. y == b)) x ≡ true → x ≡ b
has_byte b x h =
    ⊎_elim (λ lt. eqb-true x b (sym (has-class_of (λ y. y == b) x lt) ∙ h))
    (λ ge. absurd (false≢true (sym (get_or_past (class_of (λ y. y == b)) x false (omega (arith, ge, length-map-range_with_len (λ y. y == b) 0 byte_count))) ∙ h)))
    (cases_lt x byte_count)

record Reads (r : Re) (rest : List ResolvedInstruction) (l : List ℕ) : Type 0 where
  bytes : List ℕ
  others : List ℕ
  split : l ≡ bytes ++ others
  left : rest ≡ map byte_read others
  sound : (s : List ℕ) (i j : ℕ) → MatchesRe s r i j → Stands s bytes i j
  complete : (s : List ℕ) (i j : ℕ) → Small bytes → Stands s bytes i j → MatchesRe s r i j

reads_byte : (c : Class) (rest : List ResolvedInstruction) (b : ℕ) (l : List ℕ) → read c ∷ rest ≡ byte_read b ∷ map byte_read l → Reads (one c) rest (b ∷ l)
reads_byte c rest b l e =
    let same : c ≡ class_of (λ x. x == b) = ap class_read e in
    record {
      bytes = b ∷ [];
      others = l;
      split = refl;
      left = ap (drop 1) e;
      sound = λ s i j m. (m.1 ∙ ap Some (has_byte b m.0 (subst (λ k. has k m.0 ≡ true) same m.2)), sym m.3);
      complete = λ s i j small h. (b, h.0, subst (λ k. has k b ≡ true) (sym same) (has-class_of (λ x. x == b) b small.0 ∙ eq-eqb b b refl), sym h.1);
    }

reads : (r : Re) (rest : List ResolvedInstruction) (l : List ℕ) → code r rest ≡ map byte_read l → Reads r rest l
reads eps rest l e = record { bytes = []; others = l; split = refl; left = e; sound = λ s i j m. m; complete = λ s i j small h. h }
reads (one c) rest [] e = absurd (false≢true (ap none_left e))
reads (one c) rest (b ∷ l) e = reads_byte c rest b l e
reads first rest [] e = absurd (false≢true (ap none_left e))
reads first rest (b ∷ l) e = absurd (false≢true (ap reads_one e))
reads last rest [] e = absurd (false≢true (ap none_left e))
reads last rest (b ∷ l) e = absurd (false≢true (ap reads_one e))
reads (cat a b) rest l e =
    let x = reads a (code b rest) l e in
    let y = reads b rest x.others x.left in
    record {
      bytes = x.bytes ++ y.bytes;
      others = y.others;
      split = x.split ∙ ap (λ o. x.bytes ++ o) y.split ∙ sym (append_assoc x.bytes y.bytes y.others);
      left = y.left;
      sound = λ s i j m. stands_append s x.bytes y.bytes i m.0 j (x.sound s i m.0 m.1) (y.sound s m.0 j m.2);
      complete = λ s i j small h.
          let k = stands_split s x.bytes y.bytes i j h in
          (k.0, x.complete s i k.0 (small_left x.bytes y.bytes small) k.1, y.complete s k.0 j (small_right x.bytes y.bytes small) k.2);
    }
reads (alt a b) rest [] e = absurd (false≢true (ap none_left e))
reads (alt a b) rest (x ∷ l) e = absurd (false≢true (ap reads_one e))
reads (plus a) rest [] e = absurd (false≢true (ap none_left e))
reads (plus a) rest (x ∷ l) e = absurd (false≢true (ap reads_one e))

-- ---- the pattern

no_bytes : (l : List ℕ) → [] ≡ map byte_read l → l ≡ []
no_bytes [] e = refl
no_bytes (b ∷ l) e = absurd (false≢true (sym (ap none_left e)))

record Whole (t : Tree) (l : List ℕ) : Type 0 where
  sound : (s : List ℕ) (i j : ℕ) → Matches s t i j → Stands s l i j
  complete : (s : List ℕ) (i j : ℕ) → Stands s l i j → Matches s t i j

whole : (t : Tree) (p : Pattern) (l : List ℕ) → Means t p → ReadsBytes l p → Whole t l
whole t p l means literal =
    let cs = p.program.classes.items in
    let e : code (desugar t) [] ≡ map byte_read l = sym means.1 ∙ ap (map (resolve cs)) literal.each ∙ seen_bytes cs l in
    let r = reads (desugar t) [] l e in
    let all : l ≡ r.bytes = r.split ∙ ap (λ o. r.bytes ++ o) (no_bytes r.others r.left) ∙ append-nil r.bytes in
    let small = subst Small all (small_bytes l literal.small) in
    record {
      sound = λ s i j m. subst (λ b. Stands s b i j) (sym all) (r.sound s i j (desugar_to s t i j m));
      complete = λ s i j h. desugar_from s t i j means.0 (r.complete s i j small (subst (λ b. Stands s b i j) all h));
    }

-- a text of one byte
only_one : (l : List ℕ) → length l ≡ 1 → l ≡ get_or l 0 0 ∷ []
only_one [] e = absurd (omega (arith, e))
only_one (b ∷ []) e = refl
only_one (b ∷ c ∷ l) e = absurd (omega (arith, e))

pub one_byte : (t : Tree) (p : Pattern) (l : List ℕ) → length l ≡ 1 → Means t p → ReadsBytes l p → IsOneByte t (get_or l 0 0)
one_byte t p l e means literal =
    let byte = get_or l 0 0 in
    let w = whole t p (byte ∷ []) means (subst (λ k. ReadsBytes k p) (only_one l e) literal) in
    λ s i j. (λ m. let h = w.sound s i j m in (h.0, sym h.1), λ h. w.complete s i j (h.0, sym h.1))

-- a search for the text finds where a match ends
literal_ends : (t : Tree) (p : Pattern) (s l : List ℕ) (r : Option ℕ) → Means t p → ReadsBytes l p → FindsNeedle s l 0 r → EndsAt t s 0 (length s) (option_map (λ i. i + length l) r)
literal_ends t p s l None means literal none =
    λ m. none m.0 m.2 (omega (arith, m.3)) (stands_occurs s l m.0 m.1 m.3 ((whole t p l means literal).sound s m.0 m.1 m.4)).0
literal_ends t p s l (Some k) means literal found =
    (k, omega arith, omega (arith, found.1.fits), (whole t p l means literal).complete s k (k + length l) (occurs_stands s l k found.1))

is_some_mapped : (f : ℕ → ℕ) (r : Option ℕ) → is_some r ≡ is_some (option_map f r)
is_some_mapped f None = refl
is_some_mapped f (Some k) = refl

-- whether the search finds the text tells whether the pattern matches somewhere
pub literal_tells : (t : Tree) (p : Pattern) (s l : List ℕ) (r : Option ℕ) → Means t p → ReadsBytes l p → FindsNeedle s l 0 r → is_some r ≡ occurs t s
literal_tells t p s l r means literal found =
    is_some_mapped (λ i. i + length l) r ∙ tells_ends t s _ means.0 (literal_ends t p s l r means literal found)

-- a search from a place on finds the leftmost match, which is the only one that begins there
module _ (t : Tree) (p : Pattern) (s l : List ℕ) (from : ℕ) (means : Means t p) (literal : ReadsBytes l p) where
  none_before : (k : ℕ) → Nowhere (OccursAt (drop from s) l) 0 k → (i j : ℕ) → from ≤ i → i ≤ length s → i < from + k → Matches s t i j → ⊥
  none_before k none i j ge within lt m =
      let o = (stands_occurs s l i j within ((whole t p l means literal).sound s i j m)).0 in
      none (i - from) (omega arith) (omega (arith, ge, lt)) (occurs_behind s l from i ge o)

  pub literal_finds : (r : Option ℕ) → from ≤ length s → FindsNeedle (take (length s - from) (drop from s)) l 0 r → Finds t s from (option_map (λ k. (from + k, from + k + length l)) r)
  literal_finds None le none = λ i j ge within m.
      none_before (length (drop from s) + 1) (rest_finds s l from None none) i j ge within (omega (arith, within, length-drop from s)) m
  literal_finds (Some k) le some =
      let found = rest_finds s l from (Some k) some in
      let o = occurs_before s l from k le found.1 in
      let w = whole t p l means literal in (
        omega arith,
        omega (arith, o.fits),
        (λ i j ge lt m. none_before k found.0.before i j ge (omega (arith, lt, o.fits)) lt m),
        w.complete s (from + k) (from + k + length l) (occurs_stands s l (from + k) o),
        (λ j m. let h = stands_occurs s l (from + k) j (omega (arith, o.fits)) (w.sound s (from + k) j m) in omega (arith, h.1)),
      )

-- how many bytes the pattern reads
pub literal_length : (l : List ℕ) (p : Pattern) → ReadsBytes l p → length p.program.instructions.items ≡ length l
literal_length l p literal = ap length literal.each ∙ length-map l instructions.Byte

-- ---- one more byte is read

module _ (old new : List ℕ) (b : ℕ) (is : new ≡ old ++ b ∷ []) where
  pub one_more_read : (l : List Instruction) (i : ℕ) → i < length l → get_or l i (instructions.Byte 0) ≡ instructions.Byte b → take i l ≡ map instructions.Byte old → take (i + 1) l ≡ map instructions.Byte new
  one_more_read l i lt here h =
      let next : i + 1 ≡ suc i = omega arith in
      ap (λ k. take k l) next
      ∙ take-suc l i (instructions.Byte 0) lt
      ∙ ap (λ x. take i l ++ x ∷ []) here
      ∙ ap (λ k. k ++ instructions.Byte b ∷ []) h
      ∙ sym (map-append instructions.Byte old (b ∷ []))
      ∙ ap (map instructions.Byte) (sym is)

  pub one_more_small : b < byte_count → All (λ x. x < byte_count) old → All (λ x. x < byte_count) new
  one_more_small lt h = λ k d below.
      subst (λ l. get_or l k d < byte_count) (sym is)
      (⊎_elim
      (λ left. subst (λ n. n < byte_count) (sym (get_or-append old (b ∷ []) d k left)) (h k d left))
      (λ right.
      let len = ap length is ∙ length-append old (b ∷ []) in
      let last : k ≡ length old = omega (arith, right, below, len) in
      subst (λ n. get_or (old ++ b ∷ []) n d < byte_count) (sym last) (subst (λ n. n < byte_count) (sym (get_or-append_seam old b [] d)) lt))
      (cases_lt k (length old)))
