-- What a search for a text that stands in each match tells of the matches.
use Rattle.std.proofs.Common.{◌≡◌, ℕ, ◌+◌, ◌-◌, ◌<◌, ◌≤◌, false, List, ◌++◌, length, take, drop, get_or, Option, Some, None, sym, ap, subst, ◌∙◌, arith}
use Rattle.std.specs.Option.{unwrap_or}
use Rattle.std.proofs.Math.Logic.{∥∥₁_elim}
use Rattle.std.proofs.lemmas.List.{length-append, get_or-append-add}
use Rattle.std.proofs.Math.ListN.{get_or-append}
use Rattle.memchr.specs.Find.{OccursAt, FindsNeedle}
use Rattle.awk_ere.specs.definitions.Tree.{Tree, Finds}
use Rattle.awk_ere.specs.definitions.Means.{Means, occurs, HasNoneUpTo}
use Rattle.awk_ere.specs.support.Found.{EndsAt}
use Rattle.awk_ere.specs.support.Required.{StandsInEach}
use Rattle.awk_ere.specs.declared.pattern.Pattern.{Pattern}
use Rattle.awk_ere.proofs.OccursDecided.{tells_ends}
use Rattle.awk_ere.proofs.StandingText.{occurs_behind, rest_finds}

-- ---- a text in a part of a text

part_occurs : (before part after needle : List ℕ) (k : ℕ) → OccursAt part needle k → OccursAt (before ++ (part ++ after)) needle (length before + k)
part_occurs before part after needle k o = record {
  fits = omega (arith, o.fits, length-append before (part ++ after), length-append part after);
  reads = λ j lt.
      ap (λ n. get_or (before ++ (part ++ after)) n 0) (let e : length before + k + j ≡ length before + (k + j) = omega arith in e)
      ∙ get_or-append-add before (part ++ after) (k + j) 0
      ∙ get_or-append part after 0 (k + j) (omega (arith, lt, o.fits))
      ∙ o.reads j lt;
}

-- ---- where the text stands nowhere

ends_behind : (s needle : List ℕ) (found : Option ℕ) → 0 < length needle → FindsNeedle s needle 0 found → (k : ℕ) → OccursAt s needle k → k + length needle ≤ unwrap_or found (length s) → ⊥
ends_behind s needle None some first k o le = first k (omega arith) (omega (arith, o.fits)) o
ends_behind s needle (Some f) some first k o le = first.0.before k (omega arith) (omega (arith, le, some)) o

no_two : (x y : ⊥) → x ≡ y
no_two x y = absurd x

module _ (needle : List ℕ) (p : Pattern) (each : StandsInEach needle p) (t : Tree) (means : Means t p) where
  pub none_passed : (s : List ℕ) (found : Option ℕ) → FindsNeedle s needle 0 found → HasNoneUpTo t s (unwrap_or found (length s))
  none_passed s found first before part after is le =
      sym (tells_ends t part None means.0
      (λ m. ∥∥₁_elim (each.stands t means part m.0 m.1 m.3 m.4) no_two (λ h.
      let o = subst (λ l. OccursAt l needle (length before + h.place)) (sym is) (part_occurs before part after needle h.place h.occurs) in
      ends_behind s needle found each.some first (length before + h.place) o (omega (arith, le, h.occurs.fits)))))

  none_ends : (s : List ℕ) → FindsNeedle s needle 0 None → EndsAt t s 0 (length s) None
  none_ends s first m =
      ∥∥₁_elim (each.stands t means s m.0 m.1 m.3 m.4) no_two (λ h. first h.place (omega arith) (omega (arith, h.occurs.fits)) h.occurs)

  pub none_occurs : (s : List ℕ) → FindsNeedle s needle 0 None → false ≡ occurs t s
  none_occurs s first = tells_ends t s None means.0 (none_ends s first)

  pub none_found : (s : List ℕ) (from : ℕ) → FindsNeedle (take (length s - from) (drop from s)) needle 0 None → Finds t s from None
  none_found s from first i j ge within m =
      ∥∥₁_elim (each.stands t means s i j within m) no_two (λ h.
      let o = occurs_behind s needle from h.place (omega (arith, ge, h.low)) h.occurs in
      rest_finds s needle from None first (h.place - from) (omega arith) (omega (arith, o.fits)) o)
