-- Calls, as they are kept in one list of all parameters.
use Rattle.std.proofs.Common.{◌≡◌, ℕ, zero, suc, ◌+◌, ◌-◌, ◌<◌, ◌≤◌, List, [], ◌∷◌, ◌++◌, length, map, reverse, take, drop, set, refl, sym, ap, ◌∙◌, subst, arith, length-append, length-drop, length-take, length-set}
use Rattle.std.specs.Prelude.{slice_get, Some, None}
use Rattle.std.specs.List.{sum}
use Rattle.std.proofs.lemmas.List.Sums.{sum_by-cons}
use Rattle.awk_value.specs.declared.value.Value.{Value}
use Rattle.std.proofs.lemmas.List.{take-append-le, drop-append-le, drop-drop, drop-take, take-append-drop, take_all, drop_all, drop-set-add, drop-set-lt, take-set-le, map-append, reverse-append}
use Rattle.awk_semantics.specs.declared.local.Local.{Local}
use Rattle.awk_storage.specs.declared.entry.Entry.{Entry}
use Rattle.awk_storage.specs.Control.{but_last}
use Rattle.awk_storage.proofs.ItemLemmas.{take-set}
use Rattle.awk_storage.proofs.Heights.{but_last_more}
use Rattle.awk_storage.specs.support.Frames.{FrameView, ActiveView, Saved, saved_of, frame_of, frames_from, total_count, front_of, newest_count, callers_in, AreKept, heights_of, older_of, newest_of, arrays_before_of, with_newest_of, given, with_value_at}

-- more at the end is given to the next call
pub frames-append : (older : List FrameView) (locals more : List Local) (saved : List Saved) → total_count saved ≤ length locals → frames_from older (locals ++ more) saved ≡ record { frames = (frames_from older locals saved).frames; staged = (frames_from older locals saved).staged ++ more }
frames-append older locals more [] low = refl
frames-append older locals more (x ∷ xs) low =
    let first : take x.count (locals ++ more) ≡ take x.count locals = take-append-le x.count locals more (omega arith) in
    let rest : drop x.count (locals ++ more) ≡ drop x.count locals ++ more = drop-append-le x.count locals more (omega arith) in
    ap (λ l. frames_from (record { locals = l; height = x.height; arrays_before = x.arrays_before } ∷ older) (drop x.count (locals ++ more)) xs) first
    ∙ (ap (λ l. frames_from (frame_of x locals ∷ older) l xs) rest
    ∙ frames-append (frame_of x locals ∷ older) (drop x.count locals) more xs (omega (arith, length-drop x.count locals)))

-- one call more
pub frames-snoc : (older : List FrameView) (locals : List Local) (saved : List Saved) (x : Saved) → frames_from older locals (saved ++ x ∷ []) ≡ record { frames = frame_of x (frames_from older locals saved).staged ∷ (frames_from older locals saved).frames; staged = drop x.count (frames_from older locals saved).staged }
frames-snoc older locals [] x = refl
frames-snoc older locals (y ∷ ys) x = frames-snoc (frame_of y locals ∷ older) (drop y.count locals) ys x

pub staged-is : (older : List FrameView) (locals : List Local) (saved : List Saved) → (frames_from older locals saved).staged ≡ drop (total_count saved) locals
staged-is older locals [] = refl
staged-is older locals (x ∷ xs) = staged-is (frame_of x locals ∷ older) (drop x.count locals) xs ∙ drop-drop (total_count xs) x.count locals

-- the parameters of all calls alone tell the calls
pub frames-take : (older : List FrameView) (locals : List Local) (saved : List Saved) (n : ℕ) → total_count saved ≤ n → n ≤ length locals → frames_from older (take n locals) saved ≡ record { frames = (frames_from older locals saved).frames; staged = drop (total_count saved) (take n locals) }
frames-take older locals saved n low high =
    let cut = take n locals in
    let whole : frames_from older locals saved ≡ record { frames = (frames_from older cut saved).frames; staged = (frames_from older cut saved).staged ++ drop n locals } =
    ap (λ l. frames_from older l saved) (sym (take-append-drop n locals)) ∙ frames-append older cut (drop n locals) saved (omega (arith, length-take n locals)) in
    ap (λ fs. record { frames = fs; staged = (frames_from older cut saved).staged }) (sym (ap (λ (v : ActiveView). v.frames) whole))
    ∙ ap (λ l. record { frames = (frames_from older locals saved).frames; staged = l }) (staged-is older cut saved)

pub count-snoc : (saved : List Saved) (x : Saved) → total_count (saved ++ x ∷ []) ≡ total_count saved + x.count
count-snoc [] x = omega arith
count-snoc (y ∷ ys) x = omega (arith, count-snoc ys x)

-- the entries and the heights, as they are kept together

pub saved-snoc : (es : List Entry) (hs : List ℕ) (e : Entry) (h : ℕ) → length es ≡ length hs → saved_of (es ++ e ∷ []) (hs ++ h ∷ []) ≡ saved_of es hs ++ record { count = e.count; height = h; arrays_before = e.arrays_before } ∷ []
saved-snoc [] [] e h same = refl
saved-snoc [] (y ∷ ys) e h same = absurd (omega (arith, same))
saved-snoc (x ∷ xs) [] e h same = absurd (omega (arith, same))
saved-snoc (x ∷ xs) (y ∷ ys) e h same = ap (λ l. record { count = x.count; height = y; arrays_before = x.arrays_before } ∷ l) (saved-snoc xs ys e h (omega (arith, same)))

pub heights-are : (older : List FrameView) (locals : List Local) (es : List Entry) (hs : List ℕ) → length es ≡ length hs → heights_of (frames_from older locals (saved_of es hs)).frames ≡ sum hs + heights_of older
heights-are older locals [] [] same = omega arith
heights-are older locals [] (y ∷ ys) same = absurd (omega (arith, same))
heights-are older locals (x ∷ xs) [] same = absurd (omega (arith, same))
heights-are older locals (x ∷ xs) (y ∷ ys) same =
    let s : Saved = record { count = x.count; height = y; arrays_before = x.arrays_before } in
    let rest = heights-are (frame_of s locals ∷ older) (drop x.count locals) xs ys (omega (arith, same)) in
    let all = sum_by-cons (λ n. n) y ys in
    omega (arith, rest, all)

-- the newest call

pub front-snoc : (saved : List Saved) (x : Saved) → front_of (saved ++ x ∷ []) ≡ saved
front-snoc [] x = refl
front-snoc (y ∷ []) x = refl
front-snoc (y ∷ z ∷ more) x = ap (λ l. y ∷ l) (front-snoc (z ∷ more) x)

pub newest-snoc : (saved : List Saved) (x : Saved) → newest_count (saved ++ x ∷ []) ≡ x.count
newest-snoc [] x = refl
newest-snoc (y ∷ []) x = refl
newest-snoc (y ∷ z ∷ more) x = newest-snoc (z ∷ more) x

pub record Snoc {A : Type 0} (saved : List A) : Type 0 where
  pub front : List A
  pub last : A
  pub is : saved ≡ front ++ last ∷ []

pub snoc_of : {A : Type 0} (x : A) (more : List A) → Snoc (x ∷ more)
snoc_of x [] = record { front = []; last = x; is = refl }
snoc_of x (y ∷ more) = let r = snoc_of y more in record { front = x ∷ r.front; last = r.last; is = ap (λ l. x ∷ l) r.is }

pub counts : (saved : List Saved) → total_count saved ≡ total_count (front_of saved) + newest_count saved
counts [] = refl
counts (x ∷ []) = omega arith
counts (x ∷ y ∷ more) = omega (arith, counts (y ∷ more))

-- an element of the middle of a list
slice_get-drop : {X : Type 0} (xs : List X) (n i : ℕ) → slice_get (drop n xs) i ≡ slice_get xs (n + i)
slice_get-drop xs zero i = ap (slice_get xs) (omega arith)
slice_get-drop [] (suc n) i = refl
slice_get-drop (x ∷ xs) (suc n) i = let e : suc n + i ≡ suc (n + i) = omega arith in slice_get-drop xs n i ∙ ap (slice_get (x ∷ xs)) (sym e)

slice_get-take : {X : Type 0} (xs : List X) (n i : ℕ) → i < n → slice_get (take n xs) i ≡ slice_get xs i
slice_get-take xs zero i low = absurd (omega arith)
slice_get-take [] (suc n) i low = refl
slice_get-take (x ∷ xs) (suc n) zero low = refl
slice_get-take (x ∷ xs) (suc n) (suc i) low = slice_get-take xs n i (omega arith)

slice_get-long : {X : Type 0} (xs : List X) (n i : ℕ) → n ≤ i → slice_get (take n xs) i ≡ None
slice_get-long xs zero i low = refl
slice_get-long [] (suc n) i low = refl
slice_get-long (x ∷ xs) (suc n) zero low = absurd (omega arith)
slice_get-long (x ∷ xs) (suc n) (suc i) low = slice_get-long xs n i (omega arith)

-- the parameters of the newest call stand in the middle of all
module _ (front : List Saved) (last : Saved) (locals : List Local) where
  newest-is : newest_of (frames_from [] locals (front ++ last ∷ [])).frames ≡ take last.count (drop (total_count front) locals)
  newest-is = ap (λ (v : ActiveView). newest_of v.frames) (frames-snoc [] locals front last) ∙ ap (take last.count) (staged-is [] locals front)

  newest-get : (i : ℕ) → i < last.count → slice_get (newest_of (frames_from [] locals (front ++ last ∷ [])).frames) i ≡ slice_get locals (total_count front + i)
  newest-get i low = ap (λ l. slice_get l i) newest-is ∙ (slice_get-take (drop (total_count front) locals) last.count i low ∙ slice_get-drop locals (total_count front) i)

  newest-past : (i : ℕ) → last.count ≤ i → slice_get (newest_of (frames_from [] locals (front ++ last ∷ [])).frames) i ≡ None
  newest-past i low = ap (λ l. slice_get l i) newest-is ∙ slice_get-long (drop (total_count front) locals) last.count i low

-- a parameter of the newest call is another one
module _ (front : List Saved) (last : Saved) (locals : List Local) (i : ℕ) (l : Local) (low : i < last.count) (within : total_count front + i < length locals) where
  same_front : (frames_from [] (set locals (total_count front + i) l) front).frames ≡ (frames_from [] locals front).frames
  same_front =
      let b = total_count front in
      let new = set locals (b + i) l in
      let cut : take b new ≡ take b locals = take-set-le b locals (b + i) l (omega arith) in
      let one = frames-take [] new front b (omega arith) (omega (arith, length-set locals (b + i) l)) in
      let two = frames-take [] locals front b (omega arith) (omega arith) in
      ap (λ (v : ActiveView). v.frames) (sym one ∙ (ap (λ x. frames_from [] x front) cut ∙ two))

  pub with-given : frames_from [] (set locals (total_count front + i) l) (front ++ last ∷ [])
      ≡ record { frames = with_newest_of (set (newest_of (frames_from [] locals (front ++ last ∷ [])).frames) i l) (frames_from [] locals (front ++ last ∷ [])).frames; staged = (frames_from [] locals (front ++ last ∷ [])).staged }
  with-given =
      let b = total_count front in
      let new = set locals (b + i) l in
      let middle : drop b new ≡ set (drop b locals) i l = drop-set-add b locals i l in
      let old = frames-snoc [] locals front last in
      let staged : (frames_from [] new front).staged ≡ set (frames_from [] locals front).staged i l =
      staged-is [] new front ∙ (middle ∙ ap (λ x. set x i l) (sym (staged-is [] locals front))) in
      let s = (frames_from [] locals front).staged in
      let locals_is : take last.count (frames_from [] new front).staged ≡ set (take last.count s) i l = ap (take last.count) staged ∙ take-set s last.count i l in
      let rest_is : drop last.count (frames_from [] new front).staged ≡ drop last.count s = ap (drop last.count) staged ∙ drop-set-lt last.count s i l low in
      frames-snoc [] new front last
      ∙ (ap (λ x. record { frames = record { locals = x; height = last.height; arrays_before = last.arrays_before } ∷ (frames_from [] new front).frames; staged = drop last.count (frames_from [] new front).staged }) locals_is
      ∙ (ap (λ x. record { frames = record { locals = set (take last.count s) i l; height = last.height; arrays_before = last.arrays_before } ∷ x; staged = drop last.count (frames_from [] new front).staged }) same_front
      ∙ (ap (λ x. record { frames = record { locals = set (take last.count s) i l; height = last.height; arrays_before = last.arrays_before } ∷ (frames_from [] locals front).frames; staged = x }) rest_is
      ∙ ap (λ (v : ActiveView). record { frames = with_newest_of (set (newest_of v.frames) i l) v.frames; staged = v.staged }) (sym old))))

-- what the code reads and writes, by the places where the newest call begins and ends
module _ (saved : List Saved) (locals : List Local) (base top : ℕ) where
  pub in-order : AreKept saved locals base top → base ≤ top
  in-order kept = omega (arith, kept.begin, kept.end, counts saved)

  pub get-newest : AreKept saved locals base top → (i : ℕ) → i < top - base → slice_get locals (base + i) ≡ slice_get (newest_of (frames_from [] locals saved).frames) i
  get-newest kept i low = by saved kept
    where
      by : (saved : List Saved) → AreKept saved locals base top → slice_get locals (base + i) ≡ slice_get (newest_of (frames_from [] locals saved).frames) i
      by [] kept = absurd (omega (arith, kept.begin, kept.end))
      by (x ∷ more) kept =
          let s = snoc_of x more in
          let front : front_of (x ∷ more) ≡ s.front = ap front_of s.is ∙ front-snoc s.front s.last in
          let begin : base ≡ total_count s.front = kept.begin ∙ ap total_count front in
          let count : top ≡ total_count s.front + s.last.count = kept.end ∙ (ap total_count s.is ∙ count-snoc s.front s.last) in
          ap (λ b. slice_get locals (b + i)) begin
          ∙ (sym (newest-get s.front s.last locals i (omega arith)) ∙ ap (λ y. slice_get (newest_of (frames_from [] locals y).frames) i) (sym s.is))

  pub none-newest : AreKept saved locals base top → (i : ℕ) → top - base ≤ i → slice_get (newest_of (frames_from [] locals saved).frames) i ≡ None
  none-newest kept i low = by saved kept
    where
      by : (saved : List Saved) → AreKept saved locals base top → slice_get (newest_of (frames_from [] locals saved).frames) i ≡ None
      by [] kept = refl
      by (x ∷ more) kept =
          let s = snoc_of x more in
          let front : front_of (x ∷ more) ≡ s.front = ap front_of s.is ∙ front-snoc s.front s.last in
          let begin : base ≡ total_count s.front = kept.begin ∙ ap total_count front in
          let count : top ≡ total_count s.front + s.last.count = kept.end ∙ (ap total_count s.is ∙ count-snoc s.front s.last) in
          ap (λ y. slice_get (newest_of (frames_from [] locals y).frames) i) s.is ∙ newest-past s.front s.last locals i (omega arith)

  pub set-newest : AreKept saved locals base top → (i : ℕ) (old : Local) (v : Value) → i < top - base → slice_get locals (base + i) ≡ Some old
      → frames_from [] (set locals (base + i) (given old v)) saved
      ≡ record { frames = with_value_at (slice_get (newest_of (frames_from [] locals saved).frames) i) i v (frames_from [] locals saved).frames; staged = (frames_from [] locals saved).staged }
  set-newest kept i old v low at = by saved kept
    where
      by : (saved : List Saved) → AreKept saved locals base top → frames_from [] (set locals (base + i) (given old v)) saved
          ≡ record { frames = with_value_at (slice_get (newest_of (frames_from [] locals saved).frames) i) i v (frames_from [] locals saved).frames; staged = (frames_from [] locals saved).staged }
      by [] kept = absurd (omega (arith, kept.begin, kept.end))
      by (x ∷ more) kept =
          let s = snoc_of x more in
          let front : front_of (x ∷ more) ≡ s.front = ap front_of s.is ∙ front-snoc s.front s.last in
          let begin : base ≡ total_count s.front = kept.begin ∙ ap total_count front in
          let count : top ≡ total_count s.front + s.last.count = kept.end ∙ (ap total_count s.is ∙ count-snoc s.front s.last) in
          let low' : i < s.last.count = omega arith in
          let within : total_count s.front + i < length locals = omega (arith, kept.within) in
          let got : slice_get (newest_of (frames_from [] locals (s.front ++ s.last ∷ [])).frames) i ≡ Some old = newest-get s.front s.last locals i low' ∙ (ap (λ b. slice_get locals (b + i)) (sym begin) ∙ at) in
          let new = frames_from [] locals (s.front ++ s.last ∷ []) in
          subst (λ (y : List Saved). frames_from [] (set locals (base + i) (given old v)) y ≡ record { frames = with_value_at (slice_get (newest_of (frames_from [] locals y).frames) i) i v (frames_from [] locals y).frames; staged = (frames_from [] locals y).staged }) (sym s.is)
          (ap (λ b. frames_from [] (set locals (b + i) (given old v)) (s.front ++ s.last ∷ [])) begin
          ∙ (with-given s.front s.last locals i (given old v) low' within
          ∙ ap (λ o. record { frames = with_value_at o i v new.frames; staged = new.staged }) (sym got)))

-- the calls of the methods, over what is kept

module _ (saved : List Saved) (locals : List Local) (base top : ℕ) (kept : AreKept saved locals base top) where
  pub entered : (x : Saved) → x.count ≡ length locals - top → frames_from [] locals (saved ++ x ∷ []) ≡ record { frames = record { locals = (frames_from [] locals saved).staged; height = x.height; arrays_before = x.arrays_before } ∷ (frames_from [] locals saved).frames; staged = [] }
  entered x count =
      let s = (frames_from [] locals saved).staged in
      let long : length s ≤ x.count = omega (arith, ap length (staged-is [] locals saved), length-drop (total_count saved) locals, kept.end, kept.within) in
      frames-snoc [] locals saved x
      ∙ (ap (λ l. record { frames = record { locals = l; height = x.height; arrays_before = x.arrays_before } ∷ (frames_from [] locals saved).frames; staged = drop x.count s }) (take_all x.count s long)
      ∙ ap (λ l. record { frames = record { locals = s; height = x.height; arrays_before = x.arrays_before } ∷ (frames_from [] locals saved).frames; staged = l }) (drop_all x.count s long))

  pub kept-entered : (x : Saved) → x.count ≡ length locals - top → AreKept (saved ++ x ∷ []) locals top (length locals)
  kept-entered x count = record {
    begin = kept.end ∙ ap total_count (sym (front-snoc saved x));
    end = omega (arith, count-snoc saved x, kept.end, kept.within);
    within = omega arith;
  }

  pub staged-count : length (frames_from [] locals saved).staged ≡ length locals - top
  staged-count = omega (arith, ap length (staged-is [] locals saved), length-drop (total_count saved) locals, kept.end)

  -- no more than so many are left of what is given
  pub staged-cut : (n count : ℕ) → n ≡ top + count → n ≤ length locals → frames_from [] (take n locals) saved ≡ record { frames = (frames_from [] locals saved).frames; staged = take count (frames_from [] locals saved).staged }
  staged-cut n count is high =
      let all = total_count saved in
      let n_is : n ≡ all + count = omega (arith, is, kept.end) in
      frames-take [] locals saved n (omega (arith, n_is)) high
      ∙ ap (λ l. record { frames = (frames_from [] locals saved).frames; staged = l })
      (ap (λ k. drop all (take k locals)) n_is ∙ (drop-take all count locals ∙ ap (take count) (sym (staged-is [] locals saved))))

  pub kept-cut : (n : ℕ) → top ≤ n → n ≤ length locals → AreKept saved (take n locals) base top
  kept-cut n low high = record { begin = kept.begin; end = kept.end; within = omega (arith, length-take n locals) }

-- the newest call is over
module _ (front : List Saved) (x : Saved) (locals : List Local) (base top : ℕ) (kept : AreKept (front ++ x ∷ []) locals base top) where
  pub base-left : base ≡ total_count front
  base-left = kept.begin ∙ ap total_count (front-snoc front x)

  pub room-left : base ≤ length locals
  room-left = omega (arith, base-left, count-snoc front x, kept.end, kept.within)

  pub left : frames_from [] (take base locals) front ≡ record { frames = older_of (frames_from [] locals (front ++ x ∷ [])).frames; staged = [] }
  left =
      frames-take [] locals front base (omega (arith, base-left)) room-left
      ∙ (ap (λ l. record { frames = (frames_from [] locals front).frames; staged = l }) (drop_all (total_count front) (take base locals) (omega (arith, length-take base locals, base-left)))
      ∙ ap (λ (v : ActiveView). record { frames = older_of v.frames; staged = [] }) (sym (frames-snoc [] locals front x)))

  pub count-left : newest_count front ≤ base
  count-left = omega (arith, base-left, counts front)

  pub kept-left : AreKept front (take base locals) (base - newest_count front) base
  kept-left = record {
    begin = omega (arith, base-left, counts front);
    end = base-left;
    within = omega (arith, length-take base locals, room-left);
  }

-- the last of the calls that are kept is the newest one

get-last : {A : Type 0} (front : List A) (x : A) (n : ℕ) → n ≡ length front → slice_get (front ++ x ∷ []) n ≡ Some x
get-last [] x zero e = refl
get-last [] x (suc n) e = absurd (omega arith)
get-last (y ∷ front) x zero e = absurd (omega arith)
get-last (y ∷ front) x (suc n) e = get-last front x n (omega arith)

pub last_is : {A : Type 0} (saved : List A) (x : A) → Some x ≡ slice_get saved (length saved - 1) → (front : List A) × (saved ≡ front ++ x ∷ [])
last_is [] x e = absurd (cc)
last_is (y ∷ more) x e =
    let s = snoc_of y more in
    let count : length (y ∷ more) - 1 ≡ length s.front = omega (arith, ap length s.is, length-append s.front (s.last ∷ [])) in
    let got : Some x ≡ Some s.last = e ∙ (ap (λ l. slice_get l (length (y ∷ more) - 1)) s.is ∙ get-last s.front s.last (length (y ∷ more) - 1) count) in
    let same : s.last ≡ x = cc in
    (s.front, s.is ∙ ap (λ z. s.front ++ z ∷ []) same)

-- the newest entry, with the height of its body

pub record Newest (es : List Entry) (hs : List ℕ) (e : Entry) : Type 0 where
  pub older : List Saved
  pub height : ℕ
  pub is : saved_of es hs ≡ older ++ record { count = e.count; height = height; arrays_before = e.arrays_before } ∷ []

pub saved-left : (es : List Entry) (hs : List ℕ) (front : List Entry) (e : Entry) → length es ≡ length hs → es ≡ front ++ e ∷ []
    → (h : ℕ) × (saved_of es hs ≡ saved_of front (but_last hs) ++ record { count = e.count; height = h; arrays_before = e.arrays_before } ∷ [])
saved-left es [] front e same is = absurd (omega (arith, same, ap length is, length-append front (e ∷ [])))
saved-left es (y ∷ ys) front e same is =
    let s = snoc_of y ys in
    let long : length front ≡ length s.front = omega (arith, same, ap length is, length-append front (e ∷ []), ap length s.is, length-append s.front (s.last ∷ [])) in
    let cut : but_last (y ∷ ys) ≡ s.front = ap but_last s.is ∙ but_last_more s.front s.last in (
      s.last,
      ap (λ l. saved_of l (y ∷ ys)) is ∙ ap (λ l. saved_of (front ++ e ∷ []) l) s.is ∙ saved-snoc front s.front e s.last long
          ∙ ap (λ l. saved_of front l ++ record { count = e.count; height = s.last; arrays_before = e.arrays_before } ∷ []) (sym cut),
    )

pub newest_saved : (es : List Entry) (hs : List ℕ) (e : Entry) → length es ≡ length hs → Some e ≡ slice_get es (length es - 1) → Newest es hs e
newest_saved es hs e same at =
    let s = last_is es e at in
    let left = saved-left es hs s.0 e same s.1 in
    record { older = saved_of s.0 (but_last hs); height = left.0; is = left.1 }

pub last-count : (es : List Entry) (hs : List ℕ) (e : Entry) → length es ≡ length hs → Some e ≡ slice_get es (length es - 1) → e.count ≡ newest_count (saved_of es hs)
last-count es hs e same at =
    let n = newest_saved es hs e same at in
    sym (ap newest_count n.is ∙ newest-snoc n.older (record { count = e.count; height = n.height; arrays_before = e.arrays_before }))

-- where no entry stands, no call is active

none-stands : (es : List Entry) → None ≡ slice_get es (length es - 1) → es ≡ []
none-stands [] none = refl
none-stands (e ∷ es) none =
    let s = snoc_of e es in
    let at : length (e ∷ es) - 1 ≡ length s.front = omega (arith, ap length s.is, length-append s.front (s.last ∷ [])) in
    let got : None ≡ Some s.last = none ∙ (ap (λ l. slice_get l (length (e ∷ es) - 1)) s.is ∙ get-last s.front s.last (length (e ∷ es) - 1) at) in
    absurd (cc)

pub no-newest : (es : List Entry) (hs : List ℕ) → None ≡ slice_get es (length es - 1) → 0 ≡ newest_count (saved_of es hs)
no-newest es hs none = ap (λ l. newest_count (saved_of l hs)) (sym (none-stands es none))

pub none-long : {A : Type 0} (xs : List A) → length xs ≡ 0 → xs ≡ []
none-long [] e = refl
none-long (x ∷ xs) e = absurd (omega (arith, e))

pub no-frames : (es : List Entry) (hs : List ℕ) (locals : List Local) → es ≡ [] → (frames_from [] locals (saved_of es hs)).frames ≡ []
no-frames es hs locals none = ap (λ l. (frames_from [] locals (saved_of l hs)).frames) none

pub no-callers : (es : List Entry) → es ≡ [] → callers_in es ≡ []
no-callers es none = ap callers_in none

-- the callers

pub callers-more : (es : List Entry) (e : Entry) → callers_in (es ++ e ∷ []) ≡ e.caller ∷ callers_in es
callers-more es e = ap reverse (map-append (λ (x : Entry). x.caller) es (e ∷ [])) ∙ reverse-append (map (λ (x : Entry). x.caller) es) (e.caller ∷ [])

-- one call more is kept
module _ (es : List Entry) (hs : List ℕ) (locals : List Local) (base top : ℕ) (kept : AreKept (saved_of es hs) locals base top) (same : length es ≡ length hs) (e : Entry) (height : ℕ) (count : e.count ≡ length locals - top) {es' : List Entry} {hs' : List ℕ}
    (entries : es' ≡ es ++ e ∷ []) (heights : hs' ≡ hs ++ height ∷ []) where
  with-entry : saved_of es' hs' ≡ saved_of es hs ++ record { count = e.count; height = height; arrays_before = e.arrays_before } ∷ []
  with-entry = ap (λ l. saved_of l hs') entries ∙ ap (λ l. saved_of (es ++ e ∷ []) l) heights ∙ saved-snoc es hs e height same

  pub entry-kept : AreKept (saved_of es' hs') locals top (length locals)
  entry-kept = subst (λ (l : List Saved). AreKept l locals top (length locals)) (sym with-entry) (kept-entered (saved_of es hs) locals base top kept (record { count = e.count; height = height; arrays_before = e.arrays_before }) count)

  pub entry-frames : frames_from [] locals (saved_of es' hs') ≡ record { frames = record { locals = (frames_from [] locals (saved_of es hs)).staged; height = height; arrays_before = e.arrays_before } ∷ (frames_from [] locals (saved_of es hs)).frames; staged = [] }
  entry-frames = ap (λ l. frames_from [] locals l) with-entry ∙ entered (saved_of es hs) locals base top kept (record { count = e.count; height = height; arrays_before = e.arrays_before }) count

-- the newest call is left
module _ (es : List Entry) (hs : List ℕ) (front : List Entry) (e : Entry) (locals : List Local) (base top : ℕ) (kept : AreKept (saved_of es hs) locals base top) (same : length es ≡ length hs) (is : es ≡ front ++ e ∷ []) where
  abbrev older : List Saved
  older = saved_of front (but_last hs)

  abbrev gone : Saved
  gone = record { count = e.count; height = (saved-left es hs front e same is).0; arrays_before = e.arrays_before }

  still : AreKept (older ++ gone ∷ []) locals base top
  still = subst (λ (l : List Saved). AreKept l locals base top) (saved-left es hs front e same is).1 kept

  pub left-room : base ≤ length locals
  left-room = room-left older gone locals base top still

  pub left-newest : newest_count older ≤ base
  left-newest = count-left older gone locals base top still

  pub left-kept : AreKept older (take base locals) (base - newest_count older) base
  left-kept = kept-left older gone locals base top still

  pub left-frames : frames_from [] (take base locals) older ≡ record { frames = older_of (frames_from [] locals (saved_of es hs)).frames; staged = [] }
  left-frames = left older gone locals base top still ∙ ap (λ (l : List Saved). record { frames = older_of (frames_from [] locals l).frames; staged = [] }) (sym (saved-left es hs front e same is).1)

  newest-left : (frames_from [] locals (saved_of es hs)).frames ≡ frame_of gone (frames_from [] locals older).staged ∷ (frames_from [] locals older).frames
  newest-left = ap (λ (l : List Saved). (frames_from [] locals l).frames) (saved-left es hs front e same is).1 ∙ ap (λ (v : ActiveView). v.frames) (frames-snoc [] locals older gone)

  pub left-arrays : Some e.arrays_before ≡ arrays_before_of (frames_from [] locals (saved_of es hs)).frames
  left-arrays = sym (ap arrays_before_of newest-left)

  callers-were : callers_in es ≡ e.caller ∷ callers_in front
  callers-were = ap callers_in is ∙ callers-more front e

  pub left-caller : Some e.caller ≡ slice_get (callers_in es) 0
  left-caller = sym (ap (λ l. slice_get l 0) callers-were)

  pub left-callers : callers_in front ≡ drop 1 (callers_in es)
  left-callers = sym (ap (drop 1) callers-were)
