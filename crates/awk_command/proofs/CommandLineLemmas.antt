-- Lemmas on words, names and numbers of steps.
use Rattle.std.proofs.Common.{◌≡◌, ℕ, ◌+◌, ◌-◌, ◌*◌, ◌<◌, zero, suc, true, false, ◌&&◌, List, [], ◌∷◌, ◌++◌, Option, Some, None, length, get_or, take, drop, Vec, Global, refl, ap, ◌∙◌, sym, arith, rules, add-one}
use Rattle.std.specs.List.{list_all}
use Rattle.std.specs.Char.{is_ascii_digit, digit_value}
use Rattle.std.specs.Str.{is_utf8, IsUtf8}
use Rattle.std.specs.Str.Parse.{digits_value}
use Rattle.std.proofs.lemmas.Str.{IsUtf8-from_is_utf8}
use Rattle.std.proofs.lemmas.List.{take_rest}
use Rattle.std.proofs.lemmas.List.Sums.{AllPass-from_list_all}
use Rattle.std.proofs.lemmas.Int.Digits.{digits_value_more}
use Rattle.awk_command.specs.CommandLine.{Settings, ParsedOptions, CommandLine, no_settings, with_option, word_kind, parse_options, command_line_with, command_line_of, texts}
use Rattle.awk_command.specs.declared.options.OptionName.{OptionName}
use Rattle.awk_command.specs.declared.options.WordKind.TheVariants.{Joined, Apart, Unknown, EndOfOptions, Operand}

pub not_utf8 : (bs : List ℕ) → (IsUtf8 bs → ⊥) → is_utf8 bs ≡ false
not_utf8 bs other = elim (is_utf8 bs) as (λ b. (b ≡ true → IsUtf8 bs) → b ≡ false) [ true ↦ λ h. absurd (other (h refl)) | false ↦ λ h. refl ] (IsUtf8-from_is_utf8 bs)

digit_is : (c : ℕ) → is_ascii_digit c ≡ true → digit_value c ≡ c - 48
digit_is c h = search rules

pub digit_read : (ds : List ℕ) (i number : ℕ) → list_all is_ascii_digit ds ≡ true → i < length ds → number ≡ digits_value 10 (take i ds)
    → number * 10 + (get_or ds i 0 - 48) ≡ digits_value 10 (take (i + 1) ds)
digit_read ds i number all inside e =
    let digit = digit_is (get_or ds i 0) (AllPass-from_list_all is_ascii_digit ds all i 0 inside) in
    omega (arith, digits_value_more 10 ds i inside)

-- one element more of a list that is mapped
pub take_one : (xs : List (Vec ℕ Global)) (i : ℕ) (x : Vec ℕ Global) → i < length xs → x ≡ get_or xs i x → take (i + 1) (texts xs) ≡ take i (texts xs) ++ x.items ∷ []
take_one [] i x inside is = absurd (omega (arith, inside))
take_one (y ∷ ys) zero x inside is = ap (λ z. z.items ∷ []) (sym is)
take_one (y ∷ ys) (suc i) x inside is = rw add-one (ap (λ zs. y.items ∷ zs) (rw add-one at (take_one ys i x (omega (arith, inside)) is)))

pub drop_one : (xs : List (Vec ℕ Global)) (i : ℕ) (x : Vec ℕ Global) → i < length xs → x ≡ get_or xs i x → drop i (texts xs) ≡ x.items ∷ drop (i + 1) (texts xs)
drop_one [] i x inside is = absurd (omega (arith, inside))
drop_one (y ∷ ys) zero x inside is = ap (λ z. z.items ∷ texts ys) (sym is)
drop_one (y ∷ ys) (suc i) x inside is = rw add-one (rw add-one at (drop_one ys i x (omega (arith, inside)) is))

pub word_at : (xs : List (Vec ℕ Global)) (i : ℕ) (x : Vec ℕ Global) (w : List ℕ) → i < length xs → x ≡ get_or xs i x → w ≡ x.items → drop i (texts xs) ≡ w ∷ drop (i + 1) (texts xs)
word_at xs i x w inside is same = drop_one xs i x inside is ∙ ap (λ v. v ∷ drop (i + 1) (texts xs)) (sym same)

-- What a word comes to, by its kind.

pub through : {all result : Option ParsedOptions} {wanting now : Option OptionName} (s : Settings) {list : List (List ℕ)} {w : List ℕ} {ws : List (List ℕ)}
    → all ≡ parse_options wanting s list → wanting ≡ now → list ≡ w ∷ ws → parse_options now s (w ∷ ws) ≡ result → all ≡ result
through {now = now} s {list = list} before is one step = before ∙ (ap (λ v. parse_options v s list) is ∙ (ap (λ l. parse_options now s l) one ∙ step))

pub value_taken : (option : OptionName) (s t : Settings) (w : List ℕ) (ws : List (List ℕ)) → with_option option w s ≡ Some t → parse_options (Some option) s (w ∷ ws) ≡ parse_options None t ws
value_taken option s t w ws e = rw e

pub value_refused : (option : OptionName) (s : Settings) (w : List ℕ) (ws : List (List ℕ)) → with_option option w s ≡ None → parse_options (Some option) s (w ∷ ws) ≡ None
value_refused option s w ws e = rw e

pub joined_taken : (option : OptionName) (s t : Settings) (w v : List ℕ) (ws : List (List ℕ)) → word_kind w ≡ Joined option → v ≡ drop 2 w → with_option option v s ≡ Some t → parse_options None s (w ∷ ws) ≡ parse_options None t ws
joined_taken option s t w v ws kind value e = rw (kind, parse_options) (rw (← value, e))

pub joined_refused : (option : OptionName) (s : Settings) (w v : List ℕ) (ws : List (List ℕ)) → word_kind w ≡ Joined option → v ≡ drop 2 w → with_option option v s ≡ None → parse_options None s (w ∷ ws) ≡ None
joined_refused option s w v ws kind value e = rw (kind, parse_options) (rw (← value, e))

pub value_apart : (option : OptionName) (s : Settings) (w : List ℕ) (ws : List (List ℕ)) → word_kind w ≡ Apart option → parse_options None s (w ∷ ws) ≡ parse_options (Some option) s ws
value_apart option s w ws kind = rw (kind, parse_options)

pub unknown_refused : (s : Settings) (w : List ℕ) (ws : List (List ℕ)) → word_kind w ≡ Unknown → parse_options None s (w ∷ ws) ≡ None
unknown_refused s w ws kind = rw (kind, parse_options)

pub options_ended : (s : Settings) (w : List ℕ) (ws : List (List ℕ)) → word_kind w ≡ EndOfOptions → parse_options None s (w ∷ ws) ≡ Some (record { settings = s; words = ws })
options_ended s w ws kind = rw (kind, parse_options)

pub no_option : (s : Settings) (w : List ℕ) (ws : List (List ℕ)) → word_kind w ≡ Operand → parse_options None s (w ∷ ws) ≡ Some (record { settings = s; words = w ∷ ws })
no_option s w ws kind = rw (kind, parse_options)

pub texts-append : (xs : List (Vec ℕ Global)) (x : Vec ℕ Global) → texts (xs ++ x ∷ []) ≡ texts xs ++ x.items ∷ []
texts-append [] x = refl
texts-append (y ∷ ys) x = ap (λ zs. y.items ∷ zs) (texts-append ys x)

pub all_texts : (words : List (Vec ℕ Global)) → list_all is_utf8 (texts words) ≡ list_all (λ word. is_utf8 word.items) words
all_texts [] = refl
all_texts (w ∷ ws) = ap (λ b. is_utf8 w.items && b) (all_texts ws)

pub texts-drop : (n : ℕ) (words : List (Vec ℕ Global)) → texts (drop n words) ≡ drop n (texts words)
texts-drop zero words = refl
texts-drop (suc n) [] = refl
texts-drop (suc n) (w ∷ ws) = texts-drop n ws

pub texts_behind : (n : ℕ) (words : List (Vec ℕ Global)) → texts (take (length words - n) (drop n words)) ≡ drop n (texts words)
texts_behind n words = ap texts (take_rest words n) ∙ texts-drop n words

-- the whole command, from its parts

pub not_texts : (words : List (List ℕ)) → list_all is_utf8 words ≡ false → command_line_of words ≡ None
not_texts words e = rw e

pub parsed_texts : (words : List (List ℕ)) (p : ParsedOptions) (result : Option CommandLine) → list_all is_utf8 words ≡ true → parse_options None no_settings words ≡ Some p → command_line_with p.settings p.settings.files p.words ≡ result → command_line_of words ≡ result
parsed_texts words p result all e done = rw (all, e) done
