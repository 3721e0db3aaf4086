use Rattle.std.proofs.Common.{◌≡◌, ◌≤◌, ◌<◌, ◌*◌, ◌%◌, ◌^◌, ℕ, List, length, get_or, ap, sym, subst, ◌∙◌, arith}
use Rattle.std.specs.Prelude.{bit_or}
use Rattle.awk_value.specs.declared.short_text.ShortText.{ShortText}
use Rattle.awk_value.specs.support.Texts.{packed, short_text, IsPadded}
use Rattle.awk_value.proofs.Words.{packed-by, unpacked}
use Rattle.awk_value.proofs.Worth.{filled-word, none-left, counted-alone, counted}
use Rattle.awk_value.proofs.short_text.ShortText.new.Goals as goal

kept : (text : List ℕ) (s : ShortText) → length text ≤ 23 → ((i : ℕ) → get_or text i 0 < 256) → s ≡ packed text → text ≡ short_text s
kept text s few bytes is = sym (ap short_text is ∙ unpacked text few bytes)

padded : (text : List ℕ) (s : ShortText) → length text ≤ 23 → ((i : ℕ) → get_or text i 0 < 256) → s ≡ packed text → IsPadded s
padded text s few bytes is =
    let same = kept text s few bytes is in
    (is ∙ ap packed same, subst (λ l. length l ≤ 23) same few)

pub returns-then-text-lt8-clause-text : goal.returns-then-text-lt8-clause-text
returns-then-text-lt8-clause-text c =
    let text = c.args.text.now in
    let few : length text ≤ 23 = c.if-text-gt-ROOM.false in
    kept text _ few (λ i. (c.type_inv.text i).fits)
    (packed-by text _ _ _ (c.few.ensures ∙ filled-word text few 0 (omega arith)) (none-left text few 8 (omega arith) ∙ filled-word text few 8 (omega arith)) (counted-alone text few (omega arith)))

pub returns-then-text-lt8-clause-padded : goal.returns-then-text-lt8-clause-padded
returns-then-text-lt8-clause-padded c =
    let text = c.args.text.now in
    let few : length text ≤ 23 = c.if-text-gt-ROOM.false in
    padded text _ few (λ i. (c.type_inv.text i).fits)
    (packed-by text _ _ _ (c.few.ensures ∙ filled-word text few 0 (omega arith)) (none-left text few 8 (omega arith) ∙ filled-word text few 8 (omega arith)) (counted-alone text few (omega arith)))

pub returns-then-text-lt16-clause-text : goal.returns-then-text-lt16-clause-text
returns-then-text-lt16-clause-text c =
    let text = c.args.text.now in
    let few : length text ≤ 23 = c.if-text-gt-ROOM.false in
    kept text _ few (λ i. (c.type_inv.text i).fits)
    (packed-by text _ _ _ (c.word-first.ensures ∙ filled-word text few 0 (omega arith)) (c.rest.ensures ∙ filled-word text few 8 (omega arith)) (counted-alone text few (omega arith)))

pub returns-then-text-lt16-clause-padded : goal.returns-then-text-lt16-clause-padded
returns-then-text-lt16-clause-padded c =
    let text = c.args.text.now in
    let few : length text ≤ 23 = c.if-text-gt-ROOM.false in
    padded text _ few (λ i. (c.type_inv.text i).fits)
    (packed-by text _ _ _ (c.word-first.ensures ∙ filled-word text few 0 (omega arith)) (c.rest.ensures ∙ filled-word text few 8 (omega arith)) (counted-alone text few (omega arith)))

pub returns-clause-text : goal.returns-clause-text
returns-clause-text c =
    let text = c.args.text.now in
    let few : length text ≤ 23 = c.if-text-gt-ROOM.false in
    kept text _ few (λ i. (c.type_inv.text i).fits)
    (packed-by text _ _ _ (c.word-first.ensures ∙ filled-word text few 0 (omega arith)) (c.word.ensures ∙ filled-word text few 8 (omega arith))
    (ap (λ n. bit_or n (length text * 2 ^ 56 % 2 ^ 64)) c.rest-2.ensures ∙ counted text few (λ i. (c.type_inv.text i).fits)))

pub returns-clause-padded : goal.returns-clause-padded
returns-clause-padded c =
    let text = c.args.text.now in
    let few : length text ≤ 23 = c.if-text-gt-ROOM.false in
    padded text _ few (λ i. (c.type_inv.text i).fits)
    (packed-by text _ _ _ (c.word-first.ensures ∙ filled-word text few 0 (omega arith)) (c.word.ensures ∙ filled-word text few 8 (omega arith))
    (ap (λ n. bit_or n (length text * 2 ^ 56 % 2 ^ 64)) c.rest-2.ensures ∙ counted text few (λ i. (c.type_inv.text i).fits)))
