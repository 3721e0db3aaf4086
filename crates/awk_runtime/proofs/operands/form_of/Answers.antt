use Rattle.std.proofs.Common.{◌≡◌, ℕ, suc, ◌<◌, true, List, [], ◌∷◌, length, take, drop, get_or, drop-cons, arith, refl, sym, ◌∙◌}
use Rattle.std.specs.List.{prefix_len}
use Rattle.std.specs.Prelude.{codes}
use Rattle.std.proofs.lemmas.Slice.Eq.{bytes_eq-Decides}
use Rattle.awk_lex.specs.Words.{is_word, is_word_byte}
use Rattle.awk_semantics.specs.Inputs.{Assignment, split_name, operand_of}
use Rattle.awk_runtime.proofs.operands.form_of.Goals as goal

split_name-behind : (word name behind text : List ℕ) → behind ≡ 61 ∷ text → is_word name ≡ true → Assignment name text ≡ split_name word name behind
split_name-behind word name behind text e t = rw e (rw t refl)

operand_of-assignment : (word : List ℕ) (n : ℕ) → n ≡ prefix_len is_word_byte word → n < length word → get_or word n 0 ≡ 61 → is_word (take n word) ≡ true → Assignment (take n word) (drop (suc n) word) ≡ operand_of word
operand_of-assignment [] n e below at named = absurd (omega arith)
operand_of-assignment (b ∷ bs) n e below at named =
    let word : List ℕ = b ∷ bs in
    rw (sym e) (split_name-behind word (take n word) (drop n word) (drop (suc n) word) (rw (drop-cons word n 0) (rw at refl)) named)

pub returns-then-is_name : goal.returns-then-is_name
returns-then-is_name c = operand_of-assignment c.args.word.now c.name_len-len.result c.name_len-len.ensures c.if-len-word.true c.if-word-len-eq61.true (sym c.is_name.ensures ∙ c.if-is_name.true)

pub returns-then-eq : goal.returns-then-eq
returns-then-eq c =
    let same : c.args.word.now ≡ c.as_slice.result.now = (bytes_eq-Decides c.args.word.now c.as_slice.result.now).0 (sym c.eq.ensures ∙ c.if-eq.true) in
    let is : c.args.word.now ≡ codes "-" = same ∙ c.as_slice.ensures in
    rw is refl
