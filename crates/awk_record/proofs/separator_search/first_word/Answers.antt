use Rattle.std.proofs.Common.{◌∙◌, None, Some, arith}
use Rattle.std.proofs.lemmas.List.{take_rest}
use Rattle.awk_record.proofs.ResumedSearches.{word_found}
use Rattle.awk_record.proofs.separator_search.first_word.Goals as goal

pub returns-in_err-i-clause-place : goal.returns-in_err-i-clause-place
returns-in_err-i-clause-place c =
    let word = c.args.word.now in
    let bytes = c.args.bytes.now in
    let from = c.max-from.result in
    c.from_residual.ensures
    ∙ word_found word bytes _ c.args.front c.args.searched from None c.requires.some (omega arith) (omega arith) c.requires.none (λ k le lt. omega arith) (take_rest bytes from) c.in_err-i.ensures

pub returns-clause-place : goal.returns-clause-place
returns-clause-place c =
    let word = c.args.word.now in
    let bytes = c.args.bytes.now in
    let from = c.max-from.result in
    word_found word bytes _ c.args.front c.args.searched from (Some c.in_ok-i.i) c.requires.some (omega arith) (omega arith) c.requires.none (λ k le lt. omega arith) (take_rest bytes from) c.in_ok-i.ensures
