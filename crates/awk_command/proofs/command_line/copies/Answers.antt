use Rattle.std.proofs.Common.{◌≡◌, ◌∷◌, [], ◌++◌, ap, ◌∙◌}
use Rattle.awk_command.specs.CommandLine.{texts}
use Rattle.awk_command.proofs.CommandLineLemmas.{take_one, texts-append}
use Rattle.awk_command.proofs.command_line.copies.Goals as goal

pub loop-word-preserved : goal.loop-word-preserved
loop-word-preserved c =
    let more = take_one c.args.words.now c.loop-word.word-index c.word-item.result c.loop-word-test.true c.word-item.is in
    let copy = c.in_ok-to_vec.field-0 in
    let same : copy.items ≡ c.deref.result.now = c.in_ok-to_vec.ensures.items_if_clones_equal (λ x y e. e) in
    let pushed : texts c.push.new.self.items ≡ texts c.loop-word.copies.items ++ copy.items ∷ [] = ap texts c.in_ok-push.ensures.items ∙ texts-append c.loop-word.copies.items copy in
    cc
