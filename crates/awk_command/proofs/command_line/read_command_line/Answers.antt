use Rattle.std.proofs.Common.{◌≡◌, true, false, Err, ap}
use Rattle.std.specs.List.{list_all}
use Rattle.std.specs.Str.{is_utf8}
use Rattle.std.proofs.lemmas.Result.{err_from_is_err_and}
use Rattle.awk_command.specs.CommandLine.{texts}
use Rattle.awk_command.specs.Parts.{settings_of}
use Rattle.awk_command.specs.declared.options.CommandFault.TheVariants.{Usage}
use Rattle.awk_command.proofs.CommandLineLemmas.{all_texts, texts_behind, not_texts, parsed_texts}
use Rattle.awk_command.proofs.command_line.read_command_line.Goals as goal

pub returns-then-not-are_texts-clause-usage : goal.returns-then-not-are_texts-clause-usage
returns-then-not-are_texts-clause-usage c usage =
    let each = all_texts c.args.words.now in
    let none : list_all is_utf8 (texts c.args.words.now) ≡ false = cc in
    not_texts _ none

pub returns-in_err-source-clause-usage : goal.returns-in_err-source-clause-usage
returns-in_err-source-clause-usage c =
    let p = err_from_is_err_and c.from_residual-in_err-source.result c.from_residual-in_err-source.ensures.1 in
    rw (p.1, p.2) (λ usage.
    let is : c.in_err-source.field-0.0 ≡ Usage = cc in
    let each = all_texts c.args.words.now in
    let all : list_all is_utf8 (texts c.args.words.now) ≡ true = cc in
    parsed_texts _ _ _ all c.in_ok-settings.ensures.ok (rw texts_behind at (c.in_err-source.ensures.usage (settings_of c.in_ok-settings.settings) (ap Err is))))

pub returns-clause-ok : goal.returns-clause-ok
returns-clause-ok c =
    let each = all_texts c.args.words.now in
    let all : list_all is_utf8 (texts c.args.words.now) ≡ true = cc in
    parsed_texts _ _ _ all c.in_ok-settings.ensures.ok (rw texts_behind at (c.in_ok-source.ensures.ok (settings_of c.in_ok-settings.settings)))
