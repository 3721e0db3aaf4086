use Rattle.std.proofs.Common.{◌≡◌, ◌+◌, ◌-◌, length, take, drop, Err, ap, sym}
use Rattle.std.proofs.lemmas.Result.{err_from_is_err_and}
use Rattle.std.proofs.lemmas.List.{take_rest}
use Rattle.awk_command.specs.CommandLine.{texts}
use Rattle.awk_command.specs.Parts.{settings_of}
use Rattle.awk_command.specs.declared.options.CommandFault.TheVariants.{Usage}
use Rattle.awk_command.proofs.CommandLineLemmas.{word_at, through, value_taken, value_refused, joined_taken, joined_refused, value_apart, unknown_refused, options_ended, no_option}
use Rattle.awk_command.proofs.options.read_options.Goals as goal
use Rattle.awk_command.proofs.options.read_options.Goals.{in-Joined+in_ok-set-in-Joined, in-Apart}

pub returns-in_err-set-clause-usage : goal.returns-in_err-set-clause-usage
returns-in_err-set-clause-usage c =
    let p = err_from_is_err_and c.from_residual.result c.from_residual.ensures.1 in
    rw (p.1, p.2) (λ usage.
    let is : c.in_err-set.field-0.0 ≡ Usage = cc in
    let s = settings_of c.loop-at.settings in
    let word = c.as_slice-word.result.now in
    let rest = drop (c.loop-at.at + 1) (texts c.args.words.now) in
    let one = word_at c.args.words.now c.loop-at.at c.index-words-at.result word c.loop-at-test.true c.index-words-at.is c.as_slice-word.ensures.value in
    through s c.loop-at.invariant c.in-Some.is one (value_refused c.in-Some.option s word rest (c.in_err-set.ensures.usage (ap Err is))))

pub loop-at-preserved-in-Some : goal.loop-at-preserved-in-Some
loop-at-preserved-in-Some c =
    let s = settings_of c.loop-at.settings in
    let word = c.as_slice-word.result.now in
    let rest = drop (c.loop-at.at + 1) (texts c.args.words.now) in
    let one = word_at c.args.words.now c.loop-at.at c.index-words-at.result word c.loop-at-test.true c.index-words-at.is c.as_slice-word.ensures.value in
    through s c.loop-at.invariant c.in-Some.is one (value_taken c.in-Some.option s (settings_of c.set.new.self) word rest c.in_ok-set.ensures.ok)

pub returns-in_err-set-in-Joined-clause-usage : goal.returns-in_err-set-in-Joined-clause-usage
returns-in_err-set-in-Joined-clause-usage c =
    let p = err_from_is_err_and c.from_residual-in_err-set-in-Joined.result c.from_residual-in_err-set-in-Joined.ensures.1 in
    rw (p.1, p.2) (λ usage.
    let is : c.in_err-set-in-Joined.field-0.0 ≡ Usage = cc in
    let s = settings_of c.loop-at.settings in
    let word = c.as_slice-word.result.now in
    let rest = drop (c.loop-at.at + 1) (texts c.args.words.now) in
    let one = word_at c.args.words.now c.loop-at.at c.index-words-at.result word c.loop-at-test.true c.index-words-at.is c.as_slice-word.ensures.value in
    through s c.loop-at.invariant c.in_default.is one (joined_refused c.in-Joined.option s word (take (length word - 2) (drop 2 word)) rest (sym c.in-Joined.ensures) (take_rest word 2) (c.in_err-set-in-Joined.ensures.usage (ap Err is))))

pub returns-in-Unknown-clause-usage : goal.returns-in-Unknown-clause-usage
returns-in-Unknown-clause-usage c usage =
    let s = settings_of c.loop-at.settings in
    let word = c.as_slice-word.result.now in
    let rest = drop (c.loop-at.at + 1) (texts c.args.words.now) in
    let one = word_at c.args.words.now c.loop-at.at c.index-words-at.result word c.loop-at-test.true c.index-words-at.is c.as_slice-word.ensures.value in
    through s c.loop-at.invariant c.in_default.is one (unknown_refused s word rest (sym c.in-Unknown.ensures))

pub returns-in-EndOfOptions-clause-ok : goal.returns-in-EndOfOptions-clause-ok
returns-in-EndOfOptions-clause-ok c =
    let s = settings_of c.loop-at.settings in
    let word = c.as_slice-word.result.now in
    let rest = drop (c.loop-at.at + 1) (texts c.args.words.now) in
    let one = word_at c.args.words.now c.loop-at.at c.index-words-at.result word c.loop-at-test.true c.index-words-at.is c.as_slice-word.ensures.value in
    through s c.loop-at.invariant c.in_default.is one (options_ended s word rest (sym c.in-EndOfOptions.ensures))

pub returns-in-Operand-clause-ok : goal.returns-in-Operand-clause-ok
returns-in-Operand-clause-ok c =
    let s = settings_of c.loop-at.settings in
    let word = c.as_slice-word.result.now in
    let rest = drop (c.loop-at.at + 1) (texts c.args.words.now) in
    let one = word_at c.args.words.now c.loop-at.at c.index-words-at.result word c.loop-at-test.true c.index-words-at.is c.as_slice-word.ensures.value in
    rw one (through s c.loop-at.invariant c.in_default.is one (no_option s word rest (sym c.in-Operand.ensures)))

pub loop-at-preserved : goal.loop-at-preserved
loop-at-preserved c =
    let s = settings_of c.loop-at.settings in
    let word = c.as_slice-word.result.now in
    let rest = drop (c.loop-at.at + 1) (texts c.args.words.now) in
    let one = word_at c.args.words.now c.loop-at.at c.index-words-at.result word c.loop-at-test.true c.index-words-at.is c.as_slice-word.ensures.value in
    elim c.match-word_kind.branch [
      | in-Joined+in_ok-set-in-Joined w ↦
          rw (w.settings-is, w.wanting-is, c.in_default.is) (through s c.loop-at.invariant c.in_default.is one (joined_taken w.in-Joined.option s (settings_of w.set-in-Joined.new.self) word (take (length word - 2) (drop 2 word)) rest (sym w.in-Joined.ensures) (take_rest word 2) w.in_ok-set-in-Joined.ensures.ok))
      | in-Apart w ↦
          rw (w.settings-is, w.wanting-is) (through s c.loop-at.invariant c.in_default.is one (value_apart w.in-Apart.option s word rest (sym w.in-Apart.ensures)))
    ]
