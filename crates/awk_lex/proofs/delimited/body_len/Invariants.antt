use Rattle.std.proofs.Common.{◌≡◌, ◌+◌, false, drop}
use Rattle.std.specs.Option.{option_map}
use Rattle.awk_lex.specs.support.Lexeme.{body_len}
use Rattle.awk_lex.proofs.delimited.body_len.Given as goal

-- the bytes so far and those from here to the quote are the whole
abbrev pub invariant-loop-len : goal.invariant-loop-len
invariant-loop-len l = option_map (λ n. l.len + n) (body_len l.delimiter l.behind_backslash (drop l.len l.text)) ≡ body_len l.delimiter false l.text
