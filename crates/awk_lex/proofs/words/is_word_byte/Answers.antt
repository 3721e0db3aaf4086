use Rattle.std.proofs.Common.{rules}
use Rattle.awk_lex.proofs.words.is_word_byte.Goals as goal

pub returns-else-is_name_start : goal.returns-else-is_name_start
returns-else-is_name_start c = search rules
