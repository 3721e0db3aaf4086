use Rattle.awk_lex.proofs.Tables.{option_map-if}
use Rattle.awk_lex.proofs.words.built_in.Goals as goal

pub returns : goal.returns
returns c = simp (c.look_up.ensures, option_map-if)
