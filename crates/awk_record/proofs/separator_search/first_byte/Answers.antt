use Rattle.std.proofs.Common.{List, ℕ, None, Some, sym, ◌∙◌, subst}
use Rattle.std.proofs.lemmas.List.{take_rest}
use Rattle.memchr.specs.Find.{IsFirstByte, is_byte}
use Rattle.awk_record.proofs.SearchFindsFirst.{not_among, byte_nowhere, first_byte_none, first_byte_some}
use Rattle.awk_record.proofs.separator_search.first_byte.Goals as goal

pub returns-in_err-i-clause-place : goal.returns-in_err-i-clause-place
returns-in_err-i-clause-place c =
    let bytes = c.args.bytes.now in
    let found = subst (λ (s : List ℕ). IsFirstByte (is_byte c.args.byte) s None) (take_rest bytes c.args.searched) c.in_err-i.ensures in
    let before = not_among c.args.byte c.args.searched bytes c.requires.within c.requires.none in
    let none = byte_nowhere c.args.byte bytes c.args.searched c.requires.within before found in
    c.from_residual.ensures ∙ sym (first_byte_none c.args.byte bytes none)

pub returns-clause-place : goal.returns-clause-place
returns-clause-place c =
    let bytes = c.args.bytes.now in
    let found = subst (λ (s : List ℕ). IsFirstByte (is_byte c.args.byte) s (Some c.in_ok-i.i)) (take_rest bytes c.args.searched) c.in_ok-i.ensures in
    let before = not_among c.args.byte c.args.searched bytes c.requires.within c.requires.none in
    sym (first_byte_some c.args.byte bytes c.args.searched c.in_ok-i.i c.requires.within before found).0
