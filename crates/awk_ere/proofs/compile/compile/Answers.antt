use Rattle.awk_ere.proofs.CompileAnswers.{fine_text, clean_text, found, refused, found_empty, some_text}
use Rattle.awk_ere.proofs.compile.compile.Goals as goal

pub returns-then-is_empty-clause-found : goal.returns-then-is_empty-clause-found
returns-then-is_empty-clause-found c =
    found_empty c.args.text.now (record { instructions = c.new.result; classes = c.new-then-is_empty.result }) c.if-is_empty.ensures c.new.ensures.items

pub compile_checked-requires : goal.compile_checked-requires
compile_checked-requires c =
    clean_text c.args.text.now (some_text c.args.text.now c.if-is_empty.ensures)
    (fine_text c.args.text.now c.in-Some.facts c.in-Some.ensures c.if-facts.false c.if-facts-gt-MOST_OPENED.false)

pub returns-clause-found : goal.returns-clause-found
returns-clause-found c =
    found c.args.text.now c.compile_checked.result (some_text c.args.text.now c.if-is_empty.ensures)
    (fine_text c.args.text.now c.in-Some.facts c.in-Some.ensures c.if-facts.false c.if-facts-gt-MOST_OPENED.false) c.compile_checked.ensures

pub returns-clause-refused : goal.returns-clause-refused
returns-clause-refused c =
    refused c.args.text.now c.compile_checked.result (some_text c.args.text.now c.if-is_empty.ensures)
    (fine_text c.args.text.now c.in-Some.facts c.in-Some.ensures c.if-facts.false c.if-facts-gt-MOST_OPENED.false) c.compile_checked.ensures
