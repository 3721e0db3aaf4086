use Rattle.awk_syntax.proofs.prints.redirect_to_pipe.Goals as goal

pub returns-in-Some-List : goal.returns-in-Some-List
returns-in-Some-List c = rw (c.in-Some-List.ensures, c.in-Some-List.field-0-is) (rw c.into_inner.ensures at c.pipe_list.ensures)
