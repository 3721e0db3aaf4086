use Rattle.std.proofs.lemmas.Result.{err_from_is_err_and}
use Rattle.awk_runtime.proofs.Seeks.{nothing_seeks, assignment_ends, assignment_seeks, standard_seeks, file_seeks}
use Rattle.awk_runtime.proofs.OperandForms.{assignment_within}
use Rattle.awk_runtime.proofs.runtime.Runtime.operand_record.Goals as goal

pub returns-in-Nothing-clause-seeks : goal.returns-in-Nothing-clause-seeks
returns-in-Nothing-clause-seeks g c = nothing_seeks _ (rw c.as_slice-bytes.ensures at (c.in-Nothing.ensures {u = tt})) c.requires.none

pub returns-in_err-assign_operand-in-Assignment-clause-seeks : goal.returns-in_err-assign_operand-in-Assignment-clause-seeks
returns-in_err-assign_operand-in-Assignment-clause-seeks g c =
    let p = err_from_is_err_and c.from_residual.result c.from_residual.ensures.1 in
    rw (p.1, p.2) (assignment_ends _ (rw c.as_slice-bytes.ensures at (c.in-Assignment.ensures {u = tt})) (rw c.as_slice-bytes.ensures at (c.in_err-assign_operand-in-Assignment.ensures {u = tt})))

pub returns-in_ok-assign_operand-in-Assignment-clause-seeks : goal.returns-in_ok-assign_operand-in-Assignment-clause-seeks
returns-in_ok-assign_operand-in-Assignment-clause-seeks g c =
    assignment_seeks _ (rw c.as_slice-bytes.ensures at (c.in-Assignment.ensures {u = tt})) c.requires.none (rw c.as_slice-bytes.ensures at (c.in_ok-assign_operand-in-Assignment.ensures {u = tt}))

pub returns-in-StandardInput-clause-seeks : goal.returns-in-StandardInput-clause-seeks
returns-in-StandardInput-clause-seeks g c = standard_seeks _ (rw c.as_slice-bytes.ensures at (c.in-StandardInput.ensures {u = tt})) c.first_record.ensures.seeks

pub returns-in-File-clause-seeks : goal.returns-in-File-clause-seeks
returns-in-File-clause-seeks g c = file_seeks _ (rw c.as_slice-bytes.ensures at (c.in-File.ensures {u = tt})) c.first_record-in-File.ensures.seeks

pub assign_operand-requires : goal.assign_operand-requires
assign_operand-requires g c = assignment_within c.as_slice-bytes.result.now c.in-Assignment.len (c.in-Assignment.ensures {u = tt})
