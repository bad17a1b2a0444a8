-- `case_line::hash_case` meets its contract: the four inputs are the bytes of the case's sections. Assumes nothing.
use Rattle.case_line.proofs.hash_case.Goals as goal

pub returns : goal.returns
returns c = rw (c.part.ensures, c.part-2.ensures, c.part-3.ensures, c.part-4.ensures) at c.hash_password_into_with_memory.ensures
