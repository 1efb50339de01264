use Rattle.osek_vectors.proofs.code.put_statement_of_kind.Goals as goal

pub returns-in-3 : goal.returns-in-3
returns-in-3 c = rw c.in-3.is c.put-in-3.ensures

pub returns-in-4 : goal.returns-in-4
returns-in-4 c = rw c.in-4.is c.put-in-4.ensures

pub returns-in-5 : goal.returns-in-5
returns-in-5 c = rw c.in-5.is c.put-in-5.ensures

pub returns-in-6 : goal.returns-in-6
returns-in-6 c = rw c.in-6.is c.put-in-6.ensures

pub returns-in-7 : goal.returns-in-7
returns-in-7 c = rw c.in-7.is c.put-in-7.ensures

pub returns-in-8 : goal.returns-in-8
returns-in-8 c = rw c.in-8.is c.put-in-8.ensures
