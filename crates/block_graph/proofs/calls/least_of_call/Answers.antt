use Rattle.block_graph.proofs.calls.least_of_call.Goals as goal

pub returns-in-Declared : goal.returns-in-Declared
returns-in-Declared c = rw c.in-Declared.is (c.undeclared_in.ensures c.args.line)

pub returns-in-Takable : goal.returns-in-Takable
returns-in-Takable c = rw c.in-Takable.is (c.internal_in.ensures c.args.line)
