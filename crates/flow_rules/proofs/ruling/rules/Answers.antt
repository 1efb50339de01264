use Rattle.numbered_sets.specs.Views.{plain_entry}
use Rattle.point_exits.proofs.PassivePoints.{passive_exact}
use Rattle.flow_rules.proofs.PointRules.{passive_covering, passive_foresees, executing_covering, executing_exact, executing_foresees, executes_there}
use Rattle.flow_rules.proofs.ruling.rules.Goals as goal

pub returns-in-None-clause-covering : goal.returns-in-None-clause-covering
returns-in-None-clause-covering c = passive_covering c.args.app.now c.args.point (plain_entry c.args.pool.now c.args.entry.now) c.in_ok-rules.rules c.in_ok-rules.ensures c.in-None.ensures.none

pub returns-in-None-clause-exact : goal.returns-in-None-clause-exact
returns-in-None-clause-exact c = passive_exact c.args.app.now c.args.point (plain_entry c.args.pool.now c.args.entry.now) c.in_ok-rules.rules c.in_ok-rules.ensures c.requires.point

pub returns-in-None-clause-instructions : goal.returns-in-None-clause-instructions
returns-in-None-clause-instructions c = passive_foresees c.args.app.now c.args.point (plain_entry c.args.pool.now c.args.entry.now) c.in_ok-rules.rules c.in_ok-rules.ensures c.in-None.ensures.none

pub returns-in_ok-add_instructions-in-Some-clause-covering : goal.returns-in_ok-add_instructions-in-Some-clause-covering
returns-in_ok-add_instructions-in-Some-clause-covering c =
    executing_covering c.args.app.now c.args.point (plain_entry c.args.pool.now c.args.entry.now) c.in_ok-rules.rules c.in_ok-rules.ensures c.add_instructions.new.rules c.in_ok-add_instructions-in-Some.ensures

pub returns-in_ok-add_instructions-in-Some-clause-exact : goal.returns-in_ok-add_instructions-in-Some-clause-exact
returns-in_ok-add_instructions-in-Some-clause-exact c =
    executing_exact c.args.app.now c.args.point (plain_entry c.args.pool.now c.args.entry.now) c.in_ok-rules.rules c.in_ok-rules.ensures c.add_instructions.new.rules c.in_ok-add_instructions-in-Some.ensures c.requires.point
    (executes_there c.args.app.now c.args.point c.in-Some.field-0 c.in-Some.ensures.some)

pub returns-in_ok-add_instructions-in-Some-clause-instructions : goal.returns-in_ok-add_instructions-in-Some-clause-instructions
returns-in_ok-add_instructions-in-Some-clause-instructions c =
    executing_foresees c.args.app.now c.args.point (plain_entry c.args.pool.now c.args.entry.now) c.in_ok-rules.rules c.in_ok-rules.ensures c.add_instructions.new.rules c.in_ok-add_instructions-in-Some.ensures
