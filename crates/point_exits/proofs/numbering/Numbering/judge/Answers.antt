use Rattle.std.proofs.Common.{◌∙◌}
use Rattle.std.proofs.lemmas.Result.{on_ok_weaker}
use Rattle.point_exits.proofs.numbering.Numbering.judge.Goals as goal

pub invariant_of-self : goal.invariant_of-self
invariant_of-self c = record { domains = c.bring_in.ensures.pool.domains ∙ c.args.self.now.domains; known = c.bring_in.ensures.levels; conditions = c.args.self.now.conditions }

pub bring_in-requires : goal.bring_in-requires
bring_in-requires c = record { domains = c.args.self.now.domains; levels = c.args.self.now.known }

pub judge-requires : goal.judge-requires
judge-requires c = record { domains = c.bring_in.ensures.pool.domains ∙ c.args.self.now.domains; levels = c.bring_in.ensures.levels }

pub invariant_of-self-2 : goal.invariant_of-self-2
invariant_of-self-2 c = record { domains = c.bring_in.ensures.pool.domains ∙ c.args.self.now.domains; known = c.judge.ensures.levels; conditions = c.args.self.now.conditions }

pub returns-clause-all : goal.returns-clause-all
returns-clause-all c = on_ok_weaker c.judge.result (λ all. all c.in_ok-bring_in.ensures.all) c.judge.ensures.all
