use Rattle.std.proofs.Common.{◌∙◌, ℕ, ap, subst}
use Rattle.std.specs.{Prelude.{IfSome}, declared.option.Option.{Option}}
use Rattle.numbered_sets.proofs.NumberingLaws.{longer_itself}
use Rattle.point_exits.specs.{declared.arrivals.ArrivalsOver.{ArrivalsOver}, Arrivals.{AreArrivalsAt}}
use Rattle.point_exits.proofs.{KnownArrivals.{rules_at}, LevelLaws.{levels_keeping}}
use Rattle.point_exits.proofs.numbering.Numbering.push_arrivals.Goals as goal

pub invariant_of-from : goal.invariant_of-from
invariant_of-from c = record { domains = c.requires.at.numbers.domains ∙ c.args.self.now.domains }

pub find-requires-clause-point : goal.find-requires-clause-point
find-requires-clause-point c = c.requires.at.point

pub find-requires-clause-known : goal.find-requires-clause-known
find-requires-clause-known c = c.args.self.now.known.arrivals

pub invariant_of-self : goal.invariant_of-self
invariant_of-self c = record {
  domains = c.args.self.now.domains;
  known = levels_keeping c.args.self.now.app.now c.args.self.now.pool c.args.self.now.pool c.args.self.now.levels c.find.new.self (longer_itself c.args.self.now.pool) c.args.self.now.known c.find.ensures.known;
  conditions = c.args.self.now.conditions;
}

pub push_begun-requires-clause-rules : goal.push_begun-requires-clause-rules
push_begun-requires-clause-rules c =
    let app = c.args.self.now.app.now in
    let p = c.args.point in
    let known = c.find.new.self.known in
    let at : AreArrivalsAt app p known c.in-Some.place = subst (λ (o : Option ℕ). IfSome o (AreArrivalsAt app p known)) c.in-Some.is c.in_ok-place.ensures.found in
    rules_at app p known c.in-Some.place c.at.result.now.rules at (λ none. ap (λ (x : ArrivalsOver). x.rules) (c.at.ensures.item none))

pub invariant_of-self-in-Some : goal.invariant_of-self-in-Some
invariant_of-self-in-Some c = record {
  domains = c.push_begun.ensures.pool.domains ∙ c.args.self.now.domains;
  known = levels_keeping c.args.self.now.app.now c.args.self.now.pool c.push_begun.new.pool c.args.self.now.levels c.find.new.self c.push_begun.ensures.pool c.args.self.now.known c.find.ensures.known;
  conditions = c.args.self.now.conditions;
}

pub invariant_of-self-in-None : goal.invariant_of-self-in-None
invariant_of-self-in-None c = record {
  domains = c.push_begun-in-None.ensures.pool.domains ∙ c.args.self.now.domains;
  known = levels_keeping c.args.self.now.app.now c.args.self.now.pool c.push_begun-in-None.new.pool c.args.self.now.levels c.find.new.self c.push_begun-in-None.ensures.pool c.args.self.now.known c.find.ensures.known;
  conditions = c.args.self.now.conditions;
}
