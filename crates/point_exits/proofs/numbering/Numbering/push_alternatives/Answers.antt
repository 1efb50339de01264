use Rattle.std.proofs.Common.{◌≡◌, List, sym, subst, ◌∙◌, arith}
use Rattle.std.specs.{Prelude.{IfSome, IfNone}, declared.option.Option.{Option}}
use Rattle.osek_standard.specs.declared.point.Point.{Point}
use Rattle.flow_model.specs.declared.case.Stay.{Stay}
use Rattle.flow_model.specs.declared.case.Stay.TheVariants as stay
use Rattle.flow_model.specs.Rules.{HasNone}
use Rattle.numbered_sets.specs.{declared.numbered_entry.NumberedEntry.{NumberedEntry}, Pools.{Values, pool_domains, IsLonger}, Views.{plain_entry}}
use Rattle.flow_exits.specs.Leaving.{effect_rule}
use Rattle.abstract_state.specs.Domains.{domains_of}
use Rattle.point_exits.specs.{Applying.{MayApply}, Leaving.{AddsEffects, IsAfter}, Levels.{AreLevels}}
use Rattle.flow_effects.specs.Alternatives.{alternative_cases}
use Rattle.numbered_sets.proofs.NumberingLaws.{longer_itself}
use Rattle.point_exits.proofs.{EntryCounts.{numbers_counted, pool_has_tasks}, AlternativeExits.{effect_keeps, none_pass, none_takes, together_known, alternatives_added}}
use Rattle.point_exits.proofs.numbering.Numbering.push_alternatives.Goals as goal

same_point : (s : Stay) (p q : Point) → s ≡ stay.At p → s ≡ stay.At q → p ≡ q
same_point s p q a b = (let e : stay.At p ≡ stay.At q = sym a ∙ b in cc)

pub passing_ends-requires-clause-numbers : goal.passing_ends-requires-clause-numbers
passing_ends-requires-clause-numbers c = c.requires.cases.numbers

pub passing_ends-requires-clause-known : goal.passing_ends-requires-clause-known
passing_ends-requires-clause-known c = λ y m.
    let lt = c.requires.cases.apart.known y m in
    omega (arith, lt, numbers_counted c.args.self.now.app.now c.args.before.now (c.requires.cases.numbers.domains ∙ c.args.self.now.domains))

pub returns-then-is_empty-clause-added : goal.returns-then-is_empty-clause-added
returns-then-is_empty-clause-added c =
    let app = c.args.self.now.app.now in
    let pool = c.args.self.now.pool in
    let entry = c.args.before.now in
    let a = c.args.alternatives.now in
    let groups = c.args.groups.now.items in
    subst (λ (q : List Values). AddsEffects app (plain_entry pool entry) (alternative_cases a) pool groups q groups) (sym c.in_ok-ends.ensures.same)
    (none_pass app a c.requires.cases.apart pool entry c.requires.cases.numbers (c.requires.cases.numbers.domains ∙ c.args.self.now.domains) c.in-At.target c.in_ok-ends.ends c.in_ok-ends.ensures.ends pool (longer_itself pool) groups c.requires.known
    (sym c.is_empty.ensures ∙ c.if-is_empty.true))

pub invariant_of-self : goal.invariant_of-self
invariant_of-self c = record {
  domains = subst (λ (q : List Values). pool_domains q ≡ domains_of c.args.self.now.app.now) (sym c.passing_ends.ensures.same) c.args.self.now.domains;
  known = subst (λ (q : List Values). AreLevels c.args.self.now.app.now q c.args.self.now.levels) (sym c.passing_ends.ensures.same) c.args.self.now.known;
  conditions = c.args.self.now.conditions;
}

pub after-requires : goal.after-requires
after-requires c =
    let app = c.args.self.now.app.now in
    let pool = c.args.self.now.pool in
    let entry = c.args.before.now in
    let a = c.args.alternatives.now in
    let kept = effect_keeps app a c.requires.cases.apart pool entry c.requires.cases.numbers (c.requires.cases.numbers.domains ∙ c.args.self.now.domains) c.in-At.target c.in_ok-ends.ends
    c.in_ok-ends.ensures.ends c.requires.cases.own c.requires.cases.kept (sym c.is_empty.ensures ∙ c.if-is_empty.false) in
    subst (λ (q : List Values). MayApply (effect_rule a.effect) q entry) (sym c.in_ok-ends.ensures.same) (record { numbers = c.requires.cases.numbers; filled = c.requires.cases.filled; kept = kept })

pub returns-in_default-2-clause-added : goal.returns-in_default-2-clause-added
returns-in_default-2-clause-added c =
    let app = c.args.self.now.app.now in
    let pool = c.args.self.now.pool in
    let mid = c.passing_ends.new.pool in
    let after = c.after.new.self.pool in
    let entry = c.args.before.now in
    let a = c.args.alternatives.now in
    let groups = c.args.groups.now.items in
    let longer : IsLonger pool after = subst (λ (q : List Values). IsLonger q after) c.in_ok-ends.ensures.same c.after.ensures.grown.pool in
    let none : HasNone (effect_rule a.effect) (plain_entry mid entry) = subst (λ (o : Option NumberedEntry). IfNone o (HasNone (effect_rule a.effect) (plain_entry mid entry))) c.in_default-2.is c.in_ok-after.ensures.none in
    none_takes app a c.requires.cases.apart pool entry c.requires.cases.numbers (c.requires.cases.numbers.domains ∙ c.args.self.now.domains) c.in-At.target c.in_ok-ends.ends c.in_ok-ends.ensures.ends after longer groups c.requires.known
    (subst (λ (q : List Values). HasNone (effect_rule a.effect) (plain_entry q entry)) c.in_ok-ends.ensures.same none)

pub invariant_of-settling : goal.invariant_of-settling
invariant_of-settling c =
    let app = c.args.self.now.app.now in
    let mid = c.passing_ends.new.pool in
    let entry = c.args.before.now in
    let is = subst (λ (o : Option NumberedEntry). IfSome o (IsAfter app c.args.alternatives.now.effect entry mid c.after.new.self.pool c.after.new.self.levels)) c.in-Some.is c.in_ok-after.ensures.some in
    let longer : IsLonger c.args.self.now.pool c.after.new.self.pool = subst (λ (q : List Values). IsLonger q c.after.new.self.pool) c.in_ok-ends.ensures.same c.after.ensures.grown.pool in
    record { all = is.all; tasks = pool_has_tasks app c.after.new.self.pool (longer.domains ∙ c.args.self.now.domains) }

pub settle_group-requires : goal.settle_group-requires
settle_group-requires c =
    let app = c.args.self.now.app.now in
    let pool = c.args.self.now.pool in
    let after = c.after.new.self.pool in
    let entry = c.args.before.now in
    let a = c.args.alternatives.now in
    let longer : IsLonger pool after = subst (λ (q : List Values). IsLonger q after) c.in_ok-ends.ensures.same c.after.ensures.grown.pool in
    let is : IsAfter app a.effect entry pool after c.after.new.self.levels c.in-Some.after =
    subst (λ (q : List Values). IsAfter app a.effect entry q after c.after.new.self.levels c.in-Some.after) c.in_ok-ends.ensures.same
    (subst (λ (o : Option NumberedEntry). IfSome o (IsAfter app a.effect entry c.passing_ends.new.pool after c.after.new.self.levels)) c.in-Some.is c.in_ok-after.ensures.some) in
    together_known app a c.requires.cases.apart pool entry c.requires.cases.numbers (c.requires.cases.numbers.domains ∙ c.args.self.now.domains) c.in-At.target c.in_ok-ends.ends
    c.in_ok-ends.ensures.ends after longer c.args.groups.now.items c.requires.known c.in-Some.after is.whole is.applies

pub returns-clause-added : goal.returns-clause-added
returns-clause-added c =
    let app = c.args.self.now.app.now in
    let pool = c.args.self.now.pool in
    let after = c.after.new.self.pool in
    let entry = c.args.before.now in
    let a = c.args.alternatives.now in
    let groups = c.args.groups.now.items in
    let longer : IsLonger pool after = subst (λ (q : List Values). IsLonger q after) c.in_ok-ends.ensures.same c.after.ensures.grown.pool in
    let is : IsAfter app a.effect entry pool after c.after.new.self.levels c.in-Some.after =
    subst (λ (q : List Values). IsAfter app a.effect entry q after c.after.new.self.levels c.in-Some.after) c.in_ok-ends.ensures.same
    (subst (λ (o : Option NumberedEntry). IfSome o (IsAfter app a.effect entry c.passing_ends.new.pool after c.after.new.self.levels)) c.in-Some.is c.in_ok-after.ensures.some) in
    subst (AddsEffects app (plain_entry pool entry) (alternative_cases a) pool groups after) (sym c.in_ok-push.ensures.items)
    (alternatives_added app a c.requires.cases.apart pool entry c.requires.cases.numbers (c.requires.cases.numbers.domains ∙ c.args.self.now.domains) c.in-At.target c.in_ok-ends.ends
    c.in_ok-ends.ensures.ends after longer groups c.requires.known c.in-Some.after is.whole is.applies
    c.settle_group.new.group c.in_ok-settle_group.ensures (same_point a.effect.leaving.stay c.in-At.target c.requires.cases.apart.point c.in-At.is c.requires.cases.apart.stay))

pub returns-clause-grown : goal.returns-clause-grown
returns-clause-grown c = record { app = c.after.ensures.grown.app; pool = subst (λ (q : List Values). IsLonger q c.after.new.self.pool) c.in_ok-ends.ensures.same c.after.ensures.grown.pool }
