use Rattle.std.proofs.Common.{◌≡◌, List, sym, ap, subst, ◌∙◌, arith, rules}
use Rattle.abstract_state.specs.{declared.value.{Domain.{Domain}, PartValue.{PartValue}}, Domains.{IsWithin, domain_size}}
use Rattle.numbered_sets.specs.{Pools.{Values, with_value}, Slots.{slot_values, UsedSlots}, SeenSlots.{AreSeen}}
use Rattle.numbered_sets.proofs.PoolLaws.{few_values}
use Rattle.numbered_sets.proofs.SlotLaws.{values_stay, value_numbered, seen_stay, given_values, given_seen}
use Rattle.numbered_sets.proofs.seen_values.SeenValues.number.Goals as goal

abbrev values_of : Domain → List PartValue → Values
values_of d vs = record { domain = d; values = vs }

pub invariant_of-self : goal.invariant_of-self
invariant_of-self c = seen_stay c.self.inside.domain c.self.inside.loads c.slot_for.new.loads c.self.inside.slots c.slot_for.ensures.loads c.self.invariant

pub returns-in_err-slot-clause-err : goal.returns-in_err-slot-clause-err
returns-in_err-slot-clause-err c =
    let here = c.self.inside in
    let same : values_of here.domain (slot_values here.domain c.slot_for.new.loads here.slots.used) ≡ c.args.self.now =
    ap (values_of here.domain) (values_stay here.domain here.loads c.slot_for.new.loads here.slots.used c.slot_for.ensures.loads c.self.invariant.known) ∙ c.self.view_is in
    search (rules, same)

-- what is asked of the slot that was given a number
pub invariant_of-self-in_err-number : goal.invariant_of-self-in_err-number
invariant_of-self-in_err-number c =
    let here = c.self.inside in
    subst (AreSeen here.domain c.slot_for.new.loads) (sym c.in_err-number.ensures.err) (seen_stay here.domain here.loads c.slot_for.new.loads here.slots c.slot_for.ensures.loads c.self.invariant)

pub returns-in_err-number-clause-err : goal.returns-in_err-number-clause-err
returns-in_err-number-clause-err c =
    let here = c.self.inside in
    let same : values_of here.domain (slot_values here.domain c.slot_for.new.loads c.number.new.self.used) ≡ c.args.self.now =
    ap (λ (slots : UsedSlots). values_of here.domain (slot_values here.domain c.slot_for.new.loads slots.used)) c.in_err-number.ensures.err
    ∙ ap (values_of here.domain) (values_stay here.domain here.loads c.slot_for.new.loads here.slots.used c.slot_for.ensures.loads c.self.invariant.known) ∙ c.self.view_is in
    search (rules, same)

pub invariant_of-self-2 : goal.invariant_of-self-2
invariant_of-self-2 c =
    let here = c.self.inside in
    let within = subst (λ (x : Values). IsWithin x.domain c.args.value.now) (sym c.self.view_is) c.requires in
    given_seen here.domain here.loads c.slot_for.new.loads here.slots c.number.new.self c.in_ok-slot.slot c.in_ok-number.number c.args.value.now c.slot_for.ensures.loads c.self.invariant c.in_ok-slot.ensures.slot c.in_ok-number.ensures.slots
    c.in_ok-number.ensures.number c.number.ensures.width within

pub returns-clause-values : goal.returns-clause-values
returns-clause-values c =
    let here = c.self.inside in
    let v = c.args.value.now in
    ap (values_of here.domain) (given_values here.domain here.loads c.slot_for.new.loads here.slots c.number.new.self c.in_ok-slot.slot c.in_ok-number.number v c.slot_for.ensures.loads c.self.invariant c.in_ok-slot.ensures.slot
    c.in_ok-number.ensures.slots c.in_ok-number.ensures.number)
    ∙ ap (λ (x : Values). values_of x.domain (with_value x.values v)) c.self.view_is

pub returns-clause-number : goal.returns-clause-number
returns-clause-number c =
    value_numbered c.self.inside.domain c.slot_for.new.loads c.number.new.self.used c.in_ok-slot.slot c.in_ok-number.number c.args.value.now c.in_ok-number.ensures.number c.in_ok-slot.ensures.slot.is

pub returns-clause-below : goal.returns-clause-below
returns-clause-below c =
    let here = c.self.inside in
    let few = few_values here.domain (slot_values here.domain c.slot_for.new.loads c.number.new.self.used) (invariant_of-self-2 c).numbered in
    let known = (returns-clause-number c).known in
    omega (arith, few, known, ap (λ (x : Values). domain_size x.domain) c.self.view_is)
