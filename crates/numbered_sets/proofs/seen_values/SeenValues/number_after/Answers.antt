use Rattle.std.proofs.{Common.{◌≡◌, List, refl, sym, ap, subst, ◌∙◌}, lemmas.Result.{on_ok_weaker, IfOk-weaker}}
use Rattle.abstract_state.specs.{declared.value.{PartValue.{PartValue}}, Domains.{IsWithin}}
use Rattle.flow_model.specs.Tests.{updated}
use Rattle.numbered_sets.specs.{Pools.{Values, value_seen, IsNumberOf}, Slots.{value_in, slot_values}}
use Rattle.numbered_sets.proofs.SlotLaws.{value_numbered, given_values, given_seen, given_number, same_loads}
use Rattle.numbered_sets.proofs.seen_values.SeenValues.number_after.Goals as goal

-- the value with the number, and what becomes of it
abbrev value_of : goal.In_ok-number → PartValue
value_of c = value_in c.self.inside.domain c.self.inside.loads c.at-slot.result

abbrev moved_of : goal.In_ok-number → PartValue
moved_of c = updated c.args.update.now (value_of c)

numbered_so : (c : goal.In_ok-number) → IsNumberOf c.args.self.now.values (value_of c) c.args.number
numbered_so c =
    let here = c.self.inside in
    subst (λ (x : Values). IsNumberOf x.values (value_of c) c.args.number) c.self.view_is
    (value_numbered here.domain here.loads here.slots.used c.at-slot.result c.args.number (value_of c) c.at-slot.ensures.slot refl)

moved_is : (c : goal.In_ok-number) (v : PartValue) → IsNumberOf c.args.self.now.values v c.args.number → moved_of c ≡ updated c.args.update.now v
moved_is c v number = ap (updated c.args.update.now) (sym ((numbered_so c).is v) ∙ number.is v)

pub invariant_of-self-in-Some : goal.invariant_of-self-in-Some
invariant_of-self-in-Some c =
    let here = c.self.inside in
    let w = value_of c in
    let within : IsWithin here.domain (moved_of c) = subst (λ (x : Values). IsWithin x.domain (moved_of c)) (sym c.self.view_is) (c.requires.within w (numbered_so c)) in
    given_seen here.domain here.loads here.loads here.slots c.number.new.self c.in-Some.moved c.in_ok-number.number (moved_of c) (same_loads here.loads) c.self.invariant c.in-Some.ensures c.in_ok-number.ensures.slots c.in_ok-number.ensures.number
    c.number.ensures.width within

pub returns-in-Some-clause-values : goal.returns-in-Some-clause-values
returns-in-Some-clause-values c = λ v number.
    let here = c.self.inside in
    ap (λ (vs : List PartValue). record { domain = here.domain; values = vs })
    (given_values here.domain here.loads here.loads here.slots c.number.new.self c.in-Some.moved c.in_ok-number.number (moved_of c) (same_loads here.loads) c.self.invariant c.in-Some.ensures c.in_ok-number.ensures.slots
    c.in_ok-number.ensures.number)
    ∙ ap (λ (x : Values). value_seen x (moved_of c)) c.self.view_is ∙ ap (value_seen c.args.self.now) (moved_is c v number)

pub returns-in-Some-clause-number : goal.returns-in-Some-clause-number
returns-in-Some-clause-number c = λ v number.
    let here = c.self.inside in
    subst (λ (w : PartValue). IsNumberOf (slot_values here.domain here.loads c.number.new.self.used) w c.in_ok-number.number) (moved_is c v number)
    (given_number here.domain here.loads here.loads here.slots c.number.new.self c.in-Some.moved c.in_ok-number.number (moved_of c) (same_loads here.loads) c.self.invariant c.in-Some.ensures c.in_ok-number.ensures.slots
    c.in_ok-number.ensures.number)

made : (c : goal.After-number-2) (v : PartValue) → IsNumberOf c.args.self.now.values v c.args.number → c.of-value.result ≡ updated c.args.update.now v
made c v number = c.of-value.ensures ∙ ap (updated c.args.update.now) (sym (c.value.ensures.is v) ∙ number.is v)

pub returns-clause-values : goal.returns-clause-values
returns-clause-values c = on_ok_weaker c.number-2.result (λ e v number. e ∙ ap (value_seen c.args.self.now) (made c v number)) c.number-2.ensures.values

pub returns-clause-number : goal.returns-clause-number
returns-clause-number c =
    IfOk-weaker c.number-2.result (IsNumberOf c.number-2.new.self.values c.of-value.result)
    (λ n. (v : PartValue) → IsNumberOf c.args.self.now.values v c.args.number → IsNumberOf c.number-2.new.self.values (updated c.args.update.now v) n)
    (λ n is v number. subst (λ (w : PartValue). IsNumberOf c.number-2.new.self.values w n) (made c v number) is) c.number-2.ensures.number
