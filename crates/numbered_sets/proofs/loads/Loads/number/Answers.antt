use Rattle.std.proofs.Common.{◌<◌, ◌^◌, List, length, ap, subst, arith}
use Rattle.numbered_sets.specs.{declared.loads.Load.{Load}, Slots.{AreDistinct, IsLoadNumber, IsGrownBy}}
use Rattle.numbered_sets.proofs.{LoadLaws.{distinct_loads, stored_load, loads_grown, few_grown, more_by_one}, LoadUpdateLaws.{updates_longer}}
use Rattle.numbered_sets.proofs.loads.Loads.number.Goals as goal

distinct : (c : goal.In_ok-number) → AreDistinct c.insert_full.new.self.keys
distinct c = distinct_loads c.insert_full.new.self.keys c.in_ok-number.ensures.unique

grown : (c : goal.In_ok-number) → IsGrownBy c.args.load.now c.self.inside.seen.keys c.insert_full.new.self.keys
grown c =
    subst (λ (x : Load). IsGrownBy x c.self.inside.seen.keys c.insert_full.new.self.keys) c.copy-key.ensures
    (loads_grown c.self.inside.seen.keys c.insert_full.new.self.keys c.copy-key.result c.in_ok-number.ensures.keys)

pub invariant_of-self-2 : goal.invariant_of-self-2
invariant_of-self-2 c =
    let few : length c.self.inside.seen.keys < 2 ^ 32 = omega (arith, c.if-len-ge-MOST.false, c.len.ensures, ap length c.self.view_is) in
    let keys = c.self.inside.seen.keys in
    let after = c.insert_full.new.self.keys in
    (distinct c, few_grown keys after c.args.load.now few (grown c), updates_longer keys after c.self.inside.updates.known (more_by_one keys after c.args.load.now (grown c)) c.self.invariant.2)

pub returns-clause-loads : goal.returns-clause-loads
returns-clause-loads c = subst (λ (loads : List Load). IsGrownBy c.args.load.now loads c.insert_full.new.self.keys) c.self.view_is (grown c)

pub returns-clause-number : goal.returns-clause-number
returns-clause-number c =
    subst (λ (x : Load). IsLoadNumber c.insert_full.new.self.keys x c.in_ok-number.number) c.copy-key.ensures
    (stored_load c.insert_full.new.self.keys c.copy-key.result c.in_ok-number.number (distinct c) c.in_ok-number.ensures.within c.in_ok-number.ensures.stored)
