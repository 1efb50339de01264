use Rattle.std.proofs.Common.{◌≡◌, ◌+◌, sym, ap, subst, ◌∙◌}
use Rattle.abstract_state.specs.declared.value.PartValue.{PartValue}
use Rattle.flow_model.specs.Tests.{updated}
use Rattle.numbered_sets.specs.{Pools.{Values, IsNumberOf, IsExtended}, Made.{AreMade}}
use Rattle.numbered_sets.proofs.{ViewLaws.{extended_with}, MadeLaws.{value_there, number_stays, number_was, made_grown, made_more}}
use Rattle.numbered_sets.proofs.seen_values.SeenValues.put_after.Goals.{In_ok-after}
use Rattle.numbered_sets.proofs.seen_values.SeenValues.put_after.Goals as goal

-- with what becomes of the value
alike : (c : In_ok-after) → c.number_after.new.self.domain ≡ c.args.self.now.domain
alike c = (let there = value_there c.args.self.now.values c.args.number c.requires.known in ap (λ (x : Values). x.domain) (c.in_ok-after.ensures.values there.0 there.1))

longer : (c : In_ok-after) → IsExtended c.args.self.now.values c.number_after.new.self.values
longer c =
    let there = value_there c.args.self.now.values c.args.number c.requires.known in
    subst (λ (x : Values). IsExtended c.args.self.now.values x.values) (sym (c.in_ok-after.ensures.values there.0 there.1)) (extended_with c.args.self.now.values (updated c.args.update.now there.0))

stays : (c : In_ok-after) (v : PartValue) → IsNumberOf c.number_after.new.self.values v c.args.number → IsNumberOf c.number_after.new.self.values (updated c.args.update.now v) c.in_ok-after.after
stays c v is = c.in_ok-after.ensures.number v (number_was c.args.self.now.values c.number_after.new.self.values v c.args.number (longer c) c.requires.known is)

pub note_after-requires : goal.note_after-requires
note_after-requires c = (
    let here = goal.at.note_after-requires c in
    let there = value_there c.args.self.now.values c.args.number c.requires.known in
    let number = number_stays c.args.self.now.values c.number_after.new.self.values there.0 c.args.number (longer here.In_ok-after) there.1 in
    record { known = number.known; after = (stays here.In_ok-after there.0 number).known; made = stays here.In_ok-after })

pub returns-in_err-note_after-clause-domain : goal.returns-in_err-note_after-clause-domain
returns-in_err-note_after-clause-domain c = ap (λ (x : Values). x.domain) c.note_after.ensures ∙ alike (goal.at.returns-in_err-note_after-clause-domain c).In_ok-after

pub returns-in_err-note_after-clause-grown : goal.returns-in_err-note_after-clause-grown
returns-in_err-note_after-clause-grown c = subst (λ (x : Values). IsExtended c.args.self.now.values x.values) (sym c.note_after.ensures) (longer (goal.at.returns-in_err-note_after-clause-grown c).In_ok-after)

pub returns-in_err-put-clause-domain : goal.returns-in_err-put-clause-domain
returns-in_err-put-clause-domain c = ap (λ (x : Values). x.domain) c.note_after.ensures ∙ alike (goal.at.returns-in_err-put-clause-domain c).In_ok-after

pub returns-in_err-put-clause-grown : goal.returns-in_err-put-clause-grown
returns-in_err-put-clause-grown c = subst (λ (x : Values). IsExtended c.args.self.now.values x.values) (sym c.note_after.ensures) (longer (goal.at.returns-in_err-put-clause-grown c).In_ok-after)

pub returns-clause-domain : goal.returns-clause-domain
returns-clause-domain c = ap (λ (x : Values). x.domain) c.note_after.ensures ∙ alike (goal.at.returns-clause-domain c).In_ok-after

pub returns-clause-grown : goal.returns-clause-grown
returns-clause-grown c = subst (λ (x : Values). IsExtended c.args.self.now.values x.values) (sym c.note_after.ensures) (longer (goal.at.returns-clause-grown c).In_ok-after)

pub returns-clause-made : goal.returns-clause-made
returns-clause-made c = λ old known has begun.
    let here = (goal.at.returns-clause-made c).In_ok-after in
    let becomes = updated c.args.update.now in
    let vs = c.args.self.now.values in
    let ws = c.number_after.new.self.values in
    let n = c.args.number in
    let there = value_there vs n c.requires.known in
    subst (λ (x : Values). AreMade becomes x.values old (n + 1) c.put.new.self) (sym c.note_after.ensures)
    (subst (AreMade becomes ws old (n + 1)) (sym c.in_ok-put.ensures.set)
    (made_more becomes ws old c.args.made.now n c.in_ok-after.after (number_stays vs ws there.0 n (longer here) there.1).known has (stays here) (made_grown becomes vs ws old c.args.made.now n (longer here) known begun)))
