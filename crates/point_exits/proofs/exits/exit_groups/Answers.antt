use Rattle.std.proofs.Common.{List, subst}
use Rattle.osek_standard.specs.declared.app.App.{App}
use Rattle.abstract_state.specs.declared.table.PlainEntry.{PlainEntry}
use Rattle.numbered_sets.specs.Views.{plain_entry}
use Rattle.numbered_sets.proofs.ViewLaws.{same_view}
use Rattle.point_exits.specs.{declared.group.ExitGroup.{ExitGroup}, Leaving.{AddsArrivals, AddsInstructions}}
use Rattle.point_exits.proofs.{GrownNumberings.{grown_onward, still_at}, LeavingPoints.{passive_exits, executing_exits}}
use Rattle.point_exits.proofs.exits.exit_groups.Goals as goal

pub returns-in-None-clause-exits : goal.returns-in-None-clause-exits
returns-in-None-clause-exits c =
    let app = c.args.numbering.now.app.now in
    let p = c.args.point in
    let pool = c.args.numbering.now.pool in
    let entry = plain_entry pool c.args.entry.now in
    let grown = c.push_arrivals.new.self.pool in
    passive_exits app p entry c.in-None.ensures.none pool grown c.push_arrivals.new.groups.items
    (subst (λ (gs : List ExitGroup). AddsArrivals app p entry pool gs grown c.push_arrivals.new.groups.items) c.new-groups.ensures.items c.in_ok-push_arrivals.ensures.added)

pub push_instructions-requires-clause-at : goal.push_instructions-requires-clause-at
push_instructions-requires-clause-at c = still_at c.args.numbering.now c.push_arrivals.new.self c.push_arrivals.ensures.grown c.args.point c.args.entry.now c.requires

pub push_instructions-requires-clause-known : goal.push_instructions-requires-clause-known
push_instructions-requires-clause-known c = c.in_ok-push_arrivals.ensures.added.added.known

pub returns-in_ok-push_instructions-in-Some-clause-grown : goal.returns-in_ok-push_instructions-in-Some-clause-grown
returns-in_ok-push_instructions-in-Some-clause-grown c =
    grown_onward c.args.numbering.now c.push_arrivals.new.self c.push_instructions.new.self c.push_arrivals.ensures.grown c.push_instructions.ensures.grown

pub returns-in_err-push_instructions-in-Some-clause-grown : goal.returns-in_err-push_instructions-in-Some-clause-grown
returns-in_err-push_instructions-in-Some-clause-grown c =
    grown_onward c.args.numbering.now c.push_arrivals.new.self c.push_instructions.new.self c.push_arrivals.ensures.grown c.push_instructions.ensures.grown

pub returns-in_ok-push_instructions-in-Some-clause-exits : goal.returns-in_ok-push_instructions-in-Some-clause-exits
returns-in_ok-push_instructions-in-Some-clause-exits c =
    let app = c.args.numbering.now.app.now in
    let p = c.args.point in
    let pool = c.args.numbering.now.pool in
    let grown = c.push_arrivals.new.self.pool in
    let after = c.push_instructions.new.self.pool in
    let groups = c.push_arrivals.new.groups.items in
    let all = c.push_instructions.new.groups.items in
    let entry = plain_entry pool c.args.entry.now in
    let instructions : AddsInstructions app p entry grown groups after all =
    subst (λ (e : PlainEntry). AddsInstructions app p e grown groups after all) (same_view pool grown c.args.entry.now c.push_arrivals.ensures.grown.pool c.requires.numbers)
    (subst (λ (own : App). AddsInstructions own p (plain_entry grown c.args.entry.now) grown groups after all) c.push_arrivals.ensures.grown.app c.in_ok-push_instructions-in-Some.ensures.added) in
    executing_exits app p entry c.in-Some.field-0 c.in-Some.ensures.some pool grown after groups all
    (subst (λ (gs : List ExitGroup). AddsArrivals app p entry pool gs grown groups) c.new-groups.ensures.items c.in_ok-push_arrivals.ensures.added) instructions
