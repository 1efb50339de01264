use Rattle.std.proofs.{Common.{◌∙◌, sym, ap, subst}, Math.Bool.{or_comm}}
use Rattle.std.specs.{Prelude.{not}, List.{list_any}}
use Rattle.abstract_state.specs.{ValueOrder.{same_part, IsAscending}, Tables.{is_member}}
use Rattle.abstract_state.proofs.{OrderLaws.{part_itself, absent, ascending_with, any_with}, JoinLaws.{place_there, there_too}}
use Rattle.abstract_state.proofs.table.ValueSet.insert.Goals as goal

pub returns-in-Ok-clause-is_new : goal.returns-in-Ok-clause-is_new
returns-in-Ok-clause-is_new c =
    sym (ap not (place_there c.args.self.now.members c.in-Ok.field-0 c.args.value c.args.value c.in-Ok.ensures.place (part_itself c.args.value)))

pub returns-in-Ok-clause-members : goal.returns-in-Ok-clause-members
returns-in-Ok-clause-members c =
    λ v.
    there_too (is_member c.args.self.now v) (same_part v c.args.value)
    (λ e. place_there c.args.self.now.members c.in-Ok.field-0 c.args.value v c.in-Ok.ensures.place e)

pub returns-in_ok-put_in-in-Err-clause-is_new : goal.returns-in_ok-put_in-in-Err-clause-is_new
returns-in_ok-put_in-in-Err-clause-is_new c = sym (ap not (absent c.args.self.now.members c.in-Err.gap c.args.value c.requires c.in-Err.ensures.gap))

pub returns-in_ok-put_in-in-Err-clause-members : goal.returns-in_ok-put_in-in-Err-clause-members
returns-in_ok-put_in-in-Err-clause-members c =
    λ v.
    ap (list_any (same_part v)) c.in_ok-put_in-in-Err.ensures.members
    ∙ any_with c.args.self.now.members c.in-Err.gap c.args.value v
    ∙ or_comm (same_part v c.args.value) (is_member c.args.self.now v)

pub returns-in_ok-put_in-in-Err-clause-ascending : goal.returns-in_ok-put_in-in-Err-clause-ascending
returns-in_ok-put_in-in-Err-clause-ascending c =
    subst IsAscending (sym c.in_ok-put_in-in-Err.ensures.members) (ascending_with c.args.self.now.members c.in-Err.gap c.args.value c.requires c.in-Err.ensures.gap)
