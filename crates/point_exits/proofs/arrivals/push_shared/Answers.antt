use Rattle.std.proofs.Common.{◌++◌, ◌∷◌, [], true, length, ◌∙◌, sym, ap, subst, None}
use Rattle.numbered_sets.specs.{declared.numbered_entry.NumberedEntry.{NumberedEntry}, Views.{plain_entry}}
use Rattle.point_exits.specs.declared.group.Ends.TheVariants as ends
use Rattle.point_exits.specs.Leaving.{AddsRoutines, IsAmongFirst}
use Rattle.point_exits.proofs.ArrivingGroups.{begin_together, none_together}
use Rattle.point_exits.proofs.arrivals.push_shared.Goals as goal

pub returns-then-is_empty : goal.returns-then-is_empty
returns-then-is_empty c = λ app p before pool rules are alike longer numbers known shared.
    none_together app p before pool c.args.entry.now c.args.groups.now.items rules are alike longer numbers known c.args.shared shared (sym c.is_empty.ensures ∙ c.if-is_empty.true)

pub returns : goal.returns
returns c = λ app p before pool rules are alike longer numbers known shared.
    let entry = c.args.entry.now in
    let groups = c.args.groups.now.items in
    subst (AddsRoutines app p (plain_entry before entry) (IsAmongFirst rules (length rules) true) pool groups pool)
    (sym (c.in_ok-push.ensures.items ∙ ap (λ (e : NumberedEntry). groups ++ (record { decision = None; status = None; entry = e; ends = ends.With c.args.shared }) ∷ []) c.in_ok-entry.ensures))
    (begin_together app p before pool entry groups rules are alike longer numbers known c.args.shared shared)
