use Rattle.std.proofs.Common.{List, sym, subst}
use Rattle.numbered_sets.specs.declared.numbered_entry.NumberedEntry.{NumberedEntry}
use Rattle.point_exits.specs.declared.group.NumberEnd.{NumberEnd}
use Rattle.point_exits.specs.declared.group.Ends.TheVariants as ends
use Rattle.flow_check.specs.Staying.{HasSetFor}
use Rattle.flow_check.proofs.staying.stays.Goals as goal

pub all_with-requires-clause-set : goal.all_with-requires-clause-set
all_with-requires-clause-set c =
    let g = c.args.group.now in
    subst (λ (e : NumberedEntry). HasSetFor e (ends.With c.as_slice-in-With.result.now)) (sym c.in_ok-entry-in-With.ensures)
    (subst (λ (xs : List NumberEnd). HasSetFor g.entry (ends.With xs)) (sym c.as_slice-in-With.ensures) (subst (HasSetFor g.entry) c.in-With.is c.requires.set))
