use Rattle.std.proofs.Common.{◌<◌, length, sym, subst, ap, ◌∙◌, List}
use Rattle.std.specs.Prelude.{Contains}
use Rattle.numbered_sets.specs.{declared.numbered_entry.NumberedEntry.{NumberedEntry}, NumberedEntries.{numbers_at}}
use Rattle.point_exits.specs.{declared.group.NumberEnd.{NumberEnd}, Groups.{AreKnownEnds}}
use Rattle.flow_rules.proofs.ruling.push_exits.Goals as goal

-- the component of an end has a set, of the domain of its numbers
pub put-requires-clause-known : goal.put-requires-clause-known
put-requires-clause-known c =
    let x = c.end-item.result in
    let known = subst (AreKnownEnds c.args.pool.now c.args.group.now.entry) c.in-With.is c.requires.ends in
    let listed : Contains c.in-With.ends x = subst (λ (xs : List NumberEnd). Contains xs x) c.as_slice-end-items.ensures (c.loop-end.end-index, c.loop-end-test.true, sym c.end-item.is) in
    subst (λ (e : NumberedEntry). x.component < length e.sets) (sym c.in_ok-held-in-With.ensures) (known x listed).component

pub put-requires-clause-alike : goal.put-requires-clause-alike
put-requires-clause-alike c =
    let x = c.end-item.result in
    let known = subst (AreKnownEnds c.args.pool.now c.args.group.now.entry) c.in-With.is c.requires.ends in
    let listed : Contains c.in-With.ends x = subst (λ (xs : List NumberEnd). Contains xs x) c.as_slice-end-items.ensures (c.loop-end.end-index, c.loop-end-test.true, sym c.end-item.is) in
    ap (λ (e : NumberedEntry). (numbers_at e x.component).domain) c.in_ok-held-in-With.ensures ∙ sym (known x listed).numbers.domain
