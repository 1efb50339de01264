use Rattle.std.proofs.Common.{◌≡◌, ◌++◌, ◌∷◌, [], List, ◌∙◌, sym, ap, subst, None}
use Rattle.std.specs.{Prelude.{IfSome, IfNone}, declared.option.Option.{Option}}
use Rattle.osek_standard.specs.declared.point.Point.{Point}
use Rattle.flow_model.specs.{declared.rule.Rule.{Rule}, Rules.{Applies, HasNone}}
use Rattle.numbered_sets.specs.{declared.numbered_entry.NumberedEntry.{NumberedEntry}, NumberedEntries.{number_domains}, Views.{plain_entry, AreNumbersOf}}
use Rattle.point_exits.specs.declared.group.Ends.TheVariants as ends
use Rattle.point_exits.specs.{Applying.{bare_rule}, Leaving.{AddsRoutines}}
use Rattle.point_exits.proofs.{BareRules.{bare_applies, bare_none, may_apply_bare}, EntryCounts.{sets_counted, numbers_counted, applied_filled}, ArrivingGroups.{routine_skipped, routine_begins}}
use Rattle.point_exits.proofs.arrivals.push_arrival.Goals as goal

pub applied-requires : goal.applied-requires
applied-requires c = may_apply_bare c.args.rule.now c.args.pool.now c.args.entry.now c.requires.rule

pub returns-in_default-clause-added : goal.returns-in_default-clause-added
returns-in_default-clause-added c = λ app p arrival domains.
    let pool = c.args.pool.now in
    let entry = plain_entry pool c.args.entry.now in
    let rule = c.args.rule.now in
    let none : HasNone (bare_rule rule.conditions rule.changes) entry =
    subst (λ (o : Option NumberedEntry). IfNone o (HasNone (bare_rule rule.conditions rule.changes) entry)) c.in_default.is c.in_ok-after.ensures.none in
    routine_skipped app p entry (sets_counted app pool c.args.entry.now domains) rule arrival pool c.applied.new.pool c.applied.ensures.pool c.args.groups.now.items c.requires.known (bare_none rule entry none)

pub returns-clause-added : goal.returns-clause-added
returns-clause-added c = λ app p arrival domains.
    let pool = c.args.pool.now in
    let after = c.applied.new.pool in
    let rule = c.args.rule.now in
    let entry = plain_entry pool c.args.entry.now in
    let made = c.in-Some.after in
    let before = c.args.groups.now.items in
    let bare = bare_rule rule.conditions rule.changes in
    let applies : Applies rule entry (plain_entry after made) =
    bare_applies rule entry (plain_entry after made) (subst (λ (o : Option NumberedEntry). IfSome o (λ new. Applies bare entry (plain_entry after new))) c.in-Some.is c.in_ok-after.ensures.some) in
    let numbers : AreNumbersOf after made = subst (λ (o : Option NumberedEntry). IfSome o (AreNumbersOf after)) c.in-Some.is c.in_ok-after.ensures.numbers in
    let same : number_domains made ≡ number_domains c.args.entry.now = numbers.domains ∙ c.applied.ensures.pool.domains ∙ sym c.requires.rule.numbers.domains in
    let at : c.push.new.self ≡ rule.target ∷ [] = c.in_ok-push.ensures.ok ∙ ap (λ (ps : List Point). ps ++ rule.target ∷ []) c.new-targets.ensures in
    subst (AddsRoutines app p entry (λ (r : Rule). r ≡ rule) pool before after)
    (sym (c.in_ok-push-2.ensures.items ∙ ap (λ (ps : List Point). before ++ (record { decision = None; status = None; entry = made; ends = ends.At ps }) ∷ []) at))
    (routine_begins app p entry (sets_counted app pool c.args.entry.now domains) rule arrival pool after c.applied.ensures.pool before c.requires.known made numbers
    (applied_filled app rule pool after c.args.entry.now made domains same applies) (numbers_counted app made (same ∙ domains)) applies)
