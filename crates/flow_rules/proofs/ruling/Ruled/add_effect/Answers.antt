use Rattle.std.proofs.Common.{◌≡◌, ◌++◌, [], ◌∙◌, List, length, map, flat_map, refl, sym, ap, subst}
use Rattle.std.specs.{Prelude.{Contains, IfSome, IfNone}, declared.option.Option.{Option}}
use Rattle.std.proofs.lemmas.{Bool.{OnTrue_at, OnFalse_at}, Result.{on_ok_weaker}}
use Rattle.osek_standard.specs.declared.app.App.{App}
use Rattle.abstract_state.specs.{declared.table.PlainEntry.{PlainEntry}, Components.{component_count}}
use Rattle.osek_standard.proofs.Members.{contained_among}
use Rattle.flow_model.specs.{declared.{case.OutcomeCase.{OutcomeCase}, change.Change.{Change}}, Rules.{Applies, HasNone}}
use Rattle.numbered_sets.specs.{declared.numbered_entry.NumberedEntry.{NumberedEntry}, Views.{plain_entry}}
use Rattle.flow_exits.specs.Leaving.{effect_rule}
use Rattle.flow_rules.specs.{Assembly.{rule_of}, Ruling.{outcomes_by}}
use Rattle.point_exits.specs.{declared.group.ExitGroup.{ExitGroup}, Groups.{all_exits, AreKnownGroups}, Deciding.{AddsFor, IsAny}, Leaving.{IsAfter}}
use Rattle.flow_rules.proofs.RuledExits.{exits_ruled, none_ruled}
use Rattle.numbered_sets.proofs.NumberingLaws.{longer_itself}
use Rattle.point_exits.proofs.{EntryCounts.{sets_counted}, SettledGroups.{decided_known}, SiftedSets.{empty_takes_none}}
use Rattle.flow_rules.proofs.ruling.Ruled.add_effect.Goals as goal

pub returns-then-not-is_filled-clause-grown : goal.returns-then-not-is_filled-clause-grown
returns-then-not-is_filled-clause-grown c = record { app = refl; pool = longer_itself c.args.numbering.now.pool }

pub returns-then-not-is_filled-clause-added : goal.returns-then-not-is_filled-clause-added
returns-then-not-is_filled-clause-added c =
    let app = c.args.self.now.app.now in
    let pool = c.args.numbering.now.pool in
    let entry = c.args.self.now.numbers.now in
    let rule = effect_rule c.args.effect.now in
    let size = sets_counted app pool entry c.args.self.now.alike in
    let none : HasNone rule (plain_entry pool entry) = empty_takes_none pool rule entry (OnFalse_at c.if-not-is_filled.true c.is_filled.ensures.none) in
    none_ruled app c.args.self.now.from.now c.args.effect.now c.args.rules.now (subst (λ (e : PlainEntry). length e.sets ≡ component_count app) c.requires.plain size) (subst (HasNone rule) c.requires.plain none)

pub after-requires : goal.after-requires
after-requires c = record { numbers = c.requires.numbers; filled = OnTrue_at c.if-not-is_filled.false c.is_filled.ensures.filled; kept = c.requires.domains }

pub invariant_of-values : goal.invariant_of-values
invariant_of-values c =
    let after = c.after.new.self in
    let is = subst (λ (app : App). IsAfter app c.args.effect.now c.args.self.now.numbers.now c.args.numbering.now.pool after.pool after.levels c.in-Some.after) c.requires.app
    (subst (λ (o : Option NumberedEntry). IfSome o (IsAfter c.args.numbering.now.app.now c.args.effect.now c.args.self.now.numbers.now c.args.numbering.now.pool after.pool after.levels)) c.in-Some.is c.in_ok-after.ensures.some) in
    record { decidable = record { stay = c.requires.stays; levels = is.all; whole = is.whole } }

pub exits-requires : goal.exits-requires
exits-requires c =
    let pool = c.after.new.self.pool in
    let none : AreKnownGroups pool c.new-groups.result.items = subst (AreKnownGroups pool) (sym c.new-groups.ensures.items) (λ g m. absurd (contained_among [] g m)) in
    λ g m. decided_known c.args.self.now.app.now pool c.args.effect.now.leaving c.in-Some.after c.new-groups.result.items c.push_decided.new.groups.items c.in_ok-push_decided.ensures none g
    (subst (λ (gs : List ExitGroup). Contains gs g) c.as_slice.ensures.value m)

pub returns-in_default-clause-added : goal.returns-in_default-clause-added
returns-in_default-clause-added c =
    let app = c.args.self.now.app.now in
    let pool = c.args.numbering.now.pool in
    let rule = effect_rule c.args.effect.now in
    let size = sets_counted app pool c.args.self.now.numbers.now c.args.self.now.alike in
    let none : HasNone rule (plain_entry pool c.args.self.now.numbers.now) = subst (λ (o : Option NumberedEntry). IfNone o (HasNone rule (plain_entry pool c.args.self.now.numbers.now))) c.in_default.is c.in_ok-after.ensures.none in
    none_ruled app c.args.self.now.from.now c.args.effect.now c.args.rules.now (subst (λ (e : PlainEntry). length e.sets ≡ component_count app) c.requires.plain size) (subst (HasNone rule) c.requires.plain none)

pub returns-clause-added : goal.returns-clause-added
returns-clause-added c =
    let app = c.args.self.now.app.now in
    let from = c.args.self.now.from.now in
    let effect = c.args.effect.now in
    let before = c.args.rules.now in
    let pool = c.args.numbering.now.pool in
    let after = c.after.new.self.pool in
    let made = c.in-Some.after in
    let groups = c.push_decided.new.groups.items in
    let exits = c.in_ok-exits.exits in
    let is = subst (λ (own : App). IsAfter own effect c.args.self.now.numbers.now pool after c.after.new.self.levels made) c.requires.app
    (subst (λ (o : Option NumberedEntry). IfSome o (IsAfter c.args.numbering.now.app.now effect c.args.self.now.numbers.now pool after c.after.new.self.levels)) c.in-Some.is c.in_ok-after.ensures.some) in
    let h : AddsFor app after effect.leaving made IsAny [] groups = subst (λ (gs : List ExitGroup). AddsFor app after effect.leaving made IsAny gs groups) c.new-groups.ensures.items c.in_ok-push_decided.ensures in
    let size = subst (λ (e : PlainEntry). length e.sets ≡ component_count app) c.requires.plain (sets_counted app pool c.args.self.now.numbers.now c.args.self.now.alike) in
    let applies = subst (λ (e : PlainEntry). Applies (effect_rule effect) e (plain_entry after made)) c.requires.plain is.applies in
    let cases_are : c.as_slice-3.result.now ≡ flat_map (outcomes_by app effect.changes from) exits =
    c.as_slice-3.ensures ∙ c.in_ok-outcomes.ensures ∙ ap (λ (xs : List Change). flat_map (outcomes_by app xs from) c.as_slice-2.result.now) c.as_slice-changes.ensures ∙ ap (flat_map (outcomes_by app effect.changes from)) c.as_slice-2.ensures in
    on_ok_weaker c.add_rules.result
    (λ added. exits_ruled app from effect after made groups exits before c.add_rules.new.rules size applies h (c.in_ok-exits.ensures ∙ ap (all_exits after) c.as_slice.ensures.value)
    (added ∙ ap (λ (xs : List OutcomeCase). before ++ map (rule_of app effect) xs) cases_are)) c.add_rules.ensures
