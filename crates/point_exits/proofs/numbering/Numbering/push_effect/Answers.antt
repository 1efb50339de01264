use Rattle.std.proofs.Common.{◌≡◌, ◌∙◌, length, sym, subst, arith}
use Rattle.std.specs.{Prelude.{IfSome, IfNone}, declared.option.Option.{Option}}
use Rattle.std.proofs.lemmas.Result.{on_ok_weaker}
use Rattle.flow_model.specs.Rules.{HasNone}
use Rattle.numbered_sets.specs.{declared.numbered_entry.NumberedEntry.{NumberedEntry}, Views.{plain_entry}}
use Rattle.flow_exits.specs.Leaving.{effect_rule}
use Rattle.point_exits.specs.{Deciding.{AddsFor, IsAny}, Leaving.{IsAfter}, Settling.{AreSettledFrom}}
use Rattle.point_exits.proofs.{GrowingPools.{groups_known}, EntryCounts.{sets_counted, pool_has_tasks}, AddingEffects.{effect_added, effect_skipped}}
use Rattle.point_exits.proofs.SettledGroups.{decided_known, settled_decided, settled_groups_known}
use Rattle.point_exits.proofs.numbering.Numbering.push_effect.Goals as goal

pub after-requires : goal.after-requires
after-requires c = c.requires.effect.applies

pub returns-in_default-clause-added : goal.returns-in_default-clause-added
returns-in_default-clause-added c =
    let app = c.args.self.now.app.now in
    let pool = c.args.self.now.pool in
    let entry = plain_entry pool c.args.before.now in
    let none : HasNone (effect_rule c.args.effect.now) entry = subst (λ (o : Option NumberedEntry). IfNone o (HasNone (effect_rule c.args.effect.now) entry)) c.in_default.is c.in_ok-after.ensures.none in
    effect_skipped app entry (sets_counted app pool c.args.before.now (c.requires.effect.applies.numbers.domains ∙ c.args.self.now.domains)) c.args.effect.now pool c.after.new.self.pool c.after.ensures.grown.pool c.args.groups.now.items c.args.groups.now.items c.requires.known
    none

pub invariant_of-values : goal.invariant_of-values
invariant_of-values c =
    let is = subst (λ (o : Option NumberedEntry). IfSome o (IsAfter c.args.self.now.app.now c.args.effect.now c.args.before.now c.args.self.now.pool c.after.new.self.pool c.after.new.self.levels)) c.in-Some.is c.in_ok-after.ensures.some in
    record { decidable = record { stay = c.requires.effect.stay; levels = is.all; whole = is.whole } }

pub invariant_of-settling : goal.invariant_of-settling
invariant_of-settling c =
    let is = subst (λ (o : Option NumberedEntry). IfSome o (IsAfter c.args.self.now.app.now c.args.effect.now c.args.before.now c.args.self.now.pool c.after.new.self.pool c.after.new.self.levels)) c.in-Some.is c.in_ok-after.ensures.some in
    record {
      all = is.all;
      tasks = pool_has_tasks c.args.self.now.app.now c.after.new.self.pool (c.after.ensures.grown.pool.domains ∙ c.args.self.now.domains);
    }

pub settle-requires : goal.settle-requires
settle-requires c =
    decided_known c.args.self.now.app.now c.after.new.self.pool c.args.effect.now.leaving c.in-Some.after c.args.groups.now.items c.push_decided.new.groups.items c.in_ok-push_decided.ensures
    (groups_known c.args.self.now.pool c.after.new.self.pool c.after.ensures.grown.pool c.args.groups.now.items c.requires.known)

pub returns-clause-added : goal.returns-clause-added
returns-clause-added c =
    let app = c.args.self.now.app.now in
    let effect = c.args.effect.now in
    let pool = c.args.self.now.pool in
    let after = c.after.new.self.pool in
    let made = c.in-Some.after in
    let before = c.args.groups.now.items in
    let now = c.push_decided.new.groups.items in
    let settled = c.settle.new.groups.items in
    let entry = plain_entry pool c.args.before.now in
    let is = subst (λ (o : Option NumberedEntry). IfSome o (IsAfter app effect c.args.before.now pool after c.after.new.self.levels)) c.in-Some.is c.in_ok-after.ensures.some in
    let h : AddsFor app after effect.leaving made IsAny before now = c.in_ok-push_decided.ensures in
    let known = groups_known pool after c.after.ensures.grown.pool before c.requires.known in
    let size : length before ≡ c.len-from.result = omega (arith, c.len-from.ensures, c.args.groups.now.ok.0) in
    on_ok_weaker c.settle.result
    (λ s. (let t : AreSettledFrom app after effect.leaving.stay (length before) now settled = subst (λ n. AreSettledFrom app after effect.leaving.stay n now settled) (sym size) s in
    effect_added app entry (sets_counted app pool c.args.before.now (c.requires.effect.applies.numbers.domains ∙ c.args.self.now.domains)) effect pool after c.after.ensures.grown.pool before settled c.requires.known made is.applies
    (settled_groups_known app after effect.leaving made before now settled h t known)
    (settled_decided app after effect.leaving made before now settled h t known))) c.settle.ensures
