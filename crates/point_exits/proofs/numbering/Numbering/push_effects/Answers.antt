use Rattle.std.proofs.Common.{◌∷◌, [], List, ◌∙◌, sym, ap, subst}
use Rattle.std.specs.{Prelude.{Contains, IfSome}, declared.option.Option.{Option}}
use Rattle.std.proofs.lemmas.{List.{take_all}, Result.{on_ok_weaker}}
use Rattle.osek_standard.specs.declared.app.App.{App}
use Rattle.abstract_state.specs.declared.table.PlainEntry.{PlainEntry}
use Rattle.flow_model.specs.{declared.case.EffectCase.{EffectCase}, Effects.{IsKnownStay}}
use Rattle.numbered_sets.specs.Views.{plain_entry}
use Rattle.numbered_sets.proofs.ViewLaws.{same_view, still_known}
use Rattle.flow_effects.specs.{declared.effects.Alternatives.{Alternatives}, Alternatives.{alternative_cases, with_alternatives, AreApart}}
use Rattle.flow_exits.specs.Leaving.{effect_rule}
use Rattle.point_exits.specs.{Applying.{KeepsDomains}, Leaving.{AddsEffects}, Alternatives.{HasOwnValues}}
use Rattle.point_exits.proofs.{AddingEffects.{more_effects, effects_on}, AlternativeCases.{case_listed, alternative_listed}, GrownNumberings.{grown_onward}}
use Rattle.point_exits.proofs.numbering.Numbering.push_effects.Goals as goal

pub push_effect-requires-clause-effect : goal.push_effect-requires-clause-effect
push_effect-requires-clause-effect c =
    let pool = c.args.self.now.pool in
    let entry = c.args.before.now in
    let may = c.requires.effects in
    let inv = c.loop-effect.invariant in
    let x = c.effect-item.result in
    let listed = subst (λ (xs : List EffectCase). Contains xs x) c.as_slice-effect-items.ensures (c.loop-effect.effect-index, c.loop-effect-test.true, sym c.effect-item.is) in
    let one = case_listed c.args.effects.now.cases c.args.effects.now.alternatives x listed in
    record {
      applies = record {
        numbers = still_known pool c.loop-effect.self.pool entry inv.added.longer may.numbers;
        filled = may.filled;
        kept = subst (KeepsDomains (effect_rule x)) (sym (same_view pool c.loop-effect.self.pool entry inv.added.longer may.numbers)) (may.kept x one);
      };
      stay = subst (λ (app : App). IsKnownStay app x.leaving.stay) (sym inv.grown.app) (may.stays x one);
    }

pub loop-effect-preserved : goal.loop-effect-preserved
loop-effect-preserved c =
    let app = c.args.self.now.app.now in
    let pool = c.args.self.now.pool in
    let mid = c.loop-effect.self.pool in
    let entry = c.args.before.now in
    let inv = c.loop-effect.invariant in
    let x = c.effect-item.result in
    record {
      added = effects_on app (plain_entry pool entry) c.as_slice-effect-items.result.now c.loop-effect.effect-index x pool mid c.push_effect.new.self.pool c.args.groups.now.items c.loop-effect.groups.items c.push_effect.new.groups.items
          c.loop-effect-test.true (sym c.effect-item.is) inv.added
          (subst (λ (e : PlainEntry). AddsEffects app e (x ∷ []) mid c.loop-effect.groups.items c.push_effect.new.self.pool c.push_effect.new.groups.items) (same_view pool mid entry inv.added.longer c.requires.effects.numbers)
          (subst (λ (own : App). AddsEffects own (plain_entry mid entry) (x ∷ []) mid c.loop-effect.groups.items c.push_effect.new.self.pool c.push_effect.new.groups.items) inv.grown.app c.in_ok-push_effect.ensures.added));
      grown = grown_onward c.args.self.now c.loop-effect.self c.push_effect.new.self inv.grown c.push_effect.ensures.grown;
    }

pub push_alternatives-requires-clause-cases : goal.push_alternatives-requires-clause-cases
push_alternatives-requires-clause-cases c =
    let app = c.args.self.now.app.now in
    let pool = c.args.self.now.pool in
    let mid = c.loop-effect.self.pool in
    let entry = c.args.before.now in
    let longer = c.loop-effect.invariant.added.longer in
    let may = c.requires.effects in
    let effects = c.args.effects.now in
    let same = sym (same_view pool mid entry longer may.numbers) in
    record {
      numbers = still_known pool mid entry longer may.numbers;
      filled = may.filled;
      own = subst HasOwnValues same may.own;
      apart = subst (λ (own : App). AreApart own c.in-Some.alternatives) (sym c.loop-effect.invariant.grown.app)
          (subst (λ (o : Option Alternatives). IfSome o (AreApart app)) c.in-Some.is may.apart);
      kept = λ x m. subst (KeepsDomains (effect_rule x)) same (may.kept x (alternative_listed effects.cases effects.alternatives c.in-Some.alternatives x c.in-Some.is m));
    }

pub push_alternatives-requires-clause-known : goal.push_alternatives-requires-clause-known
push_alternatives-requires-clause-known c = c.loop-effect.invariant.added.known

pub returns-in-None-clause-added : goal.returns-in-None-clause-added
returns-in-None-clause-added c =
    let app = c.args.self.now.app.now in
    let pool = c.args.self.now.pool in
    let plain = plain_entry pool c.args.before.now in
    let effects = c.args.effects.now in
    let whole = take_all c.loop-effect.effect-index c.as_slice-effect-items.result.now c.loop-effect-test.false ∙ c.as_slice-effect-items.ensures ∙ sym (ap (with_alternatives effects.cases) c.in-None.is) in
    subst (λ (xs : List EffectCase). AddsEffects app plain xs pool c.args.groups.now.items c.loop-effect.self.pool c.loop-effect.groups.items) whole c.loop-effect.invariant.added

pub returns-in-Some-clause-added : goal.returns-in-Some-clause-added
returns-in-Some-clause-added c =
    let app = c.args.self.now.app.now in
    let pool = c.args.self.now.pool in
    let mid = c.loop-effect.self.pool in
    let after = c.push_alternatives.new.self.pool in
    let entry = c.args.before.now in
    let plain = plain_entry pool entry in
    let effects = c.args.effects.now in
    let first = c.args.groups.now.items in
    let then = c.loop-effect.groups.items in
    let last = c.push_alternatives.new.groups.items in
    let others = alternative_cases c.in-Some.alternatives in
    let some : AddsEffects app plain effects.cases pool first mid then =
    subst (λ (xs : List EffectCase). AddsEffects app plain xs pool first mid then)
    (take_all c.loop-effect.effect-index c.as_slice-effect-items.result.now c.loop-effect-test.false ∙ c.as_slice-effect-items.ensures) c.loop-effect.invariant.added in
    on_ok_weaker c.push_alternatives.result
    (λ added.
    subst (λ (xs : List EffectCase). AddsEffects app plain xs pool first after last) (sym (ap (with_alternatives effects.cases) c.in-Some.is))
    (more_effects app plain effects.cases others pool mid after first then last some
    (subst (λ (e : PlainEntry). AddsEffects app e others mid then after last) (same_view pool mid entry c.loop-effect.invariant.added.longer c.requires.effects.numbers)
    (subst (λ (own : App). AddsEffects own (plain_entry mid entry) others mid then after last) c.loop-effect.invariant.grown.app added)))) c.push_alternatives.ensures.added

pub returns-in-Some-clause-grown : goal.returns-in-Some-clause-grown
returns-in-Some-clause-grown c = grown_onward c.args.self.now c.loop-effect.self c.push_alternatives.new.self c.loop-effect.invariant.grown c.push_alternatives.ensures.grown

pub returns-in_err-push_effect-clause-grown : goal.returns-in_err-push_effect-clause-grown
returns-in_err-push_effect-clause-grown c = grown_onward c.args.self.now c.loop-effect.self c.push_effect.new.self c.loop-effect.invariant.grown c.push_effect.ensures.grown

pub returns-in-None-clause-grown : goal.returns-in-None-clause-grown
returns-in-None-clause-grown c = c.loop-effect.invariant.grown
