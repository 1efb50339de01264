use Rattle.std.proofs.Common.{◌≡◌, ◌∙◌, List, sym, ap, subst, arith}
use Rattle.std.specs.Prelude.{Contains}
use Rattle.std.proofs.lemmas.List.{take_all}
use Rattle.abstract_state.specs.{declared.table.PlainEntry.{PlainEntry}, Domains.{domains, domains_of}}
use Rattle.flow_model.specs.{declared.case.EffectCase.{EffectCase}, Effects.{AreAllAllowed}}
use Rattle.numbered_sets.specs.{NumberedEntries.{number_domains}, Pools.{Values, pool_domains, IsLonger}, Views.{plain_entry}}
use Rattle.numbered_sets.proofs.{ViewLaws.{same_view, still_known, same_domains}, NumberingLaws.{longer_itself, longer_onward}}
use Rattle.flow_exits.specs.Leaving.{effect_rule}
use Rattle.flow_rules.specs.Assembly.{AreAllAdded}
use Rattle.flow_rules.proofs.PointRules.{none_added, added_on}
use Rattle.flow_rules.specs.Allowed.{IsAllowedPart}
use Rattle.point_exits.specs.Applying.{KeepsDomains}
use Rattle.flow_rules.proofs.RuledExits.{rules_added}
use Rattle.point_exits.proofs.{EffectDomains.{effect_keeps_domains}, EntryCounts.{numbers_counted, pool_counted}, OutLaws.{none_out}}
use Rattle.flow_rules.proofs.RuledPoints.{all_allowed, allowed_there, from_domains, from_sound}
use Rattle.flow_rules.proofs.ruling.add_instructions.Goals as goal

pub plain-requires : goal.plain-requires
plain-requires c =
    let sets = numbers_counted c.args.app.now c.args.entry.now c.requires.domains in
    let pool = pool_counted c.args.app.now c.args.pool.now (sym c.requires.numbers.domains ∙ c.requires.domains) in
    omega (arith, sets, pool)

pub allowed_part-requires : goal.allowed_part-requires
allowed_part-requires c =
    subst (λ (e : PlainEntry). domains e ≡ domains_of c.args.app.now) (sym c.in_ok-whole.ensures) (same_domains c.args.pool.now 0 c.args.entry.now.sets ∙ c.requires.domains)

pub numbered-requires-clause-domains : goal.numbered-requires-clause-domains
numbered-requires-clause-domains c =
    let app = c.args.app.now in
    let p = c.args.point in
    let pool = c.args.pool.now in
    let entry = c.args.entry.now in
    let from = c.in_ok-from.from in
    let part = subst (λ (e : PlainEntry). IsAllowedPart app p e from) c.in_ok-whole.ensures c.in_ok-from.ensures in
    from_domains app p pool entry from c.requires.domains c.are_values.ensures c.requires.numbers part ∙ ap pool_domains (sym c.in_ok-grown.ensures)

pub numbered-requires-clause-sound : goal.numbered-requires-clause-sound
numbered-requires-clause-sound c =
    let app = c.args.app.now in
    let p = c.args.point in
    let pool = c.args.pool.now in
    let entry = c.args.entry.now in
    let from = c.in_ok-from.from in
    let part = subst (λ (e : PlainEntry). IsAllowedPart app p e from) c.in_ok-whole.ensures c.in_ok-from.ensures in
    from_sound app p pool entry from c.requires.domains c.are_values.ensures c.requires.numbers part

pub new-requires : goal.new-requires
new-requires c = c.in_ok-numbers.ensures.pool.domains ∙ ap pool_domains c.in_ok-grown.ensures ∙ sym c.requires.numbers.domains ∙ c.requires.domains

-- the numbering begins with the pool of the allowed part
pub add_effect-requires-clause-app : goal.add_effect-requires-clause-app
add_effect-requires-clause-app c = c.loop-effect.invariant.app

pub add_effect-requires-clause-plain : goal.add_effect-requires-clause-plain
add_effect-requires-clause-plain c =
    same_view c.numbered.new.pool c.loop-effect.numbering.pool c.in_ok-numbers.numbers (subst (λ (q : List Values). IsLonger q c.loop-effect.numbering.pool) c.in_ok-numbering.ensures.pool c.loop-effect.invariant.longer)
    c.in_ok-numbers.ensures.numbers
    ∙ c.in_ok-numbers.ensures.plain

pub invariant_of-ruled : goal.invariant_of-ruled
invariant_of-ruled c =
    let alike : number_domains c.in_ok-numbers.numbers ≡ domains_of c.args.app.now =
    c.in_ok-numbers.ensures.numbers.domains ∙ c.in_ok-numbers.ensures.pool.domains ∙ ap pool_domains c.in_ok-grown.ensures ∙ sym c.requires.numbers.domains ∙ c.requires.domains in
    record { alike = alike; from_alike = ap domains (sym c.in_ok-numbers.ensures.plain) ∙ same_domains c.numbered.new.pool 0 c.in_ok-numbers.numbers.sets ∙ alike }

pub add_effect-requires-clause-numbers : goal.add_effect-requires-clause-numbers
add_effect-requires-clause-numbers c =
    let grown = c.numbered.new.pool in
    let longer : IsLonger grown c.loop-effect.numbering.pool = subst (λ (q : List Values). IsLonger q c.loop-effect.numbering.pool) c.in_ok-numbering.ensures.pool c.loop-effect.invariant.longer in
    still_known grown c.loop-effect.numbering.pool c.in_ok-numbers.numbers longer c.in_ok-numbers.ensures.numbers

pub add_effect-requires-clause-domains : goal.add_effect-requires-clause-domains
add_effect-requires-clause-domains c =
    let app = c.args.app.now in
    let p = c.args.point in
    let pool = c.args.pool.now in
    let entry = c.args.entry.now in
    let from = c.in_ok-from.from in
    let numbers = c.in_ok-numbers.numbers in
    let grown = c.numbered.new.pool in
    let x = c.effect-item.result in
    let part = subst (λ (e : PlainEntry). IsAllowedPart app p e from) c.in_ok-whole.ensures c.in_ok-from.ensures in
    let allowed : AreAllAllowed app p (plain_entry grown numbers) = subst (AreAllAllowed app p) (sym c.in_ok-numbers.ensures.plain) (all_allowed app p pool entry from c.requires.domains c.are_values.ensures c.requires.numbers part) in
    let alike : number_domains numbers ≡ domains_of app =
    c.in_ok-numbers.ensures.numbers.domains ∙ c.in_ok-numbers.ensures.pool.domains ∙ ap pool_domains c.in_ok-grown.ensures ∙ sym c.requires.numbers.domains ∙ c.requires.domains in
    let among : Contains c.as_slice-effect-items.result.now x = (c.loop-effect.effect-index, c.loop-effect-test.true, sym c.effect-item.is) in
    let listed : Contains c.in_ok-effects.effects x = subst (λ (xs : List EffectCase). Contains xs x) c.as_slice-effect-items.ensures among in
    let longer : IsLonger grown c.loop-effect.numbering.pool = subst (λ (q : List Values). IsLonger q c.loop-effect.numbering.pool) c.in_ok-numbering.ensures.pool c.loop-effect.invariant.longer in
    subst (KeepsDomains (effect_rule x)) (sym (same_view grown c.loop-effect.numbering.pool numbers longer c.in_ok-numbers.ensures.numbers))
    (effect_keeps_domains app p (plain_entry grown numbers) c.in_ok-effects.effects x (same_domains grown 0 numbers.sets ∙ alike) listed (c.in_ok-effects.ensures.exact (plain_entry grown numbers) (same_domains grown 0 numbers.sets ∙ alike) allowed))

pub loop-effect-init : goal.loop-effect-init
loop-effect-init c = record {
  added = none_added c.args.app.now c.args.point (plain_entry c.args.pool.now c.args.entry.now) c.args.rules.now;
  app = c.in_ok-numbering.ensures.app;
  longer = longer_itself c.in_ok-numbering.numbering.pool;
}

pub loop-effect-preserved : goal.loop-effect-preserved
loop-effect-preserved c =
    let app = c.args.app.now in
    let p = c.args.point in
    let pool = c.args.pool.now in
    let entry = c.args.entry.now in
    let from = c.in_ok-from.from in
    let x = c.effect-item.result in
    let part = subst (λ (e : PlainEntry). IsAllowedPart app p e from) c.in_ok-whole.ensures c.in_ok-from.ensures in
    record {
      added = added_on app p (plain_entry pool entry) c.as_slice-effect-items.result.now c.loop-effect.effect-index x c.args.rules.now c.loop-effect.rules c.add_effect.new.rules
          c.loop-effect-test.true (sym c.effect-item.is) c.loop-effect.invariant.added
          (rules_added app p (plain_entry pool entry) from (allowed_there app p pool entry from c.requires.domains c.are_values.ensures c.requires.numbers part) x c.loop-effect.rules c.add_effect.new.rules c.in_ok-add_effect.ensures.added);
      app = c.add_effect.ensures.grown.app ∙ c.loop-effect.invariant.app;
      longer = longer_onward c.in_ok-numbering.numbering.pool c.loop-effect.numbering.pool c.add_effect.new.numbering.pool c.loop-effect.invariant.longer c.add_effect.ensures.grown.pool;
    }

pub add_effect-requires-clause-stays : goal.add_effect-requires-clause-stays
add_effect-requires-clause-stays c =
    let x = c.effect-item.result in
    c.in_ok-effects.ensures.stays x (subst (λ (xs : List EffectCase). Contains xs x) c.as_slice-effect-items.ensures (c.loop-effect.effect-index, c.loop-effect-test.true, sym c.effect-item.is))

pub returns : goal.returns
returns c =
    let app = c.args.app.now in
    let plain = plain_entry c.args.pool.now c.args.entry.now in
    let items = c.as_slice-effect-items.result.now in
    let alike : domains plain ≡ domains_of app = same_domains c.args.pool.now 0 c.args.entry.now.sets ∙ c.requires.domains in
    let whole = take_all c.loop-effect.effect-index items c.loop-effect-test.false ∙ c.as_slice-effect-items.ensures in
    record {
      effects = c.in_ok-effects.effects;
      stays = c.in_ok-effects.ensures.stays;
      covering = c.in_ok-effects.ensures.covering plain alike (none_out app plain);
      exact = c.in_ok-effects.ensures.exact plain alike;
      added = subst (λ (xs : List EffectCase). AreAllAdded app c.args.point plain xs c.args.rules.now c.loop-effect.rules) whole c.loop-effect.invariant.added;
    }
