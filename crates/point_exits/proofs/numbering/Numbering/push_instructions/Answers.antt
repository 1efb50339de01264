use Rattle.std.proofs.Common.{◌≡◌, ◌∙◌, Bool, List, sym, subst}
use Rattle.osek_standard.specs.declared.app.App.{App}
use Rattle.abstract_state.specs.Domains.{domains, domains_of}
use Rattle.numbered_sets.specs.Views.{plain_entry}
use Rattle.numbered_sets.proofs.ViewLaws.{same_domains}
use Rattle.flow_effects.specs.{Outs.{AreOutIn}, Alternatives.{all_cases}, KnownWaits.{AreOfTheirWait}}
use Rattle.flow_effects.proofs.KeptConditions.{have_case}
use Rattle.point_exits.proofs.{EffectDomains.{effect_keeps_domains}, AlternativeCases.{own_values}}
use Rattle.point_exits.proofs.numbering.Numbering.push_instructions.Goals as goal

pub effects_at-requires-clause-known : goal.effects_at-requires-clause-known
effects_at-requires-clause-known c = c.args.self.now.conditions

pub invariant_of-self : goal.invariant_of-self
invariant_of-self c = record { domains = c.args.self.now.domains; known = c.args.self.now.known; conditions = c.effects_at.ensures.known }

pub push_effects-requires-clause-effects : goal.push_effects-requires-clause-effects
push_effects-requires-clause-effects c =
    let app = c.args.self.now.app.now in
    let p = c.args.point in
    let entry = c.args.before.now in
    let plain = plain_entry c.args.self.now.pool entry in
    let effects = c.in_ok-effects.effects in
    let at = c.requires.at in
    let alike : domains plain ≡ domains_of app = same_domains c.args.self.now.pool 0 entry.sets ∙ (at.numbers.domains ∙ c.args.self.now.domains) in
    record {
      numbers = at.numbers;
      filled = at.filled;
      own = own_values app p plain alike at.allowed;
      stays = c.in_ok-effects.ensures.stays;
      apart = c.in_ok-effects.ensures.apart;
      kept = λ x listed. effect_keeps_domains app p plain (all_cases effects) x alike listed (c.in_ok-effects.ensures.exact plain alike at.allowed);
    }

pub keep-requires : goal.keep-requires
keep-requires c = have_case c.args.self.now.app.now c.in_ok-effects.effects c.in_ok-effects.ensures.wait

pub invariant_of-self-2 : goal.invariant_of-self-2
invariant_of-self-2 c =
    let after = c.push_effects.new.self in
    record {
      domains = after.domains;
      known = after.known;
      conditions = c.keep.ensures after.app.now after.conditions (subst (λ (app : App). AreOfTheirWait app c.in_ok-effects.effects) (sym c.push_effects.ensures.grown.app) c.in_ok-effects.ensures.wait);
    }

pub returns-clause-added : goal.returns-clause-added
returns-clause-added c =
    let app = c.args.self.now.app.now in
    let entry = c.args.before.now in
    let plain = plain_entry c.args.self.now.pool entry in
    let effects = c.in_ok-effects.effects in
    let alike : domains plain ≡ domains_of app = same_domains c.args.self.now.pool 0 entry.sets ∙ (c.requires.at.numbers.domains ∙ c.args.self.now.domains) in
    record {
      effects = all_cases effects;
      stays = c.in_ok-effects.ensures.stays;
      covering = c.in_ok-effects.ensures.covering plain alike (subst (λ (xs : List Bool). AreOutIn app xs plain) (sym c.as_slice.ensures) c.in_ok-outs.ensures);
      exact = c.in_ok-effects.ensures.exact plain alike;
      added = c.in_ok-push_effects.ensures.added;
    }
