use Rattle.std.proofs.Common.{◌≡◌, List, [], ◌∷◌, map, refl, sym, ap, subst, ◌∙◌}
use Rattle.std.specs.Prelude.{Contains}
use Rattle.abstract_state.specs.{declared.{value.Domain.{Domain}, table.PlainEntry.{PlainEntry}}, Domains.{domains}}
use Rattle.flow_model.specs.{declared.rule.Rule.{Rule}, Effects.{AreAllAllowed}}
use Rattle.numbered_sets.specs.{Pools.{no_values, pool_domains}, Views.{plain_entry}}
use Rattle.numbered_sets.proofs.{ViewLaws.{same_view, still_known, same_domains}, NumberingLaws.{longer_onward}}
use Rattle.point_exits.specs.Applying.{KeepsDomains}
use Rattle.point_exits.proofs.KeptDomains.{exact_keep}
use Rattle.flow_cases.proofs.rules_at_points.outcomes.Goals as goal

domains_kept : (ds : List Domain) → pool_domains (map no_values ds) ≡ ds
domains_kept [] = refl
domains_kept (d ∷ ds) = ap (λ (es : List Domain). d ∷ es) (domains_kept ds)

pub numbered-requires-clause-domains : goal.numbered-requires-clause-domains
numbered-requires-clause-domains c =
    sym c.in_ok-domains.ensures ∙ sym c.as_slice.ensures.value ∙ sym (domains_kept c.as_slice.result.now) ∙ ap pool_domains (sym c.in_ok-pool.ensures)

pub rules-requires-clause-domains : goal.rules-requires-clause-domains
rules-requires-clause-domains c =
    sym (same_domains c.numbered.new.pool 0 c.in_ok-entry.entry.sets) ∙ ap domains c.in_ok-entry.ensures.plain ∙ c.requires.row.domains

pub apply-requires-clause-numbers : goal.apply-requires-clause-numbers
apply-requires-clause-numbers c = still_known c.numbered.new.pool c.loop-rule.pool c.in_ok-entry.entry c.loop-rule.invariant c.in_ok-entry.ensures.numbers

pub apply-requires-clause-domains : goal.apply-requires-clause-domains
apply-requires-clause-domains c =
    let app = c.args.app.now in
    let point = c.args.row.now.point in
    let pool = c.numbered.new.pool in
    let entry = c.in_ok-entry.entry in
    let rule = c.rule-item.result in
    let plain = c.in_ok-entry.ensures.plain in
    let exact = c.in_ok-found.ensures.exact (subst (λ (e : PlainEntry). AreAllAllowed app point e) (sym plain) c.requires.allowed) in
    let among : Contains c.as_slice-rule-items.result.now rule = (c.loop-rule.rule-index, c.loop-rule-test.true, sym c.rule-item.is) in
    let listed = subst (λ (rules : List Rule). Contains rules rule) c.as_slice-rule-items.ensures among in
    let kept = exact_keep app point (plain_entry pool entry) c.in_ok-found.found rule (ap domains plain ∙ c.requires.row.domains) listed exact in
    subst (KeepsDomains rule) (sym (same_view pool c.loop-rule.pool entry c.loop-rule.invariant c.in_ok-entry.ensures.numbers)) kept

pub loop-rule-preserved : goal.loop-rule-preserved
loop-rule-preserved c = longer_onward c.numbered.new.pool c.loop-rule.pool c.apply.new.pool c.loop-rule.invariant c.in_ok-new.ensures.pool
