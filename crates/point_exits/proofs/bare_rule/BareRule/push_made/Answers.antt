use Rattle.std.proofs.Common.{◌≡◌, ℕ, ◌++◌, ◌∷◌, [], get_or, refl, sym, ap, subst, ◌∙◌, arith, IsTrue}
use Rattle.abstract_state.specs.{Domains.{IsWithin}, Tables.{is_member}}
use Rattle.flow_model.specs.Tests.{value_after}
use Rattle.numbered_sets.specs.{Numbers.{Numbers}, NumberedEntries.{no_set, numbers_at}, Pools.{values_at, domain_at}, Views.{plain_set}}
use Rattle.numbered_sets.proofs.NumberingLaws.{longer_itself}
use Rattle.point_exits.specs.{Applying.{IsPassedSet}, Changing.{making, IsAlone}}
use Rattle.point_exits.proofs.{ArrivingGroups.{one_change, is_alone, made_within, end_is}, BlockLaws.{pool_has}, NumbersPassing.{alike_there, known_there}}
use Rattle.point_exits.proofs.bare_rule.BareRule.push_made.Goals as goal

pub at-requires : goal.at-requires
at-requires c = omega (arith, one_change c.args.self.now.rule.now c.args.self.now.bare)

pub set-requires : goal.set-requires
set-requires c =
    let x = c.at.result.now in
    let lt = c.args.self.now.known x (c.at.ensures.item x) in
    omega (arith, lt, c.index-component.ensures)

pub updated-requires-clause-alone : goal.updated-requires-clause-alone
updated-requires-clause-alone c =
    let x = c.at.result.now in
    subst (λ (j : ℕ). IsAlone c.args.self.now.rule.now.changes j 0) (sym c.index-component.ensures)
    (is_alone c.args.self.now.rule.now c.args.self.now.bare c.args.pool.now c.args.self.now.entry.now c.requires.numbers c.args.self.now.filled x (c.at.ensures.item x))

pub updated-requires-clause-set : goal.updated-requires-clause-set
updated-requires-clause-set c =
    let rule = c.args.self.now.rule.now in
    let pool = c.args.pool.now in
    let entry = c.args.self.now.entry.now in
    let x = c.at.result.now in
    let at = c.at.ensures.item x in
    let index : c.index-component.result ≡ x.component.0 = c.index-component.ensures in
    record {
      known = pool_has pool entry x.component.0 c.index-component.result c.requires.numbers (c.args.self.now.known x at) index;
      alike = alike_there pool pool entry c.index-component.result c.in_ok-numbers.numbers c.requires.numbers (longer_itself pool) (sym c.in_ok-numbers.ensures);
      listed = known_there pool pool entry c.index-component.result c.in_ok-numbers.numbers c.requires.numbers (longer_itself pool) (sym c.in_ok-numbers.ensures);
      within = λ v m.
          (let there = subst (λ (j : ℕ). IsTrue (is_member (plain_set (values_at pool j) (get_or entry.sets j no_set)) v)) index
          (subst (λ (s : Numbers). IsTrue (is_member (plain_set (values_at pool c.index-component.result) s) v)) c.in_ok-numbers.ensures m) in
          subst (λ (j : ℕ). IsWithin (domain_at pool j) (value_after rule.changes j v)) (sym index)
          ((made_within rule c.args.self.now.bare pool entry c.requires.numbers c.args.self.now.filled c.requires.kept).each x v at (c.args.self.now.known x at) refl there));
    }

pub returns-clause-added : goal.returns-clause-added
returns-clause-added c =
    let rule = c.args.self.now.rule.now in
    let pool = c.args.pool.now in
    let entry = c.args.self.now.entry.now in
    let after = c.updated.new.pool in
    let made = c.in_ok-made.made in
    let x = c.at.result.now in
    let at = c.at.ensures.item x in
    let index : c.index-component.result ≡ x.component.0 = c.index-component.ensures in
    let passed : IsPassedSet (making rule.changes) pool x.component.0 (numbers_at entry x.component.0) after made =
    subst (λ (j : ℕ). IsPassedSet (making rule.changes) pool j (get_or entry.sets j no_set) after made) index
    (subst (λ (o : Numbers). IsPassedSet (making rule.changes) pool c.index-component.result o after made) c.in_ok-numbers.ensures c.in_ok-made.ensures.passed) in
    record {
      end = record { component = x.component.0; numbers = made; target = rule.target };
      added = c.in_ok-push.ensures.ok ∙ ap (λ (j : ℕ). c.args.shared.now ++ (record { component = j; numbers = made; target = rule.target }) ∷ []) index;
      is = end_is rule c.args.self.now.bare pool entry c.requires.numbers c.args.self.now.filled x at (c.args.self.now.known x at) after c.in_ok-made.ensures.pool made passed;
    }
