use Rattle.std.proofs.Common.{◌≡◌, ◌<◌, ℕ, List, ◌∷◌, [], ◌∙◌, length, set, refl, sym, ap, subst, arith}
use Rattle.std.proofs.lemmas.List.{length-append, Elements.{All-get_or}}
use Rattle.abstract_state.specs.{declared.value.{Domain.{Domain}, PartValue.{PartValue}}, Domains.{IsWithin}}
use Rattle.abstract_state.specs.declared.value.Domain.TheVariants as domain
use Rattle.flow_model.specs.declared.change.Update.TheVariants as update
use Rattle.flow_model.specs.Tests.{updated}
use Rattle.numbered_sets.specs.Pools.{Values, no_values, AreValues, seen_at, value_seen, values_at, domain_at, IsNumberOf, IsLonger}
use Rattle.numbered_sets.proofs.{NumberingLaws.{as_long, longer_onward, same_domain}, ViewLaws.{longer_with}}
use Rattle.point_exits.specs.{declared.insides.Insides.{Insides}, Levels.{AreInside}}
use Rattle.point_exits.proofs.InsideLevels.{AreBroughtIn, inside_longer, none_brought, brought_next, value_within}
use Rattle.point_exits.proofs.insides.Insides.bring_in.Goals as goal

-- how many values of the task there are
its_length : (n : ℕ) (pool : List Values) (t k : ℕ) → k ≡ t → n ≡ length (values_at pool k) → n ≡ length (values_at pool t)
its_length n pool t k same e = e ∙ ap (λ (i : ℕ). length (values_at pool i)) same

pub loop-number-init : goal.loop-number-init
loop-number-init c =
    let pool = c.args.pool.now in
    let x = c.args.self.now in
    let t = x.task.0 in
    let values : AreValues (seen_at pool t) = All-get_or AreValues pool t (no_values domain.Alarm) c.requires.known c.are_values.ensures in
    record {
      brought = subst (λ k. AreBroughtIn pool k c.len-came.result pool x) (sym c.index-component.ensures)
          (subst (λ n. AreBroughtIn pool t n pool x) (sym (its_length c.len-came.result pool t c.index-component.result c.index-component.ensures c.len-came.ensures)) (none_brought pool t x values c.requires.insides));
      count = sym c.len-number.ensures;
      task = refl;
    }

-- what becomes of the value is of the domain
pub number-requires-clause-within : goal.number-requires-clause-within
number-requires-clause-within c =
    let pool = c.loop-number.pool in
    let k = c.index-component.result in
    let v = c.value.result in
    let inv = c.loop-number.invariant in
    let is : domain_at pool k ≡ domain_at c.args.pool.now c.args.self.now.task.0 = same_domain c.args.pool.now pool k inv.brought.longer ∙ ap (domain_at c.args.pool.now) c.index-component.ensures in
    let own = subst (λ (d : Domain). IsWithin d v) is (value_within (domain_at pool k) (values_at pool k) v c.loop-number.number inv.brought.values c.value.ensures) in
    subst (IsWithin (domain_at pool k)) (sym c.of-inside.ensures) (subst (λ (d : Domain). IsWithin d (updated update.Inside v)) (sym is) (c.requires.within v own))

pub loop-number-preserved : goal.loop-number-preserved
loop-number-preserved c =
    let before = c.args.pool.now in
    let pool = c.loop-number.pool in
    let after = c.number.new.self in
    let k = c.index-component.result in
    let x = c.loop-number.self in
    let v = c.value.result in
    let m = c.in_ok-found.found in
    let inv = c.loop-number.invariant in
    let y : Insides = record { task = x.task; numbers = c.push.new.self } in
    let lt : k < length pool = omega (arith, c.requires.known, c.index-component.ensures, as_long before pool inv.brought.longer) in
    let domain : domain_at pool k ≡ domain_at before c.args.self.now.task.0 = same_domain before pool k inv.brought.longer ∙ ap (domain_at before) c.index-component.ensures in
    let own = subst (λ (d : Domain). IsWithin d v) domain (value_within (domain_at pool k) (values_at pool k) v c.loop-number.number inv.brought.values c.value.ensures) in
    record {
      brought = brought_next before pool after k c.len-came.result x y v m inv.brought lt
          (subst (IsNumberOf (values_at pool k) v) (sym inv.count) c.value.ensures)
          (subst (λ (d : Domain). IsWithin d (updated update.Inside v)) (sym domain) (c.requires.within v own))
          (c.in_ok-found.ensures.pool ∙ ap (λ (u : PartValue). set pool k (value_seen (seen_at pool k) u)) c.of-inside.ensures)
          (subst (λ (u : PartValue). IsNumberOf (values_at after k) u m) c.of-inside.ensures c.in_ok-found.ensures.number)
          c.in_ok-push.ensures.ok;
      count = omega (arith, ap length c.in_ok-push.ensures.ok, length-append x.numbers (m ∷ []), inv.count);
      task = inv.task;
    }

pub returns-in_err-push-clause-pool : goal.returns-in_err-push-clause-pool
returns-in_err-push-clause-pool c =
    let before = c.args.pool.now in
    let pool = c.loop-number.pool in
    let k = c.index-component.result in
    let inv = c.loop-number.invariant in
    let lt : k < length pool = omega (arith, c.requires.known, c.index-component.ensures, as_long before pool inv.brought.longer) in
    longer_onward before pool c.number.new.self inv.brought.longer (subst (IsLonger pool) (sym c.in_ok-found.ensures.pool) (longer_with pool k c.of-inside.result lt))

pub returns-in_err-found-clause-insides : goal.returns-in_err-found-clause-insides
returns-in_err-found-clause-insides c =
    let t = c.args.self.now.task.0 in
    let x = c.loop-number.self in
    subst (λ (q : List Values). AreInside (values_at q t) x) (sym c.in_err-found.ensures.err)
    (subst (λ k. AreInside (values_at c.loop-number.pool k) x) c.index-component.ensures c.loop-number.invariant.brought.inside)

pub returns-in_err-push-clause-insides : goal.returns-in_err-push-clause-insides
returns-in_err-push-clause-insides c =
    let pool = c.loop-number.pool in
    let after = c.number.new.self in
    let k = c.index-component.result in
    let t = c.args.self.now.task.0 in
    let x = c.loop-number.self in
    let inv = c.loop-number.invariant in
    let lt : k < length pool = omega (arith, c.requires.known, c.index-component.ensures, as_long c.args.pool.now pool inv.brought.longer) in
    let longer : IsLonger pool after = subst (IsLonger pool) (sym c.in_ok-found.ensures.pool) (longer_with pool k c.of-inside.result lt) in
    let before : AreInside (values_at pool t) x = subst (λ i. AreInside (values_at pool i) x) c.index-component.ensures inv.brought.inside in
    subst (λ (ns : List ℕ). AreInside (values_at after t) (record x { numbers = ns })) (sym c.in_err-push.ensures.err) (inside_longer (values_at pool t) (values_at after t) x (longer.values t) before)

pub returns-clause-insides : goal.returns-clause-insides
returns-clause-insides c = subst (λ k. AreInside (values_at c.loop-number.pool k) c.loop-number.self) c.index-component.ensures c.loop-number.invariant.brought.inside

pub returns-clause-first : goal.returns-clause-first
returns-clause-first c =
    let size = its_length c.len-came.result c.args.pool.now c.args.self.now.task.0 c.index-component.result c.index-component.ensures c.len-came.ensures in
    omega (arith, size, c.loop-number.invariant.count, c.loop-number-test.false, c.loop-number.auto.number-end)

pub returns-clause-rest : goal.returns-clause-rest
returns-clause-rest c = λ n v past is.
    let size = its_length c.len-came.result c.args.pool.now c.args.self.now.task.0 c.index-component.result c.index-component.ensures c.len-came.ensures in
    c.loop-number.invariant.brought.rest n v (omega (arith, past, size)) (subst (λ k. IsNumberOf (values_at c.loop-number.pool k) v n) (sym c.index-component.ensures) is)
