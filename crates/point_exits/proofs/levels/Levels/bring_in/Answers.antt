use Rattle.std.proofs.Common.{◌≡◌, ℕ, ◌<◌, ◌∙◌, length, get_or, set, refl, sym, ap, subst, arith}
use Rattle.std.proofs.lemmas.List.{length-set}
use Rattle.osek_values.specs.declared.numbers.TaskNo.{TaskNo}
use Rattle.numbered_sets.specs.Pools.{values_at}
use Rattle.numbered_sets.proofs.NumberingLaws.{longer_itself, longer_onward, as_long, same_domain}
use Rattle.point_exits.specs.{declared.insides.Insides.{Insides}, Levels.{AreInside, AreInsides}}
use Rattle.point_exits.proofs.{InsideLevels.{inside_within, insides_next, complete_next}, LevelLaws.{levels_longer, levels_beside}, EntryCounts.{pool_has_tasks, task_domain}, SettlingSteps.{task_listed}}
use Rattle.point_exits.proofs.levels.Levels.bring_in.Goals as goal

pub loop-place-init : goal.loop-place-init
loop-place-init c = record {
  longer = longer_itself c.args.pool.now;
  same = refl;
  kept = refl;
  size = refl;
  insides = c.requires.levels.insides;
  all = λ k d lt. absurd (omega (arith, lt));
}

pub renew-requires : goal.renew-requires
renew-requires c =
    let app = c.args.app.now in
    let first = c.args.pool.now in
    let pool = c.loop-place.pool in
    let inv = c.loop-place.invariant in
    let its = c.at_mut-insides.result.now in
    let lt : c.loop-place.place < length c.loop-place.self.insides = omega (arith, c.loop-place-test.true, c.len-place-end.ensures, inv.size) in
    let named = inv.insides.tasks.each its.task (task_listed c.loop-place.self.insides c.loop-place.place its lt c.at_mut-insides.ensures.item) in
    record {
      known = omega (arith, named.0, pool_has_tasks app first c.requires.domains, as_long first pool inv.longer);
      within = inside_within app pool its.task.0 (same_domain first pool its.task.0 inv.longer ∙ task_domain app first c.requires.domains its.task.0 named.0) named.1;
      insides = subst (λ (y : Insides). AreInside (values_at pool y.task.0) y) (c.at_mut-insides.ensures.item its) (inv.insides.each c.loop-place.place its lt);
    }

pub loop-place-preserved : goal.loop-place-preserved
loop-place-preserved c =
    let app = c.args.app.now in
    let inv = c.loop-place.invariant in
    let its = c.at_mut-insides.result.now in
    let pool = c.loop-place.pool in
    let after = c.renew.new.pool in
    let i = c.loop-place.place in
    let x = c.renew.new.self in
    let insides = c.loop-place.self.insides in
    let lt : i < length insides = omega (arith, c.loop-place-test.true, c.len-place-end.ensures, inv.size) in
    let task : (d : Insides) → x.task ≡ (get_or insides i d).task = λ d. c.renew.ensures.task ∙ ap (λ (y : Insides). y.task) (sym (c.at_mut-insides.ensures.item d)) in
    let inside : AreInside (values_at after x.task.0) x = subst (λ (t : TaskNo). AreInside (values_at after t.0) x) (sym c.renew.ensures.task) c.renew.ensures.insides in
    record {
      longer = longer_onward c.args.pool.now pool after inv.longer c.renew.ensures.pool;
      same = inv.same;
      kept = inv.kept;
      size = length-set insides i x ∙ inv.size;
      insides = insides_next pool after insides (set insides i x) i x lt refl app inv.insides c.renew.ensures.pool task inside;
      all = complete_next pool after insides (set insides i x) i x lt refl app inv.insides c.renew.ensures.pool task inside
          (c.in_ok-renew.ensures.all ∙ ap (λ (t : TaskNo). length (values_at after t.0)) (sym c.renew.ensures.task))
          (subst (λ (t : TaskNo). (k : ℕ) → (k ≡ t.0 → ⊥) → values_at after k ≡ values_at pool k) (sym c.renew.ensures.task) c.in_ok-renew.ensures.others) inv.all;
    }

pub returns-in_err-renew-clause-levels : goal.returns-in_err-renew-clause-levels
returns-in_err-renew-clause-levels c =
    let app = c.args.app.now in
    let inv = c.loop-place.invariant in
    let its = c.at_mut-insides.result.now in
    let pool = c.loop-place.pool in
    let after = c.renew.new.pool in
    let i = c.loop-place.place in
    let x = c.renew.new.self in
    let insides = c.loop-place.self.insides in
    let lt : i < length insides = omega (arith, c.loop-place-test.true, c.len-place-end.ensures, inv.size) in
    let task : (d : Insides) → x.task ≡ (get_or insides i d).task = λ d. c.renew.ensures.task ∙ ap (λ (y : Insides). y.task) (sym (c.at_mut-insides.ensures.item d)) in
    let inside : AreInside (values_at after x.task.0) x = subst (λ (t : TaskNo). AreInside (values_at after t.0) x) (sym c.renew.ensures.task) c.renew.ensures.insides in
    let now : AreInsides app after (set insides i x) = insides_next pool after insides (set insides i x) i x lt refl app inv.insides c.renew.ensures.pool task inside in
    levels_beside app after c.args.self.now (record { tasks = c.loop-place.self.tasks; insides = set insides i x; arrivals = c.loop-place.self.arrivals }) inv.same inv.kept now
    (levels_longer app c.args.pool.now after c.args.self.now (longer_onward c.args.pool.now pool after inv.longer c.renew.ensures.pool) c.requires.levels)

pub returns-clause-levels : goal.returns-clause-levels
returns-clause-levels c =
    let inv = c.loop-place.invariant in
    levels_beside c.args.app.now c.loop-place.pool c.args.self.now c.loop-place.self inv.same inv.kept inv.insides
    (levels_longer c.args.app.now c.args.pool.now c.loop-place.pool c.args.self.now inv.longer c.requires.levels)

pub returns-clause-all : goal.returns-clause-all
returns-clause-all c = λ k d lt. c.loop-place.invariant.all k d (omega (arith, lt, c.loop-place-test.false, c.len-place-end.ensures, c.loop-place.invariant.size))
