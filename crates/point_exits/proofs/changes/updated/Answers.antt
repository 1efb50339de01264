use Rattle.std.proofs.Common.{◌≡◌, ℕ, ◌∙◌, ap, subst}
use Rattle.std.specs.{Prelude.{IfSome}, declared.option.Option.{Option}}
use Rattle.std.proofs.lemmas.Result.{IfOk-weaker}
use Rattle.abstract_state.specs.{declared.value.PartValue.{PartValue}, Domains.{IsWithin}}
use Rattle.flow_model.specs.{declared.change.Update.{Update}, Tests.{updated, value_after}}
use Rattle.numbered_sets.specs.Pools.{values_at, domain_at}
use Rattle.point_exits.specs.Changing.{IsAlone}
use Rattle.point_exits.proofs.MadeSets.{number_is_member, made_passed}
use Rattle.point_exits.proofs.changes.updated.Goals as goal

pub replaced-requires : goal.replaced-requires
replaced-requires c =
    let xs = c.args.changes.now in
    let k = c.args.component in
    let alone : IsAlone xs k c.in-Some.place = subst (λ (o : Option ℕ). IfSome o (IsAlone xs k)) c.in-Some.is c.requires.alone in
    let x = c.at.result.now in
    let sets : (v : PartValue) → value_after xs k v ≡ c.in-Set.to = λ v. alone.becomes x v (c.at.ensures.item x) ∙ ap (λ (u : Update). updated u v) c.in-Set.is in
    let set = c.requires.set in
    record {
      known = set.known;
      alike = set.alike;
      listed = set.listed;
      within = λ v m. subst (IsWithin (domain_at c.args.pool.now k)) (sets v) (set.within v m);
    }

pub returns-in-Set-clause-passed : goal.returns-in-Set-clause-passed
returns-in-Set-clause-passed c =
    let xs = c.args.changes.now in
    let k = c.args.component in
    let alone : IsAlone xs k c.in-Some.place = subst (λ (o : Option ℕ). IfSome o (IsAlone xs k)) c.in-Some.is c.requires.alone in
    let x = c.at.result.now in
    IfOk-weaker c.replaced.result _ _ (λ set passed. passed xs (λ v. alone.becomes x v (c.at.ensures.item x) ∙ ap (λ (u : Update). updated u v) c.in-Set.is)) c.replaced.ensures.passed

pub numbers_after-requires-clause-within : goal.numbers_after-requires-clause-within
numbers_after-requires-clause-within c = λ n v there is.
    let xs = c.args.changes.now in
    let k = c.args.component in
    let alone : IsAlone xs k c.in-Some.place = subst (λ (o : Option ℕ). IfSome o (IsAlone xs k)) c.in-Some.is c.requires.alone in
    subst (IsWithin (domain_at c.args.pool.now k)) (alone.becomes c.at.result.now v (c.at.ensures.item c.at.result.now))
    (c.requires.set.within v (number_is_member (values_at c.args.pool.now k) c.args.numbers.now n v is there))

pub returns-in_default-update : goal.returns-in_default-update
returns-in_default-update c =
    let xs = c.args.changes.now in
    let k = c.args.component in
    let alone : IsAlone xs k c.in-Some.place = subst (λ (o : Option ℕ). IfSome o (IsAlone xs k)) c.in-Some.is c.requires.alone in
    record {
      pool = c.numbers_after.ensures.pool;
      passed =
          IfOk-weaker c.numbers_after.result _ _
          (λ new made. made_passed xs c.at.result.now.update c.args.pool.now c.numbers_after.new.self k c.args.numbers.now new (λ v. alone.becomes c.at.result.now v (c.at.ensures.item c.at.result.now)) c.numbers_after.ensures.pool made)
          c.numbers_after.ensures.made;
    }
