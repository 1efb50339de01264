use Rattle.std.proofs.Common.{◌≡◌, ◌++◌, ◌∷◌, [], List, set, refl, sym, ap, ap₂, subst, ◌∙◌}
use Rattle.abstract_state.specs.{declared.value.PartValue.{PartValue}, Domains.{IsWithin}}
use Rattle.flow_model.specs.{declared.change.Change.{Change}, Tests.{value_after}}
use Rattle.numbered_sets.specs.{Numbers.{Numbers}, Pools.{values_at, seen_at, value_seen, domain_at, IsNumberOf, IsLonger}}
use Rattle.numbered_sets.proofs.{MadeLaws.{one_value}, ViewLaws.{longer_with}}
use Rattle.point_exits.specs.{Applying.{IsPassedSoFar}, Changing.{making}}
use Rattle.point_exits.proofs.NumbersPassing.{passed_more}
use Rattle.point_exits.proofs.changes.put_updated.Goals as goal

pub number-requires-clause-within : goal.number-requires-clause-within
number-requires-clause-within c =
    subst (IsWithin (domain_at c.args.pool.now c.args.component))
    (sym (c.value_after-after.ensures ∙ ap (λ (xs : List Change). value_after xs c.args.component c.value-before.result) c.as_slice.ensures)) (c.requires.within c.value-before.result c.value-before.ensures)

pub returns-in_err-put-clause-pool : goal.returns-in_err-put-clause-pool
returns-in_err-put-clause-pool c = subst (IsLonger c.args.pool.now) (sym c.in_ok-made.ensures.pool) (longer_with c.args.pool.now c.args.component c.value_after-after.result c.requires.known)

pub returns-clause-pool : goal.returns-clause-pool
returns-clause-pool c = subst (IsLonger c.args.pool.now) (sym c.in_ok-made.ensures.pool) (longer_with c.args.pool.now c.args.component c.value_after-after.result c.requires.known)

pub returns-clause-passed : goal.returns-clause-passed
returns-clause-passed c = λ before d done v is h.
    let rule = making c.args.changes.now in
    let pool = c.args.pool.now in
    let place = c.args.component in
    let xs = c.args.changes.now in
    let made : c.value_after-after.result ≡ value_after xs place v =
    (c.value_after-after.ensures ∙ ap₂ (λ (ys : List Change) (w : PartValue). value_after ys place w) c.as_slice.ensures (one_value (values_at pool place) c.value-before.result v c.args.number c.value-before.ensures is)) in
    subst (λ (x : Numbers). IsPassedSoFar rule before place d (done ++ v ∷ []) c.number.new.self x) (sym c.in_ok-put.ensures.set)
    (passed_more rule before place d done pool c.args.new.now v c.in_ok-made.made c.number.new.self h c.requires.known
    (c.in_ok-made.ensures.pool ∙ ap (λ (w : PartValue). set pool place (value_seen (seen_at pool place) w)) made)
    (subst (λ (w : PartValue). IsNumberOf (values_at c.number.new.self place) w c.in_ok-made.made) made c.in_ok-made.ensures.number) refl)
