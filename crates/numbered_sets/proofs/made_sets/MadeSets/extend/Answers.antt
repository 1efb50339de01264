use Rattle.std.proofs.Common.{◌≡◌, sym, ap, subst, ◌∙◌}
use Rattle.numbered_sets.specs.declared.made_sets.MadeSet.{MadeSet}
use Rattle.numbered_sets.specs.{Keeping.{IsMadeSet, made_set, with_further}, Numbers.{Numbers, joined_numbers}}
use Rattle.numbered_sets.proofs.KeptLaws.{kept_put}
use Rattle.numbered_sets.proofs.made_sets.MadeSets.extend.Goals as goal

pub returns : goal.returns
returns c = λ none vs h k.
    let sets = c.args.self.now.sets in
    let was = c.at_mut-kept.result.now in
    let given = c.args.given.now in
    let now : MadeSet = made_set was.place was.update c.join.new.self c.join-2.new.self in
    let same : now ≡ with_further was given c.args.made.now =
    ap (λ (x : Numbers). made_set was.place was.update x c.join-2.new.self) c.in_ok-join.ensures.set
    ∙ ap (λ (x : Numbers). made_set was.place was.update (joined_numbers was.given given) x) c.in_ok-join-2.ensures.set in
    kept_put vs sets c.args.at now h
    (subst (IsMadeSet vs) (sym same) (subst (λ (y : MadeSet). IsMadeSet vs (with_further y given c.args.made.now)) (c.at_mut-kept.ensures.item none) k))
