use Rattle.std.proofs.Common.{◌≢◌, ℕ, ◌<◌, List, length, get_or, subst}
use Rattle.std.specs.Prelude.{IfSome, IfNone}
use Rattle.numbered_sets.specs.{declared.loads.Load.{Load}, Slots.{no_load, IsLoadNumber}}
use Rattle.numbered_sets.proofs.LoadLaws.{found_load, absent_load, few_known}
use Rattle.numbered_sets.proofs.loads.Loads.find.Goals as goal

pub returns-clause-number : goal.returns-clause-number
returns-clause-number c =
    let found = c.get_index_of.result in
    subst (λ (loads : List Load). IfSome found (IsLoadNumber loads c.args.load.now)) c.self.view_is
    (found_load c.self.inside.seen.keys c.args.load.now found c.self.invariant.0 c.get_index_of.ensures.index)

pub returns-clause-none : goal.returns-clause-none
returns-clause-none c =
    let found = c.get_index_of.result in
    subst (λ (loads : List Load). IfNone found ((k : ℕ) → k < length loads → get_or loads k no_load ≢ c.args.load.now)) c.self.view_is
    (absent_load c.self.inside.seen.keys c.args.load.now found c.get_index_of.ensures.found)

pub returns-clause-few : goal.returns-clause-few
returns-clause-few c =
    let keys = c.self.inside.seen.keys in
    few_known keys c.args.load.now c.get_index_of.result c.self.invariant.1 (found_load keys c.args.load.now c.get_index_of.result c.self.invariant.0 c.get_index_of.ensures.index)
