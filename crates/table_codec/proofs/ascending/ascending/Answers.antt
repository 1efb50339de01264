use Rattle.std.proofs.{Common.{◌≡◌, List, sym, subst, rules}, lemmas.Result.{IfOk-weaker}}
use Rattle.std.specs.List.Sorted.{IsPermutation}
use Rattle.std.proofs.lemmas.List.Sorted.{ranks_by, answers_always}
use Rattle.abstract_state.proofs.OrderLaws.{order_total}
use Rattle.numbered_sets.specs.Pools.{values_at}
use Rattle.numbered_sets.proofs.ViewLaws.{values_of}
use Rattle.table_codec.specs.{declared.ascending.NumberedValue.{NumberedValue}, Ascending.{AreInOrder}}
use Rattle.table_codec.proofs.{AscendingValues.{number_less, sorted_in_order}, RankLaws.{numbered_once}}
use Rattle.table_codec.proofs.ascending.ascending.Goals as goal

pub of-requires : goal.of-requires
of-requires c =
    let all = c.sort_by.new.self.items in
    let moved = subst (λ (xs : List NumberedValue). IsPermutation xs all) c.in_ok-all.ensures c.in_ok-sort_by.ensures.permutation in
    numbered_once (values_at c.args.pool.now c.args.component) all moved

pub returns : goal.returns
returns c =
    let all = c.sort_by.new.self.items in
    let vs = values_at c.args.pool.now c.args.component in
    let moved = subst (λ (xs : List NumberedValue). IsPermutation xs all) c.in_ok-all.ensures c.in_ok-sort_by.ensures.permutation in
    let ordered = sorted_in_order vs all (values_of c.args.pool.now c.args.component c.are_values.ensures).distinct moved
    (c.in_ok-sort_by.ensures.sorted number_less (ranks_by order_total (λ (v : NumberedValue). v.value)) (answers_always _ _ _ (λ f a r q k. search rules))) in
    IfOk-weaker c.of.result (λ (ranked : List NumberedValue). ranked ≡ all) (AreInOrder vs) (λ ranked same. subst (AreInOrder vs) (sym same) ordered) c.of.ensures
