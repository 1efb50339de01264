use Rattle.std.proofs.Common.{◌≡◌, ◌<◌, ◌+◌, ◌++◌, ◌∙◌, ℕ, List, get_or, length, sym, ap, subst, arith}
use Rattle.std.specs.List.{flat_map, AllByRecursion}
use Rattle.std.proofs.lemmas.List.{length-map, Elements.{recursion_from_All}}
use Rattle.abstract_state.specs.declared.value.PartValue.{PartValue}
use Rattle.numbered_sets.specs.Numbers.{has_number}
use Rattle.table_codec.specs.{declared.ascending.NumberedValue.{NumberedValue}, Ranks.{only_values, values_ranked}, Spelling.{value_bytes}, Writing.{CanBeWritten}}
use Rattle.table_codec.proofs.{RankedWriting.{values_left, all_left, left_on, one_left, one_put}, WriteLaws.{put_on}}
use Rattle.table_codec.proofs.writing.put_values.Goals as goal

pub loop-rank-init : goal.loop-rank-init
loop-rank-init c =
    let all = c.args.values.now in
    let has = has_number c.args.ranks.now in
    let out = c.args.out.now.items in
    let few = c.next-rank.ensures.few in
    let from : values_left (only_values all) has c.next-rank.result ≡ values_ranked c.args.ranks.now all
    = left_on (only_values all) has 0 c.next-rank.result (omega arith) (omega (arith, few, length-map all (λ (v : NumberedValue). v.value))) c.next-rank.ensures.none ∙ all_left (only_values all) has in
    record {
      are = ap (λ (vs : List PartValue). out ++ flat_map value_bytes vs) from;
      written = subst (AllByRecursion CanBeWritten) (sym from) (recursion_from_All CanBeWritten (values_ranked c.args.ranks.now all) c.requires);
      few = few;
      there = c.next-rank.ensures.has;
    }

pub put_value-requires : goal.put_value-requires
put_value-requires c =
    let all = c.args.values.now in
    let has = has_number c.args.ranks.now in
    let rank = c.loop-rank.rank in
    let one = one_left all has rank c.index-values-rank.result (omega (arith, c.loop-rank-test.true)) (c.loop-rank.invariant.there c.loop-rank-test.true) in
    (subst (AllByRecursion CanBeWritten) one c.loop-rank.invariant.written).0.few

pub loop-rank-preserved : goal.loop-rank-preserved
loop-rank-preserved c =
    let all = c.args.values.now in
    let has = has_number c.args.ranks.now in
    let rank = c.loop-rank.rank in
    let v = c.index-values-rank.result in
    let out = c.loop-rank.out.items in
    let after = c.put_value.new.out.items in
    let next = c.next-rank-in-loop-rank.result in
    let whole = c.args.out.now.items ++ flat_map value_bytes (values_ranked c.args.ranks.now all) in
    let known : rank < length all = omega (arith, c.loop-rank-test.true) in
    let there = c.loop-rank.invariant.there c.loop-rank-test.true in
    let left = values_left (only_values all) has (rank + 1) in
    let put : after ++ flat_map value_bytes left ≡ whole
    = put_on out (value_bytes (get_or all rank v).value) (flat_map value_bytes left) whole after (ap (λ (l : List ℕ). out ++ l) (sym (one_put all has rank v known there)) ∙ c.loop-rank.invariant.are) c.in_ok-put_value.ensures in
    let on : values_left (only_values all) has next ≡ left
    = left_on (only_values all) has (rank + 1) next c.next-rank-in-loop-rank.ensures.up (omega (arith, c.next-rank-in-loop-rank.ensures.few, length-map all (λ (w : NumberedValue). w.value))) c.next-rank-in-loop-rank.ensures.none in
    record {
      are = ap (λ (vs : List PartValue). after ++ flat_map value_bytes vs) on ∙ put;
      written = subst (AllByRecursion CanBeWritten) (sym on) (subst (AllByRecursion CanBeWritten) (one_left all has rank v known there) c.loop-rank.invariant.written).1;
      few = c.next-rank-in-loop-rank.ensures.few;
      there = c.next-rank-in-loop-rank.ensures.has;
    }
