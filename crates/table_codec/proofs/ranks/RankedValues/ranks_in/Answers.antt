use Rattle.std.proofs.Common.{rules, ◌<◌, ◌+◌, ◌∙◌, length, sym, subst, arith, List}
use Rattle.std.proofs.lemmas.List.{get_or_default}
use Rattle.numbered_sets.specs.{Numbers.{Numbers}, SetLists.{set_of}}
use Rattle.table_codec.specs.{declared.ascending.NumberedValue.{NumberedValue}, Ranks.{IsRank, AreNumberedOnce, AreRanks}}
use Rattle.table_codec.proofs.RankLaws.{AreRankedUpTo, none_ranked, ranked_on, ranked_more, all_ranks_in}
use Rattle.table_codec.proofs.ranks.RankedValues.ranks_in.Goals as goal

pub loop-number-init : goal.loop-number-init
loop-number-init c =
    let x = set_of c.args.sets.now c.args.component in
    let all = c.args.self.now in
    let begun = subst (λ (y : Numbers). AreRankedUpTo x all 0 y 0) (sym c.new-ranks.ensures) (none_ranked x all c.domain.result) in (
      ranked_on x all 0 c.next-number.result c.new-ranks.result 0 (omega arith) c.next-number.ensures.none begun,
      c.next-number.ensures.few,
      c.next-number.ensures.has,
    )

pub overflow_add-count : goal.overflow_add-count
overflow_add-count c =
    let few : c.loop-number.count < c.len-end.result = omega (arith, c.loop-number.invariant.0.few, c.loop-number-test.true) in
    search (rules, few)

pub loop-number-preserved : goal.loop-number-preserved
loop-number-preserved c =
    let x = set_of c.args.sets.now c.args.component in
    let all = c.args.self.now in
    let number = c.loop-number.number in
    let once = subst AreNumberedOnce c.self.view_is c.self.invariant.0 in
    let ranks = c.self.inside.ranks.items in
    let placed = subst (λ (vs : List NumberedValue). AreRanks vs ranks) c.self.view_is c.self.invariant.1 in
    let known : number < length ranks = omega (arith, c.loop-number-test.true, c.len-end.ensures) in
    let is : IsRank all number c.index.result.now = subst (IsRank all number) (get_or_default ranks number 0 c.index.result.now known ∙ sym c.index.ensures) (placed.each number known) in
    let more = ranked_more x all once number c.index.result.now is c.loop-number.ranks c.loop-number.count (c.loop-number.invariant.2 c.loop-number-test.true) c.loop-number.invariant.0 in
    let put = subst (λ (y : Numbers). AreRankedUpTo x all (number + 1) y (c.loop-number.count + 1)) (sym c.in_ok-insert.ensures.set) more in (
      ranked_on x all (number + 1) c.next-number-in-loop-number.result c.insert.new.self (c.loop-number.count + 1) c.next-number-in-loop-number.ensures.up c.next-number-in-loop-number.ensures.none put,
      c.next-number-in-loop-number.ensures.few,
      c.next-number-in-loop-number.ensures.has,
    )

pub returns : goal.returns
returns c =
    let x = set_of c.args.sets.now c.args.component in
    let all = c.args.self.now in
    let once = subst AreNumberedOnce c.self.view_is c.self.invariant.0 in
    let ranks = c.self.inside.ranks.items in
    let placed = subst (λ (vs : List NumberedValue). AreRanks vs ranks) c.self.view_is c.self.invariant.1 in
    all_ranks_in x all once c.loop-number.number c.loop-number.ranks c.loop-number.count (omega (arith, c.loop-number-test.false, c.len-end.ensures, placed.as_many)) c.loop-number.invariant.0
