use Rattle.std.proofs.{Common.{◌≡◌, ℕ, ◌+◌, ◌<◌, ◌≤◌, false, length, get_or, sym, ap, subst, ◌∙◌, arith, IsTrue}, lemmas.List.{get_or_default}}
use Rattle.osek_values.specs.declared.numbers.BlockNo.{BlockNo}
use Rattle.abstract_state.specs.declared.value.{ComponentNo.{ComponentNo}, Domain.{Domain}, PartValue.TheVariants.{OfEvent}}
use Rattle.flow_model.specs.Runners.{component_of, runner_point}
use Rattle.numbered_sets.specs.{Numbers.{has_number}, NumberedEntries.{numbers_at}, Pools.{values_at, IsNumberOf}}
use Rattle.point_exits.specs.Deciding.{HaveNumbersOf, AreBlockEnds}
use Rattle.point_exits.proofs.BlockLaws.{pool_has, no_blocks, more_blocks, all_blocks}
use Rattle.point_exits.proofs.group.at_blocks.Goals.{in-Event, in-Task2}
use Rattle.point_exits.proofs.group.at_blocks.Goals as goal

pub len-count-requires : goal.len-count-requires
len-count-requires c =
    pool_has c.args.pool.now c.args.entry.now (component_of c.args.runner) c.index-component.result c.requires.numbers c.requires.known (c.index-component.ensures ∙ ap (λ (z : ComponentNo). z.0) c.component.ensures)

pub block-block-requires-clause-known : goal.block-block-requires-clause-known
block-block-requires-clause-known c =
    pool_has c.args.pool.now c.args.entry.now (component_of c.args.runner) c.index-component.result c.requires.numbers c.requires.known (c.index-component.ensures ∙ ap (λ (z : ComponentNo). z.0) c.component.ensures)

pub loop-number-init : goal.loop-number-init
loop-number-init c =
    let entry = c.args.entry.now in
    let r = c.args.runner in
    let next = c.advance-number.ensures.number 0 (omega arith) c.cursor-cursor.ensures in
    let k = c.advance-number.result in
    let is : c.index-component.result ≡ component_of r = c.index-component.ensures ∙ ap (λ (z : ComponentNo). z.0) c.component.ensures in
    record {
      ends = no_blocks c.args.pool.now entry r k c.in_ok-ends.ends.items c.in_ok-ends.ensures.items
          (subst (λ (i : ℕ). (n : ℕ) → 0 ≤ n → n < k → has_number (numbers_at entry i) n ≡ false) is next.none);
      few = next.few;
      has = subst (λ (i : ℕ). k < c.len-count.result → IsTrue (has_number (numbers_at entry i) k)) is next.has;
      cursor = λ lt. c.advance-number.ensures.behind lt 0 c.cursor-cursor.ensures;
    }

pub loop-number-smaller : goal.loop-number-smaller
loop-number-smaller c =
    let m = c.loop-number.number in
    let next = c.advance-number-in-loop-number.ensures.number (m + 1) (omega (arith, c.loop-number-test.true)) (c.loop-number.invariant.cursor c.loop-number-test.true) in
    omega (arith, c.loop-number-test.true, next.up)

pub loop-number-preserved : goal.loop-number-preserved
loop-number-preserved c =
    let entry = c.args.entry.now in
    let pool = c.args.pool.now in
    let r = c.args.runner in
    let inv = c.loop-number.invariant in
    let m = c.loop-number.number in
    let k = c.advance-number-in-loop-number.result in
    let xs = c.loop-number.ends.items in
    let ys = c.put_number.new.ends.items in
    let behind = inv.cursor c.loop-number-test.true in
    let next = c.advance-number-in-loop-number.ensures.number (m + 1) (omega (arith, c.loop-number-test.true)) behind in
    let is : c.index-component.result ≡ component_of r = c.index-component.ensures ∙ ap (λ (z : ComponentNo). z.0) c.component.ensures in
    let same : c.match-domain.domain ≡ c.domain-domain.result = elim c.match-domain.branch [ in-Event w ↦ w.domain-is | in-Task2 w ↦ w.domain-is ∙ w.in-Task.domain-is ] in
    let keeps : HaveNumbersOf (component_of r) (numbers_at entry (component_of r)).domain xs → HaveNumbersOf (component_of r) (numbers_at entry (component_of r)).domain ys =
    subst (λ (i : ℕ). HaveNumbersOf i (numbers_at entry i).domain xs → HaveNumbersOf i (numbers_at entry i).domain ys) is
    (subst (λ (d : Domain). HaveNumbersOf c.index-component.result d xs → HaveNumbersOf c.index-component.result d ys) (same ∙ c.domain-domain.ensures) c.in_ok-put_number.ensures.some) in
    let value = get_or (values_at pool c.index-component.result) m (OfEvent false) in
    let known : m < length (values_at pool c.index-component.result) = omega (arith, c.loop-number-test.true, c.len-count.ensures) in
    let here : IsNumberOf (values_at pool c.index-component.result) value m = record { known = known; is = λ d. get_or_default (values_at pool c.index-component.result) m d (OfEvent false) known } in
    let there : IsNumberOf (values_at pool (component_of r)) value m = subst (λ (i : ℕ). IsNumberOf (values_at pool i) value m) is here in
    let goes = c.at.ensures ∙ ap (λ (b : BlockNo). runner_point r b) (c.block-block.ensures value here) in
    record {
      ends = more_blocks pool entry r m k xs ys c.at.result value c.in_ok-put_number.ensures.put (inv.has c.loop-number-test.true) there goes
          (subst (λ (i : ℕ). (n : ℕ) → m + 1 ≤ n → n < k → has_number (numbers_at entry i) n ≡ false) is next.none) inv.ends keeps;
      few = next.few;
      has = subst (λ (i : ℕ). k < c.len-count.result → IsTrue (has_number (numbers_at entry i) k)) is next.has;
      cursor = λ lt. c.advance-number-in-loop-number.ensures.behind lt (m + 1) behind;
    }

pub returns : goal.returns
returns c =
    let pool = c.args.pool.now in
    let entry = c.args.entry.now in
    let r = c.args.runner in
    let is : c.index-component.result ≡ component_of r = c.index-component.ensures ∙ ap (λ (z : ComponentNo). z.0) c.component.ensures in
    let all : length (values_at pool (component_of r)) ≤ c.loop-number.number =
    subst (λ (i : ℕ). length (values_at pool i) ≤ c.loop-number.number) is (omega (arith, c.loop-number-test.false, c.len-count.ensures)) in
    subst (AreBlockEnds pool entry r) (sym c.of.ensures) (all_blocks pool entry r c.loop-number.number c.loop-number.ends.items all c.requires.numbers c.loop-number.invariant.ends)
