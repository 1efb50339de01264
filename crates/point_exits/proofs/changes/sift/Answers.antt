use Rattle.std.proofs.{Common.{◌≡◌, ◌<◌, ◌+◌, ℕ, ◌++◌, ◌∷◌, [], List, length, get_or, take, drop, sym, ap, subst, ◌∙◌, arith}, lemmas.Bool.{OnTrue_at, OnFalse_at}}
use Rattle.std.proofs.lemmas.List.{take_more, take_all, take-append-drop}
use Rattle.flow_model.specs.declared.test.Condition.{Condition}
use Rattle.numbered_sets.specs.{declared.numbered_entry.NumberedEntry.{NumberedEntry}, Pools.{Values}}
use Rattle.point_exits.specs.Sifting.{AreSifted, LeavesNone}
use Rattle.point_exits.proofs.SiftedSets.{sifted_more, none_left, leaves_more}
use Rattle.point_exits.proofs.changes.sift.Goals as goal

-- the conditions up to the next one
more : (pool : List Values) (all : List Condition) (k : ℕ) (x : Condition) (before now after : NumberedEntry) → k < length all → get_or all k x ≡ x → AreSifted pool (take k all) before now → AreSifted pool (x ∷ []) now after
    → AreSifted pool (take (k + 1) all) before after
more pool all k x before now after lt is h next =
    subst (λ (xs : List Condition). AreSifted pool xs before after) (sym (take_more all k x lt ∙ ap (λ (y : Condition). take k all ++ y ∷ []) is)) (sifted_more pool (take k all) x before now after h next)

pub returns-then-not-branch-clause-none : goal.returns-then-not-branch-clause-none
returns-then-not-branch-clause-none c =
    let pool = c.args.pool.now in
    let all = c.args.conditions.now in
    let k = c.loop-condition.condition-index in
    let x = c.condition-item.result in
    let sifted : AreSifted pool (x ∷ []) c.loop-condition.entry c.keep_passing.new.entry =
    subst (λ (p : List Values). AreSifted p (x ∷ []) c.loop-condition.entry c.keep_passing.new.entry) c.loop-condition.invariant.pool c.in_ok-keep_passing.ensures.sifted in
    let so_far = more pool all k x c.args.entry.now c.loop-condition.entry c.keep_passing.new.entry c.loop-condition-test.true (sym c.condition-item.is) c.loop-condition.invariant.sifted sifted in
    subst (λ (xs : List Condition). LeavesNone pool xs c.args.entry.now) (take-append-drop (k + 1) all)
    (leaves_more pool (take (k + 1) all) (drop (k + 1) all) c.args.entry.now (none_left pool (take (k + 1) all) c.args.entry.now c.keep_passing.new.entry so_far
    (OnFalse_at c.if-not-branch.true c.in_ok-keep_passing.ensures.none)))

pub loop-condition-preserved : goal.loop-condition-preserved
loop-condition-preserved c =
    let pool = c.args.pool.now in
    let all = c.args.conditions.now in
    let k = c.loop-condition.condition-index in
    let x = c.condition-item.result in
    let inv = c.loop-condition.invariant in
    let sifted : AreSifted pool (x ∷ []) c.loop-condition.entry c.keep_passing.new.entry =
    subst (λ (p : List Values). AreSifted p (x ∷ []) c.loop-condition.entry c.keep_passing.new.entry) inv.pool c.in_ok-keep_passing.ensures.sifted in
    record {
      sifted = more pool all k x c.args.entry.now c.loop-condition.entry c.keep_passing.new.entry c.loop-condition-test.true (sym c.condition-item.is) inv.sifted sifted;
      alike = c.in_ok-keep_passing.ensures.alike ∙ inv.alike;
      pool = c.keep_passing.ensures.same ∙ inv.pool;
      filled = OnTrue_at c.if-not-branch.false c.in_ok-keep_passing.ensures.filled inv.filled;
    }

pub returns-clause-sifted : goal.returns-clause-sifted
returns-clause-sifted c =
    let all = c.args.conditions.now in
    subst (λ (xs : List Condition). AreSifted c.args.pool.now xs c.args.entry.now c.loop-condition.entry)
    (take_all c.loop-condition.condition-index all (omega (arith, c.loop-condition-test.false))) c.loop-condition.invariant.sifted
