use Rattle.std.proofs.{Common.{ℕ, ◌≡◌, ◌+◌, ◌*◌, ap, subst, arith}, Math.Nat.{add-mul}}
use Rattle.std.specs.Prelude.{IfSome}
use Rattle.numbered_sets.specs.Slots.{UsedSlots, IsNumberOfSlot}
use Rattle.numbered_sets.proofs.slots.Slots.find_behind.Goals as goal

pub returns-then-offset-width-2 : goal.returns-then-offset-width-2
returns-then-offset-width-2 c =
    let now = c.args.self.now in
    let wide : now.width ≡ c.args.offset + 1 = omega (arith, ap (λ (x : UsedSlots). x.width) c.self.view_is, c.if-offset-width-2.true) in
    let same : (c.args.row + 1) * now.width + 0 ≡ 1 + c.args.row * now.width + c.args.offset = omega (arith, add-mul c.args.row 1 now.width, wide) in
    subst (λ (s : ℕ). IfSome c.find_in.result (IsNumberOfSlot now.used s)) same c.find_in.ensures.number

pub returns : goal.returns
returns c =
    let now = c.args.self.now in
    let same : c.args.row * now.width + (c.args.offset + 1) ≡ 1 + c.args.row * now.width + c.args.offset = omega arith in
    subst (λ (s : ℕ). IfSome c.find_in-2.result (IsNumberOfSlot now.used s)) same c.find_in-2.ensures.number
