use Rattle.std.proofs.Common.{◌≤◌, ◌^◌, List, length, sym, ap, subst, arith}
use Rattle.numbered_sets.specs.{declared.loads.Load.{Load}, LoadUpdates.{IsNumberAfter}}
use Rattle.numbered_sets.proofs.loads.Loads.note.Goals as goal

pub note-requires : goal.note-requires
note-requires c =
    let few : length c.args.self.now ≤ 2 ^ 32 = omega (arith, c.self.invariant.1, ap length c.self.view_is) in
    record { load = omega (arith, c.requires.known, few); after = omega (arith, c.requires.there, few) }

pub invariant_of-self : goal.invariant_of-self
invariant_of-self c =
    let keys = c.self.inside.seen.keys in
    let new : IsNumberAfter keys c.args.update.now c.args.load c.args.after = subst (λ (loads : List Load). IsNumberAfter loads c.args.update.now c.args.load c.args.after) (sym c.self.view_is) c.requires in
    (c.self.invariant.0, c.self.invariant.1, c.note.ensures keys c.self.invariant.2 new)

pub invariant_of-self-2 : goal.invariant_of-self-2
invariant_of-self-2 c =
    let keys = c.self.inside.seen.keys in
    let new : IsNumberAfter keys c.args.update.now c.args.load c.args.after = subst (λ (loads : List Load). IsNumberAfter loads c.args.update.now c.args.load c.args.after) (sym c.self.view_is) c.requires in
    (c.self.invariant.0, c.self.invariant.1, c.note.ensures keys c.self.invariant.2 new)
