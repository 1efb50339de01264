use Rattle.std.proofs.Common.{List, length, get_or, sym, ap, subst, arith}
use Rattle.numbered_sets.specs.{declared.loads.Load.{Load}, Slots.{IsLoadNumber}}
use Rattle.numbered_sets.proofs.LoadLaws.{load_numbered_at}
use Rattle.numbered_sets.proofs.loads.Loads.at.Goals as goal

pub returns : goal.returns
returns c =
    let keys = c.self.inside.seen.keys in
    let n = c.args.number in
    let key = c.index-as_slice-number.result in
    let number = load_numbered_at keys n key c.self.invariant.0 (omega (arith, c.requires, ap length c.self.view_is)) in
    subst (λ (x : Load). IsLoadNumber c.args.self.now x n) (sym c.index-as_slice-number.is)
    (subst (λ (ks : List Load). IsLoadNumber c.args.self.now (get_or ks n key) n) (sym c.as_slice.ensures.keys)
    (subst (λ (loads : List Load). IsLoadNumber loads (get_or keys n key) n) c.self.view_is number))
