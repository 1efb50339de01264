use Rattle.std.proofs.Common.{◌≡◌, drop}
use Rattle.std.specs.Hash as fed
use Rattle.std.specs.List.{fold, flat_map}
use Rattle.osek_values.specs.declared.numbers.ResNo.{ResNo}
use Rattle.numbered_sets.proofs.loads.LoadHash.hash.Given as goal

-- what was fed and what is left is the whole
abbrev pub invariant-loop-resource : goal.invariant-loop-resource
invariant-loop-resource g l =
    fold g.H.Hasher.write l.state (flat_map (λ (r : ResNo). fed.u8 r.0) (drop l.resource-index l.resource-items))
    ≡ fold g.H.Hasher.write l.initial.state (flat_map (λ (r : ResNo). fed.u8 r.0) l.resource-items)
