-- the latch of the source is cleared
use Rattle.std.proofs.Common.{◌≡◌, false, slice_set, rules}
use Rattle.generic_kernel.proofs.arrivals.enter.Goals as goal

pub returns : goal.returns
returns c =
    let cleared : c.put.new.self ≡ slice_set c.args.state.now.latched c.index.result false = c.put.ensures in
    search rules
