-- of the hooks only the one of a shutdown is told
use Rattle.std.proofs.Common.{◌≡◌, bit_and, rules}
use Rattle.osek_values.specs.declared.hooks.HookSet.{HookSet}
use Rattle.generic_kernel.proofs.effects.shut_down.Goals as goal

pub returns : goal.returns
returns c =
    let told : HookSet = record { 0 = bit_and c.args.app.now.hooks.0 2 } in
    let only : c.among.result ≡ told = c.among.ensures in
    search rules
