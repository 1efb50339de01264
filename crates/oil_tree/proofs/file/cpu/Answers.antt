use Rattle.std.proofs.Common.{◌∙◌}
use Rattle.oil_tree.proofs.FileRead.{reads_cpu}
use Rattle.oil_tree.proofs.file.cpu.Goals as goal

pub returns-in_ok-rest-in-Cpu-3 : goal.returns-in_ok-rest-in-Cpu-3
returns-in_ok-rest-in-Cpu-3 c =
    let word = c.in_ok-word.ensures in
    let brace = c.in_ok-rest-in-Cpu-2.ensures in
    reads_cpu _ _ _ _ _ _ _ _ _ _ _ _ word.1 (word.2 ∙ c.in-Cpu.is) c.in_ok-rest-in-Cpu.ensures brace.1 c.in_ok-objects-in-Cpu.ensures c.in_ok-rest-in-Cpu-3.ensures
