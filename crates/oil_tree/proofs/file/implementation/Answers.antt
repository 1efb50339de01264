use Rattle.std.proofs.Common.{◌∙◌}
use Rattle.oil_tree.proofs.FileRead.{reads_impl, reads_no_impl}
use Rattle.oil_tree.proofs.file.implementation.Goals as goal

pub returns-in_ok-rest-in-Implementation-4 : goal.returns-in_ok-rest-in-Implementation-4
returns-in_ok-rest-in-Implementation-4 c =
    let word = c.in_ok-word.ensures in
    let brace = c.in_ok-rest-in-Implementation-2.ensures in
    reads_impl _ _ _ _ _ _ _ _ _ _ _ word.1 (word.2 ∙ c.in-Implementation.is) c.in_ok-rest-in-Implementation.ensures brace.1 c.in_ok-rest-in-Implementation-3.ensures c.in_ok-rest-in-Implementation-4.ensures

pub returns-in_default : goal.returns-in_default
returns-in_default c =
    let word = c.in_ok-word.ensures in
    rw c.copy.ensures (reads_no_impl _ _ _ _ _ word.1 word.2 c.in_default.not-Implementation)
