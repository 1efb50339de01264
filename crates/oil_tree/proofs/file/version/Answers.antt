use Rattle.std.proofs.Common.{◌∙◌}
use Rattle.oil_tree.proofs.FileRead.{reads_version, reads_no_version}
use Rattle.oil_tree.proofs.file.version.Goals as goal

pub returns-in_ok-rest-in-Version-3 : goal.returns-in_ok-rest-in-Version-3
returns-in_ok-rest-in-Version-3 c =
    let word = c.in_ok-word.ensures in
    let equals = c.in_ok-rest-in-Version.ensures in
    let text = c.in_ok-rest-in-Version-2.ensures in
    reads_version _ _ _ _ _ _ _ _ _ _ word.1 (word.2 ∙ c.in-Version.is) equals.1 text.2 c.in_ok-rest-in-Version-3.ensures

pub returns-in_default : goal.returns-in_default
returns-in_default c =
    let word = c.in_ok-word.ensures in
    rw c.copy.ensures (reads_no_version _ _ _ _ _ word.1 word.2 c.in_default.not-Version)
