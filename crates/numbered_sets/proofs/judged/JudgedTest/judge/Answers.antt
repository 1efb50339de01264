use Rattle.std.proofs.Common.{sym, ap, ◌∙◌}
use Rattle.flow_model.specs.Tests.{passes}
use Rattle.numbered_sets.proofs.UnmovedLaws.{passes_beside}
use Rattle.numbered_sets.proofs.judged.JudgedTest.judge.Goals as goal

pub returns-then-reads_no_block : goal.returns-then-reads_no_block
returns-then-reads_no_block c =
    let test = c.args.self.now.test in
    let sample = c.in-Some.sample in
    λ w its. passes_beside c.args.seen.now.values test c.has.result sample c.args.number w c.in-Some.ensures.known (sym c.reads_no_block.ensures ∙ c.if-reads_no_block.true) c.in-Some.ensures.beside
    (λ v is. c.has.ensures ∙ c.requires.judged.each sample v c.if-sample-self.true ∙ ap (passes test) (is.is v)) its

pub returns : goal.returns
returns c = λ v is. c.passes.ensures ∙ ap (passes c.args.self.now.test) (sym (c.value.ensures.is v) ∙ is.is v)
