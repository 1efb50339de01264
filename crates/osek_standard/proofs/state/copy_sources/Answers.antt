use Rattle.std.proofs.{Common.{length, ◌∙◌, sym, ap, arith, ◌<◌}, Math.ListN.{length-set}}
use Rattle.osek_standard.specs.declared.state.Source.TheVariants as source
use Rattle.osek_standard.proofs.CopyLaws.{copied_more}
use Rattle.osek_standard.proofs.state.copy_sources.Goals as goal

pub loop-source-preserved : goal.loop-source-preserved
loop-source-preserved c =
    let i = c.loop-source.source in
    let below : i < length c.args.from.now = omega (arith, c.loop-source-test.true, c.loop-source.auto.source-end, c.len-source-end.ensures) in
    let same = c.at.ensures.item source.Out ∙ sym c.copy.ensures in
    record {
      prefix =
          c.put.ensures ∙ copied_more c.args.to.now c.args.from.now c.loop-source.to i c.copy.result source.Out
          (omega (arith, below, c.requires)) below c.loop-source.invariant.prefix same;
      size = ap (λ l. length l) c.put.ensures ∙ length-set c.loop-source.to i c.copy.result ∙ c.loop-source.invariant.size;
    }
