use Rattle.std.proofs.Common.{◌∙◌}
use Rattle.osek_values.specs.Numbers.{source_no}
use Rattle.abstract_state.specs.declared.value.Component.TheVariants as component
use Rattle.abstract_state.proofs.RangeLaws.{mapped_more}
use Rattle.abstract_state.proofs.numbering.push_sources.Goals as goal

pub loop-source-preserved : goal.loop-source-preserved
loop-source-preserved c = c.in_ok-push.ensures.ok ∙ mapped_more c.args.all.now c.loop-source.all (λ k. component.Source (source_no k)) c.loop-source.source c.loop-source.invariant
