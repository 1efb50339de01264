-- one more is out
use Rattle.std.proofs.{Common.{◌<◌, length, map, ◌∙◌, ap, arith}, Math.ListN.{length-map, length-set}, lemmas.List.{get_or-map}}
use Rattle.osek_standard.specs.declared.state.Source.TheVariants as source
use Rattle.osek_standard.proofs.CopyLaws.{copied_more}
use Rattle.generic_kernel.proofs.effects.put_all_out.Goals as goal

pub loop-index-preserved : goal.loop-index-preserved
loop-index-preserved c =
    let d = c.args.sources.now in
    let i = c.loop-index.index in
    let out = map (λ _. source.Out) d in
    let below : i < length d = omega (arith, c.loop-index-test.true, c.loop-index.auto.index-end, c.len-index-end.ensures) in
    record {
      prefix =
          c.put.ensures ∙ copied_more d out c.loop-index.sources i source.Out source.Out below
          (omega (arith, below, length-map d (λ _. source.Out))) c.loop-index.invariant.prefix (get_or-map (λ _. source.Out) d i source.Out source.Out below);
      size = ap (λ l. length l) c.put.ensures ∙ length-set c.loop-index.sources i source.Out ∙ c.loop-index.invariant.size;
    }
