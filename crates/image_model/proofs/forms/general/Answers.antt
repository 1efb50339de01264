use Rattle.std.proofs.Common.{◌∙◌, ◌++◌, ◌∷◌, [], ap, Option}
use Rattle.image_model.specs.declared.site.Site.{Site}
use Rattle.image_model.proofs.GeneralSites.{one_more}
use Rattle.image_model.proofs.forms.general.Goals as goal

pub loop-block-preserved : goal.loop-block-preserved
loop-block-preserved c =
    one_more c.args.app c.loop-block.block c.loop-block.sites.items c.push.new.self.items c.loop-block.invariant
    (c.in_ok-push.ensures.items ∙ ap (λ (x : Option Site). c.loop-block.sites.items ++ x ∷ []) c.general_site.ensures)
