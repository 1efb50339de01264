-- another site in place of one
use Rattle.std.proofs.Common.{Some, slice_set, sym, subst, ◌∙◌}
use Rattle.image_model.specs.{declared.{image.Version.{Version}, site.Site.{Site}}, Sites.{AreSites}, Versions.{FitsAlone}}
use Rattle.image_run.proofs.SiteForms.{with_site}
use Rattle.kernel_cases.proofs.machines.with_site.Goals as goal

pub invariant_of-image : goal.invariant_of-image
invariant_of-image c =
    let i = c.args.image in
    let site : Site = record { form = c.args.form; known = c.args.known } in
    record {
      its_version = subst (FitsAlone i.version i.app) (sym c.put.ensures)
          (subst (λ (v : Version). FitsAlone v i.app (slice_set i.sites 0 (Some site))) (sym c.requires.version) tt);
      valid = subst (AreSites i.app) (sym c.put.ensures)
          (with_site i 0 c.in-Some._site site c.requires.blocks (sym c.site_at.ensures.site ∙ c.in-Some.is) (c.requires.form _));
    }
