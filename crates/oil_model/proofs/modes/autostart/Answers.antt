-- every mode, where none is named
use Rattle.std.proofs.Common.{◌≡◌, ◌-◌, ◌^◌, length, true, false, sym, ap, ◌∙◌}
use Rattle.std.specs.Prelude.{codes, if◌then◌else◌}
use Rattle.oil_model.specs.{LookUp.{has}, Objects.{is_started, start}, Systems.{mode_bits}}
use Rattle.oil_model.proofs.modes.autostart.Goals as goal

pub returns-else-has : goal.returns-else-has
returns-else-has c =
    let started : is_started c.args.attrs.now ≡ true = sym c.is_started.ensures ∙ c.if-is_started.true in
    let unnamed : has (codes "APPMODE") (start c.args.attrs.now) ≡ false = sym (c.has.ensures ∙ ap (has (codes "APPMODE")) c.start-inside.ensures) ∙ c.if-has.false in
    c.all_bits.ensures ∙ sym (λ i. if started i then (if unnamed i then mode_bits 0 c.args.modes.now (start c.args.attrs.now) else 2 ^ length c.args.modes.now - 1) else 0)
