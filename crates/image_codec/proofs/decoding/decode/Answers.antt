use Rattle.std.proofs.Common.{◌∙◌, refl, sym, ap, arith}
use Rattle.image_codec.specs.ImageReading.{all_at}
use Rattle.image_codec.proofs.{PartsLaws.{all_takes}, ValidOfGood.{valid_parts, alone_parts, fits_parts, sites_parts}}
use Rattle.image_codec.proofs.{DecodeLaws.{its_spelling, its_reading, its_fault}, GoodOfValid.{only_image, no_image}}
use Rattle.image_codec.proofs.decoding.decode.Goals as goal

pub invariant_of-app : goal.invariant_of-app
invariant_of-app c =
    let good = (all_takes c.args.bytes.now c.in-Ok.parts _ (λ i. omega (arith, c.type_inv.bytes i)) (ap all_at (sym c.new-reader.ensures) ∙ c.in-Ok.ensures)).good in
    record { valid = valid_parts c.in-Ok.parts good }

pub invariant_of-result : goal.invariant_of-result
invariant_of-result c =
    let good = (all_takes c.args.bytes.now c.in-Ok.parts _ (λ i. omega (arith, c.type_inv.bytes i)) (ap all_at (sym c.new-reader.ensures) ∙ c.in-Ok.ensures)).good in
    record { its_version = alone_parts c.in-Ok.parts good _ refl; valid = sites_parts c.in-Ok.parts good _ refl refl }

pub returns-in-Ok-clause-spelled : goal.returns-in-Ok-clause-spelled
returns-in-Ok-clause-spelled c = its_spelling c.args.bytes.now _ _ (λ i. omega (arith, c.type_inv.bytes i)) (ap all_at (sym c.new-reader.ensures) ∙ c.in-Ok.ensures)

pub returns-in-Ok-clause-fits : goal.returns-in-Ok-clause-fits
returns-in-Ok-clause-fits c =
    let good = (all_takes c.args.bytes.now c.in-Ok.parts _ (λ i. omega (arith, c.type_inv.bytes i)) (ap all_at (sym c.new-reader.ensures) ∙ c.in-Ok.ensures)).good in
    fits_parts c.in-Ok.parts good

pub returns-in-Ok-clause-complete : goal.returns-in-Ok-clause-complete
returns-in-Ok-clause-complete c = only_image c.args.bytes.now _ _ (ap all_at (sym c.new-reader.ensures) ∙ c.in-Ok.ensures)

pub returns-in-Ok-clause-first : goal.returns-in-Ok-clause-first
returns-in-Ok-clause-first c = its_reading c.args.bytes.now c.in-Ok.parts _ (ap all_at (sym c.new-reader.ensures) ∙ c.in-Ok.ensures)

pub returns-in-Err-Fault-clause-complete : goal.returns-in-Err-Fault-clause-complete
returns-in-Err-Fault-clause-complete c = no_image c.args.bytes.now c.in-Err-Fault.fault (ap all_at (sym c.new-reader.ensures) ∙ (rw c.in-Err-Fault.field-0-is at c.in-Err-Fault.ensures))

pub returns-in-Err-Fault-clause-first : goal.returns-in-Err-Fault-clause-first
returns-in-Err-Fault-clause-first c =
    its_fault c.args.bytes.now c.in-Err-Fault.fault c.saturating_sub.result (ap all_at (sym c.new-reader.ensures) ∙ (rw c.in-Err-Fault.field-0-is at c.in-Err-Fault.ensures)) c.saturating_sub.ensures
