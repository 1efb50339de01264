-- the files are as they were, or both were stored, as far as no write failed
use Rattle.std.proofs.Common.{List, ℕ, Err, ap, inl, subst}
use Rattle.std.specs.declared.result.Result.{Result}
use Rattle.osek_standard.specs.declared.app.App.{App}
use Rattle.image_codec.specs.Spelling.{spelling}
use Rattle.table_codec.specs.declared.fault.WriteFault.{WriteFault}
use Rattle.command_runs.specs.{Inputs.{no_memory}, Outside.{Told, told}, declared.stop.Stop.{Stop}}
use Rattle.command_runs.proofs.FaultlessReads.{earlier}
use Rattle.commands.specs.Certifying.{SpellCertified, IsTableTooLong, StoreAnswers, StoresCertified, stops, too_long, stores}
use Rattle.commands.proofs.Compiles.{over_app}
use Rattle.commands.proofs.certifying.certify.Goals as goal

-- what was stored are the bytes of an image and of a table
certified_stored : (before after : Told) (image table : List ℕ) (app : App) (a b : List ℕ) (r : Result (Unit {0}) Stop) → SpellCertified app a b → StoreAnswers before after image table a b r →
    StoresCertified before after image table r app
certified_stored before after image table app a b r made writes =
    let of_image = subst (λ (x : List ℕ). StoreAnswers before after image table x b r) made.image_are writes in
    (made.image, made.table, made.certified, subst (λ (y : List ℕ). StoreAnswers before after image table (spelling made.image) y r) made.table_are of_image)

pub returns-in-Err : goal.returns-in-Err
returns-in-Err g c = record { answer = λ out. stops c.in-Err.stop c.in-Err.ensures.stop (c.in-Err.ensures.same.files, c.in-Err.ensures.same.writes) }

pub returns-in-Ok-certified_bytes : goal.returns-in-Ok-certified_bytes
returns-in-Ok-certified_bytes g c =
    let before = told g.F.Shelf c.args.shelf.now in
    let after = told g.F.Shelf c.store_both.new.shelf in
    let image_bytes = c.in-Ok-certified_bytes.bytes.image.items in
    let table_bytes = c.in-Ok-certified_bytes.bytes.table.items in
    let r = c.store_both.result in
    let writes : StoreAnswers before after c.args.image.now c.args.table.now image_bytes table_bytes r =
    earlier g.F.Shelf c.args.shelf.now c.compile.new.shelf c.in-Ok.ensures.same c.in-Ok.ensures.no_fault (λ (t : Told). StoreAnswers t after c.args.image.now c.args.table.now image_bytes table_bytes r) c.store_both.ensures in
    let made = certified_stored before after c.args.image.now c.args.table.now c.in-Ok.app image_bytes table_bytes r c.in-Ok-certified_bytes.ensures.bytes writes in
    record { answer = λ out. stores r (over_app (g.F.Shelf.contents c.args.shelf.now) c.args.oil.now c.args.code.now (StoresCertified before after c.args.image.now c.args.table.now r) c.in-Ok.app made c.in-Ok.ensures.app) }

pub returns-in-Err-TooLong : goal.returns-in-Err-TooLong
returns-in-Err-TooLong g c =
    let long : IsTableTooLong c.in-Ok.app = c.in-Err-TooLong.ensures.too_long (ap (λ (e : WriteFault). Err e) c.in-Err-TooLong.field-0-is) in
    record { answer = λ out. too_long (over_app (g.F.Shelf.contents c.args.shelf.now) c.args.oil.now c.args.code.now IsTableTooLong c.in-Ok.app long c.in-Ok.ensures.app) (c.in-Ok.ensures.same.files, c.in-Ok.ensures.same.writes) }

pub returns-in-Err-Memory : goal.returns-in-Err-Memory
returns-in-Err-Memory g c = record { answer = λ out. stops _ (inl no_memory) (c.in-Ok.ensures.same.files, c.in-Ok.ensures.same.writes) }
