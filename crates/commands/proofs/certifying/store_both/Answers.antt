-- the files as the two writes left them
use Rattle.std.proofs.Common.{ℕ, refl, subst, ◌∙◌}
use Rattle.osek_io.specs.{Counts.{Rose}, Files.{with_file}}
use Rattle.command_runs.proofs.StoredFiles.{stored_all, stored_prefix}
use Rattle.commands.specs.Certifying.{image_fails, table_fails, stored}
use Rattle.commands.proofs.certifying.store_both.Goals as goal

pub returns-in-Err-Write : goal.returns-in-Err-Write
returns-in-Err-Write g c =
    image_fails c.in-Err-Write.ensures.cause (stored_prefix _ _ _ c.args.image.now c.deref.result.now c.args.bytes.now.image.items refl c.deref.ensures.value c.in-Err-Write.ensures.prefix)

pub returns-in-Ok-store : goal.returns-in-Ok-store
returns-in-Ok-store g c =
    stored (c.in-Ok-store.ensures.no_fault ∙ c.in-Ok.ensures.no_fault)
    (stored_all (with_file (g.F.Shelf.contents c.args.shelf.now) c.args.image.now c.args.bytes.now.image.items) _ _ c.args.table.now c.deref-2.result.now c.args.bytes.now.table.items
    (stored_all _ _ _ c.args.image.now c.deref.result.now c.args.bytes.now.image.items refl c.deref.ensures.value c.in-Ok.ensures.ok) c.deref-2.ensures.value c.in-Ok-store.ensures.ok)

pub returns-in-Err-Write-store : goal.returns-in-Err-Write-store
returns-in-Err-Write-store g c =
    table_fails (subst (λ (n : ℕ). Rose n (g.F.Shelf.write_faults c.store-2.new.shelf)) c.in-Ok.ensures.no_fault c.in-Err-Write-store.ensures.cause)
    (stored_prefix (with_file (g.F.Shelf.contents c.args.shelf.now) c.args.image.now c.args.bytes.now.image.items) _ _ c.args.table.now c.deref-2.result.now c.args.bytes.now.table.items
    (stored_all _ _ _ c.args.image.now c.deref.result.now c.args.bytes.now.image.items refl c.deref.ensures.value c.in-Ok.ensures.ok) c.deref-2.ensures.value c.in-Err-Write-store.ensures.prefix)
