-- What is told of a shelf that was read without a fault is what was told before.
use Rattle.std.proofs.Common.{◌≡◌, ℕ, ◌≤◌, ◌∙◌, subst}
use Rattle.osek_io.specs.{Counts.{Same}, Reads.{OnlyReads}, declared.shelf.Shelf.{Ghosts as ShelfGhosts}}
use Rattle.command_runs.specs.Outside.{Told, told}

module _ {F : Type 0} (g : ShelfGhosts F) (old mid : F) (only : OnlyReads g old mid) (same : Same (g.read_faults old) (g.read_faults mid)) where
  still_told : told g mid ≡ told g old
  still_told = (λ j. record { files = only.files j; reads = λ name at. same name at j; writes = only.writes j })

  -- what is true from then on was true before
  pub earlier : (P : Told → Type 0) → P (told g mid) → P (told g old)
  earlier P p = subst P still_told p

  pub then_reads : (new : F) → OnlyReads g mid new → OnlyReads g old new
  then_reads new more = record { files = more.files ∙ only.files; writes = more.writes ∙ only.writes; reads = λ name at. subst (λ (n : ℕ). n ≤ g.read_faults new name at) (same name at) (more.reads name at) }

  pub then_same : (new : F) → Same (g.read_faults mid) (g.read_faults new) → Same (g.read_faults old) (g.read_faults new)
  then_same new more = λ name at. more name at ∙ same name at
