use Rattle.std.proofs.Common.{◌≡◌, ◌≤◌, ◌-◌, length, take}
use Rattle.osek_io.specs.{Counts.{Same}, Files.{with_file}}
use Rattle.osek_io.proofs.storing.store.Given as goal

abbrev pub invariant-loop-added : goal.invariant-loop-added
invariant-loop-added g l =
    record {
      within : l.added ≤ length l.bytes;
      files : g.F.Shelf.contents l.shelf ≡ with_file (g.F.Shelf.contents l.fn.shelf) l.name (take l.added l.bytes);
      no_fault : g.F.Shelf.write_faults l.shelf ≡ g.F.Shelf.write_faults l.fn.shelf;
      reads : Same (g.F.Shelf.read_faults l.fn.shelf) (g.F.Shelf.read_faults l.shelf);
    }

abbrev pub decreases-loop-added : goal.decreases-loop-added
decreases-loop-added g l = length l.bytes - l.added
