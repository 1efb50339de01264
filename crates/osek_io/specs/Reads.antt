-- What a call leaves of a shelf that it only reads.
use Rattle.std.specs.Prelude.{◌≡◌}
use Rattle.osek_io.specs.{Counts.{NeverFall}, declared.shelf.Shelf.{Ghosts}}

pub record OnlyReads {S : Type 0} (g : Ghosts S) (old new : S) : Type 0 where
  pub files : g.contents new ≡ g.contents old
  pub writes : g.write_faults new ≡ g.write_faults old
  pub reads : NeverFall (g.read_faults old) (g.read_faults new)
