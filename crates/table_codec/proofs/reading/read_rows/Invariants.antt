use Rattle.std.proofs.Common.{◌≡◌, length}
use Rattle.abstract_state.specs.{Components.{component_count}, Domains.{domains_of}}
use Rattle.numbered_sets.specs.{Pools.{pool_domains}, PlainTables.{plain_rows, AreRowsOf}}
use Rattle.table_codec.proofs.{KeptNumbers.{AreKeptByLast}, RowsSoFar.{AreRowsSoFar}}
use Rattle.table_codec.proofs.reading.read_rows.Given as goal

abbrev pub invariant-loop-place : goal.invariant-loop-place
invariant-loop-place l = record {
  known : AreRowsOf l.pool l.rows;
  domains : pool_domains l.pool ≡ domains_of l.app;
  rows : AreRowsSoFar l.app l.fn.reader l.place (plain_rows l.pool l.rows) l.reader;
  many : length l.kept ≡ component_count l.app;
  kept : AreKeptByLast l.app l.pool l.rows l.kept;
}
