-- The tables of parts that are no application yet.
use Rattle.osek_standard.specs.Tables.{Tables, tabled}
use Rattle.image_codec.specs.declared.parts.Parts.{Parts}

abbrev pub tables_of_parts : Parts → Tables
tables_of_parts p = tabled p.hooks p.tables.tasks p.tables.isrs p.tables.counters p.tables.alarms p.tables.resources p.tables.modes p.blocks
