-- A rule makes of values what its conditions and changes say alone.
use Rattle.std.proofs.Common.{List}
use Rattle.abstract_state.specs.declared.table.PlainEntry.{PlainEntry}
use Rattle.flow_model.specs.{declared.rule.Rule.{Rule}, Rules.{Applies, HasNone}}
use Rattle.numbered_sets.specs.{declared.numbered_entry.NumberedEntry.{NumberedEntry}, Pools.{Values}, Views.{plain_entry}}
use Rattle.point_exits.specs.Applying.{KeepsDomains, MayApply, bare_rule}

module _ (rule : Rule) where
  abbrev bare : Rule
  bare = bare_rule rule.conditions rule.changes

  pub bare_applies : (entry new : PlainEntry) → Applies bare entry new → Applies rule entry new
  bare_applies entry new h = record {
    domains = h.domains;
    ascending = h.ascending;
    from = λ c v lt m. (let x = h.from c v lt m in record { taken = record { was = x.taken.was; there = x.taken.there; passes = x.taken.passes }; becomes = x.becomes });
    to = h.to;
    filled = λ c lt. (let t = h.filled c lt in record { was = t.was; there = t.there; passes = t.passes });
  }

  pub bare_none : (entry : PlainEntry) → HasNone bare entry → HasNone rule entry
  bare_none entry h = record { component = h.component; known = h.known; none = h.none }

  keeps_bare : (entry : PlainEntry) → KeepsDomains rule entry → KeepsDomains bare entry
  keeps_bare entry h = record { sets = λ taken c lt. (let k = h.sets (λ d below. (let t = taken d below in record { was = t.was; there = t.there; passes = t.passes })) c lt in record { each = k.each }) }

  pub may_apply_bare : (pool : List Values) (entry : NumberedEntry) → MayApply rule pool entry → MayApply bare pool entry
  may_apply_bare pool entry may = record { numbers = may.numbers; filled = may.filled; kept = keeps_bare (plain_entry pool entry) may.kept }
