-- The exits of a proper row's point are what its steps lead to, and their rows are proper.
use Rattle.std.proofs.Common.{◌≡◌, List, map, sym, ap, subst, ◌∙◌, arith}
use Rattle.std.specs.Prelude.{Contains}
use Rattle.std.proofs.lemmas.List.Elements.{All-from_get_or}
use Rattle.osek_standard.specs.declared.{app.App.{App}, point.Point.{Point}}
use Rattle.osek_standard.proofs.Members.{Among, among_contained, contained_among, map_among, flat_map_among}
use Rattle.abstract_state.specs.{declared.table.{ValueSet.{ValueSet}, TableRow.{TableRow}}, Domains.{HasMasks, domains, domains_of}, ValueOrder.{IsAscending}}
use Rattle.abstract_state.specs.Tables.{empty_set, HasAscendingSets}
use Rattle.numbered_sets.specs.{declared.{numbered_entry.NumberedEntry.{NumberedEntry}, table.NumberedRow.{NumberedRow}}, Numbers.{has_number}, NumberedEntries.{numbers_at, number_domains, AreFilled}}
use Rattle.numbered_sets.specs.{Pools.{Values, values_at, pool_domains, IsLonger}, Views.{values_with, plain_entry, AreNumbersOf}}
use Rattle.numbered_sets.proofs.{PlainLaws.{ascending_in_order, plain_set_at}, ViewLaws.{same_domains}, KnownNumbers.{order_onward}}
use Rattle.numbered_sets.specs.PlainTables.{row_at}
use Rattle.flow_exits.specs.{declared.exit.Exit.{Exit}, Exits.{AreExact}, Leaving.{AreExits}}
use Rattle.flow_exits.proofs.Covering.{exits_cover, exits_foresee, exits_shown}
use Rattle.point_exits.specs.declared.group.{NumberEnd.{NumberEnd}, Ends.{Ends}, ExitGroup.{ExitGroup}}
use Rattle.point_exits.specs.declared.group.Ends.TheVariants as ends
use Rattle.point_exits.specs.Groups.{with_end, exits_by, exits_of, all_exits, AreKnownEnds, AreKnownGroups}
use Rattle.point_exits.proofs.{GrowingPools.{end_known}, EntryCounts.{filled_numbers, numbers_counted}, NumberLaws.{filled_plain}, ProperRows.{proper_row}}
use Rattle.point_exits.specs.Rows.{IsProperRow}
use Rattle.table_rows.specs.{declared.bare.BareExit.{BareExit}, BareExits.{AreBare, AreBareExitsOf}}
use Rattle.state_flow.specs.{Reaching.{Leads}, Parts.{IsPartRow}, Numbering.{IsKnownRow}}
use Rattle.state_flow.proofs.ExitRows.{exits_lead, exit_row_proper}
use Rattle.state_flow.specs.ExitRows.{all_rows, AreProperRows}
use Rattle.state_flow.proofs.ExitJoins.{its_row, rows_of_exits}

plain_ascends : (pool : List Values) (entry : NumberedEntry) → HasAscendingSets (plain_entry pool entry)
plain_ascends pool entry = All-from_get_or (λ (s : ValueSet). IsAscending s.members) (plain_entry pool entry).sets empty_set (λ k _.
    subst (λ (s : ValueSet). IsAscending s.members) (sym (plain_set_at pool entry k)) (ascending_in_order (values_with (values_at pool k) (has_number (numbers_at entry k)))))

-- an entry of the pool's numbers has the pool's domains
plain_domains : (pool : List Values) (entry : NumberedEntry) → AreNumbersOf pool entry → domains (plain_entry pool entry) ≡ pool_domains pool
plain_domains pool entry known = same_domains pool 0 entry.sets ∙ known.domains

-- the values of an exit are by numbers of the pool
record IsByNumbers (pool : List Values) (x : Exit) : Type 0 where
  entry : NumberedEntry
  known : AreNumbersOf pool entry
  is : x.entry ≡ plain_entry pool entry

by_ends : (pool : List Values) (g : ExitGroup) (e : Ends) → AreNumbersOf pool g.entry → AreKnownEnds pool g.entry e → (x : Exit) → Among x (exits_by pool g e) → IsByNumbers pool x
by_ends pool g (ends.At points) known h x m =
    let p = map_among (λ (p : Point). record { target = p; decision = g.decision; status = g.status; entry = plain_entry pool g.entry }) x points m in
    record { entry = g.entry; known = known; is = ap (λ (y : Exit). y.entry) p.2 }
by_ends pool g (ends.With xs) known h x m =
    let e = map_among (λ (y : NumberEnd). record { target = y.target; decision = g.decision; status = g.status; entry = plain_entry pool (with_end g.entry y) }) x xs m in
    record { entry = with_end g.entry e.0; known = end_known pool g.entry e.0 known (h e.0 (among_contained xs e.0 e.1)); is = ap (λ (y : Exit). y.entry) e.2 }

by_numbers : (pool : List Values) (groups : List ExitGroup) → AreKnownGroups pool groups → (x : Exit) → Contains (all_exits pool groups) x → IsByNumbers pool x
by_numbers pool groups known x m =
    let g = flat_map_among (exits_of pool) x groups (contained_among (all_exits pool groups) x m) in
    let k = known g.0 (among_contained groups g.0 g.1) in
    by_ends pool g.0 g.0.ends k.numbers k.ends x g.2

pub exits_ordered : (app : App) (pool : List Values) (groups : List ExitGroup) → AreKnownGroups pool groups → pool_domains pool ≡ domains_of app → (x : Exit) → Contains (all_exits pool groups) x → (domains x.entry ≡ domains_of app) × HasAscendingSets x.entry
exits_ordered app pool groups known alike x m =
    let b = by_numbers pool groups known x m in (
      ap domains b.is ∙ plain_domains pool b.entry b.known ∙ alike,
      subst HasAscendingSets (sym b.is) (plain_ascends pool b.entry),
    )

module _ (app : App) (masks : HasMasks app) (p : Point) (pool : List Values) (entry : NumberedEntry) (numbers : AreNumbersOf pool entry) (proper : IsProperRow app (row_at p (plain_entry pool entry))) where
  pub its_domains : number_domains entry ≡ domains_of app
  its_domains = sym (same_domains pool 0 entry.sets) ∙ proper.row.domains

  -- each set has a number
  pub numbers_filled : AreFilled entry
  numbers_filled = filled_numbers app pool entry its_domains proper.filled

  -- a row of some of the numbers can be evaluated
  pub part_known : (row : NumberedRow) → IsPartRow p entry row → IsKnownRow app pool row
  part_known row part =
      let known : AreNumbersOf pool row.entry = record { domains = part.domains ∙ numbers.domains; known = λ c n h. numbers.known c n (part.below.each c n h) } in
      record {
        numbers = known;
        proper = subst (λ (q : Point). IsProperRow app (row_at q (plain_entry pool row.entry))) (sym part.at)
            (proper_row app masks p (plain_entry pool row.entry) proper.row.point (same_domains pool 0 row.entry.sets ∙ part.domains ∙ its_domains) (plain_ascends pool row.entry)
            (λ c v lt m. proper.allowed c v lt ((order_onward pool row.entry entry part.below).each c v m))
            (filled_plain app pool row.entry known part.filled (let size = numbers_counted app row.entry (part.domains ∙ its_domains) in omega (arith, size))));
      }

  module _ (after : List Values) (longer : IsLonger pool after) (groups : List ExitGroup) (known : AreKnownGroups after groups) (are : AreExits app p (plain_entry pool entry) (all_exits after groups)) where
    after_domains : pool_domains after ≡ domains_of app
    after_domains = longer.domains ∙ sym numbers.domains ∙ its_domains

    exact : AreExact app p (plain_entry pool entry) (all_exits after groups)
    exact = exits_shown app p (plain_entry pool entry) (all_exits after groups) proper.row.point are proper.allowed

    -- without their values they are what is known of the row's exits
    pub exits_known : (bare : List BareExit) → AreBare (all_exits after groups) bare → AreBareExitsOf app (row_at p (plain_entry pool entry)) bare
    exits_known bare are_bare = record {
      whole = all_exits after groups;
      are = record {
        steps = exits_cover app p (plain_entry pool entry) (all_exits after groups) proper.row.point are;
        instructions = exits_foresee app p (plain_entry pool entry) (all_exits after groups) proper.row.point are;
        exact = exact;
      };
      bare = are_bare;
    }

    pub rows_lead : Leads app p (plain_entry pool entry) (all_rows after groups)
    rows_lead = subst (Leads app p (plain_entry pool entry)) (rows_of_exits after groups)
        (exits_lead app masks p (plain_entry pool entry) proper (all_exits after groups) (exits_cover app p (plain_entry pool entry) (all_exits after groups) proper.row.point are) exact (exits_ordered app after groups known after_domains))

    pub rows_proper : AreProperRows app (all_rows after groups)
    rows_proper row m =
        let x = map_among its_row row (all_exits after groups) (contained_among (map its_row (all_exits after groups)) row (subst (λ (rows : List TableRow). Contains rows row) (sym (rows_of_exits after groups)) m)) in
        subst (IsProperRow app) (sym x.2) (exit_row_proper app masks p (plain_entry pool entry) (all_exits after groups) exact (exits_ordered app after groups known after_domains) x.0 (among_contained (all_exits after groups) x.0 x.1))
