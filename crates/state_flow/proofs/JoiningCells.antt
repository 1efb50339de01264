-- A join to the cells of all points, by values.
use Rattle.std.proofs.Common.{◌≡◌, ℕ, ◌<◌, false, None, List, [], ◌∷◌, length, get_or, refl, sym, ap, subst, ◌∙◌, inl, inr, arith, All}
use Rattle.std.specs.Prelude.{Contains}
use Rattle.std.proofs.{Math.ListN.{get_or-map}, lemmas.List.{length-map, get_or_default, Sums.{sum_by-cons}}}
use Rattle.osek_standard.specs.declared.point.Point.{Point}
use Rattle.osek_standard.proofs.Members.{Among, among_map, map_among, contained_among, among_contained}
use Rattle.abstract_state.specs.{declared.table.PlainEntry.{PlainEntry}, Domains.{IsSoundEntry, IsBelow}, Tables.{entry_values}}
use Rattle.numbered_sets.specs.{declared.numbered_entry.NumberedEntry.{NumberedEntry}, NumberedEntries.{entry_numbers, AreSoundNumbers, IsBelowNumbers}, Pools.{Values, AreValues}}
use Rattle.numbered_sets.specs.Views.{plain_entry, AreNumbersOf}
use Rattle.numbered_sets.proofs.{ViewLaws.{same_count}, KnownNumbers.{order_onward}}
use Rattle.state_flow.specs.{declared.cells.Cell.{Cell}, Cells.{WasEvaluatedWith, cell_number, waits, waiting_count, ranks, HasAbove, IsNewCell, IsRaisedCell, IsJoined}}
use Rattle.state_flow.specs.PlainCells.{plain_cell, plain_cells, AreCellsOf}
use Rattle.state_flow.proofs.{KeptEntries.{numbered_was, plain_was}, Raising.{AreAlikeNumbers, AreAlikeEntries, raised_known, raised_plain}}

pub among_plain : (pool : List Values) (cells : List (Cell NumberedEntry)) (cell : Cell NumberedEntry) → Contains cells cell → Contains (plain_cells pool cells) (plain_cell pool cell)
among_plain pool cells cell m = among_contained (plain_cells pool cells) (plain_cell pool cell) (among_map (plain_cell pool) cell cells (contained_among cells cell m))

record Origin (pool : List Values) (cells : List (Cell NumberedEntry)) (cell : Cell PlainEntry) : Type 0 where
  numbered : Cell NumberedEntry
  among : Contains cells numbered
  is : cell ≡ plain_cell pool numbered

origin : (pool : List Values) (cells : List (Cell NumberedEntry)) (cell : Cell PlainEntry) → Contains (plain_cells pool cells) cell → Origin pool cells cell
origin pool cells cell m =
    let back = map_among (plain_cell pool) cell cells (contained_among (plain_cells pool cells) cell m) in
    record { numbered = back.0; among = among_contained cells back.0 back.1; is = back.2 }

pub same_waits : (pool : List Values) (cells : List (Cell NumberedEntry)) → waiting_count (plain_cells pool cells) ≡ waiting_count cells
same_waits pool [] = refl
same_waits pool (x ∷ xs) = (let rest = same_waits pool xs in omega (arith, rest, sum_by-cons waits x xs, sum_by-cons waits (plain_cell pool x) (plain_cells pool xs)))

same_ranks : (pool : List Values) (cells : List (Cell NumberedEntry)) → All AreValues pool → ((cell : Cell NumberedEntry) → Among cell cells → AreNumbersOf pool cell.entry) → ranks entry_values (plain_cells pool cells) ≡ ranks entry_numbers cells
same_ranks pool [] all known = refl
same_ranks pool (x ∷ xs) all known =
    let first = same_count pool x.entry all (known x (inl refl)) in
    let rest = same_ranks pool xs all (λ cell m. known cell (inr m)) in
    omega (arith, first, rest, sum_by-cons (λ (cell : Cell NumberedEntry). entry_numbers cell.entry) x xs, sum_by-cons (λ (cell : Cell PlainEntry). entry_values cell.entry) (plain_cell pool x) (plain_cells pool xs))

module _ (pool : List Values) (cells after : List (Cell NumberedEntry)) (point : Point) (entry : NumberedEntry) (all : All AreValues pool) (of_pool : AreCellsOf pool cells) (known : AreNumbersOf pool entry) (h : IsJoined AreSoundNumbers AreAlikeNumbers IsBelowNumbers entry_numbers cells point entry after) where
  pub joined_known : AreCellsOf pool after
  joined_known = record {
    each = λ cell m. elim (h.from cell m) [
      | inl old ↦ of_pool.each cell old
      | inr other ↦ elim other [
        | inl new ↦ subst (AreNumbersOf pool) (sym new.is) known
        | inr raised ↦ raised_known pool raised.old cell entry all (of_pool.each raised.old raised.among) known raised.raised
      ]
    ];
    before = λ cell m x kept.
        (let old = h.evaluated cell m x (inl kept) in
        elim old.evaluated [
          | inl was ↦ of_pool.before old.cell old.among x was
          | inr own ↦ subst (AreNumbersOf pool) own.1 (of_pool.each old.cell old.among)
        ]);
  }

  above : (q : Point) (e : NumberedEntry) → HasAbove IsBelowNumbers after q e → HasAbove IsBelow (plain_cells pool after) q (plain_entry pool e)
  above q e x = record { cell = plain_cell pool x.cell; among = among_plain pool after x.cell x.among; at = x.at; above = order_onward pool e x.cell.entry x.above }

  plain_at : (k : ℕ) (d : Cell PlainEntry) (some : Cell NumberedEntry) → k < length after → get_or (plain_cells pool after) k d ≡ plain_cell pool (get_or after k some)
  plain_at k d some lt =
      get_or_default (plain_cells pool after) k d (plain_cell pool some) (omega (arith, lt, length-map after (plain_cell pool))) ∙ get_or-map (plain_cell pool) after k some

  number_at : (k : ℕ) (d : Cell PlainEntry) (some : Cell NumberedEntry) → k < length after → cell_number (get_or (plain_cells pool after) k d) ≡ cell_number (get_or after k some)
  number_at k d some lt = ap cell_number (plain_at k d some lt)

  pub joined_plain : IsJoined IsSoundEntry AreAlikeEntries IsBelow entry_values (plain_cells pool cells) point (plain_entry pool entry) (plain_cells pool after)
  joined_plain = record {
    order = record {
      told = λ k d lt.
          (let long = length-map after (plain_cell pool) in
          let some : Cell NumberedEntry = record { point = d.point; number = 0; waiting = false; entry = entry; before = None; exits = None; growth = tt } in
          let below : k < length after = omega (arith, lt, long) in
          subst (λ (x : Cell PlainEntry). x.number ≡ cell_number x) (sym (plain_at k d some below)) (h.order.told k some below));
      ascend = record {
        before = λ i j d lt known_place.
            (let long = length-map after (plain_cell pool) in
            let some : Cell NumberedEntry = record { point = d.point; number = 0; waiting = false; entry = entry; before = None; exits = None; growth = tt } in
            let first = number_at i d some (omega (arith, lt, known_place, long)) in
            let second = number_at j d some (omega (arith, known_place, long)) in
            let numbered = h.order.ascend.before i j some lt (omega (arith, known_place, long)) in
            omega (arith, first, second, numbered));
      };
    };
    evaluated = λ cell m z was.
        (let o = origin pool after cell m in
        let x = numbered_was pool o.numbered z (subst (λ (y : Cell PlainEntry). WasEvaluatedWith y z) o.is was) in
        let old = h.evaluated o.numbered o.among x.0 x.1 in
        record {
          cell = plain_cell pool old.cell;
          among = among_plain pool cells old.cell old.among;
          at = old.at ∙ ap (λ (y : Cell PlainEntry). y.point) (sym o.is);
          evaluated = subst (WasEvaluatedWith (plain_cell pool old.cell)) x.2 (plain_was pool old.cell x.0 old.evaluated);
        });
    known = λ cell m exits is.
        (let o = origin pool after cell m in
        let old = h.known o.numbered o.among exits (ap (λ (y : Cell PlainEntry). y.exits) (sym o.is) ∙ is) in
        record {
          cell = plain_cell pool old.cell;
          among = among_plain pool cells old.cell old.among;
          at = old.at ∙ ap (λ (y : Cell PlainEntry). y.point) (sym o.is);
          is = ap (plain_entry pool) old.is ∙ ap (λ (y : Cell PlainEntry). y.entry) (sym o.is);
          knows = old.knows;
        });
    grows = λ cell m.
        (let o = origin pool cells cell m in
        subst (λ (x : Cell PlainEntry). HasAbove IsBelow (plain_cells pool after) x.point x.entry) (sym o.is) (above o.numbered.point o.numbered.entry (h.grows o.numbered o.among)));
    joins = above point entry h.joins;
    from = λ cell m.
        (let o = origin pool after cell m in
        elim (h.from o.numbered o.among) [
          | inl old ↦ inl (subst (Contains (plain_cells pool cells)) (sym o.is) (among_plain pool cells o.numbered old))
          | inr other ↦ elim other [
            | inl new ↦ inr (inl (subst (IsNewCell point (plain_entry pool entry)) (sym o.is) (record { at = new.at; is = ap (plain_entry pool) new.is })))
            | inr raised ↦
                inr
                (inr
                (subst (IsRaisedCell IsSoundEntry AreAlikeEntries IsBelow entry_values (plain_cells pool cells) point (plain_entry pool entry)) (sym o.is)
                (record {
                  old = plain_cell pool raised.old;
                  among = among_plain pool cells raised.old raised.among;
                  at = raised.at;
                  raised = raised_plain pool raised.old o.numbered entry all (of_pool.each raised.old raised.among) known raised.raised;
                })))
          ]
        ]);
    counts =
        (let long = length-map after (plain_cell pool) in
        let long_before = length-map cells (plain_cell pool) in
        let ranks_after = same_ranks pool after all (λ cell m. joined_known.each cell (among_contained after cell m)) in
        let ranks_before = same_ranks pool cells all (λ cell m. of_pool.each cell (among_contained cells cell m)) in
        omega (arith, h.counts, long, long_before, ranks_after, ranks_before, same_waits pool cells, same_waits pool after));
    sizes = (let long = length-map after (plain_cell pool) in let long_before = length-map cells (plain_cell pool) in omega (arith, h.sizes, long, long_before, same_waits pool cells, same_waits pool after));
  }
