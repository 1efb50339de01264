use Rattle.std.proofs.Common.{◌≡◌, ◌<◌, ◌++◌, ◌∷◌, [], ℕ, List, length, take, get_or, inl, inr, refl, sym, ap, subst, ◌∙◌, arith}
use Rattle.std.proofs.lemmas.{Bool.{cases_lt, OnTrue_at, OnFalse_at}, List.{get_or_default}}
use Rattle.std.specs.Prelude.{Contains}
use Rattle.osek_standard.specs.declared.app.App.{App}
use Rattle.abstract_state.specs.{declared.table.TableRow.{TableRow}, Tables.{sets_of}}
use Rattle.numbered_sets.specs.{declared.table.NumberedRow.{NumberedRow}, Pools.{IsLonger}, PlainTables.{plain_row, plain_rows, plain_table}}
use Rattle.numbered_sets.proofs.NumberingLaws.{longer_itself, longer_onward}
use Rattle.point_exits.specs.{declared.group.ExitGroup.{ExitGroup}, Groups.{all_exits}, Rows.{IsProperRow}}
use Rattle.table_rows.{specs.{BareExits.{AreBare, AreBareExitsOf}, Rows.{AreExitsOf}}, proofs.TableRows.{in_order, pool_alike}}
use Rattle.flow_check.specs.{Staying.{AreAllIn, IsSomeGroupOut}, Outcomes.{AreFound}, Flows.{StaysFrom}}
use Rattle.flow_check.proofs.{RowOutcomes.{stands_known}, GroupEnds.{set_for}}
use Rattle.flow_check.proofs.FlowLaws.{numbers_there, proper_there, next_row, stays_there, leaves_there, flow_leaves, flow_stays}
use Rattle.flow_check.proofs.flow.flow_of.Goals as goal

pub new-requires : goal.new-requires
new-requires c =
    let pool = c.args.pool in
    let rows = c.args.rows.now in
    pool_alike c.args.app.now pool rows c.requires.rows c.requires.some

pub loop-row-init : goal.loop-row-init
loop-row-init c = record {
  app = c.in_ok-numbering.ensures.app;
  passed = record {
    longer = subst (IsLonger c.args.pool) (sym c.in_ok-numbering.ensures.pool) (longer_itself c.args.pool);
    found = c.in_ok-sites.ensures;
    stay = λ i d lt. absurd (omega (arith, lt));
  };
}

pub row_groups-requires-clause-numbers : goal.row_groups-requires-clause-numbers
row_groups-requires-clause-numbers c =
    numbers_there c.args.app.now c.args.pool c.args.rows.now c.requires.rows c.loop-row.numbering.pool c.loop-row.invariant.passed.longer c.loop-row.row-index c.row-item.result c.loop-row-test.true c.row-item.is

pub row_groups-requires-clause-proper : goal.row_groups-requires-clause-proper
row_groups-requires-clause-proper c =
    subst (λ (own : App). IsProperRow own (plain_row c.loop-row.numbering.pool c.row-item.result)) (sym c.loop-row.invariant.app)
    (proper_there c.args.app.now c.args.pool c.args.rows.now c.requires.rows c.loop-row.numbering.pool c.loop-row.invariant.passed.longer c.loop-row.row-index c.row-item.result c.loop-row-test.true c.row-item.is)

pub all_stay-requires-clause-sets : goal.all_stay-requires-clause-sets
all_stay-requires-clause-sets c = λ g m.
    let listed = subst (λ (groups : List ExitGroup). Contains groups g) c.as_slice.ensures.value m in
    set_for c.row_groups.new.numbering.pool g g.ends (c.in_ok-groups.ensures.known g listed).ends

pub all_stay-requires-clause-order : goal.all_stay-requires-clause-order
all_stay-requires-clause-order c = in_order c.args.app.now c.args.pool c.args.rows.now c.requires.rows

pub add_exits-requires : goal.add_exits-requires
add_exits-requires c = λ b stands.
    let row = c.row-item.result in
    let proper = proper_there c.args.app.now c.args.pool c.args.rows.now c.requires.rows c.loop-row.numbering.pool c.loop-row.invariant.passed.longer c.loop-row.row-index row c.loop-row-test.true c.row-item.is in
    omega (arith, stands_known c.args.app.now row.point b proper.row.point stands, c.loop-row.invariant.passed.found.count)

pub loop-row-preserved : goal.loop-row-preserved
loop-row-preserved c =
    let app = c.args.app.now in
    let first = c.args.pool in
    let rows = c.args.rows.now in
    let pool = c.loop-row.numbering.pool in
    let after = c.row_groups.new.numbering.pool in
    let k = c.loop-row.row-index in
    let row = c.row-item.result in
    let lt : k < length rows = c.loop-row-test.true in
    let is = c.row-item.is in
    let longer = c.loop-row.invariant.passed.longer in
    let exits = subst (λ (own : App). AreExitsOf own (plain_row pool row) (all_exits after c.in_ok-groups.groups.items)) c.loop-row.invariant.app c.in_ok-groups.ensures.exits in
    let groups = c.in_ok-groups.groups.items in
    let all = subst (λ (gs : List ExitGroup). AreAllIn rows gs) c.as_slice.ensures.value (OnTrue_at c.if-not-stay.false c.in_ok-stay.ensures.stay) in
    let here : StaysFrom app (sets_of (plain_table first rows)) row.point = stays_there app first rows c.requires.rows pool longer k row lt is after c.row_groups.ensures.grown.pool groups exits all in
    let bare = subst (λ (gs : List ExitGroup). AreBare (all_exits after gs) c.in_ok-exits.exits) c.as_slice-in-loop-row.ensures.value (c.in_ok-exits.ensures after) in
    let its : AreBareExitsOf app (plain_row pool row) c.as_slice-in-loop-row-2.result.now = record { whole = all_exits after groups; are = exits; bare = subst (AreBare (all_exits after groups)) (sym c.as_slice-in-loop-row-2.ensures) bare } in
    record {
      app = c.row_groups.ensures.grown.app ∙ c.loop-row.invariant.app;
      passed = record {
        longer = longer_onward first pool after longer c.row_groups.ensures.grown.pool;
        found =
            subst (λ (done : List TableRow). AreFound app done c.add_exits.new.sites)
            (next_row app first rows c.requires.rows pool longer k row lt is (take k (plain_rows first rows) ++ plain_row pool row ∷ []) refl)
            (c.add_exits.ensures app (take k (plain_rows first rows)) (plain_row pool row) refl its c.loop-row.invariant.passed.found);
        stay = λ i d below. elim (cases_lt i k) [
          | inl before ↦ c.loop-row.invariant.passed.stay i d before
          | inr le ↦
              (let same : i ≡ k = omega (arith, le, below) in
              let at : row ≡ get_or rows i d = is ∙ get_or_default rows k row d lt ∙ ap (λ (j : ℕ). get_or rows j d) (sym same) in
              subst (λ (r : NumberedRow). StaysFrom app (sets_of (plain_table first rows)) r.point) at here)
        ];
      };
    }

pub returns-then-not-stay : goal.returns-then-not-stay
returns-then-not-stay c =
    let app = c.args.app.now in
    let first = c.args.pool in
    let rows = c.args.rows.now in
    let pool = c.loop-row.numbering.pool in
    let after = c.row_groups.new.numbering.pool in
    let k = c.loop-row.row-index in
    let row = c.row-item.result in
    let lt : k < length rows = c.loop-row-test.true in
    let longer = c.loop-row.invariant.passed.longer in
    let exits = subst (λ (own : App). AreExitsOf own (plain_row pool row) (all_exits after c.in_ok-groups.groups.items)) c.loop-row.invariant.app c.in_ok-groups.ensures.exits in
    let out = subst (λ (gs : List ExitGroup). IsSomeGroupOut rows gs) c.as_slice.ensures.value (OnFalse_at c.if-not-stay.true c.in_ok-stay.ensures.out) in
    flow_leaves app first rows c.requires.rows pool longer k row lt c.row-item.is c.loop-row.invariant.passed.stay
    (leaves_there app first rows c.requires.rows pool longer k row lt c.row-item.is after c.row_groups.ensures.grown.pool c.in_ok-groups.groups.items exits c.are_values.ensures c.in_ok-groups.ensures.known out)

pub returns : goal.returns
returns c =
    flow_stays c.args.app.now c.args.pool c.args.rows.now c.requires.rows c.loop-row.row-index c.loop-row.sites c.loop-row-test.false c.loop-row.invariant.passed.stay c.loop-row.invariant.passed.found
