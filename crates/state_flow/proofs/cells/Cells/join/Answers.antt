use Rattle.std.proofs.{Common.{sym, ◌∙◌, subst}, lemmas.List.{get_or_read}}
use Rattle.state_flow.specs.{declared.cells.Cell.{Cell}, Cells.{IsRaised}}
use Rattle.state_flow.proofs.CellLists.{place_told, gap_told, joined_there, joined_new}
use Rattle.state_flow.proofs.cells.Cells.join.Goals as goal

pub returns-in_ok-push-in-Ok : goal.returns-in_ok-push-in-Ok
returns-in_ok-push-in-Ok g c =
    let L = g.E.Lattice in
    let cells = c.args.self.now.list.items in
    let after = c.raise.new.self in
    let told = rw c.number.ensures at c.in-Ok.ensures.place in
    let at = place_told cells c.requires.order _ c.in-Ok.place told in
    let old = get_or_read cells c.in-Ok.place c.index_mut.result.now at.known c.index_mut.ensures.value after in
    joined_there L.is_element L.alike L.is_below L.rank g.met.E.Lattice.reflexive cells c.args.point c.args.entry.now c.requires.order c.requires.may c.in-Ok.place after at
    (subst (λ (x : Cell g.row.E.Denot). IsRaised L.is_element L.alike L.is_below L.rank x c.args.entry.now after) (sym c.get_mut.ensures.value ∙ old) c.in_ok-urgent-in-Ok.ensures)

pub returns-in_default : goal.returns-in_default
returns-in_default g c =
    let L = g.E.Lattice in
    let cells = c.args.self.now.list.items in
    let after = c.raise.new.self in
    let told = rw c.number.ensures at c.in-Ok.ensures.place in
    let at = place_told cells c.requires.order _ c.in-Ok.place told in
    let old = get_or_read cells c.in-Ok.place c.index_mut.result.now at.known c.index_mut.ensures.value after in
    joined_there L.is_element L.alike L.is_below L.rank g.met.E.Lattice.reflexive cells c.args.point c.args.entry.now c.requires.order c.requires.may c.in-Ok.place after at
    (subst (λ (x : Cell g.row.E.Denot). IsRaised L.is_element L.alike L.is_below L.rank x c.args.entry.now after) (sym c.get_mut.ensures.value ∙ old) c.in_ok-urgent-in-Ok.ensures)

pub returns-in_ok-insert-in-Err : goal.returns-in_ok-insert-in-Err
returns-in_ok-insert-in-Err g c =
    let L = g.E.Lattice in
    let cells = c.args.self.now.list.items in
    let told = rw c.number.ensures at c.in-Err.ensures.gap in
    let at = gap_told cells c.requires.order _ c.in-Err.gap told in
    rw (c.in_ok-insert-in-Err.ensures.items, c.in_ok-cell-in-Err.ensures)
    (joined_new L.is_element L.alike L.is_below L.rank g.met.E.Lattice.reflexive cells c.args.point c.args.entry.now c.requires.order c.requires.may c.in-Err.gap at)
