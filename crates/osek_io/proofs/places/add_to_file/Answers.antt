use Rattle.std.proofs.Common.{◌≡◌, ◌∙◌, sym, ap, Some, None, length}
use Rattle.std.specs.List.{position}
use Rattle.osek_io.specs.Place.{PlaceState, is_named}
use Rattle.osek_io.proofs.PlaceMaps.{files_longer, rooms_same, no_file, fits_here}
use Rattle.osek_io.proofs.places.add_to_file.Goals as goal

pub add-requires : goal.add-requires
add-requires c =
    let places = c.args.places.now.items in
    let name = c.args.name.now in
    let at : position (is_named name) places ≡ Some c.in-Some.at = ap (position (is_named name)) (sym c.deref.ensures.value) ∙ sym c.position_of.ensures ∙ c.in-Some.is in
    fits_here places name c.in-Some.at c.index_mut.result.now (length c.args.piece.now) at c.index_mut.ensures.value c.requires

pub returns-in-Some-clause-files : goal.returns-in-Some-clause-files
returns-in-Some-clause-files c =
    let places = c.args.places.now.items in
    let name = c.args.name.now in
    let at : position (is_named name) places ≡ Some c.in-Some.at = ap (position (is_named name)) (sym c.deref.ensures.value) ∙ sym c.position_of.ensures ∙ c.in-Some.is in
    files_longer places c.add.new.self name c.in-Some.at c.index_mut.result.now c.args.piece.now c.add.ensures at c.index_mut.ensures.value c.requires

pub returns-in-Some-clause-rooms : goal.returns-in-Some-clause-rooms
returns-in-Some-clause-rooms c =
    let places = c.args.places.now.items in
    let name = c.args.name.now in
    let at : position (is_named name) places ≡ Some c.in-Some.at = ap (position (is_named name)) (sym c.deref.ensures.value) ∙ sym c.position_of.ensures ∙ c.in-Some.is in
    rooms_same places c.add.new.self name c.in-Some.at c.index_mut.result.now (ap (λ (p : PlaceState). p.name) c.add.ensures) (ap (λ (p : PlaceState). p.room) c.add.ensures) at c.index_mut.ensures.value

pub returns-in_default-clause-files : goal.returns-in_default-clause-files
returns-in_default-clause-files c =
    let places = c.args.places.now.items in
    let name = c.args.name.now in
    let none : position (is_named name) places ≡ None = ap (position (is_named name)) (sym c.deref.ensures.value) ∙ sym c.position_of.ensures ∙ c.in_default.is in
    absurd (no_file places name (length c.args.piece.now) none c.requires)
