use Rattle.std.proofs.Common.{◌≡◌, ◌∙◌, sym, ap, Some, None}
use Rattle.std.specs.List.{position}
use Rattle.osek_io.specs.{Place.{PlaceState, is_named, files_of}, Files.{with_or_without}}
use Rattle.osek_io.proofs.PlaceMaps.{files_refilled, rooms_same, no_room}
use Rattle.osek_io.proofs.places.clear_file.Goals as goal

pub returns-in-Some-clause-files : goal.returns-in-Some-clause-files
returns-in-Some-clause-files c =
    let places = c.args.places.now.items in
    let name = c.args.name.now in
    let at : position (is_named name) places ≡ Some c.in-Some.at = ap (position (is_named name)) (sym c.deref.ensures.value) ∙ sym c.position_of.ensures ∙ c.in-Some.is in
    files_refilled places c.clear.new.self name c.in-Some.at c.index_mut.result.now (ap (λ (p : PlaceState). p.name) c.clear.ensures) at c.index_mut.ensures.value
    ∙ ap (λ (p : PlaceState). with_or_without (files_of places) name p.bytes) c.clear.ensures

pub returns-in-Some-clause-rooms : goal.returns-in-Some-clause-rooms
returns-in-Some-clause-rooms c =
    let places = c.args.places.now.items in
    let name = c.args.name.now in
    let at : position (is_named name) places ≡ Some c.in-Some.at = ap (position (is_named name)) (sym c.deref.ensures.value) ∙ sym c.position_of.ensures ∙ c.in-Some.is in
    rooms_same places c.clear.new.self name c.in-Some.at c.index_mut.result.now (ap (λ (p : PlaceState). p.name) c.clear.ensures) (ap (λ (p : PlaceState). p.room) c.clear.ensures) at c.index_mut.ensures.value

pub returns-in_default-clause-files : goal.returns-in_default-clause-files
returns-in_default-clause-files c =
    let places = c.args.places.now.items in
    let name = c.args.name.now in
    let none : position (is_named name) places ≡ None = ap (position (is_named name)) (sym c.deref.ensures.value) ∙ sym c.position_of.ensures ∙ c.in_default.is in
    absurd (no_room places name none c.requires)
