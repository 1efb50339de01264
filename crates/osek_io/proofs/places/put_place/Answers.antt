use Rattle.std.proofs.Common.{◌≡◌, ◌∙◌, sym, ap, Some, None}
use Rattle.std.specs.List.{position}
use Rattle.osek_io.specs.Place.{is_named, files_of, rooms_of}
use Rattle.osek_io.proofs.PlaceMaps.{files_set, rooms_set, files_last, rooms_last}
use Rattle.osek_io.proofs.places.put_place.Goals as goal

pub returns-in-Some-clause-files : goal.returns-in-Some-clause-files
returns-in-Some-clause-files c =
    let places = c.args.places.now.items in
    let name = c.args.name.now in
    let at : position (is_named name) places ≡ Some c.in-Some.at = ap (position (is_named name)) (sym c.deref.ensures.value) ∙ sym c.position_of.ensures ∙ c.in-Some.is in
    files_set places c.args.place name c.in-Some.at c.index_mut.result.now c.requires at c.index_mut.ensures.value

pub returns-in-Some-clause-rooms : goal.returns-in-Some-clause-rooms
returns-in-Some-clause-rooms c =
    let places = c.args.places.now.items in
    let name = c.args.name.now in
    let at : position (is_named name) places ≡ Some c.in-Some.at = ap (position (is_named name)) (sym c.deref.ensures.value) ∙ sym c.position_of.ensures ∙ c.in-Some.is in
    rooms_set places c.args.place name c.in-Some.at c.index_mut.result.now c.requires at c.index_mut.ensures.value

pub returns-in_ok-push-in-None-clause-files : goal.returns-in_ok-push-in-None-clause-files
returns-in_ok-push-in-None-clause-files c =
    let places = c.args.places.now.items in
    let name = c.args.name.now in
    let none : position (is_named name) places ≡ None = ap (position (is_named name)) (sym c.deref.ensures.value) ∙ sym c.position_of.ensures ∙ c.in-None.is in
    ap files_of c.in_ok-push-in-None.ensures.items ∙ files_last places c.args.place name c.requires none

pub returns-in_ok-push-in-None-clause-rooms : goal.returns-in_ok-push-in-None-clause-rooms
returns-in_ok-push-in-None-clause-rooms c =
    let places = c.args.places.now.items in
    let name = c.args.name.now in
    let none : position (is_named name) places ≡ None = ap (position (is_named name)) (sym c.deref.ensures.value) ∙ sym c.position_of.ensures ∙ c.in-None.is in
    ap rooms_of c.in_ok-push-in-None.ensures.items ∙ rooms_last places c.args.place name c.requires none
