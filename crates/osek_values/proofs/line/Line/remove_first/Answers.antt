-- the first place is taken out, if there is one
use Rattle.std.proofs.Common.{◌≡◌, ◌∙◌, sym, ap, List, Some, None}
use Rattle.std.specs.List.{position, remove}
use Rattle.osek_values.specs.{declared.numbers.TaskNo.{TaskNo}, Line.{without_first}}
use Rattle.osek_values.proofs.Places.{is_of, without_none, without_place}
use Rattle.osek_values.proofs.line.Line.remove_first.Goals as goal

pub returns-in-Some : goal.returns-in-Some
returns-in-Some c =
    let t = c.args.task.0 in
    let line = c.self.inside.places.items in
    let at : position (is_of t) line ≡ Some c.in-Some.place = ap (λ (l : List TaskNo). position (is_of t) l) (sym c.as_slice.ensures.value) ∙ sym c.first_place.ensures ∙ c.in-Some.is in
    let out : remove line c.in-Some.place ≡ without_first line t = without_place line t c.in-Some.place at in
    cc

pub returns-in_default : goal.returns-in_default
returns-in_default c =
    let t = c.args.task.0 in
    let line = c.self.inside.places.items in
    let none : position (is_of t) line ≡ None = ap (λ (l : List TaskNo). position (is_of t) l) (sym c.as_slice.ensures.value) ∙ sym c.first_place.ensures ∙ c.in_default.is in
    let whole : without_first line t ≡ line = without_none line t none in
    cc
