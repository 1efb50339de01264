-- one byte of the text changes
use Rattle.std.proofs.Common.{ℕ, ◌≤◌, List, length, get_or, refl, sym, ◌∙◌, ap, rules}
use Rattle.osek_standard.specs.declared.objects.Task.{Task}
use Rattle.trace_text.proofs.OpenedParts.{Opened, placed, with_other}
use Rattle.trace_text.proofs.line_parts.LineParts.put_letter.Goals as goal

pub returns-clause-parts : goal.returns-clause-parts
returns-clause-parts c =
    let self = c.self.inside in
    let o : Opened c.args.app.now self.labels self.kept.items self.tasks self.size c.args.self.now c.args.task.0 c.place_of-at.result =
    record {
      is = c.self.view_is;
      parts = c.requires.parts;
      whole = c.requires.whole;
      known = c.requires.known;
      place = placed _ _ _ _ _ c.place_of-at.ensures c.as_slice.ensures.value c.index.ensures;
      all = c.self.invariant.1;
    } in
    let room : self.size ≤ length self.tasks = search rules in
    with_other c.args.app.now self.labels self.kept.items self.tasks self.size c.args.self.now c.args.task.0 c.place_of-at.result o
    c.args.letter c.keep_letter.new.kept.items c.index-2.result _ _ c.as_bytes.result.now c.requires.events c.index-2.ensures c.keep_letter.ensures
    (c.as_bytes.ensures.bytes ∙ ap (λ (d : Task). d.name) (sym c.task.ensures)) refl (ap (λ (l : List ℕ). get_or l 1 0) c.state_mark.ensures) room
