use Rattle.std.proofs.Common.{◌≡◌, ℕ, List, OnOk, codes, decimal, subst}
use Rattle.osek_vectors.specs.Writing.{fixed, onto}
use Rattle.osek_vectors.proofs.WritingLaws.{onto_draw, pieces_in_turn}
use Rattle.osek_vectors.proofs.oil.put_task.Goals as goal

pub returns : goal.returns
returns c =
    let name = decimal c.args.task in
    let same = pieces_in_turn (codes "TASK T") name (codes " { PRIORITY = ") name (codes "; SCHEDULE = ") c.schedule-schedule.result.now (codes "; AUTOSTART = TRUE; EVENT = E; RESOURCE = R; };\n") in
    rw (onto_draw, ← c.draw.ensures.after, ← c.draw.ensures.number, ← c.schedule-schedule.ensures)
    (subst (λ (bytes : List ℕ). OnOk c.write.result (c.write.new.self ≡ onto c.draw.new.self (fixed bytes))) same c.write.ensures)
