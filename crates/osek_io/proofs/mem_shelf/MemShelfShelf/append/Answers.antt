use Rattle.std.proofs.Common.{refl, unwrap_or}
use Rattle.std.specs.FinMap.{get}
use Rattle.osek_io.proofs.MeetsShelf.{append_meets}
use Rattle.osek_io.proofs.mem_shelf.MemShelfShelf.append.Goals as goal

pub returns-clause-ok : goal.returns-clause-ok
returns-clause-ok c =
    (append_meets c.args.self.now c.append_piece.new.self c.args.name.now (get c.args.self.now.files c.args.name.now) (unwrap_or (get c.args.self.now.rooms c.args.name.now) 0) c.args.piece.now c.append_piece.result c.append_piece.ensures.range refl c.append_piece.ensures.answer c.append_piece.ensures.after).0

pub returns-clause-cause : goal.returns-clause-cause
returns-clause-cause c =
    (append_meets c.args.self.now c.append_piece.new.self c.args.name.now (get c.args.self.now.files c.args.name.now) (unwrap_or (get c.args.self.now.rooms c.args.name.now) 0) c.args.piece.now c.append_piece.result c.append_piece.ensures.range refl c.append_piece.ensures.answer c.append_piece.ensures.after).1.cause

pub returns-clause-missing : goal.returns-clause-missing
returns-clause-missing c =
    (append_meets c.args.self.now c.append_piece.new.self c.args.name.now (get c.args.self.now.files c.args.name.now) (unwrap_or (get c.args.self.now.rooms c.args.name.now) 0) c.args.piece.now c.append_piece.result c.append_piece.ensures.range refl c.append_piece.ensures.answer c.append_piece.ensures.after).1.refused

pub returns-clause-uncounted : goal.returns-clause-uncounted
returns-clause-uncounted c =
    (append_meets c.args.self.now c.append_piece.new.self c.args.name.now (get c.args.self.now.files c.args.name.now) (unwrap_or (get c.args.self.now.rooms c.args.name.now) 0) c.args.piece.now c.append_piece.result c.append_piece.ensures.range refl c.append_piece.ensures.answer c.append_piece.ensures.after).1.uncounted

pub returns-clause-no_fault : goal.returns-clause-no_fault
returns-clause-no_fault c =
    (append_meets c.args.self.now c.append_piece.new.self c.args.name.now (get c.args.self.now.files c.args.name.now) (unwrap_or (get c.args.self.now.rooms c.args.name.now) 0) c.args.piece.now c.append_piece.result c.append_piece.ensures.range refl c.append_piece.ensures.answer c.append_piece.ensures.after).1.no_fault
