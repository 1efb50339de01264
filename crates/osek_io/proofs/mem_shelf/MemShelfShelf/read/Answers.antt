use Rattle.std.proofs.Common.{◌≡◌, ℕ, sym, length, Result, Ok, Err, OnOk}
use Rattle.osek_io.specs.{Counts.{Same}, declared.failed.Failed.{Failed}}
use Rattle.std.specs.FinMap.{get}
use Rattle.osek_io.proofs.MeetsShelf.{read_cause, read_pieces}
use Rattle.osek_io.proofs.mem_shelf.MemShelfShelf.read.Goals as goal

well : (before now : ℕ) (r : Result ℕ Failed) → OnOk r (now ≡ before) → OnOk r (Same (λ _ _. before) (λ _ _. now))
well before now (Ok n) h = λ _ _. h
well before now (Err f) h = tt

pub returns-clause-cause : goal.returns-clause-cause
returns-clause-cause c =
    (read_cause c.args.self.now c.read_piece.new.self (get c.args.self.now.files c.args.name.now) c.args.at (length c.args.into.now) c.read_piece.result c.read_piece.ensures.range c.read_piece.ensures.answer c.read_piece.ensures.after).cause

pub returns-clause-missing : goal.returns-clause-missing
returns-clause-missing c =
    (read_cause c.args.self.now c.read_piece.new.self (get c.args.self.now.files c.args.name.now) c.args.at (length c.args.into.now) c.read_piece.result c.read_piece.ensures.range c.read_piece.ensures.answer c.read_piece.ensures.after).refused

pub returns-clause-uncounted : goal.returns-clause-uncounted
returns-clause-uncounted c = λ missing _ _.
    (read_cause c.args.self.now c.read_piece.new.self (get c.args.self.now.files c.args.name.now) c.args.at (length c.args.into.now) c.read_piece.result c.read_piece.ensures.range c.read_piece.ensures.answer c.read_piece.ensures.after).uncounted missing

pub returns-clause-no_fault : goal.returns-clause-no_fault
returns-clause-no_fault c =
    well _ _ _ (read_cause c.args.self.now c.read_piece.new.self (get c.args.self.now.files c.args.name.now) c.args.at (length c.args.into.now) c.read_piece.result c.read_piece.ensures.range c.read_piece.ensures.answer c.read_piece.ensures.after).no_fault

pub returns-clause-piece : goal.returns-clause-piece
returns-clause-piece c =
    read_pieces c.args.self.now (get c.args.self.now.files c.args.name.now) c.args.at c.read_piece.new.into (length c.args.into.now) c.read_piece.result c.read_piece.ensures.some (sym c.read_piece.auto.into) c.read_piece.ensures.answer c.read_piece.ensures.piece
