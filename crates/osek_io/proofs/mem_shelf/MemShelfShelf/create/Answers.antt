use Rattle.std.specs.FinMap.{get}
use Rattle.osek_io.proofs.MeetsShelf.{create_meets}
use Rattle.osek_io.proofs.mem_shelf.MemShelfShelf.create.Goals as goal

pub returns-clause-ok : goal.returns-clause-ok
returns-clause-ok c =
    (create_meets c.args.self.now c.create_file.new.self c.args.name.now (get c.args.self.now.rooms c.args.name.now) c.create_file.result c.create_file.ensures.range c.create_file.ensures.answer c.create_file.ensures.after).0

pub returns-clause-cause : goal.returns-clause-cause
returns-clause-cause c =
    (create_meets c.args.self.now c.create_file.new.self c.args.name.now (get c.args.self.now.rooms c.args.name.now) c.create_file.result c.create_file.ensures.range c.create_file.ensures.answer c.create_file.ensures.after).1

pub returns-clause-no_fault : goal.returns-clause-no_fault
returns-clause-no_fault c =
    (create_meets c.args.self.now c.create_file.new.self c.args.name.now (get c.args.self.now.rooms c.args.name.now) c.create_file.result c.create_file.ensures.range c.create_file.ensures.answer c.create_file.ensures.after).2
