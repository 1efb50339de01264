-- the table is inductive, so the image is the kernel; its forms and statuses are those that the table dictates
use Rattle.std.proofs.Common.{refl}
use Rattle.abstract_state.specs.Tables.{sets_of}
use Rattle.commands.proofs.SmallImages.{small}
use Rattle.commands.proofs.fitting.fitted.Goals as goal

pub returns-clause-fitted : goal.returns-clause-fitted
returns-clause-fitted c = let i = c.in_ok-image.image in record {
  kernel = record {
    is = c.in_ok-image.ensures.app;
    spelled = record { within = small i; fits = c.read_numbers.ensures; spelled = refl };
    runs = c.in_ok-image.ensures.kernel c.requires.least.least.least.inductive;
  };
  forms = record { table = sets_of c.args.least.now.table; least = c.requires.least.least.least; forms = c.in_ok-image.ensures.forms; statuses = c.in_ok-image.ensures.statuses; version = c.in_ok-image.ensures.version };
}
