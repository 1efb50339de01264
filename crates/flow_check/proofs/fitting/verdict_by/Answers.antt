use Rattle.std.proofs.Common.{length, refl}
use Rattle.flow_check.proofs.FitLaws.{first_form, first_known, all_forms, all_statuses}
use Rattle.flow_check.proofs.fitting.verdict_by.Goals as goal

pub returns-in-Some : goal.returns-in-Some
returns-in-Some c = λ table written inductive all. first_form c.args.image.now table written c.args.found.now all inductive c.in-Some.block c.in-Some.ensures.some

pub returns-in-Some-first_known_unfit : goal.returns-in-Some-first_known_unfit
returns-in-Some-first_known_unfit c = λ table written inductive all.
    first_known c.args.image.now table written c.args.found.now all inductive c.in-Some-first_known_unfit.block c.in_default.ensures.none c.in-Some-first_known_unfit.ensures.some

pub returns : goal.returns
returns c = λ table written inductive all.
    let i = c.args.image.now in
    let blocks = length i.app.blocks in (
      inductive,
      record {
        forms = all_forms i table written c.args.found.now all blocks refl c.in_default.ensures.none;
        statuses = all_statuses i table written c.args.found.now all blocks refl c.in_default-first_known_unfit.ensures.none;
      },
    )
