use Rattle.std.proofs.Common.{List, ap, ◌∙◌}
use Rattle.task_code.specs.{declared.tree.Body.{Body}, Faults.{wrong_works_in}, FirstLines.{first_line}}
use Rattle.task_code.proofs.{Viable.{has_tree, stop_fault}, FirstOfLines.{has_first, has_none}, FitLaws.{are_fit}}
use Rattle.task_code.proofs.parser.read.Goals as goal

pub returns-in-Err-Fault-clause-right : goal.returns-in-Err-Fault-clause-right
returns-in-Err-Fault-clause-right c =
    rw (c.syntax_fault.ensures.rule, c.syntax_fault.ensures.line) (stop_fault _ _ (rw c.in-Err-Fault.field-0-is at c.in-Err-Fault.ensures))

pub returns-in-Some-clause-right : goal.returns-in-Some-clause-right
returns-in-Some-clause-right c =
    let (others, works) = has_first (wrong_works_in c.in-Ok.bodies) c.in-Some.line (c.in-Some.ensures ∙ ap (λ (x : List Body). first_line (wrong_works_in x)) c.as_slice.ensures) in
    record { code = record { bodies = c.in-Ok.bodies }; tree = has_tree _ _ c.in-Ok.ensures.are_bodies c.in-Ok.ensures.taken; others = others; works = works }

pub returns-in-None-clause-right : goal.returns-in-None-clause-right
returns-in-None-clause-right c =
    record {
      tree = has_tree _ _ c.in-Ok.ensures.are_bodies c.in-Ok.ensures.taken;
      works = has_none (wrong_works_in c.in-Ok.bodies) (c.in-None.ensures ∙ ap (λ (x : List Body). first_line (wrong_works_in x)) c.as_slice.ensures);
    }

pub returns-in-None-clause-fit : goal.returns-in-None-clause-fit
returns-in-None-clause-fit c =
    are_fit c.in-Ok.bodies _ c.in-Ok.ensures.are_bodies (has_none (wrong_works_in c.in-Ok.bodies) (c.in-None.ensures ∙ ap (λ (x : List Body). first_line (wrong_works_in x)) c.as_slice.ensures)) c.in-Ok.ensures.within
