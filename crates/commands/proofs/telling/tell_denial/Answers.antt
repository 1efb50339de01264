-- a prefix of the table's name, of the rule behind it, or the place behind both
use Rattle.std.proofs.{Common.{ℕ, List, ◌++◌, Ok, Err, codes, sym, subst}, lemmas.Result.{err_from_is_err_and}}
use Rattle.osek_io.specs.Sunk.{sunk, Writes}
use Rattle.command_runs.specs.{CheckRules.{check_rule_name}, Telling.{TellsText}}
use Rattle.command_runs.proofs.Prefixes.{told_first, told_behind}
use Rattle.commands.proofs.telling.tell_denial.Goals as goal

pub returns-in_err-put_two : goal.returns-in_err-put_two
returns-in_err-put_two g c =
    let p = err_from_is_err_and c.from_residual.result c.from_residual.ensures.1 in
    let old = sunk g.E.Sink c.args.err.now in
    let new = sunk g.E.Sink c.put_two.new.err in
    let head = c.args.table.now ++ codes ": " in
    let rule = check_rule_name c.args.denial.now.rule ++ codes " " in
    let place = c.args.denial.now.place ++ codes "\n" in
    let first : TellsText old new head (Err p.0) = subst (λ (w : List ℕ). TellsText old new (w ++ codes ": ") (Err p.0)) c.as_bytes.ensures.value c.in_err-put_two.ensures in
    subst (TellsText old new (head ++ rule ++ place)) (sym p.1) (told_first old new (head ++ rule) place p.0 (told_first old new head rule p.0 first))

pub returns-in_err-put_two-2 : goal.returns-in_err-put_two-2
returns-in_err-put_two-2 g c =
    let p = err_from_is_err_and c.from_residual-in_err-put_two-2.result c.from_residual-in_err-put_two-2.ensures.1 in
    let old = sunk g.E.Sink c.args.err.now in
    let mid = sunk g.E.Sink c.put_two.new.err in
    let new = sunk g.E.Sink c.put_two-2.new.err in
    let head = c.args.table.now ++ codes ": " in
    let rule = check_rule_name c.args.denial.now.rule ++ codes " " in
    let place = c.args.denial.now.place ++ codes "\n" in
    let first : Writes old mid head = subst (λ (w : List ℕ). Writes old mid (w ++ codes ": ")) c.as_bytes.ensures.value c.in_ok-put_two.ensures in
    let second : TellsText mid new rule (Err p.0) = subst (λ (w : List ℕ). TellsText mid new (w ++ codes " ") (Err p.0)) c.name.ensures c.in_err-put_two-2.ensures in
    subst (TellsText old new (head ++ rule ++ place)) (sym p.1) (told_first old new (head ++ rule) place p.0 (told_behind old mid new head rule (Err p.0) first second))

pub returns : goal.returns
returns g c =
    let old = sunk g.E.Sink c.args.err.now in
    let mid = sunk g.E.Sink c.put_two.new.err in
    let next = sunk g.E.Sink c.put_two-2.new.err in
    let new = sunk g.E.Sink c.put_two-3.new.err in
    let head = c.args.table.now ++ codes ": " in
    let rule = check_rule_name c.args.denial.now.rule ++ codes " " in
    let place = c.args.denial.now.place ++ codes "\n" in
    let r = c.put_two-3.result in
    let first : Writes old mid head = subst (λ (w : List ℕ). Writes old mid (w ++ codes ": ")) c.as_bytes.ensures.value c.in_ok-put_two.ensures in
    let second : Writes mid next rule = subst (λ (w : List ℕ). Writes mid next (w ++ codes " ")) c.name.ensures c.in_ok-put_two-2.ensures in
    let third : TellsText next new place r = subst (λ (w : List ℕ). TellsText next new (w ++ codes "\n") r) c.as_slice.ensures c.put_two-3.ensures in
    let both : Writes old next (head ++ rule) = told_behind old mid next head rule (Ok tt) first second in
    told_behind old next new (head ++ rule) place r both third
