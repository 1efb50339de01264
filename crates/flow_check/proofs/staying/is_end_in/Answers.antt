use Rattle.std.proofs.Common.{length, sym, ap, subst, ◌∙◌, arith, get_or-set_same}
use Rattle.std.specs.Bool.{OnTrue, OnFalse}
use Rattle.std.proofs.lemmas.List.{length-set}
use Rattle.numbered_sets.specs.{declared.numbered_entry.NumberedEntry.{NumberedEntry}, Numbers.{Numbers}, NumberedEntries.{no_set, numbers_at}}
use Rattle.point_exits.proofs.HeldNumbers.{now_holds, held_back}
use Rattle.flow_check.specs.Staying.{IsIn, IsOut, end_at}
use Rattle.flow_check.proofs.staying.is_end_in.Goals as goal

pub set-requires : goal.set-requires
set-requires c = c.requires.set.component

pub put-requires-clause-known : goal.put-requires-clause-known
put-requires-clause-known c = c.requires.set.component

pub put-requires-clause-alike : goal.put-requires-clause-alike
put-requires-clause-alike c = sym c.requires.set.domain

pub put-requires-2-clause-known : goal.put-requires-2-clause-known
put-requires-2-clause-known c =
    omega (arith, c.requires.set.component, ap length c.in_ok-put.ensures.sets, length-set c.args.entry.now.sets c.args.end.now.component c.args.end.now.numbers)

pub put-requires-2-clause-alike : goal.put-requires-2-clause-alike
put-requires-2-clause-alike c =
    ap (λ (e : NumberedEntry). (numbers_at e c.args.end.now.component).domain) (now_holds c.args.entry.now (record { sets = c.put.new.self }) c.args.end.now.component c.args.end.now.numbers c.in_ok-put.ensures.sets)
    ∙ ap (λ (x : Numbers). x.domain) (get_or-set_same c.args.entry.now.sets c.args.end.now.component c.args.end.now.numbers no_set c.requires.set.component) ∙ c.requires.set.domain
    ∙ ap (λ (x : Numbers). x.domain) (sym c.in_ok-own.ensures)

pub returns-clause-entry : goal.returns-clause-entry
returns-clause-entry c =
    held_back c.args.entry.now (record { sets = c.put.new.self }) c.args.end.now.component c.args.end.now.numbers c.in_ok-put.ensures.sets (record { sets = c.put-2.new.self }) c.in_ok-own.own c.in_ok-own.ensures c.in_ok-put-2.ensures.sets

pub returns-clause-within : goal.returns-clause-within
returns-clause-within c = subst (λ (e : NumberedEntry). OnTrue c.is_in-is_in.result (IsIn c.args.rows.now (end_at c.args.end.now.target e))) (now_holds c.args.entry.now (record { sets = c.put.new.self }) c.args.end.now.component c.args.end.now.numbers c.in_ok-put.ensures.sets) c.is_in-is_in.ensures.within

pub returns-clause-out : goal.returns-clause-out
returns-clause-out c = subst (λ (e : NumberedEntry). OnFalse c.is_in-is_in.result (IsOut c.args.rows.now (end_at c.args.end.now.target e))) (now_holds c.args.entry.now (record { sets = c.put.new.self }) c.args.end.now.component c.args.end.now.numbers c.in_ok-put.ensures.sets) c.is_in-is_in.ensures.out
