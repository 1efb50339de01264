use Rattle.std.proofs.Common.{◌≡◌, ◌∷◌, [], length, sym, ap, subst, ◌∙◌, arith, get_or-set_same}
use Rattle.std.proofs.lemmas.List.{length-set}
use Rattle.numbered_sets.specs.{declared.numbered_entry.NumberedEntry.{NumberedEntry}, Numbers.{Numbers}, NumberedEntries.{no_set, numbers_at}, Views.{plain_entry, AreNumbersOf}, PlainTables.{row_at}}
use Rattle.point_exits.specs.{Groups.{with_end}, Rows.{IsProperRow}}
use Rattle.point_exits.proofs.{GrowingPools.{end_known}, HeldNumbers.{now_holds, held_back}}
use Rattle.state_flow.specs.{Progress.{AreJoined}, PlainCells.{plain_cells}}
use Rattle.state_flow.proofs.joining.join_end.Goals as goal

pub set-requires : goal.set-requires
set-requires c = c.requires.end.component

pub put-requires-clause-known : goal.put-requires-clause-known
put-requires-clause-known c = c.requires.end.component

pub put-requires-clause-alike : goal.put-requires-clause-alike
put-requires-clause-alike c = sym c.requires.end.numbers.domain

pub put_in-requires-clause-known : goal.put_in-requires-clause-known
put_in-requires-clause-known c = subst (AreNumbersOf c.args.pool.now) (sym (now_holds c.args.entry.now (record { sets = c.put.new.self }) c.args.end.now.component c.args.end.now.numbers c.in_ok-put.ensures.sets)) (end_known c.args.pool.now c.args.entry.now c.args.end.now c.requires.known c.requires.end)

pub put_in-requires-clause-proper : goal.put_in-requires-clause-proper
put_in-requires-clause-proper c = subst (λ (e : NumberedEntry). IsProperRow c.args.app.now (row_at c.args.end.now.target (plain_entry c.args.pool.now e))) (sym (now_holds c.args.entry.now (record { sets = c.put.new.self }) c.args.end.now.component c.args.end.now.numbers c.in_ok-put.ensures.sets)) c.requires.proper

pub put-requires-2-clause-known : goal.put-requires-2-clause-known
put-requires-2-clause-known c =
    let k = c.args.end.now.component in
    omega (arith, c.requires.end.component, ap length c.in_ok-put.ensures.sets, length-set c.args.entry.now.sets k c.args.end.now.numbers)

pub put-requires-2-clause-alike : goal.put-requires-2-clause-alike
put-requires-2-clause-alike c =
    ap (λ (e : NumberedEntry). (numbers_at e c.args.end.now.component).domain) (now_holds c.args.entry.now (record { sets = c.put.new.self }) c.args.end.now.component c.args.end.now.numbers c.in_ok-put.ensures.sets) ∙ same_domain ∙ ap (λ (x : Numbers). x.domain) (sym c.in_ok-own.ensures)
  where
    same_domain : (numbers_at (with_end c.args.entry.now c.args.end.now) c.args.end.now.component).domain ≡ (numbers_at c.args.entry.now c.args.end.now.component).domain
    same_domain = ap (λ (x : Numbers). x.domain) (get_or-set_same c.args.entry.now.sets c.args.end.now.component c.args.end.now.numbers no_set c.requires.end.component) ∙ c.requires.end.numbers.domain

pub returns-clause-entry : goal.returns-clause-entry
returns-clause-entry c =
    held_back c.args.entry.now (record { sets = c.put.new.self }) c.args.end.now.component c.args.end.now.numbers c.in_ok-put.ensures.sets (record { sets = c.put-2.new.self }) c.in_ok-own.own c.in_ok-own.ensures c.in_ok-put-2.ensures.sets

pub returns-clause-joined : goal.returns-clause-joined
returns-clause-joined c = record {
  known = c.in_ok-put_in.ensures.cells;
  joined = subst (λ (e : NumberedEntry). AreJoined c.args.app.now (plain_cells c.args.pool.now c.args.cells.now.list.items) (row_at c.args.end.now.target (plain_entry c.args.pool.now e) ∷ []) (plain_cells c.args.pool.now c.put_in.new.cells.list.items)) (now_holds c.args.entry.now (record { sets = c.put.new.self }) c.args.end.now.component c.args.end.now.numbers c.in_ok-put.ensures.sets)
      c.in_ok-put_in.ensures.joined;
}
