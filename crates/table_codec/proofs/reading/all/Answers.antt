use Rattle.std.proofs.{Common.{◌≡◌, ◌∙◌, sym, ap, subst, arith}, lemmas.Result.{err_from_is_err_and}}
use Rattle.osek_values.proofs.Refusals.{refuses_map}
use Rattle.abstract_state.specs.declared.table.PlainTable.{PlainTable}
use Rattle.numbered_sets.specs.PlainTables.{plain_table}
use Rattle.table_codec.specs.{declared.fault.TableRule.TheVariants.{K5}, Faults.{bad_row}, Spelling.{spelling, IsSpellable}}
use Rattle.table_codec.proofs.{FieldReads.{fault_of}, TableReads.{behind_fault, spelled_whole, none_left}}
use Rattle.table_codec.proofs.reading.all.Goals as goal

pub returns-in_err-rows-clause-err : goal.returns-in_err-rows-clause-err
returns-in_err-rows-clause-err c =
    let p = err_from_is_err_and c.from_residual-in_err-rows.result c.from_residual-in_err-rows.ensures.1 in
    rw (p.1, p.2) (refuses_map c.in_err-rows.field-0.0 _ _ (λ f bad. bad_row c.read_magic.new.reader c.in_ok-read_magic.ensures.ok bad) c.in_err-rows.ensures.err)

pub returns-then-left-ne0-clause-err : goal.returns-then-left-ne0-clause-err
returns-then-left-ne0-clause-err c =
    behind_fault c.args.app.now c.args.reader.now c.read_magic.new.reader c.read_rows.new.reader (plain_table c.read_rows.new.pool c.in_ok-rows.rows) c.in_ok-read_magic.ensures.ok c.in_ok-rows.ensures.table c.fault.result
    (omega (arith, c.if-left-ne0.true, c.left-left.ensures)) (c.fault.ensures ∙ ap (fault_of K5) c.left-left.ensures)

pub returns-clause-ok : goal.returns-clause-ok
returns-clause-ok c =
    let app = c.args.app.now in
    let whole = none_left c.read_rows.new.reader (sym c.left-left.ensures ∙ c.if-left-ne0.false) in
    subst (λ (t : PlainTable). IsSpellable app t × (spelling app t ≡ c.args.reader.now)) (sym c.of.ensures)
    (c.in_ok-rows.ensures.table.spellable, spelled_whole app c.args.reader.now c.read_magic.new.reader c.read_rows.new.reader (plain_table c.read_rows.new.pool c.in_ok-rows.rows) c.in_ok-read_magic.ensures.ok c.in_ok-rows.ensures.table whole)
