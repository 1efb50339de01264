use Rattle.std.proofs.{Common.{List, length, sym, ap, subst, arith}, lemmas.{List.{length_push}, Result.{err_from_is_err_and}}}
use Rattle.abstract_state.specs.declared.value.PartValue.{PartValue}
use Rattle.table_codec.specs.ListedShapes.{point_of, component_of}
use Rattle.table_codec.proofs.ReadSoFar.{AreValuesSoFar, no_values, next_value}
use Rattle.table_codec.specs.Faults.{bad_count}
use Rattle.table_codec.proofs.sets.listed.Goals as goal

pub returns-in_err-count-clause-err : goal.returns-in_err-count-clause-err
returns-in_err-count-clause-err c =
    let p = err_from_is_err_and c.from_residual.result c.from_residual.ensures.1 in
    rw (p.1, p.2) (bad_count c.in_err-count.ensures.err)

pub loop-init : goal.loop-init
loop-init c = record {
  values = subst (λ (vs : List PartValue). AreValuesSoFar c.args.app.now (point_of c.args.shape.now) (component_of c.args.shape.now) c.in_ok-count.count c.args.reader.now vs c.count.new.reader) (sym c.new-values.ensures)
      (no_values c.args.app.now (point_of c.args.shape.now) (component_of c.args.shape.now) c.in_ok-count.count c.args.reader.now c.count.new.reader c.in_ok-count.ensures.ok.1);
  size = ap (λ (vs : List PartValue). length vs) c.new-values.ensures;
}

pub loop-preserved : goal.loop-preserved
loop-preserved c =
    let more = c.in_ok-push.ensures.ok in
    record {
      values = subst (λ (vs : List PartValue). AreValuesSoFar c.args.app.now (point_of c.args.shape.now) (component_of c.args.shape.now) c.in_ok-count.count c.args.reader.now vs c.next_value.new.reader) (sym more)
          (next_value c.args.app.now (point_of c.args.shape.now) (component_of c.args.shape.now) c.in_ok-count.count c.args.reader.now c.loop.values c.loop.reader c.next_value.new.reader c.in_ok-next.next c.loop.invariant.values
          c.in_ok-next.ensures.ok);
      size = omega (arith, ap (λ (vs : List PartValue). length vs) more, length_push c.loop.values c.in_ok-next.next, c.loop.invariant.size);
    }
