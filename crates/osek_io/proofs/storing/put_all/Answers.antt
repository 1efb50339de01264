use Rattle.std.proofs.{Common.{◌∙◌, refl, sym, ap, arith}, lemmas.List.{take_all}}
use Rattle.osek_io.specs.Pieces.{grown}
use Rattle.osek_io.proofs.Turns.{grows, grown-nil, length-rest}
use Rattle.osek_io.proofs.storing.put_all.Goals as goal

pub loop-done-init : goal.loop-done-init
loop-done-init g c = record {
  within = omega arith;
  written = sym (grown-nil _);
  no_fault = refl;
}

pub loop-done-preserved : goal.loop-done-preserved
loop-done-preserved g c =
    let bytes = c.args.bytes.now in
    let done = c.loop-done.done in
    record {
      within = omega (arith, c.in-Ok.ensures.bound, length-rest bytes done);
      written = grows _ _ _ bytes done c.in-Ok.count c.loop-done.invariant.written c.in-Ok.ensures.ok;
      no_fault = c.in-Ok.ensures.no_fault ∙ c.loop-done.invariant.no_fault;
    }

pub returns-clause-ok : goal.returns-clause-ok
returns-clause-ok g c = c.loop-done.invariant.written ∙ ap (grown (g.K.Sink.written c.args.sink.now)) (take_all _ _ (omega arith))
