use Rattle.std.proofs.Common.{◌≡◌, ◌∙◌, ◌<◌, ◌++◌, ◌∷◌, [], true, false, sym, arith}
use Rattle.osek_values.specs.Numbers.{res_no}
use Rattle.osek_standard.specs.Well.{IsStack}
use Rattle.osek_standard.proofs.StackLaws.{push_stack}
use Rattle.table_codec.proofs.{FieldReads.{number_barred}, StackEnds.{stack_last}}
use Rattle.table_codec.proofs.values.resource.Goals as goal
use Rattle.table_codec.proofs.values.resource.Goals.{else-is_takable-via-then-is_takable+else-not-has, else-is_takable-via-else-is_takable}

pub returns-then-not-has-clause-ok : goal.returns-then-not-has-clause-ok
returns-then-not-has-clause-ok c =
    (push_stack c.args.app.now c.args.held.now (res_no c.in-Some.number) c.requires (c.is_takable.ensures.0 c.if-is_takable.true) (sym c.has.ensures ∙ c.if-not-has.true), c.in-Some.ensures.number)

pub returns-else-is_takable-clause-err : goal.returns-else-is_takable-clause-err
returns-else-is_takable-clause-err c =
    let byte : c.in-Some.number < 256 = omega arith in
    let bars : IsStack c.args.app.now (c.args.held.now ++ res_no c.in-Some.number ∷ []) → ⊥ = elim c.else-is_takable.branch [
      | else-is_takable-via-then-is_takable+else-not-has w ↦ λ may.
          let free = (stack_last c.args.app.now c.args.held.now (res_no c.in-Some.number) may).1 in
          let wrong : true ≡ false = sym w.if-not-has.false ∙ w.has.ensures ∙ free in
          absurd (cc)
      | else-is_takable-via-else-is_takable w ↦ λ may.
          let takable = c.is_takable.ensures.1 (stack_last c.args.app.now c.args.held.now (res_no c.in-Some.number) may).0 in
          let wrong : true ≡ false = sym takable ∙ w.if-is_takable.false in
          absurd (cc)
    ] in
    number_barred 5 (λ n. IsStack c.args.app.now (c.args.held.now ++ res_no n ∷ [])) c.args.reader.now c.byte.new.self c.in-Some.number c.left-left.result c.fault-else-is_takable.result byte c.in-Some.ensures.number bars
    c.left-left.ensures c.fault-else-is_takable.ensures
