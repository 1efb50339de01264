use Rattle.std.proofs.{Common.{◌≡◌, ◌∙◌, ◌∷◌, [], ◌++◌, List, ℕ, length, ap}, lemmas.Result.{IfOk-weaker}}
use Rattle.osek_values.specs.declared.numbers.ResNo.{ResNo}
use Rattle.abstract_state.specs.declared.value.{SourceVal.TheVariants.{In}, PartValue.TheVariants.{OfSource}}
use Rattle.table_codec.specs.Spelling.{resource_numbers, value_bytes}
use Rattle.table_codec.proofs.WriteSteps.{routine_put}
use Rattle.table_codec.proofs.writing.put_routine.Goals as goal

pub returns : goal.returns
returns c =
    let x = c.args.routine.now in
    let out = c.args.out.now.items in
    let block = c.in_ok-extend_from_slice.ensures.items ∙ ap (λ (l : List ℕ). c.push.new.self.items ++ l) c.to_be_bytes.ensures in
    let size = c.in_ok-push-2.ensures.items ∙ ap (λ (h : List ResNo). c.extend_from_slice.new.self.items ++ length h ∷ []) c.as_slice-held.ensures in
    IfOk-weaker c.put_stack.result (λ _. c.put_stack.new.out.items ≡ c.push-2.new.self.items ++ resource_numbers c.as_slice-held.result.now) (λ _. c.put_stack.new.out.items ≡ out ++ value_bytes (OfSource (In x)))
    (λ _ put.
    routine_put x out c.push.new.self.items c.extend_from_slice.new.self.items c.push-2.new.self.items c.put_stack.new.out.items c.in_ok-push.ensures.items block size
    (put ∙ ap (λ (h : List ResNo). c.push-2.new.self.items ++ resource_numbers h) c.as_slice-held.ensures))
    c.put_stack.ensures
