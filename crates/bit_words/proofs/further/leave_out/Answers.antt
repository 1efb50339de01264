use Rattle.std.proofs.Common.{rules, ◌≡◌, List, ℕ, [], set, refl, sym, ap, ◌∙◌, arith}
use Rattle.std.specs.Prelude.{bit_and, bit_xor}
use Rattle.std.proofs.lemmas.List.{set-get_or}
use Rattle.bit_words.specs.{Words.{bits_of_words}}
use Rattle.bit_words.proofs.{OtherWords.{and_zero_l}, FurtherLaws.{no_further, changed_to, bits_after}}
use Rattle.bit_words.proofs.further.leave_out.Goals as goal

pub returns-then-component-len-clause-bits : goal.returns-then-component-len-clause-bits
returns-then-component-len-clause-bits c =
    let none = no_further c.args.more.now c.args.component (omega (arith, c.if-component-len.true, c.len.ensures)) in
    none ∙ sym (ap (λ m. bit_xor m (bit_and m (bits_of_words c.args.other.now))) none ∙ ap (bit_xor 0) (and_zero_l (bits_of_words c.args.other.now)))

pub returns-in_err-leave_out-clause-others : goal.returns-in_err-leave_out-clause-others
returns-in_err-leave_out-clause-others c = changed_to c.args.more.now _ c.args.component c.leave_out.new.self refl

pub returns-in_err-leave_out-clause-err : goal.returns-in_err-leave_out-clause-err
returns-in_err-leave_out-clause-err c =
    let same : set c.args.more.now c.args.component c.leave_out.new.self ≡ c.args.more.now =
    ap (set c.args.more.now c.args.component) (c.in_err-leave_out.ensures.err ∙ sym (c.at_mut-words.ensures.item [])) ∙ set-get_or c.args.more.now c.args.component [] in
    search (rules, same)

pub returns-clause-others : goal.returns-clause-others
returns-clause-others c = changed_to c.args.more.now _ c.args.component c.leave_out.new.self refl

pub returns-clause-bits : goal.returns-clause-bits
returns-clause-bits c =
    bits_after c.args.more.now _ c.args.component c.leave_out.new.self refl (omega (arith, c.if-component-len.false, c.len.ensures))
    ∙ c.in_ok-leave_out.ensures.bits ∙ ap (λ (ws : List ℕ). bit_xor (bits_of_words ws) (bit_and (bits_of_words ws) (bits_of_words c.args.other.now))) (sym (c.at_mut-words.ensures.item []))
