use Rattle.std.proofs.{Common.{rules, ◌≡◌, length, sym, ap, ◌∙◌, arith}, lemmas.Bool.{eqb-true}}
use Rattle.bit_words.specs.{Words.{bits_of_words}, Further.{further_bits}}
use Rattle.bit_words.proofs.FirstWords.{bits_of_none}
use Rattle.bit_words.proofs.further.put_words.Goals as goal

pub returns-then-is_empty-clause-few : goal.returns-then-is_empty-clause-few
returns-then-is_empty-clause-few c = λ n few lt. (let many = c.clear.ensures.others.as_many in omega (arith, many, few))

pub returns-then-is_empty-clause-others : goal.returns-then-is_empty-clause-others
returns-then-is_empty-clause-others c = λ k differ. ap bits_of_words (c.clear.ensures.others.others k differ)

pub returns-then-is_empty-clause-bits : goal.returns-then-is_empty-clause-bits
returns-then-is_empty-clause-bits c =
    let none : length c.args.other.now ≡ 0 = eqb-true (length c.args.other.now) 0 (sym c.is_empty.ensures ∙ c.if-is_empty.true) in
    c.clear.ensures.bits ∙ sym (bits_of_none c.args.other.now none)

pub returns-in_err-make_room-clause-few : goal.returns-in_err-make_room-clause-few
returns-in_err-make_room-clause-few c = λ n few lt. c.in_err-make_room.ensures.few n few (omega (arith, lt))

pub returns-in_err-make_room-clause-others : goal.returns-in_err-make_room-clause-others
returns-in_err-make_room-clause-others c = λ k differ. ap bits_of_words (c.in_err-make_room.ensures.same k)

pub returns-in_err-make_room-clause-err : goal.returns-in_err-make_room-clause-err
returns-in_err-make_room-clause-err c =
    let same : further_bits c.make_room.new.more c.args.component ≡ further_bits c.args.more.now c.args.component = ap bits_of_words (c.in_err-make_room.ensures.same c.args.component) in
    search (rules, same)

pub assign-requires : goal.assign-requires
assign-requires c = omega (arith, c.in_ok-make_room.ensures.room)

pub returns-in_err-assign-clause-few : goal.returns-in_err-assign-clause-few
returns-in_err-assign-clause-few c = λ n few lt.
    let many = c.in_err-assign.ensures.others.as_many in
    let le = c.in_ok-make_room.ensures.few n few (omega (arith, lt)) in
    omega (arith, many, le)

pub returns-in_err-assign-clause-others : goal.returns-in_err-assign-clause-others
returns-in_err-assign-clause-others c = λ k differ. ap bits_of_words (c.in_err-assign.ensures.others.others k differ ∙ c.in_ok-make_room.ensures.same k)

pub returns-in_err-assign-clause-err : goal.returns-in_err-assign-clause-err
returns-in_err-assign-clause-err c =
    let same : further_bits c.assign.new.more c.args.component ≡ further_bits c.args.more.now c.args.component = c.in_err-assign.ensures.err ∙ ap bits_of_words (c.in_ok-make_room.ensures.same c.args.component) in
    search (rules, same)

pub returns-clause-few : goal.returns-clause-few
returns-clause-few c = λ n few lt.
    let many = c.in_ok-assign.ensures.others.as_many in
    let le = c.in_ok-make_room.ensures.few n few (omega (arith, lt)) in
    omega (arith, many, le)

pub returns-clause-others : goal.returns-clause-others
returns-clause-others c = λ k differ. ap bits_of_words (c.in_ok-assign.ensures.others.others k differ ∙ c.in_ok-make_room.ensures.same k)

pub returns-clause-bits : goal.returns-clause-bits
returns-clause-bits c = c.in_ok-assign.ensures.bits
