use Rattle.std.proofs.Common.{List, ℕ, sym, ap, ◌∙◌, arith}
use Rattle.std.proofs.lemmas.Bool.{eqb-true}
use Rattle.bit_words.specs.Further.{further_at}
use Rattle.bit_words.proofs.FurtherLaws.{further_past}
use Rattle.bit_words.proofs.further.copied.Goals as goal

pub returns-then-is_empty-clause-words : goal.returns-then-is_empty-clause-words
returns-then-is_empty-clause-words c = λ k.
    let none = eqb-true _ 0 (sym c.is_empty.ensures ∙ c.if-is_empty.true) in
    ap (λ (ws : List (List ℕ)). further_at ws k) c.new.ensures ∙ sym (further_past c.args.more.now k (omega (arith, none)))
