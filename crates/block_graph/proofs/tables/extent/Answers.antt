-- the first body that is the code
use Rattle.std.proofs.Common.{◌≡◌, List, ◌∷◌, ◌+◌, true, drop, sym, ap, ◌∙◌}
use Rattle.std.specs.Prelude.{if◌then◌else◌}
use Rattle.std.proofs.lemmas.List.{drop_more}
use Rattle.task_code.specs.declared.tree.Body.{Body}
use Rattle.block_graph.specs.{Apps.{extent}, Blocks.{size}, Rules.{is_code_of}}
use Rattle.block_graph.proofs.tables.extent.Goals as goal

pub returns-then-is_code_of-clause-is : goal.returns-then-is_code_of-clause-is
returns-then-is_code_of-clause-is c =
    let x : Body = c.body-item.result in
    let n = c.loop-body.first in
    let rest : List Body = drop (c.loop-body.body-index + 1) c.args.bodies.now in
    let found : is_code_of c.args.kind c.args.name.now x ≡ true = sym c.is_code_of.ensures ∙ c.if-is_code_of.true in
    let front : drop c.loop-body.body-index c.args.bodies.now ≡ x ∷ rest = drop_more c.args.bodies.now c.loop-body.body-index x c.loop-body-test.true ∙ ap (λ (y : Body). y ∷ rest) (sym c.body-item.is) in
    let here = ap (λ (xs : List Body). extent c.args.kind c.args.name.now xs n) front ∙ (λ i. if found i then (n, size x) else extent c.args.kind c.args.name.now rest (n + size x)) in
    (λ i. (n, c.size-count.ensures i)) ∙ sym here ∙ c.loop-body.invariant.same
