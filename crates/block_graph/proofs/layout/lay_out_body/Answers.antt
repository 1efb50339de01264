-- the blocks of the statements, and the end
use Rattle.std.proofs.Common.{◌≡◌, ◌+◌, [], ◌∷◌, ◌++◌, append_assoc, ◌∙◌}
use Rattle.task_code.specs.Statements.{closing_line, nodes}
use Rattle.block_graph.specs.Blocks.{block, end_kind, blocks_of}
use Rattle.block_graph.proofs.layout.lay_out_body.Goals as goal

pub returns : goal.returns
returns c =
    let s = c.args.system.now in
    let body = c.args.body.now.statements in
    let n = c.args.number in
    let before = c.args.blocks.now.items in
    let size = c.nodes.ensures in
    let unlocked = c.new-open.ensures in
    let laid : c.lay_out.new.blocks.items ≡ before ++ blocks_of s body n (n + nodes body) [] = c.in_ok-lay_out.ensures ∙ (λ i. before ++ blocks_of s body n (n + size i) (unlocked i)) in
    let ending : c.block.result ≡ block [] (end_kind c.args.body.now.kind) (closing_line body) (n + nodes body) = c.block.ensures ∙ (λ i. block (unlocked i) (c.end_kind.ensures i) (c.closing_line-close.ensures i) (n + size i)) in
    c.in_ok-push.ensures.items ∙ (λ i. laid i ++ ending i ∷ []) ∙ append_assoc before (blocks_of s body n (n + nodes body) []) (block [] (end_kind c.args.body.now.kind) (closing_line body) (n + nodes body) ∷ [])
