use Rattle.std.proofs.Common.{◌≡◌, ℕ, ◌+◌, ◌-◌, List, [], ◌∷◌, ◌++◌, length, length-drop, append_assoc, ◌∙◌, sym, ap, subst, drop, rules, arith}
use Rattle.std.proofs.lemmas.List.{take_all}
use Rattle.osek_values.specs.Numbers.{block_no}
use Rattle.osek_standard.specs.declared.block.Block.{Block}
use Rattle.osek_standard.specs.declared.block.Kind.TheVariants as kind
use Rattle.task_code.specs.{declared.tree.Statement.{Statement}, Statements.{closing_line}, StatementLists.{list_of}}
use Rattle.block_graph.specs.{Blocks.{block, entry, blocks_of}, StatementBlocks.{loop_kind, statement_blocks}}
use Rattle.block_graph.proofs.BlocksSteps.{laid_out, nodes_left, counts_left}
use Rattle.block_graph.proofs.layout.+layout.Goals as goal

pub lay_out-loop-i-preserved : goal.lay_out-loop-i-preserved
lay_out-loop-i-preserved t c =
    let s = c.args.system.now in
    let items = c.as_slice-statements.result.now in
    let close = closing_line c.args.list.now in
    let i = c.loop-i.i in
    let n = c.loop-i.number in
    let st = c.index-statements-i.result in
    let lt = c.loop-i-test.true in
    let item = c.index-statements-i.is in
    let left = nodes_left s items i close n c.args.after st lt item in
    record {
      same = subst (λ (k : ℕ). c.lay_out_statement.new.blocks.items ++ blocks_of s (list_of (drop (i + 1) items) close) (n + k) c.args.after c.locks_behind-open.result ≡ c.args.blocks.now.items ++ blocks_of s c.args.list.now c.args.first c.args.after c.args.locks.now) (sym c.statement_nodes.ensures)
          (laid_out s items i close n c.args.after st lt item c.loop-i.open c.locks_behind-open.result c.follower-out.result c.loop-i.blocks.items c.lay_out_statement.new.blocks.items _ c.loop-i.invariant.same
          (c.follower-out.ensures close
          ∙ ap (λ (xs : List Statement). entry (list_of xs close) (n + c.statement_nodes.result) c.args.after) (take_all (length items - (i + 1)) (drop (i + 1) items) (omega (arith, length-drop (i + 1) items)))
          ∙ ap (λ (k : ℕ). entry (list_of (drop (i + 1) items) close) (n + k) c.args.after) c.statement_nodes.ensures)
          c.in_ok-lay_out_statement.ensures
          c.locks_behind-open.ensures);
      room = let before = c.loop-i.invariant.room in let here = c.statement_nodes.ensures in omega (arith, left, before, here);
      fewer = let before = c.loop-i.invariant.fewer in omega (arith, left, before);
      counts = counts_left s items i close n c.args.after st lt item c.loop-i.invariant.counts;
    }

pub lay_out_statement-returns-in_ok-lay_out-in-If-default-default-None : goal.lay_out_statement-returns-in_ok-lay_out-in-If-default-default-None
lay_out_statement-returns-in_ok-lay_out-in-If-default-default-None t c =
    let s = c.args.system.now in
    let n = c.args.number in
    let out = c.args.out in
    let locks = c.args.locks.now in
    let before = c.args.blocks.now.items in
    let line = c.in-If-default-default-None.line in
    let branch = c.in-If-default-default-None.then in
    let rest = blocks_of s branch (n + 1) out locks in
    let head : c.block-in-If-default-default-None.result ≡ block locks (kind.Choice (block_no out)) line (entry branch (n + 1) out) = c.block-in-If-default-default-None.ensures ∙ (λ i. block locks (kind.Choice (c.block_no.ensures i)) line (c.entry-next.ensures i)) in
    let same : statement_blocks s c.args.statement.now n out locks ≡ block locks (kind.Choice (block_no out)) line (entry branch (n + 1) out) ∷ rest = search rules in
    c.in_ok-lay_out-in-If-default-default-None.ensures
    ∙ (λ i. (c.in_ok-push-in-If-default-default-None.ensures.items ∙ (λ j. before ++ head j ∷ [])) i ++ rest)
    ∙ append_assoc before (block locks (kind.Choice (block_no out)) line (entry branch (n + 1) out) ∷ []) rest
    ∙ sym (ap (λ (blocks : List Block). before ++ blocks) same)

pub lay_out_statement-returns-in_ok-lay_out-in-While : goal.lay_out_statement-returns-in_ok-lay_out-in-While
lay_out_statement-returns-in_ok-lay_out-in-While t c =
    let s = c.args.system.now in
    let n = c.args.number in
    let out = c.args.out in
    let locks = c.args.locks.now in
    let before = c.args.blocks.now.items in
    let line = c.in-While.line in
    let body = c.in-While.body in
    let rest = blocks_of s body (n + 1) n locks in
    let head : c.block-in-While.result ≡ block locks (loop_kind c.in-While.condition out) line (entry body (n + 1) n) = c.block-in-While.ensures ∙ (λ i. block locks (c.loop_kind.ensures i) line (c.entry-next-in-While.ensures i)) in
    c.in_ok-lay_out-in-While.ensures
    ∙ (λ i. (c.in_ok-push-in-While.ensures.items ∙ (λ j. before ++ head j ∷ [])) i ++ rest)
    ∙ append_assoc before (block locks (loop_kind c.in-While.condition out) line (entry body (n + 1) n) ∷ []) rest
    ∙ sym (ap (λ (st : Statement). before ++ statement_blocks s st n out locks) c.in-While.is)
