-- The blocks of one statement, as the walk over a list makes them.
use Rattle.std.specs.Prelude.{ℕ, ◌+◌, List, [], ◌∷◌, ◌++◌, Some, None}
use Rattle.osek_values.specs.Numbers.{block_no}
use Rattle.osek_standard.specs.declared.block.{Block.{Block}, Kind.{Kind}}
use Rattle.osek_standard.specs.declared.block.Kind.TheVariants as kind
use Rattle.oil_system.specs.declared.system.System.{System}
use Rattle.task_code.specs.{declared.tree.{Condition.{Condition, TheVariants.{Choice, Always}}, Statement.{Statement, TheVariants.{Work, If, While, Call}}}, Statements.{nodes}}
use Rattle.block_graph.specs.{declared.locks.Opener.{Opener}, Locks.{open_behind, open_behind_call}, Blocks.{block, entry, kind_of, blocks_of}}

-- how many statements there are in a statement, at all depths and itself among them
abbrev pub statement_nodes : Statement → ℕ
statement_nodes (Work line count) = 1
statement_nodes (If line branch None) = nodes branch + 1
statement_nodes (If line branch (Some otherwise)) = nodes branch + nodes otherwise + 1
statement_nodes (While line condition body) = nodes body + 1
statement_nodes (Call line call) = 1

-- the locks that are open behind a statement
abbrev pub locks_behind : Statement → List Opener → List Opener
locks_behind (Work line count) locks = locks
locks_behind (If line branch None) locks = locks
locks_behind (If line branch (Some otherwise)) locks = open_behind branch locks
locks_behind (While line condition body) locks = locks
locks_behind (Call line call) locks = open_behind_call locks call

-- what a loop's head does, where block `out` follows the loop
abbrev pub loop_kind : Condition → ℕ → Kind
loop_kind Choice out = kind.Choice (block_no out)
loop_kind Always out = kind.Loop

-- the blocks of a statement that begins at block n and behind which block `out` follows
abbrev pub statement_blocks : System → Statement → (n out : ℕ) → List Opener → List Block
statement_blocks s (Work line count) n out locks = block locks (kind.Work count) line out ∷ []
statement_blocks s (If line branch None) n out locks =
    block locks (kind.Choice (block_no out)) line (entry branch (n + 1) out) ∷ blocks_of s branch (n + 1) out locks
statement_blocks s (If line branch (Some otherwise)) n out locks =
    let first = n + 1 in let second = first + nodes branch in
    block locks (kind.Choice (block_no (entry otherwise second out))) line (entry branch first out)
    ∷ (blocks_of s branch first out locks ++ blocks_of s otherwise second out locks)
statement_blocks s (While line condition body) n out locks =
    block locks (loop_kind condition out) line (entry body (n + 1) n) ∷ blocks_of s body (n + 1) n locks
statement_blocks s (Call line call) n out locks = block locks (kind_of s call) line out ∷ []
