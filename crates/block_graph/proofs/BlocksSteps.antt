-- The blocks of a list, one statement after another.
use Rattle.std.proofs.Common.{◌≡◌, ℕ, ◌+◌, ◌<◌, List, [], ◌∷◌, ◌++◌, length, get_or, drop, add-one, drop-cons, append_assoc, refl, sym, ap, subst, ◌∙◌, false, eqb, arith}
use Rattle.std.specs.Prelude.{Some, None}
use Rattle.osek_values.specs.Numbers.{block_no}
use Rattle.osek_standard.specs.declared.block.Block.{Block}
use Rattle.osek_standard.specs.declared.block.Kind.TheVariants as kind
use Rattle.oil_system.specs.declared.system.System.{System}
use Rattle.task_code.specs.{declared.tree.{Condition.TheVariants.{Choice, Always}, Statement.{Statement, TheVariants.{Work, If, While, Call}}}, Fit.{HasCounts}}
use Rattle.task_code.specs.{Statements.{Statements, nodes}, StatementLists.{statement_before, list_of}}
use Rattle.block_graph.specs.{declared.locks.Opener.{Opener}, Locks.{open_behind}, Blocks.{block, entry, blocks_of}}
use Rattle.block_graph.specs.StatementBlocks.{statement_nodes, locks_behind, statement_blocks}

pub nodes_before : (st : Statement) (next : Statements) → nodes (statement_before st next) ≡ statement_nodes st + nodes next
nodes_before (Work line count) next = omega arith
nodes_before (If line branch None) next = omega arith
nodes_before (If line branch (Some otherwise)) next = omega arith
nodes_before (While line condition body) next = omega arith
nodes_before (Call line call) next = omega arith

pub counts_next : (st : Statement) (next : Statements) → HasCounts (statement_before st next) → HasCounts next
counts_next (Work line count) next h = h.1
counts_next (If line branch None) next h = h.1
counts_next (If line branch (Some otherwise)) next h = h.2
counts_next (While line condition body) next h = h.1
counts_next (Call line call) next h = h

module _ (s : System) where
  -- the blocks of a list are those of its first statement, and behind them those of the rest
  pub blocks_before : (st : Statement) (next : Statements) (n after : ℕ) (locks : List Opener)
      → blocks_of s (statement_before st next) n after locks ≡ statement_blocks s st n (entry next (n + statement_nodes st) after) locks ++ blocks_of s next (n + statement_nodes st) after (locks_behind st locks)
  blocks_before (Work line count) next n after locks = refl
  blocks_before (If line branch None) next n after locks =
      let same : n + 1 + nodes branch ≡ n + (nodes branch + 1) = omega arith in
      ap (λ (behind : ℕ). block locks (kind.Choice (block_no (entry next behind after))) line (entry branch (n + 1) (entry next behind after)) ∷ (blocks_of s branch (n + 1) (entry next behind after) locks ++ blocks_of s next behind after locks)) same
  blocks_before (If line branch (Some otherwise)) next n after locks =
      let same : n + 1 + nodes branch + nodes otherwise ≡ n + (nodes branch + nodes otherwise + 1) = omega arith in
      let second = n + 1 + nodes branch in
      ap (λ (behind : ℕ). block locks (kind.Choice (block_no (entry otherwise second (entry next behind after)))) line (entry branch (n + 1) (entry next behind after)) ∷ (blocks_of s branch (n + 1) (entry next behind after) locks ++ (blocks_of s otherwise second (entry next behind after) locks ++ blocks_of s next behind after (open_behind branch locks)))) same
      ∙ ap (λ (more : List Block). block locks (kind.Choice (block_no (entry otherwise second (entry next (n + (nodes branch + nodes otherwise + 1)) after)))) line (entry branch (n + 1) (entry next (n + (nodes branch + nodes otherwise + 1)) after)) ∷ more)
      (sym (append_assoc (blocks_of s branch (n + 1) (entry next (n + (nodes branch + nodes otherwise + 1)) after) locks) (blocks_of s otherwise second (entry next (n + (nodes branch + nodes otherwise + 1)) after) locks) (blocks_of s next (n + (nodes branch + nodes otherwise + 1)) after (open_behind branch locks))))
  blocks_before (While line Choice body) next n after locks =
      let same : n + 1 + nodes body ≡ n + (nodes body + 1) = omega arith in
      ap (λ (behind : ℕ). block locks (kind.Choice (block_no (entry next behind after))) line (entry body (n + 1) n) ∷ (blocks_of s body (n + 1) n locks ++ blocks_of s next behind after locks)) same
  blocks_before (While line Always body) next n after locks =
      let same : n + 1 + nodes body ≡ n + (nodes body + 1) = omega arith in
      ap (λ (behind : ℕ). block locks kind.Loop line (entry body (n + 1) n) ∷ (blocks_of s body (n + 1) n locks ++ blocks_of s next behind after locks)) same
  blocks_before (Call line call) next n after locks = refl

-- a list from a place on
pub list_here : (items : List Statement) (i close : ℕ) (st : Statement) → i < length items → st ≡ get_or items i st → list_of (drop i items) close ≡ statement_before st (list_of (drop (i + 1) items) close)
list_here items i close st lt item =
    let front : drop i items ≡ get_or items i st ∷ drop (i + 1) items = rw add-one (drop-cons items i st lt) in
    ap (λ (xs : List Statement). list_of xs close) front
    ∙ ap (λ (x : Statement). statement_before x (list_of (drop (i + 1) items) close)) (sym item)

-- where a list with a statement is entered
entered : (st : Statement) (next : Statements) (first after : ℕ) → entry (statement_before st next) first after ≡ first
entered (Work line count) next first after = refl
entered (If line branch None) next first after = refl
entered (If line branch (Some otherwise)) next first after = refl
entered (While line condition body) next first after = refl
entered (Call line call) next first after = refl

pub entered_first : (items : List Statement) (close first after : ℕ) → eqb (length items) 0 ≡ false → first ≡ entry (list_of items close) first after
entered_first [] close first after e = absurd cc
entered_first (st ∷ more) close first after e = sym (entered st (list_of more close) first after)

-- a loop that adds the blocks of a list, one statement at a time
module _ (s : System) (items : List Statement) (i close n after : ℕ) (st : Statement) (lt : i < length items) (item : st ≡ get_or items i st) where
  pub laid_out : (locks behind : List Opener) (out : ℕ) (so_far new total : List Block)
      → so_far ++ blocks_of s (list_of (drop i items) close) n after locks ≡ total
      → out ≡ entry (list_of (drop (i + 1) items) close) (n + statement_nodes st) after
      → new ≡ so_far ++ statement_blocks s st n out locks
      → behind ≡ locks_behind st locks
      → new ++ blocks_of s (list_of (drop (i + 1) items) close) (n + statement_nodes st) after behind ≡ total
  laid_out locks behind out so_far new total whole leads adds opens =
      let rest = list_of (drop (i + 1) items) close in
      let split : blocks_of s (list_of (drop i items) close) n after locks ≡ statement_blocks s st n (entry rest (n + statement_nodes st) after) locks ++ blocks_of s rest (n + statement_nodes st) after (locks_behind st locks)
      = ap (λ (l : Statements). blocks_of s l n after locks) (list_here items i close st lt item) ∙ blocks_before s st rest n after locks in
      ap (λ (xs : List Block). xs ++ blocks_of s rest (n + statement_nodes st) after behind) adds
      ∙ ap (λ (o : ℕ). (so_far ++ statement_blocks s st n o locks) ++ blocks_of s rest (n + statement_nodes st) after behind) leads
      ∙ ap (λ (ls : List Opener). (so_far ++ statement_blocks s st n (entry rest (n + statement_nodes st) after) locks) ++ blocks_of s rest (n + statement_nodes st) after ls) opens
      ∙ append_assoc so_far (statement_blocks s st n (entry rest (n + statement_nodes st) after) locks) (blocks_of s rest (n + statement_nodes st) after (locks_behind st locks))
      ∙ ap (λ (xs : List Block). so_far ++ xs) (sym split)
      ∙ whole

  pub nodes_left : nodes (list_of (drop i items) close) ≡ statement_nodes st + nodes (list_of (drop (i + 1) items) close)
  nodes_left = ap nodes (list_here items i close st lt item) ∙ nodes_before st (list_of (drop (i + 1) items) close)

  pub counts_left : HasCounts (list_of (drop i items) close) → HasCounts (list_of (drop (i + 1) items) close)
  counts_left h = counts_next st (list_of (drop (i + 1) items) close) (subst HasCounts (list_here items i close st lt item) h)
