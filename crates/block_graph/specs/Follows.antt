-- What follows a statement of a body, in the words of control flow: where each goes by a choice, and with which locks open.
use Rattle.std.specs.Prelude.{◌≡◌, ℕ, ◌+◌, ◌-◌, Bool, true, false, List, [], ◌∷◌, ◌++◌, length, map, take, Some, slice_index_or}
use Rattle.osek_standard.specs.declared.block.{Block.{Block}, Kind.{Kind}}
use Rattle.osek_standard.specs.declared.block.Kind.TheVariants as kind
use Rattle.osek_standard.specs.Validity.{no_block}
use Rattle.oil_system.specs.declared.system.System.{System}
use Rattle.task_code.specs.declared.{call.Call.{Call, TheVariants.{LockCall}}, tree.{Body.{Body}, BodyKind.TheVariants.{Task}, Condition.{Condition, TheVariants.{Choice, Always}}}}
use Rattle.task_code.specs.Statements.{Statements, closed, work_then, if_then, if_else_then, while_then, call_then, nodes}
use Rattle.block_graph.specs.{declared.locks.{Opener.{Opener}, Role.{Role, TheVariants.{Opens, Closes}}}, Locks.{behind_call as behind_the_call, role_of}}
use Rattle.block_graph.specs.Blocks.{body_blocks, is_locked}

-- ---- places

-- a list that has a statement, and the list that stands behind its first
pub data Rest : Statements → Statements → Type 0 where
  behind_work : {line count : ℕ} {next : Statements} → Rest (work_then line count next) next
  behind_if : {line : ℕ} {branch next : Statements} → Rest (if_then line branch next) next
  behind_if_else : {line : ℕ} {branch otherwise next : Statements} → Rest (if_else_then line branch otherwise next) next
  behind_while : {line : ℕ} {condition : Condition} {inner next : Statements} → Rest (while_then line condition inner next) next
  behind_call : {line : ℕ} {call : Call} {next : Statements} → Rest (call_then line call next) next

-- the branches of an `if`, each by its choice
pub data Branch : Bool → Statements → Statements → Type 0 where
  -- of an `if` with no `else`
  only : {line : ℕ} {branch next : Statements} → Branch true (if_then line branch next) branch
  first : {line : ℕ} {branch otherwise next : Statements} → Branch true (if_else_then line branch otherwise next) branch
  other : {line : ℕ} {branch otherwise next : Statements} → Branch false (if_else_then line branch otherwise next) otherwise

-- a way through a body to a statement, with those that stand from it on in its list; or to the end of a list
pub data Way (body : Statements) : Statements → Type 0 where
  -- to the body's first statement
  start : Way body body
  -- past a statement, to the next of its list
  past : {xs next : Statements} → Rest xs next → Way body xs → Way body next
  -- into a branch of an `if`
  into_branch : {choice : Bool} {xs branch : Statements} → Branch choice xs branch → Way body xs → Way body branch
  -- into the body of a `while`
  into_loop : {line : ℕ} {condition : Condition} {inner next : Statements} → Way body (while_then line condition inner next) → Way body inner

-- a place of a body: a statement, by the way to it, or the closing brace
pub data Place (body : Statements) : Type 0 where
  statement : {xs : Statements} → Way body xs → Place body
  brace : Place body

-- ---- what follows

mutual
  -- where one comes who goes on at the end of a way
  pub data Enters {body : Statements} : (xs : Statements) → Way body xs → Place body → Type 0 where
    -- to the statement that stands there
    a_statement : {xs next : Statements} {w : Way body xs} → Rest xs next → Enters xs w (statement w)
    -- where the list ends there, to what follows its last
    no_more : {line : ℕ} {w : Way body (closed line)} {q : Place body} → Ends (closed line) w q → Enters (closed line) w q

  -- what follows the last of a list
  pub data Ends {body : Statements} : (xs : Statements) → Way body xs → Place body → Type 0 where
    -- of the body: its closing brace
    of_body : Ends body start brace
    -- of a branch: what follows the `if`
    of_branch : {choice : Bool} {xs branch next : Statements} {b : Branch choice xs branch} {r : Rest xs next} {w : Way body xs} {q : Place body} → Enters next (past r w) q → Ends branch (into_branch b w) q
    -- of a loop's body: the `while`
    of_loop : {line : ℕ} {condition : Condition} {inner next : Statements} {w : Way body (while_then line condition inner next)} → Ends inner (into_loop w) (statement w)
    -- a list has one end, wherever one stands in it
    of_rest : {xs next : Statements} {r : Rest xs next} {w : Way body xs} {q : Place body} → Ends xs w q → Ends next (past r w) q

-- where the statement at the end of a way goes by a choice: 1 is true, and 0 is false
pub data GoesTo {body : Statements} : (xs : Statements) → Way body xs → Bool → Place body → Type 0 where
  -- `work` to what follows it
  a_work : {line count : ℕ} {next : Statements} {choice : Bool} {w : Way body (work_then line count next)} {q : Place body} → Enters next (past behind_work w) q → GoesTo (work_then line count next) w choice q
  -- a call to what follows it
  a_call : {line : ℕ} {call : Call} {next : Statements} {choice : Bool} {w : Way body (call_then line call next)} {q : Place body} → Enters next (past behind_call w) q → GoesTo (call_then line call next) w choice q
  -- an `if` into the branch of the choice
  a_branch : {choice : Bool} {xs branch : Statements} {b : Branch choice xs branch} {w : Way body xs} {q : Place body} → Enters branch (into_branch b w) q → GoesTo xs w choice q
  -- an `if` with no `else`, by choice 0, to what follows it
  no_else : {line : ℕ} {branch next : Statements} {w : Way body (if_then line branch next)} {q : Place body} → Enters next (past behind_if w) q → GoesTo (if_then line branch next) w false q
  -- `while (1)` into its body
  a_loop : {line : ℕ} {inner next : Statements} {choice : Bool} {w : Way body (while_then line Always inner next)} {q : Place body} → Enters inner (into_loop w) q → GoesTo (while_then line Always inner next) w choice q
  -- `while (?)`, by choice 1, into its body
  one_more : {line : ℕ} {inner next : Statements} {w : Way body (while_then line Choice inner next)} {q : Place body} → Enters inner (into_loop w) q → GoesTo (while_then line Choice inner next) w true q
  -- `while (?)`, by choice 0, to what follows it
  enough : {line : ℕ} {inner next : Statements} {w : Way body (while_then line Choice inner next)} {q : Place body} → Enters next (past behind_while w) q → GoesTo (while_then line Choice inner next) w false q

-- ---- open locks

-- the open locks behind a lock call, be it allowed or not: an opener opens its own, and a closer closes the last
abbrev pub after_role : List Opener → Role → List Opener
after_role locks (Opens opener) = locks ++ opener ∷ []
after_role locks (Closes opener) = take (length locks - 1) locks

-- those behind the first of a list; any other call or statement leaves them
abbrev pub after_first : List Opener → Statements → List Opener
after_first locks (call_then line (LockCall lock) next) = after_role locks (role_of lock)
after_first locks _ = locks

-- Control flow comes to a place of a body with these locks open, the last opened last: from the start with none, and from
-- a statement to where it goes.
pub data Comes {body : Statements} : Place body → List Opener → Type 0 where
  from_start : {q : Place body} → Enters body start q → Comes q []
  from_statement : {xs : Statements} {w : Way body xs} {choice : Bool} {q : Place body} {locks : List Opener} → Comes (statement w) locks → GoesTo xs w choice q → Comes q (after_first locks xs)

-- ---- the order of the text

-- how many statements a way passes with the first of a list: it, and those in it
abbrev pub passed : {xs next : Statements} → Rest xs next → ℕ
passed behind_work = 1
passed (behind_if {branch = branch}) = nodes branch + 1
passed (behind_if_else {branch = branch} {otherwise = otherwise}) = nodes branch + nodes otherwise + 1
passed (behind_while {inner = inner}) = nodes inner + 1
passed behind_call = 1

-- how many it passes into a branch: the `if`, and the branch before
abbrev pub passed_into : {choice : Bool} {xs branch : Statements} → Branch choice xs branch → ℕ
passed_into only = 1
passed_into first = 1
passed_into (other {branch = branch}) = nodes branch + 1

-- how many statements stand before the end of a way
abbrev pub before : {body xs : Statements} → Way body xs → ℕ
before start = 0
before (past r w) = before w + passed r
before (into_branch b w) = before w + passed_into b
before (into_loop w) = before w + 1

-- the number of a place: how many statements stand before it
abbrev pub number : {body : Statements} → Place body → ℕ
number (statement w) = before w
number {body} brace = nodes body

-- the line of the first statement of a list
abbrev pub statement_line : {xs next : Statements} → Rest xs next → ℕ
statement_line (behind_work {line = line}) = line
statement_line (behind_if {line = line}) = line
statement_line (behind_if_else {line = line}) = line
statement_line (behind_while {line = line}) = line
statement_line (behind_call {line = line}) = line

-- ---- blocks

-- the block of a place of a body that begins at block n
abbrev pub block_at : System → (body : Body) → (n : ℕ) → Place body.statements → Block
block_at s body n p = slice_index_or (body_blocks s body n) (number p) no_block

-- the block to which a block leads by a choice
abbrev pub leads_by : Kind → ℕ → Bool → ℕ
leads_by (kind.Choice out) next false = out.0
leads_by _ next choice = next

abbrev pub leads : Block → Bool → ℕ
leads block choice = leads_by block.kind block.next.0 choice

-- where each block of a list leads, by choice 1 and by choice 0
abbrev pub exits_of : List Block → List (ℕ × ℕ)
exits_of blocks = map (λ (b : Block). (leads b true, leads b false)) blocks

-- By whatever way control flow comes to a place of a body that begins at block n, the same locks are open. Its block is
-- locked where there is one, a call is allowed with them, and at the closing brace there is none.
pub record LocksFollow (s : System) (body : Body) (n : ℕ) : Type 0 where
  pub same : (p : Place body.statements) (locks others : List Opener) → Comes p locks → Comes p others → locks ≡ others
  pub locked : (p : Place body.statements) (locks : List Opener) → Comes p locks → (block_at s body n p).locked ≡ is_locked locks
  pub allowed : (line : ℕ) (call : Call) (next : Statements) (w : Way body.statements (call_then line call next)) (locks : List Opener) → Comes (statement w) locks → behind_the_call locks call ≡ Some (after_first locks (call_then line call next))
  pub at_brace : (locks : List Opener) → Comes {body = body.statements} brace locks → locks ≡ []

-- ---- a worked case

-- task T {
--   if (?) {
--     work 5;
--   }
--   while (?) {
--     work 7;
--   }
--   while (1) { }
-- }
abbrev pub worked : Body
worked = record {
  kind = Task;
  line = 1;
  owner = record { name = 84 ∷ []; line = 1 };
  statements = if_then 2 (work_then 3 5 (closed 4)) (while_then 5 Choice (work_then 6 7 (closed 7)) (while_then 8 Always (closed 8) (closed 9)));
}

-- from block 10 on
abbrev pub worked_exits : List (ℕ × ℕ)
worked_exits = (11, 12) ∷ (12, 12) ∷ (13, 14) ∷ (12, 12) ∷ (14, 14) ∷ (15, 15) ∷ []
