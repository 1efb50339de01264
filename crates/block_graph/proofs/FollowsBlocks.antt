-- The block of each statement leads to the block of what follows it.
use Rattle.std.proofs.Common.{◌≡◌, ℕ, suc, ◌+◌, ◌-◌, ◌<◌, ◌≤◌, Bool, true, false, List, [], ◌∷◌, ◌++◌, length, get_or, refl, sym, subst, ap, ◌∙◌, arith}
use Rattle.std.proofs.lemmas.List.{get_or_append_left, get_or-append_right}
use Rattle.osek_standard.specs.declared.block.Block.{Block}
use Rattle.osek_standard.specs.declared.block.Kind.TheVariants as kind
use Rattle.osek_standard.specs.Validity.{no_block}
use Rattle.osek_values.specs.Numbers.{block_no}
use Rattle.oil_system.specs.declared.system.System.{System}
use Rattle.task_code.specs.declared.{call.Call.{Call}, tree.{Body.{Body}, Condition.{Condition, TheVariants.{Choice, Always}}}}
use Rattle.task_code.specs.Statements.{Statements, while_then, closing_line, nodes}
use Rattle.block_graph.specs.{declared.locks.Opener.{Opener}, Locks.{open_behind, open_behind_call}, Blocks.{block, blocks_of, body_blocks, end_kind, entry, is_locked, kind_of}}
use Rattle.block_graph.specs.Follows.{Rest, behind_work, behind_if, behind_if_else, behind_while, behind_call, Branch, only, first, other, Way, start, past, into_branch, into_loop, Place, Enters, a_statement, no_more, Ends, of_body, of_branch, of_loop, of_rest, GoesTo, a_work, a_call, a_branch, no_else, a_loop, one_more, enough, passed, passed_into, before, number, statement_line, leads}
use Rattle.block_graph.proofs.OwnersStatements.{blocks_length}

-- ---- blocks of a longer list

behind_head : (x : Block) (xs : List Block) (k i : ℕ) (d : Block) → k ≡ suc i → get_or (x ∷ xs) k d ≡ get_or xs i d
behind_head x xs k i d e = subst (λ m. get_or (x ∷ xs) m d ≡ get_or xs i d) (sym e) refl

behind_part : (xs ys : List Block) (size k i : ℕ) (d : Block) → length xs ≡ size → k ≡ size + i → get_or (xs ++ ys) k d ≡ get_or ys i d
behind_part xs ys size k i d long e =
    let rest : k - size ≡ i = omega arith in
    get_or-append_right xs ys size k d long (omega arith) ∙ ap (λ m. get_or ys m d) rest

in_part : (xs ys : List Block) (size i : ℕ) (d : Block) → length xs ≡ size → i < size → get_or (xs ++ ys) i d ≡ get_or xs i d
in_part xs ys size i d long low = get_or_append_left xs ys d i (omega arith)

-- ---- the parts of a list of statements

-- the locks behind its first
abbrev pub locks_past : {xs next : Statements} → Rest xs next → List Opener → List Opener
locks_past behind_work locks = locks
locks_past behind_if locks = locks
locks_past (behind_if_else {branch = branch}) locks = open_behind branch locks
locks_past behind_while locks = locks
locks_past (behind_call {call = call}) locks = open_behind_call locks call

-- the locks at the end of a way
abbrev pub locks_at : {body xs : Statements} → Way body xs → List Opener
locks_at start = []
locks_at (past r w) = locks_past r (locks_at w)
locks_at (into_branch b w) = locks_at w
locks_at (into_loop w) = locks_at w

rest_nodes : {xs next : Statements} (r : Rest xs next) → nodes xs ≡ passed r + nodes next
rest_nodes behind_work = omega arith
rest_nodes behind_if = omega arith
rest_nodes behind_if_else = omega arith
rest_nodes behind_while = omega arith
rest_nodes behind_call = omega arith

rest_some : {xs next : Statements} → Rest xs next → 0 < nodes xs
rest_some behind_work = omega arith
rest_some behind_if = omega arith
rest_some behind_if_else = omega arith
rest_some behind_while = omega arith
rest_some behind_call = omega arith

branch_nodes : {choice : Bool} {xs branch : Statements} (b : Branch choice xs branch) → passed_into b + nodes branch ≤ nodes xs
branch_nodes only = omega arith
branch_nodes first = omega arith
branch_nodes other = omega arith

branch_some : {choice : Bool} {xs branch : Statements} → Branch choice xs branch → 0 < nodes xs
branch_some only = omega arith
branch_some first = omega arith
branch_some other = omega arith

-- a way stays inside the body
way_inside : {body xs : Statements} (w : Way body xs) → before w + nodes xs ≤ nodes body
way_inside start = omega arith
way_inside (past r w) = omega (arith, rest_nodes r, way_inside w)
way_inside (into_branch b w) = omega (arith, branch_nodes b, way_inside w)
way_inside (into_loop w) = omega (arith, way_inside w)

pub statement_inside : {body xs next : Statements} (r : Rest xs next) (w : Way body xs) → before w < nodes body
statement_inside r w = omega (arith, rest_some r, way_inside w)

-- where a branch ends, of an `if` with number m
abbrev branch_end : {choice : Bool} {xs branch : Statements} → Branch choice xs branch → (m after : ℕ) → ℕ
branch_end (only {branch = branch} {next = next}) m after = entry next (m + 1 + nodes branch) after
branch_end (first {branch = branch} {otherwise = otherwise} {next = next}) m after = entry next (m + 1 + nodes branch + nodes otherwise) after
branch_end (other {branch = branch} {otherwise = otherwise} {next = next}) m after = entry next (m + 1 + nodes branch + nodes otherwise) after

-- it is what follows the `if`
branch_end_rest : {choice : Bool} {xs branch next : Statements} (b : Branch choice xs branch) (r : Rest xs next) (m after : ℕ) → branch_end b m after ≡ entry next (m + passed r) after
branch_end_rest (only {branch = branch} {next = next}) behind_if m after =
    let e : m + 1 + nodes branch ≡ m + (nodes branch + 1) = omega arith in ap (λ k. entry next k after) e
branch_end_rest (first {branch = branch} {otherwise = otherwise} {next = next}) behind_if_else m after =
    let e : m + 1 + nodes branch + nodes otherwise ≡ m + (nodes branch + nodes otherwise + 1) = omega arith in ap (λ k. entry next k after) e
branch_end_rest (other {branch = branch} {otherwise = otherwise} {next = next}) behind_if_else m after =
    let e : m + 1 + nodes branch + nodes otherwise ≡ m + (nodes branch + nodes otherwise + 1) = omega arith in ap (λ k. entry next k after) e

entry_rest : {xs next : Statements} → Rest xs next → (m after : ℕ) → entry xs m after ≡ m
entry_rest behind_work m after = refl
entry_rest behind_if m after = refl
entry_rest behind_if_else m after = refl
entry_rest behind_while m after = refl
entry_rest behind_call m after = refl

-- ---- their blocks

module _ (s : System) where
  -- block i of a list that begins at block m
  abbrev at : Statements → (m after : ℕ) → List Opener → ℕ → Block
  at xs m after locks i = get_or (blocks_of s xs m after locks) i no_block

  rest_at : {xs next : Statements} (r : Rest xs next) (m after : ℕ) (locks : List Opener) (i : ℕ) → at xs m after locks (passed r + i) ≡ at next (m + passed r) after (locks_past r locks) i
  rest_at (behind_work {line} {count} {next}) m after locks i =
      behind_head (block locks (kind.Work count) line (entry next (m + 1) after)) (blocks_of s next (m + 1) after locks) (1 + i) i no_block (omega arith)
  rest_at (behind_if {line} {branch} {next}) m after locks i =
      let inner = m + 1 in let behind = inner + nodes branch in let out = entry next behind after in
      let parts = blocks_of s branch inner out locks in let later = blocks_of s next behind after locks in
      let e : behind ≡ m + (nodes branch + 1) = omega arith in
      behind_head (block locks (kind.Choice (block_no out)) line (entry branch inner out)) (parts ++ later) (nodes branch + 1 + i) (nodes branch + i) no_block (omega arith)
      ∙ behind_part parts later (nodes branch) (nodes branch + i) i no_block (blocks_length s branch inner out locks) refl
      ∙ ap (λ k. at next k after locks i) e
  rest_at (behind_if_else {line} {branch} {otherwise} {next}) m after locks i =
      let inner = m + 1 in let second = inner + nodes branch in let behind = second + nodes otherwise in let out = entry next behind after in
      let parts = blocks_of s branch inner out locks in let others = blocks_of s otherwise second out locks in let later = blocks_of s next behind after (open_behind branch locks) in
      let e : behind ≡ m + (nodes branch + nodes otherwise + 1) = omega arith in
      behind_head (block locks (kind.Choice (block_no (entry otherwise second out))) line (entry branch inner out)) (parts ++ (others ++ later)) (nodes branch + nodes otherwise + 1 + i) (nodes branch + (nodes otherwise + i)) no_block (omega arith)
      ∙ behind_part parts (others ++ later) (nodes branch) (nodes branch + (nodes otherwise + i)) (nodes otherwise + i) no_block (blocks_length s branch inner out locks) refl
      ∙ behind_part others later (nodes otherwise) (nodes otherwise + i) i no_block (blocks_length s otherwise second out locks) refl
      ∙ ap (λ k. at next k after (open_behind branch locks) i) e
  rest_at (behind_while {line} {condition = Choice} {inner} {next}) m after locks i =
      let begin = m + 1 in let behind = begin + nodes inner in
      let parts = blocks_of s inner begin m locks in let later = blocks_of s next behind after locks in
      let e : behind ≡ m + (nodes inner + 1) = omega arith in
      behind_head (block locks (kind.Choice (block_no (entry next behind after))) line (entry inner begin m)) (parts ++ later) (nodes inner + 1 + i) (nodes inner + i) no_block (omega arith)
      ∙ behind_part parts later (nodes inner) (nodes inner + i) i no_block (blocks_length s inner begin m locks) refl
      ∙ ap (λ k. at next k after locks i) e
  rest_at (behind_while {line} {condition = Always} {inner} {next}) m after locks i =
      let begin = m + 1 in let behind = begin + nodes inner in
      let parts = blocks_of s inner begin m locks in let later = blocks_of s next behind after locks in
      let e : behind ≡ m + (nodes inner + 1) = omega arith in
      behind_head (block locks kind.Loop line (entry inner begin m)) (parts ++ later) (nodes inner + 1 + i) (nodes inner + i) no_block (omega arith)
      ∙ behind_part parts later (nodes inner) (nodes inner + i) i no_block (blocks_length s inner begin m locks) refl
      ∙ ap (λ k. at next k after locks i) e
  rest_at (behind_call {line} {call} {next}) m after locks i =
      behind_head (block locks (kind_of s call) line (entry next (m + 1) after)) (blocks_of s next (m + 1) after (open_behind_call locks call)) (1 + i) i no_block (omega arith)

  branch_at : {choice : Bool} {xs branch : Statements} (b : Branch choice xs branch) (m after : ℕ) (locks : List Opener) (i : ℕ) → i < nodes branch
      → at xs m after locks (passed_into b + i) ≡ at branch (m + passed_into b) (branch_end b m after) locks i
  branch_at (only {line} {branch} {next}) m after locks i low =
      let inner = m + 1 in let behind = inner + nodes branch in let out = entry next behind after in
      let parts = blocks_of s branch inner out locks in let later = blocks_of s next behind after locks in
      behind_head (block locks (kind.Choice (block_no out)) line (entry branch inner out)) (parts ++ later) (1 + i) i no_block (omega arith)
      ∙ in_part parts later (nodes branch) i no_block (blocks_length s branch inner out locks) low
  branch_at (first {line} {branch} {otherwise} {next}) m after locks i low =
      let inner = m + 1 in let second = inner + nodes branch in let behind = second + nodes otherwise in let out = entry next behind after in
      let parts = blocks_of s branch inner out locks in let others = blocks_of s otherwise second out locks in let later = blocks_of s next behind after (open_behind branch locks) in
      behind_head (block locks (kind.Choice (block_no (entry otherwise second out))) line (entry branch inner out)) (parts ++ (others ++ later)) (1 + i) i no_block (omega arith)
      ∙ in_part parts (others ++ later) (nodes branch) i no_block (blocks_length s branch inner out locks) low
  branch_at (other {line} {branch} {otherwise} {next}) m after locks i low =
      let inner = m + 1 in let second = inner + nodes branch in let behind = second + nodes otherwise in let out = entry next behind after in
      let parts = blocks_of s branch inner out locks in let others = blocks_of s otherwise second out locks in let later = blocks_of s next behind after (open_behind branch locks) in
      let e : second ≡ m + (nodes branch + 1) = omega arith in
      behind_head (block locks (kind.Choice (block_no (entry otherwise second out))) line (entry branch inner out)) (parts ++ (others ++ later)) (nodes branch + 1 + i) (nodes branch + i) no_block (omega arith)
      ∙ behind_part parts (others ++ later) (nodes branch) (nodes branch + i) i no_block (blocks_length s branch inner out locks) refl
      ∙ in_part others later (nodes otherwise) i no_block (blocks_length s otherwise second out locks) low
      ∙ ap (λ k. at otherwise k out locks i) e

  loop_at : (line : ℕ) (condition : Condition) (inner next : Statements) (m after : ℕ) (locks : List Opener) (i : ℕ) → i < nodes inner
      → at (while_then line condition inner next) m after locks (1 + i) ≡ at inner (m + 1) m locks i
  loop_at line Choice inner next m after locks i low =
      let begin = m + 1 in let behind = begin + nodes inner in
      let parts = blocks_of s inner begin m locks in let later = blocks_of s next behind after locks in
      behind_head (block locks (kind.Choice (block_no (entry next behind after))) line (entry inner begin m)) (parts ++ later) (1 + i) i no_block (omega arith)
      ∙ in_part parts later (nodes inner) i no_block (blocks_length s inner begin m locks) low
  loop_at line Always inner next m after locks i low =
      let begin = m + 1 in let behind = begin + nodes inner in
      let parts = blocks_of s inner begin m locks in let later = blocks_of s next behind after locks in
      behind_head (block locks kind.Loop line (entry inner begin m)) (parts ++ later) (1 + i) i no_block (omega arith)
      ∙ in_part parts later (nodes inner) i no_block (blocks_length s inner begin m locks) low

  -- an `if` leads into the branch of the choice
  branch_leads : {choice : Bool} {xs branch : Statements} (b : Branch choice xs branch) (m after : ℕ) (locks : List Opener)
      → leads (at xs m after locks 0) choice ≡ entry branch (m + passed_into b) (branch_end b m after)
  branch_leads only m after locks = refl
  branch_leads first m after locks = refl
  branch_leads (other {branch = branch} {otherwise = otherwise} {next = next}) m after locks =
      let e : m + 1 + nodes branch ≡ m + (nodes branch + 1) = omega arith in
      let out = entry next (m + 1 + nodes branch + nodes otherwise) after in
      ap (λ k. entry otherwise k out) e

  -- the block of a call leads to what follows it by each choice
  call_leads : (call : Call) (locks : List Opener) (line next : ℕ) (choice : Bool) → leads (block locks (kind_of s call) line next) choice ≡ next
  call_leads c locks line next choice = refl

  -- ---- ways

  module _ (body : Body) (n : ℕ) where
    -- the number of the block that follows the list of a way
    abbrev list_end : {xs : Statements} → Way body.statements xs → ℕ
    list_end start = n + nodes body.statements
    list_end (past r w) = list_end w
    list_end (into_branch b w) = branch_end b (n + before w) (list_end w)
    list_end (into_loop w) = n + before w

    -- block i of the body
    abbrev body_at : ℕ → Block
    body_at i = get_or (body_blocks s body n) i no_block

    -- the body's blocks at the end of a way are those of the list there
    way_at : {xs : Statements} (w : Way body.statements xs) (i : ℕ) → i < nodes xs → body_at (before w + i) ≡ at xs (n + before w) (list_end w) (locks_at w) i
    way_at start i low =
        let end = n + nodes body.statements in
        let here : 0 + i ≡ i = omega arith in
        let begin : n ≡ n + 0 = omega arith in
        ap (λ k. body_at k) here
        ∙ in_part (blocks_of s body.statements n end []) (block [] (end_kind body.kind) (closing_line body.statements) end ∷ []) (nodes body.statements) i no_block (blocks_length s body.statements n end []) low
        ∙ ap (λ m. at body.statements m end [] i) begin
    way_at (past {xs} {next} r w) i low =
        let here : before w + passed r + i ≡ before w + (passed r + i) = omega arith in
        let begin : n + before w + passed r ≡ n + (before w + passed r) = omega arith in
        ap (λ k. body_at k) here
        ∙ way_at w (passed r + i) (omega (arith, rest_nodes r))
        ∙ rest_at r (n + before w) (list_end w) (locks_at w) i
        ∙ ap (λ m. at next m (list_end w) (locks_past r (locks_at w)) i) begin
    way_at (into_branch {branch = branch} b w) i low =
        let here : before w + passed_into b + i ≡ before w + (passed_into b + i) = omega arith in
        let begin : n + before w + passed_into b ≡ n + (before w + passed_into b) = omega arith in
        ap (λ k. body_at k) here
        ∙ way_at w (passed_into b + i) (omega (arith, branch_nodes b))
        ∙ branch_at b (n + before w) (list_end w) (locks_at w) i low
        ∙ ap (λ m. at branch m (branch_end b (n + before w) (list_end w)) (locks_at w) i) begin
    way_at (into_loop {line} {condition} {inner} {next} w) i low =
        let here : before w + 1 + i ≡ before w + (1 + i) = omega arith in
        let begin : n + before w + 1 ≡ n + (before w + 1) = omega arith in
        ap (λ k. body_at k) here
        ∙ way_at w (1 + i) (omega arith)
        ∙ loop_at line condition inner next (n + before w) (list_end w) (locks_at w) i low
        ∙ ap (λ m. at inner m (n + before w) (locks_at w) i) begin

    mutual
      enters_at : {xs : Statements} {w : Way body.statements xs} {q : Place body.statements} → Enters xs w q → entry xs (n + before w) (list_end w) ≡ n + number q
      enters_at (a_statement {w = w} r) = entry_rest r (n + before w) (list_end w)
      enters_at (no_more e) = ends_at e

      ends_at : {xs : Statements} {w : Way body.statements xs} {q : Place body.statements} → Ends xs w q → list_end w ≡ n + number q
      ends_at of_body = refl
      ends_at (of_branch {next = next} {b = b} {r = r} {w = w} e) =
          let begin : n + before w + passed r ≡ n + (before w + passed r) = omega arith in
          branch_end_rest b r (n + before w) (list_end w) ∙ ap (λ m. entry next m (list_end w)) begin ∙ enters_at e
      ends_at of_loop = refl
      ends_at (of_rest e) = ends_at e

    -- the block of a statement
    head_at : {xs : Statements} (w : Way body.statements xs) → 0 < nodes xs → body_at (before w) ≡ at xs (n + before w) (list_end w) (locks_at w) 0
    head_at w some = let here : before w ≡ before w + 0 = omega arith in ap (λ k. body_at k) here ∙ way_at w 0 some

    pub goes_on : {xs : Statements} {w : Way body.statements xs} {choice : Bool} {q : Place body.statements} → GoesTo xs w choice q → leads (body_at (before w)) choice ≡ n + number q
    goes_on (a_work {next = next} {choice = choice} {w = w} e) =
        let begin : n + before w + 1 ≡ n + (before w + 1) = omega arith in
        ap (λ x. leads x choice) (head_at w (omega arith)) ∙ ap (λ m. entry next m (list_end w)) begin ∙ enters_at e
    goes_on (a_call {line = line} {call = call} {next = next} {choice = choice} {w = w} e) =
        let begin : n + before w + 1 ≡ n + (before w + 1) = omega arith in
        ap (λ x. leads x choice) (head_at w (omega arith)) ∙ call_leads call (locks_at w) line (entry next (n + before w + 1) (list_end w)) choice ∙ ap (λ m. entry next m (list_end w)) begin ∙ enters_at e
    goes_on (a_branch {choice = choice} {branch = branch} {b = b} {w = w} e) =
        let begin : n + before w + passed_into b ≡ n + (before w + passed_into b) = omega arith in
        ap (λ x. leads x choice) (head_at w (branch_some b)) ∙ branch_leads b (n + before w) (list_end w) (locks_at w) ∙ ap (λ m. entry branch m (branch_end b (n + before w) (list_end w))) begin ∙ enters_at e
    goes_on (no_else {branch = branch} {next = next} {w = w} e) =
        let begin : n + before w + 1 + nodes branch ≡ n + (before w + (nodes branch + 1)) = omega arith in
        ap (λ x. leads x false) (head_at w (omega arith)) ∙ ap (λ m. entry next m (list_end w)) begin ∙ enters_at e
    goes_on (a_loop {inner = inner} {choice = choice} {w = w} e) =
        let begin : n + before w + 1 ≡ n + (before w + 1) = omega arith in
        ap (λ x. leads x choice) (head_at w (omega arith)) ∙ ap (λ m. entry inner m (n + before w)) begin ∙ enters_at e
    goes_on (one_more {inner = inner} {w = w} e) =
        let begin : n + before w + 1 ≡ n + (before w + 1) = omega arith in
        ap (λ x. leads x true) (head_at w (omega arith)) ∙ ap (λ m. entry inner m (n + before w)) begin ∙ enters_at e
    goes_on (enough {inner = inner} {next = next} {w = w} e) =
        let begin : n + before w + 1 + nodes inner ≡ n + (before w + (nodes inner + 1)) = omega arith in
        ap (λ x. leads x false) (head_at w (omega arith)) ∙ ap (λ m. entry next m (list_end w)) begin ∙ enters_at e

    -- ---- which block is whose

    head_line : {xs next : Statements} (r : Rest xs next) (m after : ℕ) (locks : List Opener) → (at xs m after locks 0).line ≡ statement_line r
    head_line behind_work m after locks = refl
    head_line behind_if m after locks = refl
    head_line behind_if_else m after locks = refl
    head_line (behind_while {condition = Choice}) m after locks = refl
    head_line (behind_while {condition = Always}) m after locks = refl
    head_line behind_call m after locks = refl

    pub line_at : {xs next : Statements} (r : Rest xs next) (w : Way body.statements xs) → (body_at (before w)).line ≡ statement_line r
    line_at r w = ap (λ x. x.line) (head_at w (rest_some r)) ∙ head_line r (n + before w) (list_end w) (locks_at w)

    head_locked : {xs next : Statements} (r : Rest xs next) (m after : ℕ) (locks : List Opener) → (at xs m after locks 0).locked ≡ is_locked locks
    head_locked behind_work m after locks = refl
    head_locked behind_if m after locks = refl
    head_locked behind_if_else m after locks = refl
    head_locked (behind_while {condition = Choice}) m after locks = refl
    head_locked (behind_while {condition = Always}) m after locks = refl
    head_locked behind_call m after locks = refl

    pub locked_at : {xs next : Statements} (r : Rest xs next) (w : Way body.statements xs) → (body_at (before w)).locked ≡ is_locked (locks_at w)
    locked_at r w = ap (λ x. x.locked) (head_at w (rest_some r)) ∙ head_locked r (n + before w) (list_end w) (locks_at w)

    pub brace_at : body_at (nodes body.statements) ≡ block [] (end_kind body.kind) (closing_line body.statements) (n + nodes body.statements)
    brace_at =
        let end = n + nodes body.statements in
        behind_part (blocks_of s body.statements n end []) (block [] (end_kind body.kind) (closing_line body.statements) end ∷ []) (nodes body.statements) (nodes body.statements) 0 no_block
        (blocks_length s body.statements n end []) (omega arith)
