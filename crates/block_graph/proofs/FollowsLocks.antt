-- The locks with which control flow comes to a place are those that the order of the text gives it.
use Rattle.std.proofs.Common.{◌≡◌, ℕ, Bool, true, false, if◌then◌else◌, List, [], ◌∷◌, Some, None, Ok, refl, sym, subst, ap, ◌∙◌}
use Rattle.std.specs.Prelude.{unwrap_or}
use Rattle.oil_system.specs.declared.system.System.{System}
use Rattle.task_code.specs.{declared.{call.Call.{Call, TheVariants.{LockCall}}, tree.Body.{Body}}, Statements.{Statements, call_then, closing_line}}
use Rattle.block_graph.specs.{declared.locks.{Opener.{Opener}, Role.{Role, TheVariants.{Opens, Closes}}}, Blocks.{is_locked}}
use Rattle.block_graph.specs.Locks.{behind_call as behind_the_call, behind_role, may_open, is_last, open_behind, role_of, unlocked_call, unpaired, walked}
use Rattle.block_graph.specs.Follows.{Rest, behind_work, behind_if, behind_if_else, behind_while, behind_call, Branch, only, first, other, Way, start, past, into_branch, into_loop, Place, statement, brace, Enters, a_statement, no_more, Ends, of_body, of_branch, of_loop, of_rest, GoesTo, a_work, a_call, a_branch, no_else, a_loop, one_more, enough, after_role, after_first, Comes, from_start, from_statement, block_at, LocksFollow}
use Rattle.block_graph.proofs.{FollowsBlocks.{brace_at, locked_at, locks_at, locks_past}, PairedLocks.{both_closed, called, closed_with, paired_by}}

-- ---- calls

allowed_by : (test : Bool) (locks left : List Opener) → (if test then Some locks else None) ≡ Some left → left ≡ locks
allowed_by true locks left e = cc
allowed_by false locks left e = absurd cc

left_by_role : (locks left : List Opener) (role : Role) → behind_role locks role ≡ Some left → left ≡ after_role locks role
left_by_role locks left (Opens opener) e = allowed_by (may_open locks opener) (after_role locks (Opens opener)) left e
left_by_role locks left (Closes opener) e = allowed_by (is_last locks opener) (after_role locks (Closes opener)) left e

left_by_others : (locks left : List Opener) → unlocked_call locks ≡ Some left → left ≡ locks
left_by_others [] left e = cc
left_by_others (opener ∷ more) left e = absurd cc

-- a call that is allowed leaves the locks that control flow takes on
left_by_call : (locks left : List Opener) (line : ℕ) (call : Call) (next : Statements) → behind_the_call locks call ≡ Some left → left ≡ after_first locks (call_then line call next)
left_by_call locks left line (LockCall lock) next e = left_by_role locks left (role_of lock) e
left_by_call locks left line _ next e = left_by_others locks left e

-- ---- the parts of a list whose walk doesn't fail

rest_walked : {xs next : Statements} (r : Rest xs next) (locks end : List Opener) → walked xs locks ≡ Ok end → walked next (locks_past r locks) ≡ Ok end
rest_walked behind_work locks end e = e
rest_walked (behind_if {branch = branch} {next = next}) locks end e = (closed_with (walked branch locks) locks (closing_line branch) (walked next) end e).1
rest_walked (behind_if_else {branch = branch} {otherwise = otherwise} {next = next}) locks end e =
    (both_closed locks (walked branch locks) (walked otherwise locks) (closing_line otherwise) (walked next) end e).2
rest_walked (behind_while {inner = inner} {next = next}) locks end e = (closed_with (walked inner locks) locks (closing_line inner) (walked next) end e).1
rest_walked (behind_call {line = line} {call = call} {next = next}) locks end e = (called locks (behind_the_call locks call) line (walked next) end e).1

-- the locks at the end of a branch
abbrev branch_locks : {choice : Bool} {xs branch : Statements} → Branch choice xs branch → List Opener → List Opener
branch_locks only locks = locks
branch_locks (first {branch = branch}) locks = open_behind branch locks
branch_locks (other {branch = branch}) locks = open_behind branch locks

branch_walked : {choice : Bool} {xs branch : Statements} (b : Branch choice xs branch) (locks end : List Opener) → walked xs locks ≡ Ok end → walked branch locks ≡ Ok (branch_locks b locks)
branch_walked (only {branch = branch} {next = next}) locks end e = (closed_with (walked branch locks) locks (closing_line branch) (walked next) end e).0
branch_walked (first {branch = branch} {otherwise = otherwise} {next = next}) locks end e =
    (both_closed locks (walked branch locks) (walked otherwise locks) (closing_line otherwise) (walked next) end e).0
branch_walked (other {branch = branch} {otherwise = otherwise} {next = next}) locks end e =
    (both_closed locks (walked branch locks) (walked otherwise locks) (closing_line otherwise) (walked next) end e).1

-- they are those behind the `if`
branch_rest : {choice : Bool} {xs branch next : Statements} (b : Branch choice xs branch) (r : Rest xs next) (locks : List Opener) → locks_past r locks ≡ branch_locks b locks
branch_rest only behind_if locks = refl
branch_rest first behind_if_else locks = refl
branch_rest other behind_if_else locks = refl

-- ---- places

-- the locks at the end of the list of a way
abbrev end_locks : {body xs : Statements} → Way body xs → List Opener
end_locks start = []
end_locks (past r w) = end_locks w
end_locks (into_branch b w) = branch_locks b (locks_at w)
end_locks (into_loop w) = locks_at w

-- the locks at a place of a body, which is a statement that stands there or the closing brace
abbrev AreAt : {body : Statements} → Place body → List Opener → Type 0
AreAt (statement {xs} w) locks = (next : Statements) × Rest xs next × (locks ≡ locks_at w)
AreAt brace locks = locks ≡ []

module _ {body : Statements} (paired : walked body [] ≡ Ok []) where
  way_walked : {xs : Statements} (w : Way body xs) → walked xs (locks_at w) ≡ Ok (end_locks w)
  way_walked start = paired
  way_walked (past r w) = rest_walked r (locks_at w) (end_locks w) (way_walked w)
  way_walked (into_branch b w) = branch_walked b (locks_at w) (end_locks w) (way_walked w)
  way_walked (into_loop {line} {condition} {inner} {next} w) =
      (closed_with (walked inner (locks_at w)) (locks_at w) (closing_line inner) (walked next) (end_locks w) (way_walked w)).0

  mutual
    entered : {xs : Statements} {w : Way body xs} {q : Place body} → Enters xs w q → AreAt q (locks_at w)
    entered (a_statement {next = next} r) = (next, r, refl)
    entered (no_more {w = w} {q = q} e) = let walk = way_walked w in let same : end_locks w ≡ locks_at w = cc in subst (AreAt q) same (ended e)

    ended : {xs : Statements} {w : Way body xs} {q : Place body} → Ends xs w q → AreAt q (end_locks w)
    ended of_body = refl
    ended (of_branch {b = b} {r = r} {w = w} {q = q} e) = subst (AreAt q) (branch_rest b r (locks_at w)) (entered e)
    ended (of_loop {next = next}) = (next, behind_while, refl)
    ended (of_rest e) = ended e

  call_allowed : {line : ℕ} {call : Call} {next : Statements} (w : Way body (call_then line call next)) → behind_the_call (locks_at w) call ≡ Some (after_first (locks_at w) (call_then line call next))
  call_allowed {line} {call} {next} w =
      let behind = behind_the_call (locks_at w) call in
      let found = (called (locks_at w) behind line (walked next) (end_locks w) (way_walked w)).0 in
      found ∙ ap Some (left_by_call (locks_at w) (unwrap_or behind (locks_at w)) line call next found)

  gone : {xs : Statements} {w : Way body xs} {choice : Bool} {q : Place body} → GoesTo xs w choice q → AreAt q (after_first (locks_at w) xs)
  gone (a_work e) = entered e
  gone (a_call {call = call} {w = w} {q = q} e) = subst (AreAt q) (ap (λ behind. unwrap_or behind (locks_at w)) (call_allowed w)) (entered e)
  gone (a_branch {b = only} e) = entered e
  gone (a_branch {b = first} e) = entered e
  gone (a_branch {b = other} e) = entered e
  gone (no_else e) = entered e
  gone (a_loop e) = entered e
  gone (one_more e) = entered e
  gone (enough e) = entered e

  come : {p : Place body} {locks : List Opener} → Comes p locks → AreAt p locks
  come (from_start e) = entered e
  come (from_statement {xs = xs} {q = q} before goes) = subst (λ l. AreAt q (after_first l xs)) (sym (come before).2) (gone goes)

-- ---- the law

same_at : {body : Statements} (p : Place body) (locks others : List Opener) → AreAt p locks → AreAt p others → locks ≡ others
same_at (statement w) locks others here there = here.2 ∙ sym there.2
same_at brace locks others here there = here ∙ sym there

block_locked : (s : System) (body : Body) (n : ℕ) (p : Place body.statements) (locks : List Opener) → AreAt p locks → (block_at s body n p).locked ≡ is_locked locks
block_locked s body n (statement w) locks here = locked_at s body n here.1 w ∙ ap is_locked (sym here.2)
block_locked s body n brace locks here = ap (λ x. x.locked) (brace_at s body n) ∙ ap is_locked (sym here)

pub follow : (s : System) (body : Body) (n : ℕ) → unpaired body ≡ [] → LocksFollow s body n
follow s body n none =
    let paired : walked body.statements [] ≡ Ok [] = paired_by (walked body.statements []) (closing_line body.statements) none in
    record {
      same = λ p locks others here there. same_at p locks others (come paired here) (come paired there);
      locked = λ p locks here. block_locked s body n p locks (come paired here);
      allowed = λ line call next w locks here.
          subst (λ l. behind_the_call l call ≡ Some (after_first l (call_then line call next))) (sym (come paired here).2) (call_allowed paired w);
      at_brace = λ locks here. come paired here;
    }
