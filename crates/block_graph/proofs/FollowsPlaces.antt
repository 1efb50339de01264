-- Each statement goes by each choice to one place.
use Rattle.std.proofs.Common.{◌≡◌, Bool, true, false, refl, sym, ◌∙◌}
use Rattle.task_code.specs.{declared.tree.Condition.TheVariants.{Choice, Always}, Statements.{Statements, closed, work_then, if_then, if_else_then, while_then, call_then}}
use Rattle.block_graph.specs.Follows.{Rest, behind_work, behind_if, behind_if_else, behind_while, behind_call, Branch, only, first, other, Way, start, past, into_branch, into_loop, Place, statement, brace, Enters, a_statement, no_more, Ends, of_body, of_branch, of_loop, of_rest, GoesTo, a_work, a_call, a_branch, no_else, a_loop, one_more, enough}

-- ---- some place

abbrev Entered : {body xs : Statements} → Way body xs → Type 0
Entered {body} {xs} w = (q : Place body) × Enters xs w q

abbrev Ended : {body xs : Statements} → Way body xs → Type 0
Ended {body} {xs} w = (q : Place body) × Ends xs w q

abbrev entered : {body : Statements} (xs : Statements) (w : Way body xs) → Ended w → Entered w
entered (closed line) w e = (e.0, no_more e.1)
entered (work_then line count next) w e = (statement w, a_statement behind_work)
entered (if_then line branch next) w e = (statement w, a_statement behind_if)
entered (if_else_then line branch otherwise next) w e = (statement w, a_statement behind_if_else)
entered (while_then line condition inner next) w e = (statement w, a_statement behind_while)
entered (call_then line call next) w e = (statement w, a_statement behind_call)

-- behind a statement
abbrev past_ends : {body xs next : Statements} (r : Rest xs next) (w : Way body xs) → Ended w → Ended (past r w)
past_ends r w e = (e.0, of_rest e.1)

abbrev past_enters : {body xs next : Statements} (r : Rest xs next) (w : Way body xs) → Ended w → Entered (past r w)
past_enters {next = next} r w e = entered next (past r w) (past_ends r w e)

abbrev branch_ends : {body xs branch next : Statements} {choice : Bool} (b : Branch choice xs branch) (r : Rest xs next) (w : Way body xs) → Ended w → Ended (into_branch b w)
branch_ends b r w e = let q = past_enters r w e in (q.0, of_branch q.1)

abbrev ended : {body xs : Statements} (w : Way body xs) → Ended w
ended start = (brace, of_body)
ended (past r w) = past_ends r w (ended w)
ended (into_branch only w) = branch_ends only behind_if w (ended w)
ended (into_branch first w) = branch_ends first behind_if_else w (ended w)
ended (into_branch other w) = branch_ends other behind_if_else w (ended w)
ended (into_loop w) = (statement w, of_loop)

abbrev at_end : {body xs : Statements} (w : Way body xs) → Entered w
at_end {xs = xs} w = entered xs w (ended w)

abbrev Gone : {body xs : Statements} → Way body xs → Bool → Type 0
Gone {body} {xs} w choice = (q : Place body) × GoesTo xs w choice q

pub goes_somewhere : {body xs next : Statements} (r : Rest xs next) (w : Way body xs) (choice : Bool) → Gone w choice
goes_somewhere behind_work w choice = let q = at_end (past behind_work w) in (q.0, a_work q.1)
goes_somewhere behind_if w true = let q = at_end (into_branch only w) in (q.0, a_branch q.1)
goes_somewhere behind_if w false = let q = at_end (past behind_if w) in (q.0, no_else q.1)
goes_somewhere behind_if_else w true = let q = at_end (into_branch first w) in (q.0, a_branch q.1)
goes_somewhere behind_if_else w false = let q = at_end (into_branch other w) in (q.0, a_branch q.1)
goes_somewhere (behind_while {condition = Always}) w choice = let q = at_end (into_loop w) in (q.0, a_loop q.1)
goes_somewhere (behind_while {condition = Choice}) w true = let q = at_end (into_loop w) in (q.0, one_more q.1)
goes_somewhere (behind_while {condition = Choice}) w false = let q = at_end (past behind_while w) in (q.0, enough q.1)
goes_somewhere behind_call w choice = let q = at_end (past behind_call w) in (q.0, a_call q.1)

-- ---- and no other

entered_rest : {body xs next : Statements} (r : Rest xs next) (w : Way body xs) → (at_end w).0 ≡ statement w
entered_rest behind_work w = refl
entered_rest behind_if w = refl
entered_rest behind_if_else w = refl
entered_rest behind_while w = refl
entered_rest behind_call w = refl

branch_ended : {body xs branch next : Statements} {choice : Bool} (b : Branch choice xs branch) (r : Rest xs next) (w : Way body xs) → (ended (into_branch b w)).0 ≡ (at_end (past r w)).0
branch_ended only behind_if w = refl
branch_ended first behind_if_else w = refl
branch_ended other behind_if_else w = refl

mutual
  enters_only : {body xs : Statements} {w : Way body xs} {q : Place body} → Enters xs w q → (at_end w).0 ≡ q
  enters_only (a_statement {w = w} r) = entered_rest r w
  enters_only (no_more e) = ends_only e

  ends_only : {body xs : Statements} {w : Way body xs} {q : Place body} → Ends xs w q → (ended w).0 ≡ q
  ends_only of_body = refl
  ends_only (of_branch {b = b} {r = r} {w = w} e) = branch_ended b r w ∙ enters_only e
  ends_only of_loop = refl
  ends_only (of_rest e) = ends_only e

-- the place; of an empty list any
abbrev goal_of : {body : Statements} (xs : Statements) → Way body xs → Bool → Place body
goal_of (closed line) w choice = brace
goal_of (work_then line count next) w choice = (at_end (past behind_work w)).0
goal_of (if_then line branch next) w true = (at_end (into_branch only w)).0
goal_of (if_then line branch next) w false = (at_end (past behind_if w)).0
goal_of (if_else_then line branch otherwise next) w true = (at_end (into_branch first w)).0
goal_of (if_else_then line branch otherwise next) w false = (at_end (into_branch other w)).0
goal_of (while_then line Always inner next) w choice = (at_end (into_loop w)).0
goal_of (while_then line Choice inner next) w true = (at_end (into_loop w)).0
goal_of (while_then line Choice inner next) w false = (at_end (past behind_while w)).0
goal_of (call_then line call next) w choice = (at_end (past behind_call w)).0

goes_only : {body xs : Statements} {w : Way body xs} {choice : Bool} {q : Place body} → GoesTo xs w choice q → goal_of xs w choice ≡ q
goes_only (a_work e) = enters_only e
goes_only (a_call e) = enters_only e
goes_only (a_branch {b = only} e) = enters_only e
goes_only (a_branch {b = first} e) = enters_only e
goes_only (a_branch {b = other} e) = enters_only e
goes_only (no_else e) = enters_only e
goes_only (a_loop e) = enters_only e
goes_only (one_more e) = enters_only e
goes_only (enough e) = enters_only e

pub goes_to_one : {body xs : Statements} {w : Way body xs} {choice : Bool} {p q : Place body} → GoesTo xs w choice p → GoesTo xs w choice q → p ≡ q
goes_to_one a b = sym (goes_only a) ∙ goes_only b
