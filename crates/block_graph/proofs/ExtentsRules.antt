-- What holds of the bodies where no rule is violated.
use Rattle.std.proofs.Common.{◌≡◌, ℕ, ◌≤◌, List, [], ◌∷◌, ◌++◌, length, drop, length-drop, append_assoc, Bool, true, false, refl, sym, ap, subst, arith}
use Rattle.std.specs.{Prelude.{◌||◌, filter, if◌then◌else◌}, List.{AllByRecursion, list_any}}
use Rattle.std.proofs.lemmas.{Bool.{or_parts, not-false}, List.{append-nil, length-append, Sums.{sum_by-cons}}}
use Rattle.osek_values.specs.declared.refusal.CodeRule.TheVariants.{C1, C2, C3, C4, C8, C10}
use Rattle.oil_system.specs.declared.system.{IsrObject.{IsrObject}, TaskObject.{TaskObject}, System.{System}}
use Rattle.oil_model.specs.Rules.{repeated}
use Rattle.oil_model.proofs.Clean.{no_line, left_empty, right_empty, map_empty, mark_empty, none_pass, each_empty, all_weaker, all_both}
use Rattle.task_code.specs.declared.tree.{BodyKind.TheVariants.{Task, Isr}, Body.{Body}, Code.{Code}}
use Rattle.task_code.specs.Statements.{Statements, closed, work_then, if_then, if_else_then, while_then, call_then, closing_line, nodes}
use Rattle.block_graph.specs.{Blocks.{size, source_size}, Faults.{HasNoFault}}
use Rattle.block_graph.specs.Rules.{beyond_limit, block_lines, first_only, from_calls, has_owner, has_same_owner, internal_in, internal_resources, is_code_of, is_stray, lacks_code, line_of_body, missing_code, repeated_code, statement_lines, stray_code, undeclared_in, undeclared_names}
use Rattle.block_graph.proofs.OwnersCalls.{wrong_names, no_wrong_name}
use Rattle.block_graph.proofs.ExtentsLists.{none_of}

-- ---- no fault

first_none : (xs : List ℕ) → first_only xs ≡ [] → xs ≡ []
first_none [] e = refl
first_none (x ∷ xs) e = absurd cc

-- what is repeated in no list stands in it but once
pub not_repeated : {X : Type 0} (same : X → X → Bool) (before front : List X) (x : X) (more : List X) → repeated same before (front ++ x ∷ more) ≡ [] → list_any (same x) (before ++ front) ≡ false
not_repeated same before [] x more e =
    let new : list_any (same x) before ≡ false = mark_empty (list_any (same x) before) x (left_empty _ _ e) in
    subst (λ xs. list_any (same x) xs ≡ false) (sym (append-nil before)) new
not_repeated {X} same before (y ∷ front) x more e =
    subst (λ xs. list_any (same x) xs ≡ false) (append_assoc before (y ∷ []) front)
    (not_repeated same (before ++ y ∷ []) front x more (right_empty (if list_any (same y) before then y ∷ [] else []) _ e))

module _ (s : System) (code : Code) (clean : HasNoFault s code) where
  -- each task and each ISR has code
  has_all_code : (list_any (λ (x : TaskObject). lacks_code Task code.bodies x.name) s.tasks ≡ false) × (list_any (λ (x : IsrObject). lacks_code Isr code.bodies x.name) s.isrs ≡ false)
  has_all_code =
      let none : missing_code s code.bodies ≡ [] = no_line (missing_code s code.bodies) (λ l h. clean C1 l h) in
      or_parts _ _ (mark_empty (list_any (λ (x : TaskObject). lacks_code Task code.bodies x.name) s.tasks || list_any (λ (x : IsrObject). lacks_code Isr code.bodies x.name) s.isrs) 0 none)

  pub tasks_have_code : AllByRecursion (λ (x : TaskObject). list_any (is_code_of Task x.name) code.bodies ≡ true) s.tasks
  tasks_have_code =
      all_weaker (λ (x : TaskObject). list_any (is_code_of Task x.name) code.bodies ≡ true) (λ (x : TaskObject). lacks_code Task code.bodies x.name ≡ false) s.tasks (λ x h. not-false _ h) (none_of (λ (x : TaskObject). lacks_code Task code.bodies x.name) s.tasks has_all_code.0)

  pub isrs_have_code : AllByRecursion (λ (x : IsrObject). list_any (is_code_of Isr x.name) code.bodies ≡ true) s.isrs
  isrs_have_code =
      all_weaker (λ (x : IsrObject). list_any (is_code_of Isr x.name) code.bodies ≡ true) (λ (x : IsrObject). lacks_code Isr code.bodies x.name ≡ false) s.isrs (λ x h. not-false _ h) (none_of (λ (x : IsrObject). lacks_code Isr code.bodies x.name) s.isrs has_all_code.1)

  -- each body is of something declared
  pub bodies_have_owners : AllByRecursion (λ (body : Body). has_owner s body.kind body.owner.name ≡ true) code.bodies
  bodies_have_owners =
      let none : stray_code s code.bodies ≡ [] = no_line (stray_code s code.bodies) (λ l h. clean C2 l h) in
      all_weaker (λ (body : Body). has_owner s body.kind body.owner.name ≡ true) (λ (body : Body). is_stray s body ≡ false) code.bodies (λ body h. not-false _ h) (none_pass (is_stray s) code.bodies (map_empty line_of_body (filter (is_stray s) code.bodies) none))

  -- no earlier body is of the same owner
  pub first_of_owner : (before : List Body) (body : Body) (behind : List Body) → code.bodies ≡ before ++ body ∷ behind → list_any (is_code_of body.kind body.owner.name) before ≡ false
  first_of_owner before body behind split =
      let none : repeated_code code.bodies ≡ [] = no_line (repeated_code code.bodies) (λ l h. clean C3 l h) in
      let once : repeated has_same_owner [] code.bodies ≡ [] = map_empty line_of_body (repeated has_same_owner [] code.bodies) none in
      not_repeated has_same_owner [] before body behind (subst (λ bodies. repeated has_same_owner [] bodies ≡ []) split once)

  -- each name in a call is declared, and no call takes or gives back an INTERNAL resource
  pub names_declared : AllByRecursion (λ (body : Body). from_calls (wrong_names s) body.statements ≡ []) code.bodies
  names_declared =
      all_weaker (λ (body : Body). from_calls (wrong_names s) body.statements ≡ []) (λ (body : Body). (from_calls (undeclared_in s) body.statements ≡ []) × (from_calls (internal_in s) body.statements ≡ [])) code.bodies
      (λ body h. no_wrong_name s body.statements h.0 h.1)
      (all_both (λ (body : Body). from_calls (undeclared_in s) body.statements ≡ []) (λ (body : Body). from_calls (internal_in s) body.statements ≡ []) code.bodies
      (each_empty (λ (body : Body). from_calls (undeclared_in s) body.statements) code.bodies (no_line (undeclared_names s code.bodies) (λ l h. clean C4 l h)))
      (each_empty (λ (body : Body). from_calls (internal_in s) body.statements) code.bodies (no_line (internal_resources s code.bodies) (λ l h. clean C10 l h))))

  within_limit : drop 1024 (block_lines code.bodies) ≡ []
  within_limit = first_none _ (no_line (beyond_limit code.bodies) (λ l h. clean C8 l h))

-- ---- how many blocks the bodies have

line_count : (statements : Statements) → length (statement_lines statements) ≡ nodes statements
line_count (closed line) = refl
line_count (work_then line count next) = omega (arith, line_count next)
line_count (if_then line branch next) = omega (arith, line_count branch, line_count next, length-append (statement_lines branch) (statement_lines next))
line_count (if_else_then line branch otherwise next) =
    omega (arith, line_count branch, line_count otherwise, line_count next, length-append (statement_lines branch) (statement_lines otherwise ++ statement_lines next), length-append (statement_lines otherwise) (statement_lines next))
line_count (while_then line condition body next) = omega (arith, line_count body, line_count next, length-append (statement_lines body) (statement_lines next))
line_count (call_then line call next) = omega (arith, line_count next)

block_count : (bodies : List Body) → length (block_lines bodies) ≡ source_size bodies
block_count [] = refl
block_count (body ∷ bodies) =
    let own = statement_lines body.statements ++ closing_line body.statements ∷ [] in
    omega (arith, block_count bodies, line_count body.statements, length-append own (block_lines bodies), length-append (statement_lines body.statements) (closing_line body.statements ∷ []), sum_by-cons size body bodies)

all_taken : {X : Type 0} (n : ℕ) (xs : List X) → drop n xs ≡ [] → length xs ≤ n
all_taken n xs e = omega (arith, length-drop n xs, ap length e)

pub few_source_blocks : (s : System) (code : Code) → HasNoFault s code → source_size code.bodies ≤ 1024
few_source_blocks s code clean = omega (arith, block_count code.bodies, all_taken 1024 (block_lines code.bodies) (within_limit s code clean))
