-- Where the blocks of bodies and of tick routines stand among those of the application, and what they keep there.
use Rattle.std.proofs.Common.{◌≡◌, ℕ, zero, suc, ◌+◌, ◌<◌, List, [], ◌∷◌, ◌++◌, length, append_assoc, true, false, refl, sym, ap, ◌∙◌, subst, arith, inl, inr}
use Rattle.std.specs.{Prelude.{◌||◌, slice_index_or, All}, List.{AllByRecursion, list_any}}
use Rattle.std.proofs.lemmas.{Bool.{and_parts, cases_Bool, cond-false, cond-true, or_parts}, List.{length-append, Elements.{All-from_recursion, recursion_from_All}, Sums.{sum_by-cons}}}
use Rattle.osek_values.proofs.Lists.{each_map}
use Rattle.osek_standard.specs.{declared.{block.Block.{Block}, objects.{Counter.{Counter}, Isr.{Isr}, Task.{Task}}}, Validity.{IsIsrCode, IsOwner, IsTaskCode, IsTickCode, due_of}}
use Rattle.oil_system.specs.declared.system.{CounterObject.{CounterObject}, IsrObject.{IsrObject}, TaskObject.{TaskObject}, System.{System}}
use Rattle.oil_model.specs.Linkable.{IsLinkable}
use Rattle.oil_model.proofs.Clean.{all_weaker}
use Rattle.task_code.specs.declared.tree.{Body.{Body}, BodyKind.{BodyKind}, Code.{Code}}
use Rattle.task_code.specs.declared.tree.BodyKind.TheVariants as body_kind
use Rattle.task_code.specs.Fit.{AreFit, IsFit}
use Rattle.block_graph.specs.Apps.{counters_from, counters_of, extent, isr_with, isrs_of, tables_over, task_with, tasks_of}
use Rattle.block_graph.specs.{Blocks.{app_blocks, body_blocks, routine, routine_size, routines, size, source_blocks, source_size}, Faults.{HasNoFault}}
use Rattle.block_graph.specs.Rules.{from_calls, is_code_of, is_kind}
use Rattle.block_graph.proofs.{OwnersLaws.{body_is_isr_code, body_is_owner, body_is_task_code, routine_is_owner, routine_is_tick_code, routine_length, source_length}, OwnersTicks.{due_below}}
use Rattle.block_graph.proofs.ExtentsLists.{behind_front}
use Rattle.block_graph.proofs.OwnersCalls.{wrong_names}
use Rattle.block_graph.proofs.ExtentsRules.{isrs_have_code, names_declared, tasks_have_code}

-- ---- the code of an owner among the bodies

-- the first code of an owner, among bodies that begin at any block
pub record HasCode (kind : BodyKind) (name : List ℕ) (bodies : List Body) : Type 0 where
  pub before : List Body
  pub body : Body
  pub behind : List Body
  pub split : bodies ≡ before ++ body ∷ behind
  pub is : is_code_of kind name body ≡ true
  pub place : (n : ℕ) → extent kind name bodies n ≡ (n + source_size before, size body)

-- behind bodies of others
pub extent_behind : (kind : BodyKind) (name : List ℕ) (before : List Body) (body : Body) (behind : List Body) (n : ℕ) → list_any (is_code_of kind name) before ≡ false → is_code_of kind name body ≡ true
    → extent kind name (before ++ body ∷ behind) n ≡ (n + source_size before, size body)
extent_behind kind name [] body behind n none is =
    let here : n ≡ n + source_size [] = omega arith in
    cond-true (is_code_of kind name body) (n, size body) (extent kind name behind (n + size body)) is ∙ (λ i. (here i, size body))
extent_behind kind name (first ∷ before) body behind n none is =
    let others = or_parts (is_code_of kind name first) (list_any (is_code_of kind name) before) none in
    let rest = extent_behind kind name before body behind (n + size first) others.1 is in
    let there : n + size first + source_size before ≡ n + source_size (first ∷ before) = omega (arith, sum_by-cons size first before) in
    cond-false (is_code_of kind name first) (n, size first) (extent kind name (before ++ body ∷ behind) (n + size first)) others.0 ∙ rest ∙ (λ i. (there i, size body))

pub code_of : (kind : BodyKind) (name : List ℕ) (bodies : List Body) → list_any (is_code_of kind name) bodies ≡ true → HasCode kind name bodies
code_of kind name [] e = absurd cc
code_of kind name (first ∷ more) e =
    elim (cases_Bool (is_code_of kind name first)) [
      | inl here ↦ record { before = []; body = first; behind = more; split = refl; is = here; place = λ n. extent_behind kind name [] first more n refl here }
      | inr other ↦
          let later : list_any (is_code_of kind name) more ≡ true = subst (λ b. (b || list_any (is_code_of kind name) more) ≡ true) other e in
          let rest = code_of kind name more later in
          record {
            before = first ∷ rest.before;
            body = rest.body;
            behind = rest.behind;
            split = ap (λ bodies. first ∷ bodies) rest.split;
            is = rest.is;
            place = λ n.
                let there : n + size first + source_size rest.before ≡ n + source_size (first ∷ rest.before) = omega (arith, sum_by-cons size first rest.before) in
                cond-false (is_code_of kind name first) (n, size first) (extent kind name more (n + size first)) other ∙ rest.place (n + size first) ∙ (λ i. (there i, size rest.body));
          }
    ]

-- the blocks of one body stand behind those of the earlier ones
source_split : (s : System) (before : List Body) (body : Body) (behind : List Body) (n : ℕ)
    → source_blocks s (before ++ body ∷ behind) n ≡ source_blocks s before n ++ (body_blocks s body (n + source_size before) ++ source_blocks s behind (n + source_size before + size body))
source_split s [] body behind n =
    let here : n ≡ n + source_size [] = omega arith in
    λ i. body_blocks s body (here i) ++ source_blocks s behind (here i + size body)
source_split s (first ∷ before) body behind n =
    let there : n + size first + source_size before ≡ n + source_size (first ∷ before) = omega (arith, sum_by-cons size first before) in
    ap (λ blocks. body_blocks s first n ++ blocks) (source_split s before body behind (n + size first))
    ∙ sym (append_assoc (body_blocks s first n) (source_blocks s before (n + size first)) (body_blocks s body (n + size first + source_size before) ++ source_blocks s behind (n + size first + source_size before + size body)))
    ∙ (λ i. (body_blocks s first n ++ source_blocks s before (n + size first)) ++ (body_blocks s body (there i) ++ source_blocks s behind (there i + size body)))

-- what a body's blocks keep at each place, they keep in the application
pub body_keeps : (s : System) (Keeps : List Block → ℕ → ℕ → Type 0) (bodies before : List Body) (body : Body) (behind : List Body) → bodies ≡ before ++ body ∷ behind
    → ((pre post : List Block) (n : ℕ) → length pre ≡ n → Keeps (pre ++ (body_blocks s body n ++ post)) n (size body)) → Keeps (app_blocks s bodies) (source_size before) (size body)
body_keeps s Keeps bodies before body behind split keeps =
    let n = source_size before in
    let pre = source_blocks s before 0 in
    let later = source_blocks s behind (n + size body) in
    let ticks = routines s s.counters 0 (source_size bodies) in
    let here : 0 + n ≡ n = omega arith in
    let source : source_blocks s bodies 0 ≡ pre ++ (body_blocks s body n ++ later) =
    ap (λ bs. source_blocks s bs 0) split ∙ source_split s before body behind 0 ∙ (λ i. pre ++ (body_blocks s body (here i) ++ source_blocks s behind (here i + size body))) in
    let all : app_blocks s bodies ≡ pre ++ (body_blocks s body n ++ (later ++ ticks)) =
    ap (λ blocks. blocks ++ ticks) source ∙ append_assoc pre (body_blocks s body n ++ later) ticks ∙ ap (λ blocks. pre ++ blocks) (append_assoc (body_blocks s body n) later ticks) in
    subst (λ blocks. Keeps blocks n (size body)) (sym all) (keeps pre (later ++ ticks) n (source_length s before 0))

-- the same of the extent of an owner
pub code_keeps : (s : System) (Keeps : List Block → ℕ → ℕ → Type 0) (kind : BodyKind) (name : List ℕ) (bodies : List Body) (code : HasCode kind name bodies)
    → ((pre post : List Block) (n : ℕ) → length pre ≡ n → Keeps (pre ++ (body_blocks s code.body n ++ post)) n (size code.body)) → Keeps (app_blocks s bodies) (extent kind name bodies 0).0 (extent kind name bodies 0).1
code_keeps s Keeps kind name bodies code keeps =
    let here : 0 + source_size code.before ≡ source_size code.before = omega arith in
    let place : extent kind name bodies 0 ≡ (source_size code.before, size code.body) = code.place 0 ∙ (λ i. (here i, size code.body)) in
    subst (λ (e : ℕ × ℕ). Keeps (app_blocks s bodies) e.0 e.1) (sym place) (body_keeps s Keeps bodies code.before code.body code.behind code.split keeps)

kind_same : (kind other : BodyKind) → is_kind kind other ≡ true → other ≡ kind
kind_same body_kind.Task body_kind.Task e = refl
kind_same body_kind.Task body_kind.Isr e = absurd cc
kind_same body_kind.Isr body_kind.Task e = absurd cc
kind_same body_kind.Isr body_kind.Isr e = refl

pub code_kind : (kind : BodyKind) (name : List ℕ) (body : Body) → is_code_of kind name body ≡ true → body.kind ≡ kind
code_kind kind name body e = kind_same kind body.kind (and_parts (is_kind kind body.kind) _ e).0

-- ---- what the code of tasks and ISRs keeps

module _ (s : System) (code : Code) (linkable : IsLinkable s) (fit : AreFit code) (clean : HasNoFault s code) where
  abbrev bodies : List Body
  bodies = code.bodies

  -- what holds of each body holds of the code of an owner
  of_code : (P : Body → Type 0) → AllByRecursion P bodies → (kind : BodyKind) (name : List ℕ) (found : HasCode kind name bodies) → P found.body
  of_code P all kind name found = behind_front P found.before found.body found.behind (subst (AllByRecursion P) found.split all)

  code_fit : (kind : BodyKind) (name : List ℕ) (found : HasCode kind name bodies) → IsFit found.body
  code_fit = of_code IsFit (recursion_from_All IsFit bodies fit)

  code_declared : (kind : BodyKind) (name : List ℕ) (found : HasCode kind name bodies) → from_calls (wrong_names s) found.body.statements ≡ []
  code_declared = of_code (λ (body : Body). from_calls (wrong_names s) body.statements ≡ []) (names_declared s code clean)

  owner_of : (kind : BodyKind) (name : List ℕ) → list_any (is_code_of kind name) bodies ≡ true → IsOwner (tables_over s bodies (app_blocks s bodies)) (extent kind name bodies 0).0 (extent kind name bodies 0).1
  owner_of kind name e =
      let found = code_of kind name bodies e in
      code_keeps s (λ blocks first count. IsOwner (tables_over s bodies blocks) first count) kind name bodies found
      (λ pre post n place. body_is_owner s bodies pre post found.body n place linkable (code_fit kind name found) (code_declared kind name found))

  pub each_task : All (λ (x : Task). IsOwner (tables_over s bodies (app_blocks s bodies)) x.first.0 x.count) (tasks_of s bodies)
  each_task =
      All-from_recursion (λ (x : Task). IsOwner (tables_over s bodies (app_blocks s bodies)) x.first.0 x.count) (tasks_of s bodies)
      (each_map (λ (x : Task). IsOwner (tables_over s bodies (app_blocks s bodies)) x.first.0 x.count) (λ (x : TaskObject). task_with x (extent body_kind.Task x.name bodies 0)) s.tasks
      (all_weaker
      (λ (x : TaskObject). IsOwner (tables_over s bodies (app_blocks s bodies)) (extent body_kind.Task x.name bodies 0).0 (extent body_kind.Task x.name bodies 0).1)
      (λ (x : TaskObject). list_any (is_code_of body_kind.Task x.name) bodies ≡ true) s.tasks (λ x e. owner_of body_kind.Task x.name e) (tasks_have_code s code clean)))

  pub each_isr : All (λ (x : Isr). IsOwner (tables_over s bodies (app_blocks s bodies)) x.first.0 x.count) (isrs_of s bodies)
  each_isr =
      All-from_recursion (λ (x : Isr). IsOwner (tables_over s bodies (app_blocks s bodies)) x.first.0 x.count) (isrs_of s bodies)
      (each_map (λ (x : Isr). IsOwner (tables_over s bodies (app_blocks s bodies)) x.first.0 x.count) (λ (x : IsrObject). isr_with x (extent body_kind.Isr x.name bodies 0)) s.isrs
      (all_weaker
      (λ (x : IsrObject). IsOwner (tables_over s bodies (app_blocks s bodies)) (extent body_kind.Isr x.name bodies 0).0 (extent body_kind.Isr x.name bodies 0).1)
      (λ (x : IsrObject). list_any (is_code_of body_kind.Isr x.name) bodies ≡ true) s.isrs (λ x e. owner_of body_kind.Isr x.name e) (isrs_have_code s code clean)))

  task_code_of : (name : List ℕ) → list_any (is_code_of body_kind.Task name) bodies ≡ true
      → IsTaskCode (tables_over s bodies (app_blocks s bodies)) (extent body_kind.Task name bodies 0).0 (extent body_kind.Task name bodies 0).1
  task_code_of name e =
      let found = code_of body_kind.Task name bodies e in
      code_keeps s (λ blocks first count. IsTaskCode (tables_over s bodies blocks) first count) body_kind.Task name bodies found
      (λ pre post n place.
      body_is_task_code s bodies pre post found.body n place linkable (code_fit body_kind.Task name found) (code_declared body_kind.Task name found) (code_kind body_kind.Task name found.body found.is))

  pub task_code : All (λ (x : Task). IsTaskCode (tables_over s bodies (app_blocks s bodies)) x.first.0 x.count) (tasks_of s bodies)
  task_code =
      All-from_recursion (λ (x : Task). IsTaskCode (tables_over s bodies (app_blocks s bodies)) x.first.0 x.count) (tasks_of s bodies)
      (each_map (λ (x : Task). IsTaskCode (tables_over s bodies (app_blocks s bodies)) x.first.0 x.count) (λ (x : TaskObject). task_with x (extent body_kind.Task x.name bodies 0)) s.tasks
      (all_weaker
      (λ (x : TaskObject). IsTaskCode (tables_over s bodies (app_blocks s bodies)) (extent body_kind.Task x.name bodies 0).0 (extent body_kind.Task x.name bodies 0).1)
      (λ (x : TaskObject). list_any (is_code_of body_kind.Task x.name) bodies ≡ true) s.tasks (λ x e. task_code_of x.name e) (tasks_have_code s code clean)))

  isr_code_of : (name : List ℕ) → list_any (is_code_of body_kind.Isr name) bodies ≡ true
      → IsIsrCode (tables_over s bodies (app_blocks s bodies)) (extent body_kind.Isr name bodies 0).0 (extent body_kind.Isr name bodies 0).1
  isr_code_of name e =
      let found = code_of body_kind.Isr name bodies e in
      let isr = code_kind body_kind.Isr name found.body found.is in
      code_keeps s (λ blocks first count. IsIsrCode (tables_over s bodies blocks) first count) body_kind.Isr name bodies found
      (λ pre post n place.
      body_is_isr_code s bodies pre post found.body n place linkable (code_fit body_kind.Isr name found) (code_declared body_kind.Isr name found) isr)

  pub isr_code : All (λ (x : Isr). IsIsrCode (tables_over s bodies (app_blocks s bodies)) x.first.0 x.count) (isrs_of s bodies)
  isr_code =
      All-from_recursion (λ (x : Isr). IsIsrCode (tables_over s bodies (app_blocks s bodies)) x.first.0 x.count) (isrs_of s bodies)
      (each_map (λ (x : Isr). IsIsrCode (tables_over s bodies (app_blocks s bodies)) x.first.0 x.count) (λ (x : IsrObject). isr_with x (extent body_kind.Isr x.name bodies 0)) s.isrs
      (all_weaker
      (λ (x : IsrObject). IsIsrCode (tables_over s bodies (app_blocks s bodies)) (extent body_kind.Isr x.name bodies 0).0 (extent body_kind.Isr x.name bodies 0).1)
      (λ (x : IsrObject). list_any (is_code_of body_kind.Isr x.name) bodies ≡ true) s.isrs (λ x e. isr_code_of x.name e) (isrs_have_code s code clean)))

-- ---- what the tick routines keep

module _ (s : System) (blocks : List Block) (Keeps : ℕ → ℕ → ℕ → Type 0)
    (keeps : (c n : ℕ) (pre post : List Block) → length pre ≡ n → pre ++ (routine (due_of s.alarms c) n ++ post) ≡ blocks → Keeps c n (routine_size (due_of s.alarms c))) where
  -- of the counters from number c on
  routine_keeps : (xs : List CounterObject) (c n : ℕ) (pre : List Block) → length pre ≡ n → pre ++ routines s xs c n ≡ blocks
      → (i : ℕ) (d : Counter) → i < length (counters_from s xs c n) → Keeps (c + i) (slice_index_or (counters_from s xs c n) i d).first.0 (slice_index_or (counters_from s xs c n) i d).count
  routine_keeps [] c n pre place all i d lt = absurd (omega (arith, lt))
  routine_keeps (x ∷ xs) c n pre place all zero d lt =
      let here : c ≡ c + 0 = omega arith in
      let due = due_of s.alarms c in
      subst (λ k. Keeps k n (routine_size due)) here (keeps c n pre (routines s xs (c + 1) (n + routine_size due)) place all)
  routine_keeps (x ∷ xs) c n pre place all (suc i) d lt =
      let due = due_of s.alarms c in
      let there : c + 1 + i ≡ c + suc i = omega arith in
      let behind : length (pre ++ routine due n) ≡ n + routine_size due = omega (arith, place, length-append pre (routine due n), routine_length due n) in
      let rest = routine_keeps xs (c + 1) (n + routine_size due) (pre ++ routine due n) behind (append_assoc pre (routine due n) (routines s xs (c + 1) (n + routine_size due)) ∙ all) i d (omega (arith, lt)) in
      let later = slice_index_or (counters_from s xs (c + 1) (n + routine_size due)) i d in
      subst (λ k. Keeps k later.first.0 later.count) there rest

pub routines_keep : (s : System) (bodies : List Body) (Keeps : ℕ → ℕ → ℕ → Type 0)
    → ((c n : ℕ) (pre post : List Block) → length pre ≡ n → pre ++ (routine (due_of s.alarms c) n ++ post) ≡ app_blocks s bodies → Keeps c n (routine_size (due_of s.alarms c)))
    → (i : ℕ) (d : Counter) → i < length (counters_of s bodies) → Keeps i (slice_index_or (counters_of s bodies) i d).first.0 (slice_index_or (counters_of s bodies) i d).count
routines_keep s bodies Keeps keeps i d lt =
    let here : 0 + i ≡ i = omega arith in
    let counter = slice_index_or (counters_of s bodies) i d in
    subst (λ k. Keeps k counter.first.0 counter.count) here (routine_keeps s (app_blocks s bodies) Keeps keeps s.counters 0 (source_size bodies) (source_blocks s bodies 0) (source_length s bodies 0) refl i d lt)

pub counter_is_owner : (s : System) (bodies : List Body) (i : ℕ) (d : Counter) → i < length (counters_of s bodies)
    → IsOwner (tables_over s bodies (app_blocks s bodies)) (slice_index_or (counters_of s bodies) i d).first.0 (slice_index_or (counters_of s bodies) i d).count
counter_is_owner s bodies =
    routines_keep s bodies (λ c first count. IsOwner (tables_over s bodies (app_blocks s bodies)) first count)
    (λ c n pre post place all.
    subst (λ blocks. IsOwner (tables_over s bodies blocks) n (routine_size (due_of s.alarms c))) all (routine_is_owner s bodies pre post (due_of s.alarms c) n place (due_below s.alarms c)))

pub tick_code : (s : System) (bodies : List Body) (i : ℕ) (d : Counter) → i < length (counters_of s bodies)
    → IsTickCode (tables_over s bodies (app_blocks s bodies)) (due_of s.alarms i) (slice_index_or (counters_of s bodies) i d).first.0 (slice_index_or (counters_of s bodies) i d).count
tick_code s bodies =
    routines_keep s bodies (λ c first count. IsTickCode (tables_over s bodies (app_blocks s bodies)) (due_of s.alarms c) first count)
    (λ c n pre post place all.
    subst (λ blocks. IsTickCode (tables_over s bodies blocks) (due_of s.alarms c) n (routine_size (due_of s.alarms c))) all (routine_is_tick_code s bodies pre post (due_of s.alarms c) n place (due_below s.alarms c)))
