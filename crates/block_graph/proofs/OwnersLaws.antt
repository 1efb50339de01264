-- What the blocks of one owner keep of what an application asks.
use Rattle.std.proofs.Common.{◌≡◌, ℕ, ◌+◌, ◌<◌, ◌≤◌, Bool, false, eqb, List, [], ◌∷◌, ◌++◌, length, get_or, refl, sym, subst, arith, IsTrue, length-append}
use Rattle.std.specs.Prelude.{All}
use Rattle.std.proofs.lemmas.{Bool.{eq-eqb, ne_eqb}, List.Sums.{sum_by-cons}}
use Rattle.oil_system.specs.declared.system.System.{System}
use Rattle.osek_standard.specs.{declared.block.Block.{Block}, Validity.{IsIsrCode, IsOwner, IsTaskCode, IsTickCode, isr_may, no_block, task_may}}
use Rattle.oil_model.specs.Linkable.{IsLinkable}
use Rattle.task_code.specs.declared.tree.{Body.{Body}, BodyKind.{BodyKind}}
use Rattle.task_code.specs.declared.tree.BodyKind.TheVariants as body_kind
use Rattle.task_code.specs.{Fit.{IsFit}, Statements.{closing_line, nodes}}
use Rattle.block_graph.specs.{Apps.{tables_over}, Blocks.{block, blocks_of, body_blocks, end_kind, routine, routine_size, size, source_blocks, source_size}}
use Rattle.block_graph.specs.Rules.{from_calls}
use Rattle.block_graph.proofs.OwnersCalls.{wrong_names}
use Rattle.block_graph.proofs.OwnersEach.{AllFrom, all_from_append, all_from_at, all_from_weaker}
use Rattle.block_graph.proofs.OwnersStatements.{Good, InIsr, InTask, IsGood, Lie, blocks_are_good, blocks_in_isr, blocks_in_task, blocks_length}
use Rattle.block_graph.proofs.OwnersTicks.{GoesOn, InRoutine, expiries_length, routine_goes_on, routine_is_good, routine_stands}

-- ---- how many blocks there are

pub body_size : (s : System) (body : Body) (n : ℕ) → length (body_blocks s body n) ≡ size body
body_size s body n =
    let end = n + nodes body.statements in
    let last = block [] (end_kind body.kind) (closing_line body.statements) end ∷ [] in
    omega (arith, length-append (blocks_of s body.statements n end []) last, blocks_length s body.statements n end [])

pub source_length : (s : System) (bodies : List Body) (n : ℕ) → length (source_blocks s bodies n) ≡ source_size bodies
source_length s [] n = refl
source_length s (body ∷ more) n =
    omega (arith, length-append (body_blocks s body n) (source_blocks s more (n + size body)), body_size s body n, source_length s more (n + size body), sum_by-cons size body more)

pub routine_length : (due : List ℕ) (n : ℕ) → length (routine due n) ≡ routine_size due
routine_length due n = omega (arith, expiries_length due (n + 1))

-- ---- the blocks of an owner at their place

-- any blocks each of which is good
owner_at : (s : System) (bodies : List Body) (pre xs post : List Block) (n count : ℕ) → length pre ≡ n → length xs ≡ count → 0 < count
    → AllFrom (Good s bodies (pre ++ (xs ++ post)) n count) n xs → IsOwner (tables_over s bodies (pre ++ (xs ++ post))) n count
owner_at s bodies pre xs post n count place size some good =
    let blocks = pre ++ (xs ++ post) in
    let at : (b : ℕ) (d : Block) → n ≤ b → b < n + count → IsGood s bodies blocks n count b (get_or blocks b d) = λ b d low high. all_from_at (Good s bodies blocks n count) n pre xs post place good b d low (omega arith) in
    record {
      some = some;
      inside = omega (arith, length-append pre (xs ++ post), length-append xs post);
      ends = λ b m. (at b no_block m.0 m.1).own_next;
      each = λ b none m. (at b none m.0 m.1).is_block;
    }

-- a closing brace
module _ (s : System) (bodies : List Body) (blocks : List Block) (first count : ℕ) where
  end_is_good : (kind : BodyKind) (line b : ℕ) → first ≤ b → b < first + count → IsGood s bodies blocks first count b (block [] (end_kind kind) line b)
  end_is_good body_kind.Task line b low high = record { own_next = eq-eqb b b refl; is_block = record { operands = tt; next = (low, high); other = tt } }
  end_is_good body_kind.Isr line b low high = record { own_next = eq-eqb b b refl; is_block = record { operands = tt; next = (low, high); other = tt } }

-- the statements of a body, and its closing brace
body_each : (P : ℕ → Block → Type 0) (s : System) (body : Body) (n : ℕ) → AllFrom P n (blocks_of s body.statements n (n + nodes body.statements) [])
    → P (n + nodes body.statements) (block [] (end_kind body.kind) (closing_line body.statements) (n + nodes body.statements)) → AllFrom P n (body_blocks s body n)
body_each P s body n each last =
    let end = n + nodes body.statements in
    all_from_append P n (nodes body.statements) (blocks_of s body.statements n end []) (block [] (end_kind body.kind) (closing_line body.statements) end ∷ [])
    (blocks_length s body.statements n end []) each (last, tt)

-- a body at its place
pub body_is_owner : (s : System) (bodies : List Body) (pre post : List Block) (body : Body) (n : ℕ) → length pre ≡ n
    → IsLinkable s → IsFit body → from_calls (wrong_names s) body.statements ≡ []
    → IsOwner (tables_over s bodies (pre ++ (body_blocks s body n ++ post))) n (size body)
body_is_owner s bodies pre post body n place linkable fit declared =
    let blocks = pre ++ (body_blocks s body n ++ post) in
    let end = n + nodes body.statements in
    let lie : Lie s bodies blocks n (size body) body.statements n end = (omega arith, omega arith, (omega arith, omega arith)) in
    owner_at s bodies pre (body_blocks s body n) post n (size body) place (body_size s body n) (omega arith)
    (body_each (Good s bodies blocks n (size body)) s body n
    (blocks_are_good s bodies blocks n (size body) linkable.each_event body.statements n end [] lie fit.counts fit.masks declared)
    (end_is_good s bodies blocks n (size body) body.kind (closing_line body.statements) end (omega arith) (omega arith)))

-- Of a body only its closing brace stands last.
abbrev TaskAt : ℕ → ℕ → Block → Type 0
TaskAt end b x = IsTrue (task_may (eqb (b + 1) end) x.kind)

abbrev IsrAt : ℕ → ℕ → Block → Type 0
IsrAt end b x = IsTrue (isr_may (eqb (b + 1) end) x.kind)

task_each : (s : System) (body : Body) (n : ℕ) → body.kind ≡ body_kind.Task → AllFrom (TaskAt (n + size body)) n (body_blocks s body n)
task_each s body n task =
    let end = n + nodes body.statements in
    let long : length (blocks_of s body.statements n end []) ≡ nodes body.statements = blocks_length s body.statements n end [] in
    let last : IsTrue (eqb (end + 1) (n + size body)) = eq-eqb (end + 1) (n + size body) (omega arith) in
    body_each (TaskAt (n + size body)) s body n
    (all_from_weaker InTask (TaskAt (n + size body)) n (blocks_of s body.statements n end [])
    (λ b x low high h.
    let before : eqb (b + 1) (n + size body) ≡ false = ne_eqb (b + 1) (n + size body) (λ e. omega (arith, e, high, long)) in
    subst (λ (t : Bool). IsTrue (task_may t x.kind)) (sym before) h)
    (blocks_in_task s body.statements n end []))
    (subst (λ (k : BodyKind). IsTrue (task_may (eqb (end + 1) (n + size body)) (end_kind k))) (sym task) last)

isr_each : (s : System) (body : Body) (n : ℕ) → body.kind ≡ body_kind.Isr → AllFrom (IsrAt (n + size body)) n (body_blocks s body n)
isr_each s body n isr =
    let end = n + nodes body.statements in
    let long : length (blocks_of s body.statements n end []) ≡ nodes body.statements = blocks_length s body.statements n end [] in
    let last : IsTrue (eqb (end + 1) (n + size body)) = eq-eqb (end + 1) (n + size body) (omega arith) in
    body_each (IsrAt (n + size body)) s body n
    (all_from_weaker InIsr (IsrAt (n + size body)) n (blocks_of s body.statements n end [])
    (λ b x low high h.
    let before : eqb (b + 1) (n + size body) ≡ false = ne_eqb (b + 1) (n + size body) (λ e. omega (arith, e, high, long)) in
    subst (λ (t : Bool). IsTrue (isr_may t x.kind)) (sym before) h)
    (blocks_in_isr s body.statements n end []))
    (subst (λ (k : BodyKind). IsTrue (isr_may (eqb (end + 1) (n + size body)) (end_kind k))) (sym isr) last)

pub body_is_task_code : (s : System) (bodies : List Body) (pre post : List Block) (body : Body) (n : ℕ) → length pre ≡ n
    → IsLinkable s → IsFit body → from_calls (wrong_names s) body.statements ≡ [] → body.kind ≡ body_kind.Task
    → IsTaskCode (tables_over s bodies (pre ++ (body_blocks s body n ++ post))) n (size body)
body_is_task_code s bodies pre post body n place linkable fit declared task = record {
  each = λ b m. all_from_at (TaskAt (n + size body)) n pre (body_blocks s body n) post place (task_each s body n task) b no_block m.0 (omega (arith, m.1, body_size s body n));
}

pub body_is_isr_code : (s : System) (bodies : List Body) (pre post : List Block) (body : Body) (n : ℕ) → length pre ≡ n
    → IsLinkable s → IsFit body → from_calls (wrong_names s) body.statements ≡ [] → body.kind ≡ body_kind.Isr
    → IsIsrCode (tables_over s bodies (pre ++ (body_blocks s body n ++ post))) n (size body)
body_is_isr_code s bodies pre post body n place linkable fit declared isr = record {
  each = λ b m. all_from_at (IsrAt (n + size body)) n pre (body_blocks s body n) post place (isr_each s body n isr) b no_block m.0 (omega (arith, m.1, body_size s body n));
}

-- a tick routine at its place
pub routine_is_owner : (s : System) (bodies : List Body) (pre post : List Block) (due : List ℕ) (n : ℕ) → length pre ≡ n → All (λ (a : ℕ). a < length s.alarms) due
    → IsOwner (tables_over s bodies (pre ++ (routine due n ++ post))) n (routine_size due)
routine_is_owner s bodies pre post due n place inside =
    owner_at s bodies pre (routine due n) post n (routine_size due) place (routine_length due n) (omega arith)
    (routine_is_good s bodies (pre ++ (routine due n ++ post)) n (routine_size due) due (omega arith) inside)

pub routine_is_tick_code : (s : System) (bodies : List Body) (pre post : List Block) (due : List ℕ) (n : ℕ) → length pre ≡ n → All (λ (a : ℕ). a < length s.alarms) due
    → IsTickCode (tables_over s bodies (pre ++ (routine due n ++ post))) due n (routine_size due)
routine_is_tick_code s bodies pre post due n place inside =
    let long = routine_length due n in
    record {
      size = refl;
      each = λ b m. all_from_at (InRoutine due n) n pre (routine due n) post place (routine_stands due n) b no_block m.0 (omega (arith, m.1, long));
      next = λ b m more. all_from_at (GoesOn (n + routine_size due)) n pre (routine due n) post place (routine_goes_on due n (n + routine_size due) refl) b no_block m.0 (omega (arith, m.1, long)) more;
    }
