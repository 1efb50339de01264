-- Each block has an owner.
use Rattle.std.proofs.Common.{◌≡◌, ℕ, ◌+◌, ◌<◌, ◌≤◌, List, [], ◌∷◌, ◌++◌, length, map, true, refl, ap, ◌∙◌, subst, arith, inl, inr}
use Rattle.std.specs.{Prelude.{nat_le, nat_lt}, List.{AllByRecursion, list_any}, Str.{bytes_eq}}
use Rattle.std.proofs.lemmas.{Bool.{and_from, cases_lt, le-leb, lt-ltb, or_left, or_right}, List.{length-append, Sums.{sum_by-cons}}, Slice.Eq.{bytes_eq-Decides}}
use Rattle.osek_values.proofs.Lists.{any_of_map}
use Rattle.osek_standard.specs.Validity.{due_of, is_within, owners}
use Rattle.oil_system.specs.declared.system.{CounterObject.{CounterObject}, IsrObject.{IsrObject}, TaskObject.{TaskObject}, System.{System}}
use Rattle.task_code.specs.declared.tree.{Body.{Body}, BodyKind.{BodyKind}, Code.{Code}}
use Rattle.task_code.specs.declared.tree.BodyKind.TheVariants as body_kind
use Rattle.block_graph.specs.{Apps.{counters_from, counters_of, extent, isrs_of, tasks_of}, Blocks.{app_blocks, routine, routine_size, routines, size, source_blocks, source_size}}
use Rattle.block_graph.specs.{Faults.{HasNoFault}, Rules.{has_owner, is_code_of, is_kind}}
use Rattle.block_graph.proofs.{OwnersLaws.{routine_length, source_length}, ExtentsLists.{any_append_left, any_append_right, any_from_position, any_weaker, behind_front}}
use Rattle.block_graph.proofs.{ExtentsPlaces.{extent_behind}, ExtentsApart.{counter_blocks, of_counters, of_isr, of_task, owners_are}}
use Rattle.block_graph.proofs.ExtentsRules.{bodies_have_owners, first_of_owner}

within : (b first count : ℕ) → first ≤ b → b < first + count → is_within b (first, count) ≡ true
within b first count low high = and_from (nat_le first b) (nat_lt b (first + count)) (le-leb first b low) (lt-ltb b (first + count) high)

-- ---- a block of a body

-- the body of a block, among bodies that begin at block n
record HasBody (bodies : List Body) (n b : ℕ) : Type 0 where
  before : List Body
  body : Body
  behind : List Body
  split : bodies ≡ before ++ body ∷ behind
  low : n + source_size before ≤ b
  high : b < n + source_size before + size body

body_of : (bodies : List Body) (n b : ℕ) → n ≤ b → b < n + source_size bodies → HasBody bodies n b
body_of [] n b low high = absurd (omega (arith, low, high))
body_of (first ∷ more) n b low high =
    elim (cases_lt b (n + size first)) [
      | inl lt ↦ record { before = []; body = first; behind = more; split = refl; low = omega (arith, low); high = omega (arith, lt) }
      | inr le ↦
          let rest = body_of more (n + size first) b le (omega (arith, high, sum_by-cons size first more)) in
          let total = sum_by-cons size first rest.before in
          record {
            before = first ∷ rest.before;
            body = rest.body;
            behind = rest.behind;
            split = ap (λ bodies. first ∷ bodies) rest.split;
            low = omega (arith, rest.low, total);
            high = omega (arith, rest.high, total);
          }
    ]

kind_itself : (kind : BodyKind) → is_kind kind kind ≡ true
kind_itself body_kind.Task = refl
kind_itself body_kind.Isr = refl

own_code : (body : Body) → is_code_of body.kind body.owner.name body ≡ true
own_code body = and_from (is_kind body.kind body.kind) (bytes_eq body.owner.name body.owner.name) (kind_itself body.kind) ((bytes_eq-Decides body.owner.name body.owner.name).1 refl)

-- the extent of a declared task or ISR
declared_owner : (s : System) (bodies : List Body) (b : ℕ) (kind : BodyKind) (name : List ℕ) → has_owner s kind name ≡ true → is_within b (extent kind name bodies 0) ≡ true
    → list_any (is_within b) (map (of_task s bodies) s.tasks ++ map (of_isr s bodies) s.isrs) ≡ true
declared_owner s bodies b body_kind.Task name declared inside =
    let named = any_from_position (λ (x : TaskObject). bytes_eq name x.name) s.tasks declared in
    let found = any_weaker (λ (x : TaskObject). bytes_eq name x.name) (λ (x : TaskObject). is_within b (of_task s bodies x)) s.tasks
    (λ x e. subst (λ (n : List ℕ). is_within b (extent body_kind.Task n bodies 0) ≡ true) ((bytes_eq-Decides name x.name).0 e) inside) named in
    any_append_left (is_within b) (map (of_task s bodies) s.tasks) (map (of_isr s bodies) s.isrs)
    (any_of_map (is_within b) (of_task s bodies) s.tasks ∙ found)
declared_owner s bodies b body_kind.Isr name declared inside =
    let named = any_from_position (λ (x : IsrObject). bytes_eq name x.name) s.isrs declared in
    let found = any_weaker (λ (x : IsrObject). bytes_eq name x.name) (λ (x : IsrObject). is_within b (of_isr s bodies x)) s.isrs
    (λ x e. subst (λ (n : List ℕ). is_within b (extent body_kind.Isr n bodies 0) ≡ true) ((bytes_eq-Decides name x.name).0 e) inside) named in
    any_append_right (is_within b) (map (of_task s bodies) s.tasks) (map (of_isr s bodies) s.isrs)
    (any_of_map (is_within b) (of_isr s bodies) s.isrs ∙ found)

-- ---- a block of a tick routine

routine_owner : (s : System) (xs : List CounterObject) (c n b : ℕ) → n ≤ b → b < n + length (routines s xs c n) → list_any (is_within b) (map counter_blocks (counters_from s xs c n)) ≡ true
routine_owner s [] c n b low high = absurd (omega (arith, low, high))
routine_owner s (x ∷ xs) c n b low high =
    let due = due_of s.alarms c in
    let count = routine_size due in
    let later = map counter_blocks (counters_from s xs (c + 1) (n + count)) in
    let more = routines s xs (c + 1) (n + count) in
    elim (cases_lt b (n + count)) [
      | inl lt ↦ or_left (is_within b (n, count)) (list_any (is_within b) later) (within b n count low lt)
      | inr le ↦ or_right (is_within b (n, count)) (list_any (is_within b) later) (routine_owner s xs (c + 1) (n + count) b le (omega (arith, high, length-append (routine due n) more, routine_length due n)))
    ]

-- ---- each block

module _ (s : System) (code : Code) (clean : HasNoFault s code) where
  abbrev bodies : List Body
  bodies = code.bodies

  abbrev of_code : List (ℕ × ℕ)
  of_code = map (of_task s bodies) s.tasks ++ map (of_isr s bodies) s.isrs

  source_owned : (b : ℕ) → b < source_size bodies → list_any (is_within b) of_code ≡ true
  source_owned b lt =
      let found = body_of bodies 0 b (omega arith) (omega (arith, lt)) in
      let body = found.body in
      let first = 0 + source_size found.before in
      let none = first_of_owner s code clean found.before body found.behind found.split in
      let place : extent body.kind body.owner.name bodies 0 ≡ (first, size body) =
      ap (λ bs. extent body.kind body.owner.name bs 0) found.split ∙ extent_behind body.kind body.owner.name found.before body found.behind 0 none (own_code body) in
      let inside : is_within b (extent body.kind body.owner.name bodies 0) ≡ true = ap (is_within b) place ∙ within b first (size body) found.low found.high in
      let declared = behind_front (λ (x : Body). has_owner s x.kind x.owner.name ≡ true) found.before body found.behind
      (subst (AllByRecursion (λ (x : Body). has_owner s x.kind x.owner.name ≡ true)) found.split (bodies_have_owners s code clean)) in
      declared_owner s bodies b body.kind body.owner.name declared inside

  owned_by : (b : ℕ) → b < length (app_blocks s bodies) → list_any (is_within b) (of_code ++ of_counters s bodies) ≡ true
  owned_by b lt =
      let total = length-append (source_blocks s bodies 0) (routines s s.counters 0 (source_size bodies)) in
      let source = source_length s bodies 0 in
      elim (cases_lt b (source_size bodies)) [
        | inl early ↦ any_append_left (is_within b) of_code (of_counters s bodies) (source_owned b early)
        | inr late ↦ any_append_right (is_within b) of_code (of_counters s bodies) (routine_owner s s.counters 0 (source_size bodies) b late (omega (arith, lt, total, source)))
      ]

  pub owned : (b : ℕ) → b < length (app_blocks s bodies) → list_any (is_within b) (owners (tasks_of s bodies) (isrs_of s bodies) (counters_of s bodies)) ≡ true
  owned b lt = ap (list_any (is_within b)) (owners_are s bodies) ∙ owned_by b lt
