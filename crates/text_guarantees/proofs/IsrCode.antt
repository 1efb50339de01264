-- What the code of an ISR takes, it names.
use Rattle.std.proofs.Common.{◌≡◌, ℕ, zero, suc, ◌+◌, ◌-◌, ◌<◌, ◌≤◌, Bool, true, false, List, [], ◌∷◌, ◌++◌, length, get_or, map, refl, sym, ap, ◌∙◌, subst, arith, inl, inr}
use Rattle.std.specs.Prelude.{⊤, Option, Some, None, if◌then◌else◌, is_some, not, slice_get, slice_index_or, unwrap_or}
use Rattle.std.specs.{List.{AllByRecursion, IsDistinct, list_any}, Str.{bytes_eq}}
use Rattle.std.proofs.lemmas.Bool.{and_parts, false≢true, Decides.{nat_tests}}
use Rattle.std.proofs.lemmas.{Cmp.{nat_list_eq_equiv}, List.{get_or-map, get_or_past, length-map, Elements.{All-from_recursion}, Quantifiers.{position-Some}}}
use Rattle.std.proofs.lemmas.{Option.{get_or_from_slice_get, slice_get_cases, slice_get_within}, Slice.Eq.{bytes_eq-Decides}}
use Rattle.osek_values.{proofs.Lists.{both_empty, each_append}, specs.{Numbers.{res_no}, declared.{numbers.ResNo.{ResNo}, refusal.CodeRule.TheVariants.{C4, C6}}}}
use Rattle.oil_system.specs.declared.{objects.Resource.{Resource}, system.{IsrObject.{IsrObject}, System.{System}}}
use Rattle.osek_standard.specs.declared.{app.App.{App}, block.{Block.{Block}, Kind.{Kind}}, call.{Call.TheVariants.{Resource as OfResource}, ResourceService.TheVariants.{GetResource}}, objects.Isr.{Isr}}
use Rattle.osek_standard.specs.declared.block.Kind.TheVariants as kind
use Rattle.osek_standard.specs.{Apps.{is_counter, the_block, the_counter, the_isr}, Levels.{interrupt_ceiling, own_level}, Well.{IsOfRoutine}}
use Rattle.osek_standard.specs.Validity.{IsAmong, due_of, no_block, no_isr, no_resource, tick_may}
use Rattle.oil_tree.specs.declared.tree.{Object.{Object}, Tree.{Tree}}
use Rattle.oil_model.specs.{Faults.{HasNoFault as IsClean}, Linkable.{IsLinkable}, Objects.{priority}, Systems.{isr, system_of}}
use Rattle.oil_model.proofs.Clean.{each_empty, no_line}
use Rattle.task_code.specs.declared.{call.{Call.{Call}, Reference.{Reference}}, tree.{Body.{Body}, BodyKind.{BodyKind}, Code.{Code}, Condition.TheVariants.{Choice, Always}}}
use Rattle.task_code.specs.declared.call.Call.TheVariants as call
use Rattle.task_code.specs.declared.tree.BodyKind.TheVariants as body_kind
use Rattle.task_code.specs.Statements.{Statements, closed, work_then, if_then, if_else_then, while_then, call_then, nodes}
use Rattle.block_graph.specs.{Apps.{HasApp, extent, isr_with}, Names.{isr_of, resource_of}, declared.locks.Opener.{Opener}}
use Rattle.block_graph.specs.Blocks.{app_blocks, blocks_of, body_blocks, end_kind, entry, kind_of}
use Rattle.block_graph.specs.{Locks.{open_behind, open_behind_call}, Rules.{from_calls, has_owner, is_code_of, is_kind, isr_resources, isr_resources_by, no_isr_object, no_resource as not_declared, resources_of_isr, undeclared, undeclared_in, undeclared_names, unnamed_in, unnamed_resources}}
use Rattle.block_graph.proofs.{ExtentsLists.{behind_front}, ExtentsPlaces.{HasCode, code_keeps, code_kind, code_of}, ExtentsRules.{bodies_have_owners, isrs_have_code}, OwnersEach.{AllFrom, all_from_at}, OwnersLaws.{body_size}}
use Rattle.text_guarantees.proofs.{IsrResources.{named_above}, SystemCeilings.{isrs_of as objects_of}}

-- ---- statements

-- a GetResource is of a resource that has P
abbrev pub TakesOnly : (ResNo → Type 0) → Kind → Type 0
TakesOnly P (kind.Call (OfResource GetResource r)) = P r
TakesOnly P _ = ⊤

module _ (s : System) (names : List (List ℕ)) (P : ResNo → Type 0)
    (named : (n : List ℕ) (p : ℕ) → list_any (bytes_eq n) names ≡ true → resource_of s n ≡ Some p → P (res_no p)) where
  abbrev Takes : Block → Type 0
  Takes x = TakesOnly P x.kind

  -- of a resource that is declared and named
  get_takes : (r : Reference) (line : ℕ) (o : Option ℕ) (b : Bool) → resource_of s r.name ≡ o → list_any (bytes_eq r.name) names ≡ b → not_declared s r ≡ []
      → unnamed_in names line (call.GetResource r) ≡ []
      → P (res_no (unwrap_or (resource_of s r.name) 0))
  get_takes r line None b e f declared own = absurd (let none = subst (λ (o : Option ℕ). undeclared o r.line ≡ []) e declared in cc)
  get_takes r line (Some p) false e f declared own = absurd (let none = subst (λ (b : Bool). (if not b then line ∷ [] else []) ≡ []) f own in cc)
  get_takes r line (Some p) true e f declared own = subst (λ (o : Option ℕ). P (res_no (unwrap_or o 0))) (sym e) (named r.name p f e)

  call_takes : (c : Call) (line : ℕ) → undeclared_in s line c ≡ [] → unnamed_in names line c ≡ [] → TakesOnly P (kind_of s c)
  call_takes (call.GetResource r) line declared own = get_takes r line (resource_of s r.name) (list_any (bytes_eq r.name) names) refl refl declared own
  call_takes _ line declared own = tt

  statements_take : (xs : Statements) (n after : ℕ) (locks : List Opener) → from_calls (undeclared_in s) xs ≡ [] → from_calls (unnamed_in names) xs ≡ []
      → AllByRecursion Takes (blocks_of s xs n after locks)
  statements_take (closed line) n after locks d u = tt
  statements_take (work_then line count next) n after locks d u = (tt, statements_take next (n + 1) after locks d u)
  statements_take (if_then line branch next) n after locks d u =
      let first = n + 1 in let behind = first + nodes branch in let out = entry next behind after in
      let e = both_empty (from_calls (undeclared_in s) branch) (from_calls (undeclared_in s) next) d in
      let f = both_empty (from_calls (unnamed_in names) branch) (from_calls (unnamed_in names) next) u in (
        tt,
        each_append Takes (blocks_of s branch first out locks) (blocks_of s next behind after locks) (statements_take branch first out locks e.0 f.0)
            (statements_take next behind after locks e.1 f.1),
      )
  statements_take (if_else_then line branch otherwise next) n after locks d u =
      let first = n + 1 in let second = first + nodes branch in let behind = second + nodes otherwise in let out = entry next behind after in
      let last = blocks_of s next behind after (open_behind branch locks) in
      let e = both_empty (from_calls (undeclared_in s) branch) (from_calls (undeclared_in s) otherwise ++ from_calls (undeclared_in s) next) d in
      let f = both_empty (from_calls (unnamed_in names) branch) (from_calls (unnamed_in names) otherwise ++ from_calls (unnamed_in names) next) u in
      let g = both_empty (from_calls (undeclared_in s) otherwise) (from_calls (undeclared_in s) next) e.1 in
      let h = both_empty (from_calls (unnamed_in names) otherwise) (from_calls (unnamed_in names) next) f.1 in (
        tt,
        each_append Takes (blocks_of s branch first out locks) (blocks_of s otherwise second out locks ++ last) (statements_take branch first out locks e.0 f.0)
            (each_append Takes (blocks_of s otherwise second out locks) last (statements_take otherwise second out locks g.0 h.0)
            (statements_take next behind after (open_behind branch locks) g.1 h.1)),
      )
  statements_take (while_then line Choice body next) n after locks d u =
      let first = n + 1 in let behind = first + nodes body in
      let e = both_empty (from_calls (undeclared_in s) body) (from_calls (undeclared_in s) next) d in
      let f = both_empty (from_calls (unnamed_in names) body) (from_calls (unnamed_in names) next) u in (
        tt,
        each_append Takes (blocks_of s body first n locks) (blocks_of s next behind after locks) (statements_take body first n locks e.0 f.0)
            (statements_take next behind after locks e.1 f.1),
      )
  statements_take (while_then line Always body next) n after locks d u =
      let first = n + 1 in let behind = first + nodes body in
      let e = both_empty (from_calls (undeclared_in s) body) (from_calls (undeclared_in s) next) d in
      let f = both_empty (from_calls (unnamed_in names) body) (from_calls (unnamed_in names) next) u in (
        tt,
        each_append Takes (blocks_of s body first n locks) (blocks_of s next behind after locks) (statements_take body first n locks e.0 f.0)
            (statements_take next behind after locks e.1 f.1),
      )
  statements_take (call_then line c next) n after locks d u =
      let e = both_empty (undeclared_in s line c) (from_calls (undeclared_in s) next) d in
      let f = both_empty (unnamed_in names line c) (from_calls (unnamed_in names) next) u in
      (call_takes c line e.0 f.0, statements_take next (n + 1) after (open_behind_call locks c) e.1 f.1)

  end_takes : (k : BodyKind) → TakesOnly P (end_kind k)
  end_takes body_kind.Task = tt
  end_takes body_kind.Isr = tt

  body_takes : (body : Body) (n : ℕ) → from_calls (undeclared_in s) body.statements ≡ [] → from_calls (unnamed_in names) body.statements ≡ []
      → AllByRecursion Takes (body_blocks s body n)
  body_takes body n d u = each_append Takes (blocks_of s body.statements n (n + nodes body.statements) []) _
      (statements_take body.statements n (n + nodes body.statements) [] d u) (end_takes body.kind, tt)

  -- at their places in the application
  from_each : (n : ℕ) (xs : List Block) → AllByRecursion Takes xs → AllFrom (λ b x. Takes x) n xs
  from_each n [] h = tt
  from_each n (x ∷ xs) h = (h.0, from_each (n + 1) xs h.1)

  abbrev TakeAmong : List Block → ℕ → ℕ → Type 0
  TakeAmong blocks first count = (b : ℕ) → IsAmong b first count → Takes (slice_index_or blocks b no_block)

  pub code_takes : (bodies : List Body) (kind : BodyKind) (owner : List ℕ) (code : HasCode kind owner bodies)
      → from_calls (undeclared_in s) code.body.statements ≡ [] → from_calls (unnamed_in names) code.body.statements ≡ []
      → TakeAmong (app_blocks s bodies) (extent kind owner bodies 0).0 (extent kind owner bodies 0).1
  code_takes bodies kind owner code d u =
      code_keeps s TakeAmong kind owner bodies code
      (λ pre post n place b among. all_from_at (λ b x. Takes x) n pre (body_blocks s code.body n) post place
      (from_each n (body_blocks s code.body n) (body_takes code.body n d u)) b no_block among.0 (omega (arith, among.1, body_size s code.body n)))

-- ---- one ISR of a name

-- no two entries of one name
other_name : {X : Type 0} (key : X → List ℕ) (x : X) (xs : List X) (d : X) (j : ℕ) → AllByRecursion (λ (n : List ℕ). bytes_eq (key x) n ≡ false) (map key xs)
    → j < length xs → bytes_eq (key x) (key (get_or xs j d)) ≡ false
other_name key x [] d j h lt = absurd (omega arith)
other_name key x (y ∷ xs) d zero h lt = h.0
other_name key x (y ∷ xs) d (suc j) h lt = other_name key x xs d j h.1 (omega (arith, lt))

same_place : {X : Type 0} (key : X → List ℕ) (xs : List X) (d : X) (i j : ℕ) → IsDistinct bytes_eq (map key xs) → i < length xs → j < length xs
    → bytes_eq (key (get_or xs i d)) (key (get_or xs j d)) ≡ true → i ≡ j
unfolding IsDistinct
same_place key [] d i j distinct low high e = absurd (omega arith)
same_place key (x ∷ xs) d zero zero distinct low high e = refl
same_place key (x ∷ xs) d zero (suc j) distinct low high e = absurd (false≢true (sym (other_name key x xs d j distinct.0 (omega (arith, high))) ∙ e))
same_place key (x ∷ xs) d (suc i) zero distinct low high e = absurd
    (false≢true (sym (other_name key x xs d i distinct.0 (omega (arith, low))) ∙ nat_list_eq_equiv.symm (key x) (key (get_or xs i d)) ∙ e))
same_place key (x ∷ xs) d (suc i) (suc j) distinct low high e = ap suc (same_place key xs d i j distinct.1 (omega (arith, low)) (omega (arith, high)) e)

-- ---- the code of an ISR

module _ (t : Tree) (s : System) (is : s ≡ system_of t.objects) (clean : IsClean t) (linkable : IsLinkable s) (code : Code) (app : App)
    (has : HasApp s code app) where
  same_isrs : s.isrs ≡ map isr (objects_of t.objects)
  same_isrs = ap (λ (x : System). x.isrs) is

  isr_count : length s.isrs ≡ length (objects_of t.objects)
  isr_count = ap length same_isrs ∙ length-map (objects_of t.objects) isr

  abbrev entry_of : IsrObject → Isr
  entry_of x = isr_with x (extent body_kind.Isr x.name code.bodies 0)

  -- the ISR of an object
  module _ (i : ℕ) (o : Object) (at : slice_get (objects_of t.objects) i ≡ Some o) where
    inside : i < length s.isrs
    inside = omega (arith, isr_count, slice_get_within (objects_of t.objects) i o at)

    isr_at : (d : IsrObject) → slice_index_or s.isrs i d ≡ isr o
    isr_at d =
        ap (λ (xs : List IsrObject). slice_index_or xs i d) same_isrs
        ∙ get_or-map isr (objects_of t.objects) i o d (slice_get_within (objects_of t.objects) i o at)
        ∙ ap isr (get_or_from_slice_get (objects_of t.objects) i o o at)

    pub entry_at : the_isr app i ≡ entry_of (isr o)
    entry_at =
        ap (λ (xs : List Isr). slice_index_or xs i no_isr) has.isrs
        ∙ get_or-map entry_of s.isrs i (isr o) no_isr inside
        ∙ ap entry_of (isr_at (isr o))

    found : HasCode body_kind.Isr o.name code.bodies
    found = code_of body_kind.Isr o.name code.bodies
        (subst (λ (x : IsrObject). list_any (is_code_of body_kind.Isr x.name) code.bodies ≡ true) (isr_at (isr o))
        (All-from_recursion _ _ (isrs_have_code s code has.no_fault) i (isr o) inside))

    of_found : (P : Body → Type 0) → AllByRecursion P code.bodies → P found.body
    of_found P all = behind_front P found.before found.body found.behind (subst (AllByRecursion P) found.split all)

    kind_is : found.body.kind ≡ body_kind.Isr
    kind_is = code_kind body_kind.Isr o.name found.body found.is

    owner_is : found.body.owner.name ≡ o.name
    owner_is = sym ((bytes_eq-Decides o.name found.body.owner.name).0 (and_parts (is_kind body_kind.Isr found.body.kind) _ found.is).1)

    declared : from_calls (undeclared_in s) found.body.statements ≡ []
    declared =
        of_found (λ (body : Body). from_calls (undeclared_in s) body.statements ≡ [])
        (each_empty (λ (body : Body). from_calls (undeclared_in s) body.statements) code.bodies
        (no_line (undeclared_names s code.bodies) (λ l h. has.no_fault C4 l h)))

    some_isr : is_some (isr_of s o.name) ≡ true
    some_isr =
        let owned = of_found (λ (body : Body). has_owner s body.kind body.owner.name ≡ true) (bodies_have_owners s code has.no_fault) in
        let as_isr = subst (λ (k : BodyKind). has_owner s k found.body.owner.name ≡ true) kind_is owned in
        subst (λ (n : List ℕ). has_owner s body_kind.Isr n ≡ true) owner_is as_isr

    unnamed : unnamed_resources s (isr_of s o.name) found.body.statements ≡ []
    unnamed =
        let each = each_empty (λ (body : Body). isr_resources_by s body.kind body.owner.name body.statements) code.bodies
        (no_line (isr_resources s code.bodies) (λ l h. has.no_fault C6 l h)) in
        let own = of_found (λ (body : Body). isr_resources_by s body.kind body.owner.name body.statements ≡ []) each in
        let as_isr = subst (λ (k : BodyKind). isr_resources_by s k found.body.owner.name found.body.statements ≡ []) kind_is own in
        subst (λ (n : List ℕ). isr_resources_by s body_kind.Isr n found.body.statements ≡ []) owner_is as_isr

    -- the name is that of no other ISR
    number_is : (j : ℕ) → isr_of s o.name ≡ Some j → j ≡ i
    number_is j e =
        let first = position-Some (λ (x : IsrObject). bytes_eq o.name x.name) s.isrs j (isr o) e in
        let mine : bytes_eq (slice_index_or s.isrs j (isr o)).name (slice_index_or s.isrs i (isr o)).name ≡ true =
        ap (λ (x : IsrObject). bytes_eq (slice_index_or s.isrs j (isr o)).name x.name) (isr_at (isr o))
        ∙ nat_list_eq_equiv.symm (slice_index_or s.isrs j (isr o)).name o.name ∙ first.1 in
        same_place (λ (x : IsrObject). x.name) s.isrs (isr o) j i linkable.isr_names.distinct first.0 inside mine

    named_alone : (q : Option ℕ) → isr_of s o.name ≡ q → is_some q ≡ true → unnamed_resources s q found.body.statements ≡ []
        → from_calls (unnamed_in (isr o).resources) found.body.statements ≡ []
    named_alone None e some none = absurd (false≢true some)
    named_alone (Some j) e some none =
        let its : resources_of_isr s j ≡ (isr o).resources =
        ap (resources_of_isr s) (number_is j e) ∙ ap (λ (x : IsrObject). x.resources) (isr_at no_isr_object) in
        subst (λ (names : List (List ℕ)). from_calls (unnamed_in names) found.body.statements ≡ []) its none

    abbrev IsAbove : ResNo → Type 0
    IsAbove r = priority o < (slice_index_or s.resources r.0 no_resource).interrupt_ceiling

    named : (n : List ℕ) (p : ℕ) → list_any (bytes_eq n) (isr o).resources ≡ true → resource_of s n ≡ Some p → IsAbove (res_no p)
    named n p own e =
        let first = position-Some (λ (x : Resource). bytes_eq n x.name) s.resources p no_resource e in
        let Above = λ (x : Resource). bytes_eq n x.name ≡ true → priority o < x.interrupt_ceiling in
        let each : AllByRecursion Above s.resources =
        subst (AllByRecursion Above) (sym (ap (λ (x : System). x.resources) is)) (named_above t clean o i at n own) in
        All-from_recursion Above s.resources each p no_resource first.0 first.1

    takes : TakeAmong s (isr o).resources IsAbove named (app_blocks s code.bodies) (extent body_kind.Isr o.name code.bodies 0).0
        (extent body_kind.Isr o.name code.bodies 0).1
    takes = code_takes s (isr o).resources IsAbove named code.bodies body_kind.Isr o.name found declared (named_alone (isr_of s o.name) refl some_isr unnamed)

    pub isr_takes : (b : ℕ) (r : ResNo) → IsAmong b (the_isr app i).first.0 (the_isr app i).count
        → (the_block app b).kind ≡ kind.Call (OfResource GetResource r) → (the_isr app i).priority + 1 ≤ interrupt_ceiling app r.0
    isr_takes b r among calls =
        let here : IsAmong b (entry_of (isr o)).first.0 (entry_of (isr o)).count = subst (λ (x : Isr). IsAmong b x.first.0 x.count) entry_at among in
        let block : TakesOnly IsAbove (the_block app b).kind =
        subst (λ (blocks : List Block). TakesOnly IsAbove (slice_index_or blocks b no_block).kind) (sym has.blocks) (takes b here) in
        let taken : IsAbove r = subst (TakesOnly IsAbove) calls block in
        let same : (slice_index_or s.resources r.0 no_resource).interrupt_ceiling ≡ interrupt_ceiling app r.0 =
        ap (λ (xs : List Resource). (slice_index_or xs r.0 no_resource).interrupt_ceiling) (sym has.resources) in
        omega (arith, taken, same, ap (λ (x : Isr). x.priority) entry_at)

  -- ---- the routine of a source

  isr_past : (i : ℕ) → length (objects_of t.objects) ≤ i → the_isr app i ≡ no_isr
  isr_past i past =
      let behind : length (map entry_of s.isrs) ≤ i = omega (arith, length-map s.isrs entry_of, isr_count) in
      ap (λ (xs : List Isr). slice_index_or xs i no_isr) has.isrs ∙ get_or_past (map entry_of s.isrs) i no_isr behind

  any_isr : (i b : ℕ) (r : ResNo) → IsAmong b (the_isr app i).first.0 (the_isr app i).count → (the_block app b).kind ≡ kind.Call (OfResource GetResource r)
      → (the_isr app i).priority + 1 ≤ interrupt_ceiling app r.0
  any_isr i b r among calls = elim (slice_get_cases (objects_of t.objects) i).1 [
    | inl h ↦ isr_takes i h.0 h.2 b r among calls
    | inr h ↦ absurd (let none : IsAmong b no_isr.first.0 no_isr.count = subst (λ (x : Isr). IsAmong b x.first.0 x.count) (isr_past i h.0) among in
        omega (arith, none.1))
  ]

  -- a tick routine calls nothing
  no_tick : (c b : ℕ) (r : ResNo) → c < length app.counters → IsAmong b (the_counter app c).first.0 (the_counter app c).count
      → (the_block app b).kind ≡ kind.Call (OfResource GetResource r) → ⊥
  no_tick c b r known among calls =
      let may = (app.valid.tick_code c known).each b among in
      false≢true (subst (λ (k : Kind). tick_may (due_of app.alarms c) (b - (the_counter app c).first.0) k ≡ true) calls may)

  by_source : (k b : ℕ) (r : ResNo) (c : Bool) → is_counter app k ≡ c → let i = k - length app.counters in
      IsAmong b (if c then (the_counter app k).first else (the_isr app i).first).0 (if c then (the_counter app k).count else (the_isr app i).count)
      → (the_block app b).kind ≡ kind.Call (OfResource GetResource r)
      → (if c then 0 else (the_isr app i).priority) + 1 ≤ interrupt_ceiling app r.0
  by_source k b r true e among calls = absurd (no_tick k b r (grind (arith, nat_tests)) among calls)
  by_source k b r false e among calls = any_isr (k - length app.counters) b r among calls

  pub routine_under : (k b : ℕ) (r : ResNo) → IsOfRoutine app k b → (the_block app b).kind ≡ kind.Call (OfResource GetResource r)
      → own_level app k ≤ interrupt_ceiling app r.0
  routine_under k b r among calls = by_source k b r (is_counter app k) refl among calls
