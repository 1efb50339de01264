-- The values of a domain, listed.
use Rattle.std.proofs.Common.{◌≡◌, ℕ, ◌+◌, ◌*◌, ◌<◌, Bool, true, false, IsTrue, List, [], ◌∷◌, ◌++◌, length, map, filter, get_or, refl, sym, ap, subst, ap₂, ◌∙◌, inl, inr, arith}
use Rattle.std.specs.{Prelude.{not, All, Contains, if◌then◌else◌}, List.{range_with_len, IsDistinct}}
use Rattle.std.proofs.lemmas.{Bool.{cases_lt, false≢true}, List.{length-append, length-map, FromFn.{length-map-range_with_len, length-range_with_len}, Elements.{recursion_from_All, All-from_recursion}}}
use Rattle.osek_values.specs.{Bits.{has_bit}, Numbers.{block_no, mask, res_no}, declared.{mask.Mask.{Mask}, numbers.{BlockNo.{BlockNo}, ResNo.{ResNo}}}}
use Rattle.osek_standard.specs.{declared.{app.App.{App}, point.Point.{Point}, state.State.{State}}, Apps.{is_counter}, Counts.{stacks}, States.{source_state, task_state}, Validity.{IsAmong, is_internal}}
use Rattle.osek_standard.specs.Well.{Well, IsStack, same_resource}
use Rattle.osek_standard.specs.declared.point.Point.TheVariants as point
use Rattle.osek_standard.proofs.{InsideLaws.{IsNamed}, SourceKeeps.{sources_right}}
use Rattle.osek_standard.proofs.Members.{Among, among_left, among_right, among_cases, among_each, among_map, among_passing, passing_among, each_among, map_among, among_range, range_among, contained_among, among_contained}
use Rattle.abstract_state.specs.declared.value.{LiveVal.{LiveVal}, Val.{Val, TheVariants.{Suspended, Live, Waiting}}, SourceVal.{SourceVal}, RoutineVal.{RoutineVal}}
use Rattle.abstract_state.specs.declared.value.{Component.{Component}, Domain.{Domain}, PartValue.{PartValue, TheVariants.{OfTask, OfEvent, OfAlarm, OfSource}}}
use Rattle.abstract_state.specs.declared.value.SourceVal.TheVariants as source_val
use Rattle.abstract_state.specs.declared.value.Component.TheVariants as component
use Rattle.abstract_state.specs.declared.value.Domain.TheVariants as domain
use Rattle.abstract_state.specs.Components.{live_val, routine_val, component_at, component_count, abstract_of, part_of, source_value, value_in, IsComponent, IsVal, IsSourceVal, IsPart, IsAllowed}
use Rattle.abstract_state.specs.ValueOrder.{same_part}
use Rattle.abstract_state.specs.Domains.{IsLiveWithin, IsValWithin, IsRoutineWithin, IsSourceWithin, IsWithin, IsCounted, domain_of, domain_size, live_size, resources_in, takable_resources}
use Rattle.abstract_state.proofs.{OrderLaws.{part_right}, BitLaws.{has_bit_of_number, no_bit_past}, AllowedLaws.{val_of_activity, source_right}, ComponentLaws.{component_known}}
use Rattle.abstract_state.proofs.Stacks.{Apart, apart_append, apart_filter, apart_map, apart_pairs, apart_range, distinct_apart, stacks_out_of, apart_stacks_out_of, length_stacks_out_of}
use Rattle.abstract_state.proofs.Stacks.{among_pairs, length_pairs, out_of_stack, pairs, pairs_among, stack_distinct, stack_known}

-- a resource that may be taken is one of the mask
pub takable_known : (app : App) (r : ResNo) → r.0 < length app.resources → IsTrue (not (is_internal app.resources r.0)) → Contains (resources_in (takable_resources app)) r
takable_known app r lt free =
    let f : ℕ → Bool = λ k. not (is_internal app.resources k) in
    let bits = (takable_resources app).0 in
    let set : has_bit bits r.0 ≡ true = has_bit_of_number f (length app.resources) r.0 lt ∙ free in
    let few = app.valid.few_resources in
    among_contained (resources_in (takable_resources app)) r (among_map res_no r.0 (filter (has_bit bits) (range_with_len 0 64)) (among_passing (has_bit bits) 64 r.0 (omega (arith, lt, few)) set))

-- and each of the mask may be
pub known_takable : (app : App) (r : ResNo) → Contains (resources_in (takable_resources app)) r → (r.0 < length app.resources) × IsTrue (not (is_internal app.resources r.0))
known_takable app r m =
    let f : ℕ → Bool = λ k. not (is_internal app.resources k) in
    let bits = (takable_resources app).0 in
    let back = map_among res_no r (filter (has_bit bits) (range_with_len 0 64)) (contained_among (resources_in (takable_resources app)) r m) in
    let passed = passing_among (has_bit bits) 64 back.0 back.1 in
    let set : has_bit bits r.0 ≡ true = ap (λ (q : ResNo). has_bit bits q.0) back.2 ∙ passed.0 in
    elim (cases_lt r.0 (length app.resources)) [
      | inl lt ↦ (lt, sym (has_bit_of_number f (length app.resources) r.0 lt) ∙ set)
      | inr past ↦ absurd (false≢true (sym (no_bit_past f (length app.resources) r.0 past) ∙ set))
    ]

-- so a stack out of the mask is one
pub stack_within : (app : App) (held : List ResNo) → IsDistinct same_resource held → All (λ (r : ResNo). Contains (resources_in (takable_resources app)) r) held → IsStack app held
stack_within app held distinct known = record {
  out_of = record { distinct = distinct; known = λ k d lt. (known_takable app (get_or held k d) (known k d lt)).0 };
  takable = λ k d lt. (known_takable app (get_or held k d) (known k d lt)).1;
}

-- a source takes the resources that it may; a tick routine none
taken_by : (app : App) (c : Bool) (held : List ResNo) → (c ≡ true → held ≡ []) → IsStack app held → All (λ (r : ResNo). Contains (resources_in (if c then mask 0 else takable_resources app)) r) held
taken_by app true held none stack k d lt = let long : length held ≡ 0 = ap (λ (h : List ResNo). length h) (none refl) in absurd (omega (arith, lt, long))
taken_by app false held none stack k d lt = takable_known app (get_or held k d) (stack.out_of.known k d lt) (stack.takable k d lt)

module _ (app : App) (p : Point) where
  source_within : (k : ℕ) (v : SourceVal) → IsSourceVal app k v → IsWithin (domain_of app (component.Source (record { 0 = k }))) (OfSource v)
  source_within k source_val.Out h = tt
  source_within k (source_val.In x) h = record { own = h.own; distinct = h.stack.out_of.distinct; known = taken_by app (is_counter app k) x.held h.none h.stack }

  val_within : (t : ℕ) (v : Val) → IsVal app t v → IsWithin (domain_of app (component.Task (record { 0 = t }))) (OfTask v)
  val_within t Suspended h = tt
  val_within t (Live x) h = record {
    own = h.own;
    further = h.further;
    named = h.named;
    distinct = h.stack.out_of.distinct;
    known = λ k d lt. takable_known app (get_or x.held k d) (h.stack.out_of.known k d lt) (h.stack.takable k d lt);
  }
  val_within t (Waiting b) h = h.own

  part_within : (x : Component) (v : PartValue) → IsPart app p x v → IsWithin (domain_of app x) v
  part_within (component.Task t) (OfTask v) h = val_within t.0 v h.0
  part_within (component.Task t) (OfEvent b) h = h
  part_within (component.Task t) (OfAlarm b) h = h
  part_within (component.Task t) (OfSource v) h = h
  part_within (component.Event t k) (OfTask v) h = h
  part_within (component.Event t k) (OfEvent b) h = tt
  part_within (component.Event t k) (OfAlarm b) h = h
  part_within (component.Event t k) (OfSource v) h = h
  part_within (component.Alarm a) (OfTask v) h = h
  part_within (component.Alarm a) (OfEvent b) h = h
  part_within (component.Alarm a) (OfAlarm b) h = tt
  part_within (component.Alarm a) (OfSource v) h = h
  part_within (component.Source k) (OfTask v) h = h
  part_within (component.Source k) (OfEvent b) h = h
  part_within (component.Source k) (OfAlarm b) h = h
  part_within (component.Source k) (OfSource v) h = source_within k.0 v h.0

-- what a component can be lies in its domain
pub allowed_within : (app : App) (p : Point) (c : ℕ) (v : PartValue) → c < component_count app → IsAllowed app p c v → IsWithin (domain_of app (component_at app c)) v
allowed_within app p c v lt h = part_within app p (component_at app c) v h

-- and so does what a component of a well-formed state is, where who is inside names an INTERNAL resource
module _ (app : App) (s : State) (w : Well app s) (named : IsNamed app s) where
  part_in_domain : (k : Component) → IsComponent app k → IsWithin (domain_of app k) (part_of s k)
  part_in_domain (component.Task t) h =
      val_within app point.Idle t.0 (value_in (task_state s t.0).activity) (val_of_activity app t.0 (task_state s t.0).activity (named t.0) (w.tasks t.0 h).activity)
  part_in_domain (component.Event t k) h = tt
  part_in_domain (component.Alarm a) h = tt
  part_in_domain (component.Source k) h = source_within app point.Idle k.0 (source_value (source_state s k.0)) (source_right app k.0 (source_state s k.0) (sources_right app s w k.0))

  pub named_within : (c : ℕ) → c < component_count app → IsWithin (domain_of app (component_at app c)) (abstract_of app s c)
  named_within c lt = part_in_domain (component_at app c) (component_known app c lt)

one_number : (a b : ℕ) → block_no a ≡ block_no b → a ≡ b
one_number a b e = ap (λ (x : BlockNo). x.0) e

module _ (first count : ℕ) where
  -- the blocks of a task
  abbrev own_blocks : List BlockNo
  own_blocks = map block_no (range_with_len first count)

  apart_blocks : Apart own_blocks
  apart_blocks = apart_map block_no one_number (range_with_len first count) (apart_range first count)

  length_blocks : length own_blocks ≡ count
  length_blocks = length-map-range_with_len block_no first count

  among_blocks : (b : BlockNo) → IsAmong b.0 first count → Among b own_blocks
  among_blocks b h = among_map block_no b.0 (range_with_len first count) (among_range first count b.0 h.0 h.1)

  blocks_among : (b : BlockNo) → Among b own_blocks → IsAmong b.0 first count
  blocks_among b m =
      let back = map_among block_no b (range_with_len first count) m in
      let low = range_among first count back.0 back.1 in
      let same : b.0 ≡ back.0 = ap (λ (c : BlockNo). c.0) back.2 in
      (omega (arith, low.0, same), omega (arith, low.1, same))

one_resource : (a b : ℕ) → res_no a ≡ res_no b → a ≡ b
one_resource a b e = ap (λ (x : ResNo). x.0) e

pub apart_resources : (m : Mask) → Apart (resources_in m)
apart_resources m = apart_map res_no one_resource (filter (has_bit m.0) (range_with_len 0 64)) (apart_filter (has_bit m.0) (range_with_len 0 64) (apart_range 0 64))

-- inside or not, where a task names an INTERNAL resource
abbrev flags : Bool → List Bool
flags true = false ∷ true ∷ []
flags false = false ∷ []

flag_differs : false ≡ true → ⊥
flag_differs e = false≢true e

apart_flags : (internal : Bool) → Apart (flags internal)
apart_flags true = (λ m. elim m [ inl e ↦ flag_differs e | inr none ↦ none ], (λ none. none, tt))
apart_flags false = (λ none. none, tt)

among_flags : (internal b : Bool) → (b ≡ true → internal ≡ true) → Among b (flags internal)
among_flags true true h = inr (inl refl)
among_flags true false h = inl refl
among_flags false true h = absurd (false≢true (h refl))
among_flags false false h = inl refl

flags_among : (internal b : Bool) → Among b (flags internal) → b ≡ true → internal ≡ true
flags_among true b m e = refl
flags_among false b (inl same) e = absurd (false≢true (sym same ∙ e))
flags_among false b (inr none) e = absurd none

-- what a Live value is made of
abbrev Parts : Type 0
Parts = BlockNo × (ℕ × (Bool × List ResNo))

abbrev live_of : Parts → Val
live_of q = Live (live_val q.0 q.1.0 q.1.1.0 q.1.1.1)

abbrev parts_in : Val → Parts
parts_in Suspended = (block_no 0, (0, (false, [])))
parts_in (Live x) = (x.block, (x.further, (x.inside, x.held)))
parts_in (Waiting b) = (b, (0, (false, [])))

one_live : (q r : Parts) → live_of q ≡ live_of r → q ≡ r
one_live q r e = ap parts_in e

one_waiting : (b c : BlockNo) → Waiting b ≡ Waiting c → b ≡ c
one_waiting b c e = cc

one_value : (v w : Val) → OfTask v ≡ OfTask w → v ≡ w
one_value v w e = cc

-- and a value of a routine
abbrev in_of : BlockNo × List ResNo → SourceVal
in_of q = source_val.In (routine_val q.0 q.1)

abbrev parts_of_source : SourceVal → BlockNo × List ResNo
parts_of_source source_val.Out = (block_no 0, [])
parts_of_source (source_val.In x) = (x.block, x.held)

one_in : (q r : BlockNo × List ResNo) → in_of q ≡ in_of r → q ≡ r
one_in q r e = ap parts_of_source e

one_source : (v w : SourceVal) → OfSource v ≡ OfSource w → v ≡ w
one_source v w e = cc

module _ (first count : ℕ) (takable : Mask) (activation : ℕ) (internal : Bool) where
  abbrev blocks : List BlockNo
  blocks = own_blocks first count

  abbrev all_stacks : List (List ResNo)
  all_stacks = stacks_out_of (resources_in takable)

  abbrev flagged_stacks : List (Bool × List ResNo)
  flagged_stacks = pairs (flags internal) all_stacks

  abbrev counted_stacks : List (ℕ × (Bool × List ResNo))
  counted_stacks = pairs (range_with_len 0 activation) flagged_stacks

  -- a block, further activations, a flag and a stack
  abbrev all_parts : List Parts
  all_parts = pairs blocks counted_stacks

  abbrev live_vals : List Val
  live_vals = map live_of all_parts

  abbrev waiting_vals : List Val
  waiting_vals = map Waiting blocks

  -- suspended, waiting at each block, and Live
  abbrev all_vals : List Val
  all_vals = Suspended ∷ (waiting_vals ++ live_vals)

  apart_live : Apart live_vals
  apart_live =
      apart_map live_of one_live all_parts
      (apart_pairs blocks counted_stacks (apart_blocks first count)
      (apart_pairs (range_with_len 0 activation) flagged_stacks (apart_range 0 activation)
      (apart_pairs (flags internal) all_stacks (apart_flags internal) (apart_stacks_out_of (resources_in takable) (apart_resources takable)))))

  waiting_or_live : (v : Val) → Among v waiting_vals → Among v live_vals → ⊥
  waiting_or_live v m k =
      let waits = map_among Waiting v blocks m in
      let lives = map_among live_of v all_parts k in
      let same : Waiting waits.0 ≡ live_of lives.0 = sym waits.2 ∙ lives.2 in
      absurd (cc)

  never_suspended : Among Suspended (waiting_vals ++ live_vals) → ⊥
  never_suspended m = elim (among_cases Suspended waiting_vals live_vals m) [
    | inl h ↦ (let waits = map_among Waiting Suspended blocks h in let e = waits.2 in absurd (cc))
    | inr h ↦ (let lives = map_among live_of Suspended all_parts h in let e : Suspended ≡ live_of lives.0 = lives.2 in absurd (cc))
  ]

  apart_vals : Apart all_vals
  apart_vals = (never_suspended, apart_append waiting_vals live_vals (apart_map Waiting one_waiting blocks (apart_blocks first count)) apart_live waiting_or_live)

  length_flagged : length flagged_stacks ≡ length (flags internal) * stacks (length (resources_in takable))
  length_flagged = length_pairs (flags internal) all_stacks ∙ ap (λ (n : ℕ). length (flags internal) * n) (length_stacks_out_of (resources_in takable) (apart_resources takable))

  length_counted : length counted_stacks ≡ activation * (length (flags internal) * stacks (length (resources_in takable)))
  length_counted =
      length_pairs (range_with_len 0 activation) flagged_stacks
      ∙ ap₂ (λ (m n : ℕ). m * n) (length-range_with_len 0 activation) length_flagged

  length_parts : length all_parts ≡ count * (activation * (length (flags internal) * stacks (length (resources_in takable))))
  length_parts = length_pairs blocks counted_stacks ∙ ap₂ (λ (m n : ℕ). m * n) (length_blocks first count) length_counted

  waiting_within : (v : Val) → Among v waiting_vals → IsValWithin first count takable activation internal v
  waiting_within v m =
      let waits = map_among Waiting v blocks m in
      subst (IsValWithin first count takable activation internal) (sym waits.2) (blocks_among first count waits.0 waits.1)

  parts_within : (q : Parts) → Among q all_parts → IsLiveWithin first count takable activation internal (live_val q.0 q.1.0 q.1.1.0 q.1.1.1)
  parts_within q m =
      let whole = pairs_among q blocks counted_stacks m in
      let counted = pairs_among q.1 (range_with_len 0 activation) flagged_stacks whole.1 in
      let flagged = pairs_among q.1.1 (flags internal) all_stacks counted.1 in
      let below = range_among 0 activation q.1.0 counted.0 in
      let held = q.1.1.1 in
      record {
        own = blocks_among first count q.0 whole.0;
        further = omega (arith, below.1);
        named = flags_among internal q.1.1.0 flagged.0;
        distinct = stack_distinct (resources_in takable) held flagged.1;
        known = All-from_recursion (λ (r : ResNo). Contains (resources_in takable) r) held
            (each_among (λ (r : ResNo). Contains (resources_in takable) r) held (λ r k. among_contained (resources_in takable) r (stack_known (resources_in takable) held flagged.1 r k)));
      }

  live_within : (v : Val) → Among v live_vals → IsValWithin first count takable activation internal v
  live_within v m =
      let lives = map_among live_of v all_parts m in
      subst (IsValWithin first count takable activation internal) (sym lives.2) (parts_within lives.0 lives.1)

  there_within : (v : Val) → Among v all_vals → IsValWithin first count takable activation internal v
  there_within v (inl e) = subst (IsValWithin first count takable activation internal) (sym e) tt
  there_within v (inr m) = elim (among_cases v waiting_vals live_vals m) [
    | inl h ↦ waiting_within v h
    | inr h ↦ live_within v h
  ]

  held_there : (x : LiveVal) → IsLiveWithin first count takable activation internal x → Among x.held all_stacks
  held_there x h =
      out_of_stack (resources_in takable) x.held (apart_resources takable) h.distinct
      (λ r m. contained_among (resources_in takable) r
      (among_each (λ (q : ResNo). Contains (resources_in takable) q) x.held (recursion_from_All (λ (q : ResNo). Contains (resources_in takable) q) x.held h.known) r m))

  parts_there : (x : LiveVal) → IsLiveWithin first count takable activation internal x → Among (x.block, (x.further, (x.inside, x.held))) all_parts
  parts_there x h =
      among_pairs x.block (x.further, (x.inside, x.held)) blocks counted_stacks (among_blocks first count x.block h.own)
      (among_pairs x.further (x.inside, x.held) (range_with_len 0 activation) flagged_stacks (among_range 0 activation x.further (omega arith) (omega (arith, h.further)))
      (among_pairs x.inside x.held (flags internal) all_stacks (among_flags internal x.inside h.named) (held_there x h)))

  within_there : (v : Val) → IsValWithin first count takable activation internal v → Among v all_vals
  within_there Suspended h = inl refl
  within_there (Waiting b) h = inr (among_left (Waiting b) waiting_vals live_vals (among_map Waiting b blocks (among_blocks first count b h)))
  within_there (Live x) h = inr (among_right (Live x) waiting_vals live_vals (among_map live_of (x.block, (x.further, (x.inside, x.held))) all_parts (parts_there x h)))

-- as many as are counted
same_size : (count size activation : ℕ) (internal : Bool) → count * (activation * (length (flags internal) * size)) ≡ (if internal then 2 * (count * size * activation) else count * size * activation)
same_size count size activation true = omega arith
same_size count size activation false = omega arith

length_vals : (first count : ℕ) (takable : Mask) (activation : ℕ) (internal : Bool) → length (all_vals first count takable activation internal) ≡ 1 + count + live_size count takable activation internal
length_vals first count takable activation internal =
    let waits : length (waiting_vals first count takable activation internal) ≡ count = length-map (own_blocks first count) Waiting ∙ length_blocks first count in
    let lives : length (live_vals first count takable activation internal) ≡ live_size count takable activation internal
    = length-map (all_parts first count takable activation internal) live_of
    ∙ length_parts first count takable activation internal
    ∙ same_size count (stacks (length (resources_in takable))) activation internal in
    omega (arith, length-append (waiting_vals first count takable activation internal) (live_vals first count takable activation internal), waits, lives)

-- a source is Out, or In at a block with a stack
module _ (first count : ℕ) (takable : Mask) where
  abbrev source_stacks : List (List ResNo)
  source_stacks = stacks_out_of (resources_in takable)

  abbrev in_parts : List (BlockNo × List ResNo)
  in_parts = pairs (own_blocks first count) source_stacks

  abbrev source_vals : List SourceVal
  source_vals = source_val.Out ∷ map in_of in_parts

  never_out : Among source_val.Out (map in_of in_parts) → ⊥
  never_out m = let back = map_among in_of source_val.Out in_parts m in let e : source_val.Out ≡ in_of back.0 = back.2 in absurd (cc)

  apart_sources : Apart source_vals
  apart_sources = (never_out, apart_map in_of one_in in_parts (apart_pairs (own_blocks first count) source_stacks (apart_blocks first count) (apart_stacks_out_of (resources_in takable) (apart_resources takable))))

  in_within : (q : BlockNo × List ResNo) → Among q in_parts → IsRoutineWithin first count takable (routine_val q.0 q.1)
  in_within q m =
      let whole = pairs_among q (own_blocks first count) source_stacks m in
      let held = q.1 in
      record {
        own = blocks_among first count q.0 whole.0;
        distinct = stack_distinct (resources_in takable) held whole.1;
        known = All-from_recursion (λ (r : ResNo). Contains (resources_in takable) r) held
            (each_among (λ (r : ResNo). Contains (resources_in takable) r) held (λ r k. among_contained (resources_in takable) r (stack_known (resources_in takable) held whole.1 r k)));
      }

  sources_within : (v : SourceVal) → Among v source_vals → IsSourceWithin first count takable v
  sources_within v (inl e) = subst (IsSourceWithin first count takable) (sym e) tt
  sources_within v (inr m) =
      let back = map_among in_of v in_parts m in
      subst (IsSourceWithin first count takable) (sym back.2) (in_within back.0 back.1)

  stack_there : (x : RoutineVal) → IsRoutineWithin first count takable x → Among x.held source_stacks
  stack_there x h =
      out_of_stack (resources_in takable) x.held (apart_resources takable) h.distinct
      (λ r m. contained_among (resources_in takable) r
      (among_each (λ (q : ResNo). Contains (resources_in takable) q) x.held (recursion_from_All (λ (q : ResNo). Contains (resources_in takable) q) x.held h.known) r m))

  within_sources : (v : SourceVal) → IsSourceWithin first count takable v → Among v source_vals
  within_sources source_val.Out h = inl refl
  within_sources (source_val.In x) h =
      inr (among_map in_of (x.block, x.held) in_parts (among_pairs x.block x.held (own_blocks first count) source_stacks (among_blocks first count x.block h.own) (stack_there x h)))

  length_sources : length source_vals ≡ 1 + count * stacks (length (resources_in takable))
  length_sources =
      let ins : length (map in_of in_parts) ≡ count * stacks (length (resources_in takable))
      = length-map in_parts in_of
      ∙ length_pairs (own_blocks first count) source_stacks
      ∙ ap₂ (λ (m n : ℕ). m * n) (length_blocks first count) (length_stacks_out_of (resources_in takable) (apart_resources takable)) in
      omega (arith, ins)

-- A domain's values.
abbrev values_of : Domain → List PartValue
values_of (domain.Task first count activation internal takable) = map OfTask (all_vals first.0 count takable activation internal)
values_of domain.Event = OfEvent false ∷ OfEvent true ∷ []
values_of domain.Alarm = OfAlarm false ∷ OfAlarm true ∷ []
values_of (domain.Source first count takable) = map OfSource (source_vals first.0 count takable)

event_differs : OfEvent false ≡ OfEvent true → ⊥
event_differs e = cc

alarm_differs : OfAlarm false ≡ OfAlarm true → ⊥
alarm_differs e = cc

values_apart : (d : Domain) → Apart (values_of d)
values_apart (domain.Task first count activation internal takable) =
    apart_map OfTask one_value (all_vals first.0 count takable activation internal) (apart_vals first.0 count takable activation internal)
values_apart domain.Event = (λ m. elim m [ inl e ↦ event_differs e | inr none ↦ none ], (λ none. none, tt))
values_apart domain.Alarm = (λ m. elim m [ inl e ↦ alarm_differs e | inr none ↦ none ], (λ none. none, tt))
values_apart (domain.Source first count takable) = apart_map OfSource one_source (source_vals first.0 count takable) (apart_sources first.0 count takable)

values_counted : (d : Domain) → length (values_of d) ≡ domain_size d
values_counted (domain.Task first count activation internal takable) =
    length-map (all_vals first.0 count takable activation internal) OfTask ∙ length_vals first.0 count takable activation internal
values_counted domain.Event = refl
values_counted domain.Alarm = refl
values_counted (domain.Source first count takable) = length-map (source_vals first.0 count takable) OfSource ∙ length_sources first.0 count takable

value_within : (d : Domain) (v : PartValue) → Among v (values_of d) → IsWithin d v
value_within (domain.Task first count activation internal takable) v m =
    let back = map_among OfTask v (all_vals first.0 count takable activation internal) m in
    subst (IsWithin (domain.Task first count activation internal takable)) (sym back.2) (there_within first.0 count takable activation internal back.0 back.1)
value_within domain.Event v (inl e) = subst (IsWithin domain.Event) (sym e) tt
value_within domain.Event v (inr (inl e)) = subst (IsWithin domain.Event) (sym e) tt
value_within domain.Event v (inr (inr none)) = absurd none
value_within domain.Alarm v (inl e) = subst (IsWithin domain.Alarm) (sym e) tt
value_within domain.Alarm v (inr (inl e)) = subst (IsWithin domain.Alarm) (sym e) tt
value_within domain.Alarm v (inr (inr none)) = absurd none
value_within (domain.Source first count takable) v m =
    let back = map_among OfSource v (source_vals first.0 count takable) m in
    subst (IsWithin (domain.Source first count takable)) (sym back.2) (sources_within first.0 count takable back.0 back.1)

within_value : (d : Domain) (v : PartValue) → IsWithin d v → Among v (values_of d)
within_value (domain.Task first count activation internal takable) (OfTask v) h =
    among_map OfTask v (all_vals first.0 count takable activation internal) (within_there first.0 count takable activation internal v h)
within_value (domain.Task first count activation internal takable) (OfEvent b) h = absurd h
within_value (domain.Task first count activation internal takable) (OfAlarm b) h = absurd h
within_value (domain.Task first count activation internal takable) (OfSource v) h = absurd h
within_value domain.Event (OfTask v) h = absurd h
within_value domain.Event (OfEvent false) h = inl refl
within_value domain.Event (OfEvent true) h = inr (inl refl)
within_value domain.Event (OfAlarm b) h = absurd h
within_value domain.Event (OfSource v) h = absurd h
within_value domain.Alarm (OfTask v) h = absurd h
within_value domain.Alarm (OfEvent b) h = absurd h
within_value domain.Alarm (OfAlarm false) h = inl refl
within_value domain.Alarm (OfAlarm true) h = inr (inl refl)
within_value domain.Alarm (OfSource v) h = absurd h
within_value (domain.Source first count takable) (OfTask v) h = absurd h
within_value (domain.Source first count takable) (OfEvent b) h = absurd h
within_value (domain.Source first count takable) (OfAlarm b) h = absurd h
within_value (domain.Source first count takable) (OfSource v) h = among_map OfSource v (source_vals first.0 count takable) (within_sources first.0 count takable v h)

-- each domain has as many values as its size
pub domain_counted : (d : Domain) → IsCounted d
domain_counted d = record {
  values = values_of d;
  distinct = distinct_apart same_part part_right (values_of d) (values_apart d);
  whole = λ v. (λ h. value_within d v (contained_among (values_of d) v h), λ h. among_contained (values_of d) v (within_value d v h));
  count = values_counted d;
}
