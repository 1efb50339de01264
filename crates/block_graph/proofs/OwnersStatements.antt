-- What the blocks of statements keep.
use Rattle.std.proofs.Common.{◌≡◌, ℕ, ◌+◌, ◌<◌, ◌≤◌, false, List, [], ◌++◌, length, refl, arith, IsTrue, length-append}
use Rattle.std.specs.Prelude.{All}
use Rattle.osek_values.proofs.Lists.{both_empty}
use Rattle.oil_system.specs.declared.system.{EventObject.{EventObject}, System.{System}}
use Rattle.osek_standard.specs.{declared.block.Block.{Block}, Validity.{IsAmong, IsBlock, isr_may, is_own_next, task_may}}
use Rattle.task_code.specs.{declared.tree.{Body.{Body}, Condition.TheVariants.{Choice, Always}}, Fit.{HasCounts, HasMasks}}
use Rattle.task_code.specs.Statements.{Statements, closed, work_then, if_then, if_else_then, while_then, call_then, nodes}
use Rattle.task_code.proofs.FitLaws.{count_range}
use Rattle.block_graph.specs.{declared.locks.Opener.{Opener}, Apps.{tables_over}, Blocks.{blocks_of, entry}, Locks.{open_behind, open_behind_call}}
use Rattle.block_graph.specs.Rules.{from_calls}
use Rattle.block_graph.proofs.{OwnersCalls.{wrong_names, call_names_entries, call_in_task, call_in_isr, call_goes_on, call_has_one_way}, OwnersEach.{AllFrom, all_from_append}}

-- each statement is a block
pub blocks_length : (s : System) (xs : Statements) (n after : ℕ) (locks : List Opener) → length (blocks_of s xs n after locks) ≡ nodes xs
blocks_length s (closed line) n after locks = refl
blocks_length s (work_then line count next) n after locks = omega (arith, blocks_length s next (n + 1) after locks)
blocks_length s (if_then line branch next) n after locks =
    let first = n + 1 in let behind = first + nodes branch in let out = entry next behind after in
    omega (arith, length-append (blocks_of s branch first out locks) (blocks_of s next behind after locks), blocks_length s branch first out locks, blocks_length s next behind after locks)
blocks_length s (if_else_then line branch otherwise next) n after locks =
    let first = n + 1 in let second = first + nodes branch in let behind = second + nodes otherwise in let out = entry next behind after in
    let last = blocks_of s next behind after (open_behind branch locks) in
    omega (
      arith,
      length-append (blocks_of s branch first out locks) (blocks_of s otherwise second out locks ++ last),
      length-append (blocks_of s otherwise second out locks) last,
      blocks_length s branch first out locks,
      blocks_length s otherwise second out locks,
      blocks_length s next behind after (open_behind branch locks),
    )
blocks_length s (while_then line Choice body next) n after locks =
    let first = n + 1 in let behind = first + nodes body in
    omega (arith, length-append (blocks_of s body first n locks) (blocks_of s next behind after locks), blocks_length s body first n locks, blocks_length s next behind after locks)
blocks_length s (while_then line Always body next) n after locks =
    let first = n + 1 in let behind = first + nodes body in
    omega (arith, length-append (blocks_of s body first n locks) (blocks_of s next behind after locks), blocks_length s body first n locks, blocks_length s next behind after locks)
blocks_length s (call_then line call next) n after locks = omega (arith, blocks_length s next (n + 1) after (open_behind_call locks call))

-- of a block of an owner, by its number
pub record IsGood (s : System) (bodies : List Body) (blocks : List Block) (first count b : ℕ) (x : Block) : Type 0 where
  pub own_next : IsTrue (is_own_next b x.kind x.next.0)
  pub is_block : IsBlock (tables_over s bodies blocks) first count x

module _ (s : System) (bodies : List Body) (blocks : List Block) (first count : ℕ) where
  -- statements lie among the owner's blocks, and so does what follows them
  abbrev pub Lie : Statements → ℕ → ℕ → Type 0
  Lie xs n after = (first ≤ n) × (n + nodes xs < first + count) × IsAmong after first count

  entry_among : (xs : Statements) (n after : ℕ) → Lie xs n after → IsAmong (entry xs n after) first count
  entry_among (closed line) n after lie = lie.2
  entry_among (work_then line work next) n after lie = (lie.0, omega arith)
  entry_among (if_then line branch next) n after lie = (lie.0, omega arith)
  entry_among (if_else_then line branch otherwise next) n after lie = (lie.0, omega arith)
  entry_among (while_then line condition body next) n after lie = (lie.0, omega arith)
  entry_among (call_then line call next) n after lie = (lie.0, omega arith)

  abbrev pub Good : ℕ → Block → Type 0
  Good b x = IsGood s bodies blocks first count b x

  module _ (events : All (λ (x : EventObject). 0 < x.mask.0) s.events) where
    pub blocks_are_good : (xs : Statements) (n after : ℕ) (locks : List Opener) → Lie xs n after → HasCounts xs → HasMasks xs → from_calls (wrong_names s) xs ≡ []
        → AllFrom Good n (blocks_of s xs n after locks)
    blocks_are_good (closed line) n after locks lie counts masks declared = tt
    blocks_are_good (work_then line work next) n after locks lie counts masks declared =
        let rest : Lie next (n + 1) after = (omega arith, omega arith, lie.2) in (
          record { own_next = refl; is_block = record { operands = (count_range work counts.0).0; next = entry_among next (n + 1) after rest; other = tt } },
          blocks_are_good next (n + 1) after locks rest counts.1 masks declared,
        )
    blocks_are_good (if_then line branch next) n after locks lie counts masks declared =
        let start = n + 1 in let behind = start + nodes branch in let out = entry next behind after in
        let rest : Lie next behind after = (omega arith, omega arith, lie.2) in
        let leaving : IsAmong out first count = entry_among next behind after rest in
        let inner : Lie branch start out = (omega arith, omega arith, leaving) in
        let names = both_empty (from_calls (wrong_names s) branch) (from_calls (wrong_names s) next) declared in (
          record { own_next = refl; is_block = record { operands = tt; next = entry_among branch start out inner; other = leaving } },
          all_from_append Good start (nodes branch) (blocks_of s branch start out locks) (blocks_of s next behind after locks) (blocks_length s branch start out locks)
              (blocks_are_good branch start out locks inner counts.0 masks.0 names.0)
              (blocks_are_good next behind after locks rest counts.1 masks.1 names.1),
        )
    blocks_are_good (if_else_then line branch otherwise next) n after locks lie counts masks declared =
        let start = n + 1 in let second = start + nodes branch in let behind = second + nodes otherwise in let out = entry next behind after in
        let rest : Lie next behind after = (omega arith, omega arith, lie.2) in
        let leaving : IsAmong out first count = entry_among next behind after rest in
        let inner : Lie branch start out = (omega arith, omega arith, leaving) in
        let other : Lie otherwise second out = (omega arith, omega arith, leaving) in
        let names = both_empty (from_calls (wrong_names s) branch) (from_calls (wrong_names s) otherwise ++ from_calls (wrong_names s) next) declared in
        let later = both_empty (from_calls (wrong_names s) otherwise) (from_calls (wrong_names s) next) names.1 in
        let last = blocks_of s next behind after (open_behind branch locks) in (
          record { own_next = refl; is_block = record { operands = tt; next = entry_among branch start out inner; other = entry_among otherwise second out other } },
          all_from_append Good start (nodes branch) (blocks_of s branch start out locks) (blocks_of s otherwise second out locks ++ last) (blocks_length s branch start out locks)
              (blocks_are_good branch start out locks inner counts.0 masks.0 names.0)
              (all_from_append Good second (nodes otherwise) (blocks_of s otherwise second out locks) last (blocks_length s otherwise second out locks)
              (blocks_are_good otherwise second out locks other counts.1 masks.1 later.0)
              (blocks_are_good next behind after (open_behind branch locks) rest counts.2 masks.2 later.1)),
        )
    blocks_are_good (while_then line Choice body next) n after locks lie counts masks declared =
        let start = n + 1 in let behind = start + nodes body in
        let rest : Lie next behind after = (omega arith, omega arith, lie.2) in
        let inner : Lie body start n = (omega arith, omega arith, (lie.0, omega arith)) in
        let names = both_empty (from_calls (wrong_names s) body) (from_calls (wrong_names s) next) declared in (
          record { own_next = refl; is_block = record { operands = tt; next = entry_among body start n inner; other = entry_among next behind after rest } },
          all_from_append Good start (nodes body) (blocks_of s body start n locks) (blocks_of s next behind after locks) (blocks_length s body start n locks)
              (blocks_are_good body start n locks inner counts.0 masks.0 names.0)
              (blocks_are_good next behind after locks rest counts.1 masks.1 names.1),
        )
    blocks_are_good (while_then line Always body next) n after locks lie counts masks declared =
        let start = n + 1 in let behind = start + nodes body in
        let rest : Lie next behind after = (omega arith, omega arith, lie.2) in
        let inner : Lie body start n = (omega arith, omega arith, (lie.0, omega arith)) in
        let names = both_empty (from_calls (wrong_names s) body) (from_calls (wrong_names s) next) declared in (
          record { own_next = refl; is_block = record { operands = tt; next = entry_among body start n inner; other = tt } },
          all_from_append Good start (nodes body) (blocks_of s body start n locks) (blocks_of s next behind after locks) (blocks_length s body start n locks)
              (blocks_are_good body start n locks inner counts.0 masks.0 names.0)
              (blocks_are_good next behind after locks rest counts.1 masks.1 names.1),
        )
    blocks_are_good (call_then line call next) n after locks lie counts masks declared =
        let rest : Lie next (n + 1) after = (omega arith, omega arith, lie.2) in
        let names = both_empty (wrong_names s line call) (from_calls (wrong_names s) next) declared in (
          record {
            own_next = call_goes_on s n (entry next (n + 1) after) call;
            is_block = record {
              operands = call_names_entries s bodies blocks events line call masks.0 names.0;
              next = entry_among next (n + 1) after rest;
              other = call_has_one_way s (tables_over s bodies blocks) first count call;
            };
          },
          blocks_are_good next (n + 1) after (open_behind_call locks call) rest counts masks.1 names.1,
        )

-- a statement is no end of a body
abbrev pub InTask : ℕ → Block → Type 0
InTask b x = IsTrue (task_may false x.kind)

abbrev pub InIsr : ℕ → Block → Type 0
InIsr b x = IsTrue (isr_may false x.kind)

module _ (s : System) where
  pub blocks_in_task : (xs : Statements) (n after : ℕ) (locks : List Opener) → AllFrom InTask n (blocks_of s xs n after locks)
  blocks_in_task (closed line) n after locks = tt
  blocks_in_task (work_then line work next) n after locks = (refl, blocks_in_task next (n + 1) after locks)
  blocks_in_task (if_then line branch next) n after locks =
      let start = n + 1 in let behind = start + nodes branch in let out = entry next behind after in (
        refl,
        all_from_append InTask start (nodes branch) (blocks_of s branch start out locks) (blocks_of s next behind after locks) (blocks_length s branch start out locks)
            (blocks_in_task branch start out locks) (blocks_in_task next behind after locks),
      )
  blocks_in_task (if_else_then line branch otherwise next) n after locks =
      let start = n + 1 in let second = start + nodes branch in let behind = second + nodes otherwise in let out = entry next behind after in
      let last = blocks_of s next behind after (open_behind branch locks) in (
        refl,
        all_from_append InTask start (nodes branch) (blocks_of s branch start out locks) (blocks_of s otherwise second out locks ++ last) (blocks_length s branch start out locks)
            (blocks_in_task branch start out locks)
            (all_from_append InTask second (nodes otherwise) (blocks_of s otherwise second out locks) last (blocks_length s otherwise second out locks)
            (blocks_in_task otherwise second out locks) (blocks_in_task next behind after (open_behind branch locks))),
      )
  blocks_in_task (while_then line Choice body next) n after locks =
      let start = n + 1 in let behind = start + nodes body in (
        refl,
        all_from_append InTask start (nodes body) (blocks_of s body start n locks) (blocks_of s next behind after locks) (blocks_length s body start n locks)
            (blocks_in_task body start n locks) (blocks_in_task next behind after locks),
      )
  blocks_in_task (while_then line Always body next) n after locks =
      let start = n + 1 in let behind = start + nodes body in (
        refl,
        all_from_append InTask start (nodes body) (blocks_of s body start n locks) (blocks_of s next behind after locks) (blocks_length s body start n locks)
            (blocks_in_task body start n locks) (blocks_in_task next behind after locks),
      )
  blocks_in_task (call_then line call next) n after locks = (call_in_task s call, blocks_in_task next (n + 1) after (open_behind_call locks call))

  pub blocks_in_isr : (xs : Statements) (n after : ℕ) (locks : List Opener) → AllFrom InIsr n (blocks_of s xs n after locks)
  blocks_in_isr (closed line) n after locks = tt
  blocks_in_isr (work_then line work next) n after locks = (refl, blocks_in_isr next (n + 1) after locks)
  blocks_in_isr (if_then line branch next) n after locks =
      let start = n + 1 in let behind = start + nodes branch in let out = entry next behind after in (
        refl,
        all_from_append InIsr start (nodes branch) (blocks_of s branch start out locks) (blocks_of s next behind after locks) (blocks_length s branch start out locks)
            (blocks_in_isr branch start out locks) (blocks_in_isr next behind after locks),
      )
  blocks_in_isr (if_else_then line branch otherwise next) n after locks =
      let start = n + 1 in let second = start + nodes branch in let behind = second + nodes otherwise in let out = entry next behind after in
      let last = blocks_of s next behind after (open_behind branch locks) in (
        refl,
        all_from_append InIsr start (nodes branch) (blocks_of s branch start out locks) (blocks_of s otherwise second out locks ++ last) (blocks_length s branch start out locks)
            (blocks_in_isr branch start out locks)
            (all_from_append InIsr second (nodes otherwise) (blocks_of s otherwise second out locks) last (blocks_length s otherwise second out locks)
            (blocks_in_isr otherwise second out locks) (blocks_in_isr next behind after (open_behind branch locks))),
      )
  blocks_in_isr (while_then line Choice body next) n after locks =
      let start = n + 1 in let behind = start + nodes body in (
        refl,
        all_from_append InIsr start (nodes body) (blocks_of s body start n locks) (blocks_of s next behind after locks) (blocks_length s body start n locks)
            (blocks_in_isr body start n locks) (blocks_in_isr next behind after locks),
      )
  blocks_in_isr (while_then line Always body next) n after locks =
      let start = n + 1 in let behind = start + nodes body in (
        refl,
        all_from_append InIsr start (nodes body) (blocks_of s body start n locks) (blocks_of s next behind after locks) (blocks_length s body start n locks)
            (blocks_in_isr body start n locks) (blocks_in_isr next behind after locks),
      )
  blocks_in_isr (call_then line call next) n after locks = (call_in_isr s call, blocks_in_isr next (n + 1) after (open_behind_call locks call))
