-- Bytes begin with a value of a task, or have a value's fault.
use Rattle.std.proofs.Common.{◌≡◌, ◌⊎◌, ℕ, zero, suc, ◌+◌, ◌<◌, ◌≤◌, Bool, true, false, List, [], ◌∷◌, ◌++◌, length, refl, sym, ap, subst, inl, inr, arith, IsTrue}
use Rattle.std.specs.{Prelude.{◌==◌, ◌||◌, not}, Int.{to_be_bytes, w16}}
use Rattle.std.proofs.lemmas.Bool.{cases_Bool}
use Rattle.osek_values.specs.{declared.numbers.{BlockNo.{BlockNo}, ResNo.{ResNo}}, Numbers.{block_no, res_no}}
use Rattle.osek_standard.specs.{declared.{app.App.{App}, point.Point.{Point}}, Counts.{takable_count}, TaskStates.{holds}, Validity.{IsAmong, is_internal}, Well.{IsStack, IsWaitingAt}}
use Rattle.osek_standard.proofs.StackLaws.{IsTakable, push_stack}
use Rattle.abstract_state.specs.declared.value.{Val.TheVariants.{Suspended, Live, Waiting}, Component.{Component}, PartValue.{PartValue, TheVariants.{OfTask}}}
use Rattle.abstract_state.specs.{ValueOrder.{flag_field}, Components.{live_val}}
use Rattle.table_codec.specs.declared.{fault.Fault.{Fault}, shape.Shape.{Shape}}
use Rattle.table_codec.specs.Faults.{IsValueFault}
use Rattle.table_codec.specs.{Shapes.{IsFlag, IsShape, shaped}, Values.{IsTag, IsReadValue, IsReadStack, IsStackFault}}
use Rattle.table_codec.proofs.Decisions.{Decided, decide_less, decide_at_most, decide_both, decide_true, AreBytes, IsField, FieldFound, word_found, byte_found}
use Rattle.table_codec.proofs.{StackEnds.{stack_last}, StackReads.{IsStackSoFar, none_read, one_read, bad_resource, stack_read}, SomeShapes.{decide_waiting}}
use Rattle.table_codec.proofs.ShapeLaws.{flag_read}
use Rattle.table_codec.proofs.ValueReading.{further_next, flag_next, size_next, tag_fault, block_fault, further_fault, inside_fault, size_fault, resource_fault, live_read, waiting_fault}

-- ---- a stack

module _ (app : App) (size : ℕ) (bytes : List ℕ) where
  abbrev pub StackFound : Type 0
  StackFound = ((held : List ResNo) × (rest : List ℕ) × IsReadStack app size bytes rest held) ⊎ ((f : Fault) × IsStackFault app size bytes f)

  decide_takable : (n : ℕ) → Decided (IsTakable app (res_no n))
  decide_takable n = decide_both (decide_less n (length app.resources)) (decide_true (not (is_internal app.resources n)))

  decide_resource : (held : List ResNo) → IsStack app held → (n : ℕ) → Decided (IsStack app (held ++ res_no n ∷ []))
  decide_resource held stack n = by_tests (decide_takable n) (cases_Bool (holds held n))
    where
      by_tests : Decided (IsTakable app (res_no n)) → (holds held n ≡ true) ⊎ (holds held n ≡ false) → Decided (IsStack app (held ++ res_no n ∷ []))
      by_tests (inl takable) (inr free) = inl (push_stack app held (res_no n) stack takable free)
      by_tests (inl takable) (inl there) = inr (λ h. let free = (stack_last app held (res_no n) h).1 in cc)
      by_tests (inr bars) there = inr (λ h. bars (stack_last app held (res_no n) h).0)

  stack_from : (left count : ℕ) (held : List ResNo) (rest : List ℕ) → IsStackSoFar app bytes count held rest → size ≡ count + left → AreBytes rest → StackFound
  stack_from zero count held rest h e all = inl (held, rest, stack_read app bytes count held rest h size (omega (arith, e)))
  stack_from (suc left) count held rest h e all =
      by_next (byte_found (λ n. IsStack app (held ++ res_no n ∷ [])) (decide_resource held h.stack) 5 refl rest all) (λ more after k d l. stack_from left (count + 1) more after k d l)
    where
      Goes : Type 0
      Goes = (more : List ResNo) (after : List ℕ) → IsStackSoFar app bytes (count + 1) more after → size ≡ count + 1 + left → AreBytes after → StackFound

      by_next : FieldFound 5 (λ n. IsStack app (held ++ res_no n ∷ [])) rest → Goes → StackFound
      by_next (inl x) goes = goes (held ++ res_no x.number ∷ []) x.rest (one_read app bytes count held rest h (res_no x.number) (held ++ res_no x.number ∷ []) x.rest x.may x.are refl) (omega (arith, e)) x.all
      by_next (inr bad) goes = inr (bad.0, bad_resource app bytes count held rest h size bad.0 (omega (arith, e)) bad.1)

  pub stack_found : AreBytes bytes → StackFound
  stack_found all = stack_from size 0 [] bytes (none_read app bytes [] refl) (omega arith) all

-- ---- a value

abbrev pub ValueFound : App → Point → Component → List ℕ → Type 0
ValueFound app p k bytes = ((v : PartValue) × (rest : List ℕ) × IsReadValue app p k bytes rest v) ⊎ ((f : Fault) × IsValueFault app p k bytes f)

module _ (app : App) (x : Shape) (s : IsShape app x) where
  abbrev Found : List ℕ → Type 0
  Found bytes = ValueFound app x.point (shaped x) bytes

  decide_among : (n : ℕ) → Decided (IsAmong n x.first.0 x.count)
  decide_among n = decide_both (decide_at_most x.first.0 n) (decide_less n (x.first.0 + x.count))

  decide_tag : (n : ℕ) → Decided (IsTag x n)
  decide_tag zero = decide_true x.is_free
  decide_tag (suc zero) = inl tt
  decide_tag (suc (suc zero)) = decide_true x.waits
  decide_tag (suc (suc (suc n))) = inr (λ h. h)

  decide_flag : (n : ℕ) → Decided (IsFlag x n)
  decide_flag zero = decide_true (x.is_free || not x.named)
  decide_flag (suc zero) = decide_true x.named
  decide_flag (suc (suc n)) = inr (λ h. h)

  module _ (bytes : List ℕ) (block : IsField 1 (λ n. IsAmong n x.first.0 x.count) bytes) where
    abbrev block_word : List ℕ
    block_word = to_be_bytes w16 block.number

    abbrev its_block : BlockNo
    its_block = block_no block.number

    module _ (n : ℕ) (takes : n < x.activation) where
      module _ (i : Bool) (flag : IsFlag x (flag_field i)) (rest : List ℕ) (e : bytes ≡ block_word ++ n ∷ flag_field i ∷ rest) where
        sized : (k : IsField 2 (λ m. m ≤ takable_count app) rest) → StackFound app k.number k.rest → Found (1 ∷ bytes)
        sized k (inl h) =
            inl (
              OfTask (Live (live_val its_block n i h.0)),
              h.1,
              live_read app x s its_block block.may n takes i flag k.number h.0 bytes k.rest h.1 (size_next block_word bytes n (flag_field i) rest k.rest k.number e k.are) h.2,
            )
        sized k (inr bad) = inr (
          bad.0,
          resource_fault app x s its_block block.may n takes i flag k.number bytes k.rest bad.0 k.may (size_next block_word bytes n (flag_field i) rest k.rest k.number e k.are) bad.1,
        )

        flagged_found : FieldFound 2 (λ m. m ≤ takable_count app) rest → Found (1 ∷ bytes)
        flagged_found (inl k) = sized k (stack_found app k.number k.rest k.all)
        flagged_found (inr bad) = inr (bad.0, size_fault app x s its_block block.may n takes i flag bytes rest bad.0 e bad.1)

      counted_found : (rest : List ℕ) → bytes ≡ block_word ++ n ∷ rest → FieldFound 3 (IsFlag x) rest → Found (1 ∷ bytes)
      counted_found rest e (inl k) =
          let h = flag_read x k.number rest k.rest k.may k.are in
          flagged_found (k.number == 1) h.0 k.rest (flag_next block_word bytes n rest k.rest (flag_field (k.number == 1)) e h.1)
          (byte_found (λ m. m ≤ takable_count app) (λ m. decide_at_most m (takable_count app)) 2 refl k.rest k.all)
      counted_found rest e (inr bad) = inr (bad.0, inside_fault app x s its_block block.may n takes bytes rest bad.0 e bad.1)

    placed : FieldFound 2 (λ n. n < x.activation) block.rest → Found (1 ∷ bytes)
    placed (inl n) = counted_found n.number n.may n.rest (further_next block_word bytes block.rest n.rest n.number block.are n.are) (byte_found (IsFlag x) decide_flag 3 refl n.rest n.all)
    placed (inr bad) = inr (bad.0, further_fault app x s its_block block.may bytes block.rest bad.0 block.are bad.1)

  live_found : (bytes : List ℕ) → FieldFound 1 (λ n. IsAmong n x.first.0 x.count) bytes → Found (1 ∷ bytes)
  live_found bytes (inl block) = placed bytes block (byte_found (λ m. m < x.activation) (λ m. decide_less m x.activation) 2 refl block.rest block.all)
  live_found bytes (inr bad) = inr (bad.0, block_fault app x s bytes bad.0 bad.1)

  waiting_found : (bytes : List ℕ) → IsTrue x.waits → FieldFound 1 (IsWaitingAt app x.task.0) bytes → Found (2 ∷ bytes)
  waiting_found bytes waits (inl b) =
      let some = s.waits.0 waits in
      inl (OfTask (Waiting (block_no b.number)), b.rest, record { allowed = (s.waiting (block_no b.number)).0 (((s.waiting some.0).1 some.1).0, b.may); are = ap (λ (l : List ℕ). 2 ∷ l) b.are })
  waiting_found bytes waits (inr bad) = inr (bad.0, waiting_fault app x s bytes bad.0 waits bad.1)

  by_tag : (n : ℕ) (rest : List ℕ) → IsTag x n → AreBytes rest → Found (n ∷ rest)
  by_tag zero rest tag all = inl (OfTask Suspended, rest, record { allowed = s.suspended.0 tag; are = refl })
  by_tag (suc zero) rest tag all = live_found rest (word_found (λ n. IsAmong n x.first.0 x.count) decide_among rest all)
  by_tag (suc (suc zero)) rest tag all = waiting_found rest tag (word_found (IsWaitingAt app x.task.0) (decide_waiting app x.task s.known) rest all)
  by_tag (suc (suc (suc n))) rest tag all = absurd tag

  pub value_found : (bytes : List ℕ) → AreBytes bytes → Found bytes
  value_found bytes all = elim (byte_found (IsTag x) decide_tag 0 refl bytes all) [
    | inl n ↦ subst Found (sym n.are) (by_tag n.number n.rest n.may n.all)
    | inr bad ↦ inr (bad.0, tag_fault app x s bytes bad.0 bad.1)
  ]
