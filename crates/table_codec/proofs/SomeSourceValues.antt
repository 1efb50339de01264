-- Bytes begin with a value of a source, or have a value's fault.
use Rattle.std.proofs.Common.{◌≡◌, ℕ, zero, suc, ◌+◌, ◌≤◌, List, ◌∷◌, ◌++◌, refl, sym, subst, inl, inr, IsTrue}
use Rattle.std.specs.Int.{to_be_bytes, w16}
use Rattle.osek_values.specs.{declared.numbers.BlockNo.{BlockNo}, Numbers.{block_no}}
use Rattle.osek_standard.specs.{declared.app.App.{App}, Validity.{IsAmong}}
use Rattle.abstract_state.specs.{declared.value.PartValue.TheVariants.{OfSource}, Components.{routine_val}}
use Rattle.abstract_state.specs.declared.value.SourceVal.TheVariants as source_val
use Rattle.table_codec.specs.{declared.source_shape.SourceShape.{SourceShape}, SourceShapes.{IsSourceTag, IsSourceShape, shaped_source}}
use Rattle.table_codec.proofs.Decisions.{Decided, decide_less, decide_at_most, decide_both, decide_true, AreBytes, IsField, FieldFound, word_found, byte_found}
use Rattle.table_codec.proofs.{SomeValues.{StackFound, stack_found, ValueFound}, ValueReading.{further_next}, SourceReading.{tag_fault, block_fault, size_fault, resource_fault, routine_read}}

module _ (app : App) (x : SourceShape) (s : IsSourceShape app x) where
  abbrev Found : List ℕ → Type 0
  Found bytes = ValueFound app x.point (shaped_source x) bytes

  abbrev IsItsBlock : ℕ → Type 0
  IsItsBlock n = IsAmong n x.first.0 x.count

  decide_among : (n : ℕ) → Decided (IsItsBlock n)
  decide_among n = decide_both (decide_at_most x.first.0 n) (decide_less n (x.first.0 + x.count))

  decide_tag : (n : ℕ) → Decided (IsSourceTag x n)
  decide_tag zero = decide_true x.may_be_out
  decide_tag (suc zero) = decide_true x.may_be_in
  decide_tag (suc (suc n)) = inr (λ h. h)

  module _ (may : IsTrue x.may_be_in) (bytes : List ℕ) (block : IsField 1 IsItsBlock bytes) where
    abbrev its_block : BlockNo
    its_block = block_no block.number

    module _ (size : IsField 2 (λ m. m ≤ x.most) block.rest) where
      sized : bytes ≡ to_be_bytes w16 block.number ++ size.number ∷ size.rest
      sized = further_next (to_be_bytes w16 block.number) bytes block.rest size.rest size.number block.are size.are

      with_stack : StackFound app size.number size.rest → Found (1 ∷ bytes)
      with_stack (inl h) = inl (OfSource (source_val.In (routine_val its_block h.0)), h.1, routine_read app x s may its_block block.may size.number h.0 bytes size.rest h.1 size.may sized h.2)
      with_stack (inr bad) = inr (bad.0, resource_fault app x s may its_block block.may size.number bytes size.rest bad.0 size.may sized bad.1)

    placed : FieldFound 2 (λ m. m ≤ x.most) block.rest → Found (1 ∷ bytes)
    placed (inl size) = with_stack size (stack_found app size.number size.rest size.all)
    placed (inr bad) = inr (bad.0, size_fault app x s may its_block block.may bytes block.rest bad.0 block.are bad.1)

  routine_found : (bytes : List ℕ) → IsTrue x.may_be_in → FieldFound 1 IsItsBlock bytes → Found (1 ∷ bytes)
  routine_found bytes may (inl block) = placed may bytes block (byte_found (λ m. m ≤ x.most) (λ m. decide_at_most m x.most) 2 refl block.rest block.all)
  routine_found bytes may (inr bad) = inr (bad.0, block_fault app x s may bytes bad.0 bad.1)

  by_tag : (n : ℕ) (rest : List ℕ) → IsSourceTag x n → AreBytes rest → Found (n ∷ rest)
  by_tag zero rest tag all = inl (OfSource source_val.Out, rest, record { allowed = s.out.0 tag; are = refl })
  by_tag (suc zero) rest tag all = routine_found rest tag (word_found IsItsBlock decide_among rest all)
  by_tag (suc (suc n)) rest tag all = absurd tag

  pub source_value_found : (bytes : List ℕ) → AreBytes bytes → Found bytes
  source_value_found bytes all = elim (byte_found (IsSourceTag x) decide_tag 0 refl bytes all) [
    | inl n ↦ subst Found (sym n.are) (by_tag n.number n.rest n.may n.all)
    | inr bad ↦ inr (bad.0, tag_fault app x s bytes bad.0 bad.1)
  ]
