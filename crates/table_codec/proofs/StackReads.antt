-- A stack that is read resource by resource.
use Rattle.std.proofs.{Common.{◌≡◌, ℕ, ◌+◌, ◌<◌, List, [], ◌∷◌, ◌++◌, length, refl, sym, ap, subst, ◌∙◌, arith, append_assoc}, lemmas.List.{length_push}}
use Rattle.osek_values.specs.{Numbers.{res_no}, declared.numbers.ResNo.{ResNo}}
use Rattle.osek_standard.specs.{declared.app.App.{App}, Well.{IsStack}}
use Rattle.table_codec.specs.{declared.fault.Fault.{Fault}, Spelling.{resource_numbers}, Faults.{IsFieldFault}, Values.{IsReadStack, IsStackFault}}
use Rattle.table_codec.proofs.{StackEnds.{empty_stack}, ValueReading.{numbers_join}}

module _ (app : App) (bytes : List ℕ) where
  pub record IsStackSoFar (count : ℕ) (held : List ResNo) (rest : List ℕ) : Type 0 where
    pub stack : IsStack app held
    pub size : length held ≡ count
    pub are : bytes ≡ resource_numbers held ++ rest

  pub none_read : (held : List ResNo) → held ≡ [] → IsStackSoFar 0 held bytes
  none_read held e = subst (λ (h : List ResNo). IsStackSoFar 0 h bytes) (sym e) (record { stack = empty_stack app; size = refl; are = refl })

  module _ (count : ℕ) (held : List ResNo) (rest : List ℕ) (h : IsStackSoFar count held rest) where
    pub one_read : (r : ResNo) (more : List ResNo) (after : List ℕ) → IsStack app (held ++ r ∷ []) → rest ≡ r.0 ∷ after → more ≡ held ++ r ∷ [] → IsStackSoFar (count + 1) more after
    one_read r more after stack d e =
        subst (λ (rs : List ResNo). IsStackSoFar (count + 1) rs after) (sym e) (record {
          stack = stack;
          size = omega (arith, length_push held r, h.size);
          are =
              h.are ∙ ap (λ (l : List ℕ). resource_numbers held ++ l) d ∙ sym (append_assoc (resource_numbers held) (r.0 ∷ []) after)
              ∙ ap (λ (l : List ℕ). l ++ after) (sym (numbers_join held (r ∷ [])));
        })

    pub bad_resource : (size : ℕ) (f : Fault) → count < size → IsFieldFault 5 (λ n. IsStack app (held ++ res_no n ∷ [])) rest f → IsStackFault app size bytes f
    bad_resource size f less bad = record { held = held; rest = rest; stack = h.stack; few = omega (arith, less, h.size); are = h.are; next = bad }

    pub stack_read : (size : ℕ) → size ≡ count → IsReadStack app size bytes rest held
    stack_read size e = record { stack = h.stack; as_many = h.size ∙ sym e; are = h.are }
