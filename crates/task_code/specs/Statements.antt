-- Lists of statements, as data: each list with the statements in it and the line of its closing brace.
use Rattle.std.specs.{Prelude.{◌≡◌, ◌==◌, ℕ, ◌+◌, List, [], ◌∷◌, if◌then◌else◌, refl}, Coded.{Coded, coded_ℕ, coded_list}}
use Rattle.std.proofs.Common.{sym, ap, ◌∙◌}
use base.Stored.{coded_via}
use Rattle.task_code.specs.declared.{call.Call.{Call}, tree.Condition.{Condition, TheVariants.{Choice, Always}}}
use Rattle.task_code.specs.Calls.{call_numbers, call_references, call_of, call_of-parts, flat, unflat, unflat-flat}

-- a list of statements: its first, with the lists in it, and behind it the next; or the closing brace. Lines are those
-- of `work`, `if`, `while`, a call's name and `}`.
pub data Statements : Type 0 where
  closed : (line : ℕ) → Statements
  work_then : (line count : ℕ) (next : Statements) → Statements
  if_then : (line : ℕ) (branch next : Statements) → Statements
  if_else_then : (line : ℕ) (branch otherwise next : Statements) → Statements
  while_then : (line : ℕ) (condition : Condition) (body next : Statements) → Statements
  call_then : (line : ℕ) (call : Call) (next : Statements) → Statements

-- the line of the closing brace
abbrev pub closing_line : Statements → ℕ
closing_line (closed line) = line
closing_line (work_then line count next) = closing_line next
closing_line (if_then line branch next) = closing_line next
closing_line (if_else_then line branch otherwise next) = closing_line next
closing_line (while_then line condition body next) = closing_line next
closing_line (call_then line call next) = closing_line next

-- how many statements there are, at all depths
abbrev pub nodes : Statements → ℕ
nodes (closed line) = 0
nodes (work_then line count next) = nodes next + 1
nodes (if_then line branch next) = nodes branch + nodes next + 1
nodes (if_else_then line branch otherwise next) = nodes branch + nodes otherwise + nodes next + 1
nodes (while_then line condition body next) = nodes body + nodes next + 1
nodes (call_then line call next) = nodes next + 1

-- By this spelling a proof tells two lists apart.
abbrev pub condition_number : Condition → ℕ
condition_number Choice = 0
condition_number Always = 1

abbrev pub condition_at : ℕ → Condition
condition_at n = if n == 0 then Choice else Always

pub condition_at-number : (c : Condition) → condition_at (condition_number c) ≡ c
condition_at-number Choice = refl
condition_at-number Always = refl

abbrev pub spell : Statements → List (List (List ℕ)) → List (List (List ℕ))
spell (closed line) rest = ([] ∷ (line ∷ []) ∷ []) ∷ rest
spell (work_then line count next) rest = ([] ∷ [] ∷ (line ∷ count ∷ []) ∷ []) ∷ spell next rest
spell (if_then line branch next) rest = ([] ∷ [] ∷ [] ∷ (line ∷ []) ∷ []) ∷ spell branch (spell next rest)
spell (if_else_then line branch otherwise next) rest = ([] ∷ [] ∷ [] ∷ [] ∷ (line ∷ []) ∷ []) ∷ spell branch (spell otherwise (spell next rest))
spell (while_then line condition body next) rest = ([] ∷ [] ∷ [] ∷ [] ∷ [] ∷ (line ∷ condition_number condition ∷ []) ∷ []) ∷ spell body (spell next rest)
spell (call_then line call next) rest = ([] ∷ [] ∷ [] ∷ [] ∷ [] ∷ [] ∷ (line ∷ call_numbers call) ∷ flat (call_references call)) ∷ spell next rest

pub spell-inj : (x y : Statements) (r s : List (List (List ℕ))) → spell x r ≡ spell y s → (x ≡ y) × (r ≡ s)
spell-inj (closed l) (closed l') r s e = (cc, cc)
spell-inj (work_then l v m) (work_then l' v' m') r s e =
    let lines : l ≡ l' = cc in
    let values : v ≡ v' = cc in
    let rest : spell m r ≡ spell m' s = cc in
    let next = spell-inj m m' r s rest in
    ((λ k. work_then (lines k) (values k) (next.0 k)), next.1)
spell-inj (if_then l a m) (if_then l' a' m') r s e =
    let lines : l ≡ l' = cc in
    let rest : spell a (spell m r) ≡ spell a' (spell m' s) = cc in
    let first = spell-inj a a' (spell m r) (spell m' s) rest in
    let next = spell-inj m m' r s first.1 in
    ((λ k. if_then (lines k) (first.0 k) (next.0 k)), next.1)
spell-inj (if_else_then l a b m) (if_else_then l' a' b' m') r s e =
    let lines : l ≡ l' = cc in
    let rest : spell a (spell b (spell m r)) ≡ spell a' (spell b' (spell m' s)) = cc in
    let first = spell-inj a a' (spell b (spell m r)) (spell b' (spell m' s)) rest in
    let second = spell-inj b b' (spell m r) (spell m' s) first.1 in
    let next = spell-inj m m' r s second.1 in
    ((λ k. if_else_then (lines k) (first.0 k) (second.0 k) (next.0 k)), next.1)
spell-inj (while_then l f a m) (while_then l' f' a' m') r s e =
    let lines : l ≡ l' = cc in
    let numbers : condition_number f ≡ condition_number f' = cc in
    let same : f ≡ f' = sym (condition_at-number f) ∙ ap condition_at numbers ∙ condition_at-number f' in
    let rest : spell a (spell m r) ≡ spell a' (spell m' s) = cc in
    let first = spell-inj a a' (spell m r) (spell m' s) rest in
    let next = spell-inj m m' r s first.1 in
    ((λ k. while_then (lines k) (same k) (first.0 k) (next.0 k)), next.1)
spell-inj (call_then l c m) (call_then l' c' m') r s e =
    let lines : l ≡ l' = cc in
    let numbers : call_numbers c ≡ call_numbers c' = cc in
    let flats : flat (call_references c) ≡ flat (call_references c') = cc in
    let references : call_references c ≡ call_references c' = sym (unflat-flat (call_references c)) ∙ ap unflat flats ∙ unflat-flat (call_references c') in
    let both : call_of (call_numbers c) (call_references c) ≡ call_of (call_numbers c') (call_references c') = λ i. call_of (numbers i) (references i) in
    let same : c ≡ c' = sym (call_of-parts c) ∙ both ∙ call_of-parts c' in
    let rest : spell m r ≡ spell m' s = cc in
    let next = spell-inj m m' r s rest in
    ((λ k. call_then (lines k) (same k) (next.0 k)), next.1)
spell-inj _ _ r s e = absurd cc

abbrev pub statements_code : Coded Statements
statements_code = coded_via (coded_list (coded_list (coded_list coded_ℕ))) (λ x. spell x []) (λ x y e. (spell-inj x y [] [] e).0)
