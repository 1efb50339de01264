-- A line without the first place of a task, by where that place is.
use Rattle.std.proofs.Common.{◌≡◌, ℕ, zero, suc, ◌<◌, Bool, true, false, cond, List, [], ◌∷◌, length, get_or, refl, ap, arith, Some, None, nat_eq, nat_lt}
use Rattle.std.proofs.lemmas.{Bool.{ltb-false}, List.{Sums.{fails_before_first}, Quantifiers.{position-Some}}}
use Rattle.std.specs.List.{position, position_or_len, remove}
use Rattle.osek_values.specs.{declared.numbers.TaskNo.{TaskNo}, Numbers.{task_no}, Line.{without_first}}

abbrev pub is_of : ℕ → TaskNo → Bool
is_of t n = nat_eq n.0 t

removed_at : (line : List TaskNo) (t k : ℕ) (d : TaskNo) → k < length line → is_of t (get_or line k d) ≡ true → ((j : ℕ) → j < k → is_of t (get_or line j d) ≡ false)
    → remove line k ≡ without_first line t
removed_at [] t k d below here before = absurd (omega (arith, below))
removed_at (n ∷ line) t zero d below here before = let e : nat_eq n.0 t ≡ true = here in rw e refl
removed_at (n ∷ line) t (suc k) d below here before =
    let e : nat_eq n.0 t ≡ false = before 0 (omega arith) in
    rw e (ap (λ (rest : List TaskNo). n ∷ rest) (removed_at line t k d (omega (arith, below)) here (λ j h. before (suc j) (omega (arith, h)))))

kept_whole : (line : List TaskNo) (t : ℕ) (d : TaskNo) → ((j : ℕ) → j < length line → is_of t (get_or line j d) ≡ false) → without_first line t ≡ line
kept_whole [] t d none = refl
kept_whole (n ∷ line) t d none =
    let e : nat_eq n.0 t ≡ false = none 0 (omega arith) in
    rw e (ap (λ (rest : List TaskNo). n ∷ rest) (kept_whole line t d (λ j h. none (suc j) (omega (arith, h)))))

-- the first place is taken out
pub without_place : (line : List TaskNo) (t k : ℕ) → position (is_of t) line ≡ Some k → remove line k ≡ without_first line t
without_place line t k e = let h = position-Some (is_of t) line k (task_no 0) e in removed_at line t k (task_no 0) h.0 h.1 h.2

none_by : (b : Bool) (n : ℕ) → cond b (Some n) None ≡ None → b ≡ false
none_by true n e = absurd (cc)
none_by false n e = refl

-- a line without a place of the task stays as it is
pub without_none : (line : List TaskNo) (t : ℕ) → position (is_of t) line ≡ None → without_first line t ≡ line
without_none line t e =
    let all = ltb-false (position_or_len (is_of t) line) (length line) (none_by (nat_lt (position_or_len (is_of t) line) (length line)) (position_or_len (is_of t) line) e) in
    kept_whole line t (task_no 0) (λ j h. fails_before_first (is_of t) line j (task_no 0) (omega (arith, h, all)))
