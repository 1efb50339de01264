-- The highest of ceilings: of one resource with others, and one resource more.
use Rattle.std.proofs.Common.{◌≡◌, ℕ, ◌+◌, ◌<◌, max, List, [], length, drop, get_or, add-one, drop-cons, refl, Some, None}
use Rattle.std.specs.{List.{cons_option}, declared.option.Option.{Option}}
use Rattle.osek_values.specs.{Numbers.{res_no}, declared.numbers.ResNo.{ResNo}}
use Rattle.osek_standard.specs.{declared.app.App.{App}, Priority.{ceiling, highest}, Levels.{interrupt_ceiling, highest_level}}

module _ (app : App) where
  pub highest_of_both : (base : ℕ) (o : Option ResNo) (h : List ResNo) → highest app (highest app base (cons_option o [])) h ≡ highest app base (cons_option o h)
  unfolding highest
  highest_of_both base None h = refl
  highest_of_both base (Some r) h = refl

  pub level_of_both : (level : ℕ) (o : Option ResNo) (h : List ResNo) → highest_level app (highest_level app level (cons_option o [])) h ≡ highest_level app level (cons_option o h)
  unfolding highest_level
  level_of_both level None h = refl
  level_of_both level (Some r) h = refl

  module _ (p q i : ℕ) (xs : List ResNo) (whole : ℕ) (here : i < length xs) where
    pub next_highest : highest app p (drop i xs) ≡ whole → q ≡ max p (ceiling app (get_or xs i (res_no 0)).0) → highest app q (drop (i + 1) xs) ≡ whole
    unfolding highest
    next_highest h e = let left = rw (drop-cons xs i (res_no 0)) at h in rw (add-one, e) left

    pub next_level : highest_level app p (drop i xs) ≡ whole → q ≡ max p (interrupt_ceiling app (get_or xs i (res_no 0)).0) → highest_level app q (drop (i + 1) xs) ≡ whole
    unfolding highest_level
    next_level h e = let left = rw (drop-cons xs i (res_no 0)) at h in rw (add-one, e) left
