-- Entries that are each good beside the earlier ones, as facts on the whole list, and back.
use Rattle.std.proofs.Common.{◌≡◌, ℕ, ◌<◌, Bool, true, false, not, List, [], ◌∷◌, ◌++◌, length, map, get_or, All, refl, sym, ap, subst, ◌∙◌, append_assoc, arith}
use Rattle.std.specs.{List.{list_any, IsDistinct, AllByRecursion}, Str.{bytes_eq}}
use Rattle.std.proofs.lemmas.{Bool.{or_parts, or_from, not_from_false, not-true, and_parts, and_from}, List.{append-nil, length-append, get_or-map, length-map}}
use Rattle.std.proofs.{lemmas.List.Elements.{All-push, All-nil, All-get_or, All-map}, Math.Seq.{get_or-append_seam}}
use Rattle.osek_values.{specs.Names.{is_name, AreNames}, proofs.Lists.{none_distinct}}
use Rattle.image_codec.proofs.{Spells.{Each}}
use Rattle.image_fields.proofs.NameReading.{is_fresh}

-- ---- lists without repeats

none_ties : {K : Type 0} (e : K → K → Bool) (k y : K) (xs : List K) → AllByRecursion (λ z. e k z ≡ false) xs → e k y ≡ false → AllByRecursion (λ z. e k z ≡ false) (xs ++ y ∷ [])
none_ties e k y [] all one = (one, tt)
none_ties e k y (x ∷ xs) all one = (all.0, none_ties e k y xs all.1 one)

pub distinct_push : {K : Type 0} (e : K → K → Bool) (xs : List K) (y : K) → IsDistinct e xs → list_any (λ x. e x y) xs ≡ false → IsDistinct e (xs ++ y ∷ [])
unfolding IsDistinct
distinct_push e [] y d none = (tt, tt)
distinct_push e (x ∷ xs) y d none =
    let parts = or_parts (e x y) (list_any (λ z. e z y) xs) none in
    (none_ties e x y xs d.0 parts.0, distinct_push e xs y d.1 parts.1)

tie_of_later : {K : Type 0} (e : K → K → Bool) (k y : K) (xs ys : List K) → AllByRecursion (λ z. e k z ≡ false) (xs ++ y ∷ ys) → e k y ≡ false
tie_of_later e k y [] ys all = all.0
tie_of_later e k y (x ∷ xs) ys all = tie_of_later e k y xs ys all.1

pub distinct_before : {K : Type 0} (e : K → K → Bool) (xs : List K) (y : K) (ys : List K) → IsDistinct e (xs ++ y ∷ ys) → list_any (λ x. e x y) xs ≡ false
unfolding IsDistinct
distinct_before e [] y ys d = refl
distinct_before e (x ∷ xs) y ys d = or_from (e x y) (list_any (λ z. e z y) xs) (tie_of_later e x y xs ys d.0) (distinct_before e xs y ys d.1)

pub map_push : {X Y : Type 0} (f : X → Y) (xs : List X) (x : X) → map f (xs ++ x ∷ []) ≡ map f xs ++ f x ∷ []
map_push f [] x = refl
map_push f (y ∷ xs) x = ap (λ ys. f y ∷ ys) (map_push f xs x)

pub map_append : {X Y : Type 0} (f : X → Y) (xs ys : List X) → map f (xs ++ ys) ≡ map f xs ++ map f ys
map_append f [] ys = refl
map_append f (x ∷ xs) ys = ap (λ zs. f x ∷ zs) (map_append f xs ys)

module _ {X : Type 0} (Good : List X → X → Type 0) where
  -- a fact on each entry
  each_all_from : (P : X → Type 0) → ((e : List X) (x : X) → Good e x → P x) → (earlier more : List X) → All P earlier → Each Good earlier more → All P (earlier ++ more)
  each_all_from P gives earlier [] all good = subst (All P) (sym (append-nil earlier)) all
  each_all_from P gives earlier (x ∷ xs) all good =
      subst (All P) (append_assoc earlier (x ∷ []) xs)
      (each_all_from P gives (earlier ++ x ∷ []) xs (All-push P earlier x all (gives earlier x good.0)) good.1)

  pub each_all : (P : X → Type 0) → ((e : List X) (x : X) → Good e x → P x) → (xs : List X) → Each Good [] xs → All P xs
  each_all P gives xs good = each_all_from P gives [] xs (All-nil P) good

  -- no two tie, behind some that came before
  module _ {K : Type 0} (tie : K → K → Bool) (f : X → K) (before : List K) (gives : (e : List X) (x : X) → Good e x → list_any (λ k. tie k (f x)) (before ++ map f e) ≡ false) where
    each_distinct_from : (earlier more : List X) → IsDistinct tie (before ++ map f earlier) → Each Good earlier more → IsDistinct tie (before ++ map f (earlier ++ more))
    each_distinct_from earlier [] d good = subst (λ xs. IsDistinct tie (before ++ map f xs)) (sym (append-nil earlier)) d
    each_distinct_from earlier (x ∷ xs) d good =
        let pushed : IsDistinct tie ((before ++ map f earlier) ++ f x ∷ []) = distinct_push tie (before ++ map f earlier) (f x) d (gives earlier x good.0) in
        let same : (before ++ map f earlier) ++ f x ∷ [] ≡ before ++ map f (earlier ++ x ∷ []) = append_assoc before (map f earlier) (f x ∷ []) ∙ ap (λ ys. before ++ ys) (sym (map_push f earlier x)) in
        subst (λ ys. IsDistinct tie (before ++ map f ys)) (append_assoc earlier (x ∷ []) xs)
        (each_distinct_from (earlier ++ x ∷ []) xs (subst (IsDistinct tie) same pushed) good.1)

    pub each_distinct : (xs : List X) → IsDistinct tie before → Each Good [] xs → IsDistinct tie (before ++ map f xs)
    each_distinct xs d good = each_distinct_from [] xs (subst (IsDistinct tie) (sym (append-nil before)) d) good

  -- entries that are good at each place of the whole list
  each_of_from : (xs : List X) → ((e : List X) (x : X) (l : List X) → e ++ x ∷ l ≡ xs → Good e x) → (earlier more : List X) → earlier ++ more ≡ xs → Each Good earlier more
  each_of_from xs gives earlier [] e = tt
  each_of_from xs gives earlier (x ∷ more) e = (gives earlier x more e, each_of_from xs gives (earlier ++ x ∷ []) more (append_assoc earlier (x ∷ []) more ∙ e))

  pub each_of : (xs : List X) → ((e : List X) (x : X) (l : List X) → e ++ x ∷ l ≡ xs → Good e x) → Each Good [] xs
  each_of xs gives = each_of_from xs gives [] xs refl

-- what follows of each entry beside the earlier ones
pub each_weaker : {X : Type 0} (Good Good' : List X → X → Type 0) → ((e : List X) (x : X) → Good e x → Good' e x) → (earlier xs : List X) → Each Good earlier xs → Each Good' earlier xs
each_weaker Good Good' f earlier [] good = tt
each_weaker Good Good' f earlier (x ∷ xs) good = (f earlier x good.0, each_weaker Good Good' f (earlier ++ x ∷ []) xs good.1)

pub map_all : {X Y : Type 0} (P : Y → Type 0) (f : X → Y) (xs : List X) → All (λ x. P (f x)) xs → All P (map f xs)
map_all P f xs all = All-map P f xs all

pub all_map : {X Y : Type 0} (P : Y → Type 0) (f : X → Y) (xs : List X) → All P (map f xs) → All (λ x. P (f x)) xs
all_map P f xs all = λ k d lt.
    subst P (get_or-map f xs k d (f d) lt) (all k (f d) (omega (arith, length-map xs f)))

-- an entry of the whole list
pub here_of_all : {X : Type 0} (P : X → Type 0) (xs e : List X) (x : X) (l : List X) → e ++ x ∷ l ≡ xs → All P xs → P x
here_of_all P xs e x l same all =
    let within : length e < length xs = omega (arith, length-append e (x ∷ l), ap length same) in
    let item : get_or xs (length e) x ≡ x = ap (λ ys. get_or ys (length e) x) (sym same) ∙ get_or-append_seam e x l x in
    subst P item (All-get_or P xs (length e) x within all)

regroup : {K : Type 0} (a b c d : List K) → (a ++ (b ++ c)) ++ d ≡ (a ++ b) ++ (c ++ d)
regroup a b c d = simp append_assoc

pub here_distinct : {X K : Type 0} (tie : K → K → Bool) (f : X → K) (before : List K) (after : List K) (xs e : List X) (x : X) (l : List X) → e ++ x ∷ l ≡ xs → IsDistinct tie ((before ++ map f xs) ++ after) → list_any (λ k. tie k (f x)) (before ++ map f e) ≡ false
here_distinct tie f before after xs e x l same d =
    let split : (before ++ map f xs) ++ after ≡ (before ++ map f e) ++ f x ∷ (map f l ++ after) =
    ap (λ ys. (before ++ map f ys) ++ after) (sym same) ∙ ap (λ ks. (before ++ ks) ++ after) (map_append f e (x ∷ l))
    ∙ regroup before (map f e) (f x ∷ map f l) after in
    distinct_before tie (before ++ map f e) (f x) (map f l ++ after) (subst (IsDistinct tie) split d)

-- ---- names

module _ {X : Type 0} (Good : List X → X → Type 0) (name : X → List ℕ) (fresh : (e : List X) (x : X) → Good e x → is_fresh (map name e) (name x) ≡ true) where
  pub each_named : (xs : List X) → Each Good [] xs → AreNames (map name xs)
  each_named xs good = record {
    each = map_all (λ n. is_name n ≡ true) name xs (each_all Good (λ x. is_name (name x) ≡ true) (λ e x g. (and_parts (is_name (name x)) (not (list_any (λ m. bytes_eq m (name x)) (map name e))) (fresh e x g)).0) xs good);
    distinct = each_distinct Good bytes_eq name [] (λ e x g. not-true (list_any (λ m. bytes_eq m (name x)) (map name e)) (and_parts (is_name (name x)) (not (list_any (λ m. bytes_eq m (name x)) (map name e))) (fresh e x g)).1) xs (none_distinct bytes_eq) good;
  }

pub here_fresh : {X : Type 0} (name : X → List ℕ) (xs e : List X) (x : X) (l : List X) → e ++ x ∷ l ≡ xs → AreNames (map name xs) → is_fresh (map name e) (name x) ≡ true
here_fresh name xs e x l same names =
    let named : is_name (name x) ≡ true = here_of_all (λ y. is_name (name y) ≡ true) xs e x l same (all_map (λ n. is_name n ≡ true) name xs names.each) in
    let apart : list_any (λ m. bytes_eq m (name x)) (map name e) ≡ false = here_distinct bytes_eq name [] [] xs e x l same (subst (IsDistinct bytes_eq) (sym (append-nil (map name xs))) names.distinct) in
    and_from (is_name (name x)) _ named (not_from_false (list_any (λ m. bytes_eq m (name x)) (map name e)) apart)
