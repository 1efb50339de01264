-- The number of a name among distinct names.
use Rattle.std.proofs.Common.{◌≡◌, ℕ, ◌+◌, ◌<◌, Bool, false, cond, List, [], ◌∷◌, ◌++◌, length, get_or, map, take, drop, refl, sym, ap, ◌∙◌, subst}
use Rattle.std.specs.{Prelude.{Some, None, not, ◌||◌, if◌then◌else◌, nat_lt, position}, Borrow.{Bor}, Cmp.{IsEquivalence}}
use Rattle.std.specs.{List.{AllByRecursion, IsDistinct, list_any, position_or_len}, Str.{bytes_eq}}
use Rattle.std.proofs.lemmas.{List.{drop_more, length-map, map-append, take-append-drop, take_more}, Cmp.{nat_list_eq_equiv}, Map.Keys.{IsDistinct-head, IsDistinct-tail}}
use Rattle.block_graph.specs.Names.{plain}

-- ---- by a number of what has the name

place_map : {X Y : Type 0} (p : Y → Bool) (f : X → Y) (xs : List X) → position_or_len p (map f xs) ≡ position_or_len (λ (x : X). p (f x)) xs
place_map p f [] = refl
place_map p f (x ∷ xs) = ap (λ (n : ℕ). if not (p (f x)) then 1 + n else 0) (place_map p f xs)

pub position_map : {X Y : Type 0} (p : Y → Bool) (f : X → Y) (xs : List X) → position p (map f xs) ≡ position (λ (x : X). p (f x)) xs
position_map p f xs = λ i. cond (nat_lt (place_map p f xs i) (length-map xs f i)) (Some (place_map p f xs i)) None

pub found : {X : Type 0} (name : X → List ℕ) (objects : List X) (names : List (Bor (List ℕ))) (asked wanted : List ℕ) → plain names ≡ map name objects → asked ≡ wanted
    → position (bytes_eq asked) (plain names) ≡ position (λ (x : X). bytes_eq wanted (name x)) objects
found name objects names asked wanted are same = (λ i. position (bytes_eq (same i)) (are i)) ∙ position_map (bytes_eq wanted) name objects

-- ---- one name more

module _ {K : Type 0} (eq : K → K → Bool) (laws : IsEquivalence eq) where
  of_rest : (y x : K) (before rest : List K) → AllByRecursion (λ (z : K). eq y z ≡ false) (before ++ x ∷ rest) → eq y x ≡ false
  of_rest y x [] rest h = h.0
  of_rest y x (z ∷ before) rest h = of_rest y x before rest h.1

  -- of distinct names none stands before itself
  pub new_key : (before rest : List K) (x : K) → IsDistinct eq (before ++ x ∷ rest) → list_any (eq x) before ≡ false
  new_key [] rest x d = refl
  new_key (y ∷ before) rest x d =
      let other : eq x y ≡ false = laws.symm x y ∙ of_rest y x before rest (IsDistinct-head eq y (before ++ x ∷ rest) d) in
      ap (λ (b : Bool). b || list_any (eq x) before) other ∙ new_key before rest x (IsDistinct-tail eq y (before ++ x ∷ rest) d)

any_plain : (n : List ℕ) (keys : List (Bor (List ℕ))) → list_any (λ (k : Bor (List ℕ)). bytes_eq n k.now) keys ≡ list_any (bytes_eq n) (plain keys)
any_plain n [] = refl
any_plain n (k ∷ keys) = ap (λ (b : Bool). bytes_eq n k.now || b) (any_plain n keys)

plain_push : (keys : List (Bor (List ℕ))) (k : Bor (List ℕ)) → plain (keys ++ k ∷ []) ≡ plain keys ++ k.now ∷ []
plain_push [] k = refl
plain_push (x ∷ keys) k = ap (λ (names : List (List ℕ)). x.now ∷ names) (plain_push keys k)

-- the keys behind an insertion of a name that isn't among them
pub inserted : (keys new : List (Bor (List ℕ))) (k : Bor (List ℕ)) → new ≡ (if list_any (λ (x : Bor (List ℕ)). bytes_eq k.now x.now) keys then keys else keys ++ k ∷ []) → list_any (bytes_eq k.now) (plain keys) ≡ false → plain new ≡ plain keys ++ k.now ∷ []
inserted keys new k is fresh =
    ap plain (is ∙ ap (λ (b : Bool). if b then keys else keys ++ k ∷ []) (any_plain k.now keys ∙ fresh)) ∙ plain_push keys k

module _ {X : Type 0} (name : X → List ℕ) (objects : List X) (i : ℕ) (x : X) (h : i < length objects) (is : x ≡ get_or objects i x) where
  parted : objects ≡ take i objects ++ x ∷ drop (i + 1) objects
  parted = sym (take-append-drop i objects) ∙ ap (λ (ys : List X). take i objects ++ ys) (drop_more objects i x h ∙ ap (λ (y : X). y ∷ drop (i + 1) objects) (sym is))

  -- the next of distinct names is new
  fresh : IsDistinct bytes_eq (map name objects) → list_any (bytes_eq (name x)) (map name (take i objects)) ≡ false
  fresh d =
      let names : map name objects ≡ map name (take i objects) ++ name x ∷ map name (drop (i + 1) objects) = ap (map name) parted ∙ map-append name (take i objects) (x ∷ drop (i + 1) objects) in
      new_key bytes_eq nat_list_eq_equiv (map name (take i objects)) (map name (drop (i + 1) objects)) (name x) (subst (IsDistinct bytes_eq) names d)

  pub one_more : IsDistinct bytes_eq (map name objects) → (keys new : List (Bor (List ℕ))) (k : Bor (List ℕ)) → k.now ≡ name x → plain keys ≡ map name (take i objects)
      → new ≡ (if list_any (λ (y : Bor (List ℕ)). bytes_eq k.now y.now) keys then keys else keys ++ k ∷ []) → plain new ≡ map name (take (i + 1) objects)
  one_more d keys new k named so_far made =
      let missing : list_any (bytes_eq k.now) (plain keys) ≡ false = (λ j. list_any (bytes_eq (named j)) (so_far j)) ∙ fresh d in
      let last : take (i + 1) objects ≡ take i objects ++ x ∷ [] = take_more objects i x h ∙ ap (λ (y : X). take i objects ++ y ∷ []) (sym is) in
      inserted keys new k made missing
      ∙ (λ j. so_far j ++ named j ∷ [])
      ∙ sym (map-append name (take i objects) (x ∷ []))
      ∙ ap (map name) (sym last)
