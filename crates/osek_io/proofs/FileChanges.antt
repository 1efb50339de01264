-- Changes to the files that a shelf tells, one after the other.
use Rattle.std.proofs.Common.{◌≡◌, ℕ, Bool, true, false, cond, List, [], ◌++◌, Option, Some, None, refl, sym, ap, ◌∙◌, subst, unwrap_or}
use Rattle.std.specs.{Ordering.{nat_cmp, eq_by_cmp}, Cmp.{eq_by_cmp_equiv, Lexicographic.{slice_cmp, nat_list_cmp_total}}}
use Rattle.std.specs.{FinMap.{get, insert, get-insert, same_map, slice_cmp-IsAntisymmetric, nat_cmp-IsAntisymmetric}, Str.{bytes_eq}}
use Rattle.std.proofs.lemmas.{Map.Text.{is_eq-slice_cmp}, Slice.Eq.{bytes_eq-Decides}}
use Rattle.osek_io.specs.Files.{Files, IsMissing, with_file, with_more, KeepsOthers}

-- a name ties with itself
same_name : (name : List ℕ) → eq_by_cmp (slice_cmp nat_cmp) name name ≡ true
same_name name = (eq_by_cmp_equiv nat_list_cmp_total).refl name

twice : (b : Bool) (x y : Option (List ℕ)) (z : Option (List ℕ)) → cond b x (cond b y z) ≡ cond b x z
twice true x y z = refl
twice false x y z = refl

insert-insert : (files : Files) (name a b : List ℕ) → insert (insert files name a) name b ≡ insert files name b
insert-insert files name a b =
    same_map nat_list_cmp_total (slice_cmp-IsAntisymmetric nat_cmp-IsAntisymmetric) _ _
    (λ q. get-insert nat_list_cmp_total (insert files name a) name b q
    ∙ ap (cond (eq_by_cmp (slice_cmp nat_cmp) q name) (Some b)) (get-insert nat_list_cmp_total files name a q)
    ∙ twice (eq_by_cmp (slice_cmp nat_cmp) q name) (Some b) (Some a) (get files q)
    ∙ sym (get-insert nat_list_cmp_total files name b q))

get-same : (files : Files) (name a : List ℕ) → get (insert files name a) name ≡ Some a
get-same files name a = get-insert nat_list_cmp_total files name a name ∙ ap (λ b. cond b (Some a) (get files name)) (same_name name)

-- more bytes for a name that was just set
pub with_more-with_file : (c : Option Files) (name a b : List ℕ) → with_more (with_file c name a) name b ≡ with_file c name (a ++ b)
with_more-with_file None name a b = refl
with_more-with_file (Some files) name a b =
    ap (λ o. Some (insert (insert files name a) name (unwrap_or o [] ++ b))) (get-same files name a) ∙ ap Some (insert-insert files name a (a ++ b))

-- it is there
pub with_file-there : (c : Option Files) (name a : List ℕ) → IsMissing (with_file c name a) name → ⊥
with_file-there None name a h = h
with_file-there (Some files) name a h = absurd (let e = sym (get-same files name a) ∙ h in cc)

-- names that differ
other_name : (other name : List ℕ) → (other ≡ name → ⊥) → bytes_eq other name ≡ false
other_name other name apart =
    elim (bytes_eq other name) as (λ b. bytes_eq other name ≡ b → b ≡ false) [
      | true ↦ λ e. absurd (apart ((bytes_eq-Decides other name).0 e))
      | false ↦ λ _. refl
    ] refl

-- another name's file
pub with_file-others : (c : Option Files) (name bytes : List ℕ) → KeepsOthers c (with_file c name bytes) name
with_file-others None name bytes = tt
with_file-others (Some files) name bytes = λ other apart.
    get-insert nat_list_cmp_total files name bytes other
    ∙ ap (λ b. cond b (Some bytes) (get files other)) (is_eq-slice_cmp other name ∙ other_name other name apart)

pub stored-others : (c d : Option Files) (name bytes : List ℕ) → d ≡ with_file c name bytes → KeepsOthers c d name
stored-others c d name bytes e = subst (λ (x : Option Files). KeepsOthers c x name) (sym e) (with_file-others c name bytes)
