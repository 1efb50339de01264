-- Reading the blocks one after the other, with their sites beside them.
use Rattle.std.proofs.Common.{◌≡◌, ℕ, suc, ◌-◌, ◌+◌, ◌≤◌, ◌<◌, List, [], ◌∷◌, ◌++◌, length, map, Option, Ok, refl, sym, ap, subst, ◌∙◌, arith}
use Rattle.std.specs.List.{zip}
use Rattle.std.proofs.lemmas.List.{length_push}
use Rattle.osek_standard.specs.declared.block.Block.{Block}
use Rattle.osek_values.specs.declared.refused.Refused.{Refused}
use Rattle.image_fields.specs.declared.fault.Fault.{Fault}
use Rattle.image_model.specs.declared.{site.Site.{Site}, image.Version.{Version}}
use Rattle.image_fields.specs.{declared.parts.Tables.{Tables}, Reading.{Read, Fails, entries_at}, BlockReading.{block_at}}
use Rattle.image_fields.proofs.Loop.{goes_on, ends, is_done}

pub length-zip : {K X : Type 0} (ks : List K) (xs : List X) → length ks ≡ length xs → length (zip ks xs) ≡ length ks
length-zip [] xs e = refl
length-zip (k ∷ ks) [] e = absurd (omega arith)
length-zip (k ∷ ks) (x ∷ xs) e = ap suc (length-zip ks xs (omega arith))

zip_push : {K X : Type 0} (ks : List K) (xs : List X) (k : K) (x : X) → length ks ≡ length xs → zip (ks ++ k ∷ []) (xs ++ x ∷ []) ≡ zip ks xs ++ (k, x) ∷ []
zip_push [] [] k x e = refl
zip_push [] (y ∷ xs) k x e = absurd (omega arith)
zip_push (l ∷ ks) [] k x e = absurd (omega arith)
zip_push (l ∷ ks) (y ∷ xs) k x e = ap (λ zs. (l, y) ∷ zs) (zip_push ks xs k x (omega arith))

pub zip_firsts : {K X : Type 0} (ks : List K) (xs : List X) → length ks ≡ length xs → map (λ (p : K × X). p.0) (zip ks xs) ≡ ks
zip_firsts [] xs e = refl
zip_firsts (k ∷ ks) [] e = absurd (omega arith)
zip_firsts (k ∷ ks) (x ∷ xs) e = ap (λ zs. k ∷ zs) (zip_firsts ks xs (omega arith))

pub zip_seconds : {K X : Type 0} (ks : List K) (xs : List X) → length ks ≡ length xs → map (λ (p : K × X). p.1) (zip ks xs) ≡ xs
zip_seconds [] [] e = refl
zip_seconds [] (x ∷ xs) e = absurd (omega arith)
zip_seconds (k ∷ ks) [] e = absurd (omega arith)
zip_seconds (k ∷ ks) (x ∷ xs) e = ap (λ zs. x ∷ zs) (zip_seconds ks xs (omega arith))

abbrev Entry : Type 0
Entry = Block × Option Site

abbrev pub read_block : Version → Tables → ℕ → List Entry → List ℕ → Read Entry
read_block v t count earlier = block_at t count (length earlier) v

-- the first so many blocks, and what stands for each among the sites
pub record AreFirst (blocks : List Block) (sites : List (Option Site)) (n : ℕ) : Type 0 where
  pub block_count : length blocks ≡ n
  pub site_count : length sites ≡ n

module _ (v : Version) (t : Tables) (blocks : List Block) (sites : List (Option Site)) (total : Read (List Entry)) (count i : ℕ) (bytes : List ℕ) where
  pub block_ends : (e : Refused Fault) → AreFirst blocks sites i → i < count → Fails e (block_at t count i v bytes) → entries_at (read_block v t count) (zip blocks sites) (count - i) bytes ≡ total → Fails e total
  block_ends e first lt failed so_far =
      let len : length (zip blocks sites) ≡ i = length-zip blocks sites (first.block_count ∙ sym first.site_count) ∙ first.block_count in
      ends (read_block v t count) (zip blocks sites) total e count i bytes lt (subst (λ n. Fails e (block_at t count n v bytes)) (sym len) failed) so_far

  pub block_goes_on : (b : Block) (s : Option Site) (after : List ℕ) → AreFirst blocks sites i → i < count → block_at t count i v bytes ≡ Ok ((b, s), after)
      → entries_at (read_block v t count) (zip blocks sites) (count - i) bytes ≡ total → entries_at (read_block v t count) (zip (blocks ++ b ∷ []) (sites ++ s ∷ [])) (count - (i + 1)) after ≡ total
  block_goes_on b s after first lt read so_far =
      let same : length blocks ≡ length sites = first.block_count ∙ sym first.site_count in
      let len : length (zip blocks sites) ≡ i = length-zip blocks sites same ∙ first.block_count in
      ap (λ earlier. entries_at (read_block v t count) earlier (count - (i + 1)) after) (zip_push blocks sites b s same)
      ∙ goes_on (read_block v t count) (zip blocks sites) total count i bytes (b, s) after lt (ap (λ n. block_at t count n v bytes) len ∙ read) so_far

  pub block_done : count ≤ i → entries_at (read_block v t count) (zip blocks sites) (count - i) bytes ≡ total → total ≡ Ok (zip blocks sites, bytes)
  block_done le so_far = is_done (read_block v t count) (zip blocks sites) total count i bytes le so_far

pub one_more : (blocks : List Block) (sites : List (Option Site)) (i : ℕ) (more_blocks : List Block) (more_sites : List (Option Site)) (b : Block) (s : Option Site)
    → AreFirst blocks sites i → more_blocks ≡ blocks ++ b ∷ [] → more_sites ≡ sites ++ s ∷ [] → AreFirst more_blocks more_sites (i + 1)
one_more blocks sites i more_blocks more_sites b s first e f = record {
  block_count = ap length e ∙ length_push blocks b ∙ ap (λ n. n + 1) first.block_count;
  site_count = ap length f ∙ length_push sites s ∙ ap (λ n. n + 1) first.site_count;
}
